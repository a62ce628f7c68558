-- The entries of deeds in two parts.
use Rattle.std.proofs.Common.{◌≡◌, List, [], ◌∷◌, ◌++◌, refl, sym, ◌∙◌, ap, append_assoc}
use Rattle.etx_outside.specs.Entries.{History}
use Rattle.etx_settle.specs.Deeds.{PenState, deed_entries, pen_after, entries, pen_after_all}
use Rattle.etx_matter.specs.declared.deed.Deed.{Deed}

pub pen_after_all-append : (p : PenState) (xs ys : List Deed) → pen_after_all p (xs ++ ys) ≡ pen_after_all (pen_after_all p xs) ys
pen_after_all-append p [] ys = refl
pen_after_all-append p (x ∷ xs) ys = pen_after_all-append (pen_after p x) xs ys

pub entries-append : (p : PenState) (xs ys : List Deed) → entries p (xs ++ ys) ≡ entries p xs ++ entries (pen_after_all p xs) ys
entries-append p [] ys = refl
entries-append p (x ∷ xs) ys = ap (λ (h : History). deed_entries p x ++ h) (entries-append (pen_after p x) xs ys) ∙ sym (append_assoc (deed_entries p x) (entries (pen_after p x) xs) (entries (pen_after_all (pen_after p x) xs) ys))
