-- A stack that stands the other way round in a list: its innermost level is the list's last.
use Rattle.std.proofs.Common.{◌≡◌, ◌<◌, ℕ, ℤ, suc, List, [], ◌∷◌, length, get_or, set, take, reverse, refl, sym, ap, ◌∙◌, arith}
use Rattle.std.proofs.Math.Seq.{take-suc, take-suc-set, take-length}
use Rattle.std.proofs.Math.ListN.{length-set}
use Rattle.std.proofs.lemmas.List.{reverse-append}
use Rattle.etx_input.specs.declared.level.Level.{Level}
use Rattle.etx_input.specs.declared.level.Level.TheVariants as level
use Rattle.etx_input.specs.Files.{FileState}
use Rattle.etx_input.specs.Lists.{ListState}
use Rattle.etx_input.specs.Gifts.{level_behind, behind_gift}
use Rattle.etx_input.specs.Levels.{line_in}

-- the item at n is the innermost of the first n + 1
pub innermost : (xs : List Level) (n : ℕ) (d : Level) → n < length xs → reverse (take (suc n) xs) ≡ get_or xs n d ∷ reverse (take n xs)
innermost xs n d within = ap (reverse {A = Level}) (take-suc xs n d within) ∙ reverse-append (take n xs) (get_or xs n d ∷ [])

-- all of a list
whole : (xs : List Level) (n : ℕ) → suc n ≡ length xs → reverse (take (suc n) xs) ≡ reverse xs
whole xs n all = ap (λ (k : ℕ). reverse (take k xs)) all ∙ ap (reverse {A = Level}) (take-length xs)

-- the last item is the innermost
pub all-but-last : (xs : List Level) (n : ℕ) (d : Level) → suc n ≡ length xs → reverse xs ≡ get_or xs n d ∷ reverse (take n xs)
all-but-last xs n d all = sym (whole xs n all) ∙ innermost xs n d (omega (arith, all))

-- the last item is changed
pub changed : (xs : List Level) (n : ℕ) (new : Level) → suc n ≡ length xs → reverse (set xs n new) ≡ new ∷ reverse (take n xs)
changed xs n new all =
    sym (whole (set xs n new) n (all ∙ sym (length-set xs n new)))
    ∙ ap (reverse {A = Level}) (take-suc-set xs n new (omega (arith, all)))
    ∙ reverse-append (take n xs) (new ∷ [])

-- the innermost level is what is left of it behind what it gave
pub behind-changed : (cats : ℕ → ℕ) (endline : ℤ) (xs : List Level) (n : ℕ) (old new : Level) → suc n ≡ length xs → old ≡ get_or xs n old → new ≡ level_behind cats endline old → reverse (set xs n new) ≡ behind_gift cats endline (reverse xs)
behind-changed cats endline xs n old new all is behind =
    changed xs n new all
    ∙ ap (λ (l : Level). l ∷ reverse (take n xs)) (behind ∙ ap (level_behind cats endline) is)
    ∙ ap (behind_gift cats endline) (sym (innermost xs n old (omega (arith, all))) ∙ whole xs n all)

-- the innermost level of the first n is a file
pub line-file : (xs : List Level) (n : ℕ) (left : ℕ) (l : Level) (file : FileState) → n < length xs → l ≡ get_or xs n l → l ≡ level.File file → line_in (reverse (take (suc n) xs)) left ≡ file.number
line-file xs n left l file within is is_file =
    ap (λ (ls : List Level). line_in ls left) (innermost xs n l within)
    ∙ ap (λ (k : Level). line_in (k ∷ reverse (take n xs)) left) (sym is ∙ is_file)

-- the innermost level of the first n is a list
pub line-list : (xs : List Level) (n : ℕ) (left : ℕ) (l : Level) (list : ListState) → n < length xs → l ≡ get_or xs n l → l ≡ level.List list → line_in (reverse (take (suc n) xs)) left ≡ line_in (reverse (take n xs)) left
line-list xs n left l list within is is_list =
    ap (λ (ls : List Level). line_in ls left) (innermost xs n l within)
    ∙ ap (λ (k : Level). line_in (k ∷ reverse (take n xs)) left) (sym is ∙ is_list)
