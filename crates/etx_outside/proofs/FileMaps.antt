-- Files in memory: a list of them as a map, and a map as what each name's file holds.
use Rattle.std.proofs.Common.{◌≡◌, ◌≢◌, ℕ, zero, suc, List, [], ◌∷◌, ◌++◌, get_or, set, map, Option, Some, None, IsSome, unwrap_or, Bool, true, false, cond, refl, sym, ◌∙◌, ap, subst, inl, inr, arith}
use Rattle.std.proofs.lemmas.Bool.{cases_Bool}
use Rattle.std.proofs.lemmas.List.{map-append}
use Rattle.std.proofs.lemmas.Slice.Eq.{bytes_eq-Decides}
use Rattle.std.specs.List.{All}
use Rattle.std.specs.Ordering.{nat_cmp, eq_by_cmp}
use Rattle.std.specs.Cmp.{unsigned_ties}
use Rattle.std.specs.Cmp.Lexicographic.{slice_cmp, lists_ties, nat_list_cmp_total}
use Rattle.std.specs.FinMap.{find, get-insert, get-from_entries, from_entries_push, same_map, slice_cmp-IsAntisymmetric, nat_cmp-IsAntisymmetric}
use Rattle.etx_outside.specs.Entries.{put, files_after, bytes_to}
use Rattle.etx_outside.specs.Memory.{FileMap, file_at, file_map, with_file, with_more, with_all, IsFirstNamed}
use Rattle.etx_outside.proofs.Put.{same, grown}

abbrev File : Type 0
File = List ℕ × List ℕ

abbrev tied : List ℕ → List ℕ → Bool
tied q name = eq_by_cmp (slice_cmp nat_cmp) q name

tied-same : (q name : List ℕ) → tied q name ≡ same q name
tied-same q name = sym (lists_ties nat_cmp unsigned_ties q name)

tied_equal : (q name : List ℕ) → q ≡ name → tied q name ≡ true
tied_equal q name is = tied-same q name ∙ (bytes_eq-Decides q name).1 is

tied_other : (q name : List ℕ) → q ≢ name → tied q name ≡ false
tied_other q name other = elim (cases_Bool (tied q name)) [
  | inl equal ↦ absurd (other ((bytes_eq-Decides q name).0 (sym (tied-same q name) ∙ equal)))
  | inr other_name ↦ other_name
]

-- two names that tie with a third are one
tied_both : (q k name : List ℕ) → tied q k ≡ true → tied q name ≡ true → k ≡ name
tied_both q k name first second =
    sym ((bytes_eq-Decides q k).0 (sym (tied-same q k) ∙ first)) ∙ (bytes_eq-Decides q name).0 (sym (tied-same q name) ∙ second)

-- no file has the name
pub find_none : (files : List File) (name : List ℕ) → All (λ f. f.0 ≢ name) files → find (slice_cmp nat_cmp) name files ≡ None
find_none [] name none = refl
find_none (f ∷ fs) name none =
    ap (λ b. cond b (Some f.1) (find (slice_cmp nat_cmp) name fs)) (tied_other name f.0 (λ is. none 0 f (omega arith) (sym is)))
    ∙ find_none fs name (λ k d within. none (suc k) d (omega arith))

later : (f : File) (fs : List File) (name : List ℕ) (i : ℕ) → IsFirstNamed name (f ∷ fs) (suc i) → IsFirstNamed name fs i
later f fs name i first = record {
  within = omega (arith, first.within);
  named = first.named;
  others = λ k d before. first.others (suc k) d (omega arith);
}

-- the first file of the name is the one that counts
pub find_first : (files : List File) (name : List ℕ) (i : ℕ) (d : File) → IsFirstNamed name files i → find (slice_cmp nat_cmp) name files ≡ Some (get_or files i d).1
find_first [] name i d first = absurd (omega (arith, first.within))
find_first (f ∷ fs) name zero d first =
    ap (λ b. cond b (Some f.1) (find (slice_cmp nat_cmp) name fs)) (tied_equal name f.0 (sym (first.named d)))
find_first (f ∷ fs) name (suc i) d first =
    ap (λ b. cond b (Some f.1) (find (slice_cmp nat_cmp) name fs)) (tied_other name f.0 (λ is. first.others 0 d (omega arith) (sym is)))
    ∙ find_first fs name i d (later f fs name i first)

shadowed : (a b : Bool) (x y : List ℕ) (z : Option (List ℕ)) → a ≡ b → cond a (Some x) z ≡ cond b (Some x) (cond a (Some y) z)
shadowed true true x y z e = refl
shadowed true false x y z e = cc
shadowed false true x y z e = cc
shadowed false false x y z e = refl

apart : (a b : Bool) (x y : List ℕ) (z : Option (List ℕ)) → (a ≡ true → b ≡ true → ⊥) → cond a (Some x) (cond b (Some y) z) ≡ cond b (Some y) (cond a (Some x) z)
apart true true x y z other = absurd (other refl refl)
apart true false x y z other = refl
apart false true x y z other = refl
apart false false x y z other = refl

-- the first file of the name, written again
pub find-set : (q : List ℕ) (files : List File) (name : List ℕ) (i : ℕ) (key new : List ℕ) → key ≡ name → IsFirstNamed name files i
    → find (slice_cmp nat_cmp) q (set files i (key, new)) ≡ cond (tied q name) (Some new) (find (slice_cmp nat_cmp) q files)
find-set q [] name i key new is first = absurd (omega (arith, first.within))
find-set q (f ∷ fs) name zero key new is first =
    let own : f.0 ≡ name = first.named f in
    ap (λ (n : List ℕ). cond (tied q n) (Some new) (find (slice_cmp nat_cmp) q fs)) (is ∙ sym own)
    ∙ shadowed (tied q f.0) (tied q name) new f.1 (find (slice_cmp nat_cmp) q fs) (ap (tied q) own)
find-set q (f ∷ fs) name (suc i) key new is first =
    ap (λ o. cond (tied q f.0) (Some f.1) o) (find-set q fs name i key new is (later f fs name i first))
    ∙ apart (tied q f.0) (tied q name) f.1 new (find (slice_cmp nat_cmp) q fs) (λ a b. first.others 0 f (omega arith) (tied_both q f.0 name a b))

-- a file in place of that of its name
pub file_map-set : (files : List File) (name : List ℕ) (i : ℕ) (key new : List ℕ) → key ≡ name → IsFirstNamed name files i → file_map (set files i (key, new)) ≡ with_file name new (file_map files)
file_map-set files name i key new is first =
    same_map nat_list_cmp_total (slice_cmp-IsAntisymmetric nat_cmp-IsAntisymmetric) _ _
    (λ q. get-from_entries nat_list_cmp_total (set files i (key, new)) q ∙ find-set q files name i key new is first
    ∙ ap (cond (tied q name) (Some new)) (sym (get-from_entries nat_list_cmp_total files q))
    ∙ sym (get-insert nat_list_cmp_total (file_map files) name new q))

-- a file of a new name
pub file_map_push : (files : List File) (name bytes : List ℕ) → All (λ f. f.0 ≢ name) files → file_map (files ++ (name, bytes) ∷ []) ≡ with_file name bytes (file_map files)
file_map_push files name bytes none = from_entries_push nat_list_cmp_total (slice_cmp-IsAntisymmetric nat_cmp-IsAntisymmetric) files name bytes (find_none files name none)

pub file_at_none : (files : List File) (name : List ℕ) → All (λ f. f.0 ≢ name) files → file_at (file_map files) name ≡ None
file_at_none files name none = get-from_entries nat_list_cmp_total files name ∙ find_none files name none

pub file_at_first : (files : List File) (name : List ℕ) (i : ℕ) (d : File) → IsFirstNamed name files i → file_at (file_map files) name ≡ Some (get_or files i d).1
file_at_first files name i d first = get-from_entries nat_list_cmp_total files name ∙ find_first files name i d first

-- what each file holds, after one is put in or gets more
pub file_at-with_file : (files : FileMap) (name bytes : List ℕ) → file_at (with_file name bytes files) ≡ put name bytes (file_at files)
file_at-with_file files name bytes = λ i q. at q i
  where
    turned : (q : List ℕ) → tied q name ≡ same name q
    turned q = elim (cases_Bool (same name q)) [
      | inl equal ↦ tied_equal q name (sym ((bytes_eq-Decides name q).0 equal)) ∙ sym equal
      | inr different ↦ tied_other q name (λ is. let e : same name q ≡ true = (bytes_eq-Decides name q).1 (sym is) in cc) ∙ sym different
    ]

    at : (q : List ℕ) → file_at (with_file name bytes files) q ≡ put name bytes (file_at files) q
    at q = get-insert nat_list_cmp_total files name bytes q ∙ ap (λ b. cond b (Some bytes) (file_at files q)) (turned q)

pub file_at-with_more : (files : FileMap) (name more : List ℕ) → IsSome (file_at files name) → file_at (with_more name more files) ≡ files_after (bytes_to name more) (file_at files)
file_at-with_more files name more there = by (file_at files name) refl there
  where
    by : (o : Option (List ℕ)) → file_at files name ≡ o → IsSome o → file_at (with_more name more files) ≡ files_after (bytes_to name more) (file_at files)
    by None is some = cc
    by (Some old) is some =
        file_at-with_file files name (unwrap_or (file_at files name) [] ++ more)
        ∙ ap (λ (o : Option (List ℕ)). put name (unwrap_or o [] ++ more) (file_at files)) is
        ∙ sym (grown name more old (file_at files) is)

pub with_all_push : (fs : List File) (f : File) (files : FileMap) → with_all (fs ++ f ∷ []) files ≡ with_file f.0 f.1 (with_all fs files)
with_all_push [] f files = refl
with_all_push (g ∷ fs) f files = with_all_push fs f (with_file g.0 g.1 files)

-- the file that `place` found, written again
pub written : (files seen : List File) (name : List ℕ) (i : ℕ) (item : File) (new : List ℕ) → seen ≡ files → IsFirstNamed name seen i → item ≡ get_or files i item
    → file_map (set files i (item.0, new)) ≡ with_file name new (file_map files)
written files seen name i item new is first at =
    let here : IsFirstNamed name files i = subst (λ (l : List File). IsFirstNamed name l i) is first in
    file_map-set files name i item.0 new (ap (λ (f : File). f.0) at ∙ here.named item) here

pub written_more : (files seen : List File) (name more : List ℕ) (i : ℕ) (item : File) (new : List ℕ) → seen ≡ files → IsFirstNamed name seen i → item ≡ get_or files i item → new ≡ item.1 ++ more
    → file_map (set files i (item.0, new)) ≡ with_more name more (file_map files)
written_more files seen name more i item new is first at grew =
    let here : IsFirstNamed name files i = subst (λ (l : List File). IsFirstNamed name l i) is first in
    let held : file_at (file_map files) name ≡ Some item.1 = file_at_first files name i item here ∙ ap (λ (f : File). Some f.1) (sym at) in
    written files seen name i item new is first at
    ∙ ap (λ (bytes : List ℕ). with_file name bytes (file_map files)) (grew ∙ sym (ap (λ (o : Option (List ℕ)). unwrap_or o [] ++ more) held))

pub not_there : (files seen : List File) (name : List ℕ) → seen ≡ files → All (λ f. f.0 ≢ name) seen → file_at (file_map files) name ≡ None
not_there files seen name is none = file_at_none files name (subst (λ (l : List File). All (λ f. f.0 ≢ name) l) is none)

no_such : (o : Option (List ℕ)) → o ≡ None → IsSome o → ⊥
no_such None is some = cc
no_such (Some bytes) is some = cc

pub there_and_not : (files seen : List File) (name : List ℕ) → seen ≡ files → All (λ f. f.0 ≢ name) seen → IsSome (file_at (file_map files) name) → ⊥
there_and_not files seen name is none some = no_such (file_at (file_map files) name) (not_there files seen name is none) some

pub pushed : (files seen : List File) (name bytes : List ℕ) → seen ≡ files → All (λ f. f.0 ≢ name) seen → file_map (files ++ (name, bytes) ∷ []) ≡ with_file name bytes (file_map files)
pushed files seen name bytes is none = file_map_push files name bytes (subst (λ (l : List File). All (λ f. f.0 ≢ name) l) is none)

-- one more of the files that a tree is made of
pub given_push : {V : Type 0} (text : V → List ℕ) (fs : List (V × V)) (name content : V) (seen kept : List ℕ) (files : FileMap) → seen ≡ text name → kept ≡ text content
    → with_file seen kept (with_all (map (λ f. (text f.0, text f.1)) fs) files) ≡ with_all (map (λ f. (text f.0, text f.1)) (fs ++ (name, content) ∷ [])) files
given_push {V} text fs name content seen kept files is_name is_content =
    let plain : V × V → File = λ f. (text f.0, text f.1) in
    (λ i. with_file (is_name i) (is_content i) (with_all (map plain fs) files))
    ∙ sym (ap (λ (l : List File). with_all l files) (map-append plain fs ((name, content) ∷ [])) ∙ with_all_push (map plain fs) (text name, text content) files)
