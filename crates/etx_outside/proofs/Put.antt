-- Files put in, and bytes added to them.
use Rattle.std.proofs.Common.{◌≡◌, ℕ, List, [], ◌∷◌, ◌++◌, Option, Some, None, IsSome, nat_eq, Bool, true, false, cond, refl, sym, ◌∙◌, ap, append_assoc}
use Rattle.std.proofs.lemmas.Bool.{cases_Bool}
use Rattle.std.proofs.lemmas.List.{append-nil}
use Rattle.std.proofs.lemmas.Slice.Eq.{bytes_eq-Decides}
use Rattle.std.specs.Cmp.Lexicographic.{pointwise}
use mathlib.Core.Logic.{inl, inr}
use Rattle.etx_outside.specs.Entries.{History, Asked, Made, Byte, Shown, Files, put, add_to, files_after, bytes_to}

abbrev pub same : List ℕ → List ℕ → Bool
same a b = pointwise nat_eq a b

-- what a file holds put in again changes nothing
put_again : (name old : List ℕ) (files : Files) → files name ≡ Some old → files ≡ put name old files
put_again name old files is = λ i q. at q i
  where
    at : (q : List ℕ) → files q ≡ put name old files q
    at q = elim (cases_Bool (same name q)) [
      | inl is_it ↦ ap files (sym ((bytes_eq-Decides name q).0 is_it)) ∙ is ∙ sym (ap (λ b. cond b (Some old) (files q)) is_it)
      | inr other ↦ sym (ap (λ b. cond b (Some old) (files q)) other)
    ]

put_over : (name old new : List ℕ) (files : Files) → put name new (put name old files) ≡ put name new files
put_over name old new files = λ i q. at q i
  where
    at : (q : List ℕ) → put name new (put name old files) q ≡ put name new files q
    at q = elim (same name q) as (λ b. cond b (Some new) (cond b (Some old) (files q)) ≡ cond b (Some new) (files q)) [ true ↦ refl | false ↦ refl ]

pub put_same : (name bytes : List ℕ) (files : Files) → put name bytes files name ≡ Some bytes
put_same name bytes files = ap (λ b. cond b (Some bytes) (files name)) ((bytes_eq-Decides name name).1 refl)

-- bytes to a file that is there
pub grown : (name more old : List ℕ) (files : Files) → files name ≡ Some old → files_after (bytes_to name more) files ≡ put name (old ++ more) files
grown name [] old files is = put_again name old files is ∙ ap (λ (l : List ℕ). put name l files) (sym (append-nil old))
grown name (b ∷ more) old files is =
    ap (λ o. files_after (bytes_to name more) (add_to o name b files)) is
    ∙ grown name more (old ++ b ∷ []) (put name (old ++ b ∷ []) files) (put_same name (old ++ b ∷ []) files)
    ∙ put_over name (old ++ b ∷ []) ((old ++ b ∷ []) ++ more) files
    ∙ ap (λ (l : List ℕ). put name l files) (append_assoc old (b ∷ []) more)

pub put_keeps : (name bytes : List ℕ) (files : Files) (q : List ℕ) → IsSome (files q) → IsSome (put name bytes files q)
put_keeps name bytes files q there = elim (same name q) as (λ b. IsSome (cond b (Some bytes) (files q))) [ true ↦ refl | false ↦ there ]

add_keeps : (file : Option (List ℕ)) (name : List ℕ) (b : ℕ) (files : Files) (q : List ℕ) → IsSome (files q) → IsSome (add_to file name b files q)
add_keeps None name b files q there = there
add_keeps (Some old) name b files q there = put_keeps name (old ++ b ∷ []) files q there

-- no history takes a file away
pub files_after_keeps : (h : History) (files : Files) (q : List ℕ) → IsSome (files q) → IsSome (files_after h files q)
files_after_keeps [] files q there = there
files_after_keeps (Asked name ∷ h) files q there = files_after_keeps h files q there
files_after_keeps (Made name ∷ h) files q there = files_after_keeps h _ q (put_keeps name [] files q there)
files_after_keeps (Byte name b ∷ h) files q there = files_after_keeps h _ q (add_keeps (files name) name b files q there)
files_after_keeps (Shown b ∷ h) files q there = files_after_keeps h files q there
