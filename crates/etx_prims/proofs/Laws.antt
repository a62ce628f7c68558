-- A name stands for one primitive.
use Rattle.std.proofs.Common.{◌≡◌, ◌≢◌, ◌↔◌, ◌∙◌, sym, ap, All, IfSome, IfNone, Some, None, Option, Bool, IsTrue, nat_eq, List, ℕ, get_or, drop}
use Rattle.std.specs.Cmp.Lexicographic.{pointwise, bytes_decides}
use Rattle.std.proofs.lemmas.List.Elements.{All-contains}
use Rattle.etx_prims.specs.declared.table.TheConstants.{SORTED}
use Rattle.etx_prims.specs.declared.command.Primitive.{Primitive}
use Rattle.etx_prims.specs.declared.command.Primitive.TheVariants as prims
use Rattle.etx_prims.specs.Names.{name_of}
use Rattle.etx_prims.proofs.Searching.{same_key}
use Rattle.etx_prims.proofs.Sorted.{rises-SORTED}
use Rattle.etx_prims.proofs.Covers.{Contains-SORTED}

-- two primitives with one name are one
pub same_name : (p q : Primitive) → name_of p ≡ name_of q → p ≡ q
same_name p q e =
    let (i, hi, at_i) = Contains-SORTED p in
    let (j, hj, at_j) = Contains-SORTED q in
    same_key name_of (get_or SORTED 0 prims.ControlSpace) (drop 1 SORTED) rises-SORTED i j p q hi hj at_i at_j e

-- the search in the table, as an answer for every primitive
pub found_by_table : (result : Option Primitive) (name : List ℕ) → IfSome result (λ p. name ≡ name_of p) → IfNone result (All (λ p. name ≢ name_of p) SORTED)
    → (p : Primitive) → (result ≡ Some p) ↔ (name ≡ name_of p)
found_by_table (Some q) name found absent p = (λ e. cc, λ e. ap Some (same_name q p (sym found ∙ e)))
found_by_table None name found absent p = (λ e. cc, λ e. absurd (All-contains (λ p. name ≢ name_of p) SORTED p absent (Contains-SORTED p) e))

pub absent_by_table : (result : Option Primitive) (name : List ℕ) → IfNone result (All (λ p. name ≢ name_of p) SORTED) → IfNone result ((p : Primitive) → name ≢ name_of p)
absent_by_table (Some q) name absent = tt
absent_by_table None name absent = λ p. All-contains (λ p. name ≢ name_of p) SORTED p absent (Contains-SORTED p)

-- a test of the names of two primitives tells them apart
pub tells_apart : (p q : Primitive) (r : Bool) → r ≡ pointwise nat_eq (name_of p) (name_of q) → IsTrue r ↔ (p ≡ q)
tells_apart p q r e =
    (λ yes. same_name p q ((bytes_decides (name_of p) (name_of q)).0 (sym e ∙ yes)), λ same. e ∙ (bytes_decides (name_of p) (name_of q)).1 (ap name_of same))
