-- The look-up finds the first of the table that has the name.
use Rattle.std.proofs.Common.{◌≡◌, ◌≢◌, ◌↔◌, ◌∙◌, sym, refl, ap, arith, zero, suc, ◌<◌, length, get_or, Some, None, Option, Bool, true, false, nat_eq, List, [], ◌∷◌, ℕ, if◌then◌else◌}
use Rattle.std.specs.Cmp.Lexicographic.{pointwise, bytes_decides}
use Rattle.etx_prims.specs.declared.table.TheConstants.{SORTED}
use Rattle.etx_prims.specs.declared.command.Primitive.{Primitive}
use Rattle.etx_prims.specs.Names.{name_of}
use Rattle.etx_prims.specs.Lookup.{first_named, primitive_named}
use Rattle.etx_prims.proofs.Covers.{Contains-SORTED}

named_by : (name : List ℕ) (p : Primitive) (b : Bool) (rest : Option Primitive) → pointwise nat_eq (name_of p) name ≡ b → (q : Primitive)
    → (rest ≡ Some q → name ≡ name_of q) → (if b then Some p else rest) ≡ Some q → name ≡ name_of q
named_by name p true rest is q more e = let same : p ≡ q = cc in sym ((bytes_decides (name_of p) name).0 is) ∙ ap name_of same
named_by name p false rest is q more e = more e

-- what is found has the name
first_has : (name : List ℕ) (ps : List Primitive) (q : Primitive) → first_named name ps ≡ Some q → name ≡ name_of q
unfolding first_named
first_has name [] q e = absurd (cc)
first_has name (p ∷ ps) q e = named_by name p (pointwise nat_eq (name_of p) name) (first_named name ps) refl q (first_has name ps q) e

none_by : (name : List ℕ) (p : Primitive) (b : Bool) (rest : Option Primitive) → pointwise nat_eq (name_of p) name ≡ b
    → (if b then Some p else rest) ≡ None → (name ≢ name_of p) × (rest ≡ None)
none_by name p true rest is e = absurd (cc)
none_by name p false rest is e = (λ same. let yes : pointwise nat_eq (name_of p) name ≡ true = (bytes_decides (name_of p) name).1 (sym same) in absurd (cc), e)

-- where nothing is found none has it
first_lacks : (name : List ℕ) (ps : List Primitive) → first_named name ps ≡ None → (i : ℕ) (p : Primitive) → i < length ps → get_or ps i p ≡ p → name ≢ name_of p
unfolding first_named
first_lacks name [] e i p h at = absurd (omega arith)
first_lacks name (q ∷ ps) e zero p h at =
    λ same. (none_by name q (pointwise nat_eq (name_of q) name) (first_named name ps) refl e).0 (same ∙ sym (ap name_of at))
first_lacks name (q ∷ ps) e (suc i) p h at =
    first_lacks name ps (none_by name q (pointwise nat_eq (name_of q) name) (first_named name ps) refl e).1 i p (omega arith) at

by_table : (result found : Option Primitive) (name : List ℕ) → ((p : Primitive) → (result ≡ Some p) ↔ (name ≡ name_of p))
    → ((q : Primitive) → found ≡ Some q → name ≡ name_of q) → (found ≡ None → (p : Primitive) → name ≢ name_of p) → result ≡ found
by_table result (Some q) name is has lacks = (is q).1 (has q refl)
by_table None None name is has lacks = refl
by_table (Some p) None name is has lacks = absurd (lacks refl p ((is p).0 refl))

pub is_named : (result : Option Primitive) (name : List ℕ) → ((p : Primitive) → (result ≡ Some p) ↔ (name ≡ name_of p)) → result ≡ primitive_named name
unfolding primitive_named
is_named result name is =
    by_table result (first_named name SORTED) name is (first_has name SORTED)
    (λ e p. let (i, within, at) = Contains-SORTED p in first_lacks name SORTED e i p within at)
