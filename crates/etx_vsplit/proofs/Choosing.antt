-- Breaks may be compared in any grouping.
use Rattle.std.proofs.Common.{◌≡◌, Bool, true, false, refl, ap, arith}
use Rattle.std.specs.Prelude.{int_lt, Option, None, Some}
use Rattle.std.proofs.lemmas.Int.{ints}
use Rattle.etx_vsplit.specs.declared.trial.Trial.{Trial}
use Rattle.etx_vsplit.specs.Splits.{cheaper, cheaper_of}

by_tests : (a b c : Trial) (p q r : Bool) → int_lt a.cost b.cost ≡ p → int_lt b.cost c.cost ≡ q → int_lt a.cost c.cost ≡ r → cheaper (cheaper a b) c ≡ cheaper a (cheaper b c)
by_tests a b c true true true e f g = simp (e, f, g)
by_tests a b c true true false e f g = absurd (grind (arith, ints, e, f, g))
by_tests a b c true false r e f g = simp (e, f)
by_tests a b c false true r e f g = simp (e, f)
by_tests a b c false false true e f g = absurd (grind (arith, ints, e, f, g))
by_tests a b c false false false e f g = simp (e, f, g)

cheaper-assoc : (a b c : Trial) → cheaper (cheaper a b) c ≡ cheaper a (cheaper b c)
cheaper-assoc a b c = by_tests a b c (int_lt a.cost b.cost) (int_lt b.cost c.cost) (int_lt a.cost c.cost) refl refl refl

pub cheaper_of-assoc : (a b c : Option Trial) → cheaper_of (cheaper_of a b) c ≡ cheaper_of a (cheaper_of b c)
cheaper_of-assoc None b c = refl
cheaper_of-assoc (Some a) None c = refl
cheaper_of-assoc (Some a) (Some b) None = refl
cheaper_of-assoc (Some a) (Some b) (Some c) = ap Some (cheaper-assoc a b c)
