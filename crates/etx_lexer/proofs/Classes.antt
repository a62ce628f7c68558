-- The classes that the code has are the categories that the rules name.
use Rattle.std.proofs.Common.{◌≡◌, ℕ, eqb, refl, sym, ap, subst}
use Rattle.std.proofs.lemmas.Bool.{eqb-true, eqb-false, ne_eqb}
use Rattle.etx_lexer.specs.Classes.{class_of, IsOther}
use Rattle.etx_lexer.specs.declared.categories.Class.{Class}
use Rattle.etx_lexer.specs.declared.categories.Class.TheVariants.{Escape, Return, Ignored, Space, Comment, Invalid, Plain}
use Rattle.etx_lexer.proofs.Walks.{by_test}

-- the categories of a class
abbrev pub IsOf : Class → ℕ → Type 0
IsOf Escape cat = cat ≡ 0
IsOf Return cat = cat ≡ 5
IsOf Ignored cat = cat ≡ 9
IsOf Space cat = cat ≡ 10
IsOf Comment cat = cat ≡ 14
IsOf Invalid cat = cat ≡ 15
IsOf Plain cat = IsOther cat

pub to_class : (k : Class) (cat : ℕ) → IsOf k cat → class_of cat ≡ k
unfolding class_of
to_class Escape cat h = ap class_of h
to_class Return cat h = ap class_of h
to_class Ignored cat h = ap class_of h
to_class Space cat h = ap class_of h
to_class Comment cat h = ap class_of h
to_class Invalid cat h = ap class_of h
to_class Plain cat h = rw (ne_eqb cat 0 h.0, ne_eqb cat 5 h.1, ne_eqb cat 9 h.2, ne_eqb cat 10 h.3, ne_eqb cat 14 h.4, ne_eqb cat 15 h.5) refl

in_class : (k : Class) (cat : ℕ) → IsOf k cat → IsOf (class_of cat) cat
in_class k cat h = subst (λ (c : Class). IsOf c cat) (sym (to_class k cat h)) h

is_of : (cat : ℕ) → IsOf (class_of cat) cat
is_of cat = by_test (eqb cat 0) (λ t. in_class Escape cat (eqb-true cat 0 t))
    (λ f0. by_test (eqb cat 5) (λ t. in_class Return cat (eqb-true cat 5 t))
    (λ f5. by_test (eqb cat 9) (λ t. in_class Ignored cat (eqb-true cat 9 t))
    (λ f9. by_test (eqb cat 10) (λ t. in_class Space cat (eqb-true cat 10 t))
    (λ f10. by_test (eqb cat 14) (λ t. in_class Comment cat (eqb-true cat 14 t))
    (λ f14. by_test (eqb cat 15) (λ t. in_class Invalid cat (eqb-true cat 15 t))
    (λ f15. in_class Plain cat (eqb-false cat 0 f0, eqb-false cat 5 f5, eqb-false cat 9 f9, eqb-false cat 10 f10, eqb-false cat 14 f14, eqb-false cat 15 f15)))))))

pub of_class : (k : Class) (cat : ℕ) → class_of cat ≡ k → IsOf k cat
of_class k cat h = subst (λ (c : Class). IsOf c cat) h (is_of cat)
