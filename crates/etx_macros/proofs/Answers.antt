-- No two things are said of the same tokens.
use Rattle.std.proofs.Common.{◌≡◌, Bool, List, [], ◌++◌, length, refl, sym, ap, subst, ◌∙◌, arith}
use Rattle.std.proofs.lemmas.List.{append-nil, same_from_push, length-append}
use Rattle.etx_matter.specs.declared.token.Token.{Token}
use Rattle.etx_macros.specs.declared.fault.MatchFault.{MatchFault}
use Rattle.etx_macros.specs.declared.fault.MatchFault.TheVariants.{DoesNotMatch, ParagraphEnded, ExtraBrace}
use Rattle.etx_macros.specs.declared.fault.Fed.{Fed}
use Rattle.etx_macros.specs.declared.fault.Fed.TheVariants.{More, Done, Fault}
use Rattle.etx_macros.specs.Marks.{has_category, is_par}
use Rattle.etx_macros.specs.Calls.{MatchesCall, Begins, NoCall}
use Rattle.etx_macros.specs.Says.{IsLast, Why, Says}
use Rattle.etx_macros.proofs.Refusals.{par_not_right}
use Rattle.etx_macros.proofs.Unique.{one_call}

not_both : (tokens : List Token) → IsLast is_par tokens → IsLast (λ t. has_category t 2) tokens → ⊥
not_both tokens p r =
    let s = same_from_push p.0 r.0 p.1 r.1 (sym p.2 ∙ r.2) in
    par_not_right p.1 p.3 (ap (λ u. has_category u 2) s.1 ∙ r.3)

one_why : (f g : MatchFault) (long : Bool) (parts : List (List Token)) (tokens : List Token) → Why f long parts tokens → Why g long parts tokens → f ≡ g
one_why DoesNotMatch DoesNotMatch long parts tokens h k = refl
one_why DoesNotMatch ParagraphEnded long parts tokens h k = absurd (h k.0)
one_why DoesNotMatch ExtraBrace long parts tokens h k = absurd (h k.0)
one_why ParagraphEnded DoesNotMatch long parts tokens h k = absurd (k h.0)
one_why ParagraphEnded ParagraphEnded long parts tokens h k = refl
one_why ParagraphEnded ExtraBrace long parts tokens h k = absurd (not_both tokens h.2 k.1)
one_why ExtraBrace DoesNotMatch long parts tokens h k = absurd (k h.0)
one_why ExtraBrace ParagraphEnded long parts tokens h k = absurd (not_both tokens k.2 h.1)
one_why ExtraBrace ExtraBrace long parts tokens h k = refl

more_not_done : (long : Bool) (parts args : List (List Token)) (tokens : List Token) → Begins long parts tokens → MatchesCall long parts tokens args → ⊥
more_not_done long parts args tokens b m =
    let o = one_call long parts (tokens ++ b.rest) b.args b.matched parts tokens args [] b.rest m refl (append-nil (tokens ++ b.rest)) in
    omega (arith, b.some, ap length o.0, length-append tokens b.rest)

none_done : (long : Bool) (parts args : List (List Token)) (tokens : List Token) → NoCall long parts tokens → MatchesCall long parts tokens args → ⊥
none_done long parts args tokens none m = none [] args (subst (λ (c : List Token). MatchesCall long parts c args) (sym (append-nil tokens)) m)

pub one_answer : (fed other : Fed) (long : Bool) (parts : List (List Token)) (tokens : List Token) → Says fed long parts tokens → Says other long parts tokens → fed ≡ other
one_answer More More long parts tokens h k = refl
one_answer More Done long parts tokens h k = absurd (more_not_done long parts k.0 tokens h k.1)
one_answer More (Fault g) long parts tokens h k = absurd (k.0 h.rest h.args h.matched)
one_answer Done More long parts tokens h k = absurd (more_not_done long parts h.0 tokens k h.1)
one_answer Done Done long parts tokens h k = refl
one_answer Done (Fault g) long parts tokens h k = absurd (none_done long parts h.0 tokens k.0 h.1)
one_answer (Fault f) More long parts tokens h k = absurd (h.0 k.rest k.args k.matched)
one_answer (Fault f) Done long parts tokens h k = absurd (none_done long parts k.0 tokens h.0 k.1)
one_answer (Fault f) (Fault g) long parts tokens h k = ap (λ x. let o : Fed = Fault x in o) (one_why f g long parts tokens h.1 k.1)
