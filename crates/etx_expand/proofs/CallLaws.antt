-- A call that is fed a match is read as its body.
use Rattle.std.proofs.Common.{◌≡◌, ℕ, Bool, true, false, List, [], ◌∷◌, ◌++◌, Some, inl, inr, refl, sym, ◌∙◌, ap, subst, if◌then◌else◌}
use Rattle.std.proofs.lemmas.Bool.{cases_Bool}
use Rattle.etx_matter.specs.declared.token.Token.{Token}
use Rattle.etx_macros.specs.declared.fault.Fed.{Fed}
use Rattle.etx_macros.specs.declared.fault.Fed.TheVariants as says
use Rattle.etx_macros.specs.declared.fault.MatchFault.TheVariants.{ExtraBrace}
use Rattle.etx_macros.specs.State.{MatcherState}
use Rattle.etx_macros.specs.Marks.{IsPattern}
use Rattle.etx_macros.specs.Calls.{MatchesCall, Begins}
use Rattle.etx_macros.specs.Feeding.{fed_of, started, after, is_extra, is_copied}
use Rattle.etx_macros.specs.Substituting.{substituted}
use Rattle.etx_macros.proofs.Runs.{said_exactly, arguments_of, extra_exactly}
use Rattle.etx_macros.proofs.Unique.{one_call}
use Rattle.etx_state.specs.declared.scan.Call.{Call}
use Rattle.etx_state.specs.Rests.{RestState}
use Rattle.etx_answers.specs.declared.plan.Plan.{Plan}
use Rattle.etx_answers.specs.Answers.{quiet, insert_of}
use Rattle.etx_expand.specs.Calls.{call_scan, extra_brace, goes_on, is_over, fed_by, call_row}

-- a token of which more or all is said is no extra brace
no_extra : (parts : List (List Token)) (long : Bool) (front : List Token) (t : Token) (m : MatcherState) (fed : Fed) → IsPattern parts → after (started parts long) front ≡ Some m → (fed_of m t).fed ≡ fed → (fed ≡ says.Fault ExtraBrace → ⊥) → is_extra m t ≡ false
no_extra parts long front t m fed p e is other = elim (cases_Bool (is_extra m t)) [
  | inl extra ↦ absurd (other (sym is ∙ (extra_exactly parts long front t m p e).0 extra))
  | inr not ↦ not
]

-- the row, where the token is no extra brace
fed_row : (c : Call) (t : Token) (r : RestState) (fed : Fed) → is_extra c.matcher t ≡ false → (fed_of c.matcher t).fed ≡ fed → call_row c t r ≡ fed_by fed (fed_of c.matcher t).matcher (is_copied c.matcher t) c r
unfolding call_row
fed_row c t r fed not is =
    ap (λ (b : Bool). if b then extra_brace c r else fed_by (fed_of c.matcher t).fed (fed_of c.matcher t).matcher (is_copied c.matcher t) c r) not
    ∙ ap (λ (f : Fed). fed_by f (fed_of c.matcher t).matcher (is_copied c.matcher t) c r) is

pub call_ends : (c : Call) (front : List Token) (t : Token) (args : List (List Token)) (m : MatcherState) (r : RestState) → IsPattern c.definition.parts → after (started c.definition.parts c.definition.is_long) front ≡ Some m
    → MatchesCall c.definition.is_long c.definition.parts (front ++ t ∷ []) args
    → call_row (record c { matcher = m }) t r ≡ quiet (is_over (is_copied m t) (insert_of (substituted c.definition.body args)))
call_ends c front t args m r p e match =
    let parts = c.definition.parts in
    let long = c.definition.is_long in
    let done : (fed_of m t).fed ≡ says.Done = (said_exactly parts long front t m says.Done p e).1 (args, match) in
    let same : args ≡ (fed_of m t).matcher.args = (one_call long parts (front ++ t ∷ []) args match parts (front ++ t ∷ []) (fed_of m t).matcher.args [] [] (arguments_of parts long front t m p e done) refl refl).1 in
    fed_row (record c { matcher = m }) t r says.Done (no_extra parts long front t m says.Done p e done (λ no. cc)) done
    ∙ ap (λ (xs : List (List Token)). quiet (is_over (is_copied m t) (insert_of (substituted c.definition.body xs)))) (sym same)

pub call_goes_on : (c : Call) (front : List Token) (t : Token) (m : MatcherState) (r : RestState) → IsPattern c.definition.parts → after (started c.definition.parts c.definition.is_long) front ≡ Some m
    → Begins c.definition.is_long c.definition.parts (front ++ t ∷ [])
    → call_row (record c { matcher = m }) t r ≡ quiet (goes_on (is_copied m t) (call_scan (record c { matcher = (fed_of m t).matcher })))
call_goes_on c front t m r p e begins =
    let parts = c.definition.parts in
    let long = c.definition.is_long in
    let more : (fed_of m t).fed ≡ says.More = (said_exactly parts long front t m says.More p e).1 begins in
    fed_row (record c { matcher = m }) t r says.More (no_extra parts long front t m says.More p e more (λ no. cc)) more
