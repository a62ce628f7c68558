-- The parts that were read, joined with those of the rest.
use Rattle.std.proofs.Common.{◌≡◌, List, [], ◌∷◌, ◌++◌, subst, Result, Ok, Err, drop, length, sym, ap, ◌∙◌}
use Rattle.etx_matter.specs.declared.token.Token.{Token}
use Rattle.etx_macros.specs.declared.pattern.PatternFault.{PatternFault}
use Rattle.etx_macros.specs.declared.pattern.Next.{Next}
use Rattle.etx_macros.specs.declared.pattern.Next.TheVariants.{End, Text, Parameter, Brace}
use Rattle.etx_macros.specs.Marks.{IsDelimiter}
use Rattle.etx_macros.specs.ParameterText.{next_of, pattern_of, IsFaultOf}
use Rattle.etx_macros.proofs.Texts.{read_token, read_brace, read_parameter, read_end, read_fault, fault_of}
use Rattle.etx_macros.proofs.pattern.Pattern.read.Goals as goal

abbrev whole : List (List Token) → Result (List (List Token)) PatternFault
whole parts = Ok parts

abbrev good : Next → Result Next PatternFault
good next = Ok next

pub loop-next-preserved-in-Text : goal.loop-next-preserved-in-Text
loop-next-preserved-in-Text c =
    let e : next_of (length c.loop-next.parts) (drop c.loop-next.at c.as_slice-tokens.result.now) ≡ Ok (Text c.in-Text.token) =
    ap (λ n. next_of n (drop c.loop-next.at c.as_slice-tokens.result.now)) (sym c.len.ensures.len) ∙ sym c.next_in.ensures ∙ c.in-Ok.is ∙ ap good c.in-Text.is in
    rw c.in_ok-push-in-Text.ensures.ok (read_token _ _ _ _ _ c.loop-next.invariant e)

pub loop-next-preserved : goal.loop-next-preserved
loop-next-preserved c =
    let e : next_of (length c.loop-next.parts) (drop c.loop-next.at c.as_slice-tokens.result.now) ≡ Ok Parameter =
    ap (λ n. next_of n (drop c.loop-next.at c.as_slice-tokens.result.now)) (sym c.len.ensures.len) ∙ sym c.next_in.ensures ∙ c.in-Ok.is ∙ ap good c.in-Parameter.is in
    rw (c.in_ok-push-in-Parameter.ensures.ok, c.new-part-in-Parameter.ensures) (read_parameter _ _ _ _ c.loop-next.invariant e)

pub returns-in-Err : goal.returns-in-Err
returns-in-Err c =
    let e : next_of (length c.loop-next.parts) (drop c.loop-next.at c.as_slice-tokens.result.now) ≡ Err c.in-Err.fault =
    ap (λ n. next_of n (drop c.loop-next.at c.as_slice-tokens.result.now)) (sym c.len.ensures.len) ∙ sym c.next_in.ensures ∙ c.in-Err.is in
    subst (λ (params : List Token). IsFaultOf c.in-Err.fault params) c.as_slice-tokens.ensures.same (fault_of _ c.in-Err.fault (read_fault _ _ _ _ _ c.loop-next.invariant e))

pub returns-in-End : goal.returns-in-End
returns-in-End c =
    let e : next_of (length c.loop-next.parts) (drop c.loop-next.at c.as_slice-tokens.result.now) ≡ Ok End =
    ap (λ n. next_of n (drop c.loop-next.at c.as_slice-tokens.result.now)) (sym c.len.ensures.len) ∙ sym c.next_in.ensures ∙ c.in-Ok.is ∙ ap good c.in-End.is in
    ap pattern_of (sym c.as_slice-tokens.ensures.same) ∙ read_end _ _ _ _ c.loop-next.invariant e ∙ ap whole (sym c.in_ok-whole-in-End.ensures)

pub whole-requires-in-Brace-clause-last : goal.whole-requires-in-Brace-clause-last
whole-requires-in-Brace-clause-last c =
    let e : next_of (length c.loop-next.parts) (drop c.loop-next.at c.as_slice-tokens.result.now) ≡ Ok (Brace c.in-Brace.brace) =
    ap (λ n. next_of n (drop c.loop-next.at c.as_slice-tokens.result.now)) (sym c.len.ensures.len) ∙ sym c.next_in.ensures ∙ c.in-Ok.is ∙ ap good c.in-Brace.is in
    let b = read_brace _ _ _ _ _ c.loop-next.invariant e in
    subst (λ (xs : List Token). IsDelimiter xs) (sym c.in_ok-push-in-Brace.ensures.ok) b.1

pub returns-in-Brace : goal.returns-in-Brace
returns-in-Brace c =
    let e : next_of (length c.loop-next.parts) (drop c.loop-next.at c.as_slice-tokens.result.now) ≡ Ok (Brace c.in-Brace.brace) =
    ap (λ n. next_of n (drop c.loop-next.at c.as_slice-tokens.result.now)) (sym c.len.ensures.len) ∙ sym c.next_in.ensures ∙ c.in-Ok.is ∙ ap good c.in-Brace.is in
    let b = read_brace _ _ _ _ _ c.loop-next.invariant e in
    ap pattern_of (sym c.as_slice-tokens.ensures.same) ∙ b.0 ∙ ap (λ x. whole (c.loop-next.parts ++ x ∷ [])) (sym c.in_ok-push-in-Brace.ensures.ok) ∙ ap whole (sym c.in_ok-whole-in-Brace.ensures)
