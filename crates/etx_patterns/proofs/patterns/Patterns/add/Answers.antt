use Rattle.std.proofs.Common.{◌≡◌, ap, sym, ◌∙◌, arith}
use Rattle.etx_patterns.specs.Shapes.{path_in, shape}
use Rattle.etx_patterns.specs.Tables.{is_known, with_pattern, new_pattern}
use Rattle.etx_patterns.proofs.Refusals.{refused_letter, refused_known, refused_full, accepted}
use Rattle.etx_patterns.proofs.patterns.Patterns.add.Goals as goal

pub returns-then-has_zero_letter-clause-answer : goal.returns-then-has_zero_letter-clause-answer
returns-then-has_zero_letter-clause-answer c = refused_letter c.args.self.now c.args.language c.args.pattern.now (sym c.has_zero_letter.ensures ∙ c.if-has_zero_letter.true)

pub returns-then-knows-clause-answer : goal.returns-then-knows-clause-answer
returns-then-knows-clause-answer c =
    let path : c.as_slice.result.now ≡ path_in c.args.language (shape c.args.pattern.now) = c.as_slice.ensures.value ∙ c.in_ok-path.ensures in
    refused_known c.args.self.now c.args.language c.args.pattern.now (sym c.has_zero_letter.ensures ∙ c.if-has_zero_letter.false)
    (ap (is_known c.args.self.now.patterns) (sym path) ∙ sym c.knows.ensures ∙ c.if-knows.true)

pub returns-then-letter_count-letters-clause-answer : goal.returns-then-letter_count-letters-clause-answer
returns-then-letter_count-letters-clause-answer c =
    let path : c.as_slice.result.now ≡ path_in c.args.language (shape c.args.pattern.now) = c.as_slice.ensures.value ∙ c.in_ok-path.ensures in
    refused_full c.args.self.now c.args.language c.args.pattern.now (sym c.has_zero_letter.ensures ∙ c.if-has_zero_letter.false)
    (ap (is_known c.args.self.now.patterns) (sym path) ∙ sym c.knows.ensures ∙ c.if-knows.false) (omega (arith, c.letters.ensures.value, c.letters.ensures.few, c.letter_count.ensures))

pub returns-clause-ok : goal.returns-clause-ok
unfolding with_pattern
returns-clause-ok c = c.in_ok-push_pattern.ensures.ok

pub returns-clause-answer : goal.returns-clause-answer
returns-clause-answer c =
    let path : c.as_slice.result.now ≡ path_in c.args.language (shape c.args.pattern.now) = c.as_slice.ensures.value ∙ c.in_ok-path.ensures in
    accepted c.args.self.now c.args.language c.args.pattern.now (sym c.has_zero_letter.ensures ∙ c.if-has_zero_letter.false)
    (ap (is_known c.args.self.now.patterns) (sym path) ∙ sym c.knows.ensures ∙ c.if-knows.false) (omega (arith, c.letters.ensures.value, c.letters.ensures.few, c.letter_count.ensures))
