use Rattle.std.proofs.Common.{◌≡◌, ap, sym, ◌∙◌, arith}
use Rattle.etx_patterns.specs.Shapes.{path_in, shape}
use Rattle.etx_patterns.specs.Tables.{is_known, new_pattern}
use Rattle.etx_patterns.proofs.Refusals.{replacement_letter, replacement_known, replacement_full, replacement_added}
use Rattle.etx_patterns.proofs.patterns.Patterns.replace.Goals as goal

pub returns-then-has_zero_letter-clause-answer : goal.returns-then-has_zero_letter-clause-answer
returns-then-has_zero_letter-clause-answer c = replacement_letter c.args.self.now c.args.language c.args.pattern.now (sym c.has_zero_letter.ensures ∙ c.if-has_zero_letter.true)

pub returns-then-knows-clause-ok : goal.returns-then-knows-clause-ok
returns-then-knows-clause-ok c =
    let path : c.as_slice.result.now ≡ path_in c.args.language (shape c.args.pattern.now) = c.as_slice.ensures.value ∙ c.in_ok-path.ensures in
    c.in_ok-replace_pattern.ensures.ok ∙ sym (replacement_known c.args.self.now c.args.language c.args.pattern.now (sym c.has_zero_letter.ensures ∙ c.if-has_zero_letter.false)
    (ap (is_known c.args.self.now.patterns) (sym path) ∙ sym c.knows.ensures ∙ c.if-knows.true)).1

pub returns-then-knows-clause-answer : goal.returns-then-knows-clause-answer
returns-then-knows-clause-answer c =
    let path : c.as_slice.result.now ≡ path_in c.args.language (shape c.args.pattern.now) = c.as_slice.ensures.value ∙ c.in_ok-path.ensures in
    (replacement_known c.args.self.now c.args.language c.args.pattern.now (sym c.has_zero_letter.ensures ∙ c.if-has_zero_letter.false)
    (ap (is_known c.args.self.now.patterns) (sym path) ∙ sym c.knows.ensures ∙ c.if-knows.true)).0

pub returns-then-letter_count-letters-clause-answer : goal.returns-then-letter_count-letters-clause-answer
returns-then-letter_count-letters-clause-answer c =
    let path : c.as_slice.result.now ≡ path_in c.args.language (shape c.args.pattern.now) = c.as_slice.ensures.value ∙ c.in_ok-path.ensures in
    replacement_full c.args.self.now c.args.language c.args.pattern.now (sym c.has_zero_letter.ensures ∙ c.if-has_zero_letter.false)
    (ap (is_known c.args.self.now.patterns) (sym path) ∙ sym c.knows.ensures ∙ c.if-knows.false) (omega (arith, c.letters.ensures.value, c.letters.ensures.few, c.letter_count.ensures))

pub returns-clause-ok : goal.returns-clause-ok
returns-clause-ok c =
    let path : c.as_slice.result.now ≡ path_in c.args.language (shape c.args.pattern.now) = c.as_slice.ensures.value ∙ c.in_ok-path.ensures in
    c.in_ok-push_pattern.ensures.ok ∙ sym (replacement_added c.args.self.now c.args.language c.args.pattern.now (sym c.has_zero_letter.ensures ∙ c.if-has_zero_letter.false)
    (ap (is_known c.args.self.now.patterns) (sym path) ∙ sym c.knows.ensures ∙ c.if-knows.false) (omega (arith, c.letters.ensures.value, c.letters.ensures.few, c.letter_count.ensures))).1

pub returns-clause-answer : goal.returns-clause-answer
returns-clause-answer c =
    let path : c.as_slice.result.now ≡ path_in c.args.language (shape c.args.pattern.now) = c.as_slice.ensures.value ∙ c.in_ok-path.ensures in
    (replacement_added c.args.self.now c.args.language c.args.pattern.now (sym c.has_zero_letter.ensures ∙ c.if-has_zero_letter.false)
    (ap (is_known c.args.self.now.patterns) (sym path) ∙ sym c.knows.ensures ∙ c.if-knows.false) (omega (arith, c.letters.ensures.value, c.letters.ensures.few, c.letter_count.ensures))).0
