use Rattle.std.proofs.Common.{◌≡◌, ap, sym, ◌∙◌}
use Rattle.etx_patterns.specs.Shapes.{path_in, word_marks}
use Rattle.etx_patterns.specs.Tables.{has_room_for, with_exception}
use Rattle.etx_patterns.proofs.Refusals.{exception_letter, no_room, room}
use Rattle.etx_patterns.proofs.patterns.Patterns.except.Goals as goal

pub returns-then-contains-clause-answer : goal.returns-then-contains-clause-answer
returns-then-contains-clause-answer c = exception_letter c.args.self.now c.args.language c.args.word.now (sym c.contains.ensures.value ∙ c.if-contains.true)

pub returns-then-not-has_room_for-clause-answer : goal.returns-then-not-has_room_for-clause-answer
returns-then-not-has_room_for-clause-answer c =
    let path : c.as_slice.result.now ≡ path_in c.args.language (word_marks c.args.word.now) = c.as_slice.ensures.value ∙ c.in_ok-path.ensures in
    no_room c.args.self.now c.args.language c.args.word.now (sym c.contains.ensures.value ∙ c.if-contains.false) (ap (has_room_for c.args.self.now.exceptions) (sym path) ∙ sym c.has_room_for.ensures ∙ c.if-not-has_room_for.true)

pub returns-clause-ok : goal.returns-clause-ok
unfolding with_exception
returns-clause-ok c = c.in_ok-put_exception.ensures.ok

pub returns-clause-answer : goal.returns-clause-answer
returns-clause-answer c =
    let path : c.as_slice.result.now ≡ path_in c.args.language (word_marks c.args.word.now) = c.as_slice.ensures.value ∙ c.in_ok-path.ensures in
    room c.args.self.now c.args.language c.args.word.now (sym c.contains.ensures.value ∙ c.if-contains.false) (ap (has_room_for c.args.self.now.exceptions) (sym path) ∙ sym c.has_room_for.ensures ∙ c.if-not-has_room_for.false)
