use Rattle.std.proofs.Common.{◌≡◌, ◌<◌, ℕ, List, length, get_or, ap, sym, ◌∙◌, subst, IfOk, None, Some, arith}
use Rattle.etx_patterns.specs.Shapes.{framed, word_marks, path_in}
use Rattle.etx_patterns.specs.Tables.{exception_of, greatest_digit}
use Rattle.etx_patterns.proofs.Passing.{zeros, places_by_exception, places_by_scores}
use Rattle.etx_patterns.proofs.patterns.Patterns.breaks.Goals as goal

pub score-requires-clause-zero : goal.score-requires-clause-zero
score-requires-clause-zero c = λ place. zeros 66 place

pub returns : goal.returns
returns c =
    let path : c.as_slice.result.now ≡ path_in c.args.language (word_marks c.args.word.now) = c.as_slice.ensures.value ∙ c.in_ok-path.ensures in
    let marks : c.as_slice-2.result.now ≡ framed c.args.word.now = c.as_slice-2.ensures.value ∙ c.in_ok-marks.ensures in
    let none : exception_of c.args.self.now.exceptions (path_in c.args.language (word_marks c.args.word.now)) ≡ None = ap (exception_of c.args.self.now.exceptions) (sym path) ∙ c.in_default.ensures in
    let same = c.score.auto.scores in
    let all : (place : ℕ) → place < length c.score.new.scores → get_or c.score.new.scores place 0 ≡ greatest_digit c.args.self.now.patterns c.args.language (framed c.args.word.now) place =
    λ place low.
    c.score.ensures place (omega arith) ∙ ap (λ it. greatest_digit c.args.self.now.patterns c.args.language it place) marks
    in
    let equal = places_by_scores c.args.self.now c.args.language c.args.word.now c.score.new.scores none (omega arith) all in
    subst (λ (it : List ℕ). IfOk c.odd_places.result (λ v. v.items ≡ it)) equal c.odd_places.ensures
