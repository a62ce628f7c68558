-- What a line costs, by its parts.
use Rattle.std.proofs.Common.{◌≡◌, ℕ, ℤ, pos, ◌+ℤ◌, ap, ◌∙◌}
use Rattle.etx_linebreak.specs.declared.line.Line.{Line}
use Rattle.etx_linebreak.specs.declared.row.Row.{Row}
use Rattle.etx_linebreak.specs.Lines.{penalty, base, penalty_cost, hyphen_cost, class_cost, demerits}
use Rattle.etx_linebreak.specs.Passes.{PassState}

pub demerits_by : (p : PassState) (j : ℕ) (r : Row) (line : Line) (b : ℕ) (cost hyphens classes : ℤ)
    → b ≡ base (p.paragraph.params.breaks.line_penalty +ℤ line.badness) → cost ≡ penalty_cost (penalty p j) → hyphens ≡ hyphen_cost p j r
    → classes ≡ class_cost p r line → pos b +ℤ cost +ℤ hyphens +ℤ classes ≡ demerits p j r line
unfolding demerits
demerits_by p j r line b cost hyphens classes e f g h =
    ap (λ (n : ℕ). pos n +ℤ cost +ℤ hyphens +ℤ classes) e
    ∙ ap (λ (z : ℤ). pos (base (p.paragraph.params.breaks.line_penalty +ℤ line.badness)) +ℤ z +ℤ hyphens +ℤ classes) f
    ∙ ap (λ (z : ℤ). pos (base (p.paragraph.params.breaks.line_penalty +ℤ line.badness)) +ℤ penalty_cost (penalty p j) +ℤ z +ℤ classes) g
    ∙ ap (λ (z : ℤ). pos (base (p.paragraph.params.breaks.line_penalty +ℤ line.badness)) +ℤ penalty_cost (penalty p j) +ℤ hyphen_cost p j r +ℤ z) h

pub base_by : (p : PassState) (line : Line) (given sum extra badness : ℤ) (result : ℕ) → result ≡ base given → given ≡ sum → sum ≡ extra +ℤ badness
    → extra ≡ p.paragraph.params.breaks.line_penalty → badness ≡ line.badness → result ≡ base (p.paragraph.params.breaks.line_penalty +ℤ line.badness)
base_by p line given sum extra badness result e g s a b =
    e
    ∙ ap base (g ∙ s)
    ∙ ap (λ (z : ℤ). base (z +ℤ badness)) a
    ∙ ap (λ (z : ℤ). base (p.paragraph.params.breaks.line_penalty +ℤ z)) b
