use Rattle.std.proofs.Common.{List, length, nat_le, ap, ◌∙◌, sym}
use Rattle.etx_matter.specs.declared.token.Token.{Token}
use Rattle.etx_input.specs.declared.level.Waiting.{Waiting}
use Rattle.etx_input.specs.Lists.{is_empty}
use Rattle.etx_input.specs.Waiting.{tokens_waiting}
use Rattle.etx_input.proofs.Taking.{all_taken}
use Rattle.etx_input.proofs.level.Waiting.is_over.Goals as goal

pub returns-in-Shared : goal.returns-in-Shared
returns-in-Shared c =
    ap (λ (ts : List Token). nat_le (length ts) c.in-Shared.taken) c.as_slice.ensures
    ∙ all_taken c.in-Shared.taken c.in-Shared.tokens
    ∙ ap (λ (w : Waiting). is_empty (tokens_waiting w)) (sym c.in-Shared.is)
