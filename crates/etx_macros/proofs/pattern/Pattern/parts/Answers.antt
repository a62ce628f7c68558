use Rattle.std.proofs.Common.{List, subst}
use Rattle.std.specs.Prelude.{All}
use Rattle.std.specs.Arc.{arc_value}
use Rattle.etx_matter.specs.declared.token.Token.{Token}
use Rattle.etx_macros.specs.Marks.{IsDelimiter}
use Rattle.etx_macros.proofs.pattern.Pattern.parts.Goals as goal

pub returns-clause-flat : goal.returns-clause-flat
returns-clause-flat c = subst (λ (xs : List (List Token)). All IsDelimiter xs) c.self.view_is (arc_value c.self.inside.text).flat
