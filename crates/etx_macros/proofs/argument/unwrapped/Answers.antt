use Rattle.std.proofs.Common.{◌≡◌, IfOk, List, sym, subst}
use Rattle.etx_matter.specs.declared.token.Token.{Token}
use Rattle.etx_macros.proofs.Groups.{argument_inside, argument_whole}
use Rattle.etx_macros.proofs.argument.unwrapped.Goals as goal

pub returns-then-is_group : goal.returns-then-is_group
returns-then-is_group c = subst (λ (xs : List Token). IfOk c.from_slice.result (λ arg. arg ≡ xs)) (sym (argument_inside c.args.text.now c.if-is_group.ensures)) c.from_slice.ensures

pub returns : goal.returns
returns c = subst (λ (xs : List Token). IfOk c.from_slice-2.result (λ arg. arg ≡ xs)) (sym (argument_whole c.args.text.now (λ inner g. c.if-is_group.ensures inner g))) c.from_slice-2.ensures
