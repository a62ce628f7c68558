use Rattle.std.proofs.Common.{ap, ◌∙◌, length, arith}
use Rattle.std.proofs.lemmas.List.{length_push}
use Rattle.etx_tfm.specs.Cleans.{turned_behind}
use Rattle.etx_tfm.proofs.Turned.{turned-push}
use Rattle.etx_tfm.proofs.rest.Rest.pop.Goals as goal

pub returns-in-Some : goal.returns-in-Some
returns-in-Some c =
    rw (← c.self.view_is) (
      ap (λ xs. turned_behind xs c.self.inside.coming) c.in-Some.ensures.items
          ∙ turned-push c.pop.new.self.items c.self.inside.coming c.in-Some.piece,
      omega (arith, ap length c.in-Some.ensures.items, length_push c.pop.new.self.items c.in-Some.piece),
    )
