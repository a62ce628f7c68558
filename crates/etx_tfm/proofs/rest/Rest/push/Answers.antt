use Rattle.std.proofs.Common.{◌≡◌, ◌+◌, ◌++◌, ◌∷◌, [], length, arith}
use Rattle.std.proofs.lemmas.List.{length_push}
use Rattle.etx_tfm.proofs.Turned.{turned-push}
use Rattle.etx_tfm.proofs.rest.Rest.push.Goals as goal

pub returns-clause-ok : goal.returns-clause-ok
returns-clause-ok c =
    let counted : length (c.self.inside.touched.items ++ c.args.piece ∷ []) ≡ length c.self.inside.touched.items + 1 = omega (arith, length_push c.self.inside.touched.items c.args.piece) in
    let turned = turned-push c.self.inside.touched.items c.self.inside.coming c.args.piece in
    rw (← c.self.view_is, c.in_ok-push.ensures.items) (λ i. record { items = turned i; touched = counted i })
