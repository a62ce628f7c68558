use Rattle.std.proofs.Common.{◌≡◌, ◌∙◌, ap, arith, w32}
use Rattle.std.proofs.lemmas.Int.{ints, to_z-of_z}
use Rattle.etx_pack.specs.Packs.{vertical_depth, vertical_height}
use Rattle.etx_pack.proofs.packing.vertical_height.Goals as goal

pub returns-clause-value : goal.returns-clause-value
unfolding vertical_height
returns-clause-value c =
    let depth : c.vertical_depth.result ≡ vertical_depth c.args.max_depth c.args.natural =
    c.vertical_depth.ensures ∙ ap (λ max_depth. vertical_depth max_depth c.args.natural) (to_z-of_z w32 c.args.max_depth c.ranges.max_depth) in
    omega (arith, ints, depth)
