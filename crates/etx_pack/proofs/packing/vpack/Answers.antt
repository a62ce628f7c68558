use Rattle.std.proofs.Common.{◌≡◌, w32, to_z, of_z}
use Rattle.std.proofs.lemmas.Int.{to_z-of_z}
use Rattle.etx_pack.specs.Packs.{vpacked}
use Rattle.etx_pack.proofs.packing.vpack.Goals as goal

pub returns-clause-packed : goal.returns-clause-packed
unfolding vpacked
returns-clause-packed c =
    let depth : to_z w32 (of_z w32 c.args.max_depth) ≡ c.args.max_depth = to_z-of_z w32 c.args.max_depth c.ranges.max_depth in
    cc
