use Rattle.std.proofs.Common.{w32, w64, to_z, of_z, rules}
use Rattle.std.proofs.lemmas.Int.{to_z-of_z}
use Rattle.etx_setlines.proofs.Distances.{under_by}
use Rattle.etx_setlines.proofs.between.glue_under.Goals as goal

pub returns : goal.returns
returns c =
    let baseline = c.args.skips.baseline.width in
    under_by c.args.skips c.args.depth c.args.height (to_z w64 (of_z w64 c.width_under.result)) c.width_under.result
    (to_z w32 (of_z w32 baseline)) (to_z w32 (of_z w32 c.args.depth)) (to_z w32 (of_z w32 c.args.height)) c.glue_by.result c.glue_by.ensures
    (to_z-of_z w64 c.width_under.result (search rules)) c.width_under.ensures (to_z-of_z w32 baseline (search rules))
    (to_z-of_z w32 c.args.depth c.ranges.depth) (to_z-of_z w32 c.args.height c.ranges.height)
