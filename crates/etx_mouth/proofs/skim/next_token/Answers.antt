use Rattle.std.proofs.Common.{◌≡◌, ◌<◌, [], length, arith, rules}
use Rattle.etx_state.specs.Mouths.{mouth_of}
use Rattle.etx_mouth.proofs.Skims.{next_is}
use Rattle.etx_mouth.proofs.skim.next_token.Goals as goal

pub returns-in-len1-up : goal.returns-in-len1-up
returns-in-len1-up c =
    let none : (mouth_of c.args.s.now).entries ≡ [] = search rules in
    let depth : length (mouth_of c.args.s.now).input.levels < 10000 = omega (arith, c.depth.ensures, c.if-depth-ge-MOST.false) in
    next_is (mouth_of c.args.s.now) c.fresh.result.now _ none depth c.fresh.ensures c.in-len1-up.len_at_least
