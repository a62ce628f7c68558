use Rattle.etx_hyphen.proofs.Nested.{cut_nested}
use Rattle.etx_hyphen.proofs.parts.cut_at.Goals as goal

pub returns-clause-nested : goal.returns-clause-nested
returns-clause-nested c =
    cut_nested c.args.font.now c.args.hyphen c.args.ends c.args.letters.now c.args.word.now c.from-place.result c.in_ok-cut.cut
    (record {
      left = c.in_ok-left.left;
      right = c.in_ok-right.right;
      reads_left = c.in_ok-left.ensures;
      reads_right = c.in_ok-right.ensures;
      is = c.in_ok-cut.ensures;
    })
