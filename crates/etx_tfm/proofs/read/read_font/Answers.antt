use Rattle.std.proofs.Common.{◌≡◌, sym, ◌∙◌, ap, arith}
use Rattle.etx_tfm.specs.Lengths.{half_at}
use Rattle.etx_tfm.proofs.Sizes.{long, right, holds_header, codes_small}
use Rattle.etx_tfm.proofs.read.read_font.Goals as goal

pub read_lengths-lengths-requires : goal.read_lengths-lengths-requires
read_lengths-lengths-requires c = (long c.args.bytes.now (sym c.is_short.ensures ∙ c.if-is_short.false)).lengths

pub read_header-requires : goal.read_header-requires
read_header-requires c =
    let n = c.read_lengths-lengths.result in
    let whole = long c.args.bytes.now (sym c.is_short.ensures ∙ c.if-is_short.false) in
    let file : n.file ≡ half_at c.args.bytes.now 0 = ap (λ r. r.file) c.read_lengths-lengths.ensures in
    record {
      long = holds_header c.args.bytes.now n (omega (arith, whole.file)) (right n (sym c.has_wrong_sizes.ensures ∙ c.if-has_wrong_sizes.false));
      size = c.requires;
    }

pub read_checked-requires-clause-codes : goal.read_checked-requires-clause-codes
read_checked-requires-clause-codes c =
    let n = c.read_lengths-lengths.result in
    codes_small n (right n (sym c.has_wrong_sizes.ensures ∙ c.if-has_wrong_sizes.false))
