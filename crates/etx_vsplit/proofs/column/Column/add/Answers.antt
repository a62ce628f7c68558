use Rattle.std.proofs.Common.{ℤ, ap, ◌∙◌, arith, rules, w32, to_z, of_z}
use Rattle.std.proofs.lemmas.Int.{ints, to_z-of_z}
use Rattle.etx_vsplit.specs.Columns.{hang_within}
use Rattle.etx_vsplit.proofs.Standing.{column_is}
use Rattle.etx_vsplit.proofs.column.Column.add.Goals as goal

pub returns-clause-value : goal.returns-clause-value
returns-clause-value c =
    let column = c.args.self.now in
    let node = c.args.node.now in
    column_is c.args.max_depth column node _ _ _ _ _
    (omega (arith, ints, c.vertical_length.ensures.value))
    (to_z-of_z w32 c.hang_within-self.result (search rules)
    ∙ c.hang_within-self.ensures
    ∙ ap (λ (most : ℤ). hang_within most (to_z w32 (of_z w32 column.depth)) node) (to_z-of_z w32 c.args.max_depth c.ranges.max_depth)
    ∙ ap (λ (above : ℤ). hang_within c.args.max_depth above node) (to_z-of_z w32 column.depth (search rules)))
    c.add_stretch.ensures.value
    (omega (arith, ints, c.finite_shrink.ensures.value))
    c.stays-self.ensures

pub returns-clause-small : goal.returns-clause-small
returns-clause-small c = λ count h. record {
  length = omega (arith, ints, h.length);
  stretch = c.add_stretch.ensures.small count h.stretch;
  shrink = omega (arith, ints, h.shrink);
}
