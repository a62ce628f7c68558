use Rattle.std.proofs.Common.{◌≡◌, ℕ, suc, ◌∙◌, ap, rules, arith}
use Rattle.etx_linebreak.specs.Choices.{last_rows}
use Rattle.etx_linebreak.specs.Passes.{break_count}
use Rattle.etx_linebreak.specs.Table.{table, rows_to, flat, live}
use Rattle.etx_linebreak.proofs.Living.{live_first, rows_first, live_groups, turn}
use Rattle.etx_linebreak.proofs.Numbering.{of_table}
use Rattle.etx_linebreak.proofs.pass.Pass.rows.Goals as goal

pub loop-index-init : goal.loop-index-init
loop-index-init c = (rw (rows_first c.args.self.now) (search rules), rw (live_first c.args.self.now) (search rules))

pub advance-requires : goal.advance-requires
advance-requires c = rw (c.deref.ensures.value, c.loop-index.invariant.1) (live_groups c.args.self.now _ _)

pub loop-index-preserved : goal.loop-index-preserved
loop-index-preserved c = turn _ _ _ _ _ _ c.loop-index.invariant.0 c.loop-index.invariant.1 (search rules) (search rules)

pub returns-clause-all : goal.returns-clause-all
unfolding table
returns-clause-all c =
    let e : c.loop-index.index ≡ break_count c.args.self.now = omega (arith, c.break_count-index-end.ensures) in
    c.loop-index.invariant.0 ∙ ap (λ (n : ℕ). flat (rows_to c.args.self.now n)) e

pub returns-clause-last : goal.returns-clause-last
unfolding last_rows
returns-clause-last c =
    let e : c.loop-index.index ≡ break_count c.args.self.now = omega (arith, c.break_count-index-end.ensures) in
    c.loop-index.invariant.1 ∙ ap (λ (n : ℕ). live c.args.self.now (suc n) (rows_to c.args.self.now n)) e

pub returns-clause-numbers : goal.returns-clause-numbers
unfolding table
returns-clause-numbers c =
    let e : c.loop-index.index ≡ break_count c.args.self.now = omega (arith, c.break_count-index-end.ensures) in
    rw (c.loop-index.invariant.0, e) (of_table c.args.self.now)
