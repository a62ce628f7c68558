use Rattle.etx_vsplit.specs.Columns.{IsSmall}
use Rattle.etx_vsplit.proofs.Searching.{Stands}
use Rattle.etx_vsplit.proofs.split.best_break.Given as goal

abbrev pub invariant-loop-place : goal.invariant-loop-place
invariant-loop-place l = record {
  stands : Stands l.wanted.goal l.wanted.max_depth l.list l.place l.column l.best l.shrinks;
  small : IsSmall l.place l.column;
}
