use Rattle.std.proofs.Common.{refl, arith}
use Rattle.etx_patterns.proofs.Walks.{along}
use Rattle.etx_patterns.proofs.Tries.{Grows-refl, Grows-trans}
use Rattle.etx_patterns.proofs.trie.Trie.reach.Goals as goal
use Rattle.etx_patterns.proofs.trie.Trie.reach.Goals.{in-None+in_ok-at-in-None, in-Some}

pub loop-mark-init : goal.loop-mark-init
loop-mark-init c = (Grows-refl _ c.root-at.ensures.sizes, c.root-at.ensures.root)

pub loop-mark-preserved : goal.loop-mark-preserved
loop-mark-preserved c =
    let here = c.loop-mark.invariant.1 in
    elim c.match-child.branch [
      | in-None+in_ok-at-in-None w ↦
          (rw w.self-is (Grows-trans _ _ _ c.loop-mark.invariant.0 w.in_ok-at-in-None.ensures.grows), rw (w.self-is, w.at-is) (along c.loop-mark.self _ c.args.path.now c.loop-mark.at _ c.loop-mark.mark-index _ _ here (omega arith) refl w.in_ok-at-in-None.ensures.ok))
      | in-Some w ↦
          (rw w.self-is c.loop-mark.invariant.0, rw (w.self-is, w.at-is) (along c.loop-mark.self _ c.args.path.now c.loop-mark.at _ c.loop-mark.mark-index _ _ here (omega arith) refl w.in-Some.ensures))
    ]
