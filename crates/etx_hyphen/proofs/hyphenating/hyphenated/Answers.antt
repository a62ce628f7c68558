use Rattle.std.proofs.Common.{sym, subst}
use Rattle.etx_matter.specs.Nests.{AreNested}
use Rattle.etx_hyphen.specs.Hyphenations.{walk_start, IsRewritten, IsSoundWord}
use Rattle.etx_hyphen.specs.Words.{word_at}
use Rattle.etx_hyphen.proofs.Nested.{nested_none, nested_drop, nested_front_of, nested_tail_of, nested_both, nested_more}
use Rattle.etx_hyphen.proofs.Steps.{hyphenates-first, stays-step, rebuilt-step, hyphenates-end}
use Rattle.etx_hyphen.proofs.hyphenating.hyphenated.Goals as goal

pub loop-node-init : goal.loop-node-init
loop-node-init c = record {
  comes = hyphenates-first c.args.params.now (walk_start c.args.params.now) c.walk_start-walk.result c.args.list.now c.as_slice-rest.result.now c.in_ok-out.out
      c.walk_start-walk.ensures c.as_slice-rest.ensures.same c.in_ok-out.ensures;
  out = subst AreNested (sym c.in_ok-out.ensures) nested_none;
  rest = subst AreNested (sym c.as_slice-rest.ensures.same) c.requires;
}

pub loop-node-preserved-in-Some-2 : goal.loop-node-preserved-in-Some-2
loop-node-preserved-in-Some-2 c =
    let some = subst (IsRewritten (word_at c.args.params.now c.loop-node.walk c.loop-node.rest.now)) c.in-Some-2.is c.in_ok-word.ensures.word in
    let sound = subst IsSoundWord c.in-Some-2.is c.in_ok-word.ensures.sound in
    record {
      comes = rebuilt-step c.args.params.now (walk_start c.args.params.now) c.loop-node.walk c.behind_word-walk.result c.args.list.now c.loop-node.rest.now c.behind-rest.result.now
          c.loop-node.out c.append.new.self c.in-Some-2.word c.loop-node.invariant.comes some c.in_ok-append-in-Some-2.ensures.ok c.behind_word-walk.ensures c.behind-rest.ensures;
      out = nested_both c.loop-node.out c.in-Some-2.word.nodes c.append.new.self c.loop-node.invariant.out sound.1 c.in_ok-append-in-Some-2.ensures.ok;
      rest = subst AreNested (sym c.behind-rest.ensures) (nested_drop c.in-Some-2.word.count c.loop-node.rest.now c.loop-node.invariant.rest);
    }

pub loop-node-preserved : goal.loop-node-preserved
loop-node-preserved c =
    let none = subst (IsRewritten (word_at c.args.params.now c.loop-node.walk c.loop-node.rest.now)) c.in-None.is c.in_ok-word.ensures.word in
    let whole = c.in-Some.ensures.cases.0 in
    record {
      comes = stays-step c.args.params.now (walk_start c.args.params.now) c.loop-node.walk c.walk_behind-walk.result c.args.list.now c.loop-node.rest.now c.in-Some.tail.now
          c.loop-node.out c.push.new.self c.in-Some.node.now c.in_ok-copy-in-None.field-0 c.loop-node.invariant.comes whole none
          c.in_ok-push-in-None.ensures.ok c.in_ok-copy-in-None.ensures c.walk_behind-walk.ensures;
      out = nested_more c.loop-node.out c.in_ok-copy-in-None.field-0 c.push.new.self c.loop-node.invariant.out
          (nested_front_of c.loop-node.rest.now c.in-Some.node.now c.in-Some.tail.now c.in_ok-copy-in-None.field-0 c.loop-node.invariant.rest whole c.in_ok-copy-in-None.ensures)
          c.in_ok-push-in-None.ensures.ok;
      rest = nested_tail_of c.loop-node.rest.now c.in-Some.node.now c.in-Some.tail.now c.loop-node.invariant.rest whole;
    }

pub returns-clause-hyphenated : goal.returns-clause-hyphenated
returns-clause-hyphenated c =
    hyphenates-end c.args.params.now (walk_start c.args.params.now) c.loop-node.walk c.args.list.now c.loop-node.rest.now c.loop-node.out
    c.loop-node.invariant.comes c.in_default.ensures.cases
