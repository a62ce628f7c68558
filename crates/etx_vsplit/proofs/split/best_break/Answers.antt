use Rattle.std.proofs.Common.{◌≡◌, ◌<◌, ◌≤◌, ◌+◌, Bool, List, length, get_or, ap, sym, subst, ◌∙◌}
use Rattle.std.specs.Prelude.{slice_get, Option, Some}
use Rattle.etx_matter.specs.declared.node.Node.{Node}
use Rattle.etx_vsplit.specs.declared.trial.Trial.{Trial}
use Rattle.etx_vsplit.specs.Breaks.{is_glue_there, trial_at}
use Rattle.etx_vsplit.specs.Splits.{cheaper_of, split_at}
use Rattle.etx_vsplit.proofs.Standing.{nothing_stands}
use Rattle.etx_vsplit.proofs.Searching.{begins, goes_on, ends_here, ends_behind}
use Rattle.etx_vsplit.proofs.split.best_break.Goals as goal

pub loop-place-init : goal.loop-place-init
loop-place-init c =
    let wanted = c.args.wanted in
    record {
      stands = begins wanted.goal wanted.max_depth c.args.list.now c.empty-column.result c.new-shrinks.result (c.empty-column.ensures.value ∙ sym (nothing_stands wanted.max_depth)) c.new-shrinks.ensures;
      small = c.empty-column.ensures.small;
    }

pub returns-then-ends_search : goal.returns-then-ends_search
returns-then-ends_search c =
    let wanted = c.args.wanted in
    let nodes = c.args.list.now in
    let i = c.loop-place.place in
    let node = c.node-item.result in
    let column = c.loop-place.column in
    let same = c.as_slice-node-items.ensures.same in
    let glue : c.is_glue-before_glue.result ≡ is_glue_there (slice_get nodes (i + 1)) = c.is_glue-before_glue.ensures ∙ ap is_glue_there c.at.ensures in
    c.split_at.ensures
    ∙ ap (λ (o : Option Trial). split_at o c.loop-place.shrinks) c.cheaper_of-best.ensures
    ∙ ends_here wanted.goal wanted.max_depth nodes i node column c.loop-place.best c.trial_at-trial.result c.loop-place.shrinks c.loop-place.invariant.stands
    (subst (λ (xs : List Node). i < length xs) same c.loop-place-test.true)
    (c.node-item.is ∙ ap (λ (xs : List Node). get_or xs i node) same)
    (c.trial_at-trial.ensures ∙ ap (λ (g : Bool). trial_at wanted.goal i column g node) glue)
    (sym c.if-ends_search.ensures)

pub loop-place-preserved : goal.loop-place-preserved
loop-place-preserved c =
    let wanted = c.args.wanted in
    let nodes = c.args.list.now in
    let i = c.loop-place.place in
    let node = c.node-item.result in
    let column = c.loop-place.column in
    let same = c.as_slice-node-items.ensures.same in
    let glue : c.is_glue-before_glue.result ≡ is_glue_there (slice_get nodes (i + 1)) = c.is_glue-before_glue.ensures ∙ ap is_glue_there c.at.ensures in
    record {
      stands = goes_on wanted.goal wanted.max_depth nodes i node column c.add.new.column c.loop-place.best c.cheaper_of-best.result c.trial_at-trial.result c.loop-place.shrinks c.note.new.places c.loop-place.invariant.stands
          (subst (λ (xs : List Node). i < length xs) same c.loop-place-test.true)
          (c.node-item.is ∙ ap (λ (xs : List Node). get_or xs i node) same)
          (c.trial_at-trial.ensures ∙ ap (λ (g : Bool). trial_at wanted.goal i column g node) glue)
          (sym c.if-ends_search.ensures)
          c.cheaper_of-best.ensures
          c.add.ensures.value
          c.in_ok-note.ensures;
      small = c.add.ensures.small i c.loop-place.invariant.small;
    }

pub returns : goal.returns
returns c =
    let wanted = c.args.wanted in
    let nodes = c.args.list.now in
    let i = c.loop-place.place in
    let column = c.loop-place.column in
    let same = c.as_slice-node-items.ensures.same in
    c.split_at-2.ensures
    ∙ ap (λ (o : Option Trial). split_at o c.loop-place.shrinks) (c.cheaper_of.ensures ∙ ap (λ (end : Trial). cheaper_of c.loop-place.best (Some end)) c.trial_at_end-end.ensures)
    ∙ ends_behind wanted.goal wanted.max_depth nodes i column c.loop-place.best c.loop-place.shrinks c.loop-place.invariant.stands
    (subst (λ (xs : List Node). length xs ≤ i) same c.loop-place-test.false)
