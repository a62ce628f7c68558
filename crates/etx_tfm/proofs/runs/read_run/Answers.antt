use Rattle.std.proofs.Common.{◌≡◌, ◌-◌, [], length, ◌∙◌, ap, sym}
use Rattle.etx_tfm.specs.Machine.{no_edges, between}
use Rattle.etx_tfm.specs.Cleans.{touched_behind, is_clean}
use Rattle.etx_tfm.proofs.Running.{falls-step, no_next, reads-over, reads-last, reads-step, noted-place, clean-untouched, reads_rewrites}
use Rattle.etx_tfm.proofs.runs.read_run.Goals as goal

pub returns-in-None-clause-places : goal.returns-in-None-clause-places
returns-in-None-clause-places c = reads-over c.args.font.now (length c.args.chars.now) 0 c.steps.rest.touched no_edges (between c.args.chars.now c.args.left c.args.right) c.steps.nodes c.steps.edges c.steps.rest.items c.steps.places c.steps.invariant c.in-None.ensures.0

pub returns-in-None-clause-nodes : goal.returns-in-None-clause-nodes
returns-in-None-clause-nodes c =
    reads_rewrites c.args.font.now (length c.args.chars.now) 0 [] c.steps.nodes no_edges (between c.args.chars.now c.args.left c.args.right) [] c.steps.places
    (reads-over c.args.font.now (length c.args.chars.now) 0 c.steps.rest.touched no_edges (between c.args.chars.now c.args.left c.args.right) c.steps.nodes c.steps.edges c.steps.rest.items c.steps.places c.steps.invariant c.in-None.ensures.0)

pub returns-in-None-next_item-clause-places : goal.returns-in-None-next_item-clause-places
returns-in-None-next_item-clause-places c =
    reads-last c.args.font.now (length c.args.chars.now) 0 c.steps.rest.touched no_edges (between c.args.chars.now c.args.left c.args.right) c.steps.nodes c.write.new.out c.steps.edges c.in-Some.current c.steps.rest.items c.pop.new.self.items c.steps.places c.steps.invariant
    c.in-Some.ensures.0 (no_next c.pop.new.self.items (sym c.in-None-next_item.ensures)) c.in_ok-write-in-None-next_item.ensures.nodes

pub returns-in-None-next_item-clause-nodes : goal.returns-in-None-next_item-clause-nodes
returns-in-None-next_item-clause-nodes c =
    reads_rewrites c.args.font.now (length c.args.chars.now) 0 [] c.write.new.out no_edges (between c.args.chars.now c.args.left c.args.right) [] c.steps.places
    (reads-last c.args.font.now (length c.args.chars.now) 0 c.steps.rest.touched no_edges (between c.args.chars.now c.args.left c.args.right) c.steps.nodes c.write.new.out c.steps.edges c.in-Some.current c.steps.rest.items c.pop.new.self.items c.steps.places c.steps.invariant
    c.in-Some.ensures.0 (no_next c.pop.new.self.items (sym c.in-None-next_item.ensures)) c.in_ok-write-in-None-next_item.ensures.nodes)

pub steps-smaller : goal.steps-smaller
steps-smaller c =
    falls-step c.args.font.now c.steps.nodes c.step.new.out c.steps.edges c.step.new.edges c.in-Some.current c.steps.rest.items c.pop.new.self.items c.step.new.rest.items
    c.in-Some-next_item.next c.action_at-action.result c.action_at-action.ensures.sound c.in-Some.ensures.0 (sym c.in-Some-next_item.ensures)
    c.in_ok-step-in-Some-next_item.ensures.ok c.action_at-action.ensures.action

pub note_place-requires : goal.note_place-requires
note_place-requires c =
    clean-untouched c.pop.new.self.touched c.step.new.rest.touched c.is_clean-clean.result c.in-Some.current c.action_at-action.result c.is_clean-clean.ensures
    c.in_ok-step-in-Some-next_item.ensures.touched

pub steps-preserved : goal.steps-preserved
steps-preserved c =
    let behind : c.pop.new.self.touched ≡ c.steps.rest.touched - 1 = c.in-Some.ensures.1 in
    reads-step c.args.font.now (length c.args.chars.now) 0 c.steps.rest.touched c.step.new.rest.touched no_edges (between c.args.chars.now c.args.left c.args.right) c.steps.nodes c.step.new.out c.steps.edges c.step.new.edges c.in-Some.current
    c.steps.rest.items c.pop.new.self.items c.step.new.rest.items c.in-Some-next_item.next c.action_at-action.result c.steps.places c.note_place.new.places
    c.steps.invariant c.in-Some.ensures.0 (sym c.in-Some-next_item.ensures) c.in_ok-step-in-Some-next_item.ensures.ok c.action_at-action.ensures.action
    (c.in_ok-step-in-Some-next_item.ensures.touched ∙ ap (λ n. touched_behind n c.action_at-action.result) behind)
    (noted-place c.args.font.now (length c.args.chars.now) (c.steps.rest.touched - 1) c.len.result c.steps.nodes c.step.new.out c.steps.edges c.step.new.edges c.in-Some.current
    c.pop.new.self.items c.step.new.rest.items c.in-Some-next_item.next c.action_at-action.result c.is_clean-clean.result c.steps.places c.note_place.new.places
    (c.is_clean-clean.ensures ∙ ap (λ n. is_clean n c.in-Some.current c.action_at-action.result) behind) (sym c.in-Some-next_item.ensures)
    c.in_ok-step-in-Some-next_item.ensures.ok c.len.ensures.len c.in_ok-note_place-in-Some-next_item.ensures)
