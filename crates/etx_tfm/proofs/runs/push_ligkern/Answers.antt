use Rattle.std.proofs.Common.{◌≡◌, ◌∷◌, ◌∙◌, ap, sym}
use Rattle.etx_tfm.specs.Machine.{no_edges, edged}
use Rattle.etx_matter.specs.declared.font.LigItem.TheVariants.{Glyph}
use Rattle.etx_tfm.specs.declared.piece.Piece.TheVariants.{Letter}
use Rattle.etx_tfm.specs.Cleans.{RestState}
use Rattle.etx_tfm.proofs.Passing.{comes-over, comes-last}
use Rattle.etx_tfm.proofs.Running.{comes-step, falls-step, no_next}
use Rattle.etx_tfm.proofs.Beginnings.{begins-over}
use Rattle.etx_tfm.proofs.runs.push_ligkern.Goals as goal

pub returns-in-None-clause-ok : goal.returns-in-None-clause-ok
returns-in-None-clause-ok c =
    let same : c.pop_letter.new.self ≡ c.steps.rest = c.in_default.ensures in
    comes-over c.args.font.now c.args.out.now no_edges (edged c.args.chars.now c.args.left c.args.right) c.steps.out c.steps.edges c.steps.rest.items c.steps.invariant.comes
    (ap (λ (it : RestState). it.items) (sym same) ∙ c.in-None.ensures.0)

pub returns-in-None-next_item-clause-ok : goal.returns-in-None-next_item-clause-ok
returns-in-None-next_item-clause-ok c =
    let same : c.pop_letter.new.self ≡ c.steps.rest = c.in_default.ensures in
    comes-last c.args.font.now c.args.out.now no_edges (edged c.args.chars.now c.args.left c.args.right) c.steps.out c.write.new.out c.steps.edges c.in-Some-pop.current c.steps.rest.items c.steps.invariant.comes
    (ap (λ (it : RestState). it.items) (sym same) ∙ c.in-Some-pop.ensures.0 ∙ ap (λ rest. c.in-Some-pop.current ∷ rest) (no_next c.pop.new.self.items (sym c.in-None-next_item.ensures))) c.in_ok-write-in-None-next_item.ensures.nodes

pub steps-smaller : goal.steps-smaller
steps-smaller c =
    let same : c.pop_letter.new.self ≡ c.steps.rest = c.in_default.ensures in
    falls-step c.args.font.now c.steps.out c.step.new.out c.steps.edges c.step.new.edges c.in-Some-pop.current c.steps.rest.items c.pop.new.self.items c.step.new.rest.items
    c.in-Some-next_item.next c.action_at-action.result c.action_at-action.ensures.sound (ap (λ (it : RestState). it.items) (sym same) ∙ c.in-Some-pop.ensures.0) (sym c.in-Some-next_item.ensures)
    c.in_ok-step-in-Some-next_item.ensures.ok c.action_at-action.ensures.action

pub steps-preserved : goal.steps-preserved
steps-preserved c =
    let same : c.pop_letter.new.self ≡ c.steps.rest = c.in_default.ensures in
    record {
      comes = comes-step c.args.font.now c.args.out.now no_edges (edged c.args.chars.now c.args.left c.args.right) c.steps.out c.step.new.out c.steps.edges c.step.new.edges c.in-Some-pop.current c.steps.rest.items c.pop.new.self.items
          c.step.new.rest.items c.in-Some-next_item.next c.action_at-action.result c.steps.invariant.comes (ap (λ (it : RestState). it.items) (sym same) ∙ c.in-Some-pop.ensures.0) (sym c.in-Some-next_item.ensures)
          c.in_ok-step-in-Some-next_item.ensures.ok c.action_at-action.ensures.action;
      begins = begins-over c.args.out.now c.steps.out c.step.new.out c.steps.invariant.begins c.in_ok-step-in-Some-next_item.ensures.begins;
    }

pub steps-smaller-in-Some : goal.steps-smaller-in-Some
steps-smaller-in-Some c =
    falls-step c.args.font.now c.steps.out c.step_letter.new.out c.steps.edges c.step_letter.new.edges (Letter c.in-Some.code) c.steps.rest.items c.pop_letter.new.self.items c.step_letter.new.rest.items
    (Glyph c.in-Some.behind) c.action_of-paired.result c.action_of-paired.ensures.sound c.in-Some.ensures.0 c.in-Some.ensures.1
    c.in_ok-step_letter.ensures.ok c.action_of-paired.ensures.action

pub steps-preserved-in-Some : goal.steps-preserved-in-Some
steps-preserved-in-Some c = record {
  comes = comes-step c.args.font.now c.args.out.now no_edges (edged c.args.chars.now c.args.left c.args.right) c.steps.out c.step_letter.new.out c.steps.edges c.step_letter.new.edges (Letter c.in-Some.code) c.steps.rest.items
      c.pop_letter.new.self.items c.step_letter.new.rest.items (Glyph c.in-Some.behind) c.action_of-paired.result c.steps.invariant.comes c.in-Some.ensures.0 c.in-Some.ensures.1
      c.in_ok-step_letter.ensures.ok c.action_of-paired.ensures.action;
  begins = begins-over c.args.out.now c.steps.out c.step_letter.new.out c.steps.invariant.begins c.in_ok-step_letter.ensures.begins;
}
