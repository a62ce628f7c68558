use Rattle.std.proofs.Common.{◌<◌, ℕ, List, length, sym, ◌∙◌, subst, nat_eq}
use Rattle.std.specs.Cmp.Lexicographic.{pointwise, bytes_decides}
use Rattle.etx_state.specs.Naming.{IsFresh}
use Rattle.etx_state.proofs.Naming.{added, added_invariant}
use Rattle.etx_state.proofs.names.Names.add.Goals as goal

pub invariant_of-self-2 : goal.invariant_of-self-2
invariant_of-self-2 c = added_invariant (λ k. k.items) (λ k. pointwise nat_eq c.in_ok-text.text.items k.items) c.args.name.now
    (λ k h. sym ((bytes_decides c.in_ok-text.text.items k.items).0 h) ∙ c.in_ok-text.ensures.items) 1048576 c.self.inside.texts.keys c.insert.new.self.keys c.in_ok-text.text
    (subst (λ (ns : List (List ℕ)). IsFresh ns c.args.name.now) (sym c.self.view_is) c.requires.fresh) c.in_ok-text.ensures.items c.in_ok-insert.ensures.keys
    (subst (λ (ns : List (List ℕ)). length ns < 1048576) (sym c.self.view_is) c.requires.room) c.self.invariant.1

pub returns-clause-ok : goal.returns-clause-ok
returns-clause-ok c = rw (← c.self.view_is) (added (λ k. k.items) (λ k. pointwise nat_eq c.in_ok-text.text.items k.items) c.args.name.now
    (λ k h. sym ((bytes_decides c.in_ok-text.text.items k.items).0 h) ∙ c.in_ok-text.ensures.items) c.self.inside.texts.keys c.insert.new.self.keys c.in_ok-text.text
    (subst (λ (ns : List (List ℕ)). IsFresh ns c.args.name.now) (sym c.self.view_is) c.requires.fresh) c.in_ok-text.ensures.items c.in_ok-insert.ensures.keys)
