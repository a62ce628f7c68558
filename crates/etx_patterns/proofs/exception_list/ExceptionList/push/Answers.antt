use Rattle.std.proofs.Common.{ap, sym, ◌∙◌, arith}
use Rattle.etx_patterns.specs.Tables.{exception_of}
use Rattle.etx_patterns.proofs.Indexing.{noted}
use Rattle.etx_patterns.proofs.Lookups.{put-new}
use Rattle.etx_patterns.proofs.Keeping.{exceptions_grown, exception_pushed}
use Rattle.etx_patterns.proofs.exception_list.ExceptionList.push.Goals as goal

pub invariant_of-self : goal.invariant_of-self
invariant_of-self c = exceptions_grown _ _ _ c.self.invariant c.in_err-at.ensures.grows

pub invariant_of-self-in_err-push : goal.invariant_of-self-in_err-push
invariant_of-self-in_err-push c = rw c.in_err-push.ensures.items (exceptions_grown _ _ _ c.self.invariant c.in_ok-at.ensures.grows)

pub invariant_of-self-2 : goal.invariant_of-self-2
invariant_of-self-2 c =
    exception_pushed c.self.inside.trie c.reach.new.self c.set_entry.new.self c.self.inside.exceptions.items c.push.new.self.items c.in_ok-at.at c.args.exception c.args.path.now
    c.self.invariant c.in_ok-at.ensures.grows c.in_ok-at.ensures.ok c.requires.path (rw (← c.self.view_is) at c.requires.unknown) (rw (← c.self.view_is) at c.requires.room)
    (c.set_entry.ensures ∙ ap (noted c.reach.new.self c.in_ok-at.at) (omega (arith, c.self.inside.exceptions.ok.0))) c.in_ok-push.ensures.items

pub returns-clause-ok : goal.returns-clause-ok
returns-clause-ok c =
    let none = rw (← c.self.view_is) at c.requires.unknown in
    rw (← c.self.view_is)
    (c.in_ok-push.ensures.items ∙ sym (put-new c.self.inside.exceptions.items c.args.exception (ap (exception_of c.self.inside.exceptions.items) (sym c.requires.path) ∙ none)))
