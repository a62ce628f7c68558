use Rattle.std.proofs.Common.{◌≡◌, ◌++◌, ◌∷◌, [], ap, ◌∙◌, arith}
use Rattle.etx_patterns.specs.Tables.{new_pattern}
use Rattle.etx_patterns.proofs.Indexing.{noted}
use Rattle.etx_patterns.proofs.Keeping.{patterns_grown, pattern_pushed}
use Rattle.etx_patterns.proofs.pattern_list.PatternList.push.Goals as goal

pub invariant_of-self : goal.invariant_of-self
invariant_of-self c = patterns_grown _ _ _ _ c.self.invariant c.in_err-at.ensures.grows

pub invariant_of-self-in_err-push : goal.invariant_of-self-in_err-push
invariant_of-self-in_err-push c = rw c.in_err-push.ensures.items (patterns_grown _ _ _ _ c.self.invariant c.in_ok-at.ensures.grows)

pushed : (c : goal.After-self-1) → c.push.new.self.items ≡ c.self.inside.patterns.items ++ new_pattern c.args.language c.args.steps.now ∷ []
pushed c = cc (c.in_ok-push.ensures.items, c.in_ok-steps.ensures)

pub invariant_of-self-2 : goal.invariant_of-self-2
invariant_of-self-2 c =
    pattern_pushed c.self.inside.trie c.reach.new.self c.set_entry.new.self c.self.inside.patterns.items c.push.new.self.items
    c.self.inside.letters _ c.args.language c.in_ok-at.at c.args.steps.now c.args.path.now
    c.self.invariant c.in_ok-at.ensures.grows c.in_ok-at.ensures.ok c.requires.path (rw (← c.self.view_is) at c.requires.unknown) (rw (← c.self.view_is) at c.requires.room)
    (c.set_entry.ensures ∙ ap (noted c.reach.new.self c.in_ok-at.at) (omega (arith, c.self.inside.patterns.ok.0))) (pushed c) (omega arith)
