use Rattle.std.proofs.Common.{◌≡◌, [], ap, sym, ◌∙◌, subst, set}
use Rattle.std.proofs.lemmas.List.{get_or_read}
use Rattle.etx_patterns.specs.declared.tables.Pattern.{Pattern}
use Rattle.etx_patterns.specs.Tables.{pattern_path, new_pattern, IsKnownAt}
use Rattle.etx_patterns.proofs.Keeping.{pattern_replaced, replaces}
use Rattle.etx_patterns.proofs.Lookups.{replaced-found}
use Rattle.etx_patterns.proofs.pattern_list.PatternList.replace.Goals as goal

pub invariant_of-self : goal.invariant_of-self
invariant_of-self c =
    let found : IsKnownAt c.self.inside.patterns.items c.args.path.now c.in-Some.entry = rw (← c.self.view_is) at c.in-Some.ensures in
    let read = get_or_read c.self.inside.patterns.items c.in-Some.entry c.index_mut.result.now found.within c.index_mut.ensures.value (record { language = 0; steps = [] }) in
    let new = replaces c.self.inside.patterns.items c.args.path.now c.in-Some.entry c.args.language c.args.steps.now c.in_ok-steps.steps c.index_mut.result.now found c.requires.path read c.in_ok-steps.ensures in
    rw new
    (pattern_replaced c.self.inside.trie c.self.inside.patterns.items c.self.inside.letters c.in-Some.entry (new_pattern c.args.language c.args.steps.now) c.self.invariant
    (rw c.requires.path at found))

pub returns-in-Some-clause-ok : goal.returns-in-Some-clause-ok
returns-in-Some-clause-ok c =
    let found : IsKnownAt c.self.inside.patterns.items c.args.path.now c.in-Some.entry = rw (← c.self.view_is) at c.in-Some.ensures in
    let read = get_or_read c.self.inside.patterns.items c.in-Some.entry c.index_mut.result.now found.within c.index_mut.ensures.value (record { language = 0; steps = [] }) in
    let new = replaces c.self.inside.patterns.items c.args.path.now c.in-Some.entry c.args.language c.args.steps.now c.in_ok-steps.steps c.index_mut.result.now found c.requires.path read c.in_ok-steps.ensures in
    rw (← c.self.view_is)
    (ap (set c.self.inside.patterns.items c.in-Some.entry) new
    ∙ sym
    (replaced-found c.self.inside.patterns.items (new_pattern c.args.language c.args.steps.now) c.in-Some.entry found.within (found.path_is ∙ c.requires.path) found.digit
    (λ j low e d. found.only j low (e ∙ sym c.requires.path) d)))
