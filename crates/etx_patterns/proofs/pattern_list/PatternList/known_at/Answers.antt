use Rattle.std.proofs.Common.{◌≡◌, [], sym, ap, ◌∙◌, arith}
use Rattle.std.proofs.lemmas.List.{get_or_read}
use Rattle.etx_patterns.specs.Shapes.{has_digit}
use Rattle.etx_patterns.specs.declared.tables.Pattern.{Pattern}
use Rattle.etx_patterns.proofs.Lookups.{unknown_nowhere, unknown_here, known_here, known_only, entry_pattern}
use Rattle.etx_patterns.proofs.pattern_list.PatternList.known_at.Goals as goal

pub returns-in_err-at : goal.returns-in_err-at
returns-in_err-at c =
    rw (c.from_residual.ensures, ← c.self.view_is)
    (unknown_nowhere c.self.inside.trie c.self.inside.patterns.items c.args.path.now c.self.invariant.indexed c.in_err-at.ensures)

pub returns-in_err-entry : goal.returns-in_err-entry
returns-in_err-entry c =
    rw (c.from_residual-in_err-entry.ensures, ← c.self.view_is)
    (unknown_here c.self.inside.trie c.self.inside.patterns.items c.args.path.now c.in_ok-at.at c.self.invariant.indexed c.in_ok-at.ensures (sym c.in_err-entry.ensures))

pub index-requires : goal.index-requires
index-requires c =
    let found = entry_pattern c.self.inside.trie c.self.inside.patterns.items c.in_ok-at.at c.in_ok-entry.entry c.self.invariant.indexed c.in_ok-at.ensures.within (sym c.in_ok-entry.ensures) in
    omega (arith, c.self.inside.patterns.ok.0, found.0)

pub returns-then-has_digit : goal.returns-then-has_digit
returns-then-has_digit c =
    let found = entry_pattern c.self.inside.trie c.self.inside.patterns.items c.in_ok-at.at c.in_ok-entry.entry c.self.invariant.indexed c.in_ok-at.ensures.within (sym c.in_ok-entry.ensures) in
    let read = get_or_read c.self.inside.patterns.items c.in_ok-entry.entry c.index.result.now found.0 c.index.ensures (record { language = 0; steps = [] }) in
    rw (← c.self.view_is)
    (known_only c.self.inside.trie c.self.inside.patterns.items c.args.path.now c.in_ok-at.at c.in_ok-entry.entry c.self.invariant.indexed c.in_ok-at.ensures (sym c.in_ok-entry.ensures)
    (sym (c.has_digit.ensures ∙ ap has_digit c.as_slice.ensures.same ∙ ap (λ (it : Pattern). has_digit it.steps) read) ∙ c.if-has_digit.true))

pub returns-else-has_digit : goal.returns-else-has_digit
returns-else-has_digit c =
    let found = entry_pattern c.self.inside.trie c.self.inside.patterns.items c.in_ok-at.at c.in_ok-entry.entry c.self.invariant.indexed c.in_ok-at.ensures.within (sym c.in_ok-entry.ensures) in
    let read = get_or_read c.self.inside.patterns.items c.in_ok-entry.entry c.index.result.now found.0 c.index.ensures (record { language = 0; steps = [] }) in
    rw (← c.self.view_is)
    (sym (known_here c.self.inside.trie c.self.inside.patterns.items c.args.path.now c.in_ok-at.at c.in_ok-entry.entry c.self.invariant.indexed c.in_ok-at.ensures (sym c.in_ok-entry.ensures))
    ∙ sym (c.has_digit.ensures ∙ ap has_digit c.as_slice.ensures.same ∙ ap (λ (it : Pattern). has_digit it.steps) read) ∙ c.if-has_digit.false)
