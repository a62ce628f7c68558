use Rattle.std.proofs.Common.{◌≡◌, ◌<◌, [], max, length, get_or, sym, ap, ◌∙◌, arith, rules}
use Rattle.std.proofs.lemmas.List.{get_or_read}
use Rattle.etx_patterns.specs.declared.tables.Pattern.{Pattern}
use Rattle.etx_patterns.specs.Shapes.{digit_from, shape}
use Rattle.etx_patterns.specs.Scores.{digit_of_entry}
use Rattle.etx_patterns.specs.Tables.{pattern_at}
use Rattle.etx_patterns.specs.Tree.{entry_at}
use Rattle.etx_patterns.proofs.Lookups.{entry_pattern}
use Rattle.etx_patterns.proofs.score.score_entry.Goals as goal

steps_are : (patterns : goal.In-Some) → patterns.in-Some.entry < length patterns.args.patterns.now
steps_are c = (entry_pattern c.args.trie.now c.args.patterns.now c.args.at c.in-Some.entry c.requires.indexed c.requires.within (sym c.entry.ensures ∙ c.in-Some.is)).0

pub returns-in-Some : goal.returns-in-Some
returns-in-Some c =
    let entry = sym c.entry.ensures ∙ c.in-Some.is in
    let found = entry_pattern c.args.trie.now c.args.patterns.now c.args.at c.in-Some.entry c.requires.indexed c.requires.within entry in
    let read = get_or_read c.args.patterns.now c.in-Some.entry c.index-patterns-entry.result found.0 c.index-patterns-entry.is (record { language = 0; steps = [] }) in
    let steps = c.as_slice.ensures.same ∙ ap (λ (it : Pattern). it.steps) (sym c.index-patterns-entry.is ∙ read) in
    λ place low.
    c.raise.ensures place low
    ∙ ap (λ n. max (get_or c.args.scores.now place 0) n)
    (ap (λ it. digit_from it c.args.start place) steps ∙ ap (λ it. digit_of_entry c.args.patterns.now it c.args.start place) (sym entry))

pub returns-in_default : goal.returns-in_default
returns-in_default c =
    let none = sym c.entry.ensures ∙ c.in_default.is in
    λ place low.
    let same : digit_of_entry c.args.patterns.now (entry_at c.args.trie.now c.args.at) c.args.start place ≡ 0 = ap (λ it. digit_of_entry c.args.patterns.now it c.args.start place) none in
    omega arith

pub offset_bounds-patterns-entry : goal.offset_bounds-patterns-entry
offset_bounds-patterns-entry c = let low = steps_are c in search rules

pub bounds-patterns-entry : goal.bounds-patterns-entry
bounds-patterns-entry c = steps_are c

pub raise-requires : goal.raise-requires
raise-requires c =
    let entry = sym c.entry.ensures ∙ c.in-Some.is in
    let found = entry_pattern c.args.trie.now c.args.patterns.now c.args.at c.in-Some.entry c.requires.indexed c.requires.within entry in
    let read = get_or_read c.args.patterns.now c.in-Some.entry c.index-patterns-entry.result found.0 c.index-patterns-entry.is (record { language = 0; steps = [] }) in
    let steps = c.as_slice.ensures.same ∙ ap (λ (it : Pattern). it.steps) (sym c.index-patterns-entry.is ∙ read) in
    let shapes : length (shape c.as_slice.result.now) ≡ length (shape (pattern_at c.args.patterns.now c.in-Some.entry).steps) = ap (λ it. length (shape it)) steps in
    let paths = ap length found.1 in
    omega arith
