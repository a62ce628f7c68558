use Rattle.std.proofs.Common.{◌≡◌, ◌+◌, [], ◌++◌, List, ℕ, refl, sym, ◌∙◌, ap, drop}
use Rattle.std.proofs.lemmas.Int.{to_z-of_z}
use Rattle.std.specs.Option.{option_to_list}
use mir.Syntax.{w32}
use Rattle.etx_lexer.specs.Places.{rest_of, end_of_line, trimmed}
use Rattle.etx_lexer.specs.declared.place.LinePlace.{LinePlace}
use Rattle.etx_input.specs.Files.{FileState, line_within}
use Rattle.etx_input.proofs.Lines.{end_is, line_empty}
use Rattle.etx_input.proofs.file.FileInput.read_nothing.Goals as goal

pub returns : goal.returns
returns c =
    let end : option_to_list c.end_character-self-inside.result ≡ end_of_line c.args.endline = end_is _ _ c.end_character-self-inside.ensures ∙ ap end_of_line (to_z-of_z w32 c.args.endline c.ranges.endline) in
    let read = ap (λ (p : LinePlace). rest_of (line_within c.self.inside.text 0 0 c.end_character-self-inside.result) p) c.start-self-inside.ensures
    ∙ line_empty c.self.inside.text c.end_character-self-inside.result c.args.endline end in
    let state = ap (λ (p : LinePlace). p.state) c.start-self-inside.ensures in
    let lines = ap (λ (v : FileState). v.lines) c.self.view_is ∙ c.requires.none in
    λ i. record { line = read i; state = state i; number = 1; lines = lines i }
