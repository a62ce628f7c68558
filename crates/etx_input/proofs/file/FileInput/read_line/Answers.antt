use Rattle.std.proofs.Common.{◌≡◌, ◌+◌, ◌-◌, ◌≤◌, ◌++◌, List, ℕ, Some, refl, sym, ◌∙◌, ap, take, drop, length, length-take, arith}
use Rattle.std.proofs.lemmas.Int.{to_z-of_z}
use Rattle.std.proofs.lemmas.List.{take-take}
use Rattle.std.specs.Option.{option_to_list}
use mir.Syntax.{w32}
use Rattle.etx_lexer.specs.Splitting.{first_line}
use Rattle.etx_lexer.specs.Places.{rest_of, end_of_line, line_of, trimmed}
use Rattle.etx_lexer.specs.declared.place.LinePlace.{LinePlace}
use Rattle.etx_input.specs.Files.{FileState, lines_of, line_within}
use Rattle.etx_input.proofs.Lines.{lines_of-none, lines_of-some, end_is, line_kept}
use Rattle.etx_input.proofs.file.FileInput.read_line.Goals as goal

pub returns-in-None : goal.returns-in-None
returns-in-None c = (
  ap (λ (v : FileState). v.lines) (sym c.self.view_is) ∙ lines_of-none _ (ap (λ (t : List ℕ). first_line (drop c.self.inside.next t)) (sym c.as_slice-text.ensures.same) ∙ c.in-None.ensures.line),
  refl,
)

pub returns-in-Some : goal.returns-in-Some
returns-in-Some c =
    let text = c.self.inside.text in
    let span = c.in-Some.span in
    let line = take (span.end - span.start) (drop span.start text) in
    let lines = lines_of (drop span.next text) in
    let same = c.as_slice-text.ensures.same in
    let there : first_line (drop c.self.inside.next text) ≡ Some (record { line = line; rest = drop span.next text }) =
    ap (λ (t : List ℕ). first_line (drop c.self.inside.next t)) (sym same)
    ∙ c.in-Some.ensures.line
    ∙ ap (λ (t : List ℕ). Some (record { line = take (span.end - span.start) (drop span.start t); rest = drop span.next t })) same in
    let kept = c.trimmed_length-kept.result in
    let cut : take kept line ≡ trimmed line = ap (λ (t : List ℕ). take kept (take (span.end - span.start) (drop span.start t))) (sym same) ∙ c.trimmed_length-kept.ensures.value ∙ ap (λ (t : List ℕ). trimmed (take (span.end - span.start) (drop span.start t))) same in
    let small : kept ≤ span.end - span.start = omega (arith, c.trimmed_length-kept.ensures.small, length-take (span.end - span.start) (drop span.start c.as_slice-text.result.now)) in
    let end : option_to_list c.end_character-self-inside.result ≡ end_of_line c.args.endline = end_is _ _ c.end_character-self-inside.ensures ∙ ap end_of_line (to_z-of_z w32 c.args.endline c.ranges.endline) in
    let read = ap (λ (p : LinePlace). rest_of (line_within text span.start (span.start + kept) c.end_character-self-inside.result) p) c.start-self-inside.ensures
    ∙ line_kept text span.start (span.end - span.start) kept c.end_character-self-inside.result c.args.endline small cut end in
    let state = ap (λ (p : LinePlace). p.state) c.start-self-inside.ensures in
    let number = ap (λ (v : FileState). v.number + 1) c.self.view_is in (
      line,
      lines,
      ap (λ (v : FileState). v.lines) (sym c.self.view_is) ∙ lines_of-some _ _ there,
      λ i. record { line = read i; state = state i; number = number i; lines = lines },
    )
