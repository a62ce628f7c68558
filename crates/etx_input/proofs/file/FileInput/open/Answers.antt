use Rattle.std.proofs.Common.{◌≡◌, ◌∷◌, [], Bool, true, false, ℤ, ℕ, List, sym, ◌∙◌, ap, subst}
use Rattle.std.proofs.lemmas.Int.{to_z-of_z}
use mir.Syntax.{w32}
use Rattle.etx_input.specs.Files.{FileState, ReadsLine, line_read, unread, lines_of, opened, opened_as}
use Rattle.etx_input.proofs.file.FileInput.open.Goals as goal
use Rattle.etx_input.proofs.file.FileInput.open.Goals.{then-not-read_line, else-not-read_line}

pub read_nothing-requires-clause-first : goal.read_nothing-requires-clause-first
unfolding unread
read_nothing-requires-clause-first c =
    ap (λ (v : FileState). v.number) (c.if-not-read_line.ensures.1 ∙ c.in_ok-file.ensures)

pub returns : goal.returns
unfolding opened unread
returns c =
    let endline = c.args.endline in
    let same = to_z-of_z w32 endline c.ranges.endline in
    let text = c.args.text in
    elim c.if-not-read_line.branch [
      | then-not-read_line w ↦
          let is = w.if-not-read_line.ensures in
          let none : lines_of text ≡ [] = sym (ap (λ (v : FileState). v.lines) c.in_ok-file.ensures) ∙ is.0 in
          w.file-is ∙ w.read_nothing.ensures ∙ ap (λ (e : ℤ). opened_as e []) same ∙ sym (ap (opened_as endline) none)
      | else-not-read_line w ↦
          let is = subst (λ (e : ℤ). ReadsLine e true c.in_ok-file.file c.read_line.new.self) same w.if-not-read_line.ensures in
          let some : lines_of text ≡ is.0 ∷ is.1 = sym (ap (λ (v : FileState). v.lines) c.in_ok-file.ensures) ∙ is.2 in
          let number = ap (λ (v : FileState). v.number) c.in_ok-file.ensures in
          w.file-is ∙ is.3 ∙ ap (λ (n : ℕ). line_read endline is.0 n is.1) number ∙ sym (ap (opened_as endline) some)
    ]
