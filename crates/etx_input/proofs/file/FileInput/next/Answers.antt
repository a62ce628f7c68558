use Rattle.std.proofs.Common.{◌≡◌, [], ◌∷◌, ℤ, true, false, Some, sym, ◌∙◌, ap, subst}
use Rattle.std.proofs.lemmas.Int.{to_z-of_z}
use mir.Syntax.{w32}
use Rattle.etx_lexer.specs.Lex.{lexed_of}
use Rattle.etx_lexer.specs.declared.lexed.Lexed.{Lexed}
use Rattle.etx_input.specs.Files.{FileState, Got, ReadsLine, line_read, behind, got_of}
use Rattle.etx_input.proofs.Lines.{got_of-got, got_of-over, got_of-line}
use Rattle.etx_input.proofs.file.FileInput.next.Goals as goal

pub returns-then-not-read_line-clause-lexed : goal.returns-then-not-read_line-clause-lexed
returns-then-not-read_line-clause-lexed g c =
    let cats = g.C.CatOf.category c.args.cats.now in
    let endline = c.args.endline in
    let v : FileState = c.lines.self in
    let same = to_z-of_z w32 endline c.ranges.endline in
    let kept : got_of cats endline v ≡ got_of cats endline c.args.self.now = subst (λ (e : ℤ). got_of cats e v ≡ got_of cats e c.args.self.now) same c.lines.invariant in
    let read = subst (λ (e : ℤ). ReadsLine e false c.lex.new.self c.read_line.new.self) same c.if-not-read_line.ensures in
    let none : v.lines ≡ [] = sym (ap (λ (u : FileState). u.lines) c.in_ok-lexed.ensures.file) ∙ read.0 in
    let over = got_of-over cats endline v (sym c.in_ok-lexed.ensures.lexed ∙ c.in-LineEnd.is) none in
    sym (ap (λ (n : Got). n.lexed) (sym kept ∙ over))

pub returns-then-not-read_line-clause-file : goal.returns-then-not-read_line-clause-file
returns-then-not-read_line-clause-file g c =
    let cats = g.C.CatOf.category c.args.cats.now in
    let endline = c.args.endline in
    let v : FileState = c.lines.self in
    let same = to_z-of_z w32 endline c.ranges.endline in
    let kept : got_of cats endline v ≡ got_of cats endline c.args.self.now = subst (λ (e : ℤ). got_of cats e v ≡ got_of cats e c.args.self.now) same c.lines.invariant in
    let read = subst (λ (e : ℤ). ReadsLine e false c.lex.new.self c.read_line.new.self) same c.if-not-read_line.ensures in
    let none : v.lines ≡ [] = sym (ap (λ (u : FileState). u.lines) c.in_ok-lexed.ensures.file) ∙ read.0 in
    let over = got_of-over cats endline v (sym c.in_ok-lexed.ensures.lexed ∙ c.in-LineEnd.is) none in
    read.1
    ∙ c.in_ok-lexed.ensures.file
    ∙ ap (behind (lexed_of cats v.line v.state) v.number) none
    ∙ sym (ap (λ (n : Got). n.file) (sym kept ∙ over))

pub lines-preserved : goal.lines-preserved
lines-preserved g c =
    let cats = g.C.CatOf.category c.args.cats.now in
    let endline = c.args.endline in
    let v : FileState = c.lines.self in
    let same = to_z-of_z w32 endline c.ranges.endline in
    let kept : got_of cats endline v ≡ got_of cats endline c.args.self.now = subst (λ (e : ℤ). got_of cats e v ≡ got_of cats e c.args.self.now) same c.lines.invariant in
    let read = subst (λ (e : ℤ). ReadsLine e true c.lex.new.self c.read_line.new.self) same c.if-not-read_line.ensures in
    let more : v.lines ≡ read.0 ∷ read.1 = sym (ap (λ (u : FileState). u.lines) c.in_ok-lexed.ensures.file) ∙ read.2 in
    let is : c.read_line.new.self ≡ line_read endline read.0 v.number read.1 = read.3 ∙ ap (λ (u : FileState). line_read endline read.0 u.number read.1) c.in_ok-lexed.ensures.file in
    let next = ap (got_of cats endline) is ∙ sym (got_of-line cats endline v read.0 read.1 (sym c.in_ok-lexed.ensures.lexed ∙ c.in-LineEnd.is) more) ∙ kept in
    subst (λ (e : ℤ). got_of cats e c.read_line.new.self ≡ got_of cats e c.args.self.now) (sym same) next

pub returns-in_default : goal.returns-in_default
returns-in_default g c =
    let cats = g.C.CatOf.category c.args.cats.now in
    let v : FileState = c.lines.self in
    let endline = c.args.endline in
    let kept : got_of cats endline v ≡ got_of cats endline c.args.self.now = subst (λ (e : ℤ). got_of cats e v ≡ got_of cats e c.args.self.now) (to_z-of_z w32 endline c.ranges.endline) c.lines.invariant in
    let got = got_of-got cats endline v (λ line_end. c.in_default.not-LineEnd (c.in_ok-lexed.ensures.lexed ∙ line_end)) in
    let there = sym kept ∙ got in
    record {
      lexed = ap (λ (l : Lexed). Some l) c.in_ok-lexed.ensures.lexed ∙ sym (ap (λ (n : Got). n.lexed) there);
      file = c.in_ok-lexed.ensures.file ∙ sym (ap (λ (n : Got). n.file) there);
    }
