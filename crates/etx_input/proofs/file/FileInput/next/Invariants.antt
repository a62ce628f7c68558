use Rattle.std.proofs.Common.{◌≡◌, length}
use Rattle.etx_input.specs.Files.{got_of}
use Rattle.etx_input.proofs.file.FileInput.next.Given as goal

abbrev pub invariant-lines : goal.invariant-lines
invariant-lines g l = got_of (g.C.CatOf.category l.cats) l.fn.endline l.self ≡ got_of (g.C.CatOf.category l.fn.cats) l.fn.endline l.fn.self

abbrev pub decreases-lines : goal.decreases-lines
decreases-lines g l = length l.self.lines
