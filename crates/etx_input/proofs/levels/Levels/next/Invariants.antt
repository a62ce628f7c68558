use Rattle.std.proofs.Common.{◌≡◌, length}
use Rattle.etx_input.specs.Levels.{given_of}
use Rattle.etx_input.specs.Marks.{input_of, Keeps}
use Rattle.etx_input.proofs.levels.Levels.next.Given as goal

abbrev pub invariant-levels : goal.invariant-levels
invariant-levels g l = record {
  given : given_of (g.C.CatOf.category l.cats) l.fn.endline (input_of l.self) ≡ given_of (g.C.CatOf.category l.fn.cats) l.fn.endline (input_of l.fn.self);
  kept : Keeps l.fn.self l.self;
}

abbrev pub decreases-levels : goal.decreases-levels
decreases-levels g l = length (input_of l.self).levels
