use Rattle.std.proofs.Common.{sym}
use Rattle.etx_tfm.proofs.Turned.{letters_in-between}
use Rattle.etx_tfm.proofs.coming.Coming.letter_count.Goals as goal

pub returns : goal.returns
returns c = rw (← c.self.view_is) (sym (letters_in-between c.self.inside.letters.now c.self.inside.left c.self.inside.right))
