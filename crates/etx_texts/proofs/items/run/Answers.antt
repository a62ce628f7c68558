use Rattle.etx_tfm.specs.declared.piece.Neighbour.TheVariants.{Boundary}
use Rattle.etx_hyphen.proofs.Nested.{reading_nested}
use Rattle.etx_texts.proofs.items.run.Goals as goal

pub returns : goal.returns
returns c = reading_nested c.args.font.now c.args.chars.now Boundary Boundary c.in_ok-reading.reading c.in_ok-reading.ensures.places
