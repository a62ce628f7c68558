use Rattle.std.proofs.Common.{◌≡◌, ap, sym, ◌∙◌, length}
use Rattle.etx_tfm.specs.Cleans.{RestState}
use Rattle.etx_tfm.proofs.Turned.{letters_in-untouched}
use Rattle.etx_tfm.proofs.rest.Rest.letter_count.Goals as goal

pub returns : goal.returns
returns c =
    let none : length c.self.inside.touched.items ≡ 0 = ap (λ (it : RestState). it.touched) c.self.view_is ∙ c.requires in
    rw (← c.self.view_is) (c.letter_count.ensures ∙ sym (letters_in-untouched c.self.inside.touched.items c.self.inside.coming none))
