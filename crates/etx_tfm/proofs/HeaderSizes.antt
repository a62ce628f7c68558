-- What a font keeps besides its sound tables.
use Rattle.std.proofs.Common.{◌≡◌, ℕ, ◌-◌, ◌≤◌, List, length, replicate, pos, sym, subst, arith}
use Rattle.std.proofs.lemmas.List.{length-append, length-replicate}
use Rattle.etx_matter.specs.declared.font.FontHeader.{FontHeader}
use Rattle.etx_matter.specs.declared.font.FontInfo.{FontInfo}
use Rattle.etx_matter.specs.Soundness.{IsSound, IsFont, HasSizes}
use Rattle.etx_tfm.specs.declared.lengths.Lengths.{Lengths}
use Rattle.etx_tfm.specs.declared.word.Word.{Word}
use Rattle.etx_tfm.specs.Tables.{numbered, parameters_in, parameters_of, tables_of}

-- seven parameters at least
pub seven : (size : ℕ) (words : List Word) → 7 ≤ length (parameters_of size words)
seven size words =
    let all = length-append (numbered size words) (replicate (7 - length (numbered size words)) (pos 0)) in
    let more = length-replicate (7 - length (numbered size words)) (pos 0) in
    omega (arith, all, more)

pub is_font : (header : FontHeader) (words : List Word) (n : Lengths) (info : FontInfo) → HasSizes header → IsSound info → info ≡ tables_of header words n → IsFont info
unfolding tables_of
is_font header words n info sizes sound e =
    let P : FontInfo → Type 0 = λ it. HasSizes it.header in
    let Q : FontInfo → Type 0 = λ it. 7 ≤ length it.parameters in
    record { sound = sound; sizes = subst P (sym e) sizes; parameters = subst Q (sym e) (seven header.size (parameters_in words n)) }
