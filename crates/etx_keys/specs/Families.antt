-- Families of keys whose kind goes by a payload.
use Rattle.std.specs.Prelude.{ℕ, zero, suc, ◌+◌, ◌*◌, nat_lt, if◌then◌else◌}
use Rattle.etx_prims.specs.declared.quantities.RegisterKind.{RegisterKind}
use Rattle.etx_prims.specs.declared.quantities.RegisterKind.TheVariants as registers
use Rattle.etx_prims.specs.declared.quantities.CodeKind.{CodeKind}
use Rattle.etx_prims.specs.declared.quantities.CodeKind.TheVariants as codes
use Rattle.etx_prims.specs.declared.quantities.FontIntKind.{FontIntKind}
use Rattle.etx_prims.specs.declared.quantities.FontIntKind.TheVariants as font_ints
use Rattle.etx_prims.specs.declared.quantities.FamilyFontKind.{FamilyFontKind}
use Rattle.etx_prims.specs.declared.quantities.FamilyFontKind.TheVariants as sizes
use Rattle.etx_prims.specs.declared.expansion.MarkKind.{MarkKind}
use Rattle.etx_prims.specs.declared.expansion.MarkKind.TheVariants as marks
use Rattle.etx_keys.specs.declared.kind.Kind.{Kind}
use Rattle.etx_keys.specs.declared.kind.Kind.TheVariants as kinds

abbrev pub register_kind : RegisterKind → Kind
register_kind registers.Count = kinds.Count
register_kind registers.Dimen = kinds.Dimen
register_kind registers.Skip = kinds.Skip
register_kind registers.MuSkip = kinds.MuSkip
register_kind registers.Toks = kinds.Toks

abbrev pub code_kind : CodeKind → Kind
code_kind codes.Cat = kinds.CatCode
code_kind codes.Math = kinds.MathCode
code_kind codes.Lc = kinds.LcCode
code_kind codes.Uc = kinds.UcCode
code_kind codes.Sf = kinds.SfCode
code_kind codes.Del = kinds.DelCode

abbrev pub font_int_kind : FontIntKind → Kind
font_int_kind font_ints.HyphenChar = kinds.HyphenChar
font_int_kind font_ints.SkewChar = kinds.SkewChar

abbrev pub family_font_kind : FamilyFontKind → Kind
family_font_kind sizes.Text = kinds.TextFont
family_font_kind sizes.Script = kinds.ScriptFont
family_font_kind sizes.ScriptScript = kinds.ScriptScriptFont

abbrev pub mark_kind : MarkKind → Kind
mark_kind marks.Top = kinds.TopMark
mark_kind marks.First = kinds.FirstMark
mark_kind marks.Bottom = kinds.BottomMark
mark_kind marks.SplitFirst = kinds.SplitFirstMark
mark_kind marks.SplitBottom = kinds.SplitBottomMark

-- the first seven parameters of a font are kinds of their own; they are counted from 1
abbrev pub font_dimen_kind : ℕ → Kind
font_dimen_kind zero = kinds.FontDimen
font_dimen_kind (suc zero) = kinds.Slant
font_dimen_kind (suc (suc zero)) = kinds.Space
font_dimen_kind (suc (suc (suc zero))) = kinds.SpaceStretch
font_dimen_kind (suc (suc (suc (suc zero)))) = kinds.SpaceShrink
font_dimen_kind (suc (suc (suc (suc (suc zero))))) = kinds.XHeight
font_dimen_kind (suc (suc (suc (suc (suc (suc zero)))))) = kinds.Quad
font_dimen_kind (suc (suc (suc (suc (suc (suc (suc zero))))))) = kinds.ExtraSpace
font_dimen_kind (suc (suc (suc (suc (suc (suc (suc (suc parameter)))))))) = kinds.FontDimen

-- those have the number of the font, the others a number for each font and parameter
abbrev pub font_dimen_at : ℕ → ℕ → ℕ
font_dimen_at font parameter = if nat_lt parameter 8 then font else 256 * parameter + font
