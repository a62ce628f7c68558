-- The kinds of keys by number. The meanings of names have the number 0: in a table they have a row of their own.
use Rattle.std.specs.Prelude.{ℕ, List, [], ◌∷◌, Option, slice_get}
use Rattle.etx_keys.specs.declared.kind.Kind.{Kind}
use Rattle.etx_keys.specs.declared.kind.Kind.TheVariants as kinds

unfoldable pub all_kinds : List Kind
all_kinds =
    kinds.Meaning ∷ kinds.Active ∷ kinds.IntParam ∷ kinds.DimenParam ∷ kinds.GlueParam ∷ kinds.MuGlueParam ∷
    kinds.TokenParam ∷ kinds.Count ∷ kinds.Dimen ∷ kinds.Skip ∷ kinds.MuSkip ∷ kinds.Toks ∷ kinds.Box ∷
    kinds.CatCode ∷ kinds.MathCode ∷ kinds.LcCode ∷ kinds.UcCode ∷ kinds.SfCode ∷ kinds.DelCode ∷
    kinds.HyphenChar ∷ kinds.SkewChar ∷ kinds.TextFont ∷ kinds.ScriptFont ∷ kinds.ScriptScriptFont ∷ kinds.Slant ∷
    kinds.Space ∷ kinds.SpaceStretch ∷ kinds.SpaceShrink ∷ kinds.XHeight ∷ kinds.Quad ∷ kinds.ExtraSpace ∷
    kinds.FontDimen ∷ kinds.Single ∷ kinds.Font ∷ kinds.InStream ∷ kinds.OutStream ∷ kinds.TopMark ∷
    kinds.FirstMark ∷ kinds.BottomMark ∷ kinds.SplitFirstMark ∷ kinds.SplitBottomMark ∷ []

unfoldable pub kind_number : Kind → ℕ
kind_number kinds.Meaning = 0
kind_number kinds.Active = 1
kind_number kinds.IntParam = 2
kind_number kinds.DimenParam = 3
kind_number kinds.GlueParam = 4
kind_number kinds.MuGlueParam = 5
kind_number kinds.TokenParam = 6
kind_number kinds.Count = 7
kind_number kinds.Dimen = 8
kind_number kinds.Skip = 9
kind_number kinds.MuSkip = 10
kind_number kinds.Toks = 11
kind_number kinds.Box = 12
kind_number kinds.CatCode = 13
kind_number kinds.MathCode = 14
kind_number kinds.LcCode = 15
kind_number kinds.UcCode = 16
kind_number kinds.SfCode = 17
kind_number kinds.DelCode = 18
kind_number kinds.HyphenChar = 19
kind_number kinds.SkewChar = 20
kind_number kinds.TextFont = 21
kind_number kinds.ScriptFont = 22
kind_number kinds.ScriptScriptFont = 23
kind_number kinds.Slant = 24
kind_number kinds.Space = 25
kind_number kinds.SpaceStretch = 26
kind_number kinds.SpaceShrink = 27
kind_number kinds.XHeight = 28
kind_number kinds.Quad = 29
kind_number kinds.ExtraSpace = 30
kind_number kinds.FontDimen = 31
kind_number kinds.Single = 32
kind_number kinds.Font = 33
kind_number kinds.InStream = 34
kind_number kinds.OutStream = 35
kind_number kinds.TopMark = 36
kind_number kinds.FirstMark = 37
kind_number kinds.BottomMark = 38
kind_number kinds.SplitFirstMark = 39
kind_number kinds.SplitBottomMark = 40

unfoldable pub kind_at : ℕ → Option Kind
kind_at number = slice_get all_kinds number
