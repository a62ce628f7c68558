-- A kind has its number, and a number its kind.
use Rattle.std.proofs.Common.{◌≡◌, ℕ, map, Some, refl, ◌∙◌, zero-add}
use Rattle.etx_keys.proofs.Counting.{numbers_from, counted}
use Rattle.etx_keys.specs.declared.kind.Kind.{Kind}
use Rattle.etx_keys.specs.declared.kind.Kind.TheVariants as kinds
use Rattle.etx_keys.specs.Kinds.{all_kinds, kind_number, kind_at}

pub kind_back : (kind : Kind) → kind_at (kind_number kind) ≡ Some kind
unfolding all_kinds kind_number kind_at
kind_back kinds.Meaning = refl
kind_back kinds.Active = refl
kind_back kinds.IntParam = refl
kind_back kinds.DimenParam = refl
kind_back kinds.GlueParam = refl
kind_back kinds.MuGlueParam = refl
kind_back kinds.TokenParam = refl
kind_back kinds.Count = refl
kind_back kinds.Dimen = refl
kind_back kinds.Skip = refl
kind_back kinds.MuSkip = refl
kind_back kinds.Toks = refl
kind_back kinds.Box = refl
kind_back kinds.CatCode = refl
kind_back kinds.MathCode = refl
kind_back kinds.LcCode = refl
kind_back kinds.UcCode = refl
kind_back kinds.SfCode = refl
kind_back kinds.DelCode = refl
kind_back kinds.HyphenChar = refl
kind_back kinds.SkewChar = refl
kind_back kinds.TextFont = refl
kind_back kinds.ScriptFont = refl
kind_back kinds.ScriptScriptFont = refl
kind_back kinds.Slant = refl
kind_back kinds.Space = refl
kind_back kinds.SpaceStretch = refl
kind_back kinds.SpaceShrink = refl
kind_back kinds.XHeight = refl
kind_back kinds.Quad = refl
kind_back kinds.ExtraSpace = refl
kind_back kinds.FontDimen = refl
kind_back kinds.Single = refl
kind_back kinds.Font = refl
kind_back kinds.InStream = refl
kind_back kinds.OutStream = refl
kind_back kinds.TopMark = refl
kind_back kinds.FirstMark = refl
kind_back kinds.BottomMark = refl
kind_back kinds.SplitFirstMark = refl
kind_back kinds.SplitBottomMark = refl

kinds_counted : map kind_number all_kinds ≡ numbers_from 0 41
unfolding all_kinds kind_number
kinds_counted = refl

pub kind_there : (number : ℕ) (kind : Kind) → kind_at number ≡ Some kind → kind_number kind ≡ number
unfolding kind_at
kind_there number kind h = counted kind_number all_kinds 0 41 kinds_counted number kind h ∙ zero-add number
