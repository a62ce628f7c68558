-- Keys by number. A key has a kind and a number among those of its kind, and no two keys have both in common.
use Rattle.std.specs.Prelude.{ℕ, ◌≤◌, ◌<◌, ◌/◌, ◌%◌, ◌==◌, ◌&&◌, ◌||◌, nat_lt, nat_le, Bool, if◌then◌else◌, Option, None, Some}
use Rattle.std.specs.Option.{option_map, option_and_then}
use Rattle.etx_prims.specs.declared.quantities.RegisterKind.TheVariants as registers
use Rattle.etx_prims.specs.declared.quantities.CodeKind.TheVariants as codes
use Rattle.etx_prims.specs.declared.quantities.FontIntKind.TheVariants as font_ints
use Rattle.etx_prims.specs.declared.quantities.FamilyFontKind.TheVariants as sizes
use Rattle.etx_prims.specs.declared.expansion.MarkKind.TheVariants as marks
use Rattle.etx_keys.specs.declared.kind.Kind.{Kind}
use Rattle.etx_keys.specs.declared.kind.Kind.TheVariants as kinds
use Rattle.etx_keys.specs.declared.key.Key.{Key}
use Rattle.etx_keys.specs.declared.key.Key.TheVariants as key
use Rattle.etx_keys.specs.declared.number.KeyNumber.{KeyNumber}
use Rattle.etx_keys.specs.Bounds.{byte_in, number_in, four_bits_in}
use Rattle.etx_keys.specs.Families.{register_kind, code_kind, font_int_kind, family_font_kind, mark_kind, font_dimen_kind, font_dimen_at}
use Rattle.etx_keys.specs.Kinds.{kind_number, kind_at}
use Rattle.etx_keys.specs.Parameters.{int_number, int_at, dimen_number, dimen_at, glue_number, glue_at, mu_glue_number, mu_glue_at, token_number, token_at}
use Rattle.etx_keys.specs.Singles.{single_number, single_at}

abbrev pub kind_of : Key → Kind
kind_of (key.Meaning name) = kinds.Meaning
kind_of (key.Active code) = kinds.Active
kind_of (key.Int parameter) = kinds.IntParam
kind_of (key.Dimen parameter) = kinds.DimenParam
kind_of (key.Glue parameter) = kinds.GlueParam
kind_of (key.MuGlue parameter) = kinds.MuGlueParam
kind_of (key.Tokens parameter) = kinds.TokenParam
kind_of (key.Register kind number) = register_kind kind
kind_of (key.Box number) = kinds.Box
kind_of (key.Code kind code) = code_kind kind
kind_of (key.FontInt kind font) = font_int_kind kind
kind_of (key.FamilyFont size family) = family_font_kind size
kind_of (key.FontDimen font parameter) = font_dimen_kind parameter
kind_of (key.Single single) = kinds.Single
kind_of (key.Font font) = kinds.Font
kind_of (key.InStream stream) = kinds.InStream
kind_of (key.OutStream stream) = kinds.OutStream
kind_of (key.Mark kind class) = mark_kind kind

abbrev pub at_of : Key → ℕ
at_of (key.Meaning name) = name
at_of (key.Active code) = code
at_of (key.Int parameter) = int_number parameter
at_of (key.Dimen parameter) = dimen_number parameter
at_of (key.Glue parameter) = glue_number parameter
at_of (key.MuGlue parameter) = mu_glue_number parameter
at_of (key.Tokens parameter) = token_number parameter
at_of (key.Register kind number) = number
at_of (key.Box number) = number
at_of (key.Code kind code) = code
at_of (key.FontInt kind font) = font
at_of (key.FamilyFont size family) = family
at_of (key.FontDimen font parameter) = font_dimen_at font parameter
at_of (key.Single single) = single_number single
at_of (key.Font font) = font
at_of (key.InStream stream) = stream
at_of (key.OutStream stream) = stream
at_of (key.Mark kind class) = class

abbrev pub number_of : Key → KeyNumber
number_of k = record { kind = kind_number (kind_of k); at = at_of k }

-- the numbers of a key are in their ranges: codes and fonts below 256, registers and classes of marks below 32768,
-- families and streams below 16, and the parameters of a font from 1 to 65535
abbrev pub IsKey : Key → Type 0
IsKey (key.Meaning name) = Unit {0}
IsKey (key.Active code) = code < 256
IsKey (key.Int parameter) = Unit {0}
IsKey (key.Dimen parameter) = Unit {0}
IsKey (key.Glue parameter) = Unit {0}
IsKey (key.MuGlue parameter) = Unit {0}
IsKey (key.Tokens parameter) = Unit {0}
IsKey (key.Register kind number) = number < 32768
IsKey (key.Box number) = number < 32768
IsKey (key.Code kind code) = code < 256
IsKey (key.FontInt kind font) = font < 256
IsKey (key.FamilyFont size family) = family < 16
IsKey (key.FontDimen font parameter) = (font < 256) × (1 ≤ parameter) × (parameter < 65536)
IsKey (key.Single single) = Unit {0}
IsKey (key.Font font) = font < 256
IsKey (key.InStream stream) = stream < 16
IsKey (key.OutStream stream) = stream < 16
IsKey (key.Mark kind class) = class < 32768

-- one of the first seven parameters of fonts
abbrev pub font_dimen_in : ℕ → ℕ → Option Key
font_dimen_in parameter at = option_map (λ font. key.FontDimen font parameter) (byte_in at)

-- a further one
abbrev pub far_font_dimen : ℕ → Option Key
far_font_dimen at = if nat_lt at 2048 || nat_le 16777216 at then None else Some (key.FontDimen (at % 256) (at / 256))

-- the key of a kind with a number, if there is one
unfoldable pub key_in : Kind → ℕ → Option Key
key_in kinds.Meaning at = Some (key.Meaning at)
key_in kinds.Active at = option_map key.Active (byte_in at)
key_in kinds.IntParam at = option_map key.Int (int_at at)
key_in kinds.DimenParam at = option_map key.Dimen (dimen_at at)
key_in kinds.GlueParam at = option_map key.Glue (glue_at at)
key_in kinds.MuGlueParam at = option_map key.MuGlue (mu_glue_at at)
key_in kinds.TokenParam at = option_map key.Tokens (token_at at)
key_in kinds.Count at = option_map (key.Register registers.Count) (number_in at)
key_in kinds.Dimen at = option_map (key.Register registers.Dimen) (number_in at)
key_in kinds.Skip at = option_map (key.Register registers.Skip) (number_in at)
key_in kinds.MuSkip at = option_map (key.Register registers.MuSkip) (number_in at)
key_in kinds.Toks at = option_map (key.Register registers.Toks) (number_in at)
key_in kinds.Box at = option_map key.Box (number_in at)
key_in kinds.CatCode at = option_map (key.Code codes.Cat) (byte_in at)
key_in kinds.MathCode at = option_map (key.Code codes.Math) (byte_in at)
key_in kinds.LcCode at = option_map (key.Code codes.Lc) (byte_in at)
key_in kinds.UcCode at = option_map (key.Code codes.Uc) (byte_in at)
key_in kinds.SfCode at = option_map (key.Code codes.Sf) (byte_in at)
key_in kinds.DelCode at = option_map (key.Code codes.Del) (byte_in at)
key_in kinds.HyphenChar at = option_map (key.FontInt font_ints.HyphenChar) (byte_in at)
key_in kinds.SkewChar at = option_map (key.FontInt font_ints.SkewChar) (byte_in at)
key_in kinds.TextFont at = option_map (key.FamilyFont sizes.Text) (four_bits_in at)
key_in kinds.ScriptFont at = option_map (key.FamilyFont sizes.Script) (four_bits_in at)
key_in kinds.ScriptScriptFont at = option_map (key.FamilyFont sizes.ScriptScript) (four_bits_in at)
key_in kinds.Slant at = font_dimen_in 1 at
key_in kinds.Space at = font_dimen_in 2 at
key_in kinds.SpaceStretch at = font_dimen_in 3 at
key_in kinds.SpaceShrink at = font_dimen_in 4 at
key_in kinds.XHeight at = font_dimen_in 5 at
key_in kinds.Quad at = font_dimen_in 6 at
key_in kinds.ExtraSpace at = font_dimen_in 7 at
key_in kinds.FontDimen at = far_font_dimen at
key_in kinds.Single at = option_map key.Single (single_at at)
key_in kinds.Font at = option_map key.Font (byte_in at)
key_in kinds.InStream at = option_map key.InStream (four_bits_in at)
key_in kinds.OutStream at = option_map key.OutStream (four_bits_in at)
key_in kinds.TopMark at = option_map (key.Mark marks.Top) (number_in at)
key_in kinds.FirstMark at = option_map (key.Mark marks.First) (number_in at)
key_in kinds.BottomMark at = option_map (key.Mark marks.Bottom) (number_in at)
key_in kinds.SplitFirstMark at = option_map (key.Mark marks.SplitFirst) (number_in at)
key_in kinds.SplitBottomMark at = option_map (key.Mark marks.SplitBottom) (number_in at)

-- the key with a number, if there is one
abbrev pub key_of : KeyNumber → Option Key
key_of n = option_and_then (λ kind. key_in kind n.at) (kind_at n.kind)

-- the same number
abbrev pub same_number : KeyNumber → KeyNumber → Bool
same_number n m = n.kind == m.kind && n.at == m.at

-- the same key: keys are the same where their numbers are
abbrev pub same : Key → Key → Bool
same k q = same_number (number_of k) (number_of q)

-- a number whose value stands in a row: that of the meaning of a name, and those below 256 of each other kind
abbrev pub is_dense : KeyNumber → Bool
is_dense n = n.kind == 0 || nat_lt n.at 256
