-- No two keys have the same slot.
use Rattle.std.proofs.Common.{◌≡◌, ℕ, zero, suc, ◌+◌, ◌*◌, ◌/◌, ◌%◌, ◌<◌, ◌≤◌, List, [], ◌∷◌, length, Option, Some, None, Bool, true, false, refl, sym, ◌∙◌, ap, subst, arith}
use Rattle.std.specs.Prelude.{nat_lt, slice_get, if◌then◌else◌}
use Rattle.std.specs.Option.{option_map, option_and_then}
use Rattle.std.proofs.lemmas.Bool.{lt-ltb, le-ltb}
use Rattle.std.proofs.lemmas.Bool.Decides.{nat_tests}
use Rattle.etx_prims.specs.declared.quantities.RegisterKind.{RegisterKind}
use Rattle.etx_prims.specs.declared.quantities.RegisterKind.TheVariants as registers
use Rattle.etx_prims.specs.declared.quantities.CodeKind.{CodeKind}
use Rattle.etx_prims.specs.declared.quantities.CodeKind.TheVariants as codes
use Rattle.etx_prims.specs.declared.quantities.FontIntKind.{FontIntKind}
use Rattle.etx_prims.specs.declared.quantities.FontIntKind.TheVariants as font_ints
use Rattle.etx_prims.specs.declared.quantities.FamilyFontKind.{FamilyFontKind}
use Rattle.etx_prims.specs.declared.quantities.FamilyFontKind.TheVariants as sizes
use Rattle.etx_prims.specs.declared.expansion.MarkKind.{MarkKind}
use Rattle.etx_prims.specs.declared.expansion.MarkKind.TheVariants as marks
use Rattle.etx_keys.specs.declared.kind.Kind.{Kind}
use Rattle.etx_keys.specs.declared.kind.Kind.TheVariants as kinds
use Rattle.etx_keys.specs.declared.key.Key.{Key}
use Rattle.etx_keys.specs.declared.key.Key.TheVariants as key
use Rattle.etx_keys.specs.Families.{register_kind, code_kind, font_int_kind, family_font_kind, mark_kind, font_dimen_kind, font_dimen_at}
use Rattle.etx_keys.specs.Kinds.{all_kinds, kind_number, kind_at}
use Rattle.etx_keys.specs.Parameters.{int_at, dimen_at, glue_at, mu_glue_at, token_at}
use Rattle.etx_keys.specs.Singles.{single_at}
use Rattle.etx_keys.specs.Keys.{kind_of, at_of, number_of}
use Rattle.etx_keys.proofs.Numbering.{int_back, dimen_back, glue_back, mu_glue_back, token_back}
use Rattle.etx_keys.proofs.SingleNumbers.{single_back}
use Rattle.etx_keys.proofs.KindNumbers.{kind_back}
use Rattle.etx_undo.specs.declared.slot.Slot.{Slot}
use Rattle.etx_undo.proofs.Slots as slotted
use Rattle.etx_state.specs.Slots.{slot_at, font_of, parameter_of, slot_of, same}

-- ---- the key of a kind with a number, however great

abbrev far_dimen : Bool → ℕ → Option Key
far_dimen true at = Some (key.FontDimen at 0)
far_dimen false at = Some (key.FontDimen (at % 256) (at / 256))

key_at : Kind → ℕ → Option Key
key_at kinds.Meaning at = Some (key.Meaning at)
key_at kinds.Active at = Some (key.Active at)
key_at kinds.IntParam at = option_map key.Int (int_at at)
key_at kinds.DimenParam at = option_map key.Dimen (dimen_at at)
key_at kinds.GlueParam at = option_map key.Glue (glue_at at)
key_at kinds.MuGlueParam at = option_map key.MuGlue (mu_glue_at at)
key_at kinds.TokenParam at = option_map key.Tokens (token_at at)
key_at kinds.Count at = Some (key.Register registers.Count at)
key_at kinds.Dimen at = Some (key.Register registers.Dimen at)
key_at kinds.Skip at = Some (key.Register registers.Skip at)
key_at kinds.MuSkip at = Some (key.Register registers.MuSkip at)
key_at kinds.Toks at = Some (key.Register registers.Toks at)
key_at kinds.Box at = Some (key.Box at)
key_at kinds.CatCode at = Some (key.Code codes.Cat at)
key_at kinds.MathCode at = Some (key.Code codes.Math at)
key_at kinds.LcCode at = Some (key.Code codes.Lc at)
key_at kinds.UcCode at = Some (key.Code codes.Uc at)
key_at kinds.SfCode at = Some (key.Code codes.Sf at)
key_at kinds.DelCode at = Some (key.Code codes.Del at)
key_at kinds.HyphenChar at = Some (key.FontInt font_ints.HyphenChar at)
key_at kinds.SkewChar at = Some (key.FontInt font_ints.SkewChar at)
key_at kinds.TextFont at = Some (key.FamilyFont sizes.Text at)
key_at kinds.ScriptFont at = Some (key.FamilyFont sizes.Script at)
key_at kinds.ScriptScriptFont at = Some (key.FamilyFont sizes.ScriptScript at)
key_at kinds.Slant at = Some (key.FontDimen at 1)
key_at kinds.Space at = Some (key.FontDimen at 2)
key_at kinds.SpaceStretch at = Some (key.FontDimen at 3)
key_at kinds.SpaceShrink at = Some (key.FontDimen at 4)
key_at kinds.XHeight at = Some (key.FontDimen at 5)
key_at kinds.Quad at = Some (key.FontDimen at 6)
key_at kinds.ExtraSpace at = Some (key.FontDimen at 7)
key_at kinds.FontDimen at = far_dimen (nat_lt at 256) at
key_at kinds.Single at = option_map key.Single (single_at at)
key_at kinds.Font at = Some (key.Font at)
key_at kinds.InStream at = Some (key.InStream at)
key_at kinds.OutStream at = Some (key.OutStream at)
key_at kinds.TopMark at = Some (key.Mark marks.Top at)
key_at kinds.FirstMark at = Some (key.Mark marks.First at)
key_at kinds.BottomMark at = Some (key.Mark marks.Bottom at)
key_at kinds.SplitFirstMark at = Some (key.Mark marks.SplitFirst at)
key_at kinds.SplitBottomMark at = Some (key.Mark marks.SplitBottom at)

register_back : (kind : RegisterKind) (number : ℕ) → key_at (register_kind kind) number ≡ Some (key.Register kind number)
unfolding key_at
register_back registers.Count number = refl
register_back registers.Dimen number = refl
register_back registers.Skip number = refl
register_back registers.MuSkip number = refl
register_back registers.Toks number = refl

code_back : (kind : CodeKind) (code : ℕ) → key_at (code_kind kind) code ≡ Some (key.Code kind code)
unfolding key_at
code_back codes.Cat code = refl
code_back codes.Math code = refl
code_back codes.Lc code = refl
code_back codes.Uc code = refl
code_back codes.Sf code = refl
code_back codes.Del code = refl

font_int_back : (kind : FontIntKind) (font : ℕ) → key_at (font_int_kind kind) font ≡ Some (key.FontInt kind font)
unfolding key_at
font_int_back font_ints.HyphenChar font = refl
font_int_back font_ints.SkewChar font = refl

family_font_back : (size : FamilyFontKind) (family : ℕ) → key_at (family_font_kind size) family ≡ Some (key.FamilyFont size family)
unfolding key_at
family_font_back sizes.Text family = refl
family_font_back sizes.Script family = refl
family_font_back sizes.ScriptScript family = refl

mark_back : (kind : MarkKind) (class : ℕ) → key_at (mark_kind kind) class ≡ Some (key.Mark kind class)
unfolding key_at
mark_back marks.Top class = refl
mark_back marks.First class = refl
mark_back marks.Bottom class = refl
mark_back marks.SplitFirst class = refl
mark_back marks.SplitBottom class = refl

two : (font parameter : ℕ) → font < 256 → ((256 * parameter + font) % 256 ≡ font) × ((256 * parameter + font) / 256 ≡ parameter)
two font parameter low = (omega (arith, low), omega (arith, low))

far_back : (font parameter : ℕ) → font < 256 → 8 ≤ parameter → key_at kinds.FontDimen (256 * parameter + font) ≡ Some (key.FontDimen font parameter)
unfolding key_at
far_back font parameter low high =
    let it = two font parameter low in
    rw (le-ltb (256 * parameter + font) 256 (omega (arith, high)), it.0, it.1) refl

font_dimen_back : (font parameter : ℕ) → font < 256 → key_at (font_dimen_kind parameter) (font_dimen_at font parameter) ≡ Some (key.FontDimen font parameter)
unfolding key_at
font_dimen_back font zero low = rw (lt-ltb font 256 low) refl
font_dimen_back font (suc zero) low = refl
font_dimen_back font (suc (suc zero)) low = refl
font_dimen_back font (suc (suc (suc zero))) low = refl
font_dimen_back font (suc (suc (suc (suc zero)))) low = refl
font_dimen_back font (suc (suc (suc (suc (suc zero))))) low = refl
font_dimen_back font (suc (suc (suc (suc (suc (suc zero)))))) low = refl
font_dimen_back font (suc (suc (suc (suc (suc (suc (suc zero))))))) low = refl
font_dimen_back font (suc (suc (suc (suc (suc (suc (suc (suc parameter)))))))) low =
    let high : 8 ≤ suc (suc (suc (suc (suc (suc (suc (suc parameter))))))) = omega arith in
    let e : font_dimen_at font (suc (suc (suc (suc (suc (suc (suc (suc parameter)))))))) ≡ 256 * (suc (suc (suc (suc (suc (suc (suc (suc parameter)))))))) + font =
    rw (le-ltb (suc (suc (suc (suc (suc (suc (suc (suc parameter)))))))) 8 high) refl in
    rw e (far_back font (suc (suc (suc (suc (suc (suc (suc (suc parameter)))))))) low high)

-- the key of a kind and number is the one that has them
back : (k : Key) → font_of k < 256 → key_at (kind_of k) (at_of k) ≡ Some k
unfolding key_at
back (key.Meaning name) low = refl
back (key.Active code) low = refl
back (key.Int parameter) low = ap (option_map key.Int) (int_back parameter)
back (key.Dimen parameter) low = ap (option_map key.Dimen) (dimen_back parameter)
back (key.Glue parameter) low = ap (option_map key.Glue) (glue_back parameter)
back (key.MuGlue parameter) low = ap (option_map key.MuGlue) (mu_glue_back parameter)
back (key.Tokens parameter) low = ap (option_map key.Tokens) (token_back parameter)
back (key.Register kind number) low = register_back kind number
back (key.Box number) low = refl
back (key.Code kind code) low = code_back kind code
back (key.FontInt kind font) low = font_int_back kind font
back (key.FamilyFont size family) low = family_font_back size family
back (key.FontDimen font parameter) low = font_dimen_back font parameter low
back (key.Single single) low = ap (option_map key.Single) (single_back single)
back (key.Font font) low = refl
back (key.InStream stream) low = refl
back (key.OutStream stream) low = refl
back (key.Mark kind class) low = mark_back kind class

some_is : {X : Type 0} (x y : X) → Some x ≡ Some y → x ≡ y
some_is x y e = cc

kind_is : (x y : Kind) → kind_number x ≡ kind_number y → x ≡ y
kind_is x y e = some_is x y (sym (kind_back x) ∙ ap kind_at e ∙ kind_back y)

near_is : (k q : Key) → font_of k < 256 → font_of q < 256 → slot_at (number_of k) ≡ slot_at (number_of q) → k ≡ q
near_is k q low small e =
    let kind : kind_of k ≡ kind_of q = kind_is (kind_of k) (kind_of q) (ap (λ (s : Slot). s.kind) e) in
    let at : at_of k ≡ at_of q = ap (λ (s : Slot). s.at) e in
    some_is k q (sym (back k low) ∙ ap (λ (x : Kind). key_at x (at_of k)) kind ∙ ap (key_at (kind_of q)) at ∙ back q small)

-- ---- kinds have the numbers 0 to 40

within : {X : Type 0} (xs : List X) (n : ℕ) (x : X) → slice_get xs n ≡ Some x → n < length xs
within [] n x e = absurd (cc)
within (y ∷ xs) zero x e = omega arith
within (y ∷ xs) (suc n) x e = let rest = within xs n x e in omega (arith, rest)

kind_small : (x : Kind) → kind_number x < 41
unfolding kind_at all_kinds
kind_small x = within all_kinds (kind_number x) x (kind_back x)

-- ---- a parameter of a font that isn't there

far_is : (k : Key) → nat_lt (font_of k) 256 ≡ false → k ≡ key.FontDimen (font_of k) (parameter_of k)
far_is (key.FontDimen font parameter) e = refl
far_is (key.Meaning name) e = absurd (cc)
far_is (key.Active code) e = absurd (cc)
far_is (key.Int parameter) e = absurd (cc)
far_is (key.Dimen parameter) e = absurd (cc)
far_is (key.Glue parameter) e = absurd (cc)
far_is (key.MuGlue parameter) e = absurd (cc)
far_is (key.Tokens parameter) e = absurd (cc)
far_is (key.Register kind number) e = absurd (cc)
far_is (key.Box number) e = absurd (cc)
far_is (key.Code kind code) e = absurd (cc)
far_is (key.FontInt kind font) e = absurd (cc)
far_is (key.FamilyFont size family) e = absurd (cc)
far_is (key.Single single) e = absurd (cc)
far_is (key.Font font) e = absurd (cc)
far_is (key.InStream stream) e = absurd (cc)
far_is (key.OutStream stream) e = absurd (cc)
far_is (key.Mark kind class) e = absurd (cc)

-- ---- a slot tells its key

abbrev slot_by : Bool → Key → Slot
slot_by b k = if b then slot_at (number_of k) else record { kind = 41 + font_of k; at = parameter_of k }

apart : (k q : Key) → slot_at (number_of k) ≡ record { kind = 41 + font_of q; at = parameter_of q } → ⊥
apart k q e =
    let same_kind : kind_number (kind_of k) ≡ 41 + font_of q = ap (λ (s : Slot). s.kind) e in
    let small = kind_small (kind_of k) in
    omega (arith, same_kind, small)

low_of : (n : ℕ) → nat_lt n 256 ≡ true → n < 256
low_of n e = grind (arith, nat_tests)

by_tests : (k q : Key) (b d : Bool) → nat_lt (font_of k) 256 ≡ b → nat_lt (font_of q) 256 ≡ d → slot_by b k ≡ slot_by d q → k ≡ q
by_tests k q true true low small e = near_is k q (low_of (font_of k) low) (low_of (font_of q) small) e
by_tests k q true false low far e = absurd (apart k q e)
by_tests k q false true far small e = absurd (apart q k (sym e))
by_tests k q false false far beyond e =
    let font : 41 + font_of k ≡ 41 + font_of q = ap (λ (s : Slot). s.kind) e in
    let fonts : font_of k ≡ font_of q = omega (arith, font) in
    let parameters : parameter_of k ≡ parameter_of q = ap (λ (s : Slot). s.at) e in
    far_is k far ∙ ap (λ (f : ℕ). key.FontDimen f (parameter_of k)) fonts ∙ ap (key.FontDimen (font_of q)) parameters ∙ sym (far_is q beyond)

pub slot_is : (k q : Key) → slot_of k ≡ slot_of q → k ≡ q
unfolding slot_of
slot_is k q e = by_tests k q (nat_lt (font_of k) 256) (nat_lt (font_of q) 256) refl refl e

pub same_is : (k q : Key) → same k q ≡ true → k ≡ q
same_is k q e = slot_is k q (slotted.same_is (slot_of k) (slot_of q) e)

pub same_self : (k : Key) → same k k ≡ true
same_self k = slotted.same_self (slot_of k)
