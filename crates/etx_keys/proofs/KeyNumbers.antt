-- A key has its number, and a number its key.
use Rattle.std.proofs.Common.{◌≡◌, ℕ, zero, suc, ◌+◌, ◌*◌, ◌/◌, ◌%◌, ◌<◌, ◌≤◌, Option, Some, None, refl, sym, ◌∙◌, ap, subst, inl, inr, arith}
use Rattle.std.specs.Prelude.{nat_lt, nat_le, ◌||◌, if◌then◌else◌}
use Rattle.std.specs.Option.{option_map, option_and_then}
use Rattle.std.specs.Prelude.{IfSome}
use Rattle.std.proofs.lemmas.Bool.{cases_lt, lt-ltb, le-ltb, le-leb, lt-leb}
use Rattle.etx_prims.specs.declared.quantities.RegisterKind.{RegisterKind}
use Rattle.etx_prims.specs.declared.quantities.RegisterKind.TheVariants as registers
use Rattle.etx_prims.specs.declared.quantities.CodeKind.{CodeKind}
use Rattle.etx_prims.specs.declared.quantities.CodeKind.TheVariants as codes
use Rattle.etx_prims.specs.declared.quantities.FontIntKind.{FontIntKind}
use Rattle.etx_prims.specs.declared.quantities.FontIntKind.TheVariants as font_ints
use Rattle.etx_prims.specs.declared.quantities.FamilyFontKind.{FamilyFontKind}
use Rattle.etx_prims.specs.declared.quantities.FamilyFontKind.TheVariants as sizes
use Rattle.etx_prims.specs.declared.expansion.MarkKind.{MarkKind}
use Rattle.etx_prims.specs.declared.expansion.MarkKind.TheVariants as marks
use Rattle.etx_keys.specs.declared.kind.Kind.{Kind}
use Rattle.etx_keys.specs.declared.kind.Kind.TheVariants as kinds
use Rattle.etx_keys.specs.declared.key.Key.{Key}
use Rattle.etx_keys.specs.declared.key.Key.TheVariants as key
use Rattle.etx_keys.specs.declared.number.KeyNumber.{KeyNumber}
use Rattle.etx_keys.specs.Bounds.{below}
use Rattle.etx_keys.specs.Families.{register_kind, code_kind, font_int_kind, family_font_kind, mark_kind, font_dimen_kind, font_dimen_at}
use Rattle.etx_keys.specs.Kinds.{kind_number, kind_at}
use Rattle.etx_keys.specs.Parameters.{int_at, dimen_at, glue_at, mu_glue_at, token_at}
use Rattle.etx_keys.specs.Singles.{single_at}
use Rattle.etx_keys.specs.Keys.{kind_of, at_of, number_of, IsKey, far_font_dimen, key_in, key_of}
use Rattle.etx_keys.proofs.Numbering.{int_back, int_there, dimen_back, dimen_there, glue_back, glue_there, mu_glue_back, mu_glue_there, token_back, token_there}
use Rattle.etx_keys.proofs.SingleNumbers.{single_back, single_there}
use Rattle.etx_keys.proofs.KindNumbers.{kind_back, kind_there}
use Rattle.etx_keys.proofs.FamilyNumbers.{kind_far}

-- a number below a bound is one
within : {X : Type 0} (bound number : ℕ) (f : ℕ → X) → number < bound → option_map f (below bound number) ≡ Some (f number)
within bound number f low = rw (lt-ltb number bound low) refl

register_back : (kind : RegisterKind) (number : ℕ) → number < 32768 → key_in (register_kind kind) number ≡ Some (key.Register kind number)
unfolding key_in
register_back registers.Count number low = within 32768 number (key.Register registers.Count) low
register_back registers.Dimen number low = within 32768 number (key.Register registers.Dimen) low
register_back registers.Skip number low = within 32768 number (key.Register registers.Skip) low
register_back registers.MuSkip number low = within 32768 number (key.Register registers.MuSkip) low
register_back registers.Toks number low = within 32768 number (key.Register registers.Toks) low

code_back : (kind : CodeKind) (code : ℕ) → code < 256 → key_in (code_kind kind) code ≡ Some (key.Code kind code)
unfolding key_in
code_back codes.Cat code low = within 256 code (key.Code codes.Cat) low
code_back codes.Math code low = within 256 code (key.Code codes.Math) low
code_back codes.Lc code low = within 256 code (key.Code codes.Lc) low
code_back codes.Uc code low = within 256 code (key.Code codes.Uc) low
code_back codes.Sf code low = within 256 code (key.Code codes.Sf) low
code_back codes.Del code low = within 256 code (key.Code codes.Del) low

font_int_back : (kind : FontIntKind) (font : ℕ) → font < 256 → key_in (font_int_kind kind) font ≡ Some (key.FontInt kind font)
unfolding key_in
font_int_back font_ints.HyphenChar font low = within 256 font (key.FontInt font_ints.HyphenChar) low
font_int_back font_ints.SkewChar font low = within 256 font (key.FontInt font_ints.SkewChar) low

family_font_back : (size : FamilyFontKind) (family : ℕ) → family < 16 → key_in (family_font_kind size) family ≡ Some (key.FamilyFont size family)
unfolding key_in
family_font_back sizes.Text family low = within 16 family (key.FamilyFont sizes.Text) low
family_font_back sizes.Script family low = within 16 family (key.FamilyFont sizes.Script) low
family_font_back sizes.ScriptScript family low = within 16 family (key.FamilyFont sizes.ScriptScript) low

mark_back : (kind : MarkKind) (class : ℕ) → class < 32768 → key_in (mark_kind kind) class ≡ Some (key.Mark kind class)
unfolding key_in
mark_back marks.Top class low = within 32768 class (key.Mark marks.Top) low
mark_back marks.First class low = within 32768 class (key.Mark marks.First) low
mark_back marks.Bottom class low = within 32768 class (key.Mark marks.Bottom) low
mark_back marks.SplitFirst class low = within 32768 class (key.Mark marks.SplitFirst) low
mark_back marks.SplitBottom class low = within 32768 class (key.Mark marks.SplitBottom) low

-- a number above a bound is none
beyond : {X : Type 0} (number : ℕ) (x : Option X) → 2048 ≤ number → number < 16777216 → (if nat_lt number 2048 || nat_le 16777216 number then None else x) ≡ x
beyond number x high low = rw (le-ltb number 2048 high, lt-leb 16777216 number low) refl

two : (font parameter : ℕ) → font < 256 → ((256 * parameter + font) % 256 ≡ font) × ((256 * parameter + font) / 256 ≡ parameter)
two font parameter low = (omega (arith, low), omega (arith, low))

far_back : (font parameter : ℕ) → font < 256 → 8 ≤ parameter → parameter < 65536 → far_font_dimen (256 * parameter + font) ≡ Some (key.FontDimen font parameter)
far_back font parameter low high small =
    beyond (256 * parameter + font) (Some (key.FontDimen ((256 * parameter + font) % 256) ((256 * parameter + font) / 256))) (omega (arith, high)) (omega (arith, small, low))
    ∙ rw ((two font parameter low).0, (two font parameter low).1) refl

font_dimen_back : (font parameter : ℕ) → font < 256 → 1 ≤ parameter → parameter < 65536 → key_in (font_dimen_kind parameter) (font_dimen_at font parameter) ≡ Some (key.FontDimen font parameter)
unfolding key_in
font_dimen_back font zero low least small = absurd (omega (arith, least))
font_dimen_back font (suc zero) low least small = within 256 font (λ font. key.FontDimen font 1) low
font_dimen_back font (suc (suc zero)) low least small = within 256 font (λ font. key.FontDimen font 2) low
font_dimen_back font (suc (suc (suc zero))) low least small = within 256 font (λ font. key.FontDimen font 3) low
font_dimen_back font (suc (suc (suc (suc zero)))) low least small = within 256 font (λ font. key.FontDimen font 4) low
font_dimen_back font (suc (suc (suc (suc (suc zero))))) low least small = within 256 font (λ font. key.FontDimen font 5) low
font_dimen_back font (suc (suc (suc (suc (suc (suc zero)))))) low least small = within 256 font (λ font. key.FontDimen font 6) low
font_dimen_back font (suc (suc (suc (suc (suc (suc (suc zero))))))) low least small = within 256 font (λ font. key.FontDimen font 7) low
font_dimen_back font (suc (suc (suc (suc (suc (suc (suc (suc (parameter))))))))) low least small =
    let high : 8 ≤ suc (suc (suc (suc (suc (suc (suc (suc (parameter)))))))) = omega arith in
    let e : font_dimen_at font (suc (suc (suc (suc (suc (suc (suc (suc (parameter))))))))) ≡ 256 * (suc (suc (suc (suc (suc (suc (suc (suc (parameter))))))))) + font =
    rw (le-ltb (suc (suc (suc (suc (suc (suc (suc (suc (parameter))))))))) 8 high) refl in
    rw e (far_back font (suc (suc (suc (suc (suc (suc (suc (suc (parameter))))))))) low high small)

-- the key of a kind and number is just the one that has them
back_in : (k : Key) → IsKey k → key_in (kind_of k) (at_of k) ≡ Some k
unfolding key_in
back_in (key.Meaning name) sound = refl
back_in (key.Active code) sound = within 256 code key.Active sound
back_in (key.Int parameter) sound = ap (option_map key.Int) (int_back parameter)
back_in (key.Dimen parameter) sound = ap (option_map key.Dimen) (dimen_back parameter)
back_in (key.Glue parameter) sound = ap (option_map key.Glue) (glue_back parameter)
back_in (key.MuGlue parameter) sound = ap (option_map key.MuGlue) (mu_glue_back parameter)
back_in (key.Tokens parameter) sound = ap (option_map key.Tokens) (token_back parameter)
back_in (key.Register kind number) sound = register_back kind number sound
back_in (key.Box number) sound = within 32768 number key.Box sound
back_in (key.Code kind code) sound = code_back kind code sound
back_in (key.FontInt kind font) sound = font_int_back kind font sound
back_in (key.FamilyFont size family) sound = family_font_back size family sound
back_in (key.FontDimen font parameter) sound = font_dimen_back font parameter sound.0 sound.1 sound.2
back_in (key.Single single) sound = ap (option_map key.Single) (single_back single)
back_in (key.Font font) sound = within 256 font key.Font sound
back_in (key.InStream stream) sound = within 16 stream key.InStream sound
back_in (key.OutStream stream) sound = within 16 stream key.OutStream sound
back_in (key.Mark kind class) sound = mark_back kind class sound

pub key_back : (k : Key) → IsKey k → key_of (number_of k) ≡ Some k
key_back k sound = ap (option_and_then (λ kind. key_in kind (at_of k))) (kind_back (kind_of k)) ∙ back_in k sound

-- and it has that kind and number
pub record Has (kind : Kind) (at : ℕ) (k : Key) : Type 0 where
  pub kind_is : kind_of k ≡ kind
  pub at_is : at_of k ≡ at
  pub ranges : IsKey k

-- what a payload gives
from_option : {X : Type 0} (f : X → Key) (o : Option X) (kind : Kind) (at : ℕ) (k : Key) → option_map f o ≡ Some k
    → ((x : X) → o ≡ Some x → Has kind at (f x)) → Has kind at k
from_option f None kind at k h on = absurd (cc)
from_option f (Some x) kind at k h on =
    let e : f x ≡ k = cc in
    let P : Key → Type 0 = λ k. Has kind at k in
    subst P e (on x refl)

below_is : (bound number x : ℕ) → below bound number ≡ Some x → (x ≡ number) × (x < bound)
below_is bound number x h =
    elim (cases_lt number bound) [
      | inl low ↦
          let e : below bound number ≡ Some number = rw (lt-ltb number bound low) refl in
          let k : Some x ≡ Some number = sym h ∙ e in
          let is : x ≡ number = cc in
          (is, omega (arith, is, low))
      | inr high ↦
          let e : below bound number ≡ None = rw (le-ltb number bound high) refl in
          let k : Some x ≡ None = sym h ∙ e in
          absurd (cc)
    ]

from_below : (f : ℕ → Key) (bound : ℕ) (kind : Kind) (at : ℕ) (k : Key) → option_map f (below bound at) ≡ Some k
    → ((x : ℕ) → kind_of (f x) ≡ kind) → ((x : ℕ) → at_of (f x) ≡ x) → ((x : ℕ) → x < bound → IsKey (f x)) → Has kind at k
from_below f bound kind at k h kinds ats ranges =
    from_option f (below bound at) kind at k h (λ x e. record {
      kind_is = kinds x;
      at_is = ats x ∙ (below_is bound at x e).0;
      ranges = ranges x (below_is bound at x e).1;
    })

far_some : (at : ℕ) (k : Key) → 2048 ≤ at → at < 16777216 → far_font_dimen at ≡ Some k → Has kinds.FontDimen at k
far_some at k high low h =
    let e : far_font_dimen at ≡ Some (key.FontDimen (at % 256) (at / 256)) = beyond at (Some (key.FontDimen (at % 256) (at / 256))) high low in
    let some : Some (key.FontDimen (at % 256) (at / 256)) ≡ Some k = sym e ∙ h in
    let is : key.FontDimen (at % 256) (at / 256) ≡ k = cc in
    let large : 8 ≤ at / 256 = omega (arith, high) in
    let near : font_dimen_at (at % 256) (at / 256) ≡ 256 * (at / 256) + at % 256 = rw (le-ltb (at / 256) 8 large) refl in
    let P : Key → Type 0 = λ k. Has kinds.FontDimen at k in
    subst P is (record { kind_is = kind_far (at / 256) large; at_is = near ∙ omega arith; ranges = (omega arith, omega (arith, large), omega (arith, low)) })

far_there : (at : ℕ) (k : Key) → far_font_dimen at ≡ Some k → Has kinds.FontDimen at k
far_there at k h =
    elim (cases_lt at 2048) [
      | inl low ↦
          let e : far_font_dimen at ≡ None = rw (lt-ltb at 2048 low) refl in
          let none : None ≡ Some k = sym e ∙ h in
          absurd (cc)
      | inr high ↦
          elim (cases_lt at 16777216) [
            | inl low ↦ far_some at k high low h
            | inr large ↦
                let e : far_font_dimen at ≡ None = rw (le-ltb at 2048 high, le-leb 16777216 at large) refl in
                let none : None ≡ Some k = sym e ∙ h in
                absurd (cc)
          ]
    ]

there_in : (kind : Kind) (at : ℕ) (k : Key) → key_in kind at ≡ Some k → Has kind at k
unfolding key_in
there_in kinds.Meaning at k h =
    let e : key.Meaning at ≡ k = cc in
    let P : Key → Type 0 = λ k. Has kinds.Meaning at k in
    subst P e (record { kind_is = refl; at_is = refl; ranges = tt })
there_in kinds.Active at k h = from_below key.Active 256 kinds.Active at k h (λ x. refl) (λ x. refl) (λ x low. low)
there_in kinds.IntParam at k h = from_option key.Int (int_at at) kinds.IntParam at k h (λ x e. record { kind_is = refl; at_is = int_there at x e; ranges = tt })
there_in kinds.DimenParam at k h = from_option key.Dimen (dimen_at at) kinds.DimenParam at k h (λ x e. record { kind_is = refl; at_is = dimen_there at x e; ranges = tt })
there_in kinds.GlueParam at k h = from_option key.Glue (glue_at at) kinds.GlueParam at k h (λ x e. record { kind_is = refl; at_is = glue_there at x e; ranges = tt })
there_in kinds.MuGlueParam at k h = from_option key.MuGlue (mu_glue_at at) kinds.MuGlueParam at k h (λ x e. record { kind_is = refl; at_is = mu_glue_there at x e; ranges = tt })
there_in kinds.TokenParam at k h = from_option key.Tokens (token_at at) kinds.TokenParam at k h (λ x e. record { kind_is = refl; at_is = token_there at x e; ranges = tt })
there_in kinds.Count at k h = from_below (key.Register registers.Count) 32768 kinds.Count at k h (λ x. refl) (λ x. refl) (λ x low. low)
there_in kinds.Dimen at k h = from_below (key.Register registers.Dimen) 32768 kinds.Dimen at k h (λ x. refl) (λ x. refl) (λ x low. low)
there_in kinds.Skip at k h = from_below (key.Register registers.Skip) 32768 kinds.Skip at k h (λ x. refl) (λ x. refl) (λ x low. low)
there_in kinds.MuSkip at k h = from_below (key.Register registers.MuSkip) 32768 kinds.MuSkip at k h (λ x. refl) (λ x. refl) (λ x low. low)
there_in kinds.Toks at k h = from_below (key.Register registers.Toks) 32768 kinds.Toks at k h (λ x. refl) (λ x. refl) (λ x low. low)
there_in kinds.Box at k h = from_below key.Box 32768 kinds.Box at k h (λ x. refl) (λ x. refl) (λ x low. low)
there_in kinds.CatCode at k h = from_below (key.Code codes.Cat) 256 kinds.CatCode at k h (λ x. refl) (λ x. refl) (λ x low. low)
there_in kinds.MathCode at k h = from_below (key.Code codes.Math) 256 kinds.MathCode at k h (λ x. refl) (λ x. refl) (λ x low. low)
there_in kinds.LcCode at k h = from_below (key.Code codes.Lc) 256 kinds.LcCode at k h (λ x. refl) (λ x. refl) (λ x low. low)
there_in kinds.UcCode at k h = from_below (key.Code codes.Uc) 256 kinds.UcCode at k h (λ x. refl) (λ x. refl) (λ x low. low)
there_in kinds.SfCode at k h = from_below (key.Code codes.Sf) 256 kinds.SfCode at k h (λ x. refl) (λ x. refl) (λ x low. low)
there_in kinds.DelCode at k h = from_below (key.Code codes.Del) 256 kinds.DelCode at k h (λ x. refl) (λ x. refl) (λ x low. low)
there_in kinds.HyphenChar at k h = from_below (key.FontInt font_ints.HyphenChar) 256 kinds.HyphenChar at k h (λ x. refl) (λ x. refl) (λ x low. low)
there_in kinds.SkewChar at k h = from_below (key.FontInt font_ints.SkewChar) 256 kinds.SkewChar at k h (λ x. refl) (λ x. refl) (λ x low. low)
there_in kinds.TextFont at k h = from_below (key.FamilyFont sizes.Text) 16 kinds.TextFont at k h (λ x. refl) (λ x. refl) (λ x low. low)
there_in kinds.ScriptFont at k h = from_below (key.FamilyFont sizes.Script) 16 kinds.ScriptFont at k h (λ x. refl) (λ x. refl) (λ x low. low)
there_in kinds.ScriptScriptFont at k h = from_below (key.FamilyFont sizes.ScriptScript) 16 kinds.ScriptScriptFont at k h (λ x. refl) (λ x. refl) (λ x low. low)
there_in kinds.Slant at k h = from_below (λ font. key.FontDimen font 1) 256 kinds.Slant at k h (λ x. refl) (λ x. refl) (λ x low. (low, omega arith, omega arith))
there_in kinds.Space at k h = from_below (λ font. key.FontDimen font 2) 256 kinds.Space at k h (λ x. refl) (λ x. refl) (λ x low. (low, omega arith, omega arith))
there_in kinds.SpaceStretch at k h = from_below (λ font. key.FontDimen font 3) 256 kinds.SpaceStretch at k h (λ x. refl) (λ x. refl) (λ x low. (low, omega arith, omega arith))
there_in kinds.SpaceShrink at k h = from_below (λ font. key.FontDimen font 4) 256 kinds.SpaceShrink at k h (λ x. refl) (λ x. refl) (λ x low. (low, omega arith, omega arith))
there_in kinds.XHeight at k h = from_below (λ font. key.FontDimen font 5) 256 kinds.XHeight at k h (λ x. refl) (λ x. refl) (λ x low. (low, omega arith, omega arith))
there_in kinds.Quad at k h = from_below (λ font. key.FontDimen font 6) 256 kinds.Quad at k h (λ x. refl) (λ x. refl) (λ x low. (low, omega arith, omega arith))
there_in kinds.ExtraSpace at k h = from_below (λ font. key.FontDimen font 7) 256 kinds.ExtraSpace at k h (λ x. refl) (λ x. refl) (λ x low. (low, omega arith, omega arith))
there_in kinds.FontDimen at k h = far_there at k h
there_in kinds.Single at k h = from_option key.Single (single_at at) kinds.Single at k h (λ x e. record { kind_is = refl; at_is = single_there at x e; ranges = tt })
there_in kinds.Font at k h = from_below key.Font 256 kinds.Font at k h (λ x. refl) (λ x. refl) (λ x low. low)
there_in kinds.InStream at k h = from_below key.InStream 16 kinds.InStream at k h (λ x. refl) (λ x. refl) (λ x low. low)
there_in kinds.OutStream at k h = from_below key.OutStream 16 kinds.OutStream at k h (λ x. refl) (λ x. refl) (λ x low. low)
there_in kinds.TopMark at k h = from_below (key.Mark marks.Top) 32768 kinds.TopMark at k h (λ x. refl) (λ x. refl) (λ x low. low)
there_in kinds.FirstMark at k h = from_below (key.Mark marks.First) 32768 kinds.FirstMark at k h (λ x. refl) (λ x. refl) (λ x low. low)
there_in kinds.BottomMark at k h = from_below (key.Mark marks.Bottom) 32768 kinds.BottomMark at k h (λ x. refl) (λ x. refl) (λ x low. low)
there_in kinds.SplitFirstMark at k h = from_below (key.Mark marks.SplitFirst) 32768 kinds.SplitFirstMark at k h (λ x. refl) (λ x. refl) (λ x low. low)
there_in kinds.SplitBottomMark at k h = from_below (key.Mark marks.SplitBottom) 32768 kinds.SplitBottomMark at k h (λ x. refl) (λ x. refl) (λ x low. low)

answered_by : (n : KeyNumber) (kind : Kind) (o : Option Key) → kind_at n.kind ≡ Some kind → o ≡ key_in kind n.at → IfSome o (λ k. (number_of k ≡ n) × IsKey k)
answered_by n kind None e h = tt
answered_by n kind (Some k) e h =
    let has : Has kind n.at k = there_in kind n.at k (sym h) in
    let first : kind_number (kind_of k) ≡ n.kind = ap kind_number has.kind_is ∙ kind_there n.kind kind e in
    (λ i. record { kind = first i; at = has.at_is i }, has.ranges)

pub answered_number : (n : KeyNumber) (kind : Kind) (o : Option Key) → kind_at n.kind ≡ Some kind → o ≡ key_in kind n.at → IfSome o (λ k. number_of k ≡ n)
answered_number n kind None e h = tt
answered_number n kind (Some k) e h = (answered_by n kind (Some k) e h).0

pub answered_key : (n : KeyNumber) (kind : Kind) (o : Option Key) → kind_at n.kind ≡ Some kind → o ≡ key_in kind n.at → IfSome o (λ k. IsKey k)
answered_key n kind None e h = tt
answered_key n kind (Some k) e h = (answered_by n kind (Some k) e h).1

-- keys with the same number are the same
pub same_key : (k q : Key) → IsKey k → IsKey q → number_of k ≡ number_of q → k ≡ q
same_key k q sound other e =
    let both : Some k ≡ Some q = sym (key_back k sound) ∙ ap key_of e ∙ key_back q other in
    cc
