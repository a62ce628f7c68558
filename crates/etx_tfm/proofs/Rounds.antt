-- Lists of greater and greater characters, one character further.
use Rattle.std.proofs.Common.{◌≡◌, ℕ, suc, ◌+◌, ◌-◌, ◌<◌, ◌≤◌, true, false, ◌||◌, eqb, List, [], ◌∷◌, length, drop, None, Some, refl, ◌∙◌, eq-eqb, arith}
use Rattle.std.proofs.lemmas.Bool.{ne_eqb}
use Rattle.std.proofs.lemmas.List.{drop_more}
use Rattle.etx_matter.specs.declared.font.CharInfo.{CharInfo}
use Rattle.etx_matter.specs.declared.font.FontInfo.{FontInfo}
use Rattle.etx_matter.specs.Fonts.{successor, comes_to, has_round_list}

pub comes_to-none : (font : FontInfo) (home at i n : ℕ) → i < n → successor font at ≡ None
    → comes_to font home (n - i) at ≡ false
unfolding comes_to
comes_to-none font home at i n h e =
    let k : n - i ≡ suc (n - (i + 1)) = omega arith in
    rw (k, e) refl

pub comes_to-some : (font : FontInfo) (home at i n next : ℕ) → i < n → successor font at ≡ Some next
    → comes_to font home (n - i) at ≡ (eqb next home || comes_to font home (n - (i + 1)) next)
unfolding comes_to
comes_to-some font home at i n next h e =
    let k : n - i ≡ suc (n - (i + 1)) = omega arith in
    rw (k, e) refl

pub comes_to-here : (font : FontInfo) (home at i n next : ℕ) → i < n → successor font at ≡ Some next → next ≡ home
    → comes_to font home (n - i) at ≡ true
comes_to-here font home at i n next h e same = comes_to-some font home at i n next h e ∙ rw (eq-eqb next home same) refl

pub comes_to-on : (font : FontInfo) (home at i n next : ℕ) → i < n → successor font at ≡ Some next → (next ≡ home → ⊥)
    → comes_to font home (n - i) at ≡ comes_to font home (n - (i + 1)) next
comes_to-on font home at i n next h e other = comes_to-some font home at i n next h e ∙ rw (ne_eqb next home other) refl

pub comes_to-end : (font : FontInfo) (home at i n : ℕ) → n ≤ i → comes_to font home (n - i) at ≡ false
unfolding comes_to
comes_to-end font home at i n h =
    let k : n - i ≡ 0 = omega arith in
    rw k refl

pub has_round_list-more : (font : FontInfo) (cs : List CharInfo) (first i : ℕ) → i < length cs
    → has_round_list font (first + i) (drop i cs)
    ≡ (comes_to font (first + i) 256 (first + i) || has_round_list font (first + (i + 1)) (drop (i + 1) cs))
unfolding has_round_list
has_round_list-more font [] first i h = absurd (omega (arith, h))
has_round_list-more font (c ∷ cs) first i h =
    let k : first + i + 1 ≡ first + (i + 1) = omega arith in
    rw (drop_more (c ∷ cs) i c h, k) refl

pub has_round_list-here : (font : FontInfo) (cs : List CharInfo) (first i code : ℕ) → i < length cs → code ≡ first + i
    → comes_to font code 256 code ≡ true → has_round_list font (first + i) (drop i cs) ≡ true
has_round_list-here font cs first i code h k round =
    let t : comes_to font (first + i) 256 (first + i) ≡ true = rw k at round in
    has_round_list-more font cs first i h ∙ rw t refl

pub has_round_list-on : (font : FontInfo) (cs : List CharInfo) (first i code : ℕ) → i < length cs → code ≡ first + i
    → comes_to font code 256 code ≡ false
    → has_round_list font (first + i) (drop i cs) ≡ has_round_list font (first + (i + 1)) (drop (i + 1) cs)
has_round_list-on font cs first i code h k none =
    let t : comes_to font (first + i) 256 (first + i) ≡ false = rw k at none in
    has_round_list-more font cs first i h ∙ rw t refl
