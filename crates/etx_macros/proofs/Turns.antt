-- What a turn says of its token.
use Rattle.std.proofs.Common.{◌≡◌, ℕ, zero, suc, ◌<◌, Bool, true, false, not, ◌&&◌, eqb, cond, Option, Some, None, Result, Ok, Err, ◌⊎◌, inl, inr, refl, ap, arith}
use Rattle.std.proofs.lemmas.Bool.{false≢true, eqb-true}
use Rattle.etx_matter.specs.declared.token.Token.{Token}
use Rattle.etx_macros.specs.declared.argument.Turn.{Turn}
use Rattle.etx_macros.specs.declared.argument.Turn.TheVariants as turn
use Rattle.etx_macros.specs.declared.fault.MatchFault.{MatchFault}
use Rattle.etx_macros.specs.declared.fault.MatchFault.TheVariants.{ParagraphEnded, ExtraBrace}
use Rattle.etx_macros.specs.Marks.{has_category, is_space, is_par, closed, behind}
use Rattle.etx_macros.specs.Matching.{undelimited_behind, delimited_behind, undelimited_turn, delimited_turn}

-- tests of a token that don't hold
pub no_par : (long par : Bool) → (not long && par) ≡ false → long ≡ false → par ≡ false
no_par true par e h = absurd cc
no_par false par e h = e

par_here : (long par : Bool) → (not long && par) ≡ true → (long ≡ false) × (par ≡ true)
par_here true par e = absurd cc
par_here false par e = (refl, e)

no_space_at : (d : ℕ) (space : Bool) → (eqb d 0 && space) ≡ false → d ≡ 0 → space ≡ false
no_space_at zero space e h = e
no_space_at (suc n) space e h = absurd (omega arith)

both : (a b : Bool) → (a && b) ≡ true → (a ≡ true) × (b ≡ true)
both true b e = (refl, e)
both false b e = absurd (false≢true e)

space_at : (d : ℕ) (space : Bool) → (eqb d 0 && space) ≡ true → (d ≡ 0) × (space ≡ true)
space_at d space e = let h = both (eqb d 0) space e in (eqb-true d 0 h.0, h.1)

abbrev shape : Bool → Bool → Option ℕ → Turn
shape s p o = cond s turn.Skip (cond p (turn.Fault ParagraphEnded) (undelimited_behind o))

found_shape : (s p : Bool) (o : Option ℕ) → shape s p o ≡ turn.Found → (s ≡ false) × (p ≡ false) × (o ≡ Some 0)
found_shape true p o e = absurd cc
found_shape false true o e = absurd cc
found_shape false false None e = absurd cc
found_shape false false (Some zero) e = (refl, refl, refl)
found_shape false false (Some (suc n)) e = absurd cc

keep_shape : (s p : Bool) (o : Option ℕ) (m : ℕ) → shape s p o ≡ turn.Keep m → (p ≡ false) × (o ≡ Some m) × (0 < m)
keep_shape true p o m e = absurd cc
keep_shape false true o m e = absurd cc
keep_shape false false None m e = absurd cc
keep_shape false false (Some zero) m e = absurd cc
keep_shape false false (Some (suc n)) m e = let h : suc n ≡ m = cc in (refl, ap (λ k. let o : Option ℕ = Some k in o) h, omega arith)

skip_shape : (s p : Bool) (o : Option ℕ) → shape s p o ≡ turn.Skip → s ≡ true
skip_shape true p o e = refl
skip_shape false true o e = absurd cc
skip_shape false false None e = absurd cc
skip_shape false false (Some zero) e = absurd cc
skip_shape false false (Some (suc n)) e = absurd cc

pub record IsLast (depth : ℕ) (long : Bool) (t : Token) : Type 0 where
  pub no_space : depth ≡ 0 → is_space t ≡ false
  pub no_par : long ≡ false → is_par t ≡ false
  pub closes : behind t depth ≡ Some 0

pub found_turn : (depth : ℕ) (long : Bool) (t : Token) → undelimited_turn depth long t ≡ turn.Found → IsLast depth long t
unfolding undelimited_turn
found_turn depth long t e =
    let h = found_shape (eqb depth 0 && is_space t) (not long && is_par t) (behind t depth) e in
    record { no_space = no_space_at depth (is_space t) h.0; no_par = no_par long (is_par t) h.1; closes = h.2 }

pub keep_turn : (depth : ℕ) (long : Bool) (t : Token) (m : ℕ) → undelimited_turn depth long t ≡ turn.Keep m → (long ≡ false → is_par t ≡ false) × (behind t depth ≡ Some m) × (0 < m)
unfolding undelimited_turn
keep_turn depth long t m e =
    let h = keep_shape (eqb depth 0 && is_space t) (not long && is_par t) (behind t depth) m e in
    (no_par long (is_par t) h.0, h.1, h.2)

pub skip_turn : (depth : ℕ) (long : Bool) (t : Token) → undelimited_turn depth long t ≡ turn.Skip → (depth ≡ 0) × (is_space t ≡ true)
unfolding undelimited_turn
skip_turn depth long t e = space_at depth (is_space t) (skip_shape (eqb depth 0 && is_space t) (not long && is_par t) (behind t depth) e)

-- what the braces behind a token say of it
abbrev braces : Bool → Bool → ℕ → Option ℕ
braces l r n = cond l (Some (suc n)) (cond r (closed n) (Some n))

stays_shape : (l r : Bool) → braces l r 0 ≡ Some 0 → (l ≡ false) × (r ≡ false)
stays_shape true r e = absurd cc
stays_shape false true e = absurd cc
stays_shape false false e = (refl, refl)

pub stays_flat : (t : Token) → behind t 0 ≡ Some 0 → (has_category t 1 ≡ false) × (has_category t 2 ≡ false)
unfolding behind
stays_flat t e = stays_shape (has_category t 1) (has_category t 2) e

closes_shape : (l r : Bool) (n : ℕ) → braces l r (suc n) ≡ Some 0 → (r ≡ true) × (n ≡ 0)
closes_shape true r n e = absurd cc
closes_shape false true n e = (refl, cc)
closes_shape false false n e = absurd cc

pub closes_group : (t : Token) (n : ℕ) → behind t (suc n) ≡ Some 0 → (has_category t 2 ≡ true) × (n ≡ 0)
unfolding behind
closes_group t n e = closes_shape (has_category t 1) (has_category t 2) n e

opens_shape : (l r : Bool) (m : ℕ) → 0 < m → braces l r 0 ≡ Some m → (l ≡ true) × (m ≡ 1)
opens_shape true r m h e = (refl, cc)
opens_shape false true m h e = absurd cc
opens_shape false false m h e = let z : 0 ≡ m = cc in absurd (omega arith)

pub opens_group : (t : Token) (m : ℕ) → 0 < m → behind t 0 ≡ Some m → (has_category t 1 ≡ true) × (m ≡ 1)
unfolding behind
opens_group t m h e = opens_shape (has_category t 1) (has_category t 2) m h e

inside_shape : (l r : Bool) (n m : ℕ) → braces l r (suc n) ≡ Some (suc m) → braces l r n ≡ Some m
inside_shape true r n m e = cc
inside_shape false true n m e = let h : n ≡ suc m = cc in ap closed h
inside_shape false false n m e = cc

-- one brace fewer is open on both sides
pub inside_group : (t : Token) (n m : ℕ) → behind t (suc n) ≡ Some (suc m) → behind t n ≡ Some m
unfolding behind
inside_group t n m e = inside_shape (has_category t 1) (has_category t 2) n m e

-- delimited arguments
three : (long par inside : Bool) → ((not long && par) && not inside) ≡ false → long ≡ false → par ≡ true → inside ≡ true
three true par inside e h p = absurd cc
three false true true e h p = refl
three false true false e h p = absurd cc
three false false inside e h p = absurd cc

three_here : (long par inside : Bool) → ((not long && par) && not inside) ≡ true → (long ≡ false) × (par ≡ true) × (inside ≡ false)
three_here true par inside e = absurd cc
three_here false true true e = absurd cc
three_here false true false e = (refl, refl, refl)
three_here false false inside e = absurd cc

abbrev delimited_shape : Bool → Option ℕ → Result ℕ MatchFault
delimited_shape p o = cond p (Err ParagraphEnded) (delimited_behind o)

delimited_ok : (p : Bool) (o : Option ℕ) (m : ℕ) → delimited_shape p o ≡ Ok m → (p ≡ false) × (o ≡ Some m)
delimited_ok true o m e = absurd cc
delimited_ok false None m e = absurd cc
delimited_ok false (Some n) m e = (refl, let h : n ≡ m = cc in ap (λ k. let q : Option ℕ = Some k in q) h)

pub delimited_keep : (inside : Bool) (depth : ℕ) (long : Bool) (t : Token) (m : ℕ) → delimited_turn inside depth long t ≡ Ok m → (long ≡ false → is_par t ≡ true → inside ≡ true) × (behind t depth ≡ Some m)
unfolding delimited_turn
delimited_keep inside depth long t m e =
    let h = delimited_ok ((not long && is_par t) && not inside) (behind t depth) m e in
    (three long (is_par t) inside h.0, h.1)

fault_shape : (s p : Bool) (o : Option ℕ) (f : MatchFault) → shape s p o ≡ turn.Fault f → ((ParagraphEnded ≡ f) × (p ≡ true)) ⊎ ((ExtraBrace ≡ f) × (o ≡ None))
fault_shape true p o f e = absurd cc
fault_shape false true o f e = inl (cc, refl)
fault_shape false false None f e = inr (cc, refl)
fault_shape false false (Some zero) f e = absurd cc
fault_shape false false (Some (suc n)) f e = absurd cc

delimited_err : (p : Bool) (o : Option ℕ) (f : MatchFault) → delimited_shape p o ≡ Err f → ((ParagraphEnded ≡ f) × (p ≡ true)) ⊎ ((ExtraBrace ≡ f) × (o ≡ None))
delimited_err true o f e = inl (cc, refl)
delimited_err false None f e = inr (cc, refl)
delimited_err false (Some n) f e = absurd cc

closed_none : (n : ℕ) → closed n ≡ None → n ≡ 0
closed_none zero e = refl
closed_none (suc n) e = absurd cc

none_shape : (l r : Bool) (n : ℕ) → braces l r n ≡ None → (n ≡ 0) × (r ≡ true)
none_shape true r n e = absurd cc
none_shape false true n e = (closed_none n e, refl)
none_shape false false n e = absurd cc

pub closes_none : (t : Token) (n : ℕ) → behind t n ≡ None → (n ≡ 0) × (has_category t 2 ≡ true)
unfolding behind
closes_none t n e = none_shape (has_category t 1) (has_category t 2) n e

-- why a token is a fault of an argument; free: what more is known of a `\par`
abbrev pub Faulty : MatchFault → ℕ → Bool → Token → Type 0 → Type 0
Faulty f depth long t free = ((ParagraphEnded ≡ f) × (long ≡ false) × (is_par t ≡ true) × free) ⊎ ((ExtraBrace ≡ f) × (depth ≡ 0) × (has_category t 2 ≡ true))

pub undelimited_fault : (depth : ℕ) (long : Bool) (t : Token) (f : MatchFault) → undelimited_turn depth long t ≡ turn.Fault f → Faulty f depth long t (Unit {0})
unfolding undelimited_turn
undelimited_fault depth long t f e =
    elim (fault_shape (eqb depth 0 && is_space t) (not long && is_par t) (behind t depth) f e) [
      | inl h ↦ let p = par_here long (is_par t) h.1 in inl (h.0, p.0, p.1, tt)
      | inr h ↦ let b = closes_none t depth h.1 in inr (h.0, b.0, b.1)
    ]

pub delimited_fault : (inside : Bool) (depth : ℕ) (long : Bool) (t : Token) (f : MatchFault) → delimited_turn inside depth long t ≡ Err f → Faulty f depth long t (inside ≡ false)
unfolding delimited_turn
delimited_fault inside depth long t f e =
    elim (delimited_err ((not long && is_par t) && not inside) (behind t depth) f e) [
      | inl h ↦ let p = three_here long (is_par t) inside h.1 in inl (h.0, p.0, p.1, p.2)
      | inr h ↦ let b = closes_none t depth h.1 in inr (h.0, b.0, b.1)
    ]
