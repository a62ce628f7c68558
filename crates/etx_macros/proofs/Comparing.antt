-- What the tests of tokens and texts say.
use Rattle.std.proofs.Common.{◌≡◌, ℕ, zero, suc, ◌<◌, ◌≤◌, ◌-◌, Bool, true, false, ◌&&◌, eqb, cond, List, [], ◌∷◌, ◌++◌, Option, Some, None, inl, inr, length, take, drop, refl, sym, ap, ◌∙◌, arith}
use Rattle.std.specs.Prelude.{slice_get}
use Rattle.std.proofs.lemmas.Bool.{false≢true, eqb-true, eq-eqb, cases_lt}
use Rattle.std.proofs.lemmas.List.{append-nil, take-append-drop, length-append, length-take-le}
use Rattle.etx_matter.specs.declared.token.Token.{Token}
use Rattle.etx_matter.specs.declared.token.Token.TheVariants.{Char, Name, Param}
use Rattle.etx_matter.specs.declared.token.NameId.{NameId}
use Rattle.etx_macros.specs.Marks.{same_token, same_tokens, ends_with, EndsWith}
use Rattle.etx_macros.specs.Matching.{IsLongest}
use Rattle.etx_macros.specs.Feeding.{longest, is_token, has_at}

eqb_refl : (n : ℕ) → eqb n n ≡ true
eqb_refl n = eq-eqb n n refl

same_name : (name other : NameId) → name.0 ≡ other.0 → name ≡ other
same_name name other h = ap (λ (n : ℕ). let x : NameId = record { 0 = n } in x) h

both : (a b : Bool) → (a && b) ≡ true → (a ≡ true) × (b ≡ true)
both true b e = (refl, e)
both false b e = absurd (false≢true e)

pub same_there : (t u : Token) → same_token t u ≡ true → t ≡ u
same_there (Char code cat) (Char other kind) e =
    let h = both (eqb code other) (eqb cat kind) e in
    let c = eqb-true code other h.0 in
    let k = eqb-true cat kind h.1 in
    ap (λ x. let t : Token = Char x cat in t) c ∙ ap (λ x. let t : Token = Char other x in t) k
same_there (Char code cat) (Name name) e = absurd (false≢true e)
same_there (Char code cat) (Param k) e = absurd (false≢true e)
same_there (Name name) (Char code cat) e = absurd (false≢true e)
same_there (Name name) (Name other) e = ap (λ (n : NameId). let t : Token = Name n in t) (same_name name other (eqb-true name.0 other.0 e))
same_there (Name name) (Param k) e = absurd (false≢true e)
same_there (Param k) (Char code cat) e = absurd (false≢true e)
same_there (Param k) (Name name) e = absurd (false≢true e)
same_there (Param k) (Param other) e = ap (λ x. let t : Token = Param x in t) (eqb-true k other e)

pub same_itself : (t : Token) → same_token t t ≡ true
same_itself (Char code cat) = ap (λ b. b && eqb cat cat) (eqb_refl code) ∙ eqb_refl cat
same_itself (Name name) = eqb_refl name.0
same_itself (Param k) = eqb_refl k

pub same_back : (t u : Token) → t ≡ u → same_token t u ≡ true
same_back t u e = ap (λ x. same_token t x) (sym e) ∙ same_itself t

-- a test is what decides the same
pub same_test : (a b : Bool) → (a ≡ true → b ≡ true) → (b ≡ true → a ≡ true) → a ≡ b
same_test true true f g = refl
same_test true false f g = sym (f refl)
same_test false true f g = g refl
same_test false false f g = refl

texts_there : (xs ys : List Token) → same_tokens xs ys ≡ true → xs ≡ ys
texts_there [] [] e = refl
texts_there [] (y ∷ ys) e = absurd (false≢true e)
texts_there (x ∷ xs) [] e = absurd (false≢true e)
texts_there (x ∷ xs) (y ∷ ys) e =
    let h = both (same_token x y) (same_tokens xs ys) e in
    ap (λ t. t ∷ xs) (same_there x y h.0) ∙ ap (λ ts. y ∷ ts) (texts_there xs ys h.1)

texts_itself : (xs : List Token) → same_tokens xs xs ≡ true
texts_itself [] = refl
texts_itself (x ∷ xs) = ap (λ b. b && same_tokens xs xs) (same_itself x) ∙ texts_itself xs

pub ends_there : (text end : List Token) → ends_with text end ≡ true → EndsWith text end
ends_there text end e =
    let n = length text - length end in
    (take n text, sym (take-append-drop n text) ∙ ap (λ xs. take n text ++ xs) (texts_there (drop n text) end e))

drop_front : (front end : List Token) → drop (length front) (front ++ end) ≡ end
drop_front [] end = refl
drop_front (x ∷ front) end = drop_front front end

pub ends_back : (text end : List Token) → EndsWith text end → ends_with text end ≡ true
ends_back text end w =
    let n : length text - length end ≡ length w.0 = omega (arith, ap length w.1, length-append w.0 end) in
    let d : drop (length text - length end) text ≡ end = ap (λ k. drop k text) n ∙ ap (λ xs. drop (length w.0) xs) w.1 ∙ drop_front w.0 end in
    ap (λ xs. same_tokens xs end) d ∙ texts_itself end

-- the search for the longest beginning finds it
pub longest_is : (text delimiter : List Token) (most : ℕ) → IsLongest text delimiter most (longest text delimiter most)
longest_is text delimiter zero = record {
  within = omega arith;
  ends = (text, sym (append-nil text));
  longest = λ more l u w. absurd (omega (arith, l, u));
}
longest_is text delimiter (suc n) =
    elim (ends_with text (take (suc n) delimiter)) as (λ b. ends_with text (take (suc n) delimiter) ≡ b → IsLongest text delimiter (suc n) (cond b (suc n) (longest text delimiter n))) [
      | true ↦ λ e. record {
        within = omega arith;
        ends = ends_there text (take (suc n) delimiter) e;
        longest = λ more l u w. absurd (omega (arith, l, u));
      }
      | false ↦ λ e.
          let h = longest_is text delimiter n in
          record {
            within = omega (arith, h.within);
            ends = h.ends;
            longest = λ more l u w. elim (cases_lt n more) [
              | inl far ↦
                  let s : more ≡ suc n = omega (arith, far, u) in
                  false≢true (sym e ∙ ends_back text (take (suc n) delimiter) (w.0, w.1 ∙ ap (λ k. w.0 ++ take k delimiter) s))
              | inr near ↦ h.longest more l (omega (arith, near)) w
            ];
          }
    ] refl

pub longest_zero : (text delimiter : List Token) (n : ℕ) → n ≡ 0 → longest text delimiter n ≡ 0
longest_zero text delimiter zero e = refl
longest_zero text delimiter (suc n) e = absurd (omega arith)

pub longest_found : (text delimiter : List Token) (n : ℕ) → 0 < n → ends_with text (take n delimiter) ≡ true → longest text delimiter n ≡ n
longest_found text delimiter zero l e = absurd (omega arith)
longest_found text delimiter (suc n) l e = ap (λ b. cond b (suc n) (longest text delimiter n)) e

pub longest_step : (text delimiter : List Token) (n : ℕ) → 0 < n → ends_with text (take n delimiter) ≡ false → longest text delimiter n ≡ longest text delimiter (n - 1)
longest_step text delimiter zero l e = absurd (omega arith)
longest_step text delimiter (suc n) l e = ap (λ b. cond b (suc n) (longest text delimiter n)) e ∙ ap (λ k. longest text delimiter k) (let k : n ≡ suc n - 1 = omega arith in k)

pub longest_short : (text delimiter : List Token) (most : ℕ) → most ≤ length delimiter → longest text delimiter most ≤ length text
longest_short text delimiter most l =
    let h = longest_is text delimiter most in
    let w = h.ends in
    omega (arith, ap length w.1, length-append w.0 (take (longest text delimiter most) delimiter), length-take-le (longest text delimiter most) delimiter (omega (arith, h.within, l)))

-- the token at a place of a text
token_there : (t : Token) (o : Option Token) → is_token t o ≡ true → o ≡ Some t
token_there t None e = absurd (false≢true e)
token_there t (Some u) e = ap (λ x. let o : Option Token = Some x in o) (same_there u t e)

token_back : (t : Token) (o : Option Token) → o ≡ Some t → is_token t o ≡ true
token_back t o e = ap (is_token t) e ∙ same_itself t

pub at_there : (text : List Token) (at : ℕ) (t : Token) → has_at text at t ≡ true → slice_get text at ≡ Some t
at_there text at t e = token_there t (slice_get text at) e

pub at_back : (text : List Token) (at : ℕ) (t : Token) → slice_get text at ≡ Some t → has_at text at t ≡ true
at_back text at t e = token_back t (slice_get text at) e
