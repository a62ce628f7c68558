-- A parameter text, step by step.
use Rattle.std.proofs.Common.{◌≡◌, ℕ, suc, ◌≤◌, ◌+◌, Bool, true, false, ◌||◌, eqb, cond, List, [], ◌∷◌, ◌++◌, Result, Ok, Err, IfOk, length, drop, refl, sym, ap, ◌∙◌, arith, append_assoc, subst}
use Rattle.std.proofs.lemmas.List.{append-nil, drop-drop, length-drop, length-append}
use Rattle.std.proofs.lemmas.Grind.{common_steps}
use Rattle.etx_matter.specs.declared.token.Token.{Token}
use Rattle.std.specs.Prelude.{All}
use Rattle.std.proofs.lemmas.List.Elements.{All-nil, All-push}
use Rattle.etx_macros.specs.Marks.{has_category, IsUnbraced, IsDelimiter}
use Rattle.etx_macros.proofs.Delimiters.{plain_delimiter, left_delimiter}
use Rattle.etx_macros.specs.declared.pattern.PatternFault.{PatternFault}
use Rattle.etx_macros.specs.declared.pattern.PatternFault.TheVariants.{BadNumber, TooManyParameters, OutOfMemory}
use Rattle.etx_macros.specs.declared.pattern.Next.{Next}
use Rattle.etx_macros.specs.declared.pattern.Next.TheVariants.{End, Text, Parameter, Brace}
use Rattle.etx_macros.specs.ParameterText.{IsFaultOf, split, Parts, parts_of, is_brace, is_digit, with_token, with_part, joined, listed, pattern_of, wrong_number, numbered, behind_mark, number_of, behind_of, next_of, parts_by, HasRoom}

-- a numbered parameter
numbered_by : (n : ℕ) (t u : Token) (rest : List Token) → numbered n u (parts_of (suc n) rest) ≡ parts_by n (t ∷ u ∷ rest) (number_of n u)
numbered_by n t u rest =
    elim (eqb n 9) as (λ b. cond b (Err TooManyParameters) (cond (is_digit (suc n) u) (with_part (parts_of (suc n) rest)) (Err BadNumber)) ≡ parts_by n (t ∷ u ∷ rest) (cond b (Err TooManyParameters) (cond (is_digit (suc n) u) (Ok Parameter) (Err BadNumber)))) [
      | true ↦ refl
      | false ↦ elim (is_digit (suc n) u) as (λ d. cond d (with_part (parts_of (suc n) rest)) (Err BadNumber) ≡ parts_by n (t ∷ u ∷ rest) (cond d (Ok Parameter) (Err BadNumber))) [ true ↦ refl | false ↦ refl ]
    ]

behind_by : (n : ℕ) (t u : Token) (rest : List Token) → behind_mark n u (parts_of (suc n) rest) ≡ parts_by n (t ∷ u ∷ rest) (behind_of n (u ∷ rest))
behind_by n t u rest =
    elim (has_category u 1) as (λ b. cond b (Ok (split (u ∷ []) [])) (numbered n u (parts_of (suc n) rest)) ≡ parts_by n (t ∷ u ∷ rest) (cond b (Ok (Brace u)) (number_of n u))) [ true ↦ refl | false ↦ numbered_by n t u rest ]

-- the parts of a text follow from what it begins with
pub parts_from_next : (n : ℕ) (text : List Token) → parts_of n text ≡ parts_by n text (next_of n text)
unfolding parts_of
parts_from_next n [] = refl
parts_from_next n (t ∷ []) =
    elim (is_brace t) as (λ a. cond a (Ok (split [] [])) (cond (has_category t 6) (Err (wrong_number n)) (with_token t (Ok (split [] [])))) ≡ parts_by n (t ∷ []) (cond a (Ok End) (cond (has_category t 6) (Err (wrong_number n)) (Ok (Text t))))) [
      | true ↦ refl
      | false ↦ elim (has_category t 6) as (λ b. cond b (Err (wrong_number n)) (with_token t (Ok (split [] []))) ≡ parts_by n (t ∷ []) (cond b (Err (wrong_number n)) (Ok (Text t)))) [ true ↦ refl | false ↦ refl ]
    ]
parts_from_next n (t ∷ u ∷ rest) =
    elim (is_brace t) as (λ a. cond a (Ok (split [] [])) (cond (has_category t 6) (behind_mark n u (parts_of (suc n) rest)) (with_token t (parts_of n (u ∷ rest)))) ≡ parts_by n (t ∷ u ∷ rest) (cond a (Ok End) (cond (has_category t 6) (behind_of n (u ∷ rest)) (Ok (Text t))))) [
      | true ↦ refl
      | false ↦ elim (has_category t 6) as (λ b. cond b (behind_mark n u (parts_of (suc n) rest)) (with_token t (parts_of n (u ∷ rest))) ≡ parts_by n (t ∷ u ∷ rest) (cond b (behind_of n (u ∷ rest)) (Ok (Text t)))) [ true ↦ behind_by n t u rest | false ↦ refl ]
    ]

number_room : (n : ℕ) (t u : Token) (rest : List Token) → n ≤ 9 → IfOk (number_of n u) (HasRoom n (t ∷ u ∷ rest))
number_room n t u rest l = grind (arith, common_steps)

neither : (l r : Bool) → (l || r) ≡ false → (l ≡ false) × (r ≡ false)
neither true r e = absurd cc
neither false r e = (refl, e)

behind_room : (n : ℕ) (t u : Token) (rest : List Token) → n ≤ 9 → IfOk (behind_of n (u ∷ rest)) (HasRoom n (t ∷ u ∷ rest))
behind_room n t u rest l =
    elim (has_category u 1) as (λ b. has_category u 1 ≡ b → IfOk (cond b (Ok (Brace u)) (number_of n u)) (HasRoom n (t ∷ u ∷ rest))) [ true ↦ λ e. e | false ↦ λ e. number_room n t u rest l ] refl

-- a text has room for what it begins with
pub room_for_next : (n : ℕ) (text : List Token) → n ≤ 9 → IfOk (next_of n text) (HasRoom n text)
room_for_next n [] l = tt
room_for_next n (t ∷ []) l =
    elim (is_brace t) as (λ a. is_brace t ≡ a → IfOk (cond a (Ok End) (cond (has_category t 6) (Err (wrong_number n)) (Ok (Text t)))) (HasRoom n (t ∷ []))) [
      | true ↦ λ e. tt
      | false ↦ λ e. elim (has_category t 6) as (λ b. IfOk (cond b (Err (wrong_number n)) (Ok (Text t))) (HasRoom n (t ∷ []))) [ true ↦ tt | false ↦ (omega arith, neither (has_category t 1) (has_category t 2) e) ]
    ] refl
room_for_next n (t ∷ u ∷ rest) l =
    elim (is_brace t) as (λ a. is_brace t ≡ a → IfOk (cond a (Ok End) (cond (has_category t 6) (behind_of n (u ∷ rest)) (Ok (Text t)))) (HasRoom n (t ∷ u ∷ rest))) [
      | true ↦ λ e. tt
      | false ↦ λ e. elim (has_category t 6) as (λ b. IfOk (cond b (behind_of n (u ∷ rest)) (Ok (Text t))) (HasRoom n (t ∷ u ∷ rest))) [ true ↦ behind_room n t u rest l | false ↦ (omega arith, neither (has_category t 1) (has_category t 2) e) ]
    ] refl

joined_token : (parts : List (List Token)) (part : List Token) (t : Token) (later : Parts) → joined parts part (with_token t later) ≡ joined parts (part ++ t ∷ []) later
joined_token parts part t (Ok s) = ap (λ q. let r : Result (List (List Token)) PatternFault = Ok (parts ++ q ∷ s.others) in r) (sym (append_assoc part (t ∷ []) s.first))
joined_token parts part t (Err fault) = refl

joined_part : (parts : List (List Token)) (part : List Token) (later : Parts) → joined parts part (with_part later) ≡ joined (parts ++ part ∷ []) [] later
joined_part parts part (Ok s) =
    ap (λ q. let r : Result (List (List Token)) PatternFault = Ok (parts ++ q ∷ s.first ∷ s.others) in r) (append-nil part)
    ∙ ap (λ q. let r : Result (List (List Token)) PatternFault = Ok q in r) (sym (append_assoc parts (part ∷ []) (s.first ∷ s.others)))
joined_part parts part (Err fault) = refl

-- what a reader of a parameter text keeps at a place
pub record IsRead (params : List Token) (parts : List (List Token)) (part : List Token) (at : ℕ) : Type 0 where
  pub in_text : at ≤ length params
  pub few : length parts ≤ 9
  pub flat : All IsDelimiter parts
  pub plain : All IsUnbraced part
  pub same : pattern_of params ≡ joined parts part (parts_of (length parts) (drop at params))

pub read_first : (params : List Token) → IsRead params [] [] 0
read_first params = record { in_text = omega arith; few = omega arith; flat = All-nil IsDelimiter; plain = All-nil IsUnbraced; same = elim (parts_of 0 params) as (λ r. listed r ≡ joined [] [] r) [ Ok s ↦ refl | Err f ↦ refl ] }

-- the parts at a place, by what stands there
stands : (params : List Token) (parts : List (List Token)) (part : List Token) (at : ℕ) (next : Result Next PatternFault) → IsRead params parts part at → next_of (length parts) (drop at params) ≡ next → pattern_of params ≡ joined parts part (parts_by (length parts) (drop at params) next)
stands params parts part at next h e = h.same ∙ ap (joined parts part) (parts_from_next (length parts) (drop at params) ∙ ap (parts_by (length parts) (drop at params)) e)

pub read_end : (params : List Token) (parts : List (List Token)) (part : List Token) (at : ℕ) → IsRead params parts part at → next_of (length parts) (drop at params) ≡ Ok End → pattern_of params ≡ Ok (parts ++ part ∷ [])
read_end params parts part at h e = stands params parts part at (Ok End) h e ∙ ap (λ q. let r : Result (List (List Token)) PatternFault = Ok (parts ++ q ∷ []) in r) (append-nil part)

pub read_fault : (params : List Token) (parts : List (List Token)) (part : List Token) (at : ℕ) (fault : PatternFault) → IsRead params parts part at → next_of (length parts) (drop at params) ≡ Err fault → pattern_of params ≡ Err fault
read_fault params parts part at fault h e = stands params parts part at (Err fault) h e

room : (params : List Token) (parts : List (List Token)) (part : List Token) (at : ℕ) (next : Next) → IsRead params parts part at → next_of (length parts) (drop at params) ≡ Ok next → HasRoom (length parts) (drop at params) next
room params parts part at next h e = subst (λ (r : Result Next PatternFault). IfOk r (HasRoom (length parts) (drop at params))) e (room_for_next (length parts) (drop at params) h.few)

pub read_token : (params : List Token) (parts : List (List Token)) (part : List Token) (at : ℕ) (t : Token) → IsRead params parts part at → next_of (length parts) (drop at params) ≡ Ok (Text t) → IsRead params parts (part ++ t ∷ []) (at + 1)
read_token params parts part at t h e =
    let r = room params parts part at (Text t) h e in
    record {
      in_text = omega (arith, length-drop at params, r.0);
      few = h.few;
      flat = h.flat;
      plain = All-push IsUnbraced part t h.plain r.1;
      same = stands params parts part at (Ok (Text t)) h e ∙ ap (λ xs. joined parts part (with_token t (parts_of (length parts) xs))) (drop-drop 1 at params) ∙ joined_token parts part t _;
    }

-- the last left brace
pub read_brace : (params : List Token) (parts : List (List Token)) (part : List Token) (at : ℕ) (t : Token) → IsRead params parts part at → next_of (length parts) (drop at params) ≡ Ok (Brace t) → (pattern_of params ≡ Ok (parts ++ (part ++ t ∷ []) ∷ [])) × IsDelimiter (part ++ t ∷ [])
read_brace params parts part at t h e = (stands params parts part at (Ok (Brace t)) h e, left_delimiter part t h.plain (room params parts part at (Brace t) h e))

pub read_parameter : (params : List Token) (parts : List (List Token)) (part : List Token) (at : ℕ) → IsRead params parts part at → next_of (length parts) (drop at params) ≡ Ok Parameter → IsRead params (parts ++ part ∷ []) [] (at + 2)
read_parameter params parts part at h e =
    let r = room params parts part at Parameter h e in
    let more : length (parts ++ part ∷ []) ≡ suc (length parts) = omega (arith, length-append parts (part ∷ [])) in
    record {
      in_text = omega (arith, length-drop at params, r.0);
      few = omega (arith, more, r.1);
      flat = All-push IsDelimiter parts part h.flat (plain_delimiter part h.plain);
      plain = All-nil IsUnbraced;
      same = stands params parts part at (Ok Parameter) h e ∙ ap (λ xs. joined parts part (with_part (parts_of (suc (length parts)) xs))) (drop-drop 2 at params) ∙ joined_part parts part _ ∙ ap (λ n. joined (parts ++ part ∷ []) [] (parts_of n (drop (at + 2) params))) (sym more);
    }

pub fault_of : (params : List Token) (fault : PatternFault) → pattern_of params ≡ Err fault → IsFaultOf fault params
fault_of params BadNumber e = e
fault_of params TooManyParameters e = e
fault_of params OutOfMemory e = tt
