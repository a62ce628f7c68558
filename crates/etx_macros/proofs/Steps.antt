-- The match of a call, step by step.
use Rattle.std.proofs.Common.{Result, Ok, Err, IfOk, drop, ◌≡◌, ℕ, ◌<◌, ◌≤◌, ◌+◌, Bool, true, false, eqb, cond, List, [], ◌∷◌, ◌++◌, Option, Some, ◌⊎◌, inl, inr, length, get_or, take, refl, sym, ap, subst, ◌∙◌, arith}
use Rattle.std.proofs.lemmas.List.{append-nil, append_assoc, take_more, take_all, take_at, length-append, get_or_at, nil_from_length}
use Rattle.std.proofs.lemmas.Option.{slice_get_within, get_or_from_slice_get, slice_get-get_or}
use Rattle.std.specs.Prelude.{slice_get}
use Rattle.std.specs.declared.alloc.AllocError.{AllocError}
use Rattle.std.proofs.lemmas.Bool.{eqb-true, eqb-false}
use Rattle.etx_matter.specs.declared.token.Token.{Token}
use Rattle.etx_macros.specs.declared.argument.Turn.TheVariants as turn
use Rattle.etx_macros.specs.declared.fault.Fed.{Fed}
use Rattle.etx_macros.specs.declared.fault.Fed.TheVariants.{More, Done}
use Rattle.etx_macros.specs.State.{MatcherState}
use Rattle.etx_macros.specs.Feeding.{first_part, started}
use Rattle.etx_macros.specs.Marks.{is_par, behind, IsBalanced}
use Rattle.etx_macros.specs.Calls.{Gives, EndsInside, IsDelimited, IsArgument, MatchesCall, text_before, with_argument}
use Rattle.etx_macros.specs.Matching.{said_at, IsLongest, undelimited_turn}
use Rattle.etx_macros.specs.Within.{InDelimited, Within}
use Rattle.etx_macros.specs.Progress.{InText, InArgument, IsAfter, IsWhole, Comes}
use Rattle.etx_macros.proofs.Delimiters.{IsFound}
use Rattle.etx_macros.proofs.Arguments.{spaces_push, bare_skip, bare_keep, bare_found, delimited_found, delimited_more, within_start}

part_more : (parts : List (List Token)) (part : ℕ) → part < length parts → take (part + 1) parts ≡ take part parts ++ get_or parts part [] ∷ []
part_more parts part l = take_more parts part [] l

-- a call and a token of an argument, taken apart
pub call_apart : (parts : List (List Token)) (long : Bool) (args : List (List Token)) (part : ℕ) (read : List Token) (depth matched : ℕ) (call : List Token) (t : Token) (h : InArgument parts long args part read depth matched call) → call ++ t ∷ [] ≡ h.before ++ (h.skipped ++ (read ++ t ∷ []))
call_apart parts long args part read depth matched call t h =
    ap (λ xs. xs ++ t ∷ []) h.whole ∙ append_assoc h.before (h.skipped ++ read) (t ∷ []) ∙ ap (λ xs. h.before ++ xs) (append_assoc h.skipped read (t ∷ []))

-- where an argument is over, the call so far is matched up to it
pub matched_more : (parts : List (List Token)) (long : Bool) (args : List (List Token)) (part : ℕ) (before text arg : List Token) → MatchesCall long (take part parts) before args → part < length parts → IsArgument long (get_or parts part []) text arg → MatchesCall long (take (part + 1) parts) (before ++ text) (args ++ arg ∷ [])
matched_more parts long args part before text arg m l a =
    subst (λ (ps : List (List Token)). MatchesCall long ps (before ++ text) (args ++ arg ∷ [])) (sym (part_more parts part l)) (with_argument (take part parts) args before (get_or parts part []) text arg m a)

argument_over : (parts : List (List Token)) (long : Bool) (args : List (List Token)) (part : ℕ) (read : List Token) (depth matched : ℕ) (call : List Token) (t : Token) (arg : List Token) (h : InArgument parts long args part read depth matched call) → part < length parts → IsArgument long (get_or parts part []) (h.skipped ++ (read ++ t ∷ [])) arg → MatchesCall long (take (part + 1) parts) (call ++ t ∷ []) (args ++ arg ∷ [])
argument_over parts long args part read depth matched call t arg h l a =
    subst (λ (c : List Token). MatchesCall long (take (part + 1) parts) c (args ++ arg ∷ [])) (sym (call_apart parts long args part read depth matched call t h))
    (matched_more parts long args part h.before (h.skipped ++ (read ++ t ∷ [])) arg h.matched l a)

-- where a part is over, the call is complete, or an argument begins
pub after_part : (m : MatcherState) (call : List Token) → m.failed ≡ false → 0 < m.part → m.part ≤ length m.parts → MatchesCall m.long (take m.part m.parts) call m.args → m.read ≡ [] → m.depth ≡ 0 → m.matched ≡ 0 → Comes (said_at m.part (length m.parts)) m call
after_part m call f p l c r d k =
    elim (eqb m.part (length m.parts)) as (λ b. eqb m.part (length m.parts) ≡ b → Comes (cond b Done More) m call) [
      | true ↦ λ e.
          let n : m.part ≡ length m.parts = eqb-true m.part (length m.parts) e in (
            record { at_end = n; not_failed = f },
            subst (λ (ps : List (List Token)). MatchesCall m.long ps call m.args) (take_all m.part m.parts (omega arith)) c,
          )
      | false ↦ λ e.
          let n : m.part ≡ length m.parts → ⊥ = eqb-false m.part (length m.parts) e in (
            record { in_parts = omega arith; not_failed = f },
            inr (record {
              past_text = p;
              before = call;
              matched = c;
              skipped = [];
              whole = sym (append-nil call) ∙ ap (λ xs. call ++ xs) (sym r);
              within = subst (λ (xs : List Token). Within m.long (get_or m.parts m.part []) [] xs m.depth m.matched) (sym r)
                  (subst (λ (n : ℕ). Within m.long (get_or m.parts m.part []) [] [] n m.matched) (sym d)
                  (subst (λ (n : ℕ). Within m.long (get_or m.parts m.part []) [] [] 0 n) (sym k) (within_start m.long (get_or m.parts m.part []))));
            }),
          )
    ] refl

-- what the two kinds of arguments say of what was read
pub bare_within : (long : Bool) (d skipped read : List Token) (depth matched : ℕ) → d ≡ [] → Within long d skipped read depth matched → Within long [] skipped read depth matched
bare_within long d skipped read depth matched e w = subst (λ (xs : List Token). Within long xs skipped read depth matched) e w

pub within_bare : (long : Bool) (d skipped read : List Token) (depth matched : ℕ) → d ≡ [] → Within long [] skipped read depth matched → Within long d skipped read depth matched
within_bare long d skipped read depth matched e w = subst (λ (xs : List Token). Within long xs skipped read depth matched) (sym e) w

pub delimited_within : (long : Bool) (d skipped read : List Token) (depth matched : ℕ) → (d ≡ [] → ⊥) → Within long d skipped read depth matched → (skipped ≡ []) × InDelimited long d read depth matched
delimited_within long [] skipped read depth matched never w = absurd (never refl)
delimited_within long (x ∷ xs) skipped read depth matched never w = w

pub within_delimited : (long : Bool) (d skipped read : List Token) (depth matched : ℕ) → (d ≡ [] → ⊥) → (skipped ≡ []) × InDelimited long d read depth matched → Within long d skipped read depth matched
within_delimited long [] skipped read depth matched never w = absurd (never refl)
within_delimited long (x ∷ xs) skipped read depth matched never w = w

pub argument_delimited : (long : Bool) (d text arg : List Token) → (d ≡ [] → ⊥) → IsDelimited long d text arg → IsArgument long d text arg
argument_delimited long [] text arg never a = absurd (never refl)
argument_delimited long (x ∷ xs) text arg never a = a

-- one token more was read
kept : (parts : List (List Token)) (long : Bool) (args : List (List Token)) (part : ℕ) (read : List Token) (depth matched : ℕ) (call : List Token) (t : Token) (m next : ℕ) (h : InArgument parts long args part read depth matched call) → Within long (get_or parts part []) h.skipped (read ++ t ∷ []) m next → InArgument parts long args part (read ++ t ∷ []) m next (call ++ t ∷ [])
kept parts long args part read depth matched call t m next h w =
    record {
      past_text = h.past_text;
      before = h.before;
      matched = h.matched;
      skipped = h.skipped;
      whole = call_apart parts long args part read depth matched call t h;
      within = w;
    }

module _ (parts : List (List Token)) (long : Bool) (args : List (List Token)) (part : ℕ) (read : List Token) (depth matched : ℕ) (call : List Token) (t : Token) where
  pub undelimited_skip : get_or parts part [] ≡ [] → InArgument parts long args part read depth matched call → undelimited_turn depth long t ≡ turn.Skip → InArgument parts long args part read depth matched (call ++ t ∷ [])
  undelimited_skip e h u =
      let w = bare_within long (get_or parts part []) h.skipped read depth matched e h.within in
      let s = bare_skip long read depth t w.1 u in
      record {
        past_text = h.past_text;
        before = h.before;
        matched = h.matched;
        skipped = h.skipped ++ t ∷ [];
        whole = ap (λ xs. xs ++ t ∷ []) (h.whole ∙ ap (λ xs. h.before ++ (h.skipped ++ xs)) s.0 ∙ ap (λ xs. h.before ++ xs) (append-nil h.skipped))
            ∙ append_assoc h.before h.skipped (t ∷ []) ∙ ap (λ xs. h.before ++ xs) (sym (append-nil (h.skipped ++ t ∷ [])) ∙ ap (λ xs. (h.skipped ++ t ∷ []) ++ xs) (sym s.0));
        within = within_bare long (get_or parts part []) (h.skipped ++ t ∷ []) read depth matched e (spaces_push h.skipped t w.0 s.1, w.1);
      }

  pub undelimited_keep : (m : ℕ) → get_or parts part [] ≡ [] → InArgument parts long args part read depth matched call → undelimited_turn depth long t ≡ turn.Keep m → InArgument parts long args part (read ++ t ∷ []) m matched (call ++ t ∷ [])
  undelimited_keep m e h u =
      let w = bare_within long (get_or parts part []) h.skipped read depth matched e h.within in
      kept parts long args part read depth matched call t m matched h (within_bare long (get_or parts part []) h.skipped (read ++ t ∷ []) m matched e (w.0, inr (bare_keep long read depth t m w.1 u)))

  pub undelimited_end : (arg : List Token) → part < length parts → get_or parts part [] ≡ [] → InArgument parts long args part read depth matched call → undelimited_turn depth long t ≡ turn.Found → Gives (read ++ t ∷ []) arg → MatchesCall long (take (part + 1) parts) (call ++ t ∷ []) (args ++ arg ∷ [])
  undelimited_end arg l e h u gives =
      let w = bare_within long (get_or parts part []) h.skipped read depth matched e h.within in
      argument_over parts long args part read depth matched call t arg h l
      (subst (λ (d : List Token). IsArgument long d (h.skipped ++ (read ++ t ∷ [])) arg) (sym e) (bare_found long h.skipped read depth t arg w.0 w.1 u gives))

  -- what is known of a delimited argument
  pub in_delimited : (get_or parts part [] ≡ [] → ⊥) → InArgument parts long args part read depth matched call → InDelimited long (get_or parts part []) read depth matched
  in_delimited some h = (delimited_within long (get_or parts part []) h.skipped read depth matched some h.within).1

  pub delimited_keep : (m next : ℕ) → (get_or parts part [] ≡ [] → ⊥) → InArgument parts long args part read depth matched call → (IsFound (get_or parts part []) (read ++ t ∷ []) → ⊥) → (long ≡ false → is_par t ≡ true → (depth ≡ 0) × EndsInside (read ++ t ∷ []) (get_or parts part [])) → behind t depth ≡ Some m → (m ≡ 0 → IsLongest (read ++ t ∷ []) (get_or parts part []) (length (get_or parts part [])) next) → next < length (get_or parts part []) → InArgument parts long args part (read ++ t ∷ []) m next (call ++ t ∷ [])
  delimited_keep m next some h never inside b place wants =
      let w = delimited_within long (get_or parts part []) h.skipped read depth matched some h.within in
      kept parts long args part read depth matched call t m next h (within_delimited long (get_or parts part []) h.skipped (read ++ t ∷ []) m next some (w.0, delimited_more long (get_or parts part []) read depth matched t m next w.1 never inside b place wants))

  pub delimited_end : (raw arg : List Token) → part < length parts → (get_or parts part [] ≡ [] → ⊥) → InArgument parts long args part read depth matched call → read ++ t ∷ [] ≡ raw ++ get_or parts part [] → IsBalanced raw → Gives raw arg → MatchesCall long (take (part + 1) parts) (call ++ t ∷ []) (args ++ arg ∷ [])
  delimited_end raw arg l some h f b gives =
      let w = delimited_within long (get_or parts part []) h.skipped read depth matched some h.within in
      let a = argument_delimited long (get_or parts part []) (read ++ t ∷ []) arg some (delimited_found long (get_or parts part []) read depth matched t raw arg some w.1 f b gives) in
      argument_over parts long args part read depth matched call t arg h l
      (subst (λ (xs : List Token). IsArgument long (get_or parts part []) (xs ++ (read ++ t ∷ [])) arg) (sym w.0) a)

-- the text before the first parameter is over
pub text_end : (parts : List (List Token)) (long : Bool) → 0 < length parts → MatchesCall long (take 1 parts) (get_or parts 0 []) []
text_end [] long l = absurd (omega arith)
text_end (p ∷ ps) long l = text_before p

pub in_argument : (parts : List (List Token)) (long : Bool) (args : List (List Token)) (part : ℕ) (read : List Token) (depth matched : ℕ) (call : List Token) → 0 < part → InText parts args part read depth call ⊎ InArgument parts long args part read depth matched call → InArgument parts long args part read depth matched call
in_argument parts long args part read depth matched call l (inl x) = absurd (omega (arith, x.first))
in_argument parts long args part read depth matched call l (inr x) = x

pub in_text : (parts : List (List Token)) (long : Bool) (args : List (List Token)) (part : ℕ) (read : List Token) (depth matched : ℕ) (call : List Token) → part ≡ 0 → InText parts args part read depth call ⊎ InArgument parts long args part read depth matched call → InText parts args part read depth call
in_text parts long args part read depth matched call l (inl x) = x
in_text parts long args part read depth matched call l (inr x) = absurd (omega (arith, x.past_text))

-- two cuts of a text at the same place
pub same_cut : (raw cut raw' cut' : List Token) → raw ++ cut ≡ raw' ++ cut' → length cut ≡ length cut' → raw ≡ raw'
same_cut raw cut raw' cut' e l =
    let n : length raw ≡ length raw' = omega (arith, ap length e, length-append raw cut, length-append raw' cut') in
    sym (take_at raw cut (length raw) refl) ∙ ap (λ xs. take (length raw) xs) e ∙ take_at raw' cut' (length raw) (sym n)

pub if_ok_each : (r : Result Fed AllocError) (P Q : Fed → Type 0) → ((x : Fed) → P x → Q x) → IfOk r P → IfOk r Q
if_ok_each (Ok x) P Q h p = h x p
if_ok_each (Err e) P Q h p = tt

-- the text before the first parameter
next_is : (read rest text : List Token) (t : Token) → text ≡ read ++ rest → slice_get text (length read) ≡ Some t → rest ≡ t ∷ drop 1 rest
next_is read [] text t e h =
    let l = slice_get_within text (length read) t h in
    absurd (omega (arith, ap length e, length-append read []))
next_is read (x ∷ rest) text t e h =
    let r : get_or text (length read) t ≡ t = get_or_from_slice_get text (length read) t t h in
    let q : x ≡ t = sym (get_or_at read x rest t (length read) refl) ∙ ap (λ xs. get_or xs (length read) t) (sym e) ∙ r in
    ap (λ y. y ∷ rest) q

begins_more : (parts args : List (List Token)) (part : ℕ) (read : List Token) (depth : ℕ) (call : List Token) (t : Token) (h : InText parts args part read depth call) → slice_get (get_or parts 0 []) (length read) ≡ Some t → get_or parts 0 [] ≡ (read ++ t ∷ []) ++ drop 1 h.rest
begins_more parts args part read depth call t h s =
    let n = next_is read h.rest (get_or parts 0 []) t h.begins s in
    h.begins ∙ ap (λ xs. read ++ xs) n ∙ sym (append_assoc read (t ∷ []) (drop 1 h.rest))

pub text_more : (parts args : List (List Token)) (part : ℕ) (read : List Token) (depth : ℕ) (call : List Token) (t : Token) → InText parts args part read depth call → slice_get (get_or parts 0 []) (length read) ≡ Some t → length read + 1 < length (get_or parts 0 []) → InText parts args part (read ++ t ∷ []) depth (call ++ t ∷ [])
text_more parts args part read depth call t h s l =
    let b = begins_more parts args part read depth call t h s in
    record {
      first = h.first;
      no_args = h.no_args;
      flat = h.flat;
      same = ap (λ xs. xs ++ t ∷ []) h.same;
      rest = drop 1 h.rest;
      begins = b;
      wants = omega (arith, l, ap length b, length-append (read ++ t ∷ []) (drop 1 h.rest), length-append read (t ∷ []));
    }

-- the text is over where it is no longer than what was read
text_over : (read rest text : List Token) → text ≡ read ++ rest → length text ≤ length read → text ≡ read
text_over read rest text e l =
    let z : length rest ≡ 0 = omega (arith, ap length e, length-append read rest) in
    e ∙ ap (λ xs. read ++ xs) (nil_from_length rest z) ∙ append-nil read

pub text_matched : (parts : List (List Token)) (long : Bool) (args : List (List Token)) (part : ℕ) (read : List Token) (depth : ℕ) (call : List Token) (t : Token) → 0 < length parts → InText parts args part read depth call → slice_get (get_or parts 0 []) (length read) ≡ Some t → length (get_or parts 0 []) ≤ length read + 1 → MatchesCall long (take 1 parts) (call ++ t ∷ []) args
text_matched parts long args part read depth call t l h s n =
    let b = begins_more parts args part read depth call t h s in
    let e : get_or parts 0 [] ≡ call ++ t ∷ [] =
    text_over (read ++ t ∷ []) (drop 1 h.rest) (get_or parts 0 []) b (omega (arith, n, length-append read (t ∷ []))) ∙ sym (ap (λ xs. xs ++ t ∷ []) h.same) in
    subst (λ (zs : List (List Token)). MatchesCall long (take 1 parts) (call ++ t ∷ []) zs) (sym h.no_args)
    (subst (λ (c : List Token). MatchesCall long (take 1 parts) c []) e (text_end parts long l))

pub not_next : (text read : List Token) (t : Token) → (slice_get text (length read) ≡ Some t → ⊥) → (rest : List Token) → text ≡ (read ++ t ∷ []) ++ rest → ⊥
not_next text read t missing rest e =
    let f : text ≡ read ++ t ∷ rest = e ∙ append_assoc read (t ∷ []) rest in
    let l : length read < length text = omega (arith, ap length f, length-append read (t ∷ rest)) in
    let g : get_or text (length read) t ≡ t = ap (λ xs. get_or xs (length read) t) f ∙ get_or_at read t rest t (length read) refl in
    missing (slice_get-get_or text (length read) t l ∙ ap (λ x. let o : Option Token = Some x in o) g)

-- a matcher that nothing was fed to
starts_by : (part count : ℕ) (m : MatcherState) (call : List Token) → Comes (said_at part count) m call → IsAfter m call ⊎ IsWhole m call
starts_by part count m call = elim (eqb part count) as (λ b. Comes (cond b Done More) m call → IsAfter m call ⊎ IsWhole m call) [ true ↦ λ h. inr h | false ↦ λ h. inl h ]

pub some_length : (xs : List Token) → (xs ≡ [] → ⊥) → 0 < length xs
some_length [] some = absurd (some refl)
some_length (x ∷ xs) some = omega arith

-- begun with a part
abbrev begun : List (List Token) → Bool → ℕ → MatcherState
begun parts long part = record { parts = parts; long = long; args = []; part = part; read = []; depth = 0; matched = 0; failed = false }

begun_at : (parts : List (List Token)) (long : Bool) (text : List Token) → 0 < length parts → get_or parts 0 [] ≡ text → IsAfter (begun parts long (first_part text)) [] ⊎ IsWhole (begun parts long (first_part text)) []
begun_at parts long [] l e =
    let m0 : MatchesCall long (take 1 parts) [] [] = subst (λ (c : List Token). MatchesCall long (take 1 parts) c []) e (text_end parts long l) in
    starts_by 1 (length parts) (begun parts long 1) [] (after_part (begun parts long 1) [] refl (omega arith) (omega (arith, l)) m0 refl refl refl)
begun_at parts long (t ∷ ts) l e =
    inl (
      record { in_parts = l; not_failed = refl },
      inl (record {
        first = refl;
        no_args = refl;
        flat = refl;
        same = refl;
        rest = get_or parts 0 [];
        begins = refl;
        wants = subst (λ (xs : List Token). 0 < length xs) (sym e) (omega arith);
      }),
    )

pub starts_fresh : (parts : List (List Token)) (long : Bool) → 0 < length parts → IsAfter (started parts long) [] ⊎ IsWhole (started parts long) []
unfolding started
starts_fresh parts long l = begun_at parts long (get_or parts 0 []) l refl
