-- Tokens with which what was fed becomes a call.
use Rattle.std.proofs.Common.{◌≡◌, ℕ, zero, suc, ◌<◌, ◌+◌, Bool, true, false, List, [], ◌∷◌, ◌++◌, Some, ◌⊎◌, inl, inr, length, get_or, take, drop, refl, sym, ap, subst, ◌∙◌, arith}
use Rattle.std.specs.Prelude.{All}
use Rattle.std.proofs.lemmas.List.{append-nil, append_assoc, append_cancel_left, length-append, length-drop, length-take-le, take-append-drop, take_at}
use Rattle.std.proofs.lemmas.Bool.{cases_lt}
use Rattle.std.proofs.lemmas.List.Elements.{All-get_or}
use Rattle.etx_matter.specs.declared.token.Token.{Token}
use Rattle.etx_matter.specs.declared.token.Token.TheVariants.{Char}
use Rattle.etx_macros.specs.declared.fault.Fed.{Fed}
use Rattle.etx_macros.specs.declared.fault.Fed.TheVariants.{More, Done, Fault}
use Rattle.etx_macros.specs.Marks.{is_par, depth_of, IsBalanced, IsDelimiter}
use Rattle.etx_macros.specs.Calls.{IsGroup, Gives, ParsAreAllowed, AreSpaces, IsDelimited, IsArgument, MatchesCall, with_argument, Begins}
use Rattle.etx_macros.specs.Within.{InGroup, InDelimited, Within}
use Rattle.etx_macros.specs.State.{MatcherState}
use Rattle.etx_macros.specs.Feeding.{argument_of}
use Rattle.etx_macros.specs.Progress.{InText, InArgument, IsAfter, IsWhole, Comes, Means}
use Rattle.etx_macros.proofs.Depths.{depth_push, group_needs_two}
use Rattle.etx_macros.proofs.Groups.{argument_gives}
use Rattle.etx_macros.proofs.Unique.{prefix_rest}
use Rattle.etx_macros.proofs.Delimiters.{plain_take, depth_before, right_closes_one, longest_none, never_inside}
use Rattle.etx_macros.proofs.Arguments.{pars_nil, pars_push, pars_front, delimited_more, within_start}
use Rattle.etx_macros.proofs.Steps.{argument_delimited, matched_more, text_end}

-- a right brace, and a digit
abbrev right : Token
right = Char 125 2

abbrev digit : Token
digit = Char 48 12

-- an argument with which the tokens go on
pub record Goes (long : Bool) (d tokens : List Token) : Type 0 where
  pub more : List Token
  pub some : 0 < length more
  pub arg : List Token
  pub argument : IsArgument long d (tokens ++ more) arg

short_gives : (text : List Token) → length text < 2 → Gives text text
short_gives text l = inr (λ inner g. omega (arith, l, group_needs_two text inner g), refl)

not_par : (long : Bool) (d read : List Token) (t : Token) → ParsAreAllowed long d read → is_par t ≡ false → ParsAreAllowed long d (read ++ t ∷ [])
not_par long d read t h n = pars_push long d read t h (λ l p. let e : false ≡ true = sym n ∙ p in absurd cc)

-- one token, where nothing but spaces was read
goes_bare : (long : Bool) (skipped : List Token) → AreSpaces skipped → Goes long [] (skipped ++ [])
goes_bare long skipped s = record {
  more = digit ∷ [];
  some = omega arith;
  arg = digit ∷ [];
  argument = record {
    spaces = skipped;
    raw = digit ∷ [];
    whole = ap (λ xs. xs ++ digit ∷ []) (append-nil skipped);
    are_spaces = s;
    item = inl (digit, record { no_space = refl; no_left = refl; no_right = refl }, refl);
    pars = not_par long [] [] digit (pars_nil long []) refl;
    gives = short_gives (digit ∷ []) (omega arith);
  };
}

-- the closing braces of a group
closing_group : (long : Bool) (left : Token) (inner : List Token) (n : ℕ) → depth_of inner ≡ Some n → ParsAreAllowed long [] (left ∷ inner) → (rights : List Token) × IsBalanced (inner ++ rights) × ParsAreAllowed long [] (left ∷ (inner ++ rights))
closing_group long left inner zero d p = ([], ap depth_of (append-nil inner) ∙ d, subst (λ (xs : List Token). ParsAreAllowed long [] (left ∷ xs)) (sym (append-nil inner)) p)
closing_group long left inner (suc n) d p =
    let h = closing_group long left (inner ++ right ∷ []) n (depth_push inner right (suc n) (Some n) d (right_closes_one right n refl)) (not_par long [] (left ∷ inner) right p refl) in
    let e : (inner ++ right ∷ []) ++ h.0 ≡ inner ++ right ∷ h.0 = append_assoc inner (right ∷ []) h.0 in
    (right ∷ h.0, ap depth_of (sym e) ∙ h.1, subst (λ (xs : List Token). ParsAreAllowed long [] (left ∷ xs)) e h.2)

goes_group : (long : Bool) (skipped read : List Token) (depth : ℕ) → AreSpaces skipped → InGroup long read depth → Goes long [] (skipped ++ read)
goes_group long skipped read depth s g =
    let p : ParsAreAllowed long [] (g.left ∷ g.inner) = subst (λ (xs : List Token). ParsAreAllowed long [] xs) g.read_is g.pars in
    let h = closing_group long g.left g.inner g.deeper g.inside p in
    let raw : List Token = g.left ∷ (g.inner ++ (h.0 ++ right ∷ [])) in
    let e : (g.left ∷ (g.inner ++ h.0)) ++ right ∷ [] ≡ raw = append_assoc (g.left ∷ g.inner) h.0 (right ∷ []) in
    let group : IsGroup raw (g.inner ++ h.0) = record { left = g.left; right = right; opens = g.opens; closes = refl; inside = h.1; whole = sym e } in
    record {
      more = h.0 ++ right ∷ [];
      some = omega (arith, length-append h.0 (right ∷ []));
      arg = g.inner ++ h.0;
      argument = record {
        spaces = skipped;
        raw = raw;
        whole = append_assoc skipped read (h.0 ++ right ∷ []) ∙ ap (λ xs. skipped ++ (xs ++ (h.0 ++ right ∷ []))) g.read_is;
        are_spaces = s;
        item = inr (g.inner ++ h.0, group);
        pars = subst (λ (xs : List Token). ParsAreAllowed long [] xs) e (not_par long [] (g.left ∷ (g.inner ++ h.0)) right h.2 refl);
        gives = inl group;
      };
    }

-- the rest of the delimiter, where no brace is open
module _ (long : Bool) (d read : List Token) (matched : ℕ) (flat : IsDelimiter d) (g : InDelimited long d read 0 matched) (raw : List Token) (ends : read ≡ raw ++ take matched d) where
  whole_text : read ++ drop matched d ≡ raw ++ d
  whole_text = ap (λ xs. xs ++ drop matched d) ends ∙ append_assoc raw (take matched d) (drop matched d) ∙ ap (λ xs. raw ++ xs) (take-append-drop matched d)

  read_length : length read ≡ length raw + matched
  read_length = omega (arith, ap length ends, length-append raw (take matched d), length-take-le matched d (omega (arith, g.wants)))

  -- it isn't found before
  not_sooner : (other rest : List Token) → read ++ drop matched d ≡ (other ++ d) ++ rest → IsBalanced other → length other < length raw → ⊥
  not_sooner other rest e b short = elim (cases_lt (length read) (length (other ++ d))) [
    | inl over ↦
        let r = prefix_rest read (drop matched d) (other ++ d) rest e (omega (arith, over)) in
        let x = prefix_rest other d read r.0 r.1 (omega (arith, short, read_length)) in
        let w : d ≡ x.0 ++ r.0 = append_cancel_left other d (x.0 ++ r.0) (r.1 ∙ ap (λ xs. xs ++ r.0) x.1 ∙ append_assoc other x.0 r.0) in
        let n : length read ≡ length other + length x.0 = ap length x.1 ∙ length-append other x.0 in
        let p = g.place refl in
        p.longest (length x.0) (omega (arith, n, read_length, short)) (omega (arith, ap length w, length-append x.0 r.0)) (other, x.1 ∙ ap (λ xs. other ++ xs) (sym (ap (λ xs. take (length x.0) xs) w ∙ take_at x.0 r.0 (length x.0) refl)))
    | inr under ↦
        let r = prefix_rest (other ++ d) rest read (drop matched d) (sym e) under in
        g.not_yet other r.0 r.1 b
  ]

  flat_argument : (arg : List Token) → Gives raw arg → IsDelimited long d (read ++ drop matched d) arg
  flat_argument arg gives = record {
    raw = raw;
    whole = whole_text;
    balanced = sym (depth_before raw (take matched d) (plain_take d matched flat g.wants)) ∙ ap depth_of (sym ends) ∙ g.depth_is;
    shortest = λ other rest e b. elim (cases_lt (length other) (length raw)) [ inl short ↦ absurd (not_sooner other rest e b short) | inr far ↦ far ];
    pars = pars_front long d read raw (take matched d) g.pars ends;
    gives = gives;
  }

goes_flat : (long : Bool) (d read : List Token) (matched : ℕ) → IsDelimiter d → (d ≡ [] → ⊥) → InDelimited long d read 0 matched → Goes long d read
goes_flat long d read matched flat some g =
    let p = g.place refl in
    let w = p.ends in
    record {
      more = drop matched d;
      some = omega (arith, length-drop matched d, g.wants);
      arg = argument_of w.0;
      argument = argument_delimited long d (read ++ drop matched d) (argument_of w.0) some (flat_argument long d read matched flat g w.0 w.1 (argument_of w.0) (argument_gives w.0));
    }

goes_delimited : (long : Bool) (d read : List Token) (depth matched : ℕ) → IsDelimiter d → (d ≡ [] → ⊥) → InDelimited long d read depth matched → Goes long d read
goes_delimited long d read zero matched flat some g = goes_flat long d read matched flat some g
goes_delimited long d read (suc n) matched flat some g =
    let more = delimited_more long d read (suc n) matched right n 0 g (never_inside d read right n flat some g.depth_is) (λ l p. let e : false ≡ true = p in absurd cc) (right_closes_one right n refl) (λ z. longest_none read d right flat refl) (omega (arith, g.wants)) in
    let h = goes_delimited long d (read ++ right ∷ []) n 0 flat some more in
    record { more = right ∷ h.more; some = omega arith; arg = h.arg; argument = subst (λ (xs : List Token). IsArgument long d xs h.arg) (append_assoc read (right ∷ []) h.more) h.argument }

-- what was read of an argument goes on
goes_within : (long : Bool) (d skipped read : List Token) (depth matched : ℕ) → IsDelimiter d → Within long d skipped read depth matched → Goes long d (skipped ++ read)
goes_within long [] skipped read depth matched flat w = elim w.1 [
  | inl h ↦ subst (λ (xs : List Token). Goes long [] (skipped ++ xs)) (sym h.0) (goes_bare long skipped w.0)
  | inr g ↦ goes_group long skipped read depth w.0 g
]
goes_within long (t ∷ ts) skipped read depth matched flat w =
    subst (λ (xs : List Token). Goes long (t ∷ ts) (xs ++ read)) (sym w.0) (goes_delimited long (t ∷ ts) read depth matched flat (λ e. absurd cc) w.1)

-- the shortest argument
pub record Least (long : Bool) (d : List Token) : Type 0 where
  pub text : List Token
  pub arg : List Token
  pub argument : IsArgument long d text arg

least : (long : Bool) (d : List Token) → IsDelimiter d → Least long d
least long d flat = let h = goes_within long d [] [] 0 0 flat (within_start long d) in record { text = h.more; arg = h.arg; argument = h.argument }

-- the parts that are left are matched by the shortest arguments
pub record Complete (long : Bool) (parts : List (List Token)) (call : List Token) : Type 0 where
  pub rest : List Token
  pub args : List (List Token)
  pub matched : MatchesCall long parts (call ++ rest) args

all_tail : (x : List Token) (xs : List (List Token)) → All IsDelimiter (x ∷ xs) → All IsDelimiter xs
all_tail x xs h = λ k d l. h (suc k) d (omega (arith, l))

complete : (long : Bool) (ps qs : List (List Token)) (call : List Token) (args : List (List Token)) → All IsDelimiter qs → MatchesCall long ps call args → Complete long (ps ++ qs) call
complete long ps [] call args flat m =
    record {
      rest = [];
      args = args;
      matched = subst (λ (xs : List (List Token)). MatchesCall long xs (call ++ []) args) (sym (append-nil ps)) (subst (λ (c : List Token). MatchesCall long ps c args) (sym (append-nil call)) m);
    }
complete long ps (q ∷ qs) call args flat m =
    let l = least long q (flat 0 q (omega arith)) in
    let h = complete long (ps ++ q ∷ []) qs (call ++ l.text) (args ++ l.arg ∷ []) (all_tail q qs flat) (with_argument ps args call q l.text l.arg m l.argument) in
    record {
      rest = l.text ++ h.rest;
      args = h.args;
      matched = subst (λ (xs : List (List Token)). MatchesCall long xs (call ++ (l.text ++ h.rest)) h.args) (append_assoc ps (q ∷ []) qs)
          (subst (λ (c : List Token). MatchesCall long ((ps ++ q ∷ []) ++ qs) c h.args) (append_assoc call l.text h.rest) h.matched);
    }

all_rest : (xs : List (List Token)) (n : ℕ) → All IsDelimiter xs → All IsDelimiter (drop n xs)
all_rest xs zero h = h
all_rest [] (suc n) h = h
all_rest (x ∷ xs) (suc n) h = all_rest xs n (all_tail x xs h)

begins_in_argument : (parts : List (List Token)) (long : Bool) (args : List (List Token)) (part : ℕ) (read : List Token) (depth matched : ℕ) (call : List Token) → All IsDelimiter parts → part < length parts → InArgument parts long args part read depth matched call → Begins long parts call
begins_in_argument parts long args part read depth matched call flat l h =
    let g = goes_within long (get_or parts part []) h.skipped read depth matched (All-get_or IsDelimiter parts part [] l flat) h.within in
    let m = matched_more parts long args part h.before ((h.skipped ++ read) ++ g.more) g.arg h.matched l g.argument in
    let c = complete long (take (part + 1) parts) (drop (part + 1) parts) (h.before ++ ((h.skipped ++ read) ++ g.more)) (args ++ g.arg ∷ []) (all_rest parts (part + 1) flat) m in
    let e : (h.before ++ ((h.skipped ++ read) ++ g.more)) ++ c.rest ≡ call ++ (g.more ++ c.rest) =
    ap (λ xs. xs ++ c.rest) (sym (append_assoc h.before (h.skipped ++ read) g.more) ∙ ap (λ xs. xs ++ g.more) (sym h.whole)) ∙ append_assoc call g.more c.rest in
    record {
      rest = g.more ++ c.rest;
      some = omega (arith, g.some, length-append g.more c.rest);
      args = c.args;
      matched = subst (λ (xs : List Token). MatchesCall long parts xs c.args) e
          (subst (λ (ps : List (List Token)). MatchesCall long ps ((h.before ++ ((h.skipped ++ read) ++ g.more)) ++ c.rest) c.args) (take-append-drop (part + 1) parts) c.matched);
    }

begins_in_text : (parts : List (List Token)) (long : Bool) (args : List (List Token)) (part : ℕ) (read : List Token) (depth : ℕ) (call : List Token) → All IsDelimiter parts → 0 < length parts → InText parts args part read depth call → Begins long parts call
begins_in_text parts long args part read depth call flat l h =
    let c = complete long (take 1 parts) (drop 1 parts) (get_or parts 0 []) [] (all_rest parts 1 flat) (text_end parts long l) in
    let e : get_or parts 0 [] ++ c.rest ≡ call ++ (h.rest ++ c.rest) =
    ap (λ xs. xs ++ c.rest) (h.begins ∙ ap (λ xs. xs ++ h.rest) (sym h.same)) ∙ append_assoc call h.rest c.rest in
    record {
      rest = h.rest ++ c.rest;
      some = omega (arith, h.wants, length-append h.rest c.rest);
      args = c.args;
      matched = subst (λ (xs : List Token). MatchesCall long parts xs c.args) e
          (subst (λ (ps : List (List Token)). MatchesCall long ps (get_or parts 0 [] ++ c.rest) c.args) (take-append-drop 1 parts) c.matched);
    }

-- what was fed where more tokens are wanted is the beginning of a call
pub begins : (m : MatcherState) (call : List Token) → All IsDelimiter m.parts → IsAfter m call → Begins m.long m.parts call
begins m call flat h = elim h.1 [
  | inl x ↦ begins_in_text m.parts m.long m.args m.part m.read m.depth call flat (omega (arith, h.0.in_parts)) x
  | inr x ↦ begins_in_argument m.parts m.long m.args m.part m.read m.depth m.matched call flat h.0.in_parts x
]

pub means : (fed : Fed) (m : MatcherState) (call : List Token) → All IsDelimiter m.parts → Comes fed m call → Means fed m call
means More m call flat h = (begins m call flat h, h)
means Done m call flat h = ((m.args, h.1), h)
means (Fault f) m call flat h = (h, tt)

pub starts : (m : MatcherState) → All IsDelimiter m.parts → IsAfter m [] ⊎ IsWhole m [] → Means More m [] ⊎ Means Done m []
starts m flat (inl h) = inl (means More m [] flat h)
starts m flat (inr h) = inr (means Done m [] flat h)
