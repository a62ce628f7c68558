-- Where no call begins with the tokens that were fed.
use Rattle.std.proofs.Common.{◌≡◌, ℕ, ◌<◌, ◌+◌, Bool, true, false, ◌&&◌, eqb, List, [], ◌∷◌, ◌++◌, Some, None, ◌⊎◌, inl, inr, length, get_or, take, drop, refl, sym, ap, subst, ◌∙◌, arith}
use Rattle.std.specs.Prelude.{slice_get}
use Rattle.std.proofs.lemmas.Bool.{false≢true, eqb-true, cases_lt}
use Rattle.std.proofs.lemmas.List.{append-nil, append_assoc, append_cancel_left, same_from_push, length-append, length-take-le, take_at, take-append-drop, drop_more, get_or-take}
use Rattle.etx_matter.specs.declared.token.Token.{Token}
use Rattle.etx_matter.specs.declared.token.Token.TheVariants.{Char, Name, Param}
use Rattle.etx_macros.specs.Marks.{has_category, is_space, is_par, behind_all, depth_of, IsBalanced, IsDelimiter}
use Rattle.etx_macros.specs.Calls.{IsGroup, EndsInside, ParsAreAllowed, AreSpaces, IsItem, IsUndelimited, IsDelimited, IsArgument, MatchesCall, text_before, with_argument, NoCall, IsPastText}
use Rattle.etx_macros.specs.Within.{InGroup, InDelimited}
use Rattle.etx_macros.specs.Progress.{InText, InArgument}
use Rattle.etx_macros.specs.Says.{IsLast, Why}
use Rattle.etx_macros.specs.declared.fault.MatchFault.{MatchFault}
use Rattle.etx_macros.proofs.Turns.{Faulty}
use Rattle.etx_macros.proofs.Depths.{behind_append, depth_push}
use Rattle.etx_macros.proofs.Delimiters.{last_one, no_right, left_not_right, plain_before, depth_before, right_closes_nothing}
use Rattle.etx_macros.proofs.Unique.{and_none, prefix_rest, heads, tails, none_some, group_tail, brace_no_space, item_begins, spaces_same, some_part, one_call}
use Rattle.etx_macros.proofs.Steps.{call_apart, not_next, bare_within, delimited_within}

-- tokens that an argument can't begin with
abbrev pub NoArgument : Bool → List Token → List Token → Type 0
NoArgument long d tokens = (text arg rest behind : List Token) → IsArgument long d text arg → tokens ++ rest ≡ text ++ behind → ⊥

pub par_not_right : (t : Token) → is_par t ≡ true → has_category t 2 ≡ true → ⊥
par_not_right (Char code cat) p r = false≢true p
par_not_right (Name name) p r = false≢true r
par_not_right (Param k) p r = false≢true r

pub par_no_space : (t : Token) → is_par t ≡ true → is_space t ≡ false
par_no_space (Char code cat) p = absurd (false≢true p)
par_no_space (Name name) p = refl
par_no_space (Param k) p = refl

pub right_no_space : (t : Token) → has_category t 2 ≡ true → is_space t ≡ false
right_no_space (Char code cat) e = ap (λ c. eqb code 32 && eqb c 10) (eqb-true cat 2 e) ∙ and_none (eqb code 32)
right_no_space (Name name) e = refl
right_no_space (Param k) e = refl

-- no argument begins with a right brace
no_item_with_right : (p : List Token) (t : Token) (tail : List Token) → IsItem p → p ≡ t ∷ tail → has_category t 2 ≡ true → ⊥
no_item_with_right p t tail (inl w) e r = false≢true (sym w.1.no_right ∙ ap (λ u. has_category u 2) (heads w.0 t [] tail (sym w.2 ∙ e)) ∙ r)
no_item_with_right p t tail (inr w) e r =
    let g = w.1 in
    left_not_right t (ap (λ u. has_category u 1) (sym (heads g.left t (w.0 ++ g.right ∷ []) tail (sym g.whole ∙ e))) ∙ g.opens) r

-- a `\par` inside a group
par_in_group : (long : Bool) (p front more rest behind : List Token) (t right : Token) → long ≡ false → is_par t ≡ true → ParsAreAllowed long [] p → has_category right 2 ≡ true → p ≡ front ++ (more ++ right ∷ []) → t ∷ rest ≡ more ++ right ∷ behind → ⊥
par_in_group long p front [] rest behind t right l par pars r e q = par_not_right right (ap is_par (sym (heads t right rest behind q)) ∙ par) r
par_in_group long p front (m ∷ ms) rest behind t right l par pars r e q =
    let h : m ≡ t = sym (heads t m rest (ms ++ right ∷ behind) q) in
    let x = pars l front (ms ++ right ∷ []) t (e ∙ ap (λ u. front ++ (u ∷ (ms ++ right ∷ []))) h) par in
    let k = x.1.1 in
    absurd (omega (arith, k))

as_delimited : (long : Bool) (d text arg : List Token) → (d ≡ [] → ⊥) → IsArgument long d text arg → IsDelimited long d text arg
as_delimited long [] text arg some a = absurd (some refl)
as_delimited long (x ∷ xs) text arg some a = a

same_depth : (n m : ℕ) → Some n ≡ Some m → n ≡ m
same_depth n m e = cc

first_part : (parts : List (List Token)) (d : List Token) → 0 < length parts → get_or parts 0 [] ≡ get_or (parts ++ d ∷ []) 0 []
first_part [] d l = absurd (omega arith)
first_part (p ∷ ps) d l = refl

part_apart : (parts : List (List Token)) (part : ℕ) → part < length parts → parts ≡ take part parts ++ get_or parts part [] ∷ drop (part + 1) parts
part_apart parts part l = sym (take-append-drop part parts) ∙ ap (λ xs. take part parts ++ xs) (drop_more parts part [] l)

next_apart : (t : Token) (rest more behind : List Token) → 0 < length more → t ∷ rest ≡ more ++ behind → (tail : List Token) × (more ≡ t ∷ tail)
next_apart t rest [] behind l e = absurd (omega arith)
next_apart t rest (m ∷ ms) behind l e = let h : m ≡ t = sym (heads t m rest (ms ++ behind) e) in (ms, ap (λ u. u ∷ ms) h)

-- an undelimited argument, of which nothing but spaces was read
module _ (long : Bool) (skipped : List Token) (t : Token) (spaces : AreSpaces skipped) (no_space : is_space t ≡ false) where
  -- it begins with the token
  begins_item : (text arg rest behind : List Token) (h : IsUndelimited long text arg) → (skipped ++ ([] ++ t ∷ [])) ++ rest ≡ text ++ behind → (tail : List Token) × (h.raw ≡ t ∷ tail)
  begins_item text arg rest behind h e =
      let b = item_begins h.raw h.item in
      let l : skipped ++ t ∷ rest ≡ h.spaces ++ b.head ∷ (b.tail ++ behind) =
      sym (append_assoc skipped (t ∷ []) rest) ∙ e ∙ ap (λ xs. xs ++ behind) h.whole ∙ append_assoc h.spaces h.raw behind ∙ ap (λ xs. h.spaces ++ (xs ++ behind)) b.whole in
      let s : skipped ≡ h.spaces = spaces_same skipped h.spaces rest (b.tail ++ behind) t b.head spaces h.are_spaces no_space b.no_space l in
      let r : t ∷ rest ≡ b.head ∷ (b.tail ++ behind) = append_cancel_left h.spaces (t ∷ rest) (b.head ∷ (b.tail ++ behind)) (ap (λ xs. xs ++ t ∷ rest) (sym s) ∙ l) in
      (b.tail, b.whole ∙ ap (λ u. u ∷ b.tail) (sym (heads t b.head rest (b.tail ++ behind) r)))

  pub par_refused : long ≡ false → is_par t ≡ true → NoArgument long [] (skipped ++ ([] ++ t ∷ []))
  par_refused l p = λ text arg rest behind h e.
      let b = begins_item text arg rest behind h e in
      let x = h.pars l [] b.0 t b.1 p in
      let k = x.1.1 in
      absurd (omega (arith, k))

  pub right_refused : has_category t 2 ≡ true → NoArgument long [] (skipped ++ ([] ++ t ∷ []))
  right_refused r = λ text arg rest behind h e.
      let b = begins_item text arg rest behind h e in
      no_item_with_right h.raw t b.0 h.item b.1 r

-- an undelimited argument that is a group
in_group_par : (long : Bool) (read : List Token) (depth : ℕ) (t : Token) (g : InGroup long read depth) (p i rest behind : List Token) → IsGroup p i → long ≡ false → is_par t ≡ true → ParsAreAllowed long [] p → (read ++ t ∷ []) ++ rest ≡ p ++ behind → ⊥
in_group_par long read depth t g p i rest behind h l par pars e =
    let f : g.left ∷ (g.inner ++ t ∷ rest) ≡ h.left ∷ (i ++ h.right ∷ behind) =
    sym (ap (λ xs. (xs ++ t ∷ []) ++ rest) g.read_is ∙ append_assoc (g.left ∷ g.inner) (t ∷ []) rest) ∙ e ∙ group_tail p i behind h.left h.right h.whole in
    let n : g.inner ++ t ∷ rest ≡ i ++ h.right ∷ behind = tails g.left h.left (g.inner ++ t ∷ rest) (i ++ h.right ∷ behind) f in
    elim (cases_lt (length i) (length g.inner)) [
      | inl short ↦
          let m = prefix_rest (i ++ h.right ∷ []) behind g.inner (t ∷ rest) (append_assoc i (h.right ∷ []) behind ∙ sym n) (omega (arith, short, length-append i (h.right ∷ []))) in
          let d : depth_of (i ++ h.right ∷ []) ≡ None = depth_push i h.right 0 None h.inside (right_closes_nothing h.right h.closes) in
          none_some (depth_of g.inner) g.deeper (ap depth_of m.1 ∙ behind_append (Some 0) (i ++ h.right ∷ []) m.0 ∙ ap (λ o. behind_all o m.0) d) g.inside
      | inr far ↦
          let m = prefix_rest g.inner (t ∷ rest) i (h.right ∷ behind) n far in
          let q : t ∷ rest ≡ m.0 ++ h.right ∷ behind = append_cancel_left g.inner (t ∷ rest) (m.0 ++ h.right ∷ behind) (n ∙ ap (λ xs. xs ++ h.right ∷ behind) m.1 ∙ append_assoc g.inner m.0 (h.right ∷ behind)) in
          par_in_group long p (h.left ∷ g.inner) m.0 rest behind t h.right l par pars h.closes (h.whole ∙ ap (λ xs. (h.left ∷ xs) ++ h.right ∷ []) m.1 ∙ append_assoc (h.left ∷ g.inner) m.0 (h.right ∷ [])) q
    ]

pub group_refused : (long : Bool) (skipped read : List Token) (depth : ℕ) (t : Token) → AreSpaces skipped → InGroup long read depth → long ≡ false → is_par t ≡ true → NoArgument long [] (skipped ++ (read ++ t ∷ []))
group_refused long skipped read depth t spaces g l par = λ text arg rest behind h e.
    let b = item_begins h.raw h.item in
    let r : (skipped ++ (read ++ t ∷ [])) ++ rest ≡ skipped ++ g.left ∷ ((g.inner ++ t ∷ []) ++ rest) =
    append_assoc skipped (read ++ t ∷ []) rest ∙ ap (λ xs. skipped ++ ((xs ++ t ∷ []) ++ rest)) g.read_is in
    let q : text ++ behind ≡ h.spaces ++ (h.raw ++ behind) = ap (λ xs. xs ++ behind) h.whole ∙ append_assoc h.spaces h.raw behind in
    let f : skipped ++ g.left ∷ ((g.inner ++ t ∷ []) ++ rest) ≡ h.spaces ++ b.head ∷ (b.tail ++ behind) =
    sym r ∙ e ∙ q ∙ ap (λ xs. h.spaces ++ (xs ++ behind)) b.whole in
    let s : skipped ≡ h.spaces = spaces_same skipped h.spaces ((g.inner ++ t ∷ []) ++ rest) (b.tail ++ behind) g.left b.head spaces h.are_spaces (brace_no_space g.left g.opens) b.no_space f in
    let c : (read ++ t ∷ []) ++ rest ≡ h.raw ++ behind =
    append_cancel_left h.spaces ((read ++ t ∷ []) ++ rest) (h.raw ++ behind) (ap (λ xs. xs ++ ((read ++ t ∷ []) ++ rest)) (sym s) ∙ sym (append_assoc skipped (read ++ t ∷ []) rest) ∙ e ∙ q) in
    elim h.item [
      | inl w ↦
          let x : g.left ∷ ((g.inner ++ t ∷ []) ++ rest) ≡ w.0 ∷ behind = sym (ap (λ xs. (xs ++ t ∷ []) ++ rest) g.read_is) ∙ c ∙ ap (λ xs. xs ++ behind) w.2 in
          absurd (false≢true (sym w.1.no_left ∙ ap (λ u. has_category u 1) (sym (heads g.left w.0 ((g.inner ++ t ∷ []) ++ rest) behind x)) ∙ g.opens))
      | inr w ↦ in_group_par long read depth t g h.raw w.0 rest behind w.1 l par h.pars c
    ]

-- an undelimited argument as far as it was read
abbrev Bare : Bool → List Token → ℕ → Type 0
Bare long read depth = ((read ≡ []) × (depth ≡ 0)) ⊎ InGroup long read depth

bare_par : (long : Bool) (skipped read : List Token) (depth : ℕ) (t : Token) → AreSpaces skipped → Bare long read depth → long ≡ false → is_par t ≡ true → NoArgument long [] (skipped ++ (read ++ t ∷ []))
bare_par long skipped read depth t s (inl h) l p = subst (λ (xs : List Token). NoArgument long [] (skipped ++ (xs ++ t ∷ []))) (sym h.0) (par_refused long skipped t s (par_no_space t p) l p)
bare_par long skipped read depth t s (inr g) l p = group_refused long skipped read depth t s g l p

bare_right : (long : Bool) (skipped read : List Token) (depth : ℕ) (t : Token) → AreSpaces skipped → Bare long read depth → depth ≡ 0 → has_category t 2 ≡ true → NoArgument long [] (skipped ++ (read ++ t ∷ []))
bare_right long skipped read depth t s (inl h) z r = subst (λ (xs : List Token). NoArgument long [] (skipped ++ (xs ++ t ∷ []))) (sym h.0) (right_refused long skipped t s (right_no_space t r) r)
bare_right long skipped read depth t s (inr g) z r = absurd (omega (arith, z, g.depth_is))

-- a delimited argument: the token is in its text, or in its delimiter
abbrev pub InRaw : List Token → List Token → Token → Type 0
InRaw read raw t = (more : List Token) × (raw ≡ (read ++ t ∷ []) ++ more)

pub record InDelimiter (d read raw : List Token) (t : Token) : Type 0 where
  pub before : List Token
  pub after : List Token
  pub read_is : read ≡ raw ++ before
  pub whole : d ≡ before ++ t ∷ after

where_it_stands : (long : Bool) (d read : List Token) (depth matched : ℕ) (t : Token) (raw rest behind : List Token) → InDelimited long d read depth matched → IsBalanced raw → (read ++ t ∷ []) ++ rest ≡ (raw ++ d) ++ behind → InRaw read raw t ⊎ InDelimiter d read raw t
where_it_stands long d read depth matched t raw rest behind g b e = elim (cases_lt (length read) (length raw)) [
  | inl far ↦
      let m = prefix_rest (read ++ t ∷ []) rest raw (d ++ behind) (e ∙ append_assoc raw d behind) (omega (arith, far, length-append read (t ∷ []))) in
      inl (m.0, m.1)
  | inr near ↦
      let f : raw ++ (d ++ behind) ≡ read ++ (t ∷ rest) = sym (append_assoc raw d behind) ∙ sym e ∙ append_assoc read (t ∷ []) rest in
      let m = prefix_rest raw (d ++ behind) read (t ∷ rest) f near in
      let q : d ++ behind ≡ m.0 ++ t ∷ rest = append_cancel_left raw (d ++ behind) (m.0 ++ t ∷ rest) (f ∙ ap (λ xs. xs ++ t ∷ rest) m.1 ∙ append_assoc raw m.0 (t ∷ rest)) in
      elim (cases_lt (length m.0) (length d)) [
        | inl inside ↦
            let n = prefix_rest (m.0 ++ t ∷ []) rest d behind (append_assoc m.0 (t ∷ []) rest ∙ sym q) (omega (arith, inside, length-append m.0 (t ∷ []))) in
            inr (record { before = m.0; after = n.0; read_is = m.1; whole = n.1 ∙ append_assoc m.0 (t ∷ []) n.0 })
        | inr past ↦
            let n = prefix_rest d behind m.0 (t ∷ rest) q past in
            absurd (g.not_yet raw n.0 (m.1 ∙ ap (λ xs. raw ++ xs) n.1 ∙ sym (append_assoc raw d n.0)) b)
      ]
]

pub delimited_right_refused : (long : Bool) (d read : List Token) (matched : ℕ) (t : Token) → IsDelimiter d → (d ≡ [] → ⊥) → InDelimited long d read 0 matched → has_category t 2 ≡ true → NoArgument long d (read ++ t ∷ [])
delimited_right_refused long d read matched t flat some g r = λ text arg rest behind a e.
    let h = as_delimited long d text arg some a in
    elim (where_it_stands long d read 0 matched t h.raw rest behind g h.balanced (e ∙ ap (λ xs. xs ++ behind) h.whole)) [
      | inl w ↦
          let n : depth_of (read ++ t ∷ []) ≡ None = depth_push read t 0 None g.depth_is (right_closes_nothing t r) in
          none_some (depth_of h.raw) 0 (ap depth_of w.1 ∙ behind_append (Some 0) (read ++ t ∷ []) w.0 ∙ ap (λ o. behind_all o w.0) n) h.balanced
      | inr w ↦ no_right d w.before w.after t flat w.whole r
    ]

pub delimited_par_refused : (long : Bool) (d read : List Token) (depth matched : ℕ) (t : Token) → IsDelimiter d → (d ≡ [] → ⊥) → InDelimited long d read depth matched → long ≡ false → is_par t ≡ true → (depth ≡ 0 → EndsInside (read ++ t ∷ []) d → ⊥) → NoArgument long d (read ++ t ∷ [])
delimited_par_refused long d read depth matched t flat some g l p never = λ text arg rest behind a e.
    let h = as_delimited long d text arg some a in
    elim (where_it_stands long d read depth matched t h.raw rest behind g h.balanced (e ∙ ap (λ xs. xs ++ behind) h.whole)) [
      | inl w ↦
          let x = h.pars l read w.0 t (w.1 ∙ append_assoc read (t ∷ []) w.0) p in
          never (same_depth depth 0 (sym g.depth_is ∙ x.0)) x.1
      | inr w ↦
          let b = plain_before d w.before w.after t flat w.whole in
          let z : depth_of read ≡ Some 0 = ap depth_of w.read_is ∙ depth_before h.raw w.before b ∙ h.balanced in
          let n : length w.before < length d = omega (arith, ap length w.whole, length-append w.before (t ∷ w.after)) in
          let k : take (length w.before + 1) d ≡ w.before ++ t ∷ [] =
          ap (λ xs. take (length w.before + 1) xs) (w.whole ∙ sym (append_assoc w.before (t ∷ []) w.after)) ∙ take_at (w.before ++ t ∷ []) w.after (length w.before + 1) (length-append w.before (t ∷ [])) in
          never (same_depth depth 0 (sym g.depth_is ∙ z)) (length w.before, n, (h.raw, ap (λ xs. xs ++ t ∷ []) w.read_is ∙ append_assoc h.raw w.before (t ∷ []) ∙ ap (λ xs. h.raw ++ xs) (sym k)))
    ]

-- the part of a call that matches the parts before an argument, and the argument
pub record FrontOf (long : Bool) (ps : List (List Token)) (d c : List Token) : Type 0 where
  pub before : List Token
  pub args : List (List Token)
  pub text : List Token
  pub arg : List Token
  pub rest : List Token
  pub matched : MatchesCall long ps before args
  pub argument : IsArgument long d text arg
  pub whole : c ≡ before ++ (text ++ rest)

front_of : (long : Bool) (all : List (List Token)) (c : List Token) (zs : List (List Token)) → MatchesCall long all c zs → (ps : List (List Token)) (d : List Token) (qs : List (List Token)) → all ≡ ps ++ d ∷ qs → 0 < length ps → FrontOf long ps d c
front_of long _ _ _ (text_before before) ps d qs e l = absurd (omega (arith, ap length e, length-append ps (d ∷ qs)))
front_of long _ _ _ (with_argument parts args call delimiter text arg m i) ps d qs e l = elim (last_one qs) [
  | inl z ↦
      let s = same_from_push parts ps delimiter d (e ∙ ap (λ xs. ps ++ d ∷ xs) z) in
      record {
        before = call;
        args = args;
        text = text;
        arg = arg;
        rest = [];
        matched = subst (λ (xs : List (List Token)). MatchesCall long xs call args) s.0 m;
        argument = subst (λ (x : List Token). IsArgument long x text arg) s.1 i;
        whole = ap (λ xs. call ++ xs) (sym (append-nil text));
      }
  | inr w ↦
      let s = same_from_push parts (ps ++ d ∷ w.0) delimiter w.1 (e ∙ ap (λ xs. ps ++ d ∷ xs) w.2 ∙ sym (append_assoc ps (d ∷ w.0) (w.1 ∷ []))) in
      let h = front_of long parts call args m ps d w.0 s.0 l in
      record {
        before = h.before;
        args = h.args;
        text = h.text;
        arg = h.arg;
        rest = h.rest ++ text;
        matched = h.matched;
        argument = h.argument;
        whole = ap (λ xs. xs ++ text) h.whole ∙ append_assoc h.before (h.text ++ h.rest) text ∙ ap (λ xs. h.before ++ xs) (append_assoc h.text h.rest text);
      }
]

-- a call begins with the text before the first parameter
pub front_text : (long : Bool) (all : List (List Token)) (c : List Token) (zs : List (List Token)) → MatchesCall long all c zs → (rest : List Token) × (c ≡ get_or all 0 [] ++ rest)
front_text long _ _ _ (text_before before) = ([], sym (append-nil before))
front_text long _ _ _ (with_argument parts args call delimiter text arg m i) =
    let h = front_text long parts call args m in
    (h.0 ++ text, ap (λ xs. xs ++ text) h.1 ∙ append_assoc (get_or parts 0 []) h.0 text ∙ ap (λ p. p ++ (h.0 ++ text)) (first_part parts delimiter (some_part long parts call args m)))

module _ (parts : List (List Token)) (long : Bool) (args : List (List Token)) (part : ℕ) (read : List Token) (depth matched : ℕ) (call : List Token) (t : Token) where
  pub argument_refused : (h : InArgument parts long args part read depth matched call) → part < length parts → NoArgument long (get_or parts part []) (h.skipped ++ (read ++ t ∷ [])) → NoCall long parts (call ++ t ∷ [])
  argument_refused h l never = λ rest zs m.
      let f = front_of long parts ((call ++ t ∷ []) ++ rest) zs m (take part parts) (get_or parts part []) (drop (part + 1) parts) (part_apart parts part l) (omega (arith, h.past_text, length-take-le part parts (omega arith))) in
      let tokens : List Token = h.skipped ++ (read ++ t ∷ []) in
      let e : h.before ++ (tokens ++ rest) ≡ f.before ++ (f.text ++ f.rest) =
      sym (append_assoc h.before tokens rest) ∙ ap (λ xs. xs ++ rest) (sym (call_apart parts long args part read depth matched call t h)) ∙ f.whole in
      let o = one_call long (take part parts) h.before args h.matched (take part parts) f.before f.args (tokens ++ rest) (f.text ++ f.rest) f.matched refl e in
      never f.text f.arg rest f.rest f.argument (append_cancel_left f.before (tokens ++ rest) (f.text ++ f.rest) (ap (λ xs. xs ++ (tokens ++ rest)) (sym o.0) ∙ e))

  pub past_text : InArgument parts long args part read depth matched call → IsPastText parts (call ++ t ∷ [])
  past_text h =
      let f = front_text long (take part parts) h.before args h.matched in (
        f.0 ++ (h.skipped ++ (read ++ t ∷ [])),
        call_apart parts long args part read depth matched call t h ∙ ap (λ xs. xs ++ (h.skipped ++ (read ++ t ∷ []))) f.1
            ∙ append_assoc (get_or (take part parts) 0 []) f.0 (h.skipped ++ (read ++ t ∷ []))
            ∙ ap (λ p. p ++ (f.0 ++ (h.skipped ++ (read ++ t ∷ [])))) (get_or-take part parts 0 [] h.past_text),
      )

  pub text_refused : InText parts args part read depth call → (slice_get (get_or parts 0 []) (length read) ≡ Some t → ⊥) → (rest behind : List Token) → (call ++ t ∷ []) ++ rest ≡ get_or parts 0 [] ++ behind → ⊥
  text_refused h never rest behind e =
      let f : read ++ t ∷ rest ≡ read ++ (h.rest ++ behind) =
      sym (append_assoc read (t ∷ []) rest) ∙ ap (λ xs. (xs ++ t ∷ []) ++ rest) (sym h.same) ∙ e ∙ ap (λ xs. xs ++ behind) h.begins ∙ append_assoc read h.rest behind in
      let w = next_apart t rest h.rest behind h.wants (append_cancel_left read (t ∷ rest) (h.rest ++ behind) f) in
      not_next (get_or parts 0 []) read t never w.0 (h.begins ∙ ap (λ xs. read ++ xs) w.1 ∙ sym (append_assoc read (t ∷ []) w.0))

  pub text_fault : InText parts args part read depth call → (slice_get (get_or parts 0 []) (length read) ≡ Some t → ⊥) → NoCall long parts (call ++ t ∷ []) × (IsPastText parts (call ++ t ∷ []) → ⊥)
  text_fault h never = (
    λ rest zs m. let f = front_text long parts ((call ++ t ∷ []) ++ rest) zs m in text_refused h never rest f.0 f.1,
    λ p. text_refused h never [] p.0 (append-nil (call ++ t ∷ []) ∙ p.1),
  )

  last_is : (p : Token → Bool) → p t ≡ true → IsLast p (call ++ t ∷ [])
  last_is p e = (call, t, refl, e)

  pub undelimited_refused : (f : MatchFault) → InArgument parts long args part read depth matched call → part < length parts → get_or parts part [] ≡ [] → Faulty f depth long t (Unit {0}) → NoCall long parts (call ++ t ∷ []) × Why f long parts (call ++ t ∷ [])
  undelimited_refused f h l e (inl x) =
      let w = bare_within long (get_or parts part []) h.skipped read depth matched e h.within in
      let refused : NoArgument long [] (h.skipped ++ (read ++ t ∷ [])) = bare_par long h.skipped read depth t w.0 w.1 x.1 x.2 in
      subst (λ (g : MatchFault). NoCall long parts (call ++ t ∷ []) × Why g long parts (call ++ t ∷ [])) x.0
      (argument_refused h l (subst (λ (d : List Token). NoArgument long d (h.skipped ++ (read ++ t ∷ []))) (sym e) refused), (past_text h, x.1, last_is is_par x.2))
  undelimited_refused f h l e (inr x) =
      let w = bare_within long (get_or parts part []) h.skipped read depth matched e h.within in
      let refused : NoArgument long [] (h.skipped ++ (read ++ t ∷ [])) = bare_right long h.skipped read depth t w.0 w.1 x.1 x.2 in
      subst (λ (g : MatchFault). NoCall long parts (call ++ t ∷ []) × Why g long parts (call ++ t ∷ [])) x.0
      (argument_refused h l (subst (λ (d : List Token). NoArgument long d (h.skipped ++ (read ++ t ∷ []))) (sym e) refused), (past_text h, last_is (λ u. has_category u 2) x.2))

  pub delimited_refused : (f : MatchFault) (inside : Bool) → IsDelimiter (get_or parts part []) → (get_or parts part [] ≡ [] → ⊥) → InArgument parts long args part read depth matched call → part < length parts → (inside ≡ false → depth ≡ 0 → EndsInside (read ++ t ∷ []) (get_or parts part []) → ⊥) → Faulty f depth long t (inside ≡ false) → NoCall long parts (call ++ t ∷ []) × Why f long parts (call ++ t ∷ [])
  delimited_refused f inside flat some h l never (inl x) =
      let w = delimited_within long (get_or parts part []) h.skipped read depth matched some h.within in
      let refused = delimited_par_refused long (get_or parts part []) read depth matched t flat some w.1 x.1 x.2 (never x.3) in
      subst (λ (g : MatchFault). NoCall long parts (call ++ t ∷ []) × Why g long parts (call ++ t ∷ [])) x.0
      (argument_refused h l (subst (λ (xs : List Token). NoArgument long (get_or parts part []) (xs ++ (read ++ t ∷ []))) (sym w.0) refused), (past_text h, x.1, last_is is_par x.2))
  delimited_refused f inside flat some h l never (inr x) =
      let w = delimited_within long (get_or parts part []) h.skipped read depth matched some h.within in
      let g : InDelimited long (get_or parts part []) read 0 matched = subst (λ (n : ℕ). InDelimited long (get_or parts part []) read n matched) x.1 w.1 in
      let refused = delimited_right_refused long (get_or parts part []) read matched t flat some g x.2 in
      subst (λ (g : MatchFault). NoCall long parts (call ++ t ∷ []) × Why g long parts (call ++ t ∷ [])) x.0
      (argument_refused h l (subst (λ (xs : List Token). NoArgument long (get_or parts part []) (xs ++ (read ++ t ∷ []))) (sym w.0) refused), (past_text h, last_is (λ u. has_category u 2) x.2))
