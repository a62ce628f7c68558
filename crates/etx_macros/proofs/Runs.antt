-- What is said of one token after another.
use Rattle.std.proofs.Common.{◌≡◌, ℕ, ◌<◌, ◌+◌, ◌-◌, Bool, true, false, ◌&&◌, eqb, cond, List, [], ◌∷◌, ◌++◌, Some, None, Result, Ok, Err, ◌⊎◌, inl, inr, length, take, refl, sym, subst, ◌∙◌, arith}
use Rattle.std.specs.Prelude.{nat_lt, All, ◌↔◌}
use Rattle.std.proofs.lemmas.Bool.{false≢true, eqb-true, eqb-false, eq-eqb, ltb-true, lt-ltb}
use Rattle.std.proofs.lemmas.List.{append-nil, append_assoc}
use Rattle.std.proofs.lemmas.List.Elements.{All-get_or}
use Rattle.etx_matter.specs.declared.token.Token.{Token}
use Rattle.etx_macros.specs.declared.argument.Turn.{Turn}
use Rattle.etx_macros.specs.declared.argument.Turn.TheVariants as turn
use Rattle.etx_macros.specs.declared.fault.Fed.{Fed}
use Rattle.etx_macros.specs.declared.fault.Fed.TheVariants.{More, Done, Fault}
use Rattle.etx_macros.specs.declared.fault.MatchFault.{MatchFault}
use Rattle.etx_macros.specs.declared.fault.MatchFault.TheVariants.{DoesNotMatch, ParagraphEnded, ExtraBrace}
use Rattle.etx_macros.specs.Marks.{has_category, IsDelimiter, IsPattern}
use Rattle.etx_macros.specs.Calls.{MatchesCall}
use Rattle.etx_macros.specs.Says.{Says}
use Rattle.etx_macros.specs.Matching.{undelimited_turn, delimited_turn}
use Rattle.etx_macros.specs.State.{MatcherState, FedBy}
use Rattle.etx_macros.specs.Feeding.{argument_of, matched_in, has_at, part_of, more, ended, refused, text_fed, undelimited_fed, delimited_kept, argument_fed, part_fed, fed_of, is_going, after, started, is_extra}
use Rattle.etx_macros.specs.Progress.{IsGoing, IsAfter, IsWhole, Comes, Stands}
use Rattle.etx_macros.proofs.Answers.{one_answer}
use Rattle.etx_macros.proofs.Completions.{means}
use Rattle.etx_macros.proofs.Refusals.{undelimited_refused, delimited_refused}
use Rattle.etx_macros.proofs.Steps.{in_argument, starts_fresh}
use Rattle.etx_macros.proofs.Turns.{undelimited_fault, delimited_fault}
use Rattle.etx_macros.proofs.Feeding.{By, fed_by, fed_stays, going_there, empty_or_not}

-- where more tokens are wanted, these were fed so far
comes_after : (fed : Fed) (m : MatcherState) (call : List Token) → Comes fed m call → Stands fed m → IsGoing m → IsAfter m call
comes_after More m call c s g = c
comes_after Done m call c s g = absurd (omega (arith, s.at_end, g.in_parts))
comes_after (Fault f) m call c s g = absurd (false≢true (sym g.not_failed ∙ s))

-- the match behind tokens that were fed
pub record Reached (start m : MatcherState) (call : List Token) : Type 0 where
  pub is_after : IsAfter m call
  pub parts : m.parts ≡ start.parts
  pub long : m.long ≡ start.long

reached_here : (m m' : MatcherState) (call : List Token) → (IsGoing m → IsAfter m call) → (b : Bool) → is_going m ≡ b → cond b (Some m) None ≡ Some m' → Reached m m' call
reached_here m m' call h true e f = let s : m ≡ m' = cc in subst (λ (n : MatcherState). Reached m n call) s (record { is_after = h (going_there m e); parts = refl; long = refl })
reached_here m m' call h false e f = absurd cc

pub reached : (m m' : MatcherState) (call ts : List Token) → All IsDelimiter m.parts → (IsGoing m → IsAfter m call) → after m ts ≡ Some m' → Reached m m' (call ++ ts)
reached m m' call [] flat h = λ e. subst (λ (c : List Token). Reached m m' c) (sym (append-nil call)) (reached_here m m' call h (is_going m) refl e)
reached m m' call (t ∷ ts) flat h = elim (is_going m) as (λ b. is_going m ≡ b → cond b (after (fed_of m t).matcher ts) None ≡ Some m' → Reached m m' (call ++ t ∷ ts)) [
  | false ↦ λ g e. absurd cc
  | true ↦ λ g e.
      let n = (fed_of m t).matcher in
      let s = fed_stays m t in
      let b = fed_by m t call flat (h (going_there m g)) in
      let r = reached n m' (call ++ t ∷ []) ts (subst (λ (ps : List (List Token)). All IsDelimiter ps) (sym s.parts) flat) (λ going. comes_after (fed_of m t).fed n (call ++ t ∷ []) b s.stands going) e in
      record {
        is_after = subst (λ (c : List Token). IsAfter m' c) (append_assoc call (t ∷ []) ts) r.is_after;
        parts = r.parts ∙ s.parts;
        long = r.long ∙ s.long;
      }
] refl

done_not_going : (m : MatcherState) → IsWhole m [] → IsGoing m → IsAfter m []
done_not_going m w g = absurd (omega (arith, w.0.at_end, g.in_parts))

fresh_after : (m : MatcherState) → IsAfter m [] ⊎ IsWhole m [] → IsGoing m → IsAfter m []
fresh_after m (inl h) g = h
fresh_after m (inr w) g = done_not_going m w g

pub reached_from_start : (parts : List (List Token)) (long : Bool) (front : List Token) (m : MatcherState) → IsPattern parts → after (started parts long) front ≡ Some m → IsAfter m front × (m.parts ≡ parts) × (m.long ≡ long)
unfolding started
reached_from_start parts long front m p e =
    let r = reached (started parts long) m [] front p.1 (fresh_after (started parts long) (starts_fresh parts long p.0)) e in
    (r.is_after, r.parts, r.long)

-- what is said of a token behind them is true
said_of : (parts : List (List Token)) (long : Bool) (front : List Token) (t : Token) (m : MatcherState) → IsPattern parts → after (started parts long) front ≡ Some m → Says (fed_of m t).fed long parts (front ++ t ∷ [])
said_of parts long front t m p e =
    let r = reached_from_start parts long front m p e in
    let s = fed_stays m t in
    let x = fed_of m t in
    let flat = subst (λ (ps : List (List Token)). All IsDelimiter ps) (sym r.1) p.1 in
    let says = (means x.fed x.matcher (front ++ t ∷ []) (subst (λ (ps : List (List Token)). All IsDelimiter ps) (sym s.parts) flat) (fed_by m t front flat r.0)).0 in
    subst (λ (b : Bool). Says x.fed b parts (front ++ t ∷ [])) (s.long ∙ r.2) (subst (λ (ps : List (List Token)). Says x.fed x.matcher.long ps (front ++ t ∷ [])) (s.parts ∙ r.1) says)

pub said_exactly : (parts : List (List Token)) (long : Bool) (front : List Token) (t : Token) (m : MatcherState) (fed : Fed) → IsPattern parts → after (started parts long) front ≡ Some m → ((fed_of m t).fed ≡ fed) ↔ Says fed long parts (front ++ t ∷ [])
said_exactly parts long front t m fed p e =
    let says = said_of parts long front t m p e in (
      λ same. subst (λ (f : Fed). Says f long parts (front ++ t ∷ [])) same says,
      λ other. one_answer (fed_of m t).fed fed long parts (front ++ t ∷ []) says other,
    )

whole_by : (x : FedBy) (call : List Token) → x.fed ≡ Done → By x call → IsWhole x.matcher call
whole_by x call e b = subst (λ (f : Fed). Comes f x.matcher call) e b

pub arguments_of : (parts : List (List Token)) (long : Bool) (front : List Token) (t : Token) (m : MatcherState) → IsPattern parts → after (started parts long) front ≡ Some m → (fed_of m t).fed ≡ Done → MatchesCall long parts (front ++ t ∷ []) (fed_of m t).matcher.args
arguments_of parts long front t m p e done =
    let r = reached_from_start parts long front m p e in
    let s = fed_stays m t in
    let x = fed_of m t in
    let flat = subst (λ (ps : List (List Token)). All IsDelimiter ps) (sym r.1) p.1 in
    let w = (whole_by x (front ++ t ∷ []) done (fed_by m t front flat r.0)).1 in
    subst (λ (b : Bool). MatchesCall b parts (front ++ t ∷ []) x.matcher.args) (s.long ∙ r.2) (subst (λ (ps : List (List Token)). MatchesCall x.matcher.long ps (front ++ t ∷ []) x.matcher.args) (s.parts ∙ r.1) w)

-- a right brace that nothing opens is known before it is fed
extra_says : (m : MatcherState) (t : Token) (call : List Token) → All IsDelimiter m.parts → IsAfter m call → 0 < m.part → m.depth ≡ 0 → has_category t 2 ≡ true → Says (Fault ExtraBrace) m.long m.parts (call ++ t ∷ [])
extra_says m t call flat h l z r =
    let x = in_argument m.parts m.long m.args m.part m.read m.depth m.matched call l h.1 in
    elim (empty_or_not (part_of m)) [
      | inl bare ↦ undelimited_refused m.parts m.long m.args m.part m.read m.depth m.matched call t ExtraBrace x h.0.in_parts bare (inr (refl, z, r))
      | inr some ↦
          delimited_refused m.parts m.long m.args m.part m.read m.depth m.matched call t ExtraBrace true (All-get_or IsDelimiter m.parts m.part [] h.0.in_parts flat) some x h.0.in_parts
          (λ never. absurd (false≢true (sym never))) (inr (refl, z, r))
    ]

extra_shape : (a b c : Bool) → (a && b && c) ≡ true → (a ≡ true) × (b ≡ true) × (c ≡ true)
extra_shape true true true e = (refl, refl, refl)
extra_shape true true false e = absurd (false≢true e)
extra_shape true false c e = absurd (false≢true e)
extra_shape false b c e = absurd (false≢true e)

extra_holds : (a b c : Bool) → a ≡ true → b ≡ true → c ≡ true → (a && b && c) ≡ true
extra_holds a b c e f g = cc

extra_facts : (m : MatcherState) (t : Token) → is_extra m t ≡ true → (0 < m.part) × (m.depth ≡ 0) × (has_category t 2 ≡ true)
unfolding is_extra
extra_facts m t e =
    let h = extra_shape (nat_lt 0 m.part) (eqb m.depth 0) (has_category t 2) e in
    (ltb-true 0 m.part h.0, eqb-true m.depth 0 h.1, h.2)

extra_is : (m : MatcherState) (t : Token) → 0 < m.part → m.depth ≡ 0 → has_category t 2 ≡ true → is_extra m t ≡ true
unfolding is_extra
extra_is m t l z r = extra_holds (nat_lt 0 m.part) (eqb m.depth 0) (has_category t 2) (lt-ltb 0 m.part l) (eq-eqb m.depth 0 z) r

-- which tokens are refused for such a brace
abbrev IsExtra : MatcherState → Token → Type 0
IsExtra m t = (m.depth ≡ 0) × (has_category t 2 ≡ true)

ended_no_fault : (m : MatcherState) (args : List (List Token)) (f : MatchFault) → (ended m args).fed ≡ Fault f → ⊥
ended_no_fault m args f = elim (eqb (m.part + 1) (length m.parts)) as (λ b. let fed : Fed = cond b Done More in fed ≡ Fault f → ⊥) [ true ↦ λ e. cc | false ↦ λ e. cc ]

text_no_extra : (m : MatcherState) (t : Token) (here last : Bool) → (cond here (cond last (ended m m.args) (more m (m.read ++ t ∷ []) m.depth m.matched)) (refused DoesNotMatch m)).fed ≡ Fault ExtraBrace → ⊥
text_no_extra m t true true e = ended_no_fault m m.args ExtraBrace e
text_no_extra m t true false e = cc
text_no_extra m t false last e = cc

undelimited_extra : (m : MatcherState) (t : Token) (u : Turn) → undelimited_turn m.depth m.long t ≡ u → (undelimited_fed m t u).fed ≡ Fault ExtraBrace → IsExtra m t
undelimited_extra m t turn.Skip h e = absurd cc
undelimited_extra m t (turn.Keep depth) h e = absurd cc
undelimited_extra m t turn.Found h e = absurd (ended_no_fault m (m.args ++ argument_of (m.read ++ t ∷ []) ∷ []) ExtraBrace e)
undelimited_extra m t (turn.Fault f) h e = elim (undelimited_fault m.depth m.long t f h) [
  | inl x ↦ let a : ParagraphEnded ≡ f = x.0 in absurd cc
  | inr x ↦ (x.1, x.2)
]

kept_extra : (m : MatcherState) (text : List Token) (t : Token) (k : ℕ) (o : Result ℕ MatchFault) → delimited_turn (nat_lt 0 k) m.depth m.long t ≡ o → (delimited_kept m text k o).fed ≡ Fault ExtraBrace → IsExtra m t
kept_extra m text t k (Ok depth) h e = absurd cc
kept_extra m text t k (Err f) h e = elim (delimited_fault (nat_lt 0 k) m.depth m.long t f h) [
  | inl x ↦ let a : ParagraphEnded ≡ f = x.0 in absurd cc
  | inr x ↦ (x.1, x.2)
]

delimited_extra : (m : MatcherState) (text arg : List Token) (t : Token) (k : ℕ) (over : Bool) → (cond over (ended m (m.args ++ arg ∷ [])) (delimited_kept m text k (delimited_turn (nat_lt 0 k) m.depth m.long t))).fed ≡ Fault ExtraBrace → IsExtra m t
delimited_extra m text arg t k true e = absurd (ended_no_fault m (m.args ++ arg ∷ []) ExtraBrace e)
delimited_extra m text arg t k false e = kept_extra m text t k (delimited_turn (nat_lt 0 k) m.depth m.long t) refl e

argument_extra : (m : MatcherState) (d : List Token) (t : Token) → (argument_fed m d t).fed ≡ Fault ExtraBrace → IsExtra m t
argument_extra m [] t e = undelimited_extra m t (undelimited_turn m.depth m.long t) refl e
argument_extra m (x ∷ xs) t e =
    let text = m.read ++ t ∷ [] in
    let k = matched_in m.depth m.matched text (x ∷ xs) in
    delimited_extra m text (argument_of (take (length text - k) text)) t k (eqb k (length (x ∷ xs))) e

part_extra : (m : MatcherState) (t : Token) → (part_fed m t).fed ≡ Fault ExtraBrace → is_extra m t ≡ true
part_extra m t = elim (eqb m.part 0) as (λ b. eqb m.part 0 ≡ b → (cond b (text_fed m (part_of m) t) (argument_fed m (part_of m) t)).fed ≡ Fault ExtraBrace → is_extra m t ≡ true) [
  | true ↦ λ z e. absurd (text_no_extra m t (has_at (part_of m) (length m.read) t) (eqb (length m.read + 1) (length (part_of m))) e)
  | false ↦ λ z e. let h = argument_extra m (part_of m) t e in extra_is m t (omega (arith, eqb-false m.part 0 z)) h.0 h.1
] refl

fed_extra : (m : MatcherState) (t : Token) → (fed_of m t).fed ≡ Fault ExtraBrace → is_extra m t ≡ true
unfolding fed_of
fed_extra m t = elim (is_going m) as (λ b. (cond b (part_fed m t) (refused DoesNotMatch m)).fed ≡ Fault ExtraBrace → is_extra m t ≡ true) [
  | true ↦ λ e. part_extra m t e
  | false ↦ λ e. absurd cc
]

pub extra_exactly : (parts : List (List Token)) (long : Bool) (front : List Token) (t : Token) (m : MatcherState) → IsPattern parts → after (started parts long) front ≡ Some m → (is_extra m t ≡ true) ↔ ((fed_of m t).fed ≡ Fault ExtraBrace)
extra_exactly parts long front t m p e =
    let r = reached_from_start parts long front m p e in
    let flat = subst (λ (ps : List (List Token)). All IsDelimiter ps) (sym r.1) p.1 in (
      λ x.
          let h = extra_facts m t x in
          let says = extra_says m t front flat r.0 h.0 h.1 h.2 in
          (said_exactly parts long front t m (Fault ExtraBrace) p e).1
          (subst (λ (b : Bool). Says (Fault ExtraBrace) b parts (front ++ t ∷ [])) r.2 (subst (λ (ps : List (List Token)). Says (Fault ExtraBrace) m.long ps (front ++ t ∷ [])) r.1 says)),
      λ f. fed_extra m t f,
    )
