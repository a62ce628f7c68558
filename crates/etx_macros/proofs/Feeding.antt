-- What is said of a token is true of the tokens that were fed.
use Rattle.std.proofs.Common.{◌≡◌, ℕ, zero, suc, ◌<◌, ◌≤◌, ◌+◌, ◌-◌, min, Bool, true, false, not, ◌&&◌, eqb, cond, List, [], ◌∷◌, ◌++◌, Result, Ok, Err, ◌⊎◌, inl, inr, length, get_or, take, drop, refl, sym, ap, subst, ◌∙◌, arith}
use Rattle.std.specs.Prelude.{nat_lt, All}
use Rattle.std.proofs.lemmas.Bool.{false≢true, eqb-true, eqb-false, ltb-true, lt-ltb}
use Rattle.std.proofs.lemmas.Option.{slice_get_within}
use Rattle.std.proofs.lemmas.List.{take-append-drop, length-drop, length-append}
use Rattle.std.proofs.lemmas.List.Elements.{All-get_or}
use Rattle.etx_matter.specs.declared.token.Token.{Token}
use Rattle.etx_macros.specs.declared.argument.Turn.{Turn}
use Rattle.etx_macros.specs.declared.argument.Turn.TheVariants as turn
use Rattle.etx_macros.specs.declared.fault.Fed.{Fed}
use Rattle.etx_macros.specs.declared.fault.Fed.TheVariants.{More, Done}
use Rattle.etx_macros.specs.declared.fault.MatchFault.{MatchFault}
use Rattle.etx_macros.specs.declared.fault.MatchFault.TheVariants.{DoesNotMatch}
use Rattle.etx_macros.specs.Marks.{IsDelimiter}
use Rattle.etx_macros.specs.Calls.{Gives, MatchesCall}
use Rattle.etx_macros.specs.Matching.{IsLongest, undelimited_turn, delimited_turn}
use Rattle.etx_macros.specs.State.{MatcherState, FedBy}
use Rattle.etx_macros.specs.Feeding.{argument_of, longest, matched_in, has_at, part_of, more, ended, refused, text_fed, undelimited_fed, delimited_kept, delimited_fed, argument_fed, part_fed, fed_of, is_going, Makes}
use Rattle.etx_macros.specs.Progress.{InText, InArgument, IsGoing, IsAfter, Comes, Means, Stands}
use Rattle.etx_macros.proofs.Comparing.{at_there, at_back, longest_is}
use Rattle.etx_macros.proofs.Groups.{argument_gives}
use Rattle.etx_macros.proofs.Turns.{undelimited_fault, delimited_fault}
use Rattle.etx_macros.proofs.Turns as turns
use Rattle.etx_macros.proofs.Steps.{after_part, in_argument, in_text, in_delimited, undelimited_skip, undelimited_keep, undelimited_end, delimited_keep, delimited_end, same_cut, text_more, text_matched}
use Rattle.etx_macros.proofs.Completions.{means}
use Rattle.etx_macros.proofs.Found.{found_here, wants_here, not_found_here, place_here, inside_here, absorbed_here}
use Rattle.etx_macros.proofs.Refusals.{text_fault, undelimited_refused, delimited_refused}

-- what a token makes of a match is true of these tokens
abbrev pub By : FedBy → List Token → Type 0
By x call = Comes x.fed x.matcher call

-- a part is over
ended_by : (m : MatcherState) (args : List (List Token)) (call : List Token) → IsGoing m → MatchesCall m.long (take (m.part + 1) m.parts) call args → By (ended m args) call
ended_by m args call g c = after_part (ended m args).matcher call g.not_failed (omega arith) (omega (arith, g.in_parts)) c refl refl refl

-- the text before the first parameter
module _ (m : MatcherState) (t : Token) (call : List Token) (g : IsGoing m) (first : m.part ≡ 0) (x : InText m.parts m.args m.part m.read m.depth call) where
  text_goes_on : (s : has_at (get_or m.parts 0 []) (length m.read) t ≡ true) → By (cond (eqb (length m.read + 1) (length (get_or m.parts 0 []))) (ended m m.args) (more m (m.read ++ t ∷ []) m.depth m.matched)) (call ++ t ∷ [])
  text_goes_on s =
      let there = at_there (get_or m.parts 0 []) (length m.read) t s in
      let within = slice_get_within (get_or m.parts 0 []) (length m.read) t there in
      elim (eqb (length m.read + 1) (length (get_or m.parts 0 []))) as (λ b. eqb (length m.read + 1) (length (get_or m.parts 0 [])) ≡ b → By (cond b (ended m m.args) (more m (m.read ++ t ∷ []) m.depth m.matched)) (call ++ t ∷ [])) [
        | true ↦ λ e.
            let l : length (get_or m.parts 0 []) ≤ length m.read + 1 = omega (arith, eqb-true (length m.read + 1) (length (get_or m.parts 0 [])) e) in
            let c = text_matched m.parts m.long m.args m.part m.read m.depth call t (omega (arith, g.in_parts)) x there l in
            ended_by m m.args (call ++ t ∷ []) g (subst (λ (n : ℕ). MatchesCall m.long (take (n + 1) m.parts) (call ++ t ∷ []) m.args) (sym first) c)
        | false ↦ λ e.
            let l : length m.read + 1 < length (get_or m.parts 0 []) = omega (arith, within, eqb-false (length m.read + 1) (length (get_or m.parts 0 [])) e) in (
              record { in_parts = g.in_parts; not_failed = g.not_failed },
              inl (text_more m.parts m.args m.part m.read m.depth call t x there l),
            )
      ] refl

  text_by : By (text_fed m (get_or m.parts 0 []) t) (call ++ t ∷ [])
  text_by =
      elim (has_at (get_or m.parts 0 []) (length m.read) t) as (λ b. has_at (get_or m.parts 0 []) (length m.read) t ≡ b → By (cond b (cond (eqb (length m.read + 1) (length (get_or m.parts 0 []))) (ended m m.args) (more m (m.read ++ t ∷ []) m.depth m.matched)) (refused DoesNotMatch m)) (call ++ t ∷ [])) [
        | true ↦ λ s. text_goes_on s
        | false ↦ λ s. text_fault m.parts m.long m.args m.part m.read m.depth m.matched call t x (λ there. false≢true (sym s ∙ at_back (get_or m.parts 0 []) (length m.read) t there))
      ] refl

-- an undelimited argument
module _ (m : MatcherState) (t : Token) (call : List Token) (g : IsGoing m) (bare : part_of m ≡ []) (x : InArgument m.parts m.long m.args m.part m.read m.depth m.matched call) where
  undelimited_by : (u : Turn) → undelimited_turn m.depth m.long t ≡ u → By (undelimited_fed m t u) (call ++ t ∷ [])
  undelimited_by turn.Skip e = (record { in_parts = g.in_parts; not_failed = g.not_failed }, inr (undelimited_skip m.parts m.long m.args m.part m.read m.depth m.matched call t bare x e))
  undelimited_by (turn.Keep depth) e = (record { in_parts = g.in_parts; not_failed = g.not_failed }, inr (undelimited_keep m.parts m.long m.args m.part m.read m.depth m.matched call t depth bare x e))
  undelimited_by turn.Found e =
      ended_by m (m.args ++ argument_of (m.read ++ t ∷ []) ∷ []) (call ++ t ∷ []) g
      (undelimited_end m.parts m.long m.args m.part m.read m.depth m.matched call t (argument_of (m.read ++ t ∷ [])) g.in_parts bare x e (argument_gives (m.read ++ t ∷ [])))
  undelimited_by (turn.Fault fault) e =
      undelimited_refused m.parts m.long m.args m.part m.read m.depth m.matched call t fault x g.in_parts bare (undelimited_fault m.depth m.long t fault e)

-- where the delimiter is looked for
pub matched_inside : (depth matched : ℕ) (text delimiter : List Token) → 0 < depth → matched_in depth matched text delimiter ≡ 0
matched_inside depth matched text delimiter l = ap (λ b. cond b 0 (longest text delimiter (min (matched + 1) (length delimiter)))) (lt-ltb 0 depth l)

pub matched_outside : (depth matched : ℕ) (text delimiter : List Token) → depth ≡ 0 → IsLongest text delimiter (min (matched + 1) (length delimiter)) (matched_in depth matched text delimiter)
matched_outside zero matched text delimiter z = longest_is text delimiter (min (matched + 1) (length delimiter))
matched_outside (suc n) matched text delimiter z = absurd (omega arith)

-- what stands before the last tokens of a text
cut_length : (text : List Token) (k : ℕ) → k ≤ length text → length (drop (length text - k) text) ≡ k
cut_length text k l = omega (arith, length-drop (length text - k) text)

-- a delimited argument
module _ (m : MatcherState) (t : Token) (call : List Token) (g : IsGoing m) (flat : IsDelimiter (part_of m)) (some : part_of m ≡ [] → ⊥) (x : InArgument m.parts m.long m.args m.part m.read m.depth m.matched call) (k : ℕ) (inside : 0 < m.depth → k ≡ 0) (outside : m.depth ≡ 0 → IsLongest (m.read ++ t ∷ []) (part_of m) (min (m.matched + 1) (length (part_of m))) k) where
  delimited_over : k ≡ length (part_of m) → By (ended m (m.args ++ argument_of (take (length (m.read ++ t ∷ []) - k) (m.read ++ t ∷ [])) ∷ [])) (call ++ t ∷ [])
  delimited_over whole =
      let d = part_of m in
      let text = m.read ++ t ∷ [] in
      let raw = take (length text - k) text in
      let n = in_delimited m.parts m.long m.args m.part m.read m.depth m.matched call t some x in
      let found = found_here m.long d m.read m.depth m.matched t k flat some n inside outside whole in
      let fits : k ≤ length text = omega (arith, whole, ap length found.1, length-append found.0 d) in
      let same : raw ≡ found.0 = same_cut raw (drop (length text - k) text) found.0 d (take-append-drop (length text - k) text ∙ found.1) (cut_length text k fits ∙ whole) in
      ended_by m (m.args ++ argument_of raw ∷ []) (call ++ t ∷ []) g
      (delimited_end m.parts m.long m.args m.part m.read m.depth m.matched call t found.0 (argument_of raw) g.in_parts some x found.1 found.2
      (subst (λ (r : List Token). Gives r (argument_of raw)) same (argument_gives raw)))

  delimited_on : (k ≡ length (part_of m) → ⊥) → (o : Result ℕ MatchFault) → delimited_turn (nat_lt 0 k) m.depth m.long t ≡ o → By (delimited_kept m (m.read ++ t ∷ []) k o) (call ++ t ∷ [])
  delimited_on less (Ok depth) e =
      let n = in_delimited m.parts m.long m.args m.part m.read m.depth m.matched call t some x in
      let turn = turns.delimited_keep (nat_lt 0 k) m.depth m.long t depth e in (
        record { in_parts = g.in_parts; not_failed = g.not_failed },
        inr (delimited_keep m.parts m.long m.args m.part m.read m.depth m.matched call t depth k some x
            (not_found_here m.long (part_of m) m.read m.depth m.matched t k flat some n inside outside less)
            (λ l p. inside_here m.long (part_of m) m.read m.depth m.matched t k flat some n inside outside (turn.0 l p))
            turn.1
            (place_here m.long (part_of m) m.read m.depth m.matched t k flat some n inside outside depth turn.1)
            (wants_here m.long (part_of m) m.read m.depth m.matched t k flat some n inside outside less)),
      )
  delimited_on less (Err fault) e =
      let n = in_delimited m.parts m.long m.args m.part m.read m.depth m.matched call t some x in
      delimited_refused m.parts m.long m.args m.part m.read m.depth m.matched call t fault (nat_lt 0 k) flat some x g.in_parts
      (λ free. absorbed_here m.long (part_of m) m.read m.depth m.matched t k flat some n inside outside free)
      (delimited_fault (nat_lt 0 k) m.depth m.long t fault e)

  delimited_by : By (delimited_fed m (part_of m) (m.read ++ t ∷ []) k t) (call ++ t ∷ [])
  delimited_by =
      elim (eqb k (length (part_of m))) as (λ b. eqb k (length (part_of m)) ≡ b → By (cond b (ended m (m.args ++ argument_of (take (length (m.read ++ t ∷ []) - k) (m.read ++ t ∷ [])) ∷ [])) (delimited_kept m (m.read ++ t ∷ []) k (delimited_turn (nat_lt 0 k) m.depth m.long t))) (call ++ t ∷ [])) [
        | true ↦ λ e. delimited_over (eqb-true k (length (part_of m)) e)
        | false ↦ λ e. delimited_on (eqb-false k (length (part_of m)) e) (delimited_turn (nat_lt 0 k) m.depth m.long t) refl
      ] refl

-- the two kinds of arguments
pub argument_bare : (m : MatcherState) (d : List Token) (t : Token) → d ≡ [] → argument_fed m d t ≡ undelimited_fed m t (undelimited_turn m.depth m.long t)
argument_bare m [] t e = refl
argument_bare m (x ∷ xs) t e = absurd cc

pub argument_delimited : (m : MatcherState) (d : List Token) (t : Token) → (d ≡ [] → ⊥) → argument_fed m d t ≡ delimited_fed m d (m.read ++ t ∷ []) (matched_in m.depth m.matched (m.read ++ t ∷ []) d) t
argument_delimited m [] t some = absurd (some refl)
argument_delimited m (x ∷ xs) t some = refl

pub empty_or_not : (d : List Token) → (d ≡ []) ⊎ (d ≡ [] → ⊥)
empty_or_not [] = inl refl
empty_or_not (x ∷ xs) = inr (λ e. absurd cc)

argument_by : (m : MatcherState) (t : Token) (call : List Token) → IsGoing m → IsDelimiter (part_of m) → InArgument m.parts m.long m.args m.part m.read m.depth m.matched call → By (argument_fed m (part_of m) t) (call ++ t ∷ [])
argument_by m t call g flat x = elim (empty_or_not (part_of m)) [
  | inl bare ↦ subst (λ (f : FedBy). By f (call ++ t ∷ [])) (sym (argument_bare m (part_of m) t bare)) (undelimited_by m t call g bare x (undelimited_turn m.depth m.long t) refl)
  | inr some ↦
      subst (λ (f : FedBy). By f (call ++ t ∷ [])) (sym (argument_delimited m (part_of m) t some))
      (delimited_by m t call g flat some x (matched_in m.depth m.matched (m.read ++ t ∷ []) (part_of m)) (matched_inside m.depth m.matched (m.read ++ t ∷ []) (part_of m)) (matched_outside m.depth m.matched (m.read ++ t ∷ []) (part_of m)))
]

part_by : (m : MatcherState) (t : Token) (call : List Token) → All IsDelimiter m.parts → IsAfter m call → By (part_fed m t) (call ++ t ∷ [])
part_by m t call flat h =
    elim (eqb m.part 0) as (λ b. eqb m.part 0 ≡ b → By (cond b (text_fed m (part_of m) t) (argument_fed m (part_of m) t)) (call ++ t ∷ [])) [
      | true ↦ λ e.
          let z = eqb-true m.part 0 e in
          subst (λ (n : ℕ). By (text_fed m (get_or m.parts n []) t) (call ++ t ∷ [])) (sym z)
          (text_by m t call h.0 z (in_text m.parts m.long m.args m.part m.read m.depth m.matched call z h.1))
      | false ↦ λ e.
          let l : 0 < m.part = omega (arith, eqb-false m.part 0 e) in
          argument_by m t call h.0 (All-get_or IsDelimiter m.parts m.part [] h.0.in_parts flat) (in_argument m.parts m.long m.args m.part m.read m.depth m.matched call l h.1)
    ] refl

going_parts : (failed less : Bool) → (not failed && less) ≡ true → (failed ≡ false) × (less ≡ true)
going_parts true less e = absurd (false≢true e)
going_parts false less e = (refl, e)

going_shape : (failed less : Bool) → failed ≡ false → less ≡ true → (not failed && less) ≡ true
going_shape failed less e f = cc

pub goes : (m : MatcherState) → IsGoing m → is_going m ≡ true
goes m g = going_shape m.failed (nat_lt m.part (length m.parts)) g.not_failed (lt-ltb m.part (length m.parts) g.in_parts)

-- what is said of a token is true
pub fed_by : (m : MatcherState) (t : Token) (call : List Token) → All IsDelimiter m.parts → IsAfter m call → By (fed_of m t) (call ++ t ∷ [])
unfolding fed_of
fed_by m t call flat h = subst (λ (b : Bool). By (cond b (part_fed m t) (refused DoesNotMatch m)) (call ++ t ∷ [])) (sym (goes m h.0)) (part_by m t call flat h)

-- and so is what is said by the code
pub makes_means : (m new : MatcherState) (t : Token) (fed : Fed) (call : List Token) → All IsDelimiter m.parts → Makes (fed_of m t) fed new → new.parts ≡ m.parts → IsAfter m call → Means fed new (call ++ t ∷ [])
makes_means m new t fed call flat x same h =
    means fed new (call ++ t ∷ []) (subst (λ (ps : List (List Token)). All IsDelimiter ps) (sym same) flat)
    (subst (λ (f : Fed). Comes f new (call ++ t ∷ [])) (sym x.0) (subst (λ (n : MatcherState). Comes (fed_of m t).fed n (call ++ t ∷ [])) (sym x.1) (fed_by m t call flat h)))

-- what a match is behind a token
pub record Stays (m : MatcherState) (x : FedBy) : Type 0 where
  pub stands : Stands x.fed x.matcher
  pub parts : x.matcher.parts ≡ m.parts
  pub long : x.matcher.long ≡ m.long

ended_stays : (m : MatcherState) (args : List (List Token)) → IsGoing m → Stays m (ended m args)
ended_stays m args g = record {
  stands = elim (eqb (m.part + 1) (length m.parts)) as (λ b. eqb (m.part + 1) (length m.parts) ≡ b → Stands (cond b Done More) (ended m args).matcher) [
    | true ↦ λ e. record { at_end = eqb-true (m.part + 1) (length m.parts) e; not_failed = g.not_failed }
    | false ↦ λ e. record { in_parts = omega (arith, g.in_parts, eqb-false (m.part + 1) (length m.parts) e); not_failed = g.not_failed }
  ] refl;
  parts = refl;
  long = refl;
}

more_stays : (m : MatcherState) (read : List Token) (depth matched : ℕ) → IsGoing m → Stays m (more m read depth matched)
more_stays m read depth matched g = record { stands = record { in_parts = g.in_parts; not_failed = g.not_failed }; parts = refl; long = refl }

refused_stays : (m : MatcherState) (fault : MatchFault) → Stays m (refused fault m)
refused_stays m fault = record { stands = refl; parts = refl; long = refl }

text_stays : (m : MatcherState) (t : Token) (here last : Bool) → IsGoing m → Stays m (cond here (cond last (ended m m.args) (more m (m.read ++ t ∷ []) m.depth m.matched)) (refused DoesNotMatch m))
text_stays m t true true g = ended_stays m m.args g
text_stays m t true false g = more_stays m (m.read ++ t ∷ []) m.depth m.matched g
text_stays m t false last g = refused_stays m DoesNotMatch

undelimited_stays : (m : MatcherState) (t : Token) (u : Turn) → IsGoing m → Stays m (undelimited_fed m t u)
undelimited_stays m t turn.Skip g = more_stays m m.read m.depth m.matched g
undelimited_stays m t (turn.Keep depth) g = more_stays m (m.read ++ t ∷ []) depth m.matched g
undelimited_stays m t turn.Found g = ended_stays m (m.args ++ argument_of (m.read ++ t ∷ []) ∷ []) g
undelimited_stays m t (turn.Fault fault) g = refused_stays m fault

kept_stays : (m : MatcherState) (text : List Token) (k : ℕ) (o : Result ℕ MatchFault) → IsGoing m → Stays m (delimited_kept m text k o)
kept_stays m text k (Ok depth) g = more_stays m text depth k g
kept_stays m text k (Err fault) g = refused_stays m fault

delimited_stays : (m : MatcherState) (text arg : List Token) (k : ℕ) (over : Bool) (o : Result ℕ MatchFault) → IsGoing m → Stays m (cond over (ended m (m.args ++ arg ∷ [])) (delimited_kept m text k o))
delimited_stays m text arg k true o g = ended_stays m (m.args ++ arg ∷ []) g
delimited_stays m text arg k false o g = kept_stays m text k o g

argument_stays : (m : MatcherState) (d : List Token) (t : Token) → IsGoing m → Stays m (argument_fed m d t)
argument_stays m [] t g = undelimited_stays m t (undelimited_turn m.depth m.long t) g
argument_stays m (x ∷ xs) t g =
    let text = m.read ++ t ∷ [] in
    let k = matched_in m.depth m.matched text (x ∷ xs) in
    delimited_stays m text (argument_of (take (length text - k) text)) k (eqb k (length (x ∷ xs))) (delimited_turn (nat_lt 0 k) m.depth m.long t) g

part_stays : (m : MatcherState) (t : Token) → IsGoing m → Stays m (part_fed m t)
part_stays m t g = elim (eqb m.part 0) as (λ b. Stays m (cond b (text_fed m (part_of m) t) (argument_fed m (part_of m) t))) [
  | true ↦ text_stays m t (has_at (part_of m) (length m.read) t) (eqb (length m.read + 1) (length (part_of m))) g
  | false ↦ argument_stays m (part_of m) t g
]

pub going_there : (m : MatcherState) → is_going m ≡ true → IsGoing m
going_there m e =
    let h = going_parts m.failed (nat_lt m.part (length m.parts)) e in
    record { in_parts = ltb-true m.part (length m.parts) h.1; not_failed = h.0 }

pub fed_stays : (m : MatcherState) (t : Token) → Stays m (fed_of m t)
unfolding fed_of
fed_stays m t = elim (is_going m) as (λ b. is_going m ≡ b → Stays m (cond b (part_fed m t) (refused DoesNotMatch m))) [
  | true ↦ λ e. part_stays m t (going_there m e)
  | false ↦ λ e. refused_stays m DoesNotMatch
] refl

pub makes_stands : (m new : MatcherState) (t : Token) (fed : Fed) → Makes (fed_of m t) fed new → Stands fed new
makes_stands m new t fed x = subst (λ (f : Fed). Stands f new) (sym x.0) (subst (λ (n : MatcherState). Stands (fed_of m t).fed n) (sym x.1) (fed_stays m t).stands)
