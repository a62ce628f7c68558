-- The stops of a paragraph by the numbers of its breaks.
use Rattle.std.proofs.Common.{◌≡◌, ◌-◌, ◌<◌, ◌≤◌, ℕ, zero, suc, true, ltb, List, [], ◌∷◌, length, get_or, map, refl, sym, ap, ◌∙◌, arith}
use Rattle.std.proofs.lemmas.Bool.{ltb-true}
use Rattle.std.proofs.lemmas.List.{length-map}
use Rattle.std.specs.Prelude.{slice_index}
use Rattle.etx_sealed.specs.declared.measure.Measure.{Measure}
use Rattle.etx_sealed.specs.Paragraphs.{Paragraph}
use Rattle.etx_sealed.specs.Breaks.{legal_breaks}
use Rattle.etx_sealed.specs.Lines.{line_measure}
use Rattle.etx_sealed.specs.Stops.{StopState, stop_at, stops}
use Rattle.etx_linebreak.specs.Lines.{penalty, hyphenated}
use Rattle.etx_linebreak.specs.Passes.{PassState, AreStops, break_count, break_at}

some_stop : (p : Paragraph) (xs : List ℕ) (j : ℕ) (s : StopState) → j < length (map (stop_at p) xs) → s ≡ get_or (map (stop_at p) xs) j s
    → s ≡ stop_at p (slice_index xs j)
some_stop p [] j s h e = absurd (omega (arith, h))
some_stop p (x ∷ xs) zero s h e = e
some_stop p (x ∷ xs) (suc j) s h e = some_stop p xs j s (omega (arith, h)) e

no_stop : (p : Paragraph) (xs : List ℕ) (j : ℕ) → length (map (stop_at p) xs) ≤ j → slice_index xs j ≡ 0
no_stop p [] j h = refl
no_stop p (x ∷ xs) zero h = absurd (omega (arith, h))
no_stop p (x ∷ xs) (suc j) h = no_stop p xs j (omega (arith, h))

pub stop_found : (p : PassState) (found : List StopState) (j : ℕ) (s : StopState) → AreStops p.paragraph found → true ≡ ltb j (length found) → s ≡ get_or found j s
    → s ≡ stop_at p.paragraph (break_at p j)
unfolding stops break_at
stop_found p found j s a b e =
    let within : j < length found = ltb-true j (length found) (sym b) in
    some_stop p.paragraph (0 ∷ legal_breaks p.paragraph) j s (omega (arith, within, ap length a)) (e ∙ ap (λ (xs : List StopState). get_or xs j s) a)

-- a number that no break has stands for the start
pub stop_missing : (p : PassState) (found : List StopState) (j : ℕ) (s d : StopState) → AreStops p.paragraph found → length found ≤ j → s ≡ get_or found 0 d
    → s ≡ stop_at p.paragraph (break_at p j)
unfolding stops break_at
stop_missing p found j s d a h e =
    e ∙ ap (λ (xs : List StopState). get_or xs 0 d) a
    ∙ sym (ap (stop_at p.paragraph) (no_stop p.paragraph (0 ∷ legal_breaks p.paragraph) j (omega (arith, h, ap length a))))

pub some_stops : (p : Paragraph) (found : List StopState) → AreStops p found → 0 < length found
unfolding stops
some_stops p found a = omega (arith, ap length a)

pub count_is : (p : PassState) (found : List StopState) (n : ℕ) → AreStops p.paragraph found → n ≡ length found → n - 1 ≡ break_count p
unfolding stops break_count
count_is p found n a e =
    let more : length (map (stop_at p.paragraph) (0 ∷ legal_breaks p.paragraph)) ≡ length (0 ∷ legal_breaks p.paragraph) =
    length-map (0 ∷ legal_breaks p.paragraph) (stop_at p.paragraph) in
    omega (arith, e, ap length a, more)

-- a stop knows its place
pub place_is : (p : Paragraph) (s : StopState) (k : ℕ) → s ≡ stop_at p k → s.place ≡ k
unfolding stop_at
place_is p s k e = ap (λ (it : StopState). it.place) e

pub placed : (p same : Paragraph) (s : StopState) (k : ℕ) → same ≡ p → s ≡ stop_at p k → s ≡ stop_at same s.place
placed p same s k q e = e ∙ ap (stop_at p) (sym (place_is p s k e)) ∙ ap (λ (it : Paragraph). stop_at it s.place) (sym q)

pub line_is : (p same : Paragraph) (from to : StopState) (i j : ℕ) (line : Measure) → same ≡ p → from ≡ stop_at p i → to ≡ stop_at p j
    → line ≡ line_measure same from.place to.place → line ≡ line_measure p i j
line_is p same from to i j line q a b e =
    e
    ∙ ap (λ (it : Paragraph). line_measure it from.place to.place) q
    ∙ ap (λ (n : ℕ). line_measure p n to.place) (place_is p from i a)
    ∙ ap (line_measure p i) (place_is p to j b)

pub penalty_is : (p : PassState) (s : StopState) (j : ℕ) → s ≡ stop_at p.paragraph (break_at p j) → s.penalty ≡ penalty p j
unfolding stop_at penalty
penalty_is p s j e = ap (λ (it : StopState). it.penalty) e

pub hyphenated_is : (p : PassState) (s : StopState) (j : ℕ) → s ≡ stop_at p.paragraph (break_at p j) → s.hyphenated ≡ hyphenated p j
unfolding stop_at hyphenated
hyphenated_is p s j e = ap (λ (it : StopState). it.hyphenated) e
