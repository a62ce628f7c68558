-- A word and a list, one step further.
use Rattle.std.proofs.Common.{◌≡◌, ℕ, ◌+◌, ◌-◌, ◌<◌, ◌≤◌, Bool, true, false, if◌then◌else◌, List, [], ◌∷◌, ◌++◌, length, take, drop, get_or, None, Some, refl, sym, subst, ap, ◌∙◌, append_assoc, arith}
use Rattle.std.proofs.lemmas.List.{at_drop_more, at_drop_all, append-nil}
use Rattle.etx_matter.specs.declared.node.Node.{Node}
use Rattle.etx_matter.specs.Fonts.{FontState}
use Rattle.etx_tfm.specs.declared.reading.Reading.{Reading}
use Rattle.etx_sealed.specs.declared.params.ParParams.{ParParams}
use Rattle.etx_hyphen.specs.declared.cuts.Cut.{Cut}
use Rattle.etx_hyphen.specs.declared.cuts.Unbroken.{Unbroken}
use Rattle.etx_hyphen.specs.declared.cuts.WordEnds.{WordEnds}
use Rattle.etx_hyphen.specs.declared.progress.Progress.{Progress}
use Rattle.etx_hyphen.specs.declared.walk.Walk.{Walk}
use Rattle.etx_hyphen.specs.declared.words.Rewritten.{Rewritten}
use Rattle.etx_hyphen.specs.Cuts.{IsReading, IsCut}
use Rattle.etx_hyphen.specs.Progresses.{finished, untouched, with_kept, with_cut}
use Rattle.etx_hyphen.specs.Rebuilds.{AreCuts, unbroken_of, disc_of, is_kept, kept_from, with_discs, IsRebuilt}
use Rattle.etx_hyphen.specs.Rebuilds as rebuilds
use Rattle.etx_hyphen.specs.Words.{word_at, walk_behind}
use Rattle.etx_hyphen.specs.Hyphenations.{behind_word, IsRewritten, Hyphenates, HyphenatesOn}
use Rattle.etx_hyphen.specs.Hyphenations as hyphenates
use Rattle.etx_hyphen.proofs.Founds.{found, not_found}

-- a run that is kept, or one that is dropped
cut_by : (b : Bool) (progress : Progress) (cut : Cut) (cuts : List Cut)
    → finished (if b then with_kept progress cut else progress) cuts
    ≡ progress.written ++ with_discs progress.at (if b then cut ∷ kept_from cut.end.letters cuts else kept_from progress.end cuts) progress.rest
unfolding with_kept with_discs
cut_by true progress cut cuts =
    let n = cut.start.unbroken - progress.at in
    let behind = with_discs cut.start.unbroken (kept_from cut.end.letters cuts) (drop n progress.rest) in
    append_assoc (progress.written ++ take n progress.rest) (disc_of cut ∷ []) behind
    ∙ append_assoc progress.written (take n progress.rest) (disc_of cut ∷ behind)
cut_by false progress cut cuts = refl

finished-cut : (progress : Progress) (cut : Cut) (cuts : List Cut) → finished (with_cut progress cut) cuts ≡ finished progress (cut ∷ cuts)
unfolding with_cut kept_from
finished-cut progress cut cuts = cut_by (is_kept progress.end cut) progress cut cuts

-- with the cuts at the places that are left, what is made so far becomes what all cuts make of the first
abbrev pub Comes : FontState → ℕ → WordEnds → List ℕ → Unbroken → Progress → List ℕ → Progress → List ℕ → Type 0
Comes font hyphen ends letters word first places progress left =
    (cuts : List Cut) → AreCuts font hyphen ends letters word left cuts
    → (all : List Cut) × AreCuts font hyphen ends letters word places all × (finished first all ≡ finished progress cuts)

pub rebuilds-step : (font : FontState) (hyphen : ℕ) (ends : WordEnds) (letters : List ℕ) (word : Unbroken) (first progress progress' : Progress) (all : List ℕ) (i : ℕ) (cut : Cut)
    → Comes font hyphen ends letters word first all progress (drop i all) → i < length all
    → IsCut font hyphen ends letters word (get_or all i 0) cut → progress' ≡ with_cut progress cut
    → Comes font hyphen ends letters word first all progress' (drop (i + 1) all)
rebuilds-step font hyphen ends letters word first progress progress' all i cut h within c p cuts r =
    let here : drop i all ≡ get_or all i 0 ∷ drop (i + 1) all = at_drop_more (λ (xs : List ℕ). xs) all i 0 within in
    let there : AreCuts font hyphen ends letters word (drop i all) (cut ∷ cuts) =
    subst (λ (xs : List ℕ). AreCuts font hyphen ends letters word xs (cut ∷ cuts)) (sym here) (rebuilds.more c r) in
    let found = h (cut ∷ cuts) there in
    (found.0, found.1, found.2 ∙ sym (finished-cut progress cut cuts) ∙ ap (λ (it : Progress). finished it cuts) (sym p))

finished_none : (progress : Progress) → finished progress [] ≡ progress.written ++ progress.rest
unfolding kept_from with_discs
finished_none progress = refl

pub rebuilt_by : (font : FontState) (hyphen : ℕ) (ends : WordEnds) (letters places : List ℕ) (reading : Reading) (word : Unbroken) (first progress : Progress) (i : ℕ) (nodes : List Node)
    → IsReading font letters ends.left ends.right reading → word ≡ unbroken_of letters reading → first ≡ untouched reading.nodes
    → Comes font hyphen ends letters word first places progress (drop i places) → length places ≤ i → nodes ≡ progress.written ++ progress.rest
    → IsRebuilt font hyphen ends letters places nodes
rebuilt_by font hyphen ends letters places reading word first progress i nodes reads w f h over e =
    let none : drop i places ≡ [] = at_drop_all (λ (xs : List ℕ). xs) places i over in
    let found = h [] (subst (λ (xs : List ℕ). AreCuts font hyphen ends letters word xs []) (sym none) rebuilds.none) in
    record {
      unbroken = reading;
      cuts = found.0;
      reads = reads;
      cut = subst (λ (it : Unbroken). AreCuts font hyphen ends letters it places found.0) w found.1;
      is = e ∙ sym (finished_none progress) ∙ sym found.2 ∙ ap (λ (it : Progress). finished it found.0) f;
    }

pub stays-step : (p : ParParams) (first walk walk' : Walk) (all nodes tail written written' : List Node) (node copy : Node)
    → HyphenatesOn p first all walk written nodes → nodes ≡ node ∷ tail → IsRewritten (word_at p walk nodes) None
    → written' ≡ written ++ copy ∷ [] → copy ≡ node → walk' ≡ walk_behind p walk node
    → HyphenatesOn p first all walk' written' tail
stays-step p first walk walk' all nodes tail written written' node copy h e none w same k rest r =
    let no_word : word_at p walk (node ∷ tail) ≡ None = sym (ap (word_at p walk) e) ∙ not_found (word_at p walk nodes) none in
    let behind : Hyphenates p (walk_behind p walk node) tail rest = subst (λ (it : Walk). Hyphenates p it tail rest) k r in
    let here : Hyphenates p walk nodes (node ∷ rest) =
    subst (λ (it : List Node). Hyphenates p walk it (node ∷ rest)) (sym e) (hyphenates.stays no_word behind) in
    let text : written ++ (node ∷ rest) ≡ written' ++ rest =
    sym (ap (λ (it : List Node). it ++ rest) w ∙ append_assoc written (copy ∷ []) rest ∙ ap (λ (it : Node). written ++ (it ∷ rest)) same) in
    subst (Hyphenates p first all) text (h (node ∷ rest) here)

pub rebuilt-step : (p : ParParams) (first walk walk' : Walk) (all nodes nodes' written written' : List Node) (it : Rewritten)
    → HyphenatesOn p first all walk written nodes → IsRewritten (word_at p walk nodes) (Some it)
    → written' ≡ written ++ it.nodes → walk' ≡ behind_word walk → nodes' ≡ drop it.count nodes
    → HyphenatesOn p first all walk' written' nodes'
rebuilt-step p first walk walk' all nodes nodes' written written' it h some w k n rest r =
    let word = found (word_at p walk nodes) it some in
    let tail : nodes' ≡ drop word.0.count nodes = n ∙ ap (λ (count : ℕ). drop count nodes) word.2 in
    let behind : Hyphenates p (behind_word walk) (drop word.0.count nodes) rest =
    subst (λ (xs : List Node). Hyphenates p (behind_word walk) xs rest) tail (subst (λ (v : Walk). Hyphenates p v nodes' rest) k r) in
    let here : Hyphenates p walk nodes (it.nodes ++ rest) = hyphenates.rebuilt word.1 word.3 behind in
    let text : written ++ (it.nodes ++ rest) ≡ written' ++ rest =
    sym (ap (λ (xs : List Node). xs ++ rest) w ∙ append_assoc written it.nodes rest) in
    subst (Hyphenates p first all) text (h (it.nodes ++ rest) here)

no_nodes : (nodes : List Node) → length nodes ≡ 0 → nodes ≡ []
no_nodes [] h = refl
no_nodes (node ∷ nodes) h = absurd (omega (arith, h))

pub hyphenates-end : (p : ParParams) (first walk : Walk) (all nodes written : List Node) → HyphenatesOn p first all walk written nodes → length nodes ≡ 0 → Hyphenates p first all written
hyphenates-end p first walk all nodes written h none =
    let e = no_nodes nodes none in
    let last : Hyphenates p walk nodes [] = subst (λ (it : List Node). Hyphenates p walk it []) (sym e) hyphenates.over in
    subst (Hyphenates p first all) (append-nil written) (h [] last)

pub hyphenates-first : (p : ParParams) (first walk : Walk) (all nodes written : List Node) → walk ≡ first → nodes ≡ all → written ≡ [] → HyphenatesOn p first all walk written nodes
hyphenates-first p first walk all nodes written w n e rest r =
    let here : Hyphenates p first all rest = subst (λ (it : List Node). Hyphenates p first it rest) n (subst (λ (it : Walk). Hyphenates p it nodes rest) w r) in
    subst (Hyphenates p first all) (sym (ap (λ (xs : List Node). xs ++ rest) e)) here
