-- A word that is found, and one that isn't.
use Rattle.std.proofs.Common.{◌≡◌, ℕ, ◌+◌, ◌<◌, Bool, true, List, ◌∷◌, length, drop, get_or, Option, None, Some, refl, sym, subst, ap, ◌∙◌}
use Rattle.std.specs.Option.{option_map_or}
use Rattle.std.proofs.lemmas.List.{at_drop_more}
use Rattle.etx_matter.specs.declared.node.Node.{Node}
use Rattle.etx_sealed.specs.declared.params.ParParams.{ParParams}
use Rattle.etx_hyphen.specs.declared.letters.Gathered.{Gathered}
use Rattle.etx_hyphen.specs.declared.words.Rewritten.{Rewritten}
use Rattle.etx_hyphen.specs.Words.{FoundWord, taken, IsTaken, ended_by, gathered}
use Rattle.etx_hyphen.specs.Hyphenations.{IsRebuiltWord, IsRewritten}

pub found : (o : Option FoundWord) (it : Rewritten) → IsRewritten o (Some it) → (word : FoundWord) × (o ≡ Some word) × (it.count ≡ word.count) × IsRebuiltWord word it.nodes
found None it h = absurd h
found (Some word) it h = (word, refl, h.0, h.1)

pub not_found : (o : Option FoundWord) → IsRewritten o None → o ≡ None
not_found None h = refl
not_found (Some word) h = absurd h

-- an item is taken, and the word goes on behind it
pub gathered-step : (p : ParParams) (wanted : ℕ) (first word word' : Gathered) (nodes : List Node) (i : ℕ) (node : Node) (is : Bool)
    → gathered p wanted word (drop i nodes) ≡ gathered p wanted first nodes → i < length nodes → node ≡ get_or nodes i node → is ≡ true
    → IsTaken (taken p wanted word node) word word' is
    → (gathered p wanted word' (drop (i + 1) nodes) ≡ gathered p wanted first nodes) × (word'.count ≡ word.count + 1)
unfolding gathered
gathered-step p wanted first word word' nodes i node is h within e so t =
    let both : IsTaken (taken p wanted word node) word word' true = subst (IsTaken (taken p wanted word node) word word') so t in
    let here : drop i nodes ≡ node ∷ drop (i + 1) nodes =
    at_drop_more (λ (xs : List Node). xs) nodes i node within ∙ ap (λ (x : Node). x ∷ drop (i + 1) nodes) (sym e) in
    let on : gathered p wanted word (node ∷ drop (i + 1) nodes) ≡ gathered p wanted word' (drop (i + 1) nodes) =
    ap (λ (o : Option Gathered). option_map_or (λ (more : Gathered). gathered p wanted more (drop (i + 1) nodes)) o (ended_by wanted word node)) both.0 in
    (sym on ∙ sym (ap (gathered p wanted word) here) ∙ h, both.1)
