-- What a paragraph is broken into, by its passes.
use Rattle.std.proofs.Common.{◌≡◌, ℕ, true, false, List, Option, Some, None, subst}
use Rattle.etx_matter.specs.declared.node.Node.{Node}
use Rattle.etx_hyphen.specs.Hyphenations.{Hyphenates, walk_start}
use Rattle.etx_sealed.specs.declared.outcome.Outcome.{Outcome}
use Rattle.etx_sealed.specs.Paragraphs.{Paragraph}
use Rattle.etx_linebreak.specs.Choices.{first_breaks, later_breaks}
use Rattle.etx_linebreak.specs.Outcomes.{broken_into, IsBroken, IsBrokenBy}

pub by_first : (p : Paragraph) (it : Outcome) (breaks : List ℕ) → Some breaks ≡ first_breaks p → it ≡ broken_into p p breaks false → IsBroken p it
by_first p it breaks e h = subst (λ (o : Option (List ℕ)). IsBrokenBy p it o) e h

pub by_later : (p : Paragraph) (it : Outcome) (list : List Node) → None ≡ first_breaks p → Hyphenates p.params (walk_start p.params) p.list list
    → it ≡ broken_into p (record p { list = list }) (later_breaks (record p { list = list })) true → IsBroken p it
by_later p it list e hyphenated broken = subst (λ (o : Option (List ℕ)). IsBrokenBy p it o) e (record { list = list; hyphenated = hyphenated; broken = broken })
