-- What the breaking of a paragraph gives.
use Rattle.std.specs.Prelude.{◌≡◌, ℕ, Bool, true, false, List, Option, Some, None}
use Rattle.etx_matter.specs.declared.node.Node.{Node}
use Rattle.etx_hyphen.specs.Hyphenations.{Hyphenates, walk_start}
use Rattle.etx_sealed.specs.declared.outcome.Outcome.{Outcome}
use Rattle.etx_sealed.specs.Paragraphs.{Paragraph}
use Rattle.etx_setlines.specs.Settings.{lines_of}
use Rattle.etx_linebreak.specs.Choices.{first_breaks, later_breaks}
use Rattle.etx_linebreak.specs.Told.{errors, reports}

-- the outcome where the lines of a paragraph, or of the same with hyphens, end at these breaks
abbrev pub broken_into : Paragraph → Paragraph → List ℕ → Bool → Outcome
broken_into p set breaks second_pass = record {
  sealed = p;
  lines = lines_of set breaks;
  errors = errors p;
  reports = reports p.params (lines_of set breaks).reports;
  second_pass = second_pass;
}

-- an outcome with hyphens in the words
pub record IsBrokenWithHyphens (p : Paragraph) (it : Outcome) : Type 0 where
  pub list : List Node
  pub hyphenated : Hyphenates p.params (walk_start p.params) p.list list
  pub broken : it ≡ broken_into p (record p { list = list }) (later_breaks (record p { list = list })) true

abbrev pub IsBrokenBy : Paragraph → Outcome → Option (List ℕ) → Type 0
IsBrokenBy p it None = IsBrokenWithHyphens p it
IsBrokenBy p it (Some breaks) = it ≡ broken_into p p breaks false

-- the breaks of the first pass, or else those of the later ones over the list with hyphens
abbrev pub IsBroken : Paragraph → Outcome → Type 0
IsBroken p it = IsBrokenBy p it (first_breaks p)
