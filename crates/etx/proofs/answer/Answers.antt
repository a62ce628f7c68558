use Rattle.std.proofs.Common.{◌≡◌, ◌<◌, [], List, ℕ, map, refl, sym, ◌∙◌, ap, subst, arith}
use Rattle.std.specs.Prelude.{string_bytes}
use Rattle.std.proofs.lemmas.List.{append-nil}
use Rattle.etx_matter.specs.Ends.{exit_status_of}
use Rattle.etx_job.specs.Meaning.{IsMeaning}
use Rattle.etx_job.proofs.Meanings.{meaning_of}
use Rattle.etx.specs.Words.{words_of}
use Rattle.etx.proofs.Statuses.{ending_of}
use Rattle.etx.proofs.answer.Goals as goal

pub returns-in-Ok-clause-whole : goal.returns-in-Ok-clause-whole
returns-in-Ok-clause-whole g c = λ below a b.
    let low : exit_status_of c.typeset_alone.result < 5 = omega (arith, below, c.exit_code.ensures) in
    let words : map string_bytes c.deref.result.now ≡ words_of c.args.args = ap (map string_bytes) (c.deref.ensures.value ∙ c.in-Ok.ensures) in
    let whole = c.typeset_alone.ensures.whole (ending_of c.typeset_alone.result low) a b in (
      whole.0,
      subst (λ (ws : List (List ℕ)). IsMeaning ws (g.F.Tree.files c.args.tree.now) whole.0) words whole.1,
      c.exit_code.ensures ∙ ap exit_status_of whole.2,
      whole.3,
      whole.4,
      whole.5,
    )

pub returns-in-Err-clause-front : goal.returns-in-Err-clause-front
returns-in-Err-clause-front g c = λ a b.
    let meaning = meaning_of (words_of c.args.args) (g.F.Tree.files c.args.tree.now) in (
      meaning.0,
      meaning.1,
      ([], meaning.0.history, refl, refl, sym (append-nil _), sym (append-nil _)),
    )
