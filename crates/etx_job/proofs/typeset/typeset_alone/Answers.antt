use Rattle.std.proofs.Common.{[], ◌++◌, List, ℕ, refl, sym, ◌∙◌, ap, take, drop, map}
use Rattle.std.specs.Prelude.{string_bytes}
use Rattle.std.proofs.lemmas.List.{append-nil}
use Rattle.etx_outside.specs.Entries.{Shown, shown}
use Rattle.etx_outside.proofs.Fronts.{map_parts, said-shown}
use Rattle.etx_outside.proofs.Histories.{asked_in-shown, files_after-shown}
use Rattle.etx_job.specs.Meaning.{usage, usage_line}
use Rattle.etx_job.proofs.Meanings.{usage_of, usage_meant, meaning_of}
use Rattle.etx_job.proofs.typeset.typeset_alone.Goals as goal

pub returns-in-Ok-None-clause-whole : goal.returns-in-Ok-None-clause-whole
returns-in-Ok-None-clause-whole g c = λ ends a b.
    let is = usage_of c.say_usage.result ends c.say_usage.ensures.refusal in (
      usage,
      usage_meant (map string_bytes c.args.words.now) (g.F.Tree.files c.args.tree.now) (sym c.in-Ok-None.ensures ∙ c.in-Ok-None.field-0-is),
      is,
      refl,
      sym (append-nil _),
      c.say_usage.ensures.said is b,
    )

pub returns-in-Ok-None-clause-front : goal.returns-in-Ok-None-clause-front
returns-in-Ok-None-clause-front g c = λ a b.
    let front = c.say_usage.ensures.front b in
    let n = front.0 in
    let written = shown (take n usage_line) in (
      usage,
      usage_meant (map string_bytes c.args.words.now) (g.F.Tree.files c.args.tree.now) (sym c.in-Ok-None.ensures ∙ c.in-Ok-None.field-0-is),
      (
        written,
        shown (drop n usage_line),
        map_parts (λ b. Shown b) n usage_line,
        sym (files_after-shown (take n usage_line) _),
        sym (append-nil _) ∙ ap (λ (l : List (List ℕ)). g.F.Tree.asked c.args.tree.now ++ l) (sym (asked_in-shown (take n usage_line))),
        front.1 ∙ ap (λ (l : List ℕ). g.T.Terminal.text c.args.terminal.now ++ l) (sym (said-shown (take n usage_line))),
      ),
    )

pub returns-in-Err-clause-front : goal.returns-in-Err-clause-front
returns-in-Err-clause-front g c = λ a b.
    let meaning = meaning_of (map string_bytes c.args.words.now) (g.F.Tree.files c.args.tree.now) in (
      meaning.0,
      meaning.1,
      ([], meaning.0.history, refl, refl, sym (append-nil _), sym (append-nil _)),
    )
