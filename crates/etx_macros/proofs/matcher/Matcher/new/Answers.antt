-- A matcher that nothing was fed to.
use Rattle.std.proofs.Common.{◌<◌, ◌≡◌, ◌⊎◌, [], List, length, sym, ap, subst}
use Rattle.std.specs.Prelude.{All}
use Rattle.etx_matter.specs.declared.token.Token.{Token}
use Rattle.etx_macros.specs.declared.fault.Fed.TheVariants.{More, Done}
use Rattle.etx_macros.specs.Marks.{IsDelimiter}
use Rattle.etx_macros.specs.declared.progress.Progress.{Progress}
use Rattle.etx_macros.specs.Seen.{state_of}
use Rattle.etx_macros.specs.State.{MatcherState}
use Rattle.etx_macros.specs.Feeding.{started}
use Rattle.etx_macros.specs.Progress.{Means}
use Rattle.etx_macros.proofs.Completions.{starts}
use Rattle.etx_macros.proofs.Steps.{starts_fresh}
use Rattle.etx_macros.proofs.matcher.Matcher.new.Goals as goal

pub returns-clause-starts : goal.returns-clause-starts
unfolding started
returns-clause-starts c =
    let pattern : List (List Token) = c.in_ok-share.field-0 in
    let fresh = c.new-progress.result in
    let same : fresh.pattern ≡ pattern = ap (λ (s : MatcherState). s.parts) c.new-progress.ensures.state in
    let flat = subst (λ (ps : List (List Token)). All IsDelimiter ps) same fresh.flat in
    let some = subst (λ (ps : List (List Token)). 0 < length ps) same c.new-progress.ensures.some in
    subst (λ (p : Progress). Means More (state_of p) [] ⊎ Means Done (state_of p) []) (sym c.in_ok-new.ensures.ok)
    (subst (λ (m : MatcherState). Means More m [] ⊎ Means Done m []) (sym c.new-progress.ensures.state)
    (starts (started pattern c.args.long) flat (starts_fresh pattern c.args.long some)))
