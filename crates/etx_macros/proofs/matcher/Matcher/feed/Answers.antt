-- What is said of the tokens is true.
use Rattle.std.proofs.Common.{◌≡◌, ◌++◌, ◌∷◌, [], List, subst}
use Rattle.std.specs.Prelude.{IfOk}
use Rattle.etx_matter.specs.declared.token.Token.{Token}
use Rattle.etx_macros.specs.Feeding.{fed_of, Makes}
use Rattle.etx_macros.specs.declared.progress.Progress.{Progress}
use Rattle.etx_macros.specs.Seen.{state_of}
use Rattle.etx_macros.specs.Progress.{IsAfter, Means, Stands}
use Rattle.etx_macros.proofs.Steps.{if_ok_each}
use Rattle.etx_macros.proofs.Feeding.{makes_means, makes_stands}
use Rattle.etx_macros.proofs.matcher.Matcher.feed.Goals as goal

pub returns-clause-means : goal.returns-clause-means
returns-clause-means c =
    let m = state_of c.self.inside.progress.value in
    let new = state_of c.feed.new.self in
    let makes = subst (λ (p : Progress). IfOk c.feed.result (λ fed. Makes (fed_of (state_of p) c.args.token) fed new)) c.deref_mut.ensures.value c.feed.ensures.makes in
    let parts = subst (λ (p : Progress). new.parts ≡ p.pattern) c.deref_mut.ensures.value c.feed.ensures.keeps.parts_is in
    rw (← c.self.view_is)
    (if_ok_each c.feed.result (λ fed. Makes (fed_of m c.args.token) fed new) (λ fed. (call : List Token) → IsAfter m call → Means fed new (call ++ c.args.token ∷ []))
    (λ fed x. λ call h. makes_means m new c.args.token fed call c.self.inside.progress.value.flat x parts h) makes)

pub returns-clause-stands : goal.returns-clause-stands
returns-clause-stands c =
    let m = state_of c.self.inside.progress.value in
    let new = state_of c.feed.new.self in
    let makes = subst (λ (p : Progress). IfOk c.feed.result (λ fed. Makes (fed_of (state_of p) c.args.token) fed new)) c.deref_mut.ensures.value c.feed.ensures.makes in
    if_ok_each c.feed.result (λ fed. Makes (fed_of m c.args.token) fed new) (λ fed. Stands fed new) (λ fed x. makes_stands m new c.args.token fed x) makes
