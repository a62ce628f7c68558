use Rattle.std.proofs.Common.{length, ap, ◌∙◌, arith}
use Rattle.std.proofs.lemmas.List.{get_or_read}
use Rattle.etx_sealed.specs.Stops.{stops}
use Rattle.etx_linebreak.specs.Passes.{PassState}
use Rattle.etx_linebreak.proofs.Stopping.{stop_found, stop_missing, some_stops}
use Rattle.etx_linebreak.proofs.pass.Pass.stop.Goals as goal

pub returns-in-Some : goal.returns-in-Some
returns-in-Some c =
    stop_found c.args.self.now c.deref.result.now c.args.number c.in-Some.stop.now
    (c.deref.ensures.value ∙ c.self.invariant ∙ ap (λ (it : PassState). stops it.paragraph) c.self.view_is)
    c.in-Some.ensures.lookup.0 c.in-Some.ensures.lookup.1

pub index-requires : goal.index-requires
index-requires c = omega (arith, c.self.inside.stops.ok.0, some_stops c.self.inside.sealed c.self.inside.stops.items c.self.invariant)

pub returns-in-None : goal.returns-in-None
returns-in-None c =
    let some = some_stops c.self.inside.sealed c.self.inside.stops.items c.self.invariant in
    stop_missing c.args.self.now c.self.inside.stops.items c.args.number c.index.result.now c.index.result.now
    (c.self.invariant ∙ ap (λ (it : PassState). stops it.paragraph) c.self.view_is)
    (omega (arith, c.in-None.ensures.lookup.3, ap length c.deref.ensures.value))
    (get_or_read c.self.inside.stops.items 0 c.index.result.now some c.index.ensures c.index.result.now)
