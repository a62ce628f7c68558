use Rattle.std.proofs.Common.{◌≡◌, arith}
use Rattle.std.proofs.lemmas.List.{length-map}
use Rattle.etx_undo.specs.History.{place}
use Rattle.etx_undo.proofs.Histories.{at-place}
use Rattle.etx_undo.proofs.store.Store.mark.Goals as goal

pub returns-clause-now : goal.returns-clause-now
returns-clause-now g c = λ q.
    let e : c.len.result ≡ place c.args.self.now = rw (← c.self.view_is, length-map) (omega (arith, c.len.ensures, c.self.inside.saved.ok.0)) in
    rw e (at-place c.args.self.now q)
