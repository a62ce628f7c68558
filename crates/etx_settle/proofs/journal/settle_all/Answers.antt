use Rattle.std.proofs.Common.{◌≡◌, ◌+◌, ◌∷◌, ◌++◌, List, drop, refl, sym, ◌∙◌, ap, subst, rules}
use Rattle.std.proofs.lemmas.List.{drop_more}
use Rattle.etx_outside.specs.Entries.{History}
use Rattle.etx_outside.specs.Outside.{outside_of}
use Rattle.etx_settle.specs.Deeds.{PenState, deed_entries, entries, pen_after, pen_after_all}
use Rattle.etx_matter.specs.declared.deed.Deed.{Deed}
use Rattle.etx_settle.proofs.Flushing.{Settling, settling_starts, settling_goes_on, settling_stops}
use Rattle.etx_settle.proofs.journal.settle_all.Goals as goal

pub loop-deed-init : goal.loop-deed-init
loop-deed-init g c = record {
  pen = refl;
  opened = c.requires;
  later = search rules;
  steady = λ _ _. refl;
  written = λ _ _. settling_starts _ _;
}

pub returns-in_err-settle-clause-front : goal.returns-in_err-settle-clause-front
returns-in_err-settle-clause-front g c = λ a b.
    let ds : List Deed = c.args.deeds.now in
    let i = c.loop-deed.deed-index in
    let d : Deed = c.deed-item.result in
    let pen : PenState = c.loop-deed.pen in
    let rest = drop (i + 1) ds in
    let next : drop i ds ≡ d ∷ rest = drop_more ds i d c.loop-deed-test.true ∙ ap (λ (e : Deed). e ∷ rest) (sym c.deed-item.is) in
    settling_stops
    (deed_entries pen d)
    (entries (pen_after pen d) rest)
    (c.loop-deed.invariant.written a b)
    (ap (entries pen) next)
    (c.in_err-settle.ensures.front a b)

pub loop-deed-preserved : goal.loop-deed-preserved
loop-deed-preserved g c =
    let ds : List Deed = c.args.deeds.now in
    let i = c.loop-deed.deed-index in
    let d : Deed = c.deed-item.result in
    let pen : PenState = c.loop-deed.pen in
    let rest = drop (i + 1) ds in
    let next : drop i ds ≡ d ∷ rest = drop_more ds i d c.loop-deed-test.true ∙ ap (λ (e : Deed). e ∷ rest) (sym c.deed-item.is) in
    record {
      pen = ap (λ (p : PenState). pen_after_all p rest) c.in_ok-settle.ensures.pen ∙ sym (ap (pen_after_all pen) next) ∙ c.loop-deed.invariant.pen;
      opened = c.in_ok-settle.ensures.open;
      later = search rules;
      steady = λ a b. c.in_ok-settle.ensures.steady a b ∙ c.loop-deed.invariant.steady a b;
      written = λ a b. settling_goes_on
          (deed_entries pen d)
          (entries c.settle.new.self rest)
          (c.loop-deed.invariant.written a b)
          (ap (entries pen) next ∙ ap (λ (p : PenState). deed_entries pen d ++ entries p rest) (sym c.in_ok-settle.ensures.pen))
          (c.in_ok-settle.ensures.ok a b);
    }
