use Rattle.std.proofs.Common.{rules}
use Rattle.std.proofs.lemmas.Slice.Eq.{ends_is}
use Rattle.etx_macros.proofs.Comparing.{same_test, ends_there, ends_back}
use Rattle.etx_macros.proofs.mark.ends_with.Goals as goal

pub returns : goal.returns
returns c =
    let e = ends_is (λ a b. search rules) _ _ _ c.ends_with.ensures.value in
    same_test _ _ (λ h. ends_back c.args.text.now c.args.end.now (_, e.0 h)) (λ h. let w = ends_there c.args.text.now c.args.end.now h in e.1 w.0 w.1)
