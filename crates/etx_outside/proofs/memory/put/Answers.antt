use Rattle.std.proofs.Common.{◌∙◌, ap, List, ℕ, ◌++◌, ◌∷◌, []}
use Rattle.etx_outside.specs.Memory.{file_map}
use Rattle.etx_outside.proofs.FileMaps.{written, pushed}
use Rattle.etx_outside.proofs.memory.put.Goals as goal

pub returns-in-Some-clause-ok : goal.returns-in-Some-clause-ok
returns-in-Some-clause-ok c =
    written c.args.files.now.items c.deref.result.now c.args.name.now c.in-Some.i c.index_mut.result.now c.args.content c.deref.ensures.value c.in-Some.ensures c.index_mut.ensures.value

pub returns-in_ok-push-in-None-clause-ok : goal.returns-in_ok-push-in-None-clause-ok
returns-in_ok-push-in-None-clause-ok c =
    ap file_map c.in_ok-push-in-None.ensures.items
    ∙ ap (λ (name : List ℕ). file_map (c.args.files.now.items ++ (name, c.args.content) ∷ [])) c.in_ok-from_slice-in-None.ensures
    ∙ pushed c.args.files.now.items c.deref.result.now c.args.name.now c.args.content c.deref.ensures.value c.in-None.ensures
