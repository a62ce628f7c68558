use Rattle.std.proofs.Common.{◌∙◌, ap}
use Rattle.etx_outside.specs.Memory.{with_file, no_files}
use Rattle.etx_outside.proofs.FileMaps.{given_push}
use Rattle.etx_outside.proofs.memory.MemTree.new.Goals as goal

pub loop-name-preserved : goal.loop-name-preserved
loop-name-preserved c =
    c.in_ok-put.ensures.ok
    ∙ ap (with_file c.as_slice.result.now c.in_ok-from_vec.field-0) c.loop-name.invariant
    ∙ given_push (λ v. v.items) c.loop-name.yielded c.in-Some.name c.in-Some.content c.as_slice.result.now c.in_ok-from_vec.field-0 no_files c.as_slice.ensures.value c.in_ok-from_vec.ensures.ok
