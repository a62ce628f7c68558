use Rattle.std.proofs.Common.{◌≡◌, map}
use Rattle.etx_outside.specs.Memory.{file_map, with_all, no_files}
use Rattle.etx_outside.proofs.memory.MemTree.new.Given as goal

abbrev pub invariant-loop-name : goal.invariant-loop-name
invariant-loop-name l = file_map l.kept.items ≡ with_all (map (λ f. (f.0.items, f.1.items)) l.yielded) no_files
