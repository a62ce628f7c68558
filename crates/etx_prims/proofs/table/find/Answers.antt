use Rattle.std.proofs.Common.{rules, sym}
use Rattle.std.specs.Ordering.{nat_cmp}
use Rattle.std.specs.Cmp.Lexicographic.{slice_cmp}
use Rattle.std.proofs.lemmas.Cmp.{nat_list_cmp_total}
use Rattle.std.proofs.lemmas.Fn.{always_returns_same}
use Rattle.std.proofs.lemmas.List.Sorted.{searchable_from_sorted}
use Rattle.std.proofs.lemmas.Map.Lookups.{exact_bytes}
use Rattle.etx_prims.specs.Names.{name_of}
use Rattle.etx_prims.proofs.Searching.{All-split}
use Rattle.etx_prims.proofs.table.find.Goals as goal

pub returns-in-Ok-clause-found : goal.returns-in-Ok-clause-found
returns-in-Ok-clause-found c =
    let at = c.in-Ok.ensures.position (λ y. slice_cmp nat_cmp (name_of y) c.args.name.now) (always_returns_same _ _ _ (λ a r g k. (search rules, search rules))) in
    sym (exact_bytes _ _ (at _))

pub returns-in-Err-clause-absent : goal.returns-in-Err-clause-absent
returns-in-Err-clause-absent c =
    let split = c.in-Err.ensures.position (λ y. slice_cmp nat_cmp (name_of y) c.args.name.now) (always_returns_same _ _ _ (λ a r g k. (search rules, search rules))) in
    All-split name_of c.args.name.now c.args.table.now c.in-Err.field-0 (split (searchable_from_sorted nat_list_cmp_total name_of c.args.table.now c.args.name.now c.requires))
