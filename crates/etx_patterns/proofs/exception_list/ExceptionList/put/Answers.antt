use Rattle.std.proofs.Common.{◌≡◌, [], ap}
use Rattle.std.proofs.lemmas.List.{get_or_read}
use Rattle.etx_patterns.specs.Tables.{exception_path, IsException}
use Rattle.etx_patterns.proofs.Keeping.{exception_replaced, put_replaces}
use Rattle.etx_patterns.proofs.Refusals.{few_by}
use Rattle.etx_patterns.proofs.exception_list.ExceptionList.put.Goals as goal

pub invariant_of-self : goal.invariant_of-self
invariant_of-self c =
    let found : IsException c.self.inside.exceptions.items c.args.path.now c.in-Some.entry = rw (← c.self.view_is) at c.in-Some.ensures in
    let read = get_or_read c.self.inside.exceptions.items c.in-Some.entry c.index_mut.result.now found.within c.index_mut.ensures.value (record { language = 0; word = []; places = [] }) in
    exception_replaced _ c.self.inside.exceptions.items c.in-Some.entry _ c.self.invariant (ap exception_path read)

pub returns-in-Some-clause-ok : goal.returns-in-Some-clause-ok
returns-in-Some-clause-ok c =
    let found : IsException c.self.inside.exceptions.items c.args.path.now c.in-Some.entry = rw (← c.self.view_is) at c.in-Some.ensures in
    let read = get_or_read c.self.inside.exceptions.items c.in-Some.entry c.index_mut.result.now found.within c.index_mut.ensures.value (record { language = 0; word = []; places = [] }) in
    rw (← c.self.view_is)
    (put_replaces c.self.inside.exceptions.items c.args.path.now c.in-Some.entry c.args.language c.args.word.now c.args.places.now c.in_ok-listed.listed c.index_mut.result.now
    found c.requires.path read c.in_ok-listed.ensures)

pub push-requires-clause-room : goal.push-requires-clause-room
push-requires-clause-room c = few_by c.args.self.now c.args.path.now c.in-None.ensures c.requires.room
