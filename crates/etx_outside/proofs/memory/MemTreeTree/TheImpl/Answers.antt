use Rattle.std.proofs.Common.{rules}
use Rattle.etx_outside.proofs.MemTrees.{counts_stay, created, opened, not_created, create_keeps, appended, not_appended, append_keeps}
use Rattle.etx_outside.proofs.memory.MemTreeTree.TheImpl.Goals as goal

pub create-tells : goal.create-tells
create-tells c =
    let told = c.ensures in
    record {
      ok = created c.args.self.now c.new.self.now c.args.name.now c.result told.created;
      err = not_created c.args.self.now c.new.self.now c.args.name.now c.result told.failed told.out_of_memory;
      asked = search rules;
      opened = opened c.args.self.now c.new.self.now c.args.name.now c.result told.created;
      «open» = create_keeps c.args.self.now c.new.self.now c.args.name.now c.result told.created told.failed told.out_of_memory;
      later = search rules;
      steady = counts_stay c.args.self.now c.new.self.now _ c.result told.created;
      cause = search rules;
    }

pub append-tells : goal.append-tells
append-tells c =
    let told = c.ensures in
    record {
      ok = appended c.args.self.now c.new.self.now c.args.name.now c.requires c.args.bytes.now c.result told.appended;
      err = not_appended c.args.self.now c.new.self.now c.args.name.now c.requires c.args.bytes.now c.result told.failed told.out_of_memory;
      asked = search rules;
      «open» = append_keeps c.args.self.now c.new.self.now c.args.name.now c.requires c.args.bytes.now c.result told.appended told.failed told.out_of_memory;
      later = search rules;
      steady = counts_stay c.args.self.now c.new.self.now _ c.result told.appended;
      cause = search rules;
    }
