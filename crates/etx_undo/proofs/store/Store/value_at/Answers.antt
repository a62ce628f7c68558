use Rattle.std.proofs.lemmas.List.{take_rest, drop-map}
use Rattle.etx_undo.proofs.store.Store.value_at.Goals as goal

pub loop-saved-init : goal.loop-saved-init
loop-saved-init g c = rw (← c.self.view_is, c.deref.ensures.value, take_rest, drop-map)
