use Rattle.std.proofs.Common.{◌≡◌, ◌-◌, ◌<◌, length, sym, ◌∙◌, arith}
use Rattle.std.proofs.lemmas.List.{get_or_read}
use Rattle.etx_tfm.proofs.Turned.{end-turned, end-untouched}
use Rattle.etx_tfm.proofs.rest.Rest.is_end.Goals as goal

pub returns-then-count-gt0 : goal.returns-then-count-gt0
returns-then-count-gt0 c =
    let counted : c.len-count.result ≡ length c.self.inside.touched.items = omega (arith, c.self.inside.touched.ok.0, c.len-count.ensures) in
    let some : 0 < c.len-count.result = c.if-count-gt0.true in
    let within : c.len-count.result - 1 < length c.self.inside.touched.items = omega (arith, counted, some) in
    let read = get_or_read c.self.inside.touched.items (c.len-count.result - 1) c.index.result.now within c.index.ensures c.index.result.now in
    rw (← c.self.view_is) (c.is_right_edge.ensures ∙ sym (end-turned c.self.inside.touched.items c.self.inside.coming c.index.result.now c.len-count.result counted some read))

pub returns : goal.returns
returns c =
    let counted : c.len-count.result ≡ length c.self.inside.touched.items = omega (arith, c.self.inside.touched.ok.0, c.len-count.ensures) in
    let none : length c.self.inside.touched.items ≡ 0 = omega (arith, counted, c.if-count-gt0.false) in
    rw (← c.self.view_is) (c.is_end.ensures ∙ sym (end-untouched c.self.inside.touched.items c.self.inside.coming none))
