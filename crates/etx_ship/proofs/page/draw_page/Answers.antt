use Rattle.std.proofs.Common.{◌≡◌, ◌+◌, ◌∙◌, ap, ap₂, sym, length, arith}
use Rattle.etx_ship.specs.Pages.{page_of, page_items, fresh}
use Rattle.etx_ship.proofs.Marks.{marks_kept}
use Rattle.etx_ship.proofs.Paging.{IsWritten, paged_bytes, paged_behind}
use Rattle.etx_ship.proofs.page.draw_page.Goals as goal

written : (c : goal.After-len) → IsWritten c.args.file.now (page_of c.args.b.now c.args.counts.now c.args.offset.0 c.args.offset.1) c.numbers.result c.loaded.result.now c.used.result.now c.origin.result c.in_ok-pen.pen c.write_page.new.pen
written c = record {
  numbers = c.numbers.ensures.value;
  loaded = c.loaded.ensures.value;
  marked = c.used.ensures.value;
  first = c.in_ok-pen.ensures;
  origin = c.origin.ensures;
  written = c.in_ok-write_page.ensures;
}

pub returns-clause-bytes : goal.returns-clause-bytes
returns-clause-bytes c = c.into_parts-bytes.ensures.out ∙ paged_bytes _ _ _ _ _ _ _ _ (written c)

pub returns-clause-place : goal.returns-clause-place
returns-clause-place c =
    let whole : c.len.result ≡ length c.into_parts-bytes.result.0.items = omega (arith, c.len.ensures, c.into_parts-bytes.result.0.ok.0) in
    ap₂ (λ a b. a + b) c.bytes.ensures.value (whole ∙ ap length (c.into_parts-bytes.ensures.out ∙ paged_bytes _ _ _ _ _ _ _ _ (written c)))

pub returns-clause-used : goal.returns-clause-used
returns-clause-used c = c.into_parts-bytes.ensures.used ∙ ap (λ pen. pen.used) (paged_behind _ _ _ _ _ _ _ _ (written c))

pub returns-clause-marks : goal.returns-clause-marks
returns-clause-marks c =
    let page = page_of c.args.b.now c.args.counts.now c.args.offset.0 c.args.offset.1 in
    ap length (c.into_parts-bytes.ensures.used ∙ ap (λ pen. pen.used) (paged_behind _ _ _ _ _ _ _ _ (written c)))
    ∙ marks_kept c.args.file.now.fonts (page_items page) (fresh c.args.file.now.used)
    ∙ ap length (sym c.used.ensures.value)
    ∙ c.used.ensures.marks

pub returns-clause-most : goal.returns-clause-most
returns-clause-most c = c.into_parts-bytes.ensures.most ∙ ap (λ pen. pen.most) (paged_behind _ _ _ _ _ _ _ _ (written c))
