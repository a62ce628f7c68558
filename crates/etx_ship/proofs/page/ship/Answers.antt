use Rattle.std.proofs.Common.{◌≡◌, ◌+◌, ◌∙◌, ◌++◌, sym, ap, ap₂, subst, arith}
use Rattle.etx_ship.specs.Files.{file_of, postamble}
use Rattle.etx_ship.specs.Pages.{page_of}
use Rattle.etx_ship.specs.Wholes.{bytes_behind}
use Rattle.etx_ship.proofs.Shipping.{full_at_once, shipped_file, shipped_full, shipped_whole}
use Rattle.etx_ship.proofs.page.ship.Goals as goal

pub returns-then-page-gt-MOST_BYTES-clause-answer : goal.returns-then-page-gt-MOST_BYTES-clause-answer
returns-then-page-gt-MOST_BYTES-clause-answer c =
    full_at_once c.args.file.now (page_of c.args.b.now c.args.counts c.args.offset.0 c.args.offset.1) c.in_ok-page.page.place
    (sym (c.if-is_huge.ensures.value c.args.counts)) c.in_ok-page.ensures.place c.if-page-gt-MOST_BYTES.true

pub postamble_of-requires-clause-bytes : goal.postamble_of-requires-clause-bytes
postamble_of-requires-clause-bytes c =
    let e : c.in_ok-numbers.numbers.bytes ≡ c.in_ok-page.page.place = ap (λ n. n.bytes) (c.in_ok-numbers.ensures c.args.counts) in
    omega (arith, e, c.if-page-gt-MOST_BYTES.false)

pub returns-then-page-len-gt-MOST_BYTES-clause-answer : goal.returns-then-page-len-gt-MOST_BYTES-clause-answer
returns-then-page-len-gt-MOST_BYTES-clause-answer c =
    shipped_full c.args.file.now (page_of c.args.b.now c.args.counts c.args.offset.0 c.args.offset.1) c.numbers.result c.in_ok-numbers.numbers c.loaded.result.now
    c.in_ok-page.page.used.items c.in_ok-page.page.place c.in_ok-page.page.most c.len.result c.in_ok-end.end.items
    (record {
      fits = c.if-is_huge.ensures.value c.args.counts;
      numbers = c.numbers.ensures.value;
      loaded = c.loaded.ensures.value;
      used = c.in_ok-page.ensures.used;
      most_is = c.in_ok-page.ensures.most;
      place_is = c.in_ok-page.ensures.place;
      next_is = c.in_ok-numbers.ensures c.args.counts;
      ending_is = subst (λ us. c.in_ok-end.end.items ≡ postamble (file_of c.in_ok-numbers.numbers c.loaded.result.now us)) c.as_slice.ensures.value c.in_ok-end.ensures;
      end_is = omega (arith, c.len.ensures, c.in_ok-end.end.ok.0);
    })
    c.if-page-len-gt-MOST_BYTES.true

pub set-requires-clause-small : goal.set-requires-clause-small
set-requires-clause-small c =
    let e : c.in_ok-numbers.numbers.bytes ≡ c.in_ok-page.page.place = ap (λ n. n.bytes) (c.in_ok-numbers.ensures c.args.counts) in
    omega (arith, e, c.if-page-gt-MOST_BYTES.false)

pub set-requires-clause-none : goal.set-requires-clause-none
set-requires-clause-none c = λ none.
    let e : c.in_ok-numbers.numbers.pages ≡ c.numbers.result.pages + 1 = ap (λ n. n.pages) (c.in_ok-numbers.ensures c.args.counts) in
    absurd (omega (arith, e, none))

pub returns-clause-ok : goal.returns-clause-ok
returns-clause-ok c =
    c.set.ensures ∙ shipped_file c.args.file.now (page_of c.args.b.now c.args.counts c.args.offset.0 c.args.offset.1) c.numbers.result c.in_ok-numbers.numbers c.loaded.result.now
    c.in_ok-page.page.used.items c.in_ok-page.page.place c.in_ok-page.page.most c.len.result c.in_ok-end.end.items
    (record {
      fits = c.if-is_huge.ensures.value c.args.counts;
      numbers = c.numbers.ensures.value;
      loaded = c.loaded.ensures.value;
      used = c.in_ok-page.ensures.used;
      most_is = c.in_ok-page.ensures.most;
      place_is = c.in_ok-page.ensures.place;
      next_is = c.in_ok-numbers.ensures c.args.counts;
      ending_is = subst (λ us. c.in_ok-end.end.items ≡ postamble (file_of c.in_ok-numbers.numbers c.loaded.result.now us)) c.as_slice.ensures.value c.in_ok-end.ensures;
      end_is = omega (arith, c.len.ensures, c.in_ok-end.end.ok.0);
    })

pub returns-clause-whole : goal.returns-clause-whole
unfolding bytes_behind
returns-clause-whole c = λ events.
    ap₂ (λ bytes next. bytes ++ bytes_behind next events) (sym c.in_ok-page.ensures.bytes) (sym (returns-clause-ok c))

pub returns-clause-answer : goal.returns-clause-answer
returns-clause-answer c =
    shipped_whole c.args.file.now (page_of c.args.b.now c.args.counts c.args.offset.0 c.args.offset.1) c.numbers.result c.in_ok-numbers.numbers c.loaded.result.now
    c.in_ok-page.page.used.items c.in_ok-page.page.place c.in_ok-page.page.most c.len.result c.in_ok-end.end.items
    (record {
      fits = c.if-is_huge.ensures.value c.args.counts;
      numbers = c.numbers.ensures.value;
      loaded = c.loaded.ensures.value;
      used = c.in_ok-page.ensures.used;
      most_is = c.in_ok-page.ensures.most;
      place_is = c.in_ok-page.ensures.place;
      next_is = c.in_ok-numbers.ensures c.args.counts;
      ending_is = subst (λ us. c.in_ok-end.end.items ≡ postamble (file_of c.in_ok-numbers.numbers c.loaded.result.now us)) c.as_slice.ensures.value c.in_ok-end.ensures;
      end_is = omega (arith, c.len.ensures, c.in_ok-end.end.ok.0);
    })
    c.if-page-len-gt-MOST_BYTES.false
