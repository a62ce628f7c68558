use Rattle.std.proofs.Common.{◌≡◌, ◌-◌, ◌<◌, ◌≤◌, ℕ, suc, List, length, ap, sym, ◌∙◌, arith, take, reverse}
use Rattle.std.proofs.Math.Seq.{take-length}
use Rattle.std.proofs.lemmas.Option.{get_or_from_slice_get}
use Rattle.etx_input.specs.declared.level.Level.{Level}
use Rattle.etx_input.specs.Levels.{line_in, line_number}
use Rattle.etx_input.specs.Marks.{input_of}
use Rattle.etx_input.proofs.Ends.{line-file, line-list}
use Rattle.etx_input.proofs.levels.Levels.line.Goals as goal

pub loop-at-init : goal.loop-at-init
loop-at-init c =
    let xs = c.args.self.now.levels.items in (
      omega (arith, c.len-at.ensures),
      ap (λ (k : ℕ). line_in (reverse (take k xs)) c.args.self.now.left) c.len-at.ensures ∙ ap (λ (ls : List Level). line_in (reverse ls) c.args.self.now.left) (take-length xs),
    )

pub get-requires : goal.get-requires
get-requires c = omega (arith, c.loop-at-test.true, c.loop-at.invariant.0)

pub loop-at-preserved : goal.loop-at-preserved
loop-at-preserved c =
    let xs = c.args.self.now.levels.items in
    let left = c.args.self.now.left in
    let n = c.loop-at.at - 1 in
    let one_more : suc n ≡ c.loop-at.at = omega (arith, c.loop-at-test.true) in (
      omega (arith, c.loop-at.invariant.0),
      sym (line-list xs n left c.get.result.now c.in-List.field-0 (omega (arith, c.loop-at-test.true, c.loop-at.invariant.0)) (sym (get_or_from_slice_get xs n c.get.result.now c.get.result.now c.get.ensures)) c.in-List.is)
          ∙ ap (λ (k : ℕ). line_in (reverse (take k xs)) left) one_more
          ∙ c.loop-at.invariant.1,
    )

pub returns-in-File : goal.returns-in-File
unfolding line_number input_of
returns-in-File c =
    let xs = c.args.self.now.levels.items in
    let left = c.args.self.now.left in
    let n = c.loop-at.at - 1 in
    let one_more : suc n ≡ c.loop-at.at = omega (arith, c.loop-at-test.true) in
    c.number.ensures
    ∙ sym (line-file xs n left c.get.result.now c.in-File.file (omega (arith, c.loop-at-test.true, c.loop-at.invariant.0)) (sym (get_or_from_slice_get xs n c.get.result.now c.get.result.now c.get.ensures)) c.in-File.is)
    ∙ ap (λ (k : ℕ). line_in (reverse (take k xs)) left) one_more
    ∙ c.loop-at.invariant.1

pub returns : goal.returns
unfolding line_number input_of
returns c =
    let at_end : 0 ≡ c.loop-at.at = omega (arith, c.loop-at-test.false) in
    ap (λ (k : ℕ). line_in (reverse (take k c.args.self.now.levels.items)) c.args.self.now.left) at_end ∙ c.loop-at.invariant.1
