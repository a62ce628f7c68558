use Rattle.std.proofs.Common.{◌∙◌, ◌+◌, ◌-◌, ◌*◌, ◌^◌, ◌&&◌, List, ℕ, length, drop, sym, ap, arith}
use Rattle.std.specs.Prelude.{slice_index_or}
use Rattle.std.specs.List.{list_all}
use Rattle.std.proofs.lemmas.List.{at_drop_more}
use Rattle.etx_job.specs.Words.{is_digit, number_of}
use Rattle.etx_job.proofs.Numbers.{twelve, more_small, more_worth, digit_is}
use Rattle.etx_job.proofs.words.read_number.Goals as goal

pub overflow_mul-number : goal.overflow_mul-number
overflow_mul-number c = omega (arith, twelve c.loop-digit.digit-index (omega (arith, c.loop-digit-test.true, c.requires)), c.loop-digit.invariant.small)

pub overflow_add-number : goal.overflow_add-number
overflow_add-number c = omega (arith, twelve c.loop-digit.digit-index (omega (arith, c.loop-digit-test.true, c.requires)), c.loop-digit.invariant.small, c.if-digit-gt57.false)

pub loop-digit-preserved : goal.loop-digit-preserved
loop-digit-preserved c =
    let digits : List ℕ = c.args.digits.now in
    let i : ℕ = c.loop-digit.digit-index in
    let n : ℕ = c.loop-digit.number in
    let x : ℕ = slice_index_or digits i 0 in
    let rest : List ℕ = drop (i + 1) digits in
    record {
      small = more_small n (x - 48) i c.loop-digit.invariant.small (omega (arith, c.if-digit-gt57.false));
      worth = more_worth n (x - 48) (length rest) (number_of rest)
          ∙ sym (at_drop_more (λ (ds : List ℕ). n * 10 ^ length ds + number_of ds) digits i 0 c.loop-digit-test.true)
          ∙ c.loop-digit.invariant.worth;
      all = sym (at_drop_more (list_all is_digit) digits i 0 c.loop-digit-test.true ∙ ap (λ b. b && list_all is_digit rest) (digit_is x c.if-digit-lt48.false c.if-digit-gt57.false))
          ∙ c.loop-digit.invariant.all;
    }
