use Rattle.std.proofs.Common.{◌≡◌, ◌+◌, ◌*◌, ◌^◌, ◌<◌, length, drop}
use Rattle.std.specs.List.{list_all}
use Rattle.etx_job.specs.Words.{is_digit, number_of}
use Rattle.etx_job.proofs.words.read_number.Given as goal

abbrev pub invariant-loop-digit : goal.invariant-loop-digit
invariant-loop-digit l = record {
  small : l.number < 10 ^ l.digit-index;
  worth : l.number * 10 ^ length (drop l.digit-index l.digits) + number_of (drop l.digit-index l.digits) ≡ number_of l.digits;
  all : list_all is_digit (drop l.digit-index l.digits) ≡ list_all is_digit l.digits;
}
