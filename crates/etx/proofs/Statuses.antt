-- What an exit status says of the status.
use Rattle.std.proofs.Common.{◌≡◌, ◌<◌, refl, arith}
use Rattle.etx_matter.specs.Ends.{exit_status_of}
use Rattle.etx_matter.specs.declared.end.Status.{Status}
use Rattle.etx_matter.specs.declared.end.Status.TheVariants.{Clean, Errors, Stopped, Spent, Usage, ReadFault, WriteFault, OutOfMemory}
use Rattle.etx_job.specs.Meaning.{IsEnding}

pub ending_of : (s : Status) → exit_status_of s < 5 → IsEnding s
ending_of Clean lt = tt
ending_of Errors lt = tt
ending_of Stopped lt = tt
ending_of Spent lt = tt
ending_of Usage lt = tt
ending_of ReadFault lt = absurd (omega (arith, lt))
ending_of WriteFault lt = absurd (omega (arith, lt))
ending_of OutOfMemory lt = absurd (omega (arith, lt))

pub ending_below : (s : Status) → IsEnding s → exit_status_of s < 5
ending_below Clean ends = omega arith
ending_below Errors ends = omega arith
ending_below Stopped ends = omega arith
ending_below Spent ends = omega arith
ending_below Usage ends = omega arith
ending_below ReadFault ends = absurd ends
ending_below WriteFault ends = absurd ends
ending_below OutOfMemory ends = absurd ends

pub usage_of : (s : Status) → exit_status_of s ≡ 4 → s ≡ Usage
usage_of Clean is = absurd (omega (arith, is))
usage_of Errors is = absurd (omega (arith, is))
usage_of Stopped is = absurd (omega (arith, is))
usage_of Spent is = absurd (omega (arith, is))
usage_of Usage is = refl
usage_of ReadFault is = absurd (omega (arith, is))
usage_of WriteFault is = absurd (omega (arith, is))
usage_of OutOfMemory is = absurd (omega (arith, is))

pub read_fault_of : (s : Status) → exit_status_of s ≡ 5 → s ≡ ReadFault
read_fault_of Clean is = absurd (omega (arith, is))
read_fault_of Errors is = absurd (omega (arith, is))
read_fault_of Stopped is = absurd (omega (arith, is))
read_fault_of Spent is = absurd (omega (arith, is))
read_fault_of Usage is = absurd (omega (arith, is))
read_fault_of ReadFault is = refl
read_fault_of WriteFault is = absurd (omega (arith, is))
read_fault_of OutOfMemory is = absurd (omega (arith, is))

pub write_fault_of : (s : Status) → exit_status_of s ≡ 6 → s ≡ WriteFault
write_fault_of Clean is = absurd (omega (arith, is))
write_fault_of Errors is = absurd (omega (arith, is))
write_fault_of Stopped is = absurd (omega (arith, is))
write_fault_of Spent is = absurd (omega (arith, is))
write_fault_of Usage is = absurd (omega (arith, is))
write_fault_of ReadFault is = absurd (omega (arith, is))
write_fault_of WriteFault is = refl
write_fault_of OutOfMemory is = absurd (omega (arith, is))
