-- Why a job was cut off, by what stopped a flush.
use Rattle.etx_settle.specs.declared.fault.FlushFault.{FlushFault}
use Rattle.etx_settle.specs.declared.fault.FlushFault.TheVariants as flush
use Rattle.etx_job.specs.declared.fault.Fault.{Fault}
use Rattle.etx_job.specs.declared.fault.Fault.TheVariants.{WriteFault, OutOfMemory}

abbrev pub of_flush : FlushFault → Fault
of_flush flush.WriteFault = WriteFault
of_flush flush.OutOfMemory = OutOfMemory
