-- What a call that failed tells.
use Rattle.std.proofs.Common.{◌≡◌, ℕ, ◌≤◌, inl, inr, arith}
use Rattle.etx_outside.specs.Faults.{Rose}
use Rattle.etx_outside.specs.Outside.{Faults, NoneFell, WriteRose}
use Rattle.etx_settle.specs.declared.fault.FlushFault.{FlushFault}
use Rattle.etx_settle.specs.declared.fault.FlushFault.TheVariants as flush
use Rattle.etx_job.specs.declared.fault.Fault.TheVariants as fault
use Rattle.etx_job.specs.Fault.{of_flush}

-- a flush reads nothing
pub no_read : (e : FlushFault) → of_flush e ≡ fault.ReadFault → ⊥
no_read flush.WriteFault is = cc
no_read flush.OutOfMemory is = cc

pub write_only : (e : FlushFault) → of_flush e ≡ fault.WriteFault → e ≡ flush.WriteFault
write_only flush.WriteFault is = cc
write_only flush.OutOfMemory is = cc

rose_from : (x y z : ℕ) → x ≤ y → Rose y z → Rose x z
rose_from x y z le rose = omega (arith, le, rose)

-- what rose since a later time rose since an earlier one
pub write_from : (a b c : Faults) → NoneFell a b → WriteRose b c → WriteRose a c
write_from a b c none (inl w) = inl (rose_from a.writes b.writes c.writes none.writes w)
write_from a b c none (inr s) = inr (rose_from a.says b.says c.says none.says s)

pub none_from : (a b c : Faults) → NoneFell a b → NoneFell b c → NoneFell a c
none_from a b c first second = record { reads = omega (arith, first.reads, second.reads); writes = omega (arith, first.writes, second.writes); says = omega (arith, first.says, second.says) }
