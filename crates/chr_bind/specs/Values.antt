-- Values and faults, as the definitions have them.
use Rattle.std.specs.Prelude.{ℤ, Result, Ok, Err, Option, Some, None}
use Rattle.chr_semantics.specs.Value as semantics
use Rattle.chr_semantics.specs.Value.{Value, unbound, not_number, overflow, zero_divisor}
use Rattle.chr_bind.specs.declared.fault.Fault.{Fault}
use Rattle.chr_bind.specs.declared.fault.Fault.TheVariants.{Unbound, NotNumber, Overflow, ZeroDivisor}

abbrev pub fault_view : Fault → semantics.Fault
fault_view Unbound = unbound
fault_view NotNumber = not_number
fault_view Overflow = overflow
fault_view ZeroDivisor = zero_divisor

abbrev pub value_view : Result ℤ Fault → Value
value_view (Ok z) = Ok z
value_view (Err e) = Err (fault_view e)

-- a number, or that there was none in range
abbrev pub checked_value : Option ℤ → Value
checked_value None = Err overflow
checked_value (Some z) = Ok z
