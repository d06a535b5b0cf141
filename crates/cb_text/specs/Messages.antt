-- The words of the errors.
use Rattle.std.specs.Prelude.{ℕ, List, codes}
use Rattle.cb_text.specs.declared.pool_fault.PoolFault.{PoolFault}
use Rattle.cb_text.specs.declared.pool_fault.PoolFault.TheVariants as pool
use Rattle.cb_text.specs.declared.text.TextFault.{TextFault}
use Rattle.cb_text.specs.declared.text.TextFault.TheVariants as text

abbrev pub text_fault_text : TextFault → List ℕ
text_fault_text text.BadText = codes "not modified UTF-8"
text_fault_text text.OutOfMemory = codes "out of memory"

abbrev pub pool_fault_text : PoolFault → List ℕ
pool_fault_text pool.BadPool = codes "not a constant pool"
pool_fault_text pool.OutOfMemory = codes "out of memory"
