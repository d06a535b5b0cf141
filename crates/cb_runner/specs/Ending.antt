-- How a call ends, and the status that tells it.
use Rattle.std.specs.Prelude.{pos, ℕ, List, [], Option, None, Some, unsigned_abs}
use Rattle.std.specs.Int.{int_rem_euclid}
use Rattle.std.specs.Prelude.{codes}
use Rattle.cb_collector.specs.Known.{no_tally}
use Rattle.cb_collector.specs.declared.tally.Tally.{Tally}
use Rattle.cb_partheap.specs.Heaps.{Heap}
use Rattle.cb_runner.specs.declared.cause.Cause.{Cause}
use Rattle.cb_runner.specs.declared.cause.Cause.TheVariants.{BudgetSpent, ErrFault, Exited, FolderFault, HeapFull, InputFault, OutOfMemory, OutputFault, Refused, Returned, Uncaught, Usage}
use Rattle.cb_runner.specs.Messages.{Reason, line, refusal_text}

-- the exit status of each cause; that of a program that called `exit` is its argument modulo 256
abbrev pub status_of : Cause → ℕ
status_of Returned = 0
status_of (Exited status) = unsigned_abs (int_rem_euclid status (pos 256))
status_of (Uncaught class) = 1
status_of OutOfMemory = 119
status_of Usage = 120
status_of Refused = 121
status_of BudgetSpent = 122
status_of HeapFull = 123
status_of FolderFault = 124
status_of InputFault = 125
status_of OutputFault = 126
status_of ErrFault = 127

-- what a run leaves: what its collections came to, and its heap. Where none has begun there is nothing
pub record Remains : Type 0 where
  pub tally : Tally
  pub heap : Option Heap

abbrev pub nothing : Remains
nothing = record { tally = no_tally; heap = None }

-- how a call ends: its cause, the bytes that it writes to the output and to the error output, how many of the input's it reads, and what it leaves
pub record Ending : Type 0 where
  pub cause : Cause
  pub out : List ℕ
  pub err : List ℕ
  pub read : ℕ
  pub remains : Remains

-- that of a run, with these last words
abbrev pub told : Cause → List ℕ → List ℕ → ℕ → Remains → Ending
told cause out err read remains = record { cause = cause; out = out; err = err; read = read; remains = remains }

-- one that has printed nothing, with this last line
abbrev pub without_output : Cause → List ℕ → ℕ → Ending
without_output cause text read = record { cause = cause; out = []; err = line text; read = read; remains = nothing }

abbrev pub usage : Ending
usage = without_output Usage (codes "these words are no command") 0

abbrev pub refused : Reason → ℕ → Ending
refused reason read = without_output Refused (refusal_text reason) read

abbrev pub out_of_memory : ℕ → Ending
out_of_memory read = without_output OutOfMemory (codes "out of memory") read

abbrev pub folder_fault : Ending
folder_fault = without_output FolderFault (codes "folder fault") 0

abbrev pub input_fault : ℕ → Ending
input_fault read = without_output InputFault (codes "input fault") read

-- the command came to its end
abbrev pub returned : List ℕ → ℕ → Ending
returned out read = record { cause = Returned; out = out; err = []; read = read; remains = nothing }

-- a write of the output failed
abbrev pub output_fault : List ℕ → ℕ → Ending
output_fault out read = record { cause = OutputFault; out = out; err = line (codes "output fault"); read = read; remains = nothing }

-- and so of a run, or a call of the input failed behind what was printed
abbrev pub run_output_fault : List ℕ → ℕ → Remains → Ending
run_output_fault out read remains = told OutputFault out (line (codes "output fault")) read remains

abbrev pub run_input_fault : List ℕ → ℕ → Remains → Ending
run_input_fault out read remains = told InputFault out (line (codes "input fault")) read remains
