-- What a run of a program comes to: the machine that never frees, and beside it a store of so many blocks that collects.
use Rattle.std.specs.Prelude.{ℤ, ◌≡◌, ◌⊎◌, ◌<◌, ◌≤◌, ◌++◌, ◌+◌, ℕ, true, false, List, [], Option, None, Some, codes, length, map, replicate}
use Rattle.std.specs.Fmt.{decimal}
use Rattle.cb_act.specs.Turning.{Moment, TurnRefused}
use Rattle.cb_beside.specs.Asking.{asks_input}
use Rattle.cb_collector.specs.Known.{Config, Known, facts_at_first, no_tally}
use Rattle.cb_collector.specs.Policy.{rules_of}
use Rattle.cb_heap.specs.declared.no_room.NoRoom.{NoRoom}
use Rattle.cb_heap.specs.declared.no_room.NoRoom.TheVariants.{Full, ReportFault, OutOfMemory as NoMemory}
use Rattle.cb_interp.specs.Reading.{Fails, IsGiven}
use Rattle.cb_interp.specs.Running.{Prints, Went}
use Rattle.cb_interp.specs.Starting.{BeginsWith, RefusesStart}
use Rattle.cb_interp.specs.Texts.{exception_units}
use Rattle.cb_io.specs.Sink.{IsProperPrefix}
use Rattle.cb_io.specs.Utf8.{utf8}
use Rattle.cb_link.specs.Having.{site_kinds}
use Rattle.cb_link.specs.Program.{Linked}
use Rattle.cb_machine.specs.Machine.{Machine}
use Rattle.cb_machine.specs.Runs.{at, outcome}
use Rattle.cb_machine.specs.Starting.{empty_state}
use Rattle.cb_machine.specs.Steps.{request, step}
use Rattle.cb_machine.specs.declared.outcome.Outcome.TheVariants as outcomes
use Rattle.cb_partheap.specs.Heaps.{Heap, objects_in}
use Rattle.cb_plain.specs.Estimates.{all_code}
use Rattle.cb_plain.specs.State.{Object, State}
use Rattle.cb_plain.specs.Updates.{object_at, with_input}
use Rattle.cb_runner.specs.declared.cause.Cause.TheVariants as causes
use Rattle.cb_runner.specs.Ending.{Ending, Remains, run_input_fault, run_output_fault, told}
use Rattle.cb_runner.specs.Messages.{line}
use Rattle.cb_runner.specs.Words.{Run, text_units}

-- the arguments as texts
abbrev pub texts_of : Run → List (List ℕ)
texts_of run = map text_units run.arguments

-- the machine of a program, and the state with which it starts: states have no input of their own, for a step that asks it is given what calls gave
abbrev pub machine_of : Run → Linked → Machine
machine_of run program = record { program = program; frames = run.frames }

abbrev pub start_of : Run → Linked → State
start_of run program = at (machine_of run program) (texts_of run) [] 0

-- the last lines of runs that don't return
abbrev pub exception_line : List ℕ → List ℕ
exception_line units = codes "Exception in thread \"main\" " ++ utf8 units ++ codes "\n"

abbrev pub spent_line : ℕ → List ℕ
spent_line steps = line (codes "budget spent after " ++ decimal steps ++ codes " steps")

abbrev pub full_line : NoRoom → List ℕ
full_line (Full live asked limit) =
    line (codes "heap full " ++ decimal live ++ codes " live " ++ decimal asked ++ codes " asked " ++ decimal limit ++ codes " allowed")
full_line ReportFault = []
full_line NoMemory = []

-- the store has so many blocks, and all objects lie in one part. Where there is no room all is collected; nothing is reported
abbrev pub config_of : Run → Linked → Config
config_of run program =
    record { parts = 1; site_parts = replicate (length (site_kinds program)) 0; edges = []; blocks = run.blocks; every = None; code = all_code; reports = false }

-- what it knows before anything was placed
abbrev pub known_first : Run → Linked → Known
known_first run program = record { config = config_of run program; facts = facts_at_first 1; asked = 0; collections = 0; tally = no_tally; told = None }

-- so many steps of the machine that never frees: the bytes that they read, the state to which they come, and the input that is left. A step that
-- asks the input is given what calls gave, and leaves what it doesn't take
pub data Reaches {In : Type 0} (left : In → Option (List ℕ)) (gave : In → ℕ → List ℕ → In → Type 0) (machine : Machine) (start : State) (first : In)
    : ℕ → List ℕ → State → In → Type 0 where
  Begins : Reaches left gave machine start first 0 [] start first
  Goes : (count : ℕ) (read : List ℕ) (state next : State) (mid : In) → Reaches left gave machine start first count read state mid → asks_input machine.program state ≡ false
      → step machine state ≡ Some next → Reaches left gave machine start first (count + 1) read next mid
  Reads : (count : ℕ) (read more rest : List ℕ) (state next : State) (mid behind : In) → Reaches left gave machine start first count read state mid → asks_input machine.program state ≡ true
      → IsGiven left gave mid behind more rest → step machine (with_input state (more ++ rest)) ≡ Some (with_input next rest) → next.input ≡ []
      → Reaches left gave machine start first (count + 1) (read ++ more) next behind

-- the collecting run: the store has made room for what is there at the start, and before each step for what that places, by its rules, and collected
-- where it had to. So many steps come to a moment, which has what is kept of the state of the machine that never frees, and what the store knows
pub record ComesTo {In : Type 0} (left : In → Option (List ℕ)) (gave : In → ℕ → List ℕ → In → Type 0) (run : Run) (program : Linked) (first : In) (count : ℕ) (read : List ℕ)
    (moment : Moment Known) (state : State) (last : In) : Type 0 where
  pub begun : Moment Known
  pub begins : BeginsWith rules_of (machine_of run program) (texts_of run) [] (known_first run program) begun
  pub went : Went left gave rules_of (machine_of run program) begun (start_of run program) first count read moment state last

-- the heap that is left holds exactly the objects that are kept, each in the part of its site, and is of so many blocks; and what collections came to is
-- what the store knows
pub record Leaves (moment : Moment Known) (remains : Remains) : Type 0 where
  pub tally : remains.tally ≡ moment.facts.tally
  pub heap : Heap
  pub heap_is : remains.heap ≡ Some heap
  pub objects : objects_in heap ≡ moment.state.objects
  pub sites : heap.site_parts ≡ moment.facts.config.site_parts
  pub blocks : heap.memory.blocks ≡ moment.facts.config.blocks

-- or nothing is said of what it holds
pub record LeavesSome (moment : Moment Known) (remains : Remains) : Type 0 where
  pub tally : remains.tally ≡ moment.facts.tally
  pub heap : Heap
  pub heap_is : remains.heap ≡ Some heap

-- so one ends that has begun: `main` returns; it calls `exit`; an exception finds no handler; the steps are spent; or the store refuses room for what
-- the next step places
pub data EndsBegun {In : Type 0} (left : In → Option (List ℕ)) (gave : In → ℕ → List ℕ → In → Type 0) (run : Run) (program : Linked) (first last : In) (ending : Ending) : Type 0 where
  Returns : (count : ℕ) (read : List ℕ) (moment : Moment Known) (state : State) → count ≤ run.steps → ComesTo left gave run program first count read moment state last
      → outcome state ≡ outcomes.Returned → Leaves moment ending.remains
      → ending ≡ told causes.Returned state.printed [] (length read) ending.remains → EndsBegun left gave run program first last ending
  Exits : (count : ℕ) (read : List ℕ) (moment : Moment Known) (state : State) (status : ℤ) → count ≤ run.steps → ComesTo left gave run program first count read moment state last
      → outcome state ≡ outcomes.Exited status → Leaves moment ending.remains
      → ending ≡ told (causes.Exited status) state.printed [] (length read) ending.remains → EndsBegun left gave run program first last ending
  Throws : (count : ℕ) (read : List ℕ) (moment : Moment Known) (state : State) (serial : ℕ) (object : Object) (units : List ℕ) → count ≤ run.steps
      → ComesTo left gave run program first count read moment state last → outcome state ≡ outcomes.Uncaught serial → object_at state serial ≡ Some object
      → exception_units program state object ≡ Some units → Leaves moment ending.remains
      → ending ≡ told (causes.Uncaught object.kind) state.printed (exception_line units) (length read) ending.remains → EndsBegun left gave run program first last ending
  Spends : (read : List ℕ) (moment : Moment Known) (state : State) → ComesTo left gave run program first run.steps read moment state last → outcome state ≡ outcomes.Running
      → Leaves moment ending.remains
      → ending ≡ told causes.BudgetSpent state.printed (spent_line run.steps) (length read) ending.remains → EndsBegun left gave run program first last ending
  Fills : (count : ℕ) (read : List ℕ) (moment after : Moment Known) (state : State) (live asked limit : ℕ) → count < run.steps → ComesTo left gave run program first count read moment state last
      → TurnRefused rules_of (machine_of run program) moment (Full live asked limit) after → Leaves after ending.remains
      → ending ≡ told causes.HeapFull state.printed (full_line (Full live asked limit)) (length read) ending.remains → EndsBegun left gave run program first last ending

-- the store refuses room for what is there at the start, and holds nothing
pub record FillsFirst (run : Run) (program : Linked) (ending : Ending) : Type 0 where
  pub known : Known
  pub live : ℕ
  pub asked : ℕ
  pub limit : ℕ
  pub refuses : RefusesStart rules_of (machine_of run program) (texts_of run) (known_first run program) (Full live asked limit) known
  pub leaves : Leaves (record { state = empty_state program []; facts = known }) ending.remains
  pub is : ending ≡ told causes.HeapFull [] (full_line (Full live asked limit)) 0 ending.remains

-- so a run ends: with that, before its first step, and then it has left the input alone; or it begins, and ends as one does that has begun
abbrev pub EndsRun : {In : Type 0} → (In → Option (List ℕ)) → (In → ℕ → List ℕ → In → Type 0) → Run → Linked → (first last : In) → Ending → Type 0
EndsRun left gave run program first last ending = (FillsFirst run program ending × (last ≡ first)) ⊎ EndsBegun left gave run program first last ending

-- and so it is cut short: a call of the input fails in a step that asks it, which others may have given bytes before, but fewer than it takes; or a write
-- of what a step prints fails
pub record CutsInput {In : Type 0} (left : In → Option (List ℕ)) (gave : In → ℕ → List ℕ → In → Type 0) (run : Run) (program : Linked) (first last : In) (ending : Ending) : Type 0 where
  pub count : ℕ
  pub read : List ℕ
  pub moment : Moment Known
  pub state : State
  pub mid : In
  pub below : count < run.steps
  pub comes : ComesTo left gave run program first count read moment state mid
  pub fails : Fails left gave (machine_of run program) state mid last
  pub leaves : LeavesSome moment ending.remains
  pub is : ending ≡ run_input_fault state.printed (length (read ++ fails.front)) ending.remains

pub record CutsOutput {In : Type 0} (left : In → Option (List ℕ)) (gave : In → ℕ → List ℕ → In → Type 0) (run : Run) (program : Linked) (first last : In) (ending : Ending) : Type 0 where
  pub count : ℕ
  pub read : List ℕ
  pub moment : Moment Known
  pub state : State
  pub more : List ℕ
  pub front : List ℕ
  pub below : count < run.steps
  pub comes : ComesTo left gave run program first count read moment state last
  pub prints : Prints (machine_of run program) state more
  pub part : IsProperPrefix front more
  pub leaves : Leaves moment ending.remains
  pub is : ending ≡ run_output_fault (state.printed ++ front) (length read) ending.remains

-- what a run comes to where the input tells its bytes: the state of the machine that is given all of them at the start, which has read as many. The next
-- step asks for the same
pub record ComesToTold (machine : Machine) (given : List (List ℕ)) (bytes : List ℕ) (count : ℕ) (read : List ℕ) (state : State) (left : Option (List ℕ)) : Type 0 where
  pub same : state ≡ with_input (at machine given bytes count) []
  pub whole : bytes ≡ read ++ (at machine given bytes count).input
  pub remains : left ≡ Some (at machine given bytes count).input
  pub asks : request machine state ≡ request machine (at machine given bytes count)
