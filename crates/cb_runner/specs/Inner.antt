-- What private contracts and proofs cite: no public clause names this file.
use Rattle.std.specs.Prelude.{◌≡◌, ◌⊎◌, map, ℕ, ◌+◌, ◌<◌, ◌≤◌, Bool, true, false, List, [], ◌∷◌, ◌++◌, length, drop, codes, string_bytes, Vec, Result, Ok, Err, Option, None, Some, option_and_then, unwrap_or, IfSome, IsSomeAnd, IsTrue}
use Rattle.std.specs.Io.KnownBytes.{Appends, Consumes, IsAtEnd, Keeps}
use Rattle.std.specs.List.{AllByRecursion}
use Rattle.std.specs.declared.alloc.Global.{Global}
use Rattle.cb_collector.specs.Held.{Held}
use Rattle.cb_heap.specs.Reading.{serial_of}
use Rattle.cb_heap.specs.declared.no_room.NoRoom.{NoRoom}
use Rattle.cb_heap.specs.declared.no_room.NoRoom.TheVariants as rooms
use Rattle.cb_interp.specs.Reading.{as_bytes}
use Rattle.cb_interp.specs.Texts.{TellsException, exception_units}
use Rattle.cb_interp.specs.declared.end.End.{End}
use Rattle.cb_interp.specs.declared.end.End.TheVariants as ends
use Rattle.cb_machine.specs.Performing.{most_elements}
use Rattle.cb_natives.specs.Asking.{Calls, GaveNone}
use Rattle.cb_machine.specs.Starting.{empty_state}
use Rattle.cb_plain.specs.State.{Object}
use Rattle.cb_plain.specs.Updates.{object_in, with_objects}
use Rattle.cb_safety.specs.Heap.{IsHeap}
use Rattle.cb_safety.specs.Kinds.{IsOfKind, kinds_of}
use Rattle.cb_safety.specs.Linked.{IsLinked}
use Rattle.cb_safety.specs.Strings.{IsText}
use Rattle.cb_verify.specs.Typed.{IsTyped}
use Rattle.cb_verify.specs.Within.{kind_of_throwable}
use Rattle.cb_io.specs.Folder.{Files}
use Rattle.cb_io.specs.Sink.{IsProperPrefix}
use Rattle.cb_io.specs.declared.sure_sink.SureSink.{SureSink}
use Rattle.cb_partheap.specs.Heaps.{Heap, index_in, objects_in}
use Rattle.cb_classfile.specs.declared.fault.ClassFault.{ClassFault}
use Rattle.cb_classfile.specs.declared.fault.ClassFault.TheVariants as faults
use Rattle.cb_link.specs.Numbers.{or_none}
use Rattle.cb_link.specs.Program.{Linked}
use Rattle.cb_link.specs.declared.refusal.Refusal.{Refusal as LinkRefusal}
use Rattle.cb_link.specs.declared.refusal.Refusal.TheVariants as link_refusals
use Rattle.cb_runner.specs.declared.cause.Cause.{Cause}
use Rattle.cb_runner.specs.declared.cause.Cause.TheVariants as causes
use Rattle.cb_runner.specs.declared.input.Input.{Input}
use Rattle.cb_runner.specs.declared.input.Input.TheVariants.{Whole, TooLong}
use Rattle.cb_runner.specs.declared.refusal.Refusal.{Refusal}
use Rattle.cb_runner.specs.declared.line.Line.{Line}
use Rattle.cb_runner.specs.declared.line.Line.TheVariants as lines
use Rattle.cb_runner.specs.declared.line.Unhandled.{Unhandled}
use Rattle.cb_runner.specs.declared.stop.Stop.{Stop}
use Rattle.cb_runner.specs.declared.stop.Stop.TheVariants.{Exited, FolderFault, InputFault, OutOfMemory, OutputFault, Refused, Returned, Told, Usage}
use Rattle.cb_runner.specs.declared.arguments.Arguments.{Arguments}
use Rattle.cb_runner.specs.declared.limits.GivenOptions.{GivenOptions}
use Rattle.cb_runner.specs.declared.run_words.RunWords.{RunWords}
use Rattle.cb_runner.specs.declared.words.Command.{Command as SaidCommand}
use Rattle.cb_runner.specs.declared.words.Command.TheVariants as said_commands
use Rattle.cb_runner.specs.Answer.{MayStandAt, ends_whole}
use Rattle.cb_runner.specs.List.{ListsFile}
use Rattle.cb_runner.specs.Ending.{Ending, Remains, nothing, returned}
use Rattle.cb_runner.specs.Messages.{Reason, BadVersion, Malformed, Unsupported, line, reason_of, refusal_text}
use Rattle.cb_runner.specs.Run.{IsUntyped, reason_of_linking}
use Rattle.cb_runner.specs.Running.{CutsInput, CutsOutput, EndsRun, exception_line, full_line, spent_line}
use Rattle.cb_runner.specs.Words.{Adds, AddsOption, Command, Given, IsOption, RunIn, ListOf, Assemble, Run, TellsNumber, internal_name, none_given}

-- the words that are arguments, and the run, what options told and the command that a value of the program is
abbrev pub words_of : Arguments → List (List ℕ)
words_of arguments = map string_bytes arguments.front.now ++ map string_bytes arguments.back.now

abbrev pub run_of : RunWords → Run
run_of run =
    record { steps = run.steps; frames = run.frames; blocks = run.blocks; main = internal_name run.class.now; arguments = words_of run.arguments }

abbrev pub given_of : GivenOptions → Given
given_of told = record { steps = told.steps; frames = told.frames; blocks = told.blocks }

abbrev pub said : SaidCommand → Command
said (said_commands.Run run) = RunIn run.folder.now (run_of run)
said (said_commands.List path) = ListOf path.now
said said_commands.Assemble = Assemble

-- the cause that a stop tells, and its last line
abbrev pub cause_of : Stop → Cause
cause_of Returned = causes.Returned
cause_of Usage = causes.Usage
cause_of (Refused text) = causes.Refused
cause_of (Exited status) = causes.Exited status
cause_of (Told cause line) = cause
cause_of FolderFault = causes.FolderFault
cause_of InputFault = causes.InputFault
cause_of OutputFault = causes.OutputFault
cause_of OutOfMemory = causes.OutOfMemory

-- what is told of the exception of a serial, among objects where it can be told
abbrev pub units_told : Linked → List (Option Object) → ℕ → List ℕ
units_told program objects serial =
    or_none (option_and_then (exception_units program (with_objects (empty_state program []) objects)) (object_in objects serial))

-- the store of a run, where one was made
abbrev pub Kept : Type 0
Kept = Option (Held SureSink)

abbrev pub unhandled_line : Kept → Unhandled → List ℕ
unhandled_line None exception = []
unhandled_line (Some store) exception = exception_line (units_told exception.program (objects_in store.heap) (serial_of (index_in store.heap) exception.at))

-- the last line of a program that was run
abbrev pub line_text : Kept → Line → List ℕ
line_text store (lines.Spent steps) = spent_line steps
line_text store (lines.Full live asked limit) = full_line (rooms.Full live asked limit)
line_text store (lines.Unhandled exception) = unhandled_line store exception

abbrev pub line_of : Kept → Stop → List ℕ
line_of store Returned = []
line_of store Usage = line (codes "these words are no command")
line_of store (Refused text) = string_bytes text
line_of store (Exited status) = []
line_of store (Told cause line) = line_text store line
line_of store FolderFault = line (codes "folder fault")
line_of store InputFault = line (codes "input fault")
line_of store OutputFault = line (codes "output fault")
line_of store OutOfMemory = line (codes "out of memory")

-- what is left of a run
abbrev pub remains_in : Kept → Remains
remains_in None = nothing
remains_in (Some store) = record { tally = store.tally; heap = Some store.heap }

-- the end of a call that stopped so, over a store or without one, printed these bytes and read so many
abbrev pub ending_with : Kept → Stop → List ℕ → ℕ → Ending
ending_with store stop out read = record { cause = cause_of stop; out = out; err = line_of store stop; read = read; remains = remains_in store }

abbrev pub ending_of : Stop → List ℕ → ℕ → Ending
ending_of stop out read = ending_with None stop out read

-- the line of any other stop
abbrev pub IsKnownLine : Stop → List ℕ → Type 0
IsKnownLine (Told cause line) text = Unit {0}
IsKnownLine stop text = text ≡ line_of None stop

-- an exception that can be told: the program is linked and typed, and the objects of its store are, among which it is
pub record IsUnhandled (heap : Heap) (exception : Unhandled) : Type 0 where
  pub linked : IsLinked exception.program
  pub fits : IsTyped exception.program
  pub objects : IsHeap exception.program (objects_in heap)
  pub thrown : IsOfKind exception.program (kinds_of (objects_in heap)) kind_of_throwable (serial_of (index_in heap) exception.at)

abbrev pub CanBeUnhandled : Kept → Unhandled → Type 0
CanBeUnhandled None exception = ⊥
CanBeUnhandled (Some store) exception = IsUnhandled store.heap exception

abbrev pub CanBeTold : Kept → Line → Type 0
CanBeTold store (lines.Unhandled exception) = CanBeUnhandled store exception
CanBeTold store line = Unit {0}

-- a stop whose last line can be written
abbrev pub IsReady : Kept → Stop → Type 0
IsReady store (Told cause line) = CanBeTold store line
IsReady store other = Unit {0}

-- the cause that a program which was run is told to have ended for is one of a run that nothing cut short, and its line can be written
abbrev pub TellsWhole : Kept → Stop → Type 0
TellsWhole store (Told cause line) = IsTrue (ends_whole cause) × CanBeTold store line
TellsWhole store other = Unit {0}

-- it is refused for this reason, or there was no memory for its line
abbrev pub IsRefusal : Reason → Stop → Type 0
IsRefusal reason (Refused text) = string_bytes text ≡ line (refusal_text reason)
IsRefusal reason OutOfMemory = Unit {0}
IsRefusal reason other = ⊥

-- a file could not be looked for
abbrev pub IsUnfound : Stop → Type 0
IsUnfound FolderFault = Unit {0}
IsUnfound OutOfMemory = Unit {0}
IsUnfound other = ⊥

-- a command was refused before it printed anything, or a call of the folder failed or there was no memory
abbrev pub StopsAtOnce : (Ending → Type 0) → Stop → Type 0
StopsAtOnce MayEnd (Refused text) = MayEnd (ending_of (Refused text) [] 0)
StopsAtOnce MayEnd stop = IsUnfound stop

-- a class isn't linked for this refusal of linking
abbrev pub IsUnlinked : LinkRefusal → Stop → Type 0
IsUnlinked link_refusals.FolderFault stop = stop ≡ FolderFault
IsUnlinked link_refusals.OutOfMemory stop = stop ≡ OutOfMemory
IsUnlinked refusal stop = IsSomeAnd (reason_of_linking refusal) (λ reason. IsRefusal reason stop)

-- a refusal of linking as one of the program's, if there was memory for the names
abbrev pub IsConverted : LinkRefusal → Result Refusal Stop → Type 0
IsConverted link_refusals.FolderFault made = made ≡ Err FolderFault
IsConverted link_refusals.OutOfMemory made = made ≡ Err OutOfMemory
IsConverted refusal (Ok told) = reason_of_linking refusal ≡ Some (reason_of told)
IsConverted refusal (Err stop) = stop ≡ OutOfMemory

-- a program isn't run since it isn't typed, if there was memory to verify it and for the line
abbrev pub StopsUntyped : Linked → Stop → Type 0
StopsUntyped program (Refused text) = (reason : Reason) × IsUntyped program reason × IsRefusal reason (Refused text)
StopsUntyped program OutOfMemory = Unit {0}
StopsUntyped program other = ⊥

-- a class file isn't listed for what a reader of it told
abbrev pub IsUnlisted : List ℕ → ClassFault → Stop → Type 0
IsUnlisted path (faults.BadVersion major) stop = IsRefusal (BadVersion path major) stop
IsUnlisted path faults.Malformed stop = IsRefusal (Malformed path) stop
IsUnlisted path (faults.Unsupported item) stop = IsRefusal (Unsupported path item) stop
IsUnlisted path faults.OutOfMemory stop = stop ≡ OutOfMemory

-- a command made these bytes, or was refused, or found no memory, by the ends to which it may come
abbrev pub Makes : (Ending → Type 0) → ℕ → Result (Vec ℕ Global) Stop → Type 0
Makes MayEnd read (Ok bytes) = MayEnd (returned bytes.items read)
Makes MayEnd read (Err (Refused text)) = MayEnd (ending_of (Refused text) [] read)
Makes MayEnd read (Err OutOfMemory) = Unit {0}
Makes MayEnd read (Err other) = ⊥

-- the bytes were printed, or a part of them before a call failed
abbrev pub Prints : List ℕ → Stop → List ℕ → Type 0
Prints bytes Returned out = out ≡ bytes
Prints bytes OutputFault out = IsProperPrefix out bytes
Prints bytes other out = ⊥

-- the bytes that were made were printed, if any were
abbrev pub PrintsMade : Result (Vec ℕ Global) Stop → Stop → List ℕ → Type 0
PrintsMade (Ok bytes) stop out = Prints bytes.items stop out
PrintsMade (Err why) stop out = (stop ≡ why) × (out ≡ [])

-- a command stopped so and printed this, by the ends to which it may come
abbrev pub StopsBy : (Ending → Type 0) → ℕ → Stop → List ℕ → Type 0
StopsBy MayEnd read Returned out = MayEnd (returned out read)
StopsBy MayEnd read (Refused text) out = MayEnd (ending_of (Refused text) out read)
StopsBy MayEnd read OutputFault out = (whole : Ending) × MayEnd whole × IsProperPrefix out whole.out × (read ≡ whole.read)
StopsBy MayEnd read OutOfMemory out = out ≡ []
StopsBy MayEnd read other out = ⊥

-- an option stands at the front of words, with this value
abbrev pub TellsOption : (name : List ℕ) (most value : ℕ) → List (List ℕ) → Type 0
TellsOption name most value words =
    (number : List ℕ) × (behind : List (List ℕ)) × (words ≡ name ∷ number ∷ behind) × TellsNumber most value number

-- an option that wasn't told stands at the front of words. What is told with it
pub record AddsFirst (given next : Given) (words : List (List ℕ)) : Type 0 where
  pub name : List ℕ
  pub number : List ℕ
  pub behind : List (List ℕ)
  pub words_are : words ≡ name ∷ number ∷ behind
  pub adds : AddsOption given number name next

-- options were taken from the front of words, up to where none stands that wasn't told
pub record TakesAll (given last : Given) (words rest : List (List ℕ)) : Type 0 where
  pub front : List (List ℕ)
  pub adds : Adds given front last
  pub words_are : words ≡ front ++ rest
  pub stops : (next : Given) → ¬ AddsFirst last next rest

-- all options were, where a word behind them is none
pub record TakesOptions (steps frames blocks : ℕ) (words rest : List (List ℕ)) : Type 0 where
  pub front : List (List ℕ)
  pub last : Given
  pub are : Adds none_given front last
  pub steps_are : steps ≡ unwrap_or last.steps 1000000000
  pub frames_are : frames ≡ unwrap_or last.frames 4096
  pub blocks_are : blocks ≡ unwrap_or last.blocks 16384
  pub words_are : words ≡ front ++ rest
  pub told : (other : Given) (options : List (List ℕ)) (word : List ℕ) (behind : List (List ℕ)) → Adds none_given options other
      → words ≡ options ++ word ∷ behind → ¬ IsOption word → (last ≡ other) × (rest ≡ word ∷ behind)

-- arguments are texts, and no more than an array has elements
abbrev pub AreTexts : List (List ℕ) → Type 0
AreTexts given = AllByRecursion IsText given × (length given ≤ most_elements)

-- a listing ends so: by what the file at its path may be, or at once
abbrev pub ListsTo : List ℕ → Option Files → Stop → List ℕ → Type 0
ListsTo path files stop out =
    ((file : Option (List ℕ)) × MayStandAt files path file × StopsBy (ListsFile path file) 0 stop out) ⊎ ((out ≡ []) × IsUnfound stop)

-- a program was run, stopped so, printed this and read so many bytes of the input
abbrev pub RunsTo : {In : Type 0} → (In → Option (List ℕ)) → (In → ℕ → List ℕ → In → Type 0) → Run → Linked → (first last : In) → Kept → Stop → List ℕ → ℕ → Type 0
RunsTo left gave run program first last store OutOfMemory out read = (out ≡ []) × (read ≡ 0) × (last ≡ first) × (store ≡ None)
RunsTo left gave run program first last store InputFault out read = CutsInput left gave run program first last (ending_with store InputFault out read)
RunsTo left gave run program first last store OutputFault out read = CutsOutput left gave run program first last (ending_with store OutputFault out read)
RunsTo left gave run program first last store Returned out read = EndsRun left gave run program first last (ending_with store Returned out read)
RunsTo left gave run program first last store (Exited status) out read = EndsRun left gave run program first last (ending_with store (Exited status) out read)
RunsTo left gave run program first last store (Told cause text) out read = EndsRun left gave run program first last (ending_with store (Told cause text) out read)
RunsTo left gave run program first last store other out read = ⊥

-- and what it printed went out, and what it read came from the input
pub record HasRunTo {In : Type 0} (left : In → Option (List ℕ)) (gave : In → ℕ → List ℕ → In → Type 0) (run : Run) (program : Linked) (first last : In) (known taken : Option (List ℕ)) (store : Kept)
    (stop : Stop) : Type 0 where
  pub printed : List ℕ
  pub read : ℕ
  pub appends : Appends known taken printed
  pub remains : IfSome (as_bytes (left first)) (λ bytes. left last ≡ Some (drop read bytes))
  pub runs : RunsTo left gave run program first last store stop printed read
  pub ready : IsReady store stop

-- a command stops for a cause with this last line
abbrev pub IsToldAs : Cause → List ℕ → Kept → Stop → Type 0
IsToldAs cause text store (Told own line) = (own ≡ cause) × (line_text store line ≡ text) × CanBeTold store line
IsToldAs cause text store other = ⊥

-- how a command stops whose run hasn't begun since there is no room for what is there at the start
abbrev pub IsRefusedStart : Kept → NoRoom → Stop → Type 0
IsRefusedStart store (rooms.Full live asked limit) stop = IsToldAs causes.HeapFull (full_line (rooms.Full live asked limit)) store stop
IsRefusedStart store other stop = ⊥

-- so is the exception of a place told, among the objects of a store
abbrev pub IsUncaughtAs : Linked → Held SureSink → (class at : ℕ) → Stop → Type 0
IsUncaughtAs program store class at stop =
    (units : List ℕ) × TellsException program (objects_in store.heap) (serial_of (index_in store.heap) at) units × IsToldAs (causes.Uncaught class) (exception_line units) (Some store) stop

-- how a command stops whose run has ended so: memory is wanted by no step, and no report is written
abbrev pub IsStopOf : Run → Linked → Held SureSink → End → Stop → Type 0
IsStopOf run program store ends.Returned stop = stop ≡ Returned
IsStopOf run program store (ends.Exited status) stop = stop ≡ Exited status
IsStopOf run program store (ends.Uncaught class at) stop = IsUncaughtAs program store class at stop
IsStopOf run program store ends.BudgetSpent stop = IsToldAs causes.BudgetSpent (spent_line run.steps) (Some store) stop
IsStopOf run program store (ends.HeapFull live asked limit) stop = IsToldAs causes.HeapFull (full_line (rooms.Full live asked limit)) (Some store) stop
IsStopOf run program store ends.ReportFault stop = ⊥
IsStopOf run program store ends.InputFault stop = stop ≡ InputFault
IsStopOf run program store ends.OutputFault stop = stop ≡ OutputFault
IsStopOf run program store ends.OutOfMemory stop = ⊥

-- what is asked for that of the objects: they are typed, and an exception is one
abbrev pub MayTell : Linked → Heap → End → Type 0
MayTell program heap (ends.Uncaught class at) =
    IsHeap program (objects_in heap) × IsOfKind program (kinds_of (objects_in heap)) kind_of_throwable (serial_of (index_in heap) at)
MayTell program heap other = Unit {0}

-- calls gave so many bytes at most, and then one may have given none; or one failed
pub record HasRead {In : Type 0} (left : In → Option (List ℕ)) (gave : In → ℕ → List ℕ → In → Type 0) (most : ℕ) (first last : In) : Type 0 where
  pub bytes : List ℕ
  pub mid : In
  pub calls : Calls gave first bytes mid
  pub ends : (last ≡ mid) ⊎ GaveNone gave mid last
  pub consumes : Consumes (left first) (left last) bytes
  pub few : length bytes ≤ most

pub record HasFailed {In : Type 0} (left : In → Option (List ℕ)) (gave : In → ℕ → List ℕ → In → Type 0) (most : ℕ) (first last : In) : Type 0 where
  pub bytes : List ℕ
  pub mid : In
  pub calls : Calls gave first bytes mid
  pub consumes : Consumes (left first) (left last) bytes
  pub few : length bytes ≤ most

-- all that calls give was read, or one byte more than the limit
pub record HasWhole {In : Type 0} (left : In → Option (List ℕ)) (gave : In → ℕ → List ℕ → In → Type 0) (limit : ℕ) (first last : In) (bytes : List ℕ) : Type 0 where
  pub mid : In
  pub calls : Calls gave first bytes mid
  pub none : GaveNone gave mid last
  pub consumes : Consumes (left first) (left last) bytes
  pub end : IsAtEnd (left last)
  pub short : length bytes ≤ limit

pub record HasMore {In : Type 0} (left : In → Option (List ℕ)) (gave : In → ℕ → List ℕ → In → Type 0) (limit : ℕ) (first last : In) : Type 0 where
  pub bytes : List ℕ
  pub calls : Calls gave first bytes last
  pub consumes : Consumes (left first) (left last) bytes
  pub size : length bytes ≡ limit + 1

-- an input is read: so, or less where a call failed or there was no memory
abbrev pub Reads : {In : Type 0} → (In → Option (List ℕ)) → (In → ℕ → List ℕ → In → Type 0) → ℕ → (first last : In) → Result Input Stop → Type 0
Reads left gave limit first last (Ok (Whole bytes)) = HasWhole left gave limit first last bytes.items
Reads left gave limit first last (Ok TooLong) = HasMore left gave limit first last
Reads left gave limit first last (Err InputFault) = HasFailed left gave limit first last
Reads left gave limit first last (Err OutOfMemory) = HasRead left gave (limit + 1) first last
Reads left gave limit first last (Err other) = ⊥

-- there were more bytes, or the input is at its end
abbrev pub IsMore : Bool → List ℕ → Option (List ℕ) → Type 0
IsMore true piece now = 0 < length piece
IsMore false piece now = (piece ≡ []) × IsAtEnd now

-- a call gave a piece: one byte more than so many at most
pub record GavePiece {In : Type 0} (left : In → Option (List ℕ)) (gave : In → ℕ → List ℕ → In → Type 0) (most : ℕ) (first last : In) (piece : List ℕ) : Type 0 where
  pub asked : ℕ
  pub some : 0 < asked
  pub gives : gave first asked piece last
  pub consumes : Consumes (left first) (left last) piece
  pub few : length piece ≤ most + 1

-- which was put behind the bytes. It has none only at the end
abbrev pub ReadsPiece : {In : Type 0} → (In → Option (List ℕ)) → (In → ℕ → List ℕ → In → Type 0) → ℕ → (first last : In) → List ℕ → List ℕ → Result Bool Stop → Type 0
ReadsPiece left gave most first last old new (Ok more) =
    (piece : List ℕ) × GavePiece left gave most first last piece × (new ≡ old ++ piece) × IsMore more piece (left last)
ReadsPiece left gave most first last old new (Err InputFault) = Keeps (left first) (left last)
ReadsPiece left gave most first last old new (Err OutOfMemory) = (piece : List ℕ) × GavePiece left gave most first last piece
ReadsPiece left gave most first last old new (Err other) = ⊥

-- a command stopped so, over a store or without one: what it printed, how much of the input it read, and that it may end by this
pub record IsCarriedOut (MayEnd : Ending → Type 0) (before now known taken : Option (List ℕ)) (store : Kept) (stop : Stop) : Type 0 where
  pub printed : List ℕ
  pub read : ℕ
  pub appends : Appends known taken printed
  pub left : IfSome (as_bytes before) (λ left. now ≡ Some (drop read left))
  pub ends : MayEnd (ending_with store stop printed read)
