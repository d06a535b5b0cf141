-- How a program is run over a store of its own: no public clause names this file.
use Rattle.std.specs.Prelude.{◌≡◌, ◌<◌, ℕ, true, List, [], Option, None, Some, IsTrue, Result, Ok, Err, length, replicate}
use Rattle.cb_act.specs.Turning.{moment_of}
use Rattle.cb_collector.specs.Held.{Held, known_in}
use Rattle.cb_dag.specs.Parts.{Condensed}
use Rattle.cb_heap.specs.Reading.{seen}
use Rattle.cb_heap.specs.declared.no_room.NoRoom.{NoRoom}
use Rattle.cb_heap.specs.declared.no_room.NoRoom.TheVariants as rooms
use Rattle.cb_interp.specs.Fit.{ShapesOf}
use Rattle.cb_interp.specs.Starting.{BeginsWith, new_roots, unread}
use Rattle.cb_interp.specs.declared.end.End.{End}
use Rattle.cb_interp.specs.declared.end.End.TheVariants as ends
use Rattle.cb_collector.specs.Policy.{rules_of}
use Rattle.cb_io.specs.declared.sure_sink.SureSink.{SureSink}
use Rattle.cb_link.specs.Having.{site_kinds}
use Rattle.cb_link.specs.Program.{Linked}
use Rattle.cb_heap.specs.Storage.{Settings}
use Rattle.cb_partheap.specs.Heaps.{Heap, index_in, objects_in, settings_in}
use Rattle.cb_plain.specs.State.{Roots}
use Rattle.cb_runner.specs.Inner.{AreTexts, HasRunTo, IsRefusedStart, IsStopOf, MayTell}
use Rattle.cb_runner.specs.Running.{known_first, machine_of, texts_of}
use Rattle.cb_runner.specs.Words.{Run}
use Rattle.cb_runner.specs.declared.executing.Prepared.{Prepared}
use Rattle.cb_runner.specs.declared.stop.Stop.{Stop}

-- its output tells nothing
abbrev pub untold : SureSink → Option (List ℕ)
untold output = None

-- all sites lie in part 0
abbrev pub all_in_one : Linked → List ℕ
all_in_one program = replicate (length (site_kinds program)) 0

-- the graph of one part
abbrev pub one_part : Linked → Condensed
one_part program = record { parts = 1; part_of = all_in_one program; edges = [] }

-- what never changes in a store of a program: its objects are of the program's kinds, room is made for each site, and each may refer to each
pub record IsOfProgram (program : Linked) (settings : Settings) : Type 0 where
  pub shaped : ShapesOf program settings.shapes
  pub knows : (site : ℕ) → site < length (site_kinds program) → IsTrue (settings.knows site)
  pub allows : (one other : ℕ) → settings.allows one other ≡ true

-- a new one, which holds nothing
pub record IsFirst (run : Run) (program : Linked) (store : Held SureSink) : Type 0 where
  pub of : IsOfProgram program (settings_in store.heap)
  pub empty : objects_in store.heap ≡ []
  pub known : known_in untold store ≡ known_first run program

-- what a run of a program begins with was made for it
pub record IsPrepared (run : Run) (program : Linked) (prepared : Prepared) : Type 0 where
  pub store : IsFirst run program prepared.store
  pub new : prepared.roots.roots ≡ new_roots program
  pub limit : prepared.roots.limit ≡ run.frames
  pub given : prepared.given ≡ texts_of run
  pub texts : AreTexts (texts_of run)

-- a run has begun: what is kept stands at the start, without an input
abbrev pub HasBegun : Run → Linked → Held SureSink → Roots → Type 0
HasBegun run program store roots =
    BeginsWith rules_of (machine_of run program) (texts_of run) [] (known_first run program)
    (moment_of (seen (index_in store.heap) (objects_in store.heap) roots) (unread []) (known_in untold store))

-- how a command stops whose run has ended so, or hasn't begun for want of room
abbrev pub IsStopOver : Run → Linked → Held SureSink → Result End NoRoom → Stop → Type 0
IsStopOver run program store (Ok end) stop = IsStopOf run program store end stop
IsStopOver run program store (Err reason) stop = IsRefusedStart (Some store) reason stop

-- what is asked for that: an exception can be told, no report failed, and no memory was wanted
pub record MayStopAt (program : Linked) (heap : Heap) (end : End) : Type 0 where
  pub may : MayTell program heap end
  pub reported : end ≡ ends.ReportFault → ⊥
  pub roomy : end ≡ ends.OutOfMemory → ⊥

pub record MayRefuse (reason : NoRoom) : Type 0 where
  pub reported : reason ≡ rooms.ReportFault → ⊥
  pub roomy : reason ≡ rooms.OutOfMemory → ⊥

abbrev pub MayStop : Linked → Heap → Result End NoRoom → Type 0
MayStop program heap (Ok end) = MayStopAt program heap end
MayStop program heap (Err reason) = MayRefuse reason

-- however a command stops for the end of a run, it is what the run comes to
pub record RunsToEnd {In : Type 0} (left : In → Option (List ℕ)) (gave : In → ℕ → List ℕ → In → Type 0) (run : Run) (program : Linked) (store : Held SureSink) (first last : In)
    (known taken : Option (List ℕ)) (end : End) : Type 0 where
  pub runs : (stop : Stop) → IsStopOf run program store end stop → HasRunTo left gave run program first last known taken (Some store) stop

pub record ComesTo {In : Type 0} (left : In → Option (List ℕ)) (gave : In → ℕ → List ℕ → In → Type 0) (run : Run) (program : Linked) (store : Held SureSink) (first last : In)
    (known taken : Option (List ℕ)) (ended : Result End NoRoom) : Type 0 where
  pub runs : (stop : Stop) → IsStopOver run program store ended stop → HasRunTo left gave run program first last known taken (Some store) stop
