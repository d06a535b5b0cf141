-- Where a collection is asked for, the run goes on at the next place, and behind that the store collects.
use Rattle.std.proofs.Common.{◌≡◌, ◌∙◌, ◌+◌, ap, ap₂, arith, inr, refl, sym, ℕ, true, List, [], ◌∷◌, length, map, Option, Some, None}
use Rattle.std.specs.Prelude.{IfErr, IsErr, OnOk}
use Rattle.std.specs.declared.result.Result.{Result}
use Rattle.std.specs.declared.result.Result.TheVariants.{Err, Ok}
use Rattle.std.proofs.lemmas.Bool.{false≢true}
use Rattle.cb_act.proofs.Laws.{gc_asked}
use Rattle.cb_act.specs.Acting.{Asks, acted}
use Rattle.cb_act.specs.Here.{Here}
use Rattle.cb_act.specs.Sweeping.{calls_gc}
use Rattle.cb_act.specs.Turning.{Outside, SweptAll, TurnMade, WholeTurn, machine_of, moment_of, state_of}
use Rattle.cb_act.specs.declared.need.Need.TheVariants as needs
use Rattle.cb_frames.specs.Tops.{placed}
use Rattle.cb_heap.specs.Closed.{Collects}
use Rattle.cb_heap.specs.Kept.{residents}
use Rattle.cb_heap.specs.Reading.{View, read_value, seen}
use Rattle.cb_heap.specs.Rules.{Rules}
use Rattle.cb_heap.specs.Store.{IsFault}
use Rattle.cb_heap.specs.declared.no_room.NoRoom.{NoRoom}
use Rattle.cb_heap.specs.declared.no_room.NoRoom.TheVariants as rooms
use Rattle.cb_library.specs.declared.native.Native.{Native}
use Rattle.cb_library.specs.declared.native.Native.TheVariants as natives
use Rattle.cb_link.specs.Having.{parameters_at}
use Rattle.cb_link.specs.Program.{Linked}
use Rattle.cb_link.specs.declared.decoded.Decoded.{Decoded}
use Rattle.cb_link.specs.declared.named.Named.TheVariants as meanings
use Rattle.cb_machine.specs.Machine.{Machine}
use Rattle.cb_machine.specs.Natives.{native_of, performed}
use Rattle.cb_machine.specs.Performing.{Gives}
use Rattle.cb_machine.specs.Plans.{leaving}
use Rattle.cb_natives.specs.Given.{have_sorts}
use Rattle.cb_natives.specs.declared.answers.Answer.TheVariants as answers
use Rattle.cb_plain.specs.State.{Frame, Initialising, Object, OfMethod, Roots, State}
use Rattle.cb_plain.specs.Updates.{with_objects}
use Rattle.cb_plain.specs.declared.value.Value.{Value}
use Rattle.cb_safety.specs.Linked.{IsLinked}
use Rattle.cb_safety.specs.Performing.{HasNatives}
use Rattle.cb_safety.specs.States.{IsTypedState}
use Rattle.cb_shapes.specs.declared.action.Action.{Action}
use Rattle.cb_shapes.specs.declared.action.Action.TheVariants as actions
use Rattle.cb_verify.specs.Typed.{IsTyped}
use Rattle.cb_interp.specs.Answering.{argument_count, behind_answer, count_by}
use Rattle.cb_interp.specs.Running.{NotDone}
use Rattle.cb_interp.proofs.NativesAsked.{Asking, Calls, asking}
use Rattle.cb_interp.proofs.NativesAnswered.{answered_turn, count_there, goes_on, sorts_there, standing}
use Rattle.cb_interp.proofs.TurnsNeed.{steps_on}

-- no arguments are taken for it
no_values : (held : List Value) → have_sorts [] held ≡ true → held ≡ []
no_values [] is = refl
no_values (value ∷ held) is = absurd (false≢true is)

placed_behind : (roots : Roots) (pc : ℕ) → placed roots pc ≡ behind_answer 0 [] pc roots
placed_behind roots pc = go roots.frames refl where
  go : (frames : List Frame) → roots.frames ≡ frames → placed roots pc ≡ behind_answer 0 [] pc roots
  go [] is = rw is refl
  go (OfMethod frame ∷ below) is = rw is refl
  go (Initialising class place ∷ below) is = rw is refl

module _ (program : Linked) (index : ℕ → ℕ) (objects : List (Option Object)) (limit : ℕ) (held : Roots) (outside : Outside) (decoded : Decoded) (method : ℕ)
    (at : Here (machine_of program limit) (state_of (seen index objects held) outside) decoded)
    (asks : acted program limit decoded (seen index objects held) ≡ Some (Asks (needs.Performs method)))
    (is : native_of program method ≡ Some natives.SystemGc) (linked : IsLinked program) (fits : IsTyped program)
    (typed : IsTypedState program (state_of (seen index objects held) outside)) (has : HasNatives program) where
  abbrev machine : Machine
  machine = machine_of program limit

  abbrev state : State
  state = state_of (seen index objects held) outside

  abbrev taken : List Value
  taken = standing program index objects limit held outside decoded method at asks

  none_taken : taken ≡ []
  none_taken = no_values taken (sorts_there program index objects limit held outside decoded method at asks natives.SystemGc is linked fits typed has)

  gives : performed machine state natives.SystemGc (map (read_value index) taken) ≡ Some (Gives (leaving state) [])
  gives = ap (λ (held : List Value). performed machine state natives.SystemGc (map (read_value index) held)) none_taken

  pub gc_goes : decoded.next ≡ None → ⊥
  gc_goes =
      goes_on program index objects limit held outside decoded method at asks natives.SystemGc is answers.Nothing gives
      (steps_on machine state decoded at linked fits typed)

  none_counted : argument_count program decoded ≡ 0
  none_counted = count_there program index objects limit held outside decoded method at asks natives.SystemGc is linked fits typed has

  pub gc_made : {Facts : Type 0} (rules : Rules Facts) (facts : Facts) (after : Roots) (pc : ℕ) → decoded.next ≡ Some pc → after ≡ placed held pc
      → TurnMade rules machine (moment_of (seen index objects held) outside facts) (moment_of (seen index objects after) outside facts)
  gc_made rules facts after pc next left =
      answered_turn program index objects limit held outside decoded method at asks natives.SystemGc is answers.Nothing gives rules facts after pc next
      (left ∙ placed_behind held pc ∙ ap (λ (count : ℕ). behind_answer count [] pc held) (sym none_counted))

  -- the instruction is an invokestatic, since no argument is taken for it
  never_one : (action : Action) (named : ℕ) → decoded.action ≡ Some action → decoded.named ≡ meanings.Method named
      → count_by program (Some action) (meanings.Method named) ≡ length (parameters_at program named) + 1 → ⊥
  never_one action named does names one =
      let none : count_by program (Some action) (meanings.Method named) ≡ 0 = sym (ap₂ (count_by program) does names) ∙ none_counted in
      omega (arith, none, one)

  static_by : (action : Action) → decoded.action ≡ Some action → Calls program (seen index objects held) decoded method action
      → (index : ℕ) × (decoded.action ≡ Some (actions.InvokeStatic index))
  static_by action does (Calls.Statically index names) = (index, does)
  static_by action does (Calls.Specially index named names is) = absurd (never_one action named does names refl)
  static_by action does (Calls.Virtually index named serial object names there is) = absurd (never_one action named does names refl)
  static_by action does (Calls.ByInterface index count caller named serial object runs names there is) = absurd (never_one action named does names refl)

  gc_called : calls_gc program state ≡ true
  gc_called =
      let own : Asking program limit decoded (seen index objects held) (needs.Performs method) = asking program limit decoded (seen index objects held) (needs.Performs method) asks in
      let (index, does) = static_by own.action own.does own.told in
      gc_asked machine state decoded at method index (sym (ap (λ (decoded : Decoded). decoded.action) at.is) ∙ does) asks is

  module _ {Facts : Type 0} (rules : Rules Facts) (facts now : Facts) (middle : Roots) (pc : ℕ) (next : decoded.next ≡ Some pc) (left : middle ≡ placed held pc) (after : View)
      (collects : Collects (seen index objects middle) after) where
    same : state_of after outside ≡ with_objects (state_of (seen index objects middle) outside) after.objects
    same = ap (λ (roots : Roots). state_of (record { roots = roots; objects = after.objects }) outside) collects.roots

    pub gc_whole : (result : Result (Unit {0}) NoRoom)
        → rules.collects_all facts (seen index objects middle) result (record { facts = now; residents = residents after.objects })
        → OnOk result (WholeTurn rules machine (moment_of (seen index objects held) outside facts) (moment_of after outside now))
    gc_whole (Ok done) ruled = record {
      middle = moment_of (seen index objects middle) outside facts;
      made = gc_made rules facts middle pc next left;
      swept = SweptAll (moment_of after outside now) gc_called ruled collects same;
    }
    gc_whole (Err reason) ruled = tt

    pub gc_unreported : (result : Result (Unit {0}) NoRoom)
        → rules.collects_all facts (seen index objects middle) result (record { facts = now; residents = residents after.objects }) → (IsErr result → IsFault result)
        → IfErr result (λ reason. NotDone rules machine reason (moment_of (seen index objects held) outside facts) (moment_of after outside now))
    gc_unreported (Ok done) ruled fault = tt
    gc_unreported (Err (rooms.Full live asked limit)) ruled fault = absurd (cc (fault refl))
    gc_unreported (Err rooms.OutOfMemory) ruled fault = absurd (cc (fault refl))
    gc_unreported (Err rooms.ReportFault) ruled fault = inr (record {
      middle = moment_of (seen index objects middle) outside facts;
      made = gc_made rules facts middle pc next left;
      fails = record { calls = gc_called; ruled = ruled; collects = collects; same = same };
    })
