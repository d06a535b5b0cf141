-- A turn in which an initialisation looks at a class whose initialisation failed: it goes to its next place, and an exception of the machine
-- is thrown.
use Rattle.std.proofs.Common.{◌≡◌, ◌∙◌, ap, refl, sym, ℕ, ◌+◌, ◌<◌, ◌==◌, arith, true, false, List, [], ◌∷◌, length, map, nat_lt, Bool, Option, Some, None, slice_get}
use Rattle.std.proofs.lemmas.Bool.{false≢true, lt-ltb}
use Rattle.std.proofs.lemmas.List.{length-map}
use Rattle.std.proofs.lemmas.Option.{slice_get_within}
use Rattle.std.specs.Prelude.{option_and_then, option_map, if◌then◌else◌}
use Rattle.std.specs.declared.result.Result.TheVariants.{Ok}
use Rattle.cb_classfile.specs.declared.body.Body.{Body}
use Rattle.cb_frames.specs.Tops.{changed_in, placed, topmost}
use Rattle.cb_frames.specs.Tops as tops
use Rattle.cb_frames.specs.declared.frame.Frame.TheVariants as shown
use Rattle.cb_heap.specs.Closed.{Collects}
use Rattle.cb_heap.specs.Kept.{residents}
use Rattle.cb_heap.specs.Reading.{read_frame, read_roots, seen, serial_of}
use Rattle.cb_heap.specs.Rules.{Rules}
use Rattle.cb_heap.specs.Shaped.{new_object}
use Rattle.cb_link.specs.Calls.{initial_parents, initialiser}
use Rattle.cb_link.specs.Program.{Linked}
use Rattle.cb_machine.specs.Machine.{Machine, body_of, kind_of_site}
use Rattle.cb_machine.specs.Plans.{made, object_of}
use Rattle.cb_machine.specs.Sites.{no_class_definition}
use Rattle.cb_machine.specs.Steps.{plan}
use Rattle.cb_machine.specs.Throwing.{exception_contents, throws}
use Rattle.cb_plain.specs.Depth.{has_room}
use Rattle.cb_plain.specs.State.{Frame, Initialising, Object, OfMethod, Roots, State}
use Rattle.cb_plain.specs.Updates.{with_frames, with_objects, with_roots}
use Rattle.cb_plain.specs.declared.class_state.ClassState.{ClassState}
use Rattle.cb_plain.specs.declared.class_state.ClassState.TheVariants as states
use Rattle.cb_plain.specs.declared.shape.Shape.{Shape}
use Rattle.cb_unwind.specs.declared.answers.InitStep.{InitStep}
use Rattle.cb_unwind.specs.declared.answers.InitStep.TheVariants.{Goes, Deep}
use Rattle.cb_unwind.specs.Initialised.{IsOnTop, behind_parent, by_top, ended, enters, initialised, own_turn, parent_turn}
use Rattle.cb_interp.specs.Initials.{fails}
use Rattle.cb_act.specs.Keeping.{kept_plan, kept_state}
use Rattle.cb_act.specs.Placing.{at_place, exception_size, thrown, with_view}
use Rattle.cb_act.specs.Steps.{view_of}
use Rattle.cb_act.specs.Turning.{Moment, Outside, TurnMade, machine_of, state_of}
use Rattle.cb_act.proofs.Laws.{length_kept}
use Rattle.cb_interp.proofs.TurnsFrameInit.{initial_plan}
use Rattle.cb_interp.proofs.TurnsMade.{asked_turn, collected, collected_keeping}
use Rattle.cb_interp.proofs.TurnsThrown.{exception_want}

-- what is kept of it is thrown by what is kept, and what it makes
throws_kept : (kept : List Bool) (machine : Machine) (state : State) (site pc : ℕ) → length kept ≡ length state.objects
    → kept_plan kept (throws machine (with_roots state (placed state.roots pc)) site)
    ≡ throws machine (with_roots (kept_state kept state) (placed (kept_state kept state).roots pc)) site
throws_kept kept machine state site pc same = rw (sym (length_kept kept state.objects same)) refl

thrown_so : (machine : Machine) (state : State) (site pc : ℕ) (shapes : List Shape)
    → new_object shapes site (kind_of_site machine.program site) exception_size ≡ object_of site (kind_of_site machine.program site) (exception_contents 0 0)
    → made (throws machine (with_roots state (placed state.roots pc)) site)
    ≡ with_view state (at_place (thrown shapes site (kind_of_site machine.program site) (view_of state)) pc)
thrown_so machine state site pc shapes is = rw is refl

pub thrown_at : {Facts : Type 0} (rules : Rules Facts) (machine : Machine) (before middle after : Moment Facts) (site pc : ℕ) (shapes : List Shape)
    → plan machine before.state ≡ Some (throws machine (with_roots before.state (placed before.state.roots pc)) site)
    → new_object shapes site (kind_of_site machine.program site) exception_size ≡ object_of site (kind_of_site machine.program site) (exception_contents 0 0)
    → rules.makes_room before.facts (view_of before.state) (exception_want site ∷ []) (Ok tt) (record { facts = middle.facts; residents = residents middle.state.objects })
    → Collects (view_of before.state) (view_of middle.state) → middle.state ≡ with_objects before.state middle.state.objects
    → after.state ≡ with_view middle.state (at_place (thrown shapes site (kind_of_site machine.program site) (view_of middle.state)) pc)
    → after.facts ≡ rules.placed middle.facts site exception_size → TurnMade rules machine before after
thrown_at rules machine before middle after site pc shapes is shaped ruled collects same steps knows =
    asked_turn rules machine before middle after (throws machine (with_roots before.state (placed before.state.roots pc)) site) (exception_want site) [] is refl ruled collects same
    (steps ∙ sym (thrown_so machine middle.state site pc shapes shaped)
    ∙ ap (λ (state : State). made (throws machine (with_roots state (placed state.roots pc)) site)) (collected rules machine before middle collects same)
    ∙ ap made (sym (throws_kept (residents middle.state.objects) machine before.state site pc (collected_keeping rules machine before middle collects same).count)))
    knows

-- as many frames stand where the same are seen
pub frames_again : (index now : ℕ → ℕ) (held after : Roots) → (read_roots now after).frames ≡ (read_roots index held).frames → 0 < length held.frames → 0 < length after.frames
frames_again index now held after same some =
    let counts : length (map (read_frame now) after.frames) ≡ length (map (read_frame index) held.frames) = ap (λ (frames : List Frame). length frames) same in
    omega (arith, some, counts, length-map after.frames (read_frame now), length-map held.frames (read_frame index))

-- ---- the class that is looked at

pub record LooksAtFailed (program : Linked) (held : Roots) (class place : ℕ) : Type 0 where
  pub parent : ℕ
  pub next : slice_get (initial_parents program.classes class) place ≡ Some parent
  pub failed : slice_get held.classes parent ≡ Some states.Failed

module _ (program : Linked) (limit : ℕ) (held : Roots) (class place : ℕ) where
  abbrev parents : List ℕ
  parents = initial_parents program.classes class

  abbrev So : Option (InitStep × Roots) → Type 0
  So gone = fails gone ≡ true → LooksAtFailed program held class place

  of_room : (roots : Roots) (room : Bool) → So (Some (if room then (Goes, roots) else (Deep, held)))
  of_room roots true is = absurd (false≢true is)
  of_room roots false is = absurd (false≢true is)

  of_parent : (parent : ℕ) (found : Option ClassState) → slice_get parents place ≡ Some parent → slice_get held.classes parent ≡ found
      → So (option_map (behind_parent program limit held place parent) found)
  of_parent parent None next at is = absurd (false≢true is)
  of_parent parent (Some states.Untouched) next at is = of_room _ (has_room limit (placed held (place + 1)).frames 0) is
  of_parent parent (Some states.Failed) next at is = record { parent = parent; next = next; failed = at }
  of_parent parent (Some states.Busy) next at is = absurd (false≢true is)
  of_parent parent (Some states.Done) next at is = absurd (false≢true is)

  of_body : (method : ℕ) (body : Option Body) → So (option_map (enters limit held (placed held (place + 1)) method) body)
  of_body method None is = absurd (false≢true is)
  of_body method (Some body) is = of_room _ (has_room limit (placed held (place + 1)).frames (body.max_locals + body.max_stack)) is

  of_own : (method : Option ℕ) → So (own_turn program limit held class place method)
  of_own None is = absurd (false≢true is)
  of_own (Some method) is = of_body method (body_of program method) is

  of_next : (parent : Option ℕ) → slice_get parents place ≡ parent → So (option_and_then (parent_turn program limit held place) parent)
  of_next None next is = absurd (false≢true is)
  of_next (Some parent) next is = of_parent parent (slice_get held.classes parent) next refl is

  of_place : (low last : Bool)
      → So (if low then option_and_then (parent_turn program limit held place) (slice_get parents place)
      else if last then own_turn program limit held class place (initialiser program.classes class) else Some (Goes, ended states.Done class held))
  of_place true last is = of_next (slice_get parents place) refl is
  of_place false true is = of_own (initialiser program.classes class) is
  of_place false false is = absurd (false≢true is)

  pub looks_at_failed : IsOnTop held class place → fails (initialised program limit held) ≡ true → LooksAtFailed program held class place
  looks_at_failed top is =
      of_place (nat_lt place (length parents)) (place == length parents) (ap (λ top. fails (option_and_then (by_top program limit held) top)) top ∙ is)

-- and the step of it
failed_next : (machine : Machine) (state : State) (class place : ℕ) (below : List Frame) → state.exit ≡ None → state.roots.pending ≡ 0
    → state.roots.frames ≡ Initialising class place ∷ below → LooksAtFailed machine.program state.roots class place
    → plan machine state ≡ Some (throws machine (with_frames state (Initialising class (place + 1) ∷ below)) no_class_definition)
failed_next machine state class place below runs quiet frames looks =
    let next = looks.next in
    let failed = looks.failed in
    let low : nat_lt place (length (initial_parents machine.program.classes class)) ≡ true =
    lt-ltb place (length (initial_parents machine.program.classes class)) (slice_get_within (initial_parents machine.program.classes class) place looks.parent looks.next) in
    initial_plan machine state class place below runs quiet frames ∙ rw (low, next, failed) refl

module _ (program : Linked) (index : ℕ → ℕ) (objects : List (Option Object)) (held : Roots) (outside : Outside) (limit : ℕ) where
  abbrev state : State
  state = state_of (seen index objects held) outside

  pub failed_plan : (class place : ℕ) → IsOnTop held class place → held.pending ≡ 0 → LooksAtFailed program held class place
      → plan (machine_of program limit) state ≡ Some (throws (machine_of program limit) (with_roots state (placed state.roots (place + 1))) no_class_definition)
  failed_plan class place top quiet looks = go held.frames refl where
    go : (frames : List Frame) → held.frames ≡ frames
        → plan (machine_of program limit) state ≡ Some (throws (machine_of program limit) (with_roots state (placed state.roots (place + 1))) no_class_definition)
    go [] is = absurd (cc (top ∙ ap topmost is))
    go (OfMethod frame ∷ below) is = absurd (cc (top ∙ ap topmost is))
    go (Initialising own at ∷ below) is =
        let same : Some (shown.Initialising class place) ≡ Some (shown.Initialising own at) = top ∙ ap topmost is in
        let one : own ≡ class = cc same in
        let two : at ≡ place = cc same in
        let stands : held.frames ≡ Initialising class place ∷ below = is ∙ ap (λ (class : ℕ). Initialising class at ∷ below) one ∙ ap (λ (place : ℕ). Initialising class place ∷ below) two in
        let frames : state.roots.frames ≡ Initialising class place ∷ map (read_frame index) below = ap (map (read_frame index)) stands in
        failed_next (machine_of program limit) state class place (map (read_frame index) below) refl (ap (serial_of index) quiet) frames
        (record { parent = looks.parent; next = looks.next; failed = looks.failed })
        ∙ ap (λ (frames : List Frame). Some (throws (machine_of program limit) (with_frames state (changed_in (tops.at_place (place + 1)) frames)) no_class_definition)) (sym frames)

pub place_low : (program : Linked) (held : Roots) (class place : ℕ) → LooksAtFailed program held class place → place < length (initial_parents program.classes class)
place_low program held class place looks = slice_get_within (initial_parents program.classes class) place looks.parent looks.next
