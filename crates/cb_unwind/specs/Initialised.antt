-- What a step of an initialisation leaves of the roots, where its frame is the topmost one (JVMS §5.5).
use Rattle.std.specs.Prelude.{◌≡◌, ℕ, ◌+◌, ◌<◌, ◌^◌, ◌==◌, length, Option, Some, None, nat_lt, option_and_then, option_map, slice_get, if◌then◌else◌}
use Rattle.cb_classfile.specs.declared.body.Body.{Body}
use Rattle.cb_frames.specs.Tops.{entered, left, placed, topmost}
use Rattle.cb_frames.specs.declared.frame.Frame.{Frame}
use Rattle.cb_frames.specs.declared.frame.Frame.TheVariants as shown
use Rattle.cb_link.specs.Calls.{initial_parents, initialiser}
use Rattle.cb_link.specs.Program.{Linked}
use Rattle.cb_machine.specs.Machine.{body_of}
use Rattle.cb_plain.specs.Depth.{has_room}
use Rattle.cb_plain.specs.declared.class_state.ClassState.{ClassState}
use Rattle.cb_plain.specs.declared.class_state.ClassState.TheVariants.{Done, Failed, Untouched}
use Rattle.cb_plain.specs.Roots.{with_class}
use Rattle.cb_plain.specs.State.{Roots}
use Rattle.cb_unwind.specs.declared.answers.InitStep.{InitStep}
use Rattle.cb_unwind.specs.declared.answers.InitStep.TheVariants.{Goes, Deep, FailedParent}
use Rattle.cb_unwind.specs.Begun.{NumbersOnly, begun}

-- the initialisation of a class is over, and its frame ends
abbrev pub ended : ClassState → ℕ → Roots → Roots
ended now class roots = with_class (left roots) class now

-- a class begins to be initialised, or a method without arguments is entered, where there is room for its frame; else nothing changes
abbrev pub begins : Linked → (limit : ℕ) → (before roots : Roots) → (class : ℕ) → InitStep × Roots
begins program limit before roots class = if has_room limit roots.frames 0 then (Goes, begun program class roots) else (Deep, before)

abbrev pub enters : (limit : ℕ) → (before roots : Roots) → (method : ℕ) → Body → InitStep × Roots
enters limit before roots method body =
    if has_room limit roots.frames (body.max_locals + body.max_stack) then (Goes, entered roots method 0 body.max_locals body.max_stack) else (Deep, before)

-- a class that comes before is looked at, and the place grows
abbrev pub behind_parent : Linked → (limit : ℕ) → Roots → (place parent : ℕ) → ClassState → InitStep × Roots
behind_parent program limit roots place parent Untouched = begins program limit roots (placed roots (place + 1)) parent
behind_parent program limit roots place parent Failed = (FailedParent, placed roots (place + 1))
behind_parent program limit roots place parent other = (Goes, placed roots (place + 1))

abbrev pub parent_turn : Linked → (limit : ℕ) → Roots → (place parent : ℕ) → Option (InitStep × Roots)
parent_turn program limit roots place parent = option_map (behind_parent program limit roots place parent) (slice_get roots.classes parent)

-- behind these the class's own initialiser is entered, if it has one, and else the class is done
abbrev pub own_turn : Linked → (limit : ℕ) → Roots → (class place : ℕ) → Option ℕ → Option (InitStep × Roots)
own_turn program limit roots class place None = Some (Goes, ended Done class roots)
own_turn program limit roots class place (Some method) = option_map (enters limit roots (placed roots (place + 1)) method) (body_of program method)

abbrev pub by_place : Linked → (limit : ℕ) → Roots → (class place : ℕ) → Option (InitStep × Roots)
by_place program limit roots class place =
    if nat_lt place (length (initial_parents program.classes class))
    then option_and_then (parent_turn program limit roots place) (slice_get (initial_parents program.classes class) place)
    else if place == length (initial_parents program.classes class) then own_turn program limit roots class place (initialiser program.classes class)
    else Some (Goes, ended Done class roots)

abbrev pub by_top : Linked → (limit : ℕ) → Roots → Frame → Option (InitStep × Roots)
by_top program limit roots (shown.Running method pc) = None
by_top program limit roots (shown.Initialising class place) = by_place program limit roots class place

-- a step, with what it has done: there is none where no initialisation stands
abbrev pub initialised : Linked → (limit : ℕ) → Roots → Option (InitStep × Roots)
initialised program limit roots = option_and_then (by_top program limit roots) (topmost roots.frames)

-- the topmost frame is at a place: putting it there changes nothing
abbrev pub IsAt : Roots → ℕ → Type 0
IsAt roots place = placed roots place ≡ roots

-- an initialisation stands on top: of one of so many classes, before which few come; and the constants of the one that it looks at next are
-- numbers
abbrev pub IsOnTop : Roots → (class place : ℕ) → Type 0
IsOnTop roots class place = Some (shown.Initialising class place) ≡ topmost roots.frames

abbrev pub ClassBelow : (count : ℕ) → Roots → Type 0
ClassBelow count roots = (class place : ℕ) → IsOnTop roots class place → class < count

abbrev pub HasFewParents : Linked → Roots → Type 0
HasFewParents program roots = (class place : ℕ) → IsOnTop roots class place → length (initial_parents program.classes class) + 1 < 2 ^ 32

abbrev pub NumbersNext : Linked → Roots → Type 0
NumbersNext program roots =
    (class place parent : ℕ) → IsOnTop roots class place → slice_get (initial_parents program.classes class) place ≡ Some parent → NumbersOnly program parent
