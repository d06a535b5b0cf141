-- Whether a program is typed (JVMS §4.10.1): what fits, and what fails first.
use Rattle.std.specs.Prelude.{◌≡◌, ℕ, ◌<◌, Bool, true, false, List, [], ◌∷◌, ◌++◌, filter, map, Option, Some, None, length, min, option_and_then, nat_le, nat_lt, not, ◌==◌, ◌||◌, ◌&&◌, if◌then◌else◌, is_none}
use Rattle.std.specs.List.{list_all, list_any}
use Rattle.cb_insn.specs.declared.insn.Insn.{Insn}
use Rattle.cb_classfile.specs.declared.handler.Handler.{Handler}
use Rattle.cb_link.specs.Program.{Linked}
use Rattle.cb_shapes.specs.declared.action.Action.{Action}
use Rattle.cb_shapes.specs.Shapes.{action_of}
use Rattle.cb_shapes.specs.Targets.{goes_on, targets_of}
use Rattle.cb_verify.specs.declared.verification_type.VerificationType.TheVariants.{Object}
use Rattle.cb_verify.specs.Expansion.{declared, declared_at, start}
use Rattle.cb_verify.specs.Frames.{Frame, frame_goes_to}
use Rattle.cb_verify.specs.Leaving.{left}
use Rattle.cb_verify.specs.Types.{goes_to}
use Rattle.cb_verify.specs.Within.{Within, kind_named, kind_of_throwable, within}

-- frames at places, by the file
abbrev pub Declared : Type 0
Declared = List (ℕ × Option Frame)

-- a frame arrives where one is declared to which it is assignable, and where none is it may go on
abbrev pub goes_to_declared : Within → Frame → Option Frame → Bool
goes_to_declared method frame None = false
goes_to_declared method frame (Some other) = frame_goes_to method.program frame other

abbrev pub arrives_at : Within → Frame → Option (Option Frame) → Bool
arrives_at method frame None = false
arrives_at method frame (Some there) = goes_to_declared method frame there

abbrev pub arrives : Within → Declared → Frame → ℕ → Bool
arrives method frames frame place = arrives_at method frame (declared_at frames place)

abbrev pub goes_on_at : Within → Frame → Option (Option Frame) → Bool
goes_on_at method frame None = true
goes_on_at method frame (Some there) = goes_to_declared method frame there

abbrev pub goes_on_to : Within → Declared → Frame → Option ℕ → Bool
goes_on_to method frames frame None = false
goes_on_to method frames frame (Some place) = goes_on_at method frame (declared_at frames place)

-- the handlers that cover a place, and the class that one catches: Throwable where it takes all
abbrev pub covers : ℕ → Handler → Bool
covers pc handler = nat_le handler.start pc && nat_lt pc handler.end

abbrev pub caught_kind : Within → Handler → Option ℕ
caught_kind method handler = if handler.catch_type == 0 then Some kind_of_throwable else kind_named method handler.catch_type

abbrev pub is_handled_as : Within → Declared → Frame → ℕ → Option ℕ → Bool
is_handled_as method frames frame place None = false
is_handled_as method frames frame place (Some kind) =
    goes_to method.program (Object kind) (Object kind_of_throwable)
    && arrives method frames (record { locals = frame.locals; stack = Object kind ∷ []; unfinished = frame.unfinished }) place

abbrev pub is_handled : Within → Declared → Frame → Handler → Bool
is_handled method frames frame handler = is_handled_as method frames frame handler.handler (caught_kind method handler)

-- whether the next instruction may be reached
abbrev pub falls : Insn → Bool
falls insn = falling (action_of insn) where
  falling : Option Action → Bool
  falling None = false
  falling (Some action) = goes_on action

-- an instruction fits, by the frame before it and what it leaves: its rule is met; what it leaves arrives at each target and at the
-- next instruction; and each handler that covers it takes the frame before it, with the exception alone on the stack
abbrev pub fits_with : Within → Declared → ℕ → Insn → Option ℕ → Option Frame → Option Frame → Bool
fits_with method frames pc insn next (Some before) (Some after) =
    list_all (arrives method frames after) (targets_of insn.operand) && (not (falls insn) || goes_on_to method frames after next)
    && list_all (is_handled method frames before) (filter (covers pc) method.body.handlers)
fits_with method frames pc insn next before after = false

-- the frame before an instruction: the declared one, or else what arrives from the one before it
abbrev pub frame_at : Declared → ℕ → Option Frame → Option Frame
frame_at frames pc arrived = at (declared_at frames pc) where
  at : Option (Option Frame) → Option Frame
  at None = arrived
  at (Some there) = there

-- what an instruction leaves, and what of it arrives at the next one
abbrev pub after : Within → ℕ × Insn → Option Frame → Option Frame
after method placed before = option_and_then (left method placed.0 placed.1) before

abbrev pub onwards : Insn → Option Frame → Option Frame
onwards insn frame = if falls insn then frame else None

-- instructions with the frames before them, behind what arrives at the first
pub record Placed : Type 0 where
  pub place : ℕ
  pub insn : Insn
  pub next : Option ℕ
  pub before : Option Frame

abbrev pub first_place : List (ℕ × Insn) → Option ℕ
first_place [] = None
first_place (placed ∷ code) = Some placed.0

abbrev pub placed_behind : Within → Declared → Option Frame → List (ℕ × Insn) → List Placed
placed_behind method frames arrived [] = []
placed_behind method frames arrived (placed ∷ code) =
    let before = frame_at frames placed.0 arrived in
    record { place = placed.0; insn = placed.1; next = first_place code; before = before }
    ∷ placed_behind method frames (onwards placed.1 (after method placed before)) code

abbrev pub placed_in : Within → List Placed
placed_in method = placed_behind method (declared method) (start method) method.body.code

abbrev pub fits : Within → Declared → Placed → Bool
fits method frames placed =
    fits_with method frames placed.place placed.insn placed.next placed.before (after method (placed.place, placed.insn) placed.before)

-- the frame with which a method begins is assignable to one that is declared at place 0
abbrev pub begins : Within → Declared → Bool
begins method frames = begun (start method) where
  begun : Option Frame → Bool
  begun None = goes_unseen (declared_at frames 0) where
    goes_unseen : Option (Option Frame) → Bool
    goes_unseen None = true
    goes_unseen (Some there) = false
  begun (Some frame) = goes_on_at method frame (declared_at frames 0)

-- the places that fail: of instructions that don't fit, the first one's where the method's beginning doesn't, and of frames that
-- can't be expanded or at which no instruction stands
abbrev pub is_lost : List Placed → ℕ × Option Frame → Bool
is_lost placed entry = is_none entry.1 || not (list_any (λ own. own.place == entry.0) placed)

abbrev pub failing_in : Within → Declared → List Placed → List ℕ
failing_in method frames placed =
    (if begins method frames then [] else 0 ∷ []) ++ map (λ own. own.place) (filter (λ own. not (fits method frames own)) placed)
    ++ map (λ entry. entry.0) (filter (is_lost placed) frames)

abbrev pub failing : Within → List ℕ
failing method = failing_in method (declared method) (placed_in method)

-- the least of some numbers
abbrev pub least_with : ℕ → Option ℕ → ℕ
least_with number None = number
least_with number (Some other) = min number other

abbrev pub least : List ℕ → Option ℕ
least [] = None
least (number ∷ numbers) = Some (least_with number (least numbers))

-- the least place that fails of a method, and of one of a program by its number: none has a method without code
abbrev pub first_failing : Within → Option ℕ
first_failing method = least (failing method)

abbrev pub fails_at : Linked → ℕ → Option ℕ
fails_at program number = option_and_then first_failing (within program number)

-- a program is typed: no place of any of its methods fails
pub record IsTyped (program : Linked) : Type 0 where
  pub fit : (number : ℕ) → number < length program.methods → fails_at program number ≡ None

-- or a method is the first with a place that fails, and this is the least one
pub record FailsFirst (program : Linked) (number pc : ℕ) : Type 0 where
  pub within : number < length program.methods
  pub fails : fails_at program number ≡ Some pc
  pub first : (other : ℕ) → other < number → fails_at program other ≡ None
