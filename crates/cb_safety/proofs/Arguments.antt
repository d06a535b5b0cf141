-- The arguments of a method that is entered fit into its local variables.
use Rattle.std.proofs.Common.{◌≡◌, ◌∙◌, ap, arith, refl, sym, subst, ℕ, suc, ◌+◌, ◌-◌, ◌*◌, ◌≤◌, pos, Bool, true, List, ◌∷◌, length, length-append, replicate, Some, nat_le, nat_lt, if◌then◌else◌}
use Rattle.std.specs.List.{flat_map}
use Rattle.std.proofs.lemmas.Bool.{and_from, le-leb, lt-ltb}
use Rattle.std.proofs.lemmas.Option.{same_Some}
use Rattle.cb_link.specs.Program.{Linked}
use Rattle.cb_machine.specs.Entering.{entered_upon}
use Rattle.cb_machine.specs.Machine.{Machine}
use Rattle.cb_machine.specs.Plans.{Plan, leaving, made}
use Rattle.cb_machine.specs.Sites.{stack_overflow}
use Rattle.cb_machine.specs.Steps.{plan}
use Rattle.cb_machine.specs.Throwing.{throws}
use Rattle.cb_plain.specs.Depth.{has_room, locals_of, slots_each, slots_of, slots_taken}
use Rattle.cb_plain.specs.State.{Frame, MethodFrame, OfMethod, State}
use Rattle.cb_plain.specs.Updates.{with_frames}
use Rattle.cb_plain.specs.declared.value.Value.{Value}
use Rattle.cb_plain.specs.declared.value.Value.TheVariants as values
use Rattle.cb_verify.specs.Within.{Within, within}
use Rattle.cb_safety.specs.Advancing.{Advances}
use Rattle.cb_safety.specs.Room.{HasRoom}
use Rattle.cb_machine.specs.Machine.{with_limit}
use Rattle.cb_safety.specs.States.{IsTypedState}
use Rattle.cb_safety.proofs.Entering.{entry_of}
use Rattle.cb_safety.proofs.Rooms.{frames_fit}

-- what was filled up to so many has no more
filled_length : (count : ℕ) (arguments : List Value) → length (locals_of count arguments) ≡ count → length (flat_map slots_of arguments) ≤ count
filled_length count arguments is =
    let held : List Value = flat_map slots_of arguments in
    omega (arith, is, length-append held (replicate (count - length held) (values.Int (pos 0))))

entered_in : (program : Linked) (state : State) (frames : List Frame) (number : ℕ) (callee : Within) (arguments : List Value) → state.roots.pending ≡ 0
    → within program number ≡ Some callee → IsTypedState program (with_frames state (OfMethod (entry_of number callee arguments) ∷ frames))
    → length (flat_map slots_of arguments) ≤ callee.body.max_locals
entered_in program state frames number callee arguments runs is typed =
    let entry : MethodFrame = entry_of number callee arguments in
    let room : HasRoom program entry 0 = frames_fit program (with_frames state (OfMethod entry ∷ frames)) entry frames typed runs refl in
    let same : room.method ≡ callee = same_Some room.method callee (sym room.within ∙ is) in
    filled_length callee.body.max_locals arguments (room.locals ∙ ap (λ (method : Within). method.body.max_locals) same)

pub entered_fits : (machine : Machine) (state : State) (frames : List Frame) (number : ℕ) (callee : Within) (arguments : List Value) → Advances machine state → state.roots.pending ≡ 0
    → within machine.program number ≡ Some callee → plan machine state ≡ Some (entered_upon machine state frames number arguments callee.body)
    → has_room machine.frames frames (callee.body.max_locals + callee.body.max_stack) ≡ true → length (flat_map slots_of arguments) ≤ callee.body.max_locals
entered_fits machine state frames number callee arguments advances runs is enters room =
    entered_in machine.program state frames number callee arguments runs is
    (subst (λ (test : Bool). IsTypedState machine.program (made (if test then leaving (with_frames state (OfMethod (entry_of number callee arguments) ∷ frames)) else throws machine state stack_overflow))) room
    (subst (λ (plan : Plan). IsTypedState machine.program (made plan))
    (same_Some advances.plan (entered_upon machine state frames number arguments callee.body) (sym advances.is ∙ enters)) advances.typed))

-- there is a limit that leaves room
abbrev limit_for : List Frame → ℕ → ℕ
limit_for frames slots = suc (length frames + slots_taken frames + slots)

room_there : (frames : List Frame) (slots : ℕ) → has_room (limit_for frames slots) frames slots ≡ true
room_there frames slots =
    and_from (nat_lt (length frames) (limit_for frames slots)) (nat_le (slots_taken frames + slots) (slots_each * limit_for frames slots))
    (lt-ltb (length frames) (limit_for frames slots) (omega arith)) (le-leb (slots_taken frames + slots) (slots_each * limit_for frames slots) (omega arith))

pub arguments_fit : (machine : Machine) (state : State) (frames : List Frame) (number : ℕ) (callee : Within) (arguments : List Value) → state.roots.pending ≡ 0
    → within machine.program number ≡ Some callee → ((limit : ℕ) → Advances (with_limit machine limit) state)
    → ((limit : ℕ) → plan (with_limit machine limit) state ≡ Some (entered_upon (with_limit machine limit) state frames number arguments callee.body))
    → length (flat_map slots_of arguments) ≤ callee.body.max_locals
arguments_fit machine state frames number callee arguments runs is advances enters =
    let limit : ℕ = limit_for frames (callee.body.max_locals + callee.body.max_stack) in
    entered_fits (with_limit machine limit) state frames number callee arguments (advances limit) runs is (enters limit) (room_there frames (callee.body.max_locals + callee.body.max_stack))
