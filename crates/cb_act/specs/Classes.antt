-- What instructions that ask for the class of an object do to roots and objects (JVMS §6.5, checkcast, instanceof and athrow).
use Rattle.std.specs.Prelude.{◌≡◌, ◌<◌, ℕ, Bool, true, false, List, [], ◌∷◌, length, Option, Some, None, option_and_then, option_map, zero, suc}
use Rattle.cb_frames.specs.Tops.{top_stack}
use Rattle.cb_heap.specs.Reading.{View}
use Rattle.cb_kinds.specs.declared.basic.Basic.{Basic}
use Rattle.cb_kinds.specs.declared.basic.Basic.TheVariants as basics
use Rattle.cb_link.specs.Program.{Linked}
use Rattle.cb_link.specs.Subtypes.{instance}
use Rattle.cb_machine.specs.Arrays.{fits_kind}
use Rattle.cb_machine.specs.Sites.{class_cast}
use Rattle.cb_machine.specs.Standing.{taken}
use Rattle.cb_machine.specs.Testing.{int_of}
use Rattle.cb_plain.specs.Roots.{with_pending}
use Rattle.cb_plain.specs.State.{Object}
use Rattle.cb_plain.specs.Updates.{object_in}
use Rattle.cb_plain.specs.declared.value.Value.{Value}
use Rattle.cb_plain.specs.declared.value.Value.TheVariants.{Ref}
use Rattle.cb_shapes.specs.declared.sort.Sort.TheVariants as sorts
use Rattle.cb_act.specs.Objects.{Goes, Left, Throws, object_on, on_stack, unless_null}

-- whether the object of a serial is an instance of a kind: null is none
abbrev pub is_instance_in : Linked → List (Option Object) → ℕ → ℕ → Option Bool
is_instance_in program objects kind zero = Some false
is_instance_in program objects kind (suc place) = option_map (λ object. instance program object.kind kind) (object_in objects (suc place))

-- checkcast, which null passes
abbrev pub cast_to : View → Bool → Left
cast_to view true = Goes view
cast_to view false = Throws class_cast

abbrev pub cast : Linked → ℕ → View → List Value × List Value → Option Left
cast program kind view (Ref zero ∷ [], rest) = Some (Goes (on_stack view (Ref 0 ∷ rest)))
cast program kind view (Ref (suc place) ∷ [], rest) =
    option_map (cast_to (on_stack view (Ref (suc place) ∷ rest))) (is_instance_in program view.objects kind (suc place))
cast program kind view other = None

abbrev pub behind_cast : Linked → ℕ → View → Option Left
behind_cast program kind view = option_and_then (cast program kind view) (taken (sorts.Reference ∷ []) (top_stack view.roots))

-- instanceof
abbrev pub told_kind : Linked → ℕ → View → List Value × List Value → Option Left
told_kind program kind view (Ref object ∷ [], rest) =
    option_map (λ is. Goes (on_stack view (int_of is ∷ rest))) (is_instance_in program view.objects kind object)
told_kind program kind view other = None

abbrev pub behind_instance : Linked → ℕ → View → Option Left
behind_instance program kind view = option_and_then (told_kind program kind view) (taken (sorts.Reference ∷ []) (top_stack view.roots))

-- athrow: the object becomes pending, and the frame stays as it is
abbrev pub pended : View → List Value × List Value → Option Left
pended view (Ref object ∷ [], rest) =
    unless_null object (option_map (λ found. Goes (record { roots = with_pending view.roots object; objects = view.objects })) (object_in view.objects object))
pended view other = None

abbrev pub behind_throw : View → Option Left
behind_throw view = option_and_then (pended view) (taken (sorts.Reference ∷ []) (top_stack view.roots))

-- whether a reference fits elements of a type: null always does
abbrev pub fits_serial : Linked → List (Option Object) → Option Basic → ℕ → Bool
fits_serial program objects element zero = true
fits_serial program objects (Some (basics.Reference kind)) (suc place) = fits_kind program kind (object_in objects (suc place))
fits_serial program objects other (suc place) = false

-- an object at a depth of the stack is of a kind of the program
abbrev pub HasKind : Linked → (depth : ℕ) → View → Type 0
HasKind program depth view = (object : Object) → object_in view.objects (object_on view depth) ≡ Some object → object.kind < length program.kinds
