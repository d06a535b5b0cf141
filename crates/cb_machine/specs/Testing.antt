-- Instructions that ask for the class of an object, and athrow (JVMS §6.5, checkcast, instanceof and athrow).
use Rattle.std.specs.Prelude.{pos, ℕ, Bool, true, false, List, [], ◌∷◌, Option, Some, None, option_and_then, option_map, zero, suc}
use Rattle.cb_link.specs.Subtypes.{instance}
use Rattle.cb_link.specs.declared.named.Named.{Named}
use Rattle.cb_link.specs.declared.named.Named.TheVariants as meanings
use Rattle.cb_plain.specs.declared.value.Value.{Value}
use Rattle.cb_plain.specs.declared.value.Value.TheVariants.{Int, Ref}
use Rattle.cb_plain.specs.Updates.{object_at, with_pending}
use Rattle.cb_shapes.specs.declared.sort.Sort.TheVariants as sorts
use Rattle.cb_machine.specs.Arrays.{with_object}
use Rattle.cb_machine.specs.Plans.{Plan, leaving}
use Rattle.cb_machine.specs.Sites.{class_cast}
use Rattle.cb_machine.specs.Standing.{Now, leaves, taken, named_here}
use Rattle.cb_machine.specs.Throwing.{throws}

-- whether the object of a serial is an instance of a kind: null is none
abbrev pub is_instance : Now → ℕ → ℕ → Option Bool
is_instance now kind zero = Some false
is_instance now kind (suc place) = option_map (λ object. instance now.machine.program object.kind kind) (object_at now.state (suc place))

-- checkcast, which null passes
abbrev casts_to : Now → ℕ → List Value → Bool → Option Plan
casts_to now serial rest true = leaves now (Ref serial ∷ rest)
casts_to now serial rest false = Some (throws now.machine now.state class_cast)

abbrev casts_taken : Now → ℕ → List Value × List Value → Option Plan
casts_taken now kind (Ref zero ∷ [], rest) = casts_to now 0 rest true
casts_taken now kind (Ref (suc place) ∷ [], rest) = option_and_then (casts_to now (suc place) rest) (is_instance now kind (suc place))
casts_taken now kind other = None

abbrev casts_named : Now → Named → Option Plan
casts_named now (meanings.Kind kind) = option_and_then (casts_taken now kind) (taken (sorts.Reference ∷ []) now.frame.stack)
casts_named now other = None

abbrev pub casts : Now → Option Plan
casts now = casts_named now (named_here now)

-- instanceof
abbrev pub int_of : Bool → Value
int_of true = Int (pos 1)
int_of false = Int (pos 0)

abbrev asks_taken : Now → ℕ → List Value × List Value → Option Plan
asks_taken now kind (Ref serial ∷ [], rest) = option_and_then (λ is. leaves now (int_of is ∷ rest)) (is_instance now kind serial)
asks_taken now kind other = None

abbrev asks_named : Now → Named → Option Plan
asks_named now (meanings.Kind kind) = option_and_then (asks_taken now kind) (taken (sorts.Reference ∷ []) now.frame.stack)
asks_named now other = None

abbrev pub asks_kind : Now → Option Plan
asks_kind now = asks_named now (named_here now)

-- athrow: the exception is pending, and the frame stays as it is
abbrev throws_taken : Now → List Value × List Value → Option Plan
throws_taken now (Ref serial ∷ [], rest) = with_object now serial (λ object. Some (leaving (with_pending now.state serial)))
throws_taken now other = None

abbrev pub throws_object : Now → Option Plan
throws_object now = option_and_then (throws_taken now) (taken (sorts.Reference ∷ []) now.frame.stack)
