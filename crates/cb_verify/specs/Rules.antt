-- What instructions that name no member give for what they take (JVMS §4.10.1.9), by shape. Calls and fields are in Calls.antt,
-- and those that do more to a frame in Leaving.antt.
use Rattle.std.specs.Prelude.{ℕ, Bool, true, false, List, [], ◌∷◌, Option, Some, None, length, option_and_then, option_map, slice_get, nat_le, ◌==◌, ◌&&◌, if◌then◌else◌}
use Rattle.std.specs.List.{take_while}
use Rattle.cb_kinds.specs.Basics.{kind_number}
use Rattle.cb_names.specs.Signs.{bracket}
use Rattle.cb_plain.specs.declared.value.Value.TheVariants as values
use Rattle.cb_link.specs.declared.named.Named.{Named}
use Rattle.cb_link.specs.declared.named.Named.TheVariants as meanings
use Rattle.cb_link.specs.Named.{made_at, named}
use Rattle.cb_link.specs.Numbers.{or_none}
use Rattle.cb_shapes.specs.declared.action.Action.{Action}
use Rattle.cb_shapes.specs.declared.action.Action.TheVariants as actions
use Rattle.cb_shapes.specs.declared.sort.Sort.{Sort}
use Rattle.cb_shapes.specs.Computations.{gives}
use Rattle.cb_shapes.specs.Sorts.{sort_of_elements}
use Rattle.cb_verify.specs.declared.verification_type.VerificationType.{VerificationType}
use Rattle.cb_verify.specs.declared.verification_type.VerificationType.TheVariants.{Int, Long, Null, Object}
use Rattle.cb_verify.specs.Members.{are_any, are_numbers, are_references, element_type, is_array_of}
use Rattle.cb_verify.specs.Types.{goes_to, is_initialised, is_of, number_type}
use Rattle.cb_verify.specs.Within.{Within, kind_named, kind_of_class, kind_of_string, kind_of_throwable}

-- types taken off a stack by their sorts, the topmost first, and those behind them
abbrev pub taken : List Sort → List VerificationType → Option (List VerificationType × List VerificationType)
taken [] stack = Some ([], stack)
taken (sort ∷ sorts) [] = None
taken (sort ∷ sorts) (type ∷ stack) =
    if is_of sort type then option_map (λ more. (type ∷ more.0, more.1)) (taken sorts stack) else None

abbrev pub only_if : {Item : Type 0} → Bool → Item → Option Item
only_if true item = Some item
only_if false item = None

-- ldc, ldc_w, ldc2_w
abbrev pub constant_type : Named → Option VerificationType
constant_type (meanings.Whole (values.Int number)) = Some Int
constant_type (meanings.Whole (values.Long number)) = Some Long
constant_type (meanings.Text text) = Some (Object kind_of_string)
constant_type (meanings.Kind kind) = Some (Object kind_of_class)
constant_type other = None

-- an array that an instruction makes
abbrev pub made_type : Within → ℕ → Option VerificationType
made_type method pc =
    option_map (λ name. Object (kind_number method.program.kinds name)) (slice_get (made_at method.program method.number pc) 0)

-- how many dimensions an array of a name has
abbrev pub dimensions_of : List ℕ → ℕ
dimensions_of name = length (take_while (λ unit. unit == bracket) name)

-- an array has no more than this (§4.9.1), so what its components are has fewer
abbrev pub most_dimensions : ℕ
most_dimensions = 255

abbrev pub has_dimensions : Within → ℕ → ℕ → Bool
has_dimensions method index dimensions =
    nat_le dimensions (dimensions_of (or_none (option_and_then (slice_get method.program.kinds) (kind_named method index))))

-- what is given for what is taken, the topmost first, where the rule is met: one value at most
module _ (method : Within) (pc : ℕ) where
  abbrev pub given : Action → List VerificationType → Option (Option VerificationType)
  given (actions.Compute computation) types = Some (option_map number_type (gives computation))
  given actions.Null types = Some (Some Null)
  given (actions.Constant index) types = option_map Some (constant_type (named method.program method.number pc))
  given (actions.Branch condition) types = Some None
  given actions.Switch types = Some None
  given (actions.LoadNumber elements) (index ∷ array ∷ []) =
      only_if (is_array_of method.program (are_numbers elements) array) (Some (number_type (sort_of_elements elements)))
  given (actions.StoreNumber elements) (value ∷ index ∷ array ∷ []) = only_if (is_array_of method.program (are_numbers elements) array) None
  given actions.Length (array ∷ []) = only_if (is_array_of method.program are_any array) (Some Int)
  given actions.LoadReference (index ∷ array ∷ []) = option_map Some (element_type method.program array)
  given actions.StoreReference (value ∷ index ∷ array ∷ []) =
      only_if (is_initialised value && is_array_of method.program are_references array) None
  given (actions.NewNumbers code) types = option_map Some (made_type method pc)
  given (actions.NewReferences index) types = if has_dimensions method index most_dimensions then None else option_map Some (made_type method pc)
  given (actions.NewArrays index dimensions) types =
      if has_dimensions method index dimensions then option_map Some (made_type method pc) else None
  given (actions.Cast index) (object ∷ []) =
      if is_initialised object then option_map (λ kind. Some (Object kind)) (kind_named method index) else None
  given (actions.IsInstance index) (object ∷ []) = only_if (is_initialised object) (Some Int)
  given actions.Throw (object ∷ []) = only_if (goes_to method.program object (Object kind_of_throwable)) None
  given other types = None
