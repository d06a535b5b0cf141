-- What instructions take from the operand stack (JVMS §6.5): the sorts of what they take, the topmost first.
use Rattle.std.specs.Prelude.{List, [], ◌∷◌, ◌++◌, replicate, Option, Some, None}
use Rattle.cb_shapes.specs.declared.action.Action.{Action}
use Rattle.cb_shapes.specs.declared.action.Action.TheVariants as actions
use Rattle.cb_shapes.specs.declared.sort.Sort.{Sort}
use Rattle.cb_shapes.specs.declared.sort.Sort.TheVariants.{Int, Reference}
use Rattle.cb_shapes.specs.Computations.{takes as computation_takes}
use Rattle.cb_shapes.specs.Conditions.{takes as condition_takes}
use Rattle.cb_shapes.specs.Sorts.{sort_of_elements}

-- of one sort or of none
abbrev given : Option Sort → List Sort
given None = []
given (Some sort) = sort ∷ []

-- a field takes its value, and a method its arguments, whose sorts are given. Shuffles go by categories (Shuffles.antt)
abbrev pub takes : List Sort → Action → List Sort
takes member (actions.Compute computation) = computation_takes computation
takes member (actions.Store sort local) = sort ∷ []
takes member (actions.Branch condition) = condition_takes condition
takes member actions.Switch = Int ∷ []
takes member (actions.LoadNumber elements) = Int ∷ Reference ∷ []
takes member (actions.StoreNumber elements) = sort_of_elements elements ∷ Int ∷ Reference ∷ []
takes member actions.Length = Reference ∷ []
takes member actions.LoadReference = Int ∷ Reference ∷ []
takes member actions.StoreReference = Reference ∷ Int ∷ Reference ∷ []
takes member (actions.GetField index) = Reference ∷ []
takes member (actions.PutField index) = member ++ Reference ∷ []
takes member (actions.PutStatic index) = member
takes member (actions.NewNumbers code) = Int ∷ []
takes member (actions.NewReferences index) = Int ∷ []
takes member (actions.NewArrays index dimensions) = replicate dimensions Int
takes member (actions.Cast index) = Reference ∷ []
takes member (actions.IsInstance index) = Reference ∷ []
takes member actions.Throw = Reference ∷ []
takes member (actions.Return sort) = given sort
takes member (actions.InvokeStatic index) = member
takes member (actions.InvokeSpecial index) = member ++ Reference ∷ []
takes member (actions.InvokeVirtual index) = member ++ Reference ∷ []
takes member (actions.InvokeInterface index count) = member ++ Reference ∷ []
takes member other = []
