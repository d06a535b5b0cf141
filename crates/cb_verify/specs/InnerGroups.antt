-- Which instructions that name no member the code treats alike.
use Rattle.std.specs.Prelude.{Bool, true, false, ◌||◌}
use Rattle.cb_shapes.specs.declared.action.Action.{Action}
use Rattle.cb_shapes.specs.declared.action.Action.TheVariants as actions

-- those of whose operands only the sorts matter
abbrev pub is_by_sorts : Action → Bool
is_by_sorts (actions.Compute computation) = true
is_by_sorts actions.Null = true
is_by_sorts (actions.Constant index) = true
is_by_sorts (actions.Branch condition) = true
is_by_sorts actions.Switch = true
is_by_sorts (actions.NewNumbers code) = true
is_by_sorts (actions.NewReferences index) = true
is_by_sorts (actions.NewArrays index dimensions) = true
is_by_sorts other = false

-- those that look at the one value that they take
abbrev pub is_for_one : Action → Bool
is_for_one actions.Length = true
is_for_one (actions.Cast index) = true
is_for_one (actions.IsInstance index) = true
is_for_one actions.Throw = true
is_for_one other = false

-- those on elements of arrays: loads, which have the array below an index, and stores, which have a value on top of it too
abbrev pub is_load : Action → Bool
is_load (actions.LoadNumber elements) = true
is_load actions.LoadReference = true
is_load other = false

abbrev pub is_store : Action → Bool
is_store (actions.StoreNumber elements) = true
is_store actions.StoreReference = true
is_store other = false

abbrev pub is_for_element : Action → Bool
is_for_element action = is_load action || is_store action

-- all of them
abbrev pub is_exchange : Action → Bool
is_exchange action = is_by_sorts action || is_for_one action || is_for_element action
