-- Arrays of arrays: what an instruction makes of them, its step, what is asked for, and what is placed: one array of the outermost dimension,
-- and all arrays of a dimension behind those of the one before, which refer to them in order (JVMS §6.5, multianewarray).
use Rattle.std.specs.Prelude.{◌≡◌, ◌<◌, ◌≤◌, ◌*◌, ◌+◌, ℕ, zero, suc, Bool, true, false, IsTrue, List, [], ◌∷◌, ◌++◌, Option, Some, drop, get_or, length, map, replicate, reverse, take}
use Rattle.std.specs.List.{list_all, range_with_len}
use Rattle.cb_frames.specs.Tops.{placed, top_stack, topmost}
use Rattle.cb_frames.specs.declared.frame.Frame.{Frame as Shown}
use Rattle.cb_frames.specs.declared.frame.Frame.TheVariants as shown
use Rattle.cb_heap.specs.Kept.{content_at, is_held, with_content}
use Rattle.cb_heap.specs.Reading.{View}
use Rattle.cb_heap.specs.Rules.{Rules}
use Rattle.cb_link.specs.Having.{site_kinds}
use Rattle.cb_link.specs.Program.{Linked}
use Rattle.cb_machine.specs.Creating.{blank_element, is_size, site_number, size_in}
use Rattle.cb_machine.specs.Machine.{Machine, kind_of_site, or_zero}
use Rattle.cb_machine.specs.Plans.{Alike, Placing, Plan, Rows, object_of, objects_of}
use Rattle.cb_plain.specs.Requests.{spent}
use Rattle.cb_plain.specs.State.{Object, Reference, Roots, State, words_of}
use Rattle.cb_plain.specs.Updates.{with_contents_in, with_roots}
use Rattle.cb_plain.specs.declared.shape.Shape.{Shape}
use Rattle.cb_plain.specs.declared.value.Value.TheVariants.{Ref}
use Rattle.cb_plain.specs.declared.want.Want.{Want}
use Rattle.cb_shapes.specs.declared.action.Action.{Action}
use Rattle.cb_shapes.specs.declared.action.Action.TheVariants as actions
use Rattle.cb_act.specs.Effects.{stacked}
use Rattle.cb_interp.specs.Fit.{IsPlacedAs}
use Rattle.cb_interp.specs.Needing.{MakesKinds, TellsDimensions}

-- whether an instruction makes arrays of arrays, and of how many dimensions
abbrev pub makes_nested_by : Option Action → Bool
makes_nested_by (Some (actions.NewArrays index dimensions)) = true
makes_nested_by other = false

abbrev pub dimensions_by : Option Action → ℕ
dimensions_by (Some (actions.NewArrays index dimensions)) = dimensions
dimensions_by other = 0

-- the sizes of arrays of arrays, the outermost first, as they are on the stack; how many arrays a dimension has, and the serial of the first
-- of them
abbrev pub sizes_on : Roots → (dimensions : ℕ) → List ℕ
sizes_on roots dimensions = reverse (map size_in (take dimensions (top_stack roots)))

abbrev pub size_of : List ℕ → ℕ → ℕ
size_of sizes dimension = get_or sizes dimension 0

abbrev pub count_of : List ℕ → ℕ → ℕ
count_of sizes zero = 1
count_of sizes (suc dimension) = count_of sizes dimension * size_of sizes dimension

abbrev pub first_of : List ℕ → (first : ℕ) → ℕ → ℕ
first_of sizes first zero = first
first_of sizes first (suc dimension) = first_of sizes first dimension + count_of sizes dimension

-- and with the site of each dimension
pub record Grid : Type 0 where
  pub site : ℕ → ℕ
  pub sizes : List ℕ

abbrev pub site_at : Linked → Option Shown → ℕ → ℕ
site_at program (Some (shown.Running method pc)) dimension = or_zero (site_number program method pc dimension)
site_at program other dimension = 0

abbrev pub grid_on : Linked → Roots → (dimensions : ℕ) → Grid
grid_on program roots dimensions = record { site = site_at program (topmost roots.frames); sizes = sizes_on roots dimensions }

-- what is looked at of the instruction and the stack: there are sites and sizes of so many dimensions
pub record HasGrid (program : Linked) (roots : Roots) (dimensions : ℕ) : Type 0 where
  pub makes : MakesKinds program roots dimensions
  pub tells : TellsDimensions program
  pub many : dimensions ≤ length (top_stack roots)
  pub sized : list_all is_size (take dimensions (top_stack roots)) ≡ true

-- the step: the outermost array takes the place of the sizes on the stack. `last` is the last dimension
abbrev pub rows_placed : Linked → Grid → (first : ℕ) → ℕ → List Placing
rows_placed program grid first zero = []
rows_placed program grid first (suc dimension) =
    rows_placed program grid first dimension
    ++ Rows (grid.site dimension) (kind_of_site program (grid.site dimension)) (first_of grid.sizes first (suc dimension)) (size_of grid.sizes dimension) (count_of grid.sizes dimension) ∷ []

abbrev pub last_placed : Linked → Grid → ℕ → Placing
last_placed program grid last =
    Alike (grid.site last) (kind_of_site program (grid.site last)) (blank_element program (kind_of_site program (grid.site last))) (size_of grid.sizes last) (count_of grid.sizes last)

abbrev pub makes_nested : Machine → State → Grid → (last pc : ℕ) → Plan
makes_nested machine state grid last pc = record {
  placed = rows_placed machine.program grid (length state.objects + 1) last ++ last_placed machine.program grid last ∷ [];
  next = first_of grid.sizes (length state.objects + 1) (suc last);
  left = with_roots state (placed (stacked state.roots (Ref (length state.objects + 1) ∷ drop (suc last) (top_stack state.roots))) pc);
}

-- what is asked for, of the dimensions below one: of so many arrays nothing where there are none
abbrev pub rows_wants : (site size count : ℕ) → List Want
rows_wants site size zero = []
rows_wants site size (suc count) = record { site = site; words = (count + 1) * words_of size } ∷ []

abbrev pub nested_wants : Grid → ℕ → List Want
nested_wants grid zero = []
nested_wants grid (suc dimension) = nested_wants grid dimension ++ rows_wants (grid.site dimension) (size_of grid.sizes dimension) (count_of grid.sizes dimension)

-- a new array, so many of them, and those of a dimension when they refer to the next
abbrev pub new_array : Linked → (site size : ℕ) → Object
new_array program site size = object_of site (kind_of_site program site) (replicate size (blank_element program (kind_of_site program site)))

abbrev pub blanks : Linked → Grid → ℕ → List (Option Object)
blanks program grid dimension = replicate (count_of grid.sizes dimension) (Some (new_array program (grid.site dimension) (size_of grid.sizes dimension)))

abbrev pub rows : Linked → Grid → (first : ℕ) → ℕ → List (Option Object)
rows program grid first dimension =
    map Some (objects_of (Rows (grid.site dimension) (kind_of_site program (grid.site dimension)) (first_of grid.sizes first (suc dimension)) (size_of grid.sizes dimension) (count_of grid.sizes dimension)))

-- what is placed of the dimensions up to one, whose arrays are blank
abbrev pub rows_above : Linked → Grid → (first : ℕ) → ℕ → List (Option Object)
rows_above program grid first zero = []
rows_above program grid first (suc dimension) = rows_above program grid first dimension ++ rows program grid first dimension

abbrev pub nested_objects : Linked → Grid → (first last : ℕ) → List (Option Object)
nested_objects program grid first last = rows_above program grid first last ++ blanks program grid last

abbrev pub made_nested : Linked → Grid → (last : ℕ) → View → View
made_nested program grid last view = record {
  roots = stacked view.roots (Ref (length view.objects + 1) ∷ drop (suc last) (top_stack view.roots));
  objects = view.objects ++ nested_objects program grid (length view.objects + 1) last;
}

-- one array is placed, and put into a word of another
abbrev pub with_row : Linked → List (Option Object) → (serial turn site size : ℕ) → List (Option Object)
with_row program objects serial turn site size =
    with_content (objects ++ Some (new_array program site size) ∷ []) serial turn (Reference (length objects + 1))

-- so many, one for each word of another
abbrev pub with_rows : Linked → List (Option Object) → (serial count site size : ℕ) → List (Option Object)
with_rows program objects serial count site size =
    with_contents_in objects serial (map Reference (range_with_len (length objects + 1) count)) ++ replicate count (Some (new_array program site size))

-- what is held is held further
abbrev pub HeldOn : (objects after : List (Option Object)) → Type 0
HeldOn objects after = (serial : ℕ) → IsTrue (is_held objects serial) → IsTrue (is_held after serial)

-- each array above a dimension refers to those of the next one, in order
abbrev pub LeadsDown : List (Option Object) → List ℕ → (first dimension : ℕ) → Type 0
LeadsDown objects sizes first dimension =
    (above turn word : ℕ) → above < dimension → turn < count_of sizes above → word < size_of sizes above
    → content_at objects (first_of sizes first above + turn) word ≡ Some (Reference (first_of sizes first (suc above) + turn * size_of sizes above + word))

-- what a store knows then, and what is left of what was granted
abbrev pub knows_rows : {Facts : Type 0} → Rules Facts → Facts → (site size count : ℕ) → Facts
knows_rows rules facts site size zero = facts
knows_rows rules facts site size (suc count) = knows_rows rules (rules.placed facts site size) site size count

abbrev pub knows_nested : {Facts : Type 0} → Rules Facts → Facts → Grid → ℕ → Facts
knows_nested rules facts grid zero = facts
knows_nested rules facts grid (suc dimension) =
    knows_rows rules (knows_nested rules facts grid dimension) (grid.site dimension) (size_of grid.sizes dimension) (count_of grid.sizes dimension)

abbrev pub spent_rows : List Want → (site words count : ℕ) → List Want
spent_rows granted site words zero = granted
spent_rows granted site words (suc count) = spent_rows (spent granted site words) site words count

-- new arrays may be of the kinds of the sites, and hold what the machine's step gives them: null, but for those of the last dimension
abbrev pub ArrayFits : Linked → List Shape → (site size : ℕ) → Type 0
ArrayFits program shapes site size =
    IsPlacedAs shapes site (kind_of_site program site) size (replicate size (blank_element program (kind_of_site program site)))

pub record GridFits (program : Linked) (shapes : List Shape) (grid : Grid) (dimensions : ℕ) : Type 0 where
  pub there : (dimension : ℕ) → dimension < dimensions → grid.site dimension < length (site_kinds program)
  pub arrays : (dimension : ℕ) → dimension < dimensions → ArrayFits program shapes (grid.site dimension) (size_of grid.sizes dimension)
  pub nulls : (dimension : ℕ) → dimension + 1 < dimensions → blank_element program (kind_of_site program (grid.site dimension)) ≡ Reference 0
