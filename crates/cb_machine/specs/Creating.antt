-- Instructions that make objects and arrays (JVMS §6.5, new, newarray, anewarray and multianewarray).
use Rattle.std.specs.Prelude.{pos, ℕ, ◌+◌, ◌*◌, Bool, true, false, List, [], ◌∷◌, map, reverse, length, replicate, Option, Some, None, option_and_then, option_map, ◌==◌, ◌&&◌, if◌then◌else◌}
use Rattle.std.specs.List.{list_all, position}
use Rattle.cb_kinds.specs.Basics.{is_reference}
use Rattle.cb_kinds.specs.declared.basic.Basic.{Basic}
use Rattle.cb_link.specs.Calls.{class_of_kind}
use Rattle.cb_link.specs.Program.{Linked}
use Rattle.cb_link.specs.Slots.{shape}
use Rattle.cb_link.specs.declared.linked.Site.{Site}
use Rattle.cb_link.specs.declared.named.Named.{Named}
use Rattle.cb_link.specs.declared.named.Named.TheVariants as meanings
use Rattle.cb_plain.specs.declared.shape.Shape.{Shape}
use Rattle.cb_plain.specs.declared.shape.Shape.TheVariants as shapes
use Rattle.cb_plain.specs.declared.value.Value.{Value}
use Rattle.cb_plain.specs.declared.value.Value.TheVariants.{Int, Ref}
use Rattle.cb_plain.specs.State.{Content, Number, blank}
use Rattle.cb_shapes.specs.declared.sort.Sort.TheVariants as sorts
use Rattle.cb_machine.specs.Arrays.{element_of}
use Rattle.cb_machine.specs.Initialising.{once_ready}
use Rattle.cb_machine.specs.Machine.{Machine, kind_of_site}
use Rattle.cb_machine.specs.Plans.{Plan, leaving, with_alike, with_one, with_rows}
use Rattle.cb_machine.specs.Sites.{negative_size}
use Rattle.cb_machine.specs.Standing.{Now, leaves_with, taken, named_here}
use Rattle.cb_machine.specs.Throwing.{throws}

-- the site of a dimension of what an instruction makes: the machine's own come first
abbrev is_site : ℕ → ℕ → ℕ → Site → Bool
is_site method pc dimension site = site.method == method && (site.place == pc && site.dimension == dimension)

abbrev pub site_number : Linked → ℕ → ℕ → ℕ → Option ℕ
site_number program method pc dimension =
    option_map (λ place. length program.fixed + place) (position (is_site method pc dimension) program.sites)

abbrev site_here : Now → ℕ → Option ℕ
site_here now dimension = site_number now.machine.program now.frame.method now.frame.pc dimension

-- the contents of a new object of a kind, and of the elements of a new array
abbrev blank_of : Shape → List Content
blank_of (shapes.Fields marks) = map blank marks
blank_of (shapes.Elements mark) = []

abbrev pub blank_fields : Linked → ℕ → List Content
blank_fields program kind = blank_of (shape program kind)

abbrev blank_element_of : Option Basic → Content
blank_element_of None = Number (pos 0)
blank_element_of (Some basic) = blank (is_reference basic)

abbrev pub blank_element : Linked → ℕ → Content
blank_element program kind = blank_element_of (element_of program kind)

-- new, once the class is ready
abbrev makes_at : Now → ℕ → Option Plan
makes_at now site =
    let plan = leaving now.state in
    let kind = kind_of_site now.machine.program site in
    leaves_with now (Ref plan.next ∷ now.frame.stack) (with_one plan site kind (blank_fields now.machine.program kind))

abbrev makes_named : Now → Named → Option Plan
makes_named now (meanings.Kind kind) =
    option_and_then (λ class. once_ready now.machine now.state class (option_and_then (makes_at now) (site_here now 0)))
    (class_of_kind now.machine.program kind)
makes_named now other = None

abbrev pub makes_object : Now → Option Plan
makes_object now = makes_named now (named_here now)

-- so many arrays of the sizes of their dimensions, from a dimension on: all of one dimension stand before those of the next
abbrev pub with_arrays : Machine → ℕ → ℕ → ℕ → ℕ → List ℕ → Plan → Option Plan
with_arrays machine method pc dimension count [] plan = Some plan
with_arrays machine method pc dimension count (size ∷ []) plan =
    option_map (λ site. with_alike plan site (kind_of_site machine.program site) (blank_element machine.program (kind_of_site machine.program site)) size count)
    (site_number machine.program method pc dimension)
with_arrays machine method pc dimension count (size ∷ sizes) plan =
    option_and_then (λ site. with_arrays machine method pc (dimension + 1) (count * size) sizes (with_rows plan site (kind_of_site machine.program site) (plan.next + count) size count))
    (site_number machine.program method pc dimension)

-- sizes are looked at before anything is placed
abbrev pub is_size : Value → Bool
is_size (Int (pos size)) = true
is_size other = false

abbrev pub size_in : Value → ℕ
size_in (Int (pos size)) = size
size_in other = 0

abbrev pub makes_sized : Now → List ℕ → List Value → Option Plan
makes_sized now sizes rest =
    let plan = leaving now.state in
    option_and_then (leaves_with now (Ref plan.next ∷ rest)) (with_arrays now.machine now.frame.method now.frame.pc 0 1 sizes plan)

abbrev pub makes_taken : Now → List Value × List Value → Option Plan
makes_taken now taken =
    if list_all is_size taken.0 then makes_sized now (reverse (map size_in taken.0)) taken.1
    else Some (throws now.machine now.state negative_size)

-- arrays of so many dimensions, the size of the last one being the topmost value
abbrev pub makes_arrays : Now → ℕ → Option Plan
makes_arrays now dimensions = option_and_then (makes_taken now) (taken (replicate dimensions sorts.Int) now.frame.stack)
