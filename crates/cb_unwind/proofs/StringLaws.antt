-- Constant strings: those that are there, and new ones; and what the machine's plans leave.
use Rattle.std.proofs.Common.{◌≡◌, ◌∙◌, ap, ap₂, append_assoc, arith, refl, sym, ℕ, ◌+◌, List, [], ◌∷◌, ◌++◌, length, map, Option, Some, zero, suc}
use Rattle.std.proofs.lemmas.List.Sums.{fold_push}
use Rattle.std.proofs.lemmas.Option.{slice_get-map}
use Rattle.std.specs.Prelude.{option_map, slice_get}
use Rattle.cb_heap.proofs.Laws.{reads_entry, roots_again}
use Rattle.cb_heap.specs.Closed.{IsClosed}
use Rattle.cb_heap.specs.Reading.{View, read_roots, seen, serial_of}
use Rattle.cb_heap.specs.Store.{ReadsAsBefore}
use Rattle.cb_heap.specs.Text.{unit_contents, with_text}
use Rattle.cb_link.specs.Numbers.{or_none}
use Rattle.cb_link.specs.Program.{Linked}
use Rattle.cb_machine.specs.Machine.{Machine, kind_of_site, listed, or_zero}
use Rattle.cb_machine.specs.Plans.{Placing, One, Plan, made, object_of, objects_of, with_one}
use Rattle.cb_machine.specs.Sites.{constant_characters, constant_strings}
use Rattle.cb_machine.specs.Strings.{constant_string}
use Rattle.cb_plain.specs.declared.table.Table.TheVariants.{Constants}
use Rattle.cb_plain.specs.Roots.{with_entry}
use Rattle.cb_plain.specs.State.{Content, Object, Reference, Roots}
use Rattle.cb_unwind.specs.Steps.{view_of, with_view}
use Rattle.cb_unwind.specs.Strings.{constant_or_new, constant_sites, units_of, with_constant}

-- what a table lists, and the units of a text
pub listed_so : (table : List ℕ) (place entry : ℕ) → slice_get table place ≡ Some entry → listed table place ≡ entry
listed_so table place entry is = ap or_zero is

pub units_so : (program : Linked) (text : ℕ) (units : List ℕ) → slice_get program.constants text ≡ Some units → units ≡ units_of program text
units_so program text units is = sym (ap or_none is)

module _ (program : Linked) (index : ℕ → ℕ) (objects : List (Option Object)) (held : Roots) (text known : ℕ) (is : slice_get held.tables.constants text ≡ Some known) where
  listed_read : listed (map (serial_of index) held.tables.constants) text ≡ serial_of index known
  listed_read = ap or_zero (slice_get-map (serial_of index) held.tables.constants text) ∙ ap (λ (found : Option ℕ). or_zero (option_map (serial_of index) found)) is

  -- a new one
  abbrev entered_as : Roots → ℕ → ℕ × View
  entered_as roots serial =
      (serial, record { roots = with_entry roots Constants text serial; objects = with_text (constant_sites program) (units_of program text) objects })

  pub new_so : known ≡ 0 → IsClosed (seen index objects held) → (after : ℕ → ℕ) (kept : List (Option Object)) (at : ℕ) → ReadsAsBefore objects index after
      → serial_of after at ≡ length objects + 2 → kept ≡ with_text (constant_sites program) (units_of program text) objects
      → with_constant program text (seen index objects held) ≡ (serial_of after at, seen after kept (with_entry held Constants text at))
  new_so none closed after kept at again serial is_kept =
      ap (constant_or_new program text (seen index objects held)) (listed_read ∙ ap (serial_of index) none)
      ∙ ap (entered_as (read_roots index held)) (sym serial)
      ∙ ap (λ (roots : Roots). entered_as roots (serial_of after at)) (sym (roots_again objects index after again held closed.roots))
      ∙ ap (λ (roots : Roots). as_seen roots (with_text (constant_sites program) (units_of program text) objects)) (sym (reads_entry after held Constants text at))
      ∙ ap (as_seen (read_roots after (with_entry held Constants text at))) (sym is_kept)
    where
      as_seen : Roots → List (Option Object) → ℕ × View
      as_seen roots objects = (serial_of after at, record { roots = roots; objects = objects })

-- the machine's plan
abbrev placed_with : List (Option Object) → Placing → List (Option Object)
placed_with objects placing = objects ++ map Some (objects_of placing)

made_one : (plan : Plan) (site kind : ℕ) (contents : List Content)
    → (made (with_one plan site kind contents)).objects ≡ (made plan).objects ++ Some (object_of site kind contents) ∷ []
made_one plan site kind contents = fold_push placed_with plan.left.objects plan.placed (One site kind contents)

module _ (machine : Machine) (text : ℕ) (plan : Plan) (next : plan.next ≡ length (made plan).objects + 1) where
  abbrev array_plan : Plan
  array_plan = with_one plan constant_characters (kind_of_site machine.program constant_characters) (unit_contents (units_of machine.program text))

  both_so : (made (with_one array_plan constant_strings (kind_of_site machine.program constant_strings) (Reference plan.next ∷ []))).objects
      ≡ with_text (constant_sites machine.program) (units_of machine.program text) (made plan).objects
  both_so =
      made_one array_plan constant_strings (kind_of_site machine.program constant_strings) (Reference plan.next ∷ [])
      ∙ ap (λ (objects : List (Option Object)). objects ++ Some (string (Reference plan.next ∷ [])) ∷ [])
      (made_one plan constant_characters (kind_of_site machine.program constant_characters) (unit_contents (units_of machine.program text)))
      ∙ append_assoc (made plan).objects (Some array ∷ []) (Some (string (Reference plan.next ∷ [])) ∷ [])
      ∙ ap (λ (serial : ℕ). (made plan).objects ++ Some array ∷ Some (string (Reference serial ∷ [])) ∷ []) next
    where
      array : Object
      array = object_of constant_characters (kind_of_site machine.program constant_characters) (unit_contents (units_of machine.program text))

      string : List Content → Object
      string contents = object_of constant_strings (kind_of_site machine.program constant_strings) contents

  second : plan.next + 1 ≡ length (made plan).objects + 2
  second = omega (arith, next)

  pub constant_so : (made (constant_string machine text plan).plan ≡ with_view (made plan) (with_constant machine.program text (view_of (made plan))).1)
      × ((constant_string machine text plan).serial ≡ (with_constant machine.program text (view_of (made plan))).0)
  constant_so = go (listed plan.left.roots.tables.constants text) refl where
    go : (known : ℕ) → listed plan.left.roots.tables.constants text ≡ known
        → (made (constant_string machine text plan).plan ≡ with_view (made plan) (with_constant machine.program text (view_of (made plan))).1)
        × ((constant_string machine text plan).serial ≡ (with_constant machine.program text (view_of (made plan))).0)
    go (suc place) is = (rw is refl, rw is refl)
    go zero is = (
      rw is
          (ap₂ (λ (serial : ℕ) (objects : List (Option Object)). with_view (made plan) (record { roots = with_entry plan.left.roots Constants text serial; objects = objects })) second both_so),
      rw is second,
    )
