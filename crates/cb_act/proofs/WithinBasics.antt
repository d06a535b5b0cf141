-- References that pass in lists, roots and plans.
use Rattle.std.proofs.Common.{◌≡◌, ◌∙◌, ap, refl, sym, subst, arith, ℕ, pos, ◌+◌, Bool, List, [], ◌∷◌, ◌++◌, reverse, Option, Some, None, zero, suc, IsTrue}
use Rattle.std.specs.Prelude.{option_and_then, slice_get, slice_set}
use Rattle.std.specs.List.{flat_map, list_all}
use Rattle.std.proofs.lemmas.Grind.{flat_map-append}
use Rattle.std.proofs.lemmas.List.{reverse-append}
use Rattle.std.proofs.lemmas.List.Folds.{list_all-append}
use Rattle.std.proofs.lemmas.Option.{none-some, same_Some}
use Rattle.cb_heap.proofs.Laws.{closed_entry}
use Rattle.cb_link.specs.Numbers.{or_none}
use Rattle.cb_machine.specs.Machine.{Machine, kind_of_site, listed, or_zero}
use Rattle.cb_machine.specs.Plans.{Placing, Plan, One, leaving, with_left, with_one}
use Rattle.cb_machine.specs.Sites.{class_objects, constant_characters, constant_strings}
use Rattle.cb_machine.specs.Standing.{Now, at_place, goes_on, goes_to, leaves, taken}
use Rattle.cb_machine.specs.Strings.{Placed, class_object, constant_string, unit_contents, with_string}
use Rattle.cb_machine.specs.Throwing.{throwing_with, throws}
use Rattle.cb_plain.specs.declared.table.Table.{Table}
use Rattle.cb_plain.specs.declared.table.Table.TheVariants as tables
use Rattle.cb_plain.specs.declared.value.Value.{Value}
use Rattle.cb_plain.specs.Reach.{frame_references, reference_in, references_in, root_references, table_references, unless_null}
use Rattle.cb_plain.specs.Roots as roots
use Rattle.cb_plain.specs.State.{Content, Frame, Number, OfMethod, Reference, Roots, State, Tables}
use Rattle.cb_plain.specs.Updates.{with_entry}
use Rattle.cb_shapes.specs.declared.sort.Sort.{Sort}
use Rattle.cb_act.specs.Within.{IsPlanWithin, IsWithin, Pass, RootsPass, Within, WithinHere, contents_references, placed_references}
use Rattle.cb_act.proofs.KeptObjects.{parts}
use Rattle.cb_act.proofs.ObjectSteps.{front}

pub both : {X : Type 0} (test : X → Bool) (one other : List X) → IsTrue (list_all test one) → IsTrue (list_all test other) → IsTrue (list_all test (one ++ other))
both test one other first second = list_all-append test one other ∙ rw (first, second) refl

module _ (ok : ℕ → Bool) where
  -- parts of a list
  pub along : {X : Type 0} (part : X → List ℕ) (one other : List X) → Pass ok (flat_map part one) → Pass ok (flat_map part other) → Pass ok (flat_map part (one ++ other))
  along part one other first second = ap (list_all ok) (flat_map-append part one other) ∙ both ok (flat_map part one) (flat_map part other) first second

  pub along_parts : {X : Type 0} (part : X → List ℕ) (one other : List X) → Pass ok (flat_map part (one ++ other)) → Pass ok (flat_map part one) × Pass ok (flat_map part other)
  along_parts part one other all = parts ok (flat_map part one) (flat_map part other) (ap (list_all ok) (sym (flat_map-append part one other)) ∙ all)

  pub item_passes : {X : Type 0} (part : X → List ℕ) (items : List X) (place : ℕ) (item : X) → slice_get items place ≡ Some item → Pass ok (flat_map part items) → Pass ok (part item)
  item_passes part [] place item is all = absurd (none-some item is)
  item_passes part (first ∷ items) zero item is all = subst (λ each. Pass ok (part each)) (same_Some first item is) (parts ok (part first) (flat_map part items) all).0
  item_passes part (first ∷ items) (suc place) item is all = item_passes part items place item is (parts ok (part first) (flat_map part items) all).1

  pub set_passes : {X : Type 0} (part : X → List ℕ) (items : List X) (place : ℕ) (item : X) → Pass ok (flat_map part items) → Pass ok (part item)
      → Pass ok (flat_map part (slice_set items place item))
  set_passes part [] place item all new = all
  set_passes part (old ∷ items) zero item all new = both ok (part item) (flat_map part items) new (parts ok (part old) (flat_map part items) all).1
  set_passes part (old ∷ items) (suc place) item all new =
      both ok (part old) (flat_map part (slice_set items place item)) (parts ok (part old) (flat_map part items) all).0
      (set_passes part items place item (parts ok (part old) (flat_map part items) all).1 new)

  pub reverse_passes : (held : List Value) → Pass ok (references_in held) → Pass ok (references_in (reverse held))
  reverse_passes [] all = refl
  reverse_passes (value ∷ held) all =
      let own = parts ok (reference_in value) (references_in held) all in
      ap (λ values. list_all ok (references_in values)) (reverse-append (value ∷ []) held)
      ∙ along reference_in (reverse held) (value ∷ []) (reverse_passes held own.1) (both ok (reference_in value) [] own.0 refl)

  -- what is taken of a stack
  pub taken_passes : (sorts : List Sort) (stack held rest : List Value) → taken sorts stack ≡ Some (held, rest) → Pass ok (references_in stack)
      → Pass ok (references_in held) × Pass ok (references_in rest)
  taken_passes sorts stack held rest there all =
      along_parts reference_in held rest (subst (λ stack. Pass ok (references_in stack)) (front sorts stack held rest there) all)

  pub passes_unless : (serial : ℕ) → IsTrue (ok serial) → Pass ok (unless_null serial)
  passes_unless zero is = refl
  passes_unless (suc place) is = rw is refl

  -- roots
  pub from_roots : (held : Roots) → Pass ok (root_references held) → RootsPass ok held
  from_roots held all =
      let own = parts ok (flat_map frame_references held.frames ++ references_in held.statics ++ table_references held.tables ++ unless_null held.pending) (unless_null held.argument) all in
      let four = parts ok (flat_map frame_references held.frames ++ references_in held.statics ++ table_references held.tables) (unless_null held.pending) own.0 in
      let three = parts ok (flat_map frame_references held.frames ++ references_in held.statics) (table_references held.tables) four.0 in
      let two = parts ok (flat_map frame_references held.frames) (references_in held.statics) three.0 in
      record { frames = two.0; statics = two.1; tables = three.1; pending = four.1; argument = own.1 }

  pub to_roots : (held : Roots) → RootsPass ok held → Pass ok (root_references held)
  to_roots held pass =
      both ok (flat_map frame_references held.frames ++ references_in held.statics ++ table_references held.tables ++ unless_null held.pending) (unless_null held.argument)
      (both ok (flat_map frame_references held.frames ++ references_in held.statics ++ table_references held.tables) (unless_null held.pending)
      (both ok (flat_map frame_references held.frames ++ references_in held.statics) (table_references held.tables)
      (both ok (flat_map frame_references held.frames) (references_in held.statics) pass.frames pass.statics) pass.tables) pass.pending) pass.argument

  pub framed : (held : Roots) (frames : List Frame) → RootsPass ok held → Pass ok (flat_map frame_references frames) → RootsPass ok (roots.with_frames held frames)
  framed held frames pass new = record { frames = new; statics = pass.statics; tables = pass.tables; pending = pass.pending; argument = pass.argument }

  pub pended : (held : Roots) (serial : ℕ) → RootsPass ok held → Pass ok (unless_null serial) → RootsPass ok (roots.with_pending held serial)
  pended held serial pass new = record { frames = pass.frames; statics = pass.statics; tables = pass.tables; pending = new; argument = pass.argument }

  pub with_static_passes : (held : Roots) (slot : ℕ) (value : Value) → RootsPass ok held → Pass ok (reference_in value) → RootsPass ok (roots.with_static held slot value)
  with_static_passes held slot value pass new =
      record { frames = pass.frames; statics = set_passes reference_in held.statics slot value pass.statics new; tables = pass.tables; pending = pass.pending; argument = pass.argument }

  pub entered_passes : (held : Roots) (table : Table) (place serial : ℕ) → RootsPass ok held → Pass ok (unless_null serial) → RootsPass ok (roots.with_entry held table place serial)
  entered_passes held table place serial pass new = from_roots (roots.with_entry held table place serial) (closed_entry ok held table place serial (to_roots held pass) new)

  -- entries of tables
  pub listed_passes : (table : List ℕ) (place serial : ℕ) → Pass ok (flat_map unless_null table) → or_zero (slice_get table place) ≡ serial → Pass ok (unless_null serial)
  listed_passes [] place serial all is = subst (λ each. Pass ok (unless_null each)) is refl
  listed_passes (first ∷ table) zero serial all is = subst (λ each. Pass ok (unless_null each)) is (parts ok (unless_null first) (flat_map unless_null table) all).0
  listed_passes (first ∷ table) (suc place) serial all is = listed_passes table place serial (parts ok (unless_null first) (flat_map unless_null table) all).1 is

  first_two : (held : Tables) → Pass ok (table_references held) → Pass ok (flat_map unless_null held.constants) × Pass ok (flat_map unless_null held.classes)
  first_two held all =
      let five = along_parts unless_null (held.constants ++ held.classes ++ held.integers ++ held.longs ++ held.characters) held.booleans all in
      let four = along_parts unless_null (held.constants ++ held.classes ++ held.integers ++ held.longs) held.characters five.0 in
      let three = along_parts unless_null (held.constants ++ held.classes ++ held.integers) held.longs four.0 in
      let two = along_parts unless_null (held.constants ++ held.classes) held.integers three.0 in
      along_parts unless_null held.constants held.classes two.0

  -- plans
  pub left_within : (state : State) → IsWithin ok state → IsPlanWithin ok (leaving state)
  left_within state is = record { roots = is.roots; objects = is.objects; next = is.next; placed = refl }

  pub rooted_within : (state : State) (held : Roots) → IsWithin ok state → RootsPass ok held → IsWithin ok (record { roots = held; objects = state.objects; input = state.input; printed = state.printed; exit = state.exit })
  rooted_within state held is pass = record { roots = pass; objects = is.objects; next = is.next }

  pub placed_within : (plan : Plan) (placing : Placing) (count : ℕ) → IsPlanWithin ok plan → Pass ok (placed_references placing)
      → IsPlanWithin ok (record { placed = plan.placed ++ placing ∷ []; next = plan.next + count; left = plan.left })
  placed_within plan placing count is new = record {
    roots = is.roots;
    objects = is.objects;
    next = λ more. subst (λ serial. IsTrue (ok serial)) (add_further plan.next count more) (is.next (count + more));
    placed = along placed_references plan.placed (placing ∷ []) is.placed (both ok (placed_references placing) [] new refl);
  } where
    add_further : (a b c : ℕ) → a + (b + c) ≡ a + b + c
    add_further a b c = omega arith

  pub one_within : (plan : Plan) (site kind : ℕ) (contents : List Content) → IsPlanWithin ok plan → Pass ok (contents_references contents) → IsPlanWithin ok (with_one plan site kind contents)
  one_within plan site kind contents is new = placed_within plan (One site kind contents) 1 is (both ok (contents_references contents) [] new refl)

  pub next_passes : (plan : Plan) → IsPlanWithin ok plan → (more : ℕ) → Pass ok (unless_null (plan.next + more))
  next_passes plan is more = passes_unless (plan.next + more) (is.next more)

  pub own_next : (plan : Plan) → IsPlanWithin ok plan → Pass ok (unless_null plan.next)
  own_next plan is = subst (λ serial. Pass ok (unless_null serial)) (none_more plan.next) (next_passes plan is 0) where
    none_more : (a : ℕ) → a + 0 ≡ a
    none_more a = omega arith

  -- exceptions
  pub throwing_within : (machine : Machine) (site message cause : ℕ) (plan : Plan) → IsPlanWithin ok plan → Pass ok (unless_null message) → Pass ok (unless_null cause)
      → IsPlanWithin ok (throwing_with machine site message cause plan)
  throwing_within machine site message cause plan is first second =
      let made = one_within plan site (kind_of_site machine.program site) (Reference message ∷ Reference cause ∷ Reference 0 ∷ []) is
      (both ok (unless_null message) (contents_references (Reference cause ∷ Reference 0 ∷ [])) first (both ok (unless_null cause) (contents_references (Reference 0 ∷ [])) second refl)) in
      record { roots = pended plan.left.roots plan.next is.roots (own_next plan is); objects = made.objects; next = made.next; placed = made.placed }

  pub throws_within : (machine : Machine) (state : State) (site : ℕ) → IsWithin ok state → IsPlanWithin ok (throws machine state site)
  throws_within machine state site is = throwing_within machine site 0 0 (leaving state) (left_within state is) refl refl

  -- strings and class objects
  abbrev PlacedWithin : Placed → Type 0
  PlacedWithin placed = IsPlanWithin ok placed.plan × Pass ok (unless_null placed.serial)

  pub units_pass : (units : List ℕ) → Pass ok (contents_references (unit_contents units))
  units_pass [] = refl
  units_pass (unit ∷ units) = units_pass units

  pub string_within : (machine : Machine) (site characters : ℕ) (units : List ℕ) (plan : Plan) → IsPlanWithin ok plan → PlacedWithin (with_string machine site characters units plan)
  string_within machine site characters units plan is =
      let first : Plan = with_one plan characters (kind_of_site machine.program characters) (unit_contents units) in
      let own : IsPlanWithin ok first = one_within plan characters (kind_of_site machine.program characters) (unit_contents units) is (units_pass units) in
      (one_within first site (kind_of_site machine.program site) (Reference plan.next ∷ []) own (both ok (unless_null plan.next) [] (own_next plan is) refl), own_next first own)

  entered_within : (plan : Plan) (table : Table) (place serial : ℕ) → IsPlanWithin ok plan → Pass ok (unless_null serial) → IsPlanWithin ok (with_left plan (with_entry plan.left table place serial))
  entered_within plan table place serial is new =
      record { roots = entered_passes plan.left.roots table place serial is.roots new; objects = is.objects; next = is.next; placed = is.placed }

  pub constant_within : (machine : Machine) (text : ℕ) (plan : Plan) → IsPlanWithin ok plan → PlacedWithin (constant_string machine text plan)
  constant_within machine text plan is = by (listed plan.left.roots.tables.constants text) refl where
    by : (serial : ℕ) → listed plan.left.roots.tables.constants text ≡ serial → PlacedWithin (constant_string machine text plan)
    by zero there =
        let placed : Placed = with_string machine constant_strings constant_characters (or_none (slice_get machine.program.constants text)) plan in
        let own : PlacedWithin placed = string_within machine constant_strings constant_characters (or_none (slice_get machine.program.constants text)) plan is in
        rw there (entered_within placed.plan tables.Constants text placed.serial own.0 own.1, own.1)
    by (suc place) there =
        rw there (is, listed_passes plan.left.roots.tables.constants text (suc place) (first_two plan.left.roots.tables is.roots.tables).0 there)

  pub class_within : (machine : Machine) (kind : ℕ) (plan : Plan) → IsPlanWithin ok plan → PlacedWithin (class_object machine kind plan)
  class_within machine kind plan is = by (listed plan.left.roots.tables.classes kind) refl where
    by : (serial : ℕ) → listed plan.left.roots.tables.classes kind ≡ serial → PlacedWithin (class_object machine kind plan)
    by zero there =
        let made : Plan = with_one plan class_objects (kind_of_site machine.program class_objects) (Number (pos kind) ∷ []) in
        rw there (entered_within made tables.ClassObjects kind plan.next (one_within plan class_objects (kind_of_site machine.program class_objects) (Number (pos kind) ∷ []) is refl) (own_next plan is), own_next plan is)
    by (suc place) there =
        rw there (is, listed_passes plan.left.roots.tables.classes kind (suc place) (first_two plan.left.roots.tables is.roots.tables).1 there)

  -- going on
  pub goes_within : (now : Now) → WithinHere ok now → (pc : ℕ) (locals stack : List Value) (plan : Plan) → Pass ok (references_in locals) → Pass ok (references_in stack)
      → IsPlanWithin ok plan → IsPlanWithin ok (goes_to now pc locals stack plan)
  goes_within now here pc locals stack plan first second is = record {
    roots = framed plan.left.roots (OfMethod (at_place now.frame pc locals stack) ∷ now.below) is.roots
        (both ok (references_in locals ++ references_in stack) (flat_map frame_references now.below) (both ok (references_in locals) (references_in stack) first second) here.below);
    objects = is.objects;
    next = is.next;
    placed = is.placed;
  }

  pub goes_on_within : (now : Now) → WithinHere ok now → (locals stack : List Value) (plan : Plan) → Pass ok (references_in locals) → Pass ok (references_in stack)
      → IsPlanWithin ok plan → Within ok (goes_on now locals stack plan)
  goes_on_within now here locals stack plan first second is = by now.next refl where
    by : (next : Option ℕ) → now.next ≡ next → Within ok (goes_on now locals stack plan)
    by None at = rw at tt
    by (Some pc) at = rw at (goes_within now here pc locals stack plan first second is)

  pub leaves_within : (now : Now) → WithinHere ok now → (stack : List Value) → Pass ok (references_in stack) → Within ok (leaves now stack)
  leaves_within now here stack pass = goes_on_within now here now.frame.locals stack (leaving now.state) here.locals pass (left_within now.state here.state)

  pub pushes_within : (now : Now) → WithinHere ok now → (value : Value) (rest : List Value) → Pass ok (reference_in value) → Pass ok (references_in rest) → Within ok (leaves now (value ∷ rest))
  pushes_within now here value rest first second = leaves_within now here (value ∷ rest) (both ok (reference_in value) (references_in rest) first second)

  -- what comes of an answer
  pub then_within : {X : Type 0} (one : X → Option Plan) (found : Option X) → ((each : X) → found ≡ Some each → Within ok (one each)) → Within ok (option_and_then one found)
  then_within one None each = tt
  then_within one (Some item) each = each item refl
