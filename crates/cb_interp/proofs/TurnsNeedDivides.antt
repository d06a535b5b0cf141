-- Turns in which the exception of a division by zero is thrown: its message has an object, or is placed before it.
use Rattle.std.proofs.Common.{◌/◌, ◌≡◌, ◌∙◌, add-one, ap, ap₂, append_assoc, refl, sym, subst, arith, ℕ, zero, suc, ◌+◌, ◌<◌, ◌≤◌, ◌^◌, Bool, true, IsTrue, List, [], ◌∷◌, ◌++◌, length, map, Option, Some, None, is_some}
use Rattle.std.proofs.lemmas.Bool.{false≢true}
use Rattle.std.proofs.lemmas.List.{length-append, length-map}
use Rattle.std.proofs.lemmas.List.Sums.{sum_by-cons}
use Rattle.std.specs.List.{flat_map, list_all}
use Rattle.std.proofs.lemmas.Option.{none-some, same_Some, slice_get-map}
use Rattle.std.specs.Prelude.{option_map, slice_get}
use Rattle.std.specs.declared.result.Result.TheVariants.{Err, Ok}
use Rattle.cb_heap.proofs.Laws.{closed_entry, closed_new, constants_of, content_of_object, front_of, held_from, held_further, may_point_there, placed_there, rest_of, roots_again, tables_of, there_before}
use Rattle.cb_heap.specs.Closed.{Collects, IsClosed, reference_in_word}
use Rattle.cb_heap.specs.Follows.{Follows}
use Rattle.cb_heap.specs.Grants.{IsBounded, words_granted}
use Rattle.cb_interp.proofs.TurnsNeedSerials.{HasSerials, serials_all}
use Rattle.cb_heap.specs.Kept.{content_at, is_held, is_kept, is_reference, keep, residents, with_content}
use Rattle.cb_heap.specs.Reading.{View, read_roots, seen, serial_of}
use Rattle.cb_heap.specs.Rules.{Rules}
use Rattle.cb_heap.specs.Store.{ReadsAsBefore, may_point}
use Rattle.cb_heap.specs.declared.no_room.NoRoom.{NoRoom}
use Rattle.cb_link.specs.Program.{Linked}
use Rattle.cb_machine.specs.Computing.{throws_by_zero}
use Rattle.cb_machine.specs.Machine.{Machine, kind_of_site, listed, or_zero}
use Rattle.cb_machine.specs.Plans.{Plan, asked, made, object_of}
use Rattle.cb_machine.specs.Sites.{arithmetic, constant_characters, constant_strings}
use Rattle.cb_machine.specs.Steps.{asked_of, plan}
use Rattle.cb_machine.specs.Strings.{unit_contents}
use Rattle.cb_machine.specs.Throwing.{exception_contents}
use Rattle.cb_plain.specs.Reach.{root_references, unless_null}
use Rattle.cb_plain.specs.Requests.{add_want, spent, words_at}
use Rattle.cb_plain.specs.Roots.{with_entry, with_pending}
use Rattle.cb_plain.specs.State.{Object, Reference, Roots, State, words_of}
use Rattle.cb_plain.specs.Updates.{object_in, with_objects}
use Rattle.cb_plain.specs.declared.table.Table.TheVariants.{Constants}
use Rattle.cb_plain.specs.declared.want.Want.{Want}
use Rattle.cb_safety.specs.States.{IsTypedState}
use Rattle.cb_unwind.specs.Strings.{IsNew, constant_or_new, new_constant, units_of, with_constant}
use Rattle.cb_interp.specs.Dividing.{thrown_with}
use Rattle.cb_act.specs.Coming.{AreAllowed}
use Rattle.cb_act.specs.Steps.{view_of}
use Rattle.cb_act.specs.Placing.{exception_size, with_view}
use Rattle.cb_act.specs.Turning.{Asked, Moment, Outside, RoomMade, TurnMade, TurnRefused, facts_behind, state_of}
use Rattle.cb_act.proofs.Laws.{by_zero_kept, length_kept}
use Rattle.cb_interp.proofs.Allowed.{allowed_collected, allowed_next}
use Rattle.cb_interp.proofs.FollowTexts.{message_pair, text_pair}
use Rattle.cb_interp.proofs.TurnsMade.{collected, collected_keeping, collected_plan}
use Rattle.cb_interp.proofs.TurnsNeedLoads.{Enough, enough, one_time, text_wants, units_count}

-- ---- an exception with a message

held_there : (objects : List (Option Object)) (serial : ℕ) (object : Object) → object_in objects serial ≡ Some object → IsTrue (is_held objects serial)
held_there objects zero object is = refl
held_there objects (suc place) object is = ap is_some is

kept_held : (objects : List (Option Object)) (serial : ℕ) → IsTrue (is_kept objects serial) → IsTrue (is_held objects serial)
kept_held objects zero is = refl
kept_held objects (suc place) is = is

some_object : (found : Option Object) → is_some found ≡ true → (object : Object) × (found ≡ Some object)
some_object None is = absurd (false≢true is)
some_object (Some object) is = (object, refl)

abbrev blank : ℕ → Object
blank kind = object_of arithmetic kind (exception_contents 0 0)

messaged_at : (objects : List (Option Object)) (kind message : ℕ)
    → with_content (objects ++ Some (blank kind) ∷ []) (suc (length objects)) 0 (Reference message) ≡ objects ++ Some (object_of arithmetic kind (exception_contents message 0)) ∷ []
messaged_at [] kind message = refl
messaged_at (entry ∷ objects) kind message = ap (λ (rest : List (Option Object)). entry ∷ rest) (messaged_at objects kind message)

messaged : (objects : List (Option Object)) (kind message : ℕ)
    → with_content (objects ++ Some (blank kind) ∷ []) (length objects + 1) 0 (Reference message) ≡ objects ++ Some (object_of arithmetic kind (exception_contents message 0)) ∷ []
messaged objects kind message =
    ap (λ (serial : ℕ). with_content (objects ++ Some (blank kind) ∷ []) serial 0 (Reference message)) (add-one (length objects)) ∙ messaged_at objects kind message

module _ (objects : List (Option Object)) (before after : ℕ → ℕ) (at message kind : ℕ) (again : ReadsAsBefore objects before after)
    (serial : serial_of after at ≡ length objects + 1) (there : IsTrue (is_kept objects (serial_of before message))) where
  abbrev more : List (Option Object)
  more = objects ++ Some (blank kind) ∷ []

  same : serial_of after message ≡ serial_of before message
  same = again message (kept_held objects (serial_of before message) there)

  pub word_there : IsTrue (is_reference (content_at more (serial_of after at) 0))
  word_there =
      subst (λ (serial : ℕ). IsTrue (is_reference (content_at more serial 0))) (sym serial)
      (ap is_reference (content_of_object more (length objects + 1) 0 (blank kind) (placed_there objects (blank kind))))

  pub message_held : IsTrue (is_held more (serial_of after message))
  message_held =
      subst (λ (serial : ℕ). IsTrue (is_held more serial)) (sym same)
      (held_further objects (blank kind) (serial_of before message) (kept_held objects (serial_of before message) there))

  pub message_allowed : (allows : ℕ → ℕ → Bool) → ((object : Object) → object_in objects (serial_of before message) ≡ Some object → allows arithmetic object.site ≡ true)
      → IsTrue (may_point allows more (serial_of after at) (serial_of after message))
  message_allowed allows allowed =
      let (object, is) = some_object (object_in objects (serial_of before message)) there in
      may_point_there allows more (serial_of after at) (serial_of after message) (blank kind) object
      (ap (object_in more) serial ∙ placed_there objects (blank kind))
      (ap (object_in more) same ∙ there_before objects (blank kind) (serial_of before message) object is) (allowed object is)

  pub thrown_so : (held : Roots) → IsTrue (list_all (is_held objects) (root_references (read_roots before held))) → (kept : List (Option Object)) (index : ℕ → ℕ)
      → kept ≡ with_content more (serial_of after at) 0 (Reference (serial_of after message)) → index ≡ after
      → seen index kept (with_pending held at) ≡ thrown_with arithmetic kind (serial_of before message) (seen before objects held)
  thrown_so held all kept index put places =
      ap (λ (index : ℕ → ℕ). seen index kept (with_pending held at)) places
      ∙ ap (λ (kept : List (Option Object)). seen after kept (with_pending held at))
      (put ∙ ap₂ (λ (serial message : ℕ). with_content more serial 0 (Reference message)) serial same ∙ messaged objects kind (serial_of before message))
      ∙ ap₂ (λ (roots : Roots) (serial : ℕ). as_view (with_pending roots serial)) (roots_again objects before after again held all) serial
    where
      as_view : Roots → View
      as_view roots = record { roots = roots; objects = objects ++ Some (object_of arithmetic kind (exception_contents (serial_of before message) 0)) ∷ [] }

-- ---- the message is there

entry_held : (objects : List (Option Object)) (table : List ℕ) (place entry : ℕ) → IsTrue (list_all (is_held objects) (flat_map unless_null table))
    → slice_get table place ≡ Some entry → IsTrue (is_held objects entry)
entry_held objects [] place entry all is = absurd (none-some entry is)
entry_held objects (first ∷ table) zero entry all is =
    subst (λ (serial : ℕ). IsTrue (is_held objects serial)) (same_Some first entry is)
    (held_from objects first (front_of (is_held objects) (unless_null first) (flat_map unless_null table) all))
entry_held objects (first ∷ table) (suc place) entry all is = entry_held objects table place entry (rest_of (is_held objects) (unless_null first) (flat_map unless_null table) all) is

-- the object of a table's entry is kept, where there is one
module _ (index : ℕ → ℕ) (kept : List (Option Object)) (held : Roots) (text message : ℕ) (closed : IsClosed (seen index kept held))
    (entry : slice_get held.tables.constants text ≡ Some message) (known : IsNew held text → ⊥) where
  read_there : slice_get (map (serial_of index) held.tables.constants) text ≡ Some (serial_of index message)
  read_there = slice_get-map (serial_of index) held.tables.constants text ∙ ap (option_map (serial_of index)) entry

  pub message_kept : IsTrue (is_kept kept (serial_of index message))
  message_kept =
      go message entry (entry_held kept (read_roots index held).tables.constants text (serial_of index message)
      (constants_of (is_held kept) (read_roots index held).tables (tables_of (is_held kept) (read_roots index held) closed.roots)) read_there)
    where
      go : (message : ℕ) → slice_get held.tables.constants text ≡ Some message → IsTrue (is_held kept (serial_of index message)) → IsTrue (is_kept kept (serial_of index message))
      go zero entry is = absurd (known (ap or_zero entry))
      go (suc place) entry is = is

  -- and it is the one that the machine takes
  pub known_constant : (program : Linked) → with_constant program text (seen index kept held) ≡ (serial_of index message, seen index kept held)
  known_constant program = go message entry (ap or_zero read_there) where
    go : (message : ℕ) → slice_get held.tables.constants text ≡ Some message → listed (map (serial_of index) held.tables.constants) text ≡ serial_of index message
        → with_constant program text (seen index kept held) ≡ (serial_of index message, seen index kept held)
    go zero entry is = absurd (known (ap or_zero entry))
    go (suc place) entry is = ap (constant_or_new program text (seen index kept held)) is

-- ---- or it is placed

none_held : (test : ℕ → Bool) (units : List ℕ) → IsTrue (list_all test (flat_map reference_in_word (unit_contents units)))
none_held test [] = refl
none_held test (unit ∷ units) = none_held test units

one_held : (test : ℕ → Bool) (serial : ℕ) → IsTrue (test serial) → IsTrue (list_all test (unless_null serial ++ []))
one_held test zero is = refl
one_held test (suc place) is = rw is refl

null_held : (test : ℕ → Bool) (serial : ℕ) → IsTrue (test serial) → IsTrue (list_all test (unless_null serial))
null_held test zero is = refl
null_held test (suc place) is = rw is refl

module _ (program : Linked) (text : ℕ) (view : View) (closed : IsClosed view) where
  abbrev array : Object
  array = object_of constant_characters (kind_of_site program constant_characters) (unit_contents (units_of program text))

  abbrev string : Object
  string = object_of constant_strings (kind_of_site program constant_strings) (Reference (length view.objects + 1) ∷ [])

  abbrev one : List (Option Object)
  one = view.objects ++ Some array ∷ []

  abbrev two : List (Option Object)
  two = one ++ Some string ∷ []

  first : IsClosed (record { roots = view.roots; objects = one })
  first = closed_new view array closed (none_held (is_held one) (units_of program text))

  pub text_closed : IsClosed (record { roots = view.roots; objects = two })
  text_closed =
      closed_new (record { roots = view.roots; objects = one }) string first
      (one_held (is_held two) (length view.objects + 1)
      (held_further one string (length view.objects + 1) (held_there one (length view.objects + 1) array (placed_there view.objects array))))

  last_serial : length one + 1 ≡ length view.objects + 2
  last_serial = let both : length one ≡ length view.objects + 1 = length-append view.objects (Some array ∷ []) in omega (arith, both)

  last : object_in two (length view.objects + 2) ≡ Some string
  last = subst (λ (serial : ℕ). object_in two serial ≡ Some string) last_serial (placed_there one string)

  abbrev Stands : List (Option Object) → Type 0
  Stands objects =
      IsTrue (list_all (is_held objects) (root_references (with_entry view.roots Constants text (length view.objects + 2)))) × IsTrue (is_kept objects (length view.objects + 2))

  pub text_stands : IsTrue (list_all (is_held (new_constant program text view).1.objects) (root_references (new_constant program text view).1.roots))
      × IsTrue (is_kept (new_constant program text view).1.objects (new_constant program text view).0)
  text_stands =
      subst Stands (append_assoc view.objects (Some array ∷ []) (Some string ∷ [])) (
        closed_entry (is_held two) view.roots Constants text (length view.objects + 2) text_closed.roots
            (null_held (is_held two) (length view.objects + 2) (held_there two (length view.objects + 2) string last)),
        ap is_some last,
      )

pub text_count : (program : Linked) (text : ℕ) (view : View) → length (new_constant program text view).1.objects ≡ length view.objects + 2
text_count program text view =
    length-append view.objects
    (Some (object_of constant_characters (kind_of_site program constant_characters) (unit_contents (units_of program text)))
    ∷ Some (object_of constant_strings (kind_of_site program constant_strings) (Reference (length view.objects + 1) ∷ [])) ∷ [])

-- the table of a typed state has as many entries as there are texts
pub message_there : (program : Linked) (index : ℕ → ℕ) (kept : List (Option Object)) (held : Roots) (outside : Outside)
    → IsTypedState program (state_of (seen index kept held) outside) → 0 < length program.constants → 0 < length held.tables.constants
message_there program index kept held outside typed some =
    let whole : length (map (serial_of index) held.tables.constants) ≡ length program.constants = typed.roots.tables.constants.count in
    let same = length-map held.tables.constants (serial_of index) in
    omega (arith, whole, same, some)

-- ---- the step

-- what is asked for
abbrev pub divide_wants : Linked → List Want
divide_wants program = add_want (text_wants program 0) (record { site = arithmetic; words = 6 })

abbrev pub exception_wants : List Want
exception_wants = record { site = arithmetic; words = 6 } ∷ []

-- what is granted is enough for all three
pub divide_granted : (program : Linked) (objects : ℕ) (fixed : Bool) (granted wants : List Want) → HasSerials fixed objects → granted ≡ wants → wants ≡ divide_wants program
    → length (units_of program 0) < 2 ^ 32 → IsBounded fixed objects wants → Enough program 0 objects granted × (objects + 2 + 1 < 2 ^ 63)
divide_granted program objects fixed granted wants grows is asked few bounded =
    let both =
    enough program 0 objects exception_wants few (subst (λ (wants : List Want). objects + 1 + words_granted wants / 3 < 2 ^ 63) asked (serials_all fixed objects wants grows bounded)) in
    let six : words_granted exception_wants ≡ 6 + 0 = sum_by-cons (λ (want : Want). want.words) (record { site = arithmetic; words = 6 }) [] in
    let left = both.1 in (
      subst (Enough program 0 objects) (sym (is ∙ asked)) both.0,
      omega (arith, left, six),
    )

pub exception_granted : (program : Linked) (granted after : List Want) → granted ≡ divide_wants program
    → after ≡ spent (spent granted constant_characters (words_of (length (units_of program 0)))) constant_strings (words_of 1) → words_of exception_size ≤ words_at after arithmetic
exception_granted program granted after is left =
    subst (λ (after : List Want). words_of exception_size ≤ words_at after arithmetic)
    (sym (left ∙ ap (λ (granted : List Want). spent (spent granted constant_characters (words_of (length (units_of program 0)))) constant_strings (words_of 1)) is)) (omega arith)

module _ (machine : Machine) (state : State) where
  abbrev message_array : Object
  message_array = object_of constant_characters (kind_of_site machine.program constant_characters) (unit_contents (units_of machine.program 0))

  abbrev message_string : Object
  message_string = object_of constant_strings (kind_of_site machine.program constant_strings) (Reference (length state.objects + 1) ∷ [])

  abbrev left_as : ℕ → ℕ → List (Option Object) → State
  left_as pending serial objects =
      with_view state (record {
        roots = with_pending (with_entry state.roots Constants 0 serial) pending;
        objects = objects ++ Some (object_of arithmetic (kind_of_site machine.program arithmetic) (exception_contents serial 0)) ∷ [];
      })

  third : length state.objects + 1 + 1 + 1 ≡ length (state.objects ++ Some message_array ∷ Some message_string ∷ []) + 1
  third =
      let both : length (state.objects ++ Some message_array ∷ Some message_string ∷ []) ≡ length state.objects + 2 =
      length-append state.objects (Some message_array ∷ Some message_string ∷ []) in omega (arith, both)

  zero_made : left_as (length state.objects + 1 + 1 + 1) (length state.objects + 1 + 1) ((state.objects ++ Some message_array ∷ []) ++ Some message_string ∷ [])
      ≡ left_as (length (state.objects ++ Some message_array ∷ Some message_string ∷ []) + 1) (length state.objects + 2) (state.objects ++ Some message_array ∷ Some message_string ∷ [])
  zero_made =
      let next : length state.objects + 1 + 1 ≡ length state.objects + 2 = omega arith in
      ap₂ (left_as (length state.objects + 1 + 1 + 1)) next (append_assoc state.objects (Some message_array ∷ []) (Some message_string ∷ []))
      ∙ ap (λ (pending : ℕ). left_as pending (length state.objects + 2) (state.objects ++ Some message_array ∷ Some message_string ∷ [])) third

  pub divided_made : made (throws_by_zero machine state)
      ≡ with_view state (thrown_with arithmetic (kind_of_site machine.program arithmetic) (with_constant machine.program 0 (view_of state)).0 (with_constant machine.program 0 (view_of state)).1)
  divided_made = go (listed state.roots.tables.constants 0) refl where
    go : (known : ℕ) → listed state.roots.tables.constants 0 ≡ known
        → made (throws_by_zero machine state)
        ≡ with_view state (thrown_with arithmetic (kind_of_site machine.program arithmetic) (with_constant machine.program 0 (view_of state)).0 (with_constant machine.program 0 (view_of state)).1)
    go (suc place) is = rw is refl
    go zero is = rw is zero_made

  pub asks_known : (place : ℕ) → listed state.roots.tables.constants 0 ≡ suc place → asked (throws_by_zero machine state) ≡ exception_wants
  asks_known place is = rw is refl

  pub asks_text : listed state.roots.tables.constants 0 ≡ 0 → asked (throws_by_zero machine state) ≡ divide_wants machine.program
  asks_text is =
      rw is
      (ap (λ (words : ℕ). add_want (add_want (add_want [] (record { site = constant_characters; words = words })) (record { site = constant_strings; words = 4 })) (record { site = arithmetic; words = 6 }))
      (one_time (words_of (length (unit_contents (units_of machine.program 0)))) ∙ ap words_of (units_count machine.program 0)))

  pub knows_known : {Facts : Type 0} (rules : Rules Facts) (facts : Facts) (place : ℕ) → listed state.roots.tables.constants 0 ≡ suc place
      → facts_behind rules facts (throws_by_zero machine state).placed ≡ rules.placed facts arithmetic exception_size
  knows_known rules facts place is = rw is refl

  pub knows_text : {Facts : Type 0} (rules : Rules Facts) (facts : Facts) → listed state.roots.tables.constants 0 ≡ 0
      → facts_behind rules facts (throws_by_zero machine state).placed
      ≡ rules.placed (rules.placed (rules.placed facts constant_characters (length (units_of machine.program 0))) constant_strings 1) arithmetic exception_size
  knows_text rules facts is =
      rw is (ap (λ (count : ℕ). rules.placed (rules.placed (rules.placed facts constant_characters count) constant_strings 1) arithmetic exception_size) (units_count machine.program 0))

module _ {Facts : Type 0} (rules : Rules Facts) (machine : Machine) (before : Moment Facts) (is : plan machine before.state ≡ Some (throws_by_zero machine before.state)) where
  -- the plan of what is kept
  pub divided_again : (middle : Moment Facts) → Collects (view_of before.state) (view_of middle.state) → middle.state ≡ with_objects before.state middle.state.objects
      → plan machine middle.state ≡ Some (throws_by_zero machine middle.state)
  divided_again middle collects same =
      let count : length (keep (residents middle.state.objects) before.state.objects) ≡ length before.state.objects =
      length_kept (residents middle.state.objects) before.state.objects (collected_keeping rules machine before middle collects same).count in
      collected_plan rules machine before middle (throws_by_zero machine before.state) collects same is
      ∙ ap {B = Option Plan} Some (sym (by_zero_kept (keep (residents middle.state.objects)) before.state count machine))
      ∙ ap (λ (state : State). Some (throws_by_zero machine state)) (sym (collected rules machine before middle collects same))

  -- what is left follows what sites allow: the exception refers to its message
  divided_objects : (allows : ℕ → ℕ → Bool) (middle : Moment Facts) → AreAllowed allows machine before.state → Collects (view_of before.state) (view_of middle.state)
      → middle.state ≡ with_objects before.state middle.state.objects → (found : ℕ × View) → with_constant machine.program 0 (view_of middle.state) ≡ found
      → Follows allows (thrown_with arithmetic (kind_of_site machine.program arithmetic) found.0 found.1).objects
  divided_objects allows middle allowed collects same found finds =
      subst (λ (found : ℕ × View). Follows allows (thrown_with arithmetic (kind_of_site machine.program arithmetic) found.0 found.1).objects) finds
      (subst (λ (state : State). Follows allows state.objects) (divided_made machine middle.state)
      (allowed_next allows machine middle.state (throws_by_zero machine middle.state) (allowed_collected rules machine allows before middle allowed collects same)
      (divided_again middle collects same)))

  pub divided_message : (allows : ℕ → ℕ → Bool) (middle : Moment Facts) → AreAllowed allows machine before.state → Collects (view_of before.state) (view_of middle.state)
      → middle.state ≡ with_objects before.state middle.state.objects → (found : ℕ × View) → with_constant machine.program 0 (view_of middle.state) ≡ found
      → (object : Object) → object_in found.1.objects found.0 ≡ Some object → allows arithmetic object.site ≡ true
  divided_message allows middle allowed collects same found finds =
      message_pair allows found.1.objects arithmetic (kind_of_site machine.program arithmetic) found.0 0 (divided_objects allows middle allowed collects same found finds)

  -- and the message to its characters
  pub divided_text : (allows : ℕ → ℕ → Bool) (middle : Moment Facts) → AreAllowed allows machine before.state → Collects (view_of before.state) (view_of middle.state)
      → middle.state ≡ with_objects before.state middle.state.objects → listed middle.state.roots.tables.constants 0 ≡ 0 → allows constant_strings constant_characters ≡ true
  divided_text allows middle allowed collects same new =
      text_pair allows machine.program 0 (view_of middle.state)
      (Some (object_of arithmetic (kind_of_site machine.program arithmetic) (exception_contents (new_constant machine.program 0 (view_of middle.state)).0 0)) ∷ [])
      (thrown_with arithmetic (kind_of_site machine.program arithmetic) (new_constant machine.program 0 (view_of middle.state)).0 (new_constant machine.program 0 (view_of middle.state)).1).objects
      refl
      (divided_objects allows middle allowed collects same (new_constant machine.program 0 (view_of middle.state))
      (ap (constant_or_new machine.program 0 (view_of middle.state)) new))

module _ {Facts : Type 0} (rules : Rules Facts) (machine : Machine) (before after : Moment Facts) (first : Want) (rest : List Want)
    (is : plan machine before.state ≡ Some (throws_by_zero machine before.state)) (asks : asked (throws_by_zero machine before.state) ≡ first ∷ rest) where
  asked_so : asked_of (plan machine before.state) ≡ first ∷ rest
  asked_so = ap asked_of is ∙ asks

  pub divided_turn : (middle : Moment Facts)
      → rules.makes_room before.facts (view_of before.state) (first ∷ rest) (Ok tt) (record { facts = middle.facts; residents = residents middle.state.objects })
      → Collects (view_of before.state) (view_of middle.state) → middle.state ≡ with_objects before.state middle.state.objects
      → after.state ≡ made (throws_by_zero machine middle.state) → after.facts ≡ facts_behind rules middle.facts (throws_by_zero machine middle.state).placed
      → TurnMade rules machine before after
  divided_turn middle ruled collects same steps knows = record {
    middle = middle;
    room = subst (λ (wants : List Want). RoomMade rules before wants middle) (sym asked_so) (Asked first rest middle ruled collects same);
    own = throws_by_zero machine middle.state;
    plans = divided_again rules machine before is middle collects same;
    steps = steps;
    knows = knows;
  }

  pub divided_refused : (reason : NoRoom)
      → rules.makes_room before.facts (view_of before.state) (first ∷ rest) (Err reason) (record { facts = after.facts; residents = residents after.state.objects })
      → Collects (view_of before.state) (view_of after.state) → after.state ≡ with_objects before.state after.state.objects → TurnRefused rules machine before reason after
  divided_refused reason ruled collects same = record {
    refused = record {
      asked = λ none. let both : first ∷ rest ≡ [] = sym asked_so ∙ none in cc both;
      ruled = subst (λ (wants : List Want). rules.makes_room before.facts (view_of before.state) wants (Err reason) (record { facts = after.facts; residents = residents after.state.objects }))
          (sym asked_so) ruled;
      collects = collects;
      same = same;
    };
  }
