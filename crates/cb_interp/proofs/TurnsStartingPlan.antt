-- The machine's first state: what its plan places, asks for and leaves.
use Rattle.std.proofs.Common.{◌≡◌, ◌∙◌, ap, ap₂, refl, sym, arith, ℕ, ◌+◌, ◌*◌, List, [], ◌∷◌, ◌++◌, append_assoc, length, map, replicate, Option, Some}
use Rattle.std.proofs.lemmas.Grind.{flat_map-append}
use Rattle.std.proofs.lemmas.List.{length-append, length-map, length-replicate, map-append}
use Rattle.std.proofs.lemmas.List.FromFn.{length-map-range_with_len}
use Rattle.std.proofs.lemmas.List.Sums.{fold-append}
use Rattle.std.specs.List.{flat_map, fold, range_with_len}
use Rattle.std.specs.Prelude.{slice_set}
use Rattle.cb_heap.specs.Rules.{Rules}
use Rattle.cb_link.specs.Program.{Linked}
use Rattle.cb_machine.specs.Initialising.{own_statics}
use Rattle.cb_machine.specs.Library.{system}
use Rattle.cb_machine.specs.Machine.{Machine, kind_of_site}
use Rattle.cb_machine.specs.Plans.{One, Placing, Plan, asked, leaving, made, object_of, objects_of, wants_of, with_left, with_one}
use Rattle.cb_machine.specs.Sites as sites
use Rattle.cb_machine.specs.Starting.{empty_roots, empty_state, start, start_plan}
use Rattle.cb_machine.specs.Strings.{unit_contents, with_string}
use Rattle.cb_plain.specs.Requests.{add_want}
use Rattle.cb_plain.specs.Roots.{with_argument as with_argument_of}
use Rattle.cb_plain.specs.State.{Content, Object, Reference, State, words_of}
use Rattle.cb_plain.specs.Updates.{with_argument, with_objects, with_static}
use Rattle.cb_plain.specs.declared.value.Value.TheVariants.{Ref}
use Rattle.cb_plain.specs.declared.want.Want.{Want}
use Rattle.cb_interp.specs.Arguments.{all_wants, knows_texts, stream_wants, text_wants, with_texts}
use Rattle.cb_interp.specs.Starting.{bare, blank_array, first_objects, knows_first, settled, unread, with_streams}
use Rattle.cb_act.specs.Turning.{facts_behind, knows_placed, state_of}
use Rattle.cb_interp.proofs.TurnsStartingRoots.{set_all, set_each}

abbrev string_behind : ℕ → Content
string_behind turn = Reference (2 * turn + 3)

-- ---- lists

abbrev with_placed : List (Option Object) → Placing → List (Option Object)
with_placed objects placing = objects ++ map Some (objects_of placing)

nothing_more : {X : Type 0} (items : List X) → items ++ [] ≡ items
nothing_more [] = refl
nothing_more {X} (item ∷ items) = ap (λ (rest : List X). item ∷ rest) (nothing_more items)

all_placed : (placed : List Placing) (objects : List (Option Object)) → fold with_placed objects placed ≡ objects ++ map Some (flat_map objects_of placed)
all_placed [] objects = sym (nothing_more objects)
all_placed (placing ∷ placed) objects =
    all_placed placed (with_placed objects placing) ∙ append_assoc objects (map Some (objects_of placing)) (map Some (flat_map objects_of placed))
    ∙ ap (λ (more : List (Option Object)). objects ++ more) (sym (map-append Some (objects_of placing) (flat_map objects_of placed)))

abbrev want : ℕ → ℕ → Want
want site words = record { site = site; words = words }

one_time : (words : ℕ) → (0 + 1) * words ≡ words
one_time words = omega arith

-- ---- the strings of arguments

module _ (program : Linked) where
  abbrev array_kind : ℕ
  array_kind = kind_of_site program sites.arguments

  abbrev string_kind : ℕ
  string_kind = kind_of_site program sites.argument_strings

  abbrev characters_kind : ℕ
  characters_kind = kind_of_site program sites.argument_characters

  abbrev pub texts_placed : ℕ → List (List ℕ) → List Placing
  texts_placed next [] = []
  texts_placed next (units ∷ given) =
      One sites.argument_characters characters_kind (unit_contents units) ∷ One sites.argument_strings string_kind (Reference next ∷ []) ∷ texts_placed (next + 2) given

  abbrev streams : List Placing
  streams = One sites.system_out (kind_of_site program sites.system_out) [] ∷ One sites.system_in (kind_of_site program sites.system_in) [] ∷ []

  abbrev array_placed : List (List ℕ) → Placing
  array_placed given = One sites.arguments array_kind (map string_behind (range_with_len 0 (length given)))

  abbrev pub placed_first : List (List ℕ) → List Placing
  placed_first given = array_placed given ∷ (texts_placed 2 given ++ streams)

  -- what they ask for
  texts_want : (next : ℕ) (given : List (List ℕ)) → flat_map wants_of (texts_placed next given) ≡ flat_map text_wants given
  texts_want next [] = refl
  texts_want next (units ∷ given) =
      ap₂ (λ (words : ℕ) (rest : List Want). want sites.argument_characters words ∷ want sites.argument_strings (words_of 1) ∷ rest)
      (one_time (words_of (length (unit_contents units))) ∙ ap words_of (length-map units _)) (texts_want (next + 2) given)

  first_want : (given : List (List ℕ)) → flat_map wants_of (placed_first given) ≡ all_wants given
  first_want given =
      ap₂ (λ (words : ℕ) (rest : List Want). want sites.arguments words ∷ rest)
      (one_time (words_of (length (map string_behind (range_with_len 0 (length given))))) ∙ ap words_of (length-map-range_with_len string_behind 0 (length given)))
      (flat_map-append wants_of (texts_placed 2 given) streams ∙ ap (λ (wants : List Want). wants ++ stream_wants) (texts_want 2 given))

  -- what is known when they are placed
  module _ {Facts : Type 0} (rules : Rules Facts) where
    texts_known : (next : ℕ) (given : List (List ℕ)) (facts : Facts) → fold (knows_placed rules) facts (flat_map objects_of (texts_placed next given)) ≡ knows_texts rules facts given
    texts_known next [] facts = refl
    texts_known next (units ∷ given) facts =
        texts_known (next + 2) given
        (rules.placed (rules.placed facts sites.argument_characters (length (unit_contents units))) sites.argument_strings 1)
        ∙ ap (λ (count : ℕ). knows_texts rules (rules.placed (rules.placed facts sites.argument_characters count) sites.argument_strings 1) given) (length-map units _)

    first_known : (given : List (List ℕ)) (facts : Facts) → facts_behind rules facts (placed_first given) ≡ knows_first rules facts given
    first_known given facts =
        ap (λ (objects : List Object). fold (knows_placed rules) (rules.placed facts sites.arguments (length (map string_behind (range_with_len 0 (length given))))) objects)
        (flat_map-append objects_of (texts_placed 2 given) streams)
        ∙ fold-append (knows_placed rules) (rules.placed facts sites.arguments (length (map string_behind (range_with_len 0 (length given)))))
        (flat_map objects_of (texts_placed 2 given)) (flat_map objects_of streams)
        ∙ ap (λ (facts : Facts). rules.placed (rules.placed facts sites.system_out 0) sites.system_in 0)
        (texts_known 2 given (rules.placed facts sites.arguments (length (map string_behind (range_with_len 0 (length given)))))
        ∙ ap (λ (count : ℕ). knows_texts rules (rules.placed facts sites.arguments count) given) (length-map-range_with_len string_behind 0 (length given)))

  -- the objects that they are
  texts_objects : (given : List (List ℕ)) (contents : List Content) (objects : List Object) (turn : ℕ) → length objects ≡ 2 * turn
      → with_texts program (Some (object_of sites.arguments array_kind contents) ∷ map Some objects) turn given
      ≡ Some (object_of sites.arguments array_kind (set_each string_behind contents (range_with_len turn (length given))))
      ∷ map Some (objects ++ flat_map objects_of (texts_placed (2 * turn + 2) given))
  texts_objects [] contents objects turn many =
      ap (λ (objects : List Object). Some (object_of sites.arguments array_kind contents) ∷ map Some objects) (sym (nothing_more objects))
  texts_objects (units ∷ given) contents objects turn many =
      let array : Object = object_of sites.arguments array_kind contents in
      let now : Object = object_of sites.arguments array_kind (slice_set contents turn (string_behind turn)) in
      let characters : Object = object_of sites.argument_characters characters_kind (unit_contents units) in
      let string : Object = object_of sites.argument_strings string_kind (Reference (2 * turn + 2) ∷ []) in
      let end : List Content = set_each string_behind (slice_set contents turn (string_behind turn)) (range_with_len (turn + 1) (length given)) in
      let long : length (map Some objects) ≡ length objects = length-map objects Some in
      let one : length (Some array ∷ map Some objects) + 1 ≡ 2 * turn + 2 = omega (arith, long, many) in
      let two : length (Some array ∷ map Some objects) + 2 ≡ 2 * turn + 3 = omega (arith, long, many) in
      let more : length (objects ++ characters ∷ string ∷ []) ≡ length objects + 2 = length-append objects (characters ∷ string ∷ []) in
      ap (λ (objects : List (Option Object)). with_texts program objects (turn + 1) given)
      (ap₂ (λ (one two : ℕ). Some (object_of sites.arguments array_kind (slice_set contents turn (Reference two)))
      ∷ (map Some objects ++ Some characters ∷ Some (object_of sites.argument_strings string_kind (Reference one ∷ [])) ∷ [])) one two
      ∙ ap (λ (rest : List (Option Object)). Some now ∷ rest) (sym (map-append Some objects (characters ∷ string ∷ []))))
      ∙ texts_objects given (slice_set contents turn (string_behind turn)) (objects ++ characters ∷ string ∷ []) (turn + 1) (omega (arith, more, many))
      ∙ ap (λ (objects : List Object). Some (object_of sites.arguments array_kind end) ∷ map Some objects)
      (append_assoc objects (characters ∷ string ∷ []) (flat_map objects_of (texts_placed (2 * (turn + 1) + 2) given))
      ∙ ap (λ (next : ℕ). objects ++ characters ∷ string ∷ flat_map objects_of (texts_placed next given)) (let same : 2 * (turn + 1) + 2 ≡ 2 * turn + 2 + 2 = omega arith in same))

  pub objects_first : (given : List (List ℕ)) → map Some (flat_map objects_of (placed_first given)) ≡ first_objects program given
  objects_first given =
      let count : ℕ = length given in
      let out : Object = bare program sites.system_out in
      let input : Object = bare program sites.system_in in
      let strings : List Object = flat_map objects_of (texts_placed 2 given) in
      let filled : set_each string_behind (replicate count (Reference 0)) (range_with_len 0 count) ≡ map string_behind (range_with_len 0 count) =
      set_all string_behind (replicate count (Reference 0)) count (length-replicate count (Reference 0)) in
      let array : Object = object_of sites.arguments array_kind (map string_behind (range_with_len 0 count)) in
      let texts : with_texts program (Some (blank_array program count) ∷ []) 0 given ≡ Some array ∷ map Some strings =
      texts_objects given (replicate count (Reference 0)) [] 0 refl
      ∙ ap (λ (contents : List Content). Some (object_of sites.arguments array_kind contents) ∷ map Some strings) filled in
      ap (λ (objects : List Object). Some array ∷ map Some objects) (flat_map-append objects_of (texts_placed 2 given) streams)
      ∙ ap (λ (rest : List (Option Object)). Some array ∷ rest)
      (map-append Some strings (out ∷ input ∷ []) ∙ sym (append_assoc (map Some strings) (Some out ∷ []) (Some input ∷ [])))
      ∙ ap (λ (objects : List (Option Object)). (objects ++ Some out ∷ []) ++ Some input ∷ []) (sym texts)

-- ---- of the plan

module _ (machine : Machine) where
  abbrev with_argument_string : Plan → List ℕ → Plan
  with_argument_string plan units = (with_string machine sites.argument_strings sites.argument_characters units plan).plan

  record TextsPlaced (plan after : Plan) (given : List (List ℕ)) : Type 0 where
    pub placed : after.placed ≡ plan.placed ++ texts_placed machine.program plan.next given
    pub next : after.next ≡ plan.next + 2 * length given
    pub left : after.left ≡ plan.left

  texts_so : (given : List (List ℕ)) (plan : Plan) → TextsPlaced plan (fold with_argument_string plan given) given
  texts_so [] plan = record { placed = sym (nothing_more plan.placed); next = omega arith; left = refl }
  texts_so (units ∷ given) plan =
      let behind = texts_so given (with_argument_string plan units) in
      let characters : Placing = One sites.argument_characters (kind_of_site machine.program sites.argument_characters) (unit_contents units) in
      let string : Placing = One sites.argument_strings (kind_of_site machine.program sites.argument_strings) (Reference plan.next ∷ []) in
      record {
        placed = behind.placed
            ∙ append_assoc (plan.placed ++ characters ∷ []) (string ∷ []) (texts_placed machine.program (plan.next + 1 + 1) given)
            ∙ append_assoc plan.placed (characters ∷ []) (string ∷ texts_placed machine.program (plan.next + 1 + 1) given)
            ∙ ap (λ (next : ℕ). plan.placed ++ characters ∷ string ∷ texts_placed machine.program next given)
            (let same : plan.next + 1 + 1 ≡ plan.next + 2 = omega arith in same);
        next = let more = behind.next in omega (arith, more);
        left = behind.left;
      }

  module _ (given : List (List ℕ)) (input : List ℕ) where
    abbrev array_plan : Plan
    array_plan =
        with_one (leaving (empty_state machine.program input)) sites.arguments (kind_of_site machine.program sites.arguments)
        (map string_behind (range_with_len 0 (length given)))

    abbrev texts_plan : Plan
    texts_plan = fold with_argument_string array_plan given

    texts : TextsPlaced array_plan texts_plan given
    texts = texts_so given array_plan

    abbrev streamed : Plan
    streamed =
        with_one (with_one texts_plan sites.system_out (kind_of_site machine.program sites.system_out) []) sites.system_in (kind_of_site machine.program sites.system_in) []

    placed_streams : streamed.placed ≡ placed_first machine.program given
    placed_streams =
        ap (λ (placed : List Placing). (placed ++ One sites.system_out (kind_of_site machine.program sites.system_out) [] ∷ [])
        ++ One sites.system_in (kind_of_site machine.program sites.system_in) [] ∷ []) texts.placed
        ∙ ap (λ (rest : List Placing). array_placed machine.program given ∷ rest)
        (append_assoc (texts_placed machine.program 2 given) (One sites.system_out (kind_of_site machine.program sites.system_out) [] ∷ [])
        (One sites.system_in (kind_of_site machine.program sites.system_in) [] ∷ []))

    abbrev set_streams : Plan → List ℕ → ℕ → Plan
    set_streams plan [] serial = plan
    set_streams plan (slot ∷ slots) serial = set_streams (with_left plan (with_static plan.left slot (Ref serial))) slots (serial + 1)

    abbrev ended : Plan → ℕ → List ℕ → Plan
    ended plan serial slots = let own = set_streams plan slots serial in with_left own (with_argument own.left 1)

    set_placed : (slots : List ℕ) (plan : Plan) (serial : ℕ) → (set_streams plan slots serial).placed ≡ plan.placed
    set_placed [] plan serial = refl
    set_placed (slot ∷ slots) plan serial = set_placed slots (with_left plan (with_static plan.left slot (Ref serial))) (serial + 1)

    placed_so : (start_plan machine given input).placed ≡ placed_first machine.program given
    placed_so = set_placed (own_statics machine.program system) streamed texts_plan.next ∙ placed_streams

    pub asks_so : asked (start_plan machine given input) ≡ fold add_want [] (all_wants given)
    asks_so = ap (λ (placed : List Placing). fold add_want [] (flat_map wants_of placed)) placed_so ∙ ap (fold add_want []) (first_want machine.program given)

    module _ (first second : ℕ) (slots : own_statics machine.program system ≡ first ∷ second ∷ []) where
      abbrev done : State → (one two : ℕ) → List (Option Object) → State
      done left one two objects = with_objects (with_argument (with_static (with_static left first (Ref one)) second (Ref two)) 1) objects

      objects_so : fold with_placed texts_plan.left.objects streamed.placed ≡ first_objects machine.program given
      objects_so =
          ap (λ (left : State). fold with_placed left.objects streamed.placed) texts.left ∙ ap (fold with_placed []) placed_streams
          ∙ all_placed (placed_first machine.program given) [] ∙ objects_first machine.program given

      done_so : done texts_plan.left texts_plan.next (texts_plan.next + 1) (fold with_placed texts_plan.left.objects streamed.placed)
          ≡ done (empty_state machine.program input) (2 * length given + 2) (2 * length given + 3) (first_objects machine.program given)
      done_so =
          let next = texts.next in
          ap (λ (left : State). done left texts_plan.next (texts_plan.next + 1) (fold with_placed texts_plan.left.objects streamed.placed)) texts.left
          ∙ ap₂ (λ (one two : ℕ). done (empty_state machine.program input) one two (fold with_placed texts_plan.left.objects streamed.placed))
          (let same : texts_plan.next ≡ 2 * length given + 2 = omega (arith, next) in same) (let same : texts_plan.next + 1 ≡ 2 * length given + 3 = omega (arith, next) in same)
          ∙ ap (done (empty_state machine.program input) (2 * length given + 2) (2 * length given + 3)) objects_so

      pub start_is : start machine given input
          ≡ state_of (record { roots = settled machine.program 1 (2 * length given + 2) (2 * length given + 3) (empty_roots machine.program); objects = first_objects machine.program given })
          (unread input)
      start_is =
          ap (λ (slots : List ℕ). made (ended streamed texts_plan.next slots)) slots ∙ done_so
          ∙ ap (λ (slots : List ℕ). state_of (record {
            roots = with_argument_of (with_streams slots (2 * length given + 2) (2 * length given + 3) (empty_roots machine.program)) 1;
            objects = first_objects machine.program given;
          }) (unread input)) (sym slots)

pub knows_so : {Facts : Type 0} (rules : Rules Facts) (machine : Machine) (given : List (List ℕ)) (input : List ℕ) (facts : Facts)
    → facts_behind rules facts (start_plan machine given input).placed ≡ knows_first rules facts given
knows_so rules machine given input facts = ap (facts_behind rules facts) (placed_so machine given input) ∙ first_known machine.program rules given facts
