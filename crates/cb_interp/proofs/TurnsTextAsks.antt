-- What is asked for the constants of static fields, one after the other: each text once.
use Rattle.std.proofs.Common.{◌≡◌, ◌∙◌, ◌⊎◌, inl, inr, ap, arith, eqb, refl, sym, subst, ℕ, zero, suc, ◌+◌, ◌<◌, ◌≤◌, ◌≢◌, ◌++◌, Bool, true, false, List, [], ◌∷◌, length, min, slice_set, Option, Some, None}
use Rattle.std.proofs.lemmas.Bool.{cases_lt}
use Rattle.std.proofs.lemmas.Bool.Decides.{eqb_tells}
use Rattle.std.proofs.lemmas.Grind.{flat_map-append}
use Rattle.std.proofs.lemmas.List.{length-set}
use Rattle.std.proofs.lemmas.List.Sums.{fold-append}
use Rattle.std.proofs.lemmas.Option.{none-some, same_Some}
use Rattle.std.specs.List.{flat_map, fold}
use Rattle.cb_heap.specs.Reading.{read_roots}
use Rattle.cb_kinds.specs.declared.basic.Basic.{Basic}
use Rattle.cb_link.specs.Named.{static_initial}
use Rattle.cb_link.specs.Program.{Linked}
use Rattle.cb_link.specs.Slots.{static_at, static_basic, statics}
use Rattle.cb_link.specs.declared.named.Named.{Named}
use Rattle.cb_link.specs.declared.named.Named.TheVariants as meanings
use Rattle.cb_machine.specs.Initialising.{begun_upon, own_statics}
use Rattle.cb_machine.specs.Machine.{Machine, kind_of_site, listed}
use Rattle.cb_machine.specs.Plans.{Placing, One, Plan, asked, wants_of}
use Rattle.cb_machine.specs.Sites.{constant_characters, constant_strings}
use Rattle.cb_machine.specs.Strings.{constant_string, unit_contents}
use Rattle.cb_plain.specs.Depth.{has_room}
use Rattle.cb_plain.specs.Requests.{add_want, most_words}
use Rattle.cb_plain.specs.State.{Frame, Reference, Roots, State, Tables, words_of}
use Rattle.cb_plain.specs.declared.value.Value.{Value}
use Rattle.cb_plain.specs.declared.want.Want.{Want}
use Rattle.cb_unwind.specs.Strings.{IsNew, units_of}
use Rattle.cb_interp.specs.TextStatics.{AskedAt, AskedNew, AskedNone, AsksTexts, IsNamedBefore, MayPlaceOwn, NoText, SomeTexts, declared_by, first_plan, own_text, set_initial, set_static, set_to, set_whole, text_of, text_wants, wants_if_new, wants_to}
use Rattle.cb_act.specs.Turning.{machine_of}
use Rattle.cb_interp.proofs.TurnsNeedLoads.{known_from, new_read, one_time, units_count}
use Rattle.cb_interp.proofs.TurnsTextSlots.{other_is, other_next, own_is, own_next, slots_end, slots_from, slots_whole, text_so}

-- ---- what is asked for

pub few_asked : (wants : List Want) → AsksTexts wants → length wants < 4
few_asked wants NoText = omega arith
few_asked wants (SomeTexts characters strings) = omega arith

pub asked_more : (program : Linked) (text : ℕ) (wants : List Want) → AsksTexts wants → AsksTexts (fold add_want wants (text_wants program text))
asked_more program text wants NoText = SomeTexts (min (words_of (length (units_of program text))) most_words) (min (words_of 1) most_words)
asked_more program text wants (SomeTexts characters strings) = SomeTexts (min (characters + words_of (length (units_of program text))) most_words) (min (strings + words_of 1) most_words)

-- two placings more
pub two_more : {X Y Z : Type 0} (part : X → List Y) (step : Z → Y → Z) (start : Z) (items : List X) (one other : X)
    → fold step start (flat_map part ((items ++ one ∷ []) ++ other ∷ []))
    ≡ fold step (fold step (fold step start (flat_map part items)) (flat_map part (one ∷ []))) (flat_map part (other ∷ []))
two_more part step start items one other =
    let last : flat_map part ((items ++ one ∷ []) ++ other ∷ []) ≡ flat_map part (items ++ one ∷ []) ++ flat_map part (other ∷ []) =
    flat_map-append part (items ++ one ∷ []) (other ∷ []) in
    let first : flat_map part (items ++ one ∷ []) ≡ flat_map part items ++ flat_map part (one ∷ []) = flat_map-append part items (one ∷ []) in
    let front : fold step start (flat_map part (items ++ one ∷ [])) ≡ fold step (fold step start (flat_map part items)) (flat_map part (one ∷ [])) =
    ap (fold step start) first ∙ fold-append step start (flat_map part items) (flat_map part (one ∷ [])) in
    ap (fold step start) last ∙ fold-append step start (flat_map part (items ++ one ∷ [])) (flat_map part (other ∷ []))
    ∙ ap (λ so. fold step so (flat_map part (other ∷ []))) front

module _ (machine : Machine) (text : ℕ) (plan : Plan) where
  abbrev array : Placing
  array = One constant_characters (kind_of_site machine.program constant_characters) (unit_contents (units_of machine.program text))

  abbrev string : Placing
  string = One constant_strings (kind_of_site machine.program constant_strings) (Reference plan.next ∷ [])

  both_asked : fold add_want [] (flat_map wants_of ((plan.placed ++ array ∷ []) ++ string ∷ [])) ≡ fold add_want (asked plan) (text_wants machine.program text)
  both_asked =
      two_more wants_of add_want [] plan.placed array string
      ∙ ap (λ (words : ℕ). fold add_want (asked plan) (record { site = constant_characters; words = words } ∷ record { site = constant_strings; words = words_of 1 } ∷ []))
      (one_time (words_of (length (unit_contents (units_of machine.program text)))) ∙ ap words_of (units_count machine.program text))

  text_asks : (slot serial : ℕ) → listed plan.left.roots.tables.constants text ≡ serial
      → asked (set_static slot (constant_string machine text plan)) ≡ fold add_want (asked plan) (wants_if_new machine.program text serial)
  text_asks slot zero is = rw is both_asked
  text_asks slot (suc place) is = rw is refl

whole_asks : (slot : ℕ) (value : Value) (plan : Plan) (basic : Option Basic) → asked (set_whole slot value plan basic) ≡ asked plan
whole_asks slot value plan None = refl
whole_asks slot value plan (Some basic) = refl

pub asks_to : (machine : Machine) (slot : ℕ) (plan : Plan) (named : Named)
    → asked (set_to machine slot plan named) ≡ fold add_want (asked plan) (wants_to machine.program plan.left.roots.tables.constants named)
asks_to machine slot plan meanings.Nothing = refl
asks_to machine slot plan (meanings.Kind kind) = refl
asks_to machine slot plan (meanings.Static class other) = refl
asks_to machine slot plan (meanings.Field class other) = refl
asks_to machine slot plan (meanings.Method method) = refl
asks_to machine slot plan (meanings.Whole value) = whole_asks slot value plan (static_basic machine.program slot)
asks_to machine slot plan (meanings.Text text) = text_asks machine text plan slot (listed plan.left.roots.tables.constants text) refl

-- ---- the table of constants

listed_same : (table : List ℕ) (place entry : ℕ) → place < length table → listed (slice_set table place entry) place ≡ entry
listed_same [] place entry low = absurd (omega (arith, low))
listed_same (first ∷ table) zero entry low = refl
listed_same (first ∷ table) (suc place) entry low = listed_same table place entry (omega (arith, low))

listed_other : (table : List ℕ) (place other entry : ℕ) → (other ≡ place → ⊥) → listed (slice_set table place entry) other ≡ listed table other
listed_other [] place other entry not = refl
listed_other (first ∷ table) zero zero entry not = absurd (not refl)
listed_other (first ∷ table) zero (suc other) entry not = refl
listed_other (first ∷ table) (suc place) zero entry not = refl
listed_other (first ∷ table) (suc place) (suc other) entry not = listed_other table place other entry (λ same. not (ap suc same))

some_next : (next : ℕ) → next + 1 ≡ 0 → ⊥
some_next next is = absurd (omega (arith, is))

abbrev table_by : List ℕ → (text serial entry : ℕ) → List ℕ
table_by table text zero entry = slice_set table text entry
table_by table text (suc place) entry = table

module _ (machine : Machine) (slot : ℕ) (plan : Plan) (text : ℕ) where
  text_table : (serial : ℕ) → listed plan.left.roots.tables.constants text ≡ serial
      → (set_static slot (constant_string machine text plan)).left.roots.tables.constants ≡ table_by plan.left.roots.tables.constants text serial (plan.next + 1)
  text_table zero is = rw is refl
  text_table (suc place) is = rw is refl

  text_known : text < length plan.left.roots.tables.constants → listed (set_static slot (constant_string machine text plan)).left.roots.tables.constants text ≡ 0 → ⊥
  text_known low none = go (listed plan.left.roots.tables.constants text) refl where
    go : (serial : ℕ) → listed plan.left.roots.tables.constants text ≡ serial → ⊥
    go zero is =
        some_next plan.next
        (sym (listed_same plan.left.roots.tables.constants text (plan.next + 1) low) ∙ ap (λ (table : List ℕ). listed table text) (sym (text_table zero is)) ∙ none)
    go (suc place) is =
        let now = ap (λ (table : List ℕ). listed table text) (text_table (suc place) is) in
        absurd (cc (is, now, none))

  text_other : (other : ℕ) → (other ≡ text → ⊥)
      → listed (set_static slot (constant_string machine text plan)).left.roots.tables.constants other ≡ listed plan.left.roots.tables.constants other
  text_other other not = go (listed plan.left.roots.tables.constants text) refl where
    go : (serial : ℕ) → listed plan.left.roots.tables.constants text ≡ serial
        → listed (set_static slot (constant_string machine text plan)).left.roots.tables.constants other ≡ listed plan.left.roots.tables.constants other
    go zero is = ap (λ (table : List ℕ). listed table other) (text_table zero is) ∙ listed_other plan.left.roots.tables.constants text other (plan.next + 1) not
    go (suc place) is = ap (λ (table : List ℕ). listed table other) (text_table (suc place) is)

  text_long : length (set_static slot (constant_string machine text plan)).left.roots.tables.constants ≡ length plan.left.roots.tables.constants
  text_long = go (listed plan.left.roots.tables.constants text) refl where
    go : (serial : ℕ) → listed plan.left.roots.tables.constants text ≡ serial
        → length (set_static slot (constant_string machine text plan)).left.roots.tables.constants ≡ length plan.left.roots.tables.constants
    go zero is = ap (λ (table : List ℕ). length table) (text_table zero is) ∙ length-set plan.left.roots.tables.constants text (plan.next + 1)
    go (suc place) is = ap (λ (table : List ℕ). length table) (text_table (suc place) is)

whole_tables : (slot : ℕ) (value : Value) (plan : Plan) (basic : Option Basic) → (set_whole slot value plan basic).left.roots.tables ≡ plan.left.roots.tables
whole_tables slot value plan None = refl
whole_tables slot value plan (Some basic) = refl

plain_tables : (machine : Machine) (slot : ℕ) (plan : Plan) (named : Named) → text_of named ≡ None → (set_to machine slot plan named).left.roots.tables ≡ plan.left.roots.tables
plain_tables machine slot plan meanings.Nothing is = refl
plain_tables machine slot plan (meanings.Kind kind) is = refl
plain_tables machine slot plan (meanings.Static class other) is = refl
plain_tables machine slot plan (meanings.Field class other) is = refl
plain_tables machine slot plan (meanings.Method method) is = refl
plain_tables machine slot plan (meanings.Whole value) is = whole_tables slot value plan (static_basic machine.program slot)
plain_tables machine slot plan (meanings.Text text) is = absurd (none-some text (sym is))

plain_asks : (machine : Machine) (slot : ℕ) (plan : Plan) (named : Named) → text_of named ≡ None → asked (set_to machine slot plan named) ≡ asked plan
plain_asks machine slot plan meanings.Nothing is = refl
plain_asks machine slot plan (meanings.Kind kind) is = refl
plain_asks machine slot plan (meanings.Static class other) is = refl
plain_asks machine slot plan (meanings.Field class other) is = refl
plain_asks machine slot plan (meanings.Method method) is = refl
plain_asks machine slot plan (meanings.Whole value) is = whole_asks slot value plan (static_basic machine.program slot)
plain_asks machine slot plan (meanings.Text text) is = absurd (none-some text (sym is))

-- a text that has no object when roots are read has none
pub new_from : (index : ℕ → ℕ) (held : Roots) (text : ℕ) → listed (read_roots index held).tables.constants text ≡ 0 → IsNew held text
new_from index held text none = go (listed held.tables.constants text) refl where
  go : (entry : ℕ) → listed held.tables.constants text ≡ entry → IsNew held text
  go zero is = is
  go (suc place) is =
      let found = known_from index held text (λ new. absurd (cc (is, new))) in
      absurd (cc (found.1, none))

-- ---- so far

pub record AskedSoFar (program : Linked) (limit class count : ℕ) (held : List ℕ) (whole : Plan) (slot : ℕ) (wants : List Want) : Type 0 where
  pub plan : Plan
  pub leads : fold (set_initial (machine_of program limit)) plan (slots_from program class count slot) ≡ whole
  pub asks : wants ≡ asked plan
  pub few : AsksTexts wants
  pub long : length program.constants ≤ length plan.left.roots.tables.constants
  pub known : (text : ℕ) → IsNamedBefore program class slot text → listed plan.left.roots.tables.constants text ≡ 0 → ⊥
  pub new : (text : ℕ) → (IsNamedBefore program class slot text → ⊥) → listed plan.left.roots.tables.constants text ≡ listed held text
  pub old : (text : ℕ) → (listed held text ≡ 0 → ⊥) → listed plan.left.roots.tables.constants text ≡ 0 → ⊥

module _ (program : Linked) (class : ℕ) where
  -- a text of a field before the next one is that of this field, or of one before it
  here_or_before : (slot text : ℕ) → IsNamedBefore program class (slot + 1) text → (own_text program class slot ≡ Some text) ⊎ IsNamedBefore program class slot text
  here_or_before slot text before = go (cases_lt before.other slot) where
    go : (before.other < slot) ⊎ (slot ≤ before.other) → (own_text program class slot ≡ Some text) ⊎ IsNamedBefore program class slot text
    go (inl low) = inr (record { other = before.other; low = low; is = before.is })
    go (inr high) =
        let low = before.low in
        let same : before.other ≡ slot = omega (arith, low, high) in
        inl (subst (λ (other : ℕ). own_text program class other ≡ Some text) same before.is)

  before_next : (slot text : ℕ) → IsNamedBefore program class slot text → IsNamedBefore program class (slot + 1) text
  before_next slot text before =
      let low = before.low in
      record { other = before.other; low = omega (arith, low); is = before.is }

  here_next : (slot text : ℕ) → own_text program class slot ≡ Some text → IsNamedBefore program class (slot + 1) text
  here_next slot text is = record { other = slot; low = omega arith; is = is }

module _ (program : Linked) (limit class count : ℕ) (held : List ℕ) (whole : Plan) (slot : ℕ) (wants : List Want)
    (so : AskedSoFar program limit class count held whole slot wants) (low : slot < count) where
  abbrev machine : Machine
  machine = machine_of program limit

  abbrev next : Plan
  next = set_initial machine so.plan slot

  -- where the field has no text, the tables stay
  no_text : (plan : Plan) → own_text program class slot ≡ None → plan.left.roots.tables ≡ so.plan.left.roots.tables
      → fold (set_initial machine) plan (slots_from program class count (slot + 1)) ≡ whole → asked plan ≡ asked so.plan
      → AskedSoFar program limit class count held whole (slot + 1) wants
  no_text plan none same leads asks =
      let table : listed plan.left.roots.tables.constants ≡ listed so.plan.left.roots.tables.constants = ap (λ (tables : Tables). listed tables.constants) same in
      record {
        plan = plan;
        leads = leads;
        asks = so.asks ∙ sym asks;
        few = so.few;
        long = subst (λ (tables : Tables). length program.constants ≤ length tables.constants) (sym same) so.long;
        known = λ text before is. by text (here_or_before program class slot text before) (ap (λ (entry : ℕ → ℕ). entry text) (sym table) ∙ is);
        new = λ text not. ap (λ (entry : ℕ → ℕ). entry text) table ∙ so.new text (λ before. not (before_next program class slot text before));
        old = λ text not is. so.old text not (ap (λ (entry : ℕ → ℕ). entry text) (sym table) ∙ is);
      }
    where
      by : (text : ℕ) → (own_text program class slot ≡ Some text) ⊎ IsNamedBefore program class slot text → listed so.plan.left.roots.tables.constants text ≡ 0 → ⊥
      by text (inl is) zero_is = none-some text (sym none ∙ is)
      by text (inr before) zero_is = so.known text before zero_is

  -- where it has one, that has an object
  with_text : (text : ℕ) → own_text program class slot ≡ Some text → declared_by class (static_at program slot) ≡ true → text_of (static_initial program slot) ≡ Some text
      → text < length program.constants → (after : List Want) → after ≡ asked next → AsksTexts after → AskedSoFar program limit class count held whole (slot + 1) after
  with_text text is own names below after asks few =
      let named : static_initial program slot ≡ meanings.Text text = text_so (static_initial program slot) text names in
      let is_next : next ≡ set_static slot (constant_string machine text so.plan) = ap (set_to machine slot so.plan) named in
      let table : next.left.roots.tables.constants ≡ (set_static slot (constant_string machine text so.plan)).left.roots.tables.constants = ap (λ (plan : Plan). plan.left.roots.tables.constants) is_next in
      let long = so.long in
      let own_known : listed next.left.roots.tables.constants text ≡ 0 → ⊥ = λ none. text_known machine slot so.plan text (omega (arith, below, long)) (ap (λ (table : List ℕ). listed table text) (sym table) ∙ none) in
      let others : (other : ℕ) → (other ≡ text → ⊥) → listed next.left.roots.tables.constants other ≡ listed so.plan.left.roots.tables.constants other =
      λ other not. ap (λ (table : List ℕ). listed table other) table ∙ text_other machine slot so.plan text other not in
      record {
        plan = next;
        leads = ap (fold (set_initial machine) so.plan) (sym (own_next program class count slot low own)) ∙ so.leads;
        asks = asks;
        few = few;
        long =
            let same = ap (λ (table : List ℕ). length table) table ∙ text_long machine slot so.plan text in
            omega (arith, long, same);
        known = λ other before none. known_by other (here_or_before program class slot other before) none (eqb_tells other text) own_known others;
        new = λ other not. others other (λ same. not (here_next program class slot other (is ∙ ap Some (sym same)))) ∙ so.new other (λ before. not (before_next program class slot other before));
        old = λ other not none. old_by other not none (eqb_tells other text) own_known others;
      }
    where
      known_by : (other : ℕ) → (own_text program class slot ≡ Some other) ⊎ IsNamedBefore program class slot other → listed next.left.roots.tables.constants other ≡ 0
          → ((eqb other text ≡ true) × (other ≡ text)) ⊎ ((eqb other text ≡ false) × (other ≢ text)) → (listed next.left.roots.tables.constants text ≡ 0 → ⊥)
          → ((other : ℕ) → (other ≡ text → ⊥) → listed next.left.roots.tables.constants other ≡ listed so.plan.left.roots.tables.constants other) → ⊥
      known_by other (inl here) none tells own_known others =
          let same : text ≡ other = same_Some text other (sym is ∙ here) in
          own_known (ap (listed next.left.roots.tables.constants) same ∙ none)
      known_by other (inr before) none (inl same) own_known others = own_known (ap (listed next.left.roots.tables.constants) (sym same.1) ∙ none)
      known_by other (inr before) none (inr apart) own_known others = so.known other before (sym (others other apart.1) ∙ none)

      old_by : (other : ℕ) → (listed held other ≡ 0 → ⊥) → listed next.left.roots.tables.constants other ≡ 0
          → ((eqb other text ≡ true) × (other ≡ text)) ⊎ ((eqb other text ≡ false) × (other ≢ text)) → (listed next.left.roots.tables.constants text ≡ 0 → ⊥)
          → ((other : ℕ) → (other ≡ text → ⊥) → listed next.left.roots.tables.constants other ≡ listed so.plan.left.roots.tables.constants other) → ⊥
      old_by other not none (inl same) own_known others = own_known (ap (listed next.left.roots.tables.constants) (sym same.1) ∙ none)
      old_by other not none (inr apart) own_known others = so.old other not (sym (others other apart.1) ∙ none)

  -- by the text that the field has
  own_of : (text : ℕ) → own_text program class slot ≡ Some text → (declared_by class (static_at program slot) ≡ true) × (text_of (static_initial program slot) ≡ Some text)
  own_of text is = go (declared_by class (static_at program slot)) refl where
    go : (own : Bool) → declared_by class (static_at program slot) ≡ own → (declared_by class (static_at program slot) ≡ true) × (text_of (static_initial program slot) ≡ Some text)
    go true own = (own, sym (own_is program class slot own) ∙ is)
    go false other = absurd (none-some text (sym (other_is program class slot other) ∙ is))

  -- a text that is new, and isn't that of a field before
  pub asked_new : (text : ℕ) → own_text program class slot ≡ Some text → text < length program.constants → listed held text ≡ 0 → (IsNamedBefore program class slot text → ⊥)
      → (after : List Want) → after ≡ fold add_want wants (text_wants program text) → AskedSoFar program limit class count held whole (slot + 1) after
  asked_new text is below new first after asks =
      let own = own_of text is in
      let fresh : listed so.plan.left.roots.tables.constants text ≡ 0 = so.new text first ∙ new in
      with_text text is own.0 own.1 below after
      (asks ∙ ap (λ (wants : List Want). fold add_want wants (text_wants program text)) so.asks
      ∙ ap (λ (serial : ℕ). fold add_want (asked so.plan) (wants_if_new program text serial)) (sym fresh)
      ∙ ap (λ (named : Named). fold add_want (asked so.plan) (wants_to program so.plan.left.roots.tables.constants named)) (sym (text_so (static_initial program slot) text own.1))
      ∙ sym (asks_to machine slot so.plan (static_initial program slot)))
      (subst AsksTexts (sym asks) (asked_more program text wants so.few))

  -- none, or one that has an object by then
  known_then : (text : ℕ) → (listed held text ≡ 0 → IsNamedBefore program class slot text) → (place : ℕ) × (listed so.plan.left.roots.tables.constants text ≡ suc place)
  known_then text named = go (listed so.plan.left.roots.tables.constants text) refl (listed held text) refl where
    go : (entry : ℕ) → listed so.plan.left.roots.tables.constants text ≡ entry → (other : ℕ) → listed held text ≡ other
        → (place : ℕ) × (listed so.plan.left.roots.tables.constants text ≡ suc place)
    go (suc place) is other at = (place, is)
    go zero is zero at = absurd (so.known text (named at) is)
    go zero is (suc other) at = absurd (so.old text (λ none. absurd (cc (at, none))) is)

  pub asked_none : MayPlaceOwn program class → count ≡ length (statics program.classes)
      → ((text : ℕ) → own_text program class slot ≡ Some text → listed held text ≡ 0 → IsNamedBefore program class slot text)
      → AskedSoFar program limit class count held whole (slot + 1) wants
  asked_none may many named = go (own_text program class slot) refl where
    plain : (own : Bool) → declared_by class (static_at program slot) ≡ own → own_text program class slot ≡ None → AskedSoFar program limit class count held whole (slot + 1) wants
    plain true own none =
        let plain_is : text_of (static_initial program slot) ≡ None = sym (own_is program class slot own) ∙ none in
        no_text next none (plain_tables machine slot so.plan (static_initial program slot) plain_is)
        (ap (fold (set_initial machine) so.plan) (sym (own_next program class count slot low own)) ∙ so.leads)
        (plain_asks machine slot so.plan (static_initial program slot) plain_is)
    plain false other none =
        no_text so.plan none refl (ap (fold (set_initial machine) so.plan) (sym (other_next program class count slot low other)) ∙ so.leads) refl

    go : (found : Option ℕ) → own_text program class slot ≡ found → AskedSoFar program limit class count held whole (slot + 1) wants
    go None none = plain (declared_by class (static_at program slot)) refl none
    go (Some text) is =
        let own = own_of text is in
        let known = known_then text (named text is) in
        with_text text is own.0 own.1 (may slot text (omega (arith, low, many)) is).0 wants
        (so.asks ∙ ap (λ (serial : ℕ). fold add_want (asked so.plan) (wants_if_new program text serial)) (sym known.1)
        ∙ ap (λ (named : Named). fold add_want (asked so.plan) (wants_to program so.plan.left.roots.tables.constants named)) (sym (text_so (static_initial program slot) text own.1))
        ∙ sym (asks_to machine slot so.plan (static_initial program slot)))
        so.few

-- ---- from the first to the last

pub begins_so : (machine : Machine) (state : State) (frames : List Frame) (class : ℕ) → has_room machine.frames frames 0 ≡ true
    → begun_upon machine state frames class ≡ fold (set_initial machine) (first_plan state frames class) (own_statics machine.program class)
begins_so machine state frames class room = rw room refl

module _ (program : Linked) (limit class count : ℕ) (many : count ≡ length (statics program.classes)) (state : State) (frames : List Frame)
    (room : has_room limit frames 0 ≡ true) where
  pub asked_first : length program.constants ≤ length state.roots.tables.constants → (wants : List Want) → wants ≡ []
      → AskedSoFar program limit class count state.roots.tables.constants (begun_upon (machine_of program limit) state frames class) 0 wants
  asked_first long wants none = record {
    plan = first_plan state frames class;
    leads = ap (fold (set_initial (machine_of program limit)) (first_plan state frames class)) (slots_whole program class count many)
        ∙ sym (begins_so (machine_of program limit) state frames class room);
    asks = none;
    few = subst AsksTexts (sym none) NoText;
    long = long;
    known = λ text before is. let low = before.low in absurd (omega (arith, low));
    new = λ text not. refl;
    old = λ text not is. not is;
  }

pub asked_last : (program : Linked) (limit class count : ℕ) (held : List ℕ) (whole : Plan) (slot : ℕ) (wants : List Want)
    → AskedSoFar program limit class count held whole slot wants → count < slot + 1 → wants ≡ asked whole
asked_last program limit class count held whole slot wants so high =
    so.asks ∙ ap asked (sym (ap (fold (set_initial (machine_of program limit)) so.plan) (slots_end program class count slot high)) ∙ so.leads)

-- a step
pub asked_next : (program : Linked) (limit class count : ℕ) (index : ℕ → ℕ) (held : Roots) (whole : Plan) (slot : ℕ) (wants after : List Want)
    → AskedSoFar program limit class count (read_roots index held).tables.constants whole slot wants → slot < count → MayPlaceOwn program class
    → count ≡ length (statics program.classes) → AskedAt program held class slot wants after
    → AskedSoFar program limit class count (read_roots index held).tables.constants whole (slot + 1) after
asked_next program limit class count index held whole slot wants after so low may many (AskedNew text is new first asks) =
    asked_new program limit class count (read_roots index held).tables.constants whole slot wants so low text is (may slot text (omega (arith, low, many)) is).0
    (new_read index held text new) first after asks
asked_next program limit class count index held whole slot wants after so low may many (AskedNone named same) =
    subst (AskedSoFar program limit class count (read_roots index held).tables.constants whole (slot + 1)) (sym same)
    (asked_none program limit class count (read_roots index held).tables.constants whole slot wants so low may many
    (λ text is none. named text is (new_from index held text none)))
