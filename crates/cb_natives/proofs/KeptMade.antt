-- Natives that give an object from a table, or a new one: what they ask for and do.
use Rattle.std.proofs.Common.{◌≡◌, ◌∙◌, add-one, ap, ap₂, arith, refl, subst, sym, ℕ, pos, zero, suc, ◌+◌, ◌++◌, ◌<◌, ◌≤◌, ◌^◌, true, false, IsTrue, List, [], ◌∷◌, length, map, Option, Some, None, slice_get, nat_eq}
use Rattle.std.proofs.lemmas.Bool.Decides.{nat_tests}
use Rattle.std.specs.List.{list_all}
use Rattle.std.specs.declared.result.Result.TheVariants.{Err}
use Rattle.cb_heap.proofs.Laws.{reads_entry, roots_again}
use Rattle.cb_heap.specs.Kept.{is_held, with_content}
use Rattle.cb_heap.specs.Reading.{View, read_roots, read_tables, read_value, seen, serial_of}
use Rattle.cb_heap.specs.Rules.{Rules}
use Rattle.cb_heap.specs.Shaped.{new_object}
use Rattle.cb_heap.specs.Store.{ReadsAsBefore}
use Rattle.cb_library.specs.declared.native.Native.{Native}
use Rattle.cb_link.specs.Having.{site_kinds}
use Rattle.cb_link.specs.Program.{Linked}
use Rattle.cb_machine.specs.Machine.{kind_of_site, listed, or_zero}
use Rattle.cb_machine.specs.Natives.{performed}
use Rattle.cb_machine.specs.Performing.{Call}
use Rattle.cb_machine.specs.Plans.{asked, leaving, object_of}
use Rattle.cb_plain.specs.Reach.{root_references}
use Rattle.cb_plain.specs.Requests.{words_at}
use Rattle.cb_plain.specs.Roots.{table_in}
use Rattle.cb_plain.specs.State.{Content, Number, Object, Roots, Tables, words_of}
use Rattle.cb_plain.specs.declared.shape.Shape.{Shape}
use Rattle.cb_plain.specs.declared.shape.Shape.TheVariants.{Fields}
use Rattle.cb_plain.specs.declared.table.Table.{Table}
use Rattle.cb_plain.specs.declared.table.Table.TheVariants as tables
use Rattle.cb_plain.specs.declared.value.Value.{Value}
use Rattle.cb_plain.specs.declared.value.Value.TheVariants as values
use Rattle.cb_plain.specs.declared.want.Want.{Want}
use Rattle.cb_natives.specs.Answers.{Beside}
use Rattle.cb_natives.specs.Making.{Asks, HasRoom, Performs, Throws, given_back, machine_in, state_in}
use Rattle.cb_natives.specs.MakingKept.{Finds, FindsOr, entered, entered_at, found_at, found_in, kept_or_new, places_new, with_new}
use Rattle.cb_natives.specs.declared.answers.Exception.{Exception}
use Rattle.cb_natives.specs.declared.kept_entries.Entry.{Entry}

-- ---- a native that is known

pub finds_as : (objects : List (Option Object)) (index : ℕ → ℕ) (native other : Native) (arguments others : List Value) (entry : Entry)
    → native ≡ other → arguments ≡ others → Finds objects other (map (read_value index) others) entry → Finds objects native (map (read_value index) arguments) entry
finds_as objects index native other arguments others entry is same finds =
    subst (λ (native : Native). Finds objects native (map (read_value index) arguments) entry) (sym is)
    (subst (λ (arguments : List Value). Finds objects other (map (read_value index) arguments) entry) (sym same) finds)

-- ---- tables that are read

read_table : (index : ℕ → ℕ) (held : Tables) (table : Table) → table_in (read_tables index held) table ≡ map (serial_of index) (table_in held table)
read_table index held tables.Constants = refl
read_table index held tables.ClassObjects = refl
read_table index held tables.Integers = refl
read_table index held tables.Longs = refl
read_table index held tables.Characters = refl
read_table index held tables.Booleans = refl

read_listed : (index : ℕ → ℕ) (numbers : List ℕ) (place : ℕ) → listed (map (serial_of index) numbers) place ≡ serial_of index (listed numbers place)
read_listed index [] place = refl
read_listed index (number ∷ numbers) zero = refl
read_listed index (number ∷ numbers) (suc place) = read_listed index numbers place

read_found_at : (index : ℕ → ℕ) (table : List ℕ) (place : Option ℕ) → found_at (map (serial_of index) table) place ≡ serial_of index (found_at table place)
read_found_at index table None = refl
read_found_at index table (Some place) = read_listed index table place

read_found : (index : ℕ → ℕ) (held : Tables) (entry : Entry) → found_in (read_tables index held) entry ≡ serial_of index (found_in held entry)
read_found index held entry =
    ap (λ (table : List ℕ). found_at table entry.place) (read_table index held entry.table) ∙ read_found_at index (table_in held entry.table) entry.place

read_entered_at : (index : ℕ → ℕ) (held : Roots) (table : Table) (at : ℕ) (place : Option ℕ)
    → read_roots index (entered_at held table at place) ≡ entered_at (read_roots index held) table (serial_of index at) place
read_entered_at index held table at None = refl
read_entered_at index held table at (Some place) = reads_entry index held table place at

read_entered : (index : ℕ → ℕ) (held : Roots) (entry : Entry) (at : ℕ) → read_roots index (entered held entry at) ≡ entered (read_roots index held) entry (serial_of index at)
read_entered index held entry at = read_entered_at index held entry.table at entry.place

entered_frames_at : (held : Roots) (table : Table) (at : ℕ) (place : Option ℕ) → (entered_at held table at place).frames ≡ held.frames
entered_frames_at held table at None = refl
entered_frames_at held table at (Some place) = refl

pub entered_frames : (held : Roots) (entry : Entry) (at : ℕ) → (entered held entry at).frames ≡ held.frames
entered_frames held entry at = entered_frames_at held entry.table at entry.place

-- ---- what is asked for

abbrev pub wants_new : Entry → List Want
wants_new entry = record { site = entry.site; words = 4 } ∷ []

eq_same : (a : ℕ) → nat_eq a a ≡ true
eq_same a = grind (arith, nat_tests)

pub words_there : (entry : Entry) → words_at (wants_new entry) entry.site ≡ 4
words_there entry = rw (eq_same entry.site) refl

module _ (program : Linked) (view : View) (native : Native) (arguments : List Value) where
  abbrev call_in : ℕ → List ℕ → List ℕ → Call
  call_in frames input printed = record { machine = machine_in program frames; state = state_in view input printed }

  abbrev beside_in : List ℕ → List ℕ → Beside
  beside_in input printed = record { roots = view.roots; input = input; printed = printed; exit = None }

  pub throws_so : (exception : Exception) → FindsOr view.objects native arguments (Err exception) → Throws program view native arguments exception
  throws_so exception finds frames input printed = finds (machine_in program frames) (beside_in input printed)

  pub asks_or_throws : (exception : Exception) (wants : List Want) → FindsOr view.objects native arguments (Err exception) → Asks program view native arguments wants → ⊥
  asks_or_throws exception wants finds asks =
      let makes = asks 0 [] [] in
      let gives = makes.is in
      let throws = throws_so exception finds 0 [] [] in
      cc

  module _ (entry : Entry) (finds : Finds view.objects native arguments entry) where
    found_so : (found : ℕ) → found_in view.roots.tables entry ≡ found → (frames : ℕ) (input printed : List ℕ)
        → performed (machine_in program frames) (state_in view input printed) native arguments ≡ Some (kept_or_new (call_in frames input printed) entry found)
    found_so found is frames input printed =
        finds.performs (machine_in program frames) (beside_in input printed) ∙ ap (λ (found : ℕ). Some (kept_or_new (call_in frames input printed) entry found)) is

    pub asks_new : found_in view.roots.tables entry ≡ 0 → Asks program view native arguments (wants_new entry)
    asks_new none frames input printed = record {
      own = places_new (call_in frames input printed) entry;
      answer = values.Ref (length view.objects + 1) ∷ [];
      is = found_so 0 none frames input printed;
      asks = refl;
    }

    pub asks_none : (place : ℕ) → found_in view.roots.tables entry ≡ suc place → Asks program view native arguments []
    asks_none place some frames input printed = record {
      own = leaving (state_in view input printed);
      answer = values.Ref (suc place) ∷ [];
      is = found_so (suc place) some frames input printed;
      asks = refl;
    }

    pub wants_so : (wants : List Want) → Asks program view native arguments wants → found_in view.roots.tables entry ≡ 0 → wants ≡ wants_new entry
    wants_so wants asks none =
        let makes = asks 0 [] [] in
        let gives = makes.is in
        let also = found_so 0 none 0 [] [] in
        let same : makes.own ≡ places_new (call_in 0 [] []) entry = cc in
        sym makes.asks ∙ ap asked same

    pub keeps : {Facts : Type 0} (rules : Rules Facts) (facts : Facts) (place : ℕ) → found_in view.roots.tables entry ≡ suc place
        → Performs rules program native arguments view facts view facts (values.Ref (suc place) ∷ [])
    keeps rules facts place some frames input printed = record {
      own = leaving (state_in view input printed);
      is = found_so (suc place) some frames input printed;
      steps = refl;
      knows = refl;
    }

    pub places : {Facts : Type 0} (rules : Rules Facts) (facts now : Facts) (after : View) → found_in view.roots.tables entry ≡ 0
        → after ≡ with_new program entry view → now ≡ rules.placed facts entry.site 1
        → Performs rules program native arguments view facts after now (values.Ref (length view.objects + 1) ∷ [])
    places rules facts now after none is knows frames input printed = record {
      own = places_new (call_in frames input printed) entry;
      is = found_so 0 none frames input printed;
      steps = ap (λ (after : View). state_in after input printed) is;
      knows = knows;
    }

-- ---- over a store

module _ (program : Linked) (index : ℕ → ℕ) (kept : List (Option Object)) (held : Roots) (native : Native) (arguments : List Value) (entry : Entry)
    (finds : Finds kept native arguments entry) where
  pub new_there : (found : ℕ) → found ≡ found_in held.tables entry → found ≡ 0 → found_in (read_roots index held).tables entry ≡ 0
  new_there found is none = read_found index held.tables entry ∙ ap (serial_of index) (sym is ∙ none)

  abbrev Planning : ℕ → Type 0
  Planning found = (found ≡ 0 → ⊥) → Asks program (seen index kept held) native arguments []

  pub plans_none : (found : ℕ) → found ≡ found_in held.tables entry → Planning found
  plans_none zero is some = absurd (some refl)
  plans_none (suc place) is some =
      asks_none program (seen index kept held) native arguments entry finds (index (suc place)) (read_found index held.tables entry ∙ ap (serial_of index) (sym is))

  pub keeps_old : {Facts : Type 0} (rules : Rules Facts) (facts : Facts) (found : ℕ) → found ≡ found_in held.tables entry → (found ≡ 0 → ⊥)
      → Performs rules program native arguments (seen index kept held) facts (seen index kept held) facts (given_back index (Some found))
  keeps_old rules facts zero is some = absurd (some refl)
  keeps_old rules facts (suc place) is some =
      keeps program (seen index kept held) native arguments entry finds rules facts (index (suc place)) (read_found index held.tables entry ∙ ap (serial_of index) (sym is))

  pub room_so : (wants granted : List Want) → Asks program (seen index kept held) native arguments wants → found_in (read_roots index held).tables entry ≡ 0
      → ((wants ≡ [] → ⊥) → HasRoom kept wants granted) → (words_of 1 ≤ words_at granted entry.site) × (length kept + 1 < 2 ^ 63)
  room_so wants granted asks none room =
      let same = wants_so program (seen index kept held) native arguments entry finds wants asks none in
      let has = room (λ empty. not_empty (sym same ∙ empty)) in
      let words : words_at granted entry.site ≡ 4 = ap (λ (wants : List Want). words_at wants entry.site) (has.granted ∙ same) ∙ words_there entry in
      let serials = has.serials in
      (omega arith, omega arith) where
        not_empty : wants_new entry ≡ [] → ⊥
        not_empty is = cc

-- ---- one that is placed

abbrev blank : (site kind : ℕ) → Object
blank site kind = object_of site kind (Number (pos 0) ∷ [])

numbered_at : (objects : List (Option Object)) (site kind : ℕ) (content : Content)
    → with_content (objects ++ Some (blank site kind) ∷ []) (suc (length objects)) 0 content ≡ objects ++ Some (object_of site kind (content ∷ [])) ∷ []
numbered_at [] site kind content = refl
numbered_at (entry ∷ objects) site kind content = ap (λ (rest : List (Option Object)). entry ∷ rest) (numbered_at objects site kind content)

number_shaped : (all : List Shape) (site kind : ℕ) → slice_get all kind ≡ Some (Fields (false ∷ [])) → new_object all site kind 1 ≡ blank site kind
number_shaped all site kind is = rw is refl

module _ (objects kept : List (Option Object)) (after : ℕ → ℕ) (at site kind : ℕ) (shapes : List Shape) (shape : slice_get shapes kind ≡ Some (Fields (false ∷ [])))
    (placed : kept ≡ objects ++ Some (new_object shapes site kind 1) ∷ []) (serial : serial_of after at ≡ length objects + 1) where
  more_so : kept ≡ objects ++ Some (blank site kind) ∷ []
  more_so = placed ∙ ap (λ (object : Object). objects ++ Some object ∷ []) (number_shaped shapes site kind shape)

  pub number_put : (content : Content) → with_content kept (serial_of after at) 0 content ≡ objects ++ Some (object_of site kind (content ∷ [])) ∷ []
  number_put content =
      ap (λ (kept : List (Option Object)). with_content kept (serial_of after at) 0 content) more_so
      ∙ ap (λ (serial : ℕ). with_content (objects ++ Some (blank site kind) ∷ []) serial 0 content) (serial ∙ add-one (length objects))
      ∙ numbered_at objects site kind content

pub entry_placed : (program : Linked) (entry : Entry) (kept now : List (Option Object)) (index after : ℕ → ℕ) (held : Roots) (at kind : ℕ)
    → slice_get (site_kinds program) entry.site ≡ Some kind → now ≡ kept ++ Some (object_of entry.site kind (Number entry.number ∷ [])) ∷ []
    → serial_of after at ≡ length kept + 1 → ReadsAsBefore kept index after → IsTrue (list_all (is_held kept) (root_references (read_roots index held)))
    → seen after now (entered held entry at) ≡ with_new program entry (seen index kept held)
entry_placed program entry kept now index after held at kind own put serial again all =
    ap (λ (now : List (Option Object)). seen after now (entered held entry at)) put
    ∙ ap₂ (λ (roots : Roots) (kind : ℕ). as_placed roots kind) (read_entered after held entry at) (sym (ap or_zero own))
    ∙ ap₂ (λ (roots : Roots) (serial : ℕ). as_placed (entered roots entry serial) (kind_of_site program entry.site)) (roots_again kept index after again held all) serial
  where
    as_placed : Roots → ℕ → View
    as_placed roots kind = record { roots = roots; objects = kept ++ Some (object_of entry.site kind (Number entry.number ∷ [])) ∷ [] }
