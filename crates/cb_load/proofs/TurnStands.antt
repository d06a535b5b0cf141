-- Turns that are taken one after the other.
use Rattle.std.proofs.Common.{◌≡◌, ◌↔◌, ℕ, ◌+◌, ◌<◌, ◌≤◌, Bool, true, false, ◌||◌, List, [], ◌∷◌, ◌++◌, length, take, Option, None, Some, refl, sym, ap, ◌∙◌, arith, length-append, append_assoc}
use Rattle.std.specs.Prelude.{slice_get}
use Rattle.std.specs.List.{flat_map, list_any}
use Rattle.std.proofs.lemmas.List.{append-nil, map-append}
use Rattle.std.proofs.lemmas.List.Folds.{list_any-append}
use Rattle.std.proofs.lemmas.Option.{slice_get_within}
use Rattle.std.proofs.lemmas.Slice.Zip.{AllZip-long}
use Rattle.std.proofs.Math.Seq.{take_all}
use Rattle.cb_io.specs.Folder.{Files}
use Rattle.cb_classfile.specs.declared.class.ClassFile.{ClassFile}
use Rattle.cb_classfile.specs.Library.{AreLibrary, IsRecordOf}
use Rattle.cb_library.specs.CoreClasses.{core_classes}
use Rattle.cb_link.specs.declared.refusal.Refusal.{Refusal}
use Rattle.cb_link.specs.declared.refusal.Refusal.TheVariants.{FolderFault, OutOfMemory}
use Rattle.cb_link.specs.Numbers.{same_name, library_size, is_named}
use Rattle.cb_load.specs.Names.{Entry, names_of}
use Rattle.cb_load.specs.Closure.{Turn, added, entries_of, firsts}
use Rattle.cb_load.specs.Files.{is_core}
use Rattle.cb_load.specs.Inner.{entered_all}
use Rattle.cb_load.specs.Loading.{AreLoaded, HasRoom, IsRefused, Loads, Stops, StopsFor, loaded, loaded_name, loaded_names}
use Rattle.cb_load.specs.InnerTurns.{AreTaken, StopsAt}
use Rattle.cb_load.proofs.EnteredLaws.{entries_grow}
use Rattle.cb_load.proofs.LoadNames.{names_of_rows}
use Rattle.cb_load.proofs.TurnLists.{each_more, entered_behind, silent, spoken, take_next}

-- a turn
abbrev pub turn_of : Entry → Option ClassFile → Turn ClassFile
turn_of entry loads = record { entry = entry; loads = loads }

-- the turns so far, with one that loads nothing
pub idle_turn : (files : Option Files) (root main : List ℕ) (library : List ClassFile) (count : ℕ) (entries : List Entry) (has : List (List ℕ)) (classes : List ClassFile) (turns : List (Turn ClassFile)) (entry : Entry)
    → AreTaken files root main library count entries has classes turns → slice_get entries count ≡ Some entry → Loads files root turns entry None
    → AreTaken files root main library (count + 1) entries has classes (turns ++ turn_of entry None ∷ [])
idle_turn files root main library count entries has classes turns entry taken at loads =
    let last = turn_of entry None in
    record {
      begun = each_more (λ place before turn. slice_get (entries_of names_of main before) place ≡ Some turn.entry) turns last taken.begun (ap (λ all. slice_get all (length turns)) taken.added ∙ ap (slice_get entries) taken.counted ∙ at);
      each = each_more (λ place before turn. Loads files root before turn.entry turn.loads) turns last taken.each loads;
      counted = length-append turns (last ∷ []) ∙ ap (λ n. n + 1) taken.counted;
      added = ap (λ more. firsts (record { name = main; needed = true } ∷ more)) (silent (λ turn. added names_of turn.loads) turns last refl) ∙ taken.added;
      passed = map-append (λ turn. turn.entry) turns (last ∷ []) ∙ ap (λ before. before ++ entry ∷ []) taken.passed ∙ sym (take_next entries count entry at);
      there = λ name. taken.there name ∙ ap (λ names. is_core name || list_any (same_name name) names) (sym (silent loaded_name turns last refl));
      all = ap (λ more. library ++ more) (silent _ turns last refl) ∙ taken.all;
      size = ap (λ names. library_size + length names) (silent loaded_name turns last refl) ∙ taken.size;
    }

or_last : (core other own : Bool) → (own || (core || other)) ≡ (core || (other || (own || false)))
or_last true true true = refl
or_last true true false = refl
or_last true false true = refl
or_last true false false = refl
or_last false true true = refl
or_last false true false = refl
or_last false false true = refl
or_last false false false = refl

-- the turns so far, with one that loads a class
pub loading_turn : (files : Option Files) (root main : List ℕ) (library : List ClassFile) (count : ℕ) (entries more : List Entry) (has names : List (List ℕ)) (classes all : List ClassFile) (turns : List (Turn ClassFile)) (entry : Entry) (class : ClassFile)
    → AreTaken files root main library count entries has classes turns → slice_get entries count ≡ Some entry → Loads files root turns entry (Some class)
    → more ≡ entered_all entries (names_of class) → ((other : List ℕ) → list_any (same_name other) names ≡ (same_name other entry.name || list_any (same_name other) has)) → all ≡ classes ++ class ∷ []
    → AreTaken files root main library (count + 1) more names all (turns ++ turn_of entry (Some class) ∷ [])
loading_turn files root main library count entries more has names classes all turns entry class taken at loads grown known added_class =
    let last = turn_of entry (Some class) in
    let within : count < length entries = slice_get_within entries count entry at in
    let behind : count + 1 ≤ length entries = omega arith in
    let spoken_names = spoken loaded_name turns last in
    record {
      begun = each_more (λ place before turn. slice_get (entries_of names_of main before) place ≡ Some turn.entry) turns last taken.begun (ap (λ all. slice_get all (length turns)) taken.added ∙ ap (slice_get entries) taken.counted ∙ at);
      each = each_more (λ place before turn. Loads files root before turn.entry turn.loads) turns last taken.each loads;
      counted = length-append turns (last ∷ []) ∙ ap (λ n. n + 1) taken.counted;
      added = ap (λ parts. firsts (record { name = main; needed = true } ∷ parts)) (spoken (λ turn. added names_of turn.loads) turns last)
          ∙ entries_grow (record { name = main; needed = true } ∷ flat_map (λ turn. added names_of turn.loads) turns) (names_of class)
          ∙ ap (λ all. entered_all all (names_of class)) taken.added ∙ sym grown;
      passed = map-append (λ turn. turn.entry) turns (last ∷ []) ∙ ap (λ before. before ++ entry ∷ []) taken.passed ∙ sym (take_next entries count entry at)
          ∙ sym (entered_behind entries (names_of class) (count + 1) behind) ∙ ap (take (count + 1)) (sym grown);
      there = λ name. known name ∙ ap (λ b. same_name name entry.name || b) (taken.there name)
          ∙ or_last (is_core name) (list_any (same_name name) (loaded_names turns)) (same_name name entry.name)
          ∙ ap (λ b. is_core name || b) (sym (ap (list_any (same_name name)) spoken_names ∙ list_any-append (same_name name) (loaded_names turns) (entry.name ∷ [])));
      all = ap (λ parts. library ++ parts) (spoken _ turns last) ∙ sym (append_assoc library (loaded turns) (class ∷ [])) ∙ ap (λ front. front ++ class ∷ []) taken.all ∙ sym added_class;
      size = ap (λ names. library_size + length names) spoken_names ∙ longer taken.size ∙ ap length (sym added_class);
    } where
      longer : library_size + length (loaded_names turns) ≡ length classes → library_size + length (loaded_names turns ++ entry.name ∷ []) ≡ length (classes ++ class ∷ [])
      longer size = omega (arith, size, length-append (loaded_names turns) (entry.name ∷ []), length-append classes (class ∷ []))

-- where all entries were taken up, these are the classes that are loaded
pub all_taken : (files : Option Files) (root main : List ℕ) (library : List ClassFile) (count : ℕ) (entries : List Entry) (has : List (List ℕ)) (classes : List ClassFile) (turns : List (Turn ClassFile))
    → AreTaken files root main library count entries has classes turns → length entries ≤ count → (rest : List ClassFile) × AreLoaded files root main rest × (classes ≡ library ++ rest)
all_taken files root main library count entries has classes turns taken last = (
  loaded turns,
  record {
    turns = turns;
    closure = record { begun = taken.begun; closed = taken.passed ∙ take_all count entries last ∙ sym taken.added };
    each = taken.each;
    all = refl;
  },
  sym taken.all,
)

-- there is room for a class where there are fewer than a limit
pub room_of : (files : Option Files) (root main : List ℕ) (library : List ClassFile) (count : ℕ) (entries : List Entry) (has : List (List ℕ)) (classes : List ClassFile) (turns : List (Turn ClassFile))
    → AreTaken files root main library count entries has classes turns → (length classes < 1024) ↔ HasRoom turns
room_of files root main library count entries has classes turns taken =
    let size : library_size + length (loaded_names turns) ≡ length classes = taken.size in
    (λ less. omega arith, λ room. omega arith)

-- an entry that is refused stops loading
stops_for : (files : Option Files) (root main : List ℕ) (library : List ClassFile) (count : ℕ) (entries : List Entry) (has : List (List ℕ)) (classes : List ClassFile) (turns : List (Turn ClassFile)) (entry : Entry) (refusal : Refusal)
    → AreTaken files root main library count entries has classes turns → slice_get entries count ≡ Some entry → IsRefused files root turns entry refusal → StopsFor files root main refusal
stops_for files root main library count entries has classes turns entry refusal taken at refused = record {
  turns = turns;
  begun = taken.begun;
  each = taken.each;
  entry = entry;
  next = ap (λ all. slice_get all (length turns)) taken.added ∙ ap (slice_get entries) taken.counted ∙ at;
  refused = refused;
}

pub stops_at : (files : Option Files) (root main : List ℕ) (library : List ClassFile) (count : ℕ) (entries : List Entry) (has : List (List ℕ)) (classes : List ClassFile) (turns : List (Turn ClassFile)) (entry : Entry) (refusal : Refusal)
    → AreTaken files root main library count entries has classes turns → slice_get entries count ≡ Some entry → StopsAt files root turns entry refusal → Stops files root main refusal
stops_at files root main library count entries has classes turns entry OutOfMemory taken at stops = tt
stops_at files root main library count entries has classes turns entry FolderFault taken at stops = tt
stops_at files root main library count entries has classes turns entry refusal taken at stops = stops_for files root main library count entries has classes turns entry refusal taken at stops

or_false : (core : Bool) → core ≡ (core || false)
or_false true = refl
or_false false = refl

-- no turn so far
pub first_taken : (files : Option Files) (root main : List ℕ) (library : List ClassFile) (entries : List Entry) (has : List (List ℕ))
    → AreLibrary library → ((name : List ℕ) → list_any (same_name name) has ≡ list_any (is_named name) library) → entries ≡ record { name = main; needed = true } ∷ []
    → AreTaken files root main library 0 entries has library []
first_taken files root main library entries has are known is = record {
  begun = λ place turn at. let past : place < 0 = slice_get_within [] place turn at in absurd (omega arith);
  each = λ place turn at. let past : place < 0 = slice_get_within [] place turn at in absurd (omega arith);
  counted = refl;
  added = sym is;
  passed = refl;
  there = λ name. known name ∙ names_of_rows name core_classes library are ∙ or_false (is_core name);
  all = append-nil library;
  size = sym (AllZip-long IsRecordOf core_classes library are);
}
