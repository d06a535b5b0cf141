-- What taking up an entry comes to.
use Rattle.std.proofs.Common.{◌≡◌, ◌↔◌, ℕ, zero, suc, ◌+◌, ◌<◌, ◌≤◌, Bool, true, false, ◌||◌, List, [], ◌∷◌, ◌++◌, length, Option, None, Some, IfSome, refl, sym, subst, ◌∙◌, arith}
use Rattle.std.specs.Prelude.{IsTrue, nat_lt, option_map, slice_get}
use Rattle.std.specs.List.{list_any}
use Rattle.std.proofs.lemmas.Bool.Decides.{nat_tests}
use Rattle.cb_io.specs.Folder.{Files}
use Rattle.cb_classfile.specs.declared.class.ClassFile.{ClassFile}
use Rattle.cb_link.specs.declared.refusal.Refusal.{Refusal}
use Rattle.cb_link.specs.Numbers.{same_name}
use Rattle.cb_load.specs.Names.{Entry, names_of}
use Rattle.cb_load.specs.Closure.{Turn}
use Rattle.cb_load.specs.Inner.{entered_all}
use Rattle.cb_load.specs.Loading.{HasRoom, IsRead, IsThere, Loads, StaysOpaque, Stops, is_loaded}
use Rattle.cb_load.specs.InnerTurns.{IsNext, Stands, StopsAt}
use Rattle.cb_load.proofs.TurnStands.{all_taken, idle_turn, loading_turn, room_of, stops_at}

-- the entry at a place, by its parts
pub entry_at : (entries : List Entry) (place : ℕ) (name : List ℕ) (needed : Bool) → place < length entries → option_map (λ entry. entry.name) (slice_get entries place) ≡ Some name → option_map (λ entry. entry.needed) (slice_get entries place) ≡ Some needed → slice_get entries place ≡ Some (record { name = name; needed = needed })
entry_at [] place name needed within is so = absurd (omega arith)
entry_at (first ∷ entries) zero name needed within is so =
    let named : first.name ≡ name = cc in
    let wanted : first.needed ≡ needed = cc in
    λ i. Some (record { name = named i; needed = wanted i })
entry_at (first ∷ entries) (suc place) name needed within is so = entry_at entries place name needed (omega arith) is so

pub entry_named : (entries : List Entry) (place : ℕ) (name : List ℕ) → option_map (λ entry. entry.name) (slice_get entries place) ≡ Some name → (entry : Entry) × (slice_get entries place ≡ Some entry) × (entry.name ≡ name)
entry_named entries place name is = go (slice_get entries place) is where
  go : (found : Option Entry) → option_map (λ entry. entry.name) found ≡ Some name → (entry : Entry) × (found ≡ Some entry) × (entry.name ≡ name)
  go None is = absurd (cc)
  go (Some entry) is = (entry, refl, cc)

-- whether there are few classes
pub few_of : (count long : ℕ) → count ≡ long → IsTrue (nat_lt count 1024) ↔ (long < 1024)
few_of count long is = (λ less. grind (arith, nat_tests), λ less. grind (arith, nat_tests))

module _ (files there : Option Files) (same : there ≡ files) (root main : List ℕ) (library : List ClassFile) (place : ℕ) (entries : List Entry) (has : List (List ℕ)) (classes : List ClassFile) (entry : Entry) (stands : Stands files root main library place entries has classes) (at : slice_get entries place ≡ Some entry) where
  -- its class is there already
  pub there_next : list_any (same_name entry.name) has ≡ true → Stands files root main library (place + 1) entries has classes
  there_next known = (_, idle_turn files root main library place entries has classes stands.0 entry stands.1 at (IsThere (sym (stands.1.there entry.name) ∙ known)))

  module _ (room : Bool) (unknown : list_any (same_name entry.name) has ≡ false) (few : IsTrue room ↔ (length classes < 1024)) where
    fresh : is_loaded stands.0 entry.name ≡ false
    fresh = sym (stands.1.there entry.name) ∙ unknown

    has_room : IsTrue room ↔ HasRoom stands.0
    has_room =
        let same = room_of files root main library place entries has classes stands.0 stands.1 in
        (λ is. same.0 (few.0 is), λ is. few.1 (same.1 is))

    loads_here : (given loads : Option ClassFile) → given ≡ loads → ((before : List (Turn ClassFile)) → is_loaded before entry.name ≡ false → (IsTrue room ↔ HasRoom before) → Loads there root before entry given) → Loads files root stands.0 entry loads
    loads_here given loads is told = subst (λ files. Loads files root stands.0 entry loads) same (subst (Loads there root stands.0 entry) is (told stands.0 fresh has_room))

    -- it has no file
    pub idle_next : (given : Option ClassFile) → given ≡ None → ((before : List (Turn ClassFile)) → is_loaded before entry.name ≡ false → (IsTrue room ↔ HasRoom before) → Loads there root before entry given) → Stands files root main library (place + 1) entries has classes
    idle_next given is told = (_, idle_turn files root main library place entries has classes stands.0 entry stands.1 at (loads_here given None is told))

    -- its class is loaded
    pub found_next : (given : Option ClassFile) (class : ClassFile) → given ≡ Some class → ((before : List (Turn ClassFile)) → is_loaded before entry.name ≡ false → (IsTrue room ↔ HasRoom before) → Loads there root before entry given) → IsNext files root main library entries has classes (Some (place, class))
    found_next given class is told = (stands.0, entry, stands.1, at, loads_here given (Some class) is told)

    -- it is refused
    pub stop_next : (refusal : Refusal) → ((before : List (Turn ClassFile)) → is_loaded before entry.name ≡ false → (IsTrue room ↔ HasRoom before) → StopsAt there root before entry refusal) → Stops files root main refusal
    stop_next refusal told = stops_at files root main library place entries has classes stands.0 entry refusal stands.1 at (subst (λ files. StopsAt files root stands.0 entry refusal) same (told stands.0 fresh has_room))

-- no entry is left
pub none_next : (files : Option Files) (root main : List ℕ) (library : List ClassFile) (place : ℕ) (entries : List Entry) (has : List (List ℕ)) (classes : List ClassFile) → Stands files root main library place entries has classes → length entries ≤ place → IsNext files root main library entries has classes None
none_next files root main library place entries has classes stands last = all_taken files root main library place entries has classes stands.0 stands.1 last

-- a class that is loaded has room, and the turns stand with it
had_room : (files : Option Files) (root : List ℕ) (before : List (Turn ClassFile)) (entry : Entry) (loads : Option ClassFile) → Loads files root before entry loads → IfSome loads (λ class. HasRoom before)
had_room files root before entry loads (IsThere is) = tt
had_room files root before entry loads (StaysOpaque new may unneeded) = tt
had_room files root before entry loads (IsRead bytes class new may room of) = room

pub loaded_next : (files : Option Files) (root main : List ℕ) (library : List ClassFile) (place : ℕ) (entries more : List Entry) (has names : List (List ℕ)) (classes all : List ClassFile) (class : ClassFile) → IsNext files root main library entries has classes (Some (place, class))
    → IfSome (slice_get entries place) (λ entry. (other : List ℕ) → list_any (same_name other) names ≡ (same_name other entry.name || list_any (same_name other) has)) → more ≡ entered_all entries (names_of class) → all ≡ classes ++ class ∷ []
    → Stands files root main library (place + 1) more names all × (length classes < 1024)
loaded_next files root main library place entries more has names classes all class (turns, entry, taken, at, loads) known grown added = (
  (_, loading_turn files root main library place entries more has names classes all turns entry class taken at loads grown (subst (λ found. IfSome found (λ entry. (other : List ℕ) → list_any (same_name other) names ≡ (same_name other entry.name || list_any (same_name other) has))) at known) added),
  (room_of files root main library place entries has classes turns taken).1 (had_room files root turns entry (Some class) loads),
)
