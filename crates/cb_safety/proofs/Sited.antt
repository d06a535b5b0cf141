-- Each object that an instruction makes has a site of the program, which is of its kind.
use Rattle.std.proofs.Common.{◌≡◌, ◌∙◌, inl, inr, ap, arith, refl, sym, ℕ, zero, suc, ◌+◌, ◌<◌, ◌==◌, ◌||◌, ◌&&◌, Bool, true, false, List, [], ◌∷◌, ◌++◌, map, length, Option, Some, None, option_and_then, option_map, slice_get, if◌then◌else◌}
use Rattle.std.specs.Cmp.Lexicographic.{bytes_decides}
use Rattle.std.specs.List.{AllByRecursion, enumerate_from, find, flat_map, list_any, position}
use Rattle.std.proofs.lemmas.Bool.{eq-eqb, ne_eqb}
use Rattle.std.proofs.lemmas.List.{length-append, length-map}
use Rattle.std.proofs.lemmas.List.Folds.{list_any-append}
use Rattle.std.proofs.lemmas.Option.{slice_get-map, slice_get_within}
use Rattle.cb_classfile.specs.declared.body.Body.{Body}
use Rattle.cb_classfile.specs.declared.class.ClassFile.{ClassFile}
use Rattle.cb_classfile.specs.declared.method.Method.{Method}
use Rattle.cb_hierarchy.specs.Classes.{listed}
use Rattle.cb_insn.specs.declared.insn.Insn.{Insn}
use Rattle.cb_kinds.specs.Basics.{kind_number}
use Rattle.cb_kinds.specs.Kinds.{kinds_of_name, kinds_of_type, name_in}
use Rattle.cb_kinds.specs.Texts.{same_text}
use Rattle.cb_kinds.proofs.Laws.{among_all, entered_firsts, number_among, text_at}
use Rattle.cb_link.specs.Having.{IsWhole, site_kinds}
use Rattle.cb_link.specs.Making.{Making, body_kinds, class_kinds, descriptor_kinds, field_kinds, fixed_kinds, frame_kinds, handler_kinds, insn_kinds, kinds, made_by, makings, makings_of, member_kinds, method_kinds, named_in, named_kinds}
use Rattle.cb_link.specs.Named.{insn_in, turn_at}
use Rattle.cb_link.specs.Numbers.{Numbered, methods_of, name_of}
use Rattle.cb_link.specs.Program.{Linked, linked_site}
use Rattle.cb_link.specs.declared.linked.Site.{Site}
use Rattle.cb_machine.specs.Machine.{or_zero}
use Rattle.cb_names.specs.Signs.{bracket, letter_class}
use Rattle.cb_text.specs.declared.constant.Constant.{Constant}
use Rattle.cb_text.specs.Naming.{member_at}
use Rattle.cb_classfile.specs.Needed.{index_in}
use Rattle.cb_safety.specs.Making.{HasSite, HasSites}
use Rattle.cb_safety.proofs.Assigned.{mapped, never}
use Rattle.cb_safety.proofs.Declared.{declared_by}
use Rattle.cb_safety.proofs.Lists.{all_lists}
use Rattle.cb_safety.proofs.Searching.{found_either, found_if, found_passes, position_found}

-- ---- what is found in lists

find_front : {Item : Type 0} (test : Item → Bool) (front back : List Item) (item : Item) → find test front ≡ Some item → find test (front ++ back) ≡ Some item
find_front test [] back item so = absurd (cc so)
find_front test (first ∷ front) back item so = elim (found_either test first front item so) [
  | inl here ↦ found_if test first (front ++ back) true here.0 ∙ ap Some here.1
  | inr later ↦ found_if test first (front ++ back) false later.0 ∙ find_front test front back item later.1
]

find_back : {Item : Type 0} (test : Item → Bool) (front back : List Item) → AllByRecursion (λ (item : Item). test item ≡ false) front → find test (front ++ back) ≡ find test back
find_back test [] back all = refl
find_back test (first ∷ front) back all = found_if test first (front ++ back) false all.0 ∙ find_back test front back all.1

find_flat : {Item Part : Type 0} (test : Part → Bool) (parts : Item → List Part) (pick : Item → Bool) (items : List Item) (item : Item) (result : Part)
    → ((other : Item) → pick other ≡ false → AllByRecursion (λ (part : Part). test part ≡ false) (parts other)) → find pick items ≡ Some item
    → find test (parts item) ≡ Some result → find test (flat_map parts items) ≡ Some result
find_flat test parts pick [] item result quiet so is = absurd (cc so)
find_flat test parts pick (first ∷ items) item result quiet so is = elim (found_either pick first items item so) [
  | inl here ↦ find_front test (parts first) (flat_map parts items) result (ap (λ own. find test (parts own)) here.1 ∙ is)
  | inr later ↦ find_back test (parts first) (flat_map parts items) (quiet first later.0) ∙ find_flat test parts pick items item result quiet later.1 is
]

find_mapped : {Item Part : Type 0} (test : Part → Bool) (make : Item → Part) (items : List Item) (item : Item) → find (λ (own : Item). test (make own)) items ≡ Some item
    → find test (map make items) ≡ Some (make item)
find_mapped test make [] item so = absurd (cc so)
find_mapped {Item} {Part} test make (first ∷ items) item so = elim (found_either (λ (own : Item). test (make own)) first items item so) [
  | inl here ↦ found_if test (make first) (map make items) true here.0 ∙ ap (λ (own : Item). Some (make own)) here.1
  | inr later ↦ found_if test (make first) (map make items) false later.0 ∙ find_mapped test make items item later.1
]

find_enumerated : {Item : Type 0} (items : List Item) (from place number : ℕ) (item : Item) → slice_get items place ≡ Some item → number ≡ from + place
    → find (λ (entry : ℕ × Item). entry.0 == number) (enumerate_from from items) ≡ Some (number, item)
find_enumerated [] from place number item there is = never there
find_enumerated {Item} (first ∷ items) from zero number item there is =
    let same : from ≡ number = omega (arith, is) in
    found_if (λ (entry : ℕ × Item). entry.0 == number) (from, first) (enumerate_from (from + 1) items) true (eq-eqb from number same)
    ∙ (λ i. Some (same i, let one : first ≡ item = cc there in one i))
find_enumerated {Item} (first ∷ items) from (suc place) number item there is =
    found_if (λ (entry : ℕ × Item). entry.0 == number) (from, first) (enumerate_from (from + 1) items) false (ne_eqb from number (λ same. omega (arith, is, same)))
    ∙ find_enumerated items (from + 1) place number item there (omega (arith, is))

-- ---- among lists of lists

either_true : (one : Bool) → (one || true) ≡ true
either_true true = refl
either_true false = refl

any_front : {Item : Type 0} (test : Item → Bool) (front back : List Item) → list_any test front ≡ true → list_any test (front ++ back) ≡ true
any_front test front back is = list_any-append test front back ∙ ap (λ (one : Bool). one || list_any test back) is

any_back : {Item : Type 0} (test : Item → Bool) (front back : List Item) → list_any test back ≡ true → list_any test (front ++ back) ≡ true
any_back test front back is = list_any-append test front back ∙ ap (λ (one : Bool). list_any test front || one) is ∙ either_true (list_any test front)

any_flat : {Item Part : Type 0} (test : Part → Bool) (parts : Item → List Part) (items : List Item) (place : ℕ) (item : Item) → slice_get items place ≡ Some item
    → list_any test (parts item) ≡ true → list_any test (flat_map parts items) ≡ true
any_flat test parts [] place item there is = never there
any_flat test parts (first ∷ items) zero item there is =
    any_front test (parts first) (flat_map parts items) (ap (λ own. list_any test (parts own)) (let one : first ≡ item = cc there in one) ∙ is)
any_flat test parts (first ∷ items) (suc place) item there is = any_back test (parts first) (flat_map parts items) (any_flat test parts items place item there is)

-- ---- the kinds that an instruction makes are among a program's

own_any : (name : List ℕ) → list_any (same_text name) (kinds_of_name name) ≡ true
own_any [] = refl
own_any (unit ∷ rest) = by (unit == bracket)
  where
    here : (others : List (List ℕ)) → list_any (same_text (unit ∷ rest)) ((unit ∷ rest) ∷ others) ≡ true
    here others = ap (λ (one : Bool). one || list_any (same_text (unit ∷ rest)) others) ((bytes_decides (unit ∷ rest) (unit ∷ rest)).1 refl)

    by : (array : Bool)
        → list_any (same_text (unit ∷ rest)) (if array then (if array then (unit ∷ rest) ∷ kinds_of_type rest else if unit == letter_class then name_in rest ∷ [] else []) else (unit ∷ rest) ∷ []) ≡ true
    by true = here (kinds_of_type rest)
    by false = here []

insn_any : (pool : List Constant) (insn : Insn) (dimension : ℕ) (name : List ℕ) → slice_get (made_by pool insn) dimension ≡ Some name → list_any (same_text name) (insn_kinds pool insn) ≡ true
insn_any pool insn dimension name there =
    any_back (same_text name) (flat_map kinds_of_name (listed (named_in pool insn.operand)) ++ member_kinds (option_and_then (member_at pool) (index_in insn.operand)))
    (flat_map kinds_of_name (made_by pool insn)) (any_flat (same_text name) kinds_of_name (made_by pool insn) dimension name there (own_any name))

body_any : (pool : List Constant) (body : Body) (turn : ℕ) (placed : ℕ × Insn) (name : List ℕ) → slice_get body.code turn ≡ Some placed
    → list_any (same_text name) (insn_kinds pool placed.1) ≡ true → list_any (same_text name) (body_kinds pool (Some body)) ≡ true
body_any pool body turn placed name there is =
    any_front (same_text name) (flat_map (λ (placed : ℕ × Insn). insn_kinds pool placed.1) body.code ++ flat_map (handler_kinds pool) body.handlers) (flat_map (frame_kinds pool) body.frames)
    (any_front (same_text name) (flat_map (λ (placed : ℕ × Insn). insn_kinds pool placed.1) body.code) (flat_map (handler_kinds pool) body.handlers)
    (any_flat (same_text name) (λ (placed : ℕ × Insn). insn_kinds pool placed.1) body.code turn placed there is))

class_any : (class : ClassFile) (place : ℕ) (method : Method) (name : List ℕ) → slice_get class.methods place ≡ Some method
    → list_any (same_text name) (body_kinds class.pool method.body) ≡ true → list_any (same_text name) (class_kinds class) ≡ true
class_any class place method name there is =
    any_back (same_text name) (flat_map (field_kinds class.pool) class.fields) (flat_map (method_kinds class.pool) class.methods)
    (any_flat (same_text name) (method_kinds class.pool) class.methods place method there
    (any_back (same_text name) (descriptor_kinds class.pool method.descriptor) (body_kinds class.pool method.body) is))

kinds_any : (classes : List ClassFile) (number : ℕ) (class : ClassFile) (name : List ℕ) → slice_get classes number ≡ Some class → list_any (same_text name) (class_kinds class) ≡ true
    → list_any (same_text name) (kinds classes) ≡ true
kinds_any classes number class name there is =
    ap (list_any (same_text name)) (sym (entered_firsts (named_kinds classes))) ∙ among_all [] (named_kinds classes) name
    ∙ any_front (same_text name) (map name_of classes ++ flat_map class_kinds classes) (flat_map kinds_of_name fixed_kinds)
    (any_back (same_text name) (map name_of classes) (flat_map class_kinds classes) (any_flat (same_text name) class_kinds classes number class there is))

-- ---- where an instruction stands

pub record StandsAt (code : List (ℕ × Insn)) (pc : ℕ) (insn : Insn) : Type 0 where
  pub turn : ℕ
  pub placed : ℕ × Insn
  pub there : slice_get code turn ≡ Some placed
  pub found : find (λ (placed : ℕ × Insn). placed.0 == pc) code ≡ Some placed
  pub is : placed.1 ≡ insn

through : {Item : Type 0} (found : Option ℕ) (f : ℕ → Option Item) (result : Item) → option_and_then f found ≡ Some result → (number : ℕ) × (found ≡ Some number) × (f number ≡ Some result)
through None f result is = never is
through (Some number) f result is = (number, refl, is)

stands_at : (code : List (ℕ × Insn)) (pc : ℕ) (insn : Insn) → insn_in code pc ≡ Some insn → StandsAt code pc insn
stands_at code pc insn is =
    mapped (λ (placed : ℕ × Insn). placed.1) (option_and_then (slice_get code) (turn_at code pc)) insn is
    (λ placed found same.
    let (turn, at, there) = through (turn_at code pc) (slice_get code) placed found in
    record { turn = turn; placed = placed; there = there; found = sym (position_found (λ (placed : ℕ × Insn). placed.0 == pc) code) ∙ found; is = same })

-- ---- its sites

abbrev is_making : ℕ → ℕ → ℕ → Making → Bool
is_making method pc dimension making = making.method == method && (making.place == pc && making.dimension == dimension)

abbrev is_site : ℕ → ℕ → ℕ → Site → Bool
is_site method pc dimension site = site.method == method && (site.place == pc && site.dimension == dimension)

abbrev making_of : ℕ → ℕ → ℕ × List ℕ → Making
making_of method place made = record { method = method; place = place; dimension = made.0; kind = made.1 }

abbrev insn_makings : ℕ → List Constant → ℕ × Insn → List Making
insn_makings method pool placed = map (making_of method placed.0) (enumerate_from 0 (made_by pool placed.1))

all_mapped : {Item Part : Type 0} (P : Part → Type 0) (make : Item → Part) (items : List Item) → ((item : Item) → P (make item)) → AllByRecursion P (map make items)
all_mapped P make [] each = tt
all_mapped P make (item ∷ items) each = (each item, all_mapped P make items each)

and_none : (one : Bool) → (one && false) ≡ false
and_none true = refl
and_none false = refl

module _ (method pc dimension : ℕ) where
  elsewhere : (own place : ℕ) (made : List (ℕ × List ℕ)) → ((made : ℕ × List ℕ) → is_making method pc dimension (making_of own place made) ≡ false)
      → AllByRecursion (λ (making : Making). is_making method pc dimension making ≡ false) (map (making_of own place) made)
  elsewhere own place made each = all_mapped (λ (making : Making). is_making method pc dimension making ≡ false) (making_of own place) made each

  other_method : (own : ℕ) (pool : List Constant) (body : Option Body) → (own == method) ≡ false
      → AllByRecursion (λ (making : Making). is_making method pc dimension making ≡ false) (makings_of own pool body)
  other_method own pool None apart = tt
  other_method own pool (Some body) apart =
      all_lists (λ (making : Making). is_making method pc dimension making ≡ false) (insn_makings own pool) body.code
      (λ placed. elsewhere own placed.0 (enumerate_from 0 (made_by pool placed.1)) (λ made. ap (λ (one : Bool). one && (placed.0 == pc && made.0 == dimension)) apart))

  other_place : (own : ℕ) (pool : List Constant) (placed : ℕ × Insn) → (placed.0 == pc) ≡ false
      → AllByRecursion (λ (making : Making). is_making method pc dimension making ≡ false) (insn_makings own pool placed)
  other_place own pool placed apart =
      elsewhere own placed.0 (enumerate_from 0 (made_by pool placed.1))
      (λ made. ap (λ (one : Bool). own == method && (one && made.0 == dimension)) apart ∙ and_none (own == method))

  in_insn : (pool : List Constant) (placed : ℕ × Insn) (name : List ℕ) → (placed.0 == pc) ≡ true → slice_get (made_by pool placed.1) dimension ≡ Some name
      → find (is_making method pc dimension) (insn_makings method pool placed) ≡ Some (making_of method placed.0 (dimension, name))
  in_insn pool placed name at there =
      find_mapped (is_making method pc dimension) (making_of method placed.0) (enumerate_from 0 (made_by pool placed.1)) (dimension, name)
      ((λ i. find (λ (made : ℕ × List ℕ). eq-eqb method method refl i && (at i && made.0 == dimension)) (enumerate_from 0 (made_by pool placed.1)))
      ∙ find_enumerated (made_by pool placed.1) 0 dimension dimension name there (omega arith))

  in_body : (pool : List Constant) (body : Body) (placed : ℕ × Insn) (name : List ℕ) → find (λ (placed : ℕ × Insn). placed.0 == pc) body.code ≡ Some placed
      → slice_get (made_by pool placed.1) dimension ≡ Some name
      → find (is_making method pc dimension) (makings_of method pool (Some body)) ≡ Some (making_of method placed.0 (dimension, name))
  in_body pool body placed name found there =
      find_flat (is_making method pc dimension) (insn_makings method pool) (λ (placed : ℕ × Insn). placed.0 == pc) body.code placed (making_of method placed.0 (dimension, name))
      (other_place method pool) found
      (in_insn pool placed name (found_passes (λ (placed : ℕ × Insn). placed.0 == pc) body.code placed found) there)

  in_classes : (classes : List ClassFile) (own : Numbered Method) (body : Body) (placed : ℕ × Insn) (name : List ℕ) → slice_get (methods_of classes) method ≡ Some own
      → own.member.body ≡ Some body → find (λ (placed : ℕ × Insn). placed.0 == pc) body.code ≡ Some placed → slice_get (made_by own.pool placed.1) dimension ≡ Some name
      → find (is_making method pc dimension) (makings classes) ≡ Some (making_of method placed.0 (dimension, name))
  in_classes classes own body placed name at bodied found there =
      find_flat (is_making method pc dimension) (λ (entry : ℕ × Numbered Method). makings_of entry.0 entry.1.pool entry.1.member.body)
      (λ (entry : ℕ × Numbered Method). entry.0 == method) (enumerate_from 0 (methods_of classes)) (method, own) (making_of method placed.0 (dimension, name))
      (λ entry apart. other_method entry.0 entry.1.pool entry.1.member.body apart)
      (find_enumerated (methods_of classes) 0 method method own at (omega arith))
      (ap (λ (body : Option Body). find (is_making method pc dimension) (makings_of method own.pool body)) bodied ∙ in_body own.pool body placed name found there)

-- ---- of a program

behind_front : (front back : List ℕ) (place : ℕ) → slice_get (front ++ back) (length front + place) ≡ slice_get back place
behind_front [] back place = ap (slice_get back) (let same : 0 + place ≡ place = omega arith in same)
behind_front (first ∷ front) back place =
    ap (slice_get (first ∷ front ++ back)) (let same : length (first ∷ front) + place ≡ suc (length front + place) = omega arith in same) ∙ behind_front front back place

abbrev kind_of : Site → ℕ
kind_of site = site.kind

module _ (program : Linked) (whole : IsWhole program) (method pc dimension : ℕ) (name : List ℕ) where
  sited : (own : Numbered Method) (body : Body) (insn : Insn) → slice_get (methods_of program.classes) method ≡ Some own → own.member.body ≡ Some body → insn_in body.code pc ≡ Some insn
      → slice_get (made_by own.pool insn) dimension ≡ Some name → HasSite program method pc dimension name
  sited own body insn at bodied there makes =
      let stands = stands_at body.code pc insn there in
      let made : slice_get (made_by own.pool stands.placed.1) dimension ≡ Some name = ap (λ (insn : Insn). slice_get (made_by own.pool insn) dimension) stands.is ∙ makes in
      let making : Making = making_of method stands.placed.0 (dimension, name) in
      let found : find (is_site method pc dimension) program.sites ≡ Some (linked_site program.kinds making) =
      ap (find (is_site method pc dimension)) whole.sites
      ∙ find_mapped (is_site method pc dimension) (linked_site program.kinds) (makings program.classes) making
      (in_classes method pc dimension program.classes own body stands.placed name at bodied stands.found made) in
      let (place, first, site) = through (position (is_site method pc dimension) program.sites) (slice_get program.sites) (linked_site program.kinds making)
      (position_found (is_site method pc dimension) program.sites ∙ found) in
      let by = declared_by program.classes method own at in
      let among : list_any (same_text name) (kinds program.classes) ≡ true =
      kinds_any program.classes own.class by.declaring name by.there
      (class_any by.declaring own.place own.member name by.lists
      (ap (λ (body : Option Body). list_any (same_text name) (body_kinds by.declaring.pool body)) bodied
      ∙ body_any by.declaring.pool body stands.turn stands.placed name stands.there
      (insn_any by.declaring.pool stands.placed.1 dimension name (ap (λ (pool : List Constant). slice_get (made_by pool stands.placed.1) dimension) (sym by.pool) ∙ made)))) in
      record {
        number = length program.fixed + place;
        is = ap (option_map (λ (place : ℕ). length program.fixed + place)) first;
        low =
            let within : place < length program.sites = slice_get_within program.sites place (linked_site program.kinds making) site in
            let counted : length (site_kinds program) ≡ length program.fixed + length (map kind_of program.sites) =
            length-append program.fixed (map kind_of program.sites) in
            let mapped : length (map kind_of program.sites) ≡ length program.sites = length-map program.sites kind_of in
            omega (arith, within, counted, mapped);
        kind = ap or_zero (behind_front program.fixed (map kind_of program.sites) place ∙ slice_get-map kind_of program.sites place ∙ ap (option_map kind_of) site);
        there = text_at program.kinds name (kind_number program.kinds name)
            (number_among program.kinds name (ap (list_any (same_text name)) whole.kinds ∙ among));
      }

abbrev made_with : List Constant → Option Insn → List (List ℕ)
made_with pool None = []
made_with pool (Some insn) = made_by pool insn

pub has_sites : (program : Linked) → IsWhole program → HasSites program
has_sites program whole method pc dimension name makes = by_method (slice_get (methods_of program.classes) method) refl
  where
    by_insn : (own : Numbered Method) (body : Body) → slice_get (methods_of program.classes) method ≡ Some own → own.member.body ≡ Some body
        → (found : Option Insn) → insn_in body.code pc ≡ found → HasSite program method pc dimension name
    by_insn own body at bodied None none = never (rw (at, bodied, none) at makes)
    by_insn own body at bodied (Some insn) some = sited program whole method pc dimension name own body insn at bodied some (rw (at, bodied, some) at makes)

    by_body : (own : Numbered Method) → slice_get (methods_of program.classes) method ≡ Some own → (found : Option Body) → own.member.body ≡ found
        → HasSite program method pc dimension name
    by_body own at None none = never (rw (at, none) at makes)
    by_body own at (Some body) some = by_insn own body at some (insn_in body.code pc) refl

    by_method : (found : Option (Numbered Method)) → slice_get (methods_of program.classes) method ≡ found → HasSite program method pc dimension name
    by_method None none = never (rw none at makes)
    by_method (Some own) some = by_body own some own.member.body refl
