-- Where the sites of an instruction stand.
use Rattle.std.proofs.Common.{◌≡◌, ◌∙◌, ap, refl, sym, Bool, true, false, cond, nat_lt, ℕ, zero, suc, List, [], ◌∷◌, ◌++◌, Option, None, Some, get_or, length, take, ◌+◌, ◌<◌, ◌≤◌, ◌==◌, arith}
use Rattle.std.proofs.Math.Nat.{suc-add, zero-add}
use Rattle.std.specs.Prelude.{option_map, slice_get}
use Rattle.std.specs.List.{enumerate_from, flat_map, position, position_or_len}
use Rattle.std.proofs.lemmas.Bool.{eqb-true, ltb-true}
use Rattle.std.proofs.lemmas.List.{length-append, length-map}
use Rattle.std.proofs.lemmas.List.FromFn.{length-enumerate_from}
use Rattle.std.proofs.lemmas.List.Quantifiers.{position-Some}
use Rattle.std.proofs.lemmas.Option.{get_or_from_slice_get, slice_get-map, slice_get_within}
use Rattle.cb_text.specs.declared.constant.Constant.{Constant}
use Rattle.cb_insn.specs.declared.insn.Insn.{Insn}
use Rattle.cb_classfile.specs.declared.body.Body.{Body}
use Rattle.cb_classfile.specs.declared.class.ClassFile.{ClassFile}
use Rattle.cb_classfile.specs.declared.method.Method.{Method}
use Rattle.cb_link.specs.Having.{IsWhole}
use Rattle.cb_link.specs.Making.{Making, made_by, makings}
use Rattle.cb_link.specs.Named.{IsSite, code_in, made_at, site_of, turn_at}
use Rattle.cb_link.specs.Numbers.{Numbered, methods_of}
use Rattle.cb_link.specs.Program.{Linked, linked_site}
use Rattle.cb_link.specs.InnerSites.{body_makings, insn_makings}
use Rattle.cb_link.specs.InnerSites.{made_at as made_there}
use Rattle.cb_link.specs.InnerPlaces.{HasFirstSite, made_in, made_of_method, sites_before}
use Rattle.cb_link.proofs.PlaceTurns.{there_is}

-- items of two lists, one behind the other
left : {X : Type 0} (front back : List X) (place : ℕ) (item : X) → slice_get front place ≡ Some item → slice_get (front ++ back) place ≡ Some item
left [] back place item is = absurd (cc)
left (first ∷ front) back zero item is = is
left (first ∷ front) back (suc place) item is = left front back place item is

right : {X : Type 0} (front back : List X) (place : ℕ) → slice_get (front ++ back) (length front + place) ≡ slice_get back place
right [] back place = ap (slice_get back) (zero-add place)
right (first ∷ front) back place = ap (slice_get (first ∷ front ++ back)) (suc-add (length front) place) ∙ right front back place

-- an item of the list of an item, behind the lists of those before it
pub flat_at : {X Y Z : Type 0} (f : X → List Y) (g : X → List Z) → ((x : X) → length (f x) ≡ length (g x)) → (items : List X) (place : ℕ) (item : X) (inner : ℕ) (y : Y)
    → slice_get items place ≡ Some item → slice_get (f item) inner ≡ Some y → slice_get (flat_map f items) (length (flat_map g (take place items)) + inner) ≡ Some y
flat_at f g same [] place item inner y is at = absurd (cc)
flat_at f g same (first ∷ items) zero item inner y is at =
    let one : first ≡ item = cc in
    ap (slice_get (f first ++ flat_map f items)) (zero-add inner) ∙ left (f first) (flat_map f items) inner y (ap (λ first. slice_get (f first) inner) one ∙ at)
flat_at f g same (first ∷ items) (suc place) item inner y is at =
    let behind = flat_map g (take place items) in
    let long : length (g first ++ behind) + inner ≡ length (f first) + (length behind + inner) = omega (arith, length-append (g first) behind, same first) in
    ap (slice_get (f first ++ flat_map f items)) long ∙ right (f first) (flat_map f items) (length behind + inner) ∙ flat_at f g same items place item inner y is at

-- what is numbered
enumerated : {X : Type 0} (start : ℕ) (items : List X) (place : ℕ) (item : X) → slice_get items place ≡ Some item → slice_get (enumerate_from start items) place ≡ Some (start + place, item)
enumerated start [] place item is = absurd (cc)
enumerated start (first ∷ items) zero item is = let one : first ≡ item = cc in let same : start ≡ start + 0 = omega arith in (λ i. Some (same i, one i))
enumerated start (first ∷ items) (suc place) item is =
    let same : start + 1 + place ≡ start + suc place = omega arith in enumerated (start + 1) items place item is ∙ ap (λ number. Some (number, item)) same

counted : {X Z : Type 0} (g : X → List Z) (start : ℕ) (items : List X) (place : ℕ) → length (flat_map (λ entry. g entry.1) (take place (enumerate_from start items))) ≡ length (flat_map g (take place items))
counted g start items zero = refl
counted g start [] (suc place) = refl
counted g start (first ∷ items) (suc place) =
    length-append (g first) (flat_map (λ entry. g entry.1) (take place (enumerate_from (start + 1) items))) ∙ ap (λ count. length (g first) + count) (counted g (start + 1) items place)
    ∙ sym (length-append (g first) (flat_map g (take place items)))

-- the makings of an instruction, of a body and of all methods
abbrev making_at : ℕ → ℕ → ℕ → List ℕ → Making
making_at method place dimension kind = record { method = method; place = place; dimension = dimension; kind = kind }

made_count : (method place : ℕ) (kinds : List (List ℕ)) → length (made_there method place kinds) ≡ length kinds
made_count method place kinds = length-map (enumerate_from 0 kinds) _ ∙ length-enumerate_from 0 kinds

body_count : (method : ℕ) (pool : List Constant) (body : Option Body) → length (body_makings method pool body) ≡ length (made_in pool (code_in body))
body_count method pool None = refl
body_count method pool (Some body) = go body.code where
  go : (code : List (ℕ × Insn)) → length (flat_map (insn_makings method pool) code) ≡ length (made_in pool code)
  go [] = refl
  go (placed ∷ code) =
      length-append (insn_makings method pool placed) (flat_map (insn_makings method pool) code)
      ∙ (λ i. made_count method placed.0 (made_by pool placed.1) i + go code i)
      ∙ sym (length-append (made_by pool placed.1) (made_in pool code))

making_of_insn : (method place dimension : ℕ) (kinds : List (List ℕ)) (kind : List ℕ) → slice_get kinds dimension ≡ Some kind
    → slice_get (made_there method place kinds) dimension ≡ Some (making_at method place dimension kind)
making_of_insn method place dimension kinds kind is =
    let make : ℕ × List ℕ → Making = λ made. making_at method place made.0 made.1 in
    slice_get-map make (enumerate_from 0 kinds) dimension ∙ ap (option_map make) (enumerated 0 kinds dimension kind is) ∙ ap (λ dimension. Some (making_at method place dimension kind)) (zero-add dimension)

making_of_body : (number dimension turn : ℕ) (pool : List Constant) (body : Option Body) (placed : ℕ × Insn) (kind : List ℕ) → slice_get (code_in body) turn ≡ Some placed
    → slice_get (made_by pool placed.1) dimension ≡ Some kind
    → slice_get (body_makings number pool body) (length (made_in pool (take turn (code_in body))) + dimension) ≡ Some (making_at number placed.0 dimension kind)
making_of_body number dimension turn pool None placed kind stands is = absurd (cc)
making_of_body number dimension turn pool (Some body) placed kind stands is =
    flat_at (insn_makings number pool) (λ placed. made_by pool placed.1) (λ placed. made_count number placed.0 (made_by pool placed.1)) body.code turn placed dimension
    (making_at number placed.0 dimension kind) stands (making_of_insn number placed.0 dimension (made_by pool placed.1) kind is)

abbrev entry_makings : ℕ × Numbered Method → List Making
entry_makings entry = body_makings entry.0 entry.1.pool entry.1.member.body

making_there : (classes : List ClassFile) (number dimension turn : ℕ) (method : Numbered Method) (placed : ℕ × Insn) (kind : List ℕ) → slice_get (methods_of classes) number ≡ Some method
    → slice_get (code_in method.member.body) turn ≡ Some placed → slice_get (made_by method.pool placed.1) dimension ≡ Some kind
    → slice_get (makings classes) (sites_before classes number + (length (made_in method.pool (take turn (code_in method.member.body))) + dimension)) ≡ Some (making_at number placed.0 dimension kind)
making_there classes number dimension turn method placed kind there stands is =
    let inner = length (made_in method.pool (take turn (code_in method.member.body))) + dimension in
    let before = counted made_of_method 0 (methods_of classes) number in
    ap (λ count. slice_get (makings classes) (count + inner)) (sym before)
    ∙ flat_at entry_makings (λ entry. made_of_method entry.1) (λ entry. body_count entry.0 entry.1.pool entry.1.member.body) (enumerate_from 0 (methods_of classes)) number
    (number, method) inner (making_at number placed.0 dimension kind)
    (enumerated 0 (methods_of classes) number method there ∙ ap (λ number. Some (number, method)) (zero-add number))
    (making_of_body number dimension turn method.pool method.member.body placed kind stands is)

-- a place that is found is within
pub below_length : {X : Type 0} (test : X → Bool) (items : List X) (place : ℕ) → position test items ≡ Some place → place < length items
below_length test items place is = go (nat_lt (position_or_len test items) (length items)) refl is where
  go : (low : Bool) → nat_lt (position_or_len test items) (length items) ≡ low → cond low (Some (position_or_len test items)) None ≡ Some place → place < length items
  go true low found = let same : position_or_len test items ≡ place = cc in let less = ltb-true (position_or_len test items) (length items) low in omega (arith, same, less)
  go false low found = absurd (cc)

-- the instruction that makes objects at a place
pub record Makes (program : Linked) (number pc : ℕ) : Type 0 where
  pub method : Numbered Method
  pub there : slice_get (methods_of program.classes) number ≡ Some method
  pub turn : ℕ
  pub at : turn_at (code_in method.member.body) pc ≡ Some turn
  pub placed : ℕ × Insn
  pub stands : slice_get (code_in method.member.body) turn ≡ Some placed

pub makes_at : (program : Linked) (number pc dimension : ℕ) → dimension < length (made_at program number pc) → Makes program number pc
makes_at program number pc dimension low = go (slice_get (methods_of program.classes) number) refl where
  go : (found : Option (Numbered Method)) → slice_get (methods_of program.classes) number ≡ found → Makes program number pc
  go None is = let none : made_at program number pc ≡ [] = rw is refl in absurd (let long = ap length none in omega (arith, long, low))
  go (Some method) is = within (turn_at (code_in method.member.body) pc) refl where
    within : (found : Option ℕ) → turn_at (code_in method.member.body) pc ≡ found → Makes program number pc
    within None none = let nothing : made_at program number pc ≡ [] = rw is (rw none refl) in absurd (let long = ap length nothing in omega (arith, long, low))
    within (Some turn) at =
        let one = there_is (code_in method.member.body) turn (below_length (λ placed. placed.0 == pc) (code_in method.member.body) turn at) in
        record { method = method; there = is; turn = turn; at = at; placed = one.0; stands = one.1 }

made_is : (program : Linked) (number pc : ℕ) (makes : Makes program number pc) → made_at program number pc ≡ made_by makes.method.pool makes.placed.1
made_is program number pc makes = rw makes.there (rw makes.at (rw makes.stands refl))

pub is_site : (program : Linked) (number pc dimension first : ℕ) → IsWhole program → dimension < length (made_at program number pc) → HasFirstSite program number pc first
    → IsSite program number pc dimension (length program.fixed + first + dimension)
is_site program number pc dimension first whole low before =
    let makes = makes_at program number pc dimension low in
    let method = makes.method in
    let code = code_in method.member.body in
    let kind = there_is (made_at program number pc) dimension low in
    let made : slice_get (made_by method.pool makes.placed.1) dimension ≡ Some kind.0 = ap (λ kinds. slice_get kinds dimension) (sym (made_is program number pc makes)) ∙ kind.1 in
    let known = before method makes.turn makes.there makes.at in
    let place : first + dimension ≡ sites_before program.classes number + (length (made_in method.pool (take makes.turn code)) + dimension) = omega (arith, known) in
    let passes = (position-Some (λ placed. placed.0 == pc) code makes.turn makes.placed makes.at).1 in
    let stands_at : get_or code makes.turn makes.placed ≡ makes.placed = get_or_from_slice_get code makes.turn makes.placed makes.placed makes.stands in
    let here : makes.placed.0 ≡ pc = ap (λ placed. placed.0) (sym stands_at) ∙ eqb-true _ pc passes in
    record {
      kind = kind.0;
      place = first + dimension;
      makes = kind.1;
      behind = omega arith;
      there = ap (λ sites. slice_get sites (first + dimension)) whole.sites ∙ slice_get-map (linked_site program.kinds) (makings program.classes) (first + dimension)
          ∙ ap (option_map (linked_site program.kinds))
          (ap (slice_get (makings program.classes)) place ∙ making_there program.classes number dimension makes.turn method makes.placed kind.0 makes.there makes.stands made)
          ∙ ap (λ pc. Some (site_of program number pc dimension kind.0)) here;
    }

-- of which there are few
pub site_fits : (program : Linked) (number pc dimension first : ℕ) → IsWhole program → dimension < length (made_at program number pc) → HasFirstSite program number pc first
    → length program.fixed + first + dimension ≤ 16384
site_fits program number pc dimension first whole low before =
    let site = is_site program number pc dimension first whole low before in
    let within : site.place < length program.sites = slice_get_within program.sites site.place _ site.there in
    let few : length program.fixed + length program.sites ≤ 16384 = whole.few_sites in
    let behind = site.behind in
    omega (arith, within, few, behind)
