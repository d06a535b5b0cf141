-- The arguments are placed one after the other, and the array refers to each.
use Rattle.std.proofs.Common.{◌≡◌, ◌∙◌, add-one, ap, refl, sym, arith, ℕ, zero, suc, ◌+◌, ◌<◌, ◌≤◌, List, [], ◌∷◌, ◌++◌, append_assoc, drop, get_or, is_some, length, replicate, Option, Some, IsTrue, slice_get, slice_set, true, Bool}
use Rattle.std.proofs.Math.Seq.{drop-cons}
use Rattle.std.proofs.lemmas.List.{length-append}
use Rattle.std.proofs.lemmas.Option.{same_Some, slice_get-get_or}
use Rattle.std.specs.Prelude.{option_map}
use Rattle.std.specs.List.{AllByRecursion}
use Rattle.cb_heap.proofs.Laws.{content_of_object, may_point_there, placed_there}
use Rattle.cb_heap.specs.Kept.{content_at, is_held, is_reference, with_content}
use Rattle.cb_heap.specs.Store.{may_point}
use Rattle.cb_heap.specs.Text.{array_of, string_of, with_text}
use Rattle.cb_heap.specs.declared.text_sites.TextSites.{TextSites}
use Rattle.cb_link.specs.Program.{Linked}
use Rattle.cb_machine.specs.Performing.{most_elements}
use Rattle.cb_plain.specs.State.{Content, Object, Reference}
use Rattle.cb_plain.specs.Updates.{object_in}
use Rattle.cb_safety.specs.Strings.{IsText}
use Rattle.cb_interp.specs.Arguments.{HasArray, argument_sites, with_argument_text}
use Rattle.cb_interp.specs.Starting.{blank_array}
use Rattle.cb_act.proofs.Laws.{all_at, length_changed}

-- the arguments from one on
pub next_of : (given : List (List ℕ)) (turn : ℕ) (units : List ℕ) → turn < length given → units ≡ get_or given turn units
    → drop turn given ≡ units ∷ drop (turn + 1) given
next_of given turn units low is =
    drop-cons given turn units low ∙ ap (λ (first : List ℕ). first ∷ drop (suc turn) given) (sym is)
    ∙ ap (λ (place : ℕ). units ∷ drop place given) (sym (add-one turn))

pub short_of : (given : List (List ℕ)) (turn : ℕ) (units : List ℕ) → AllByRecursion IsText given → turn < length given → units ≡ get_or given turn units
    → length units ≤ most_elements
short_of given turn units all low is =
    let there : slice_get given turn ≡ Some units = slice_get-get_or given turn units low ∙ ap {B = Option (List ℕ)} Some (sym is) in
    let text = all_at IsText given turn units all there in
    text.few

-- ---- words that hold references

pub set_holds : (contents : List Content) (place serial word : ℕ) → IsTrue (is_reference (slice_get contents word))
    → IsTrue (is_reference (slice_get (slice_set contents place (Reference serial)) word))
set_holds [] place serial word holds = holds
set_holds (content ∷ contents) zero serial zero holds = refl
set_holds (content ∷ contents) zero serial (suc word) holds = holds
set_holds (content ∷ contents) (suc place) serial zero holds = holds
set_holds (content ∷ contents) (suc place) serial (suc word) holds = set_holds contents place serial word holds

pub fewer_hold : (objects : List (Option Object)) (count turn : ℕ) → turn < count → HasArray objects count → HasArray objects (turn + 1)
fewer_hold objects count turn low has = record {
  array = has.array;
  rest = has.rest;
  is = has.is;
  holds = λ word small. has.holds word (omega (arith, low, small));
}

pub array_held : (objects : List (Option Object)) (count : ℕ) → HasArray objects count → IsTrue (is_held objects 1)
array_held objects count has = ap (λ (objects : List (Option Object)). is_held objects 1) has.is

-- ---- one text

pub held_there : (objects : List (Option Object)) (serial : ℕ) (object : Object) → object_in objects serial ≡ Some object → IsTrue (is_held objects serial)
held_there objects zero object is = refl
held_there objects (suc place) object is = ap is_some is

module _ (sites : TextSites) (units : List ℕ) (objects : List (Option Object)) where
  abbrev array : Object
  array = array_of sites.characters sites.array units

  abbrev string : Object
  string = string_of sites.site sites.kind (length objects + 1)

  in_two : (objects ++ Some array ∷ []) ++ Some string ∷ [] ≡ with_text sites units objects
  in_two = append_assoc objects (Some array ∷ []) (Some string ∷ [])

  string_there : object_in (with_text sites units objects) (length objects + 2) ≡ Some string
  string_there =
      let long : length (objects ++ Some array ∷ []) ≡ length objects + 1 = length-append objects (Some array ∷ []) in
      let place : length objects + 2 ≡ length (objects ++ Some array ∷ []) + 1 = omega (arith, long) in
      ap (object_in (with_text sites units objects)) place
      ∙ ap (λ (all : List (Option Object)). object_in all (length (objects ++ Some array ∷ []) + 1)) (sym in_two)
      ∙ placed_there (objects ++ Some array ∷ []) string

  pub text_length : length (with_text sites units objects) ≡ length objects + 2
  text_length = length-append objects (Some array ∷ Some string ∷ [])

  module _ (turn : ℕ) (has : HasArray objects (turn + 1)) where
    array_there : object_in (with_text sites units objects) 1 ≡ Some has.array
    array_there = ap (λ (objects : List (Option Object)). object_in (objects ++ Some array ∷ Some string ∷ []) 1) has.is

    -- what is asked before the array refers to the string
    module _ (kept : List (Option Object)) (one other : ℕ) (is : kept ≡ with_text sites units objects) (first : one ≡ 1) (last : other ≡ length objects + 2) where
      pub is_there : IsTrue (is_reference (content_at kept one turn))
      is_there =
          ap (λ (one : ℕ). is_reference (content_at kept one turn)) first ∙ ap (λ (kept : List (Option Object)). is_reference (content_at kept 1 turn)) is
          ∙ ap is_reference (content_of_object (with_text sites units objects) 1 turn has.array array_there) ∙ has.holds turn (omega arith)

      pub is_held_so : IsTrue (is_held kept other)
      is_held_so =
          ap (is_held kept) last ∙ ap (λ (kept : List (Option Object)). is_held kept (length objects + 2)) is
          ∙ held_there (with_text sites units objects) (length objects + 2) string string_there

      pub is_allowed : (allows : ℕ → ℕ → Bool) → allows has.array.site sites.site ≡ true → IsTrue (may_point allows kept one other)
      is_allowed allows allowed =
          ap (λ (one : ℕ). may_point allows kept one other) first ∙ ap (may_point allows kept 1) last
          ∙ ap (λ (kept : List (Option Object)). may_point allows kept 1 (length objects + 2)) is
          ∙ may_point_there allows (with_text sites units objects) 1 (length objects + 2) has.array string array_there string_there allowed

      pub refers_so : with_content kept one turn (Reference other) ≡ with_content (with_text sites units objects) 1 turn (Reference (length objects + 2))
      refers_so =
          ap (λ (one : ℕ). with_content kept one turn (Reference other)) first ∙ ap (λ (other : ℕ). with_content kept 1 turn (Reference other)) last
          ∙ ap (λ (kept : List (Option Object)). with_content kept 1 turn (Reference (length objects + 2))) is

-- and the array stays
module _ (program : Linked) (objects : List (Option Object)) (turn : ℕ) (units : List ℕ) where
  pub one_longer : length (with_argument_text program objects turn units) ≡ length objects + 2
  one_longer =
      length_changed (with_text (argument_sites program) units objects) 1 _ ∙ text_length (argument_sites program) units objects

  abbrev changed : Object → Object
  changed array =
      record { site = array.site; kind = array.kind; contents = slice_set array.contents turn (Reference (length objects + 2)) }

  abbrev more : List (Option Object)
  more =
      Some (array_of (argument_sites program).characters (argument_sites program).array units)
      ∷ Some (string_of (argument_sites program).site (argument_sites program).kind (length objects + 1)) ∷ []

  pub has_still : (count : ℕ) → HasArray objects count → HasArray (with_argument_text program objects turn units) count
  has_still count has = record {
    array = changed has.array;
    rest = has.rest ++ more;
    is = ap (λ (own : List (Option Object)). with_content (own ++ more) 1 turn (Reference (length objects + 2))) has.is;
    holds = λ word low. set_holds has.array.contents turn (length objects + 2) word (has.holds word low);
  }

-- it has its site
pub array_site : (objects : List (Option Object)) (count site : ℕ) → (has : HasArray objects count) → option_map (λ (object : Object). object.site) (object_in objects 1) ≡ Some site
    → has.array.site ≡ site
array_site objects count site has is =
    same_Some has.array.site site (sym (ap (λ (objects : List (Option Object)). option_map (λ (object : Object). object.site) (object_in objects 1)) has.is) ∙ is)

pub site_still : (program : Linked) (objects : List (Option Object)) (turn : ℕ) (units : List ℕ) (count site : ℕ) → HasArray objects count
    → option_map (λ (object : Object). object.site) (object_in objects 1) ≡ Some site
    → option_map (λ (object : Object). object.site) (object_in (with_argument_text program objects turn units) 1) ≡ Some site
unfolding has_still
site_still program objects turn units count site has is =
    ap (λ (objects : List (Option Object)). option_map (λ (object : Object). object.site) (object_in objects 1)) (has_still program objects turn units count has).is
    ∙ ap {B = Option ℕ} Some (array_site objects count site has is)

-- ---- the array, before any of them and behind all

blank_holds : (count word : ℕ) → word < count → IsTrue (is_reference (slice_get (replicate count (Reference 0)) word))
blank_holds zero word low = absurd (omega (arith, low))
blank_holds (suc count) zero low = refl
blank_holds (suc count) (suc word) low = blank_holds count word (omega (arith, low))

pub blank_has : (program : Linked) (count : ℕ) → HasArray (Some (blank_array program count) ∷ []) count
blank_has program count = record { array = blank_array program count; rest = []; is = refl; holds = blank_holds count }

pub has_behind : (objects more : List (Option Object)) (count : ℕ) → HasArray objects count → HasArray (objects ++ more) count
has_behind objects more count has = record {
  array = has.array;
  rest = has.rest ++ more;
  is = ap (λ (objects : List (Option Object)). objects ++ more) has.is;
  holds = has.holds;
}

pub last_held : (objects all : List (Option Object)) (object : Object) (serial : ℕ) → all ≡ objects ++ Some object ∷ [] → serial ≡ length objects + 1 → IsTrue (is_held all serial)
last_held objects all object serial is last =
    ap (λ (all : List (Option Object)). is_held all serial) is ∙ ap (is_held (objects ++ Some object ∷ [])) last
    ∙ held_there (objects ++ Some object ∷ []) (length objects + 1) object (placed_there objects object)
