-- Arrays are placed one after the other, and other arrays refer to them: one by one into the words of an array, those of all arrays of a
-- dimension, and those of all dimensions.
use Rattle.std.proofs.Common.{◌≡◌, ◌∙◌, add-one, ap, refl, subst, sym, arith, ℕ, zero, suc, ◌+◌, ◌-◌, ◌<◌, Bool, true, false, List, [], ◌∷◌, ◌++◌, append_assoc, length, map, replicate, Option, Some, None, IsTrue, slice_get, slice_set}
use Rattle.std.specs.Prelude.{IfSome, option_map, take}
use Rattle.std.proofs.lemmas.Bool.{false≢true}
use Rattle.std.proofs.lemmas.List.{append-nil, length-append, length-replicate, replicate_more}
use Rattle.std.proofs.lemmas.Option.{none-some, same_Some}
use Rattle.std.specs.List.{range_with_len}
use Rattle.cb_heap.proofs.Laws.{content_of_object, held_alike, may_point_there, placed_there, residents_content, there_before}
use Rattle.cb_heap.specs.Kept.{content_at, contents_at, is_held, is_reference, with_content}
use Rattle.cb_heap.specs.Rules.{Rules}
use Rattle.cb_heap.specs.Store.{ReadsAsBefore, may_point}
use Rattle.cb_heap.specs.Reading.{serial_of}
use Rattle.cb_link.specs.Program.{Linked}
use Rattle.cb_machine.specs.Plans.{object_of}
use Rattle.cb_plain.specs.State.{Content, Object, Reference}
use Rattle.cb_plain.specs.Updates.{object_in, with_contents_in}
use Rattle.cb_interp.specs.Nested.{knows_rows, new_array, with_row, with_rows}
use Rattle.cb_interp.proofs.TurnsStarting.{still}
use Rattle.cb_interp.proofs.TurnsStartingTexts.{held_there}

-- ---- one array that is put into a word of another

record HasWord (objects : List (Option Object)) (serial turn : ℕ) : Type 0 where
  pub array : Object
  pub there : object_in objects serial ≡ Some array
  pub holds : IsTrue (is_reference (slice_get array.contents turn))

word_in : (objects : List (Option Object)) (serial turn : ℕ) → IsTrue (is_reference (content_at objects serial turn)) → HasWord objects serial turn
word_in objects serial turn holds = go (object_in objects serial) refl where
  go : (found : Option Object) → object_in objects serial ≡ found → HasWord objects serial turn
  go None is =
      let none : is_reference (content_at objects serial turn) ≡ false = rw is refl in
      absurd (false≢true (sym none ∙ holds))
  go (Some array) is =
      record { array = array; there = is; holds = ap is_reference (sym (content_of_object objects serial turn array is)) ∙ holds }

pub word_held : (objects : List (Option Object)) (serial turn : ℕ) → IsTrue (is_reference (content_at objects serial turn)) → IsTrue (is_held objects serial)
word_held objects serial turn holds = let has = word_in objects serial turn holds in held_there objects serial has.array has.there

module _ (objects : List (Option Object)) (serial turn : ℕ) (new : Object) (holds : IsTrue (is_reference (content_at objects serial turn))) where
  abbrev more : List (Option Object)
  more = objects ++ Some new ∷ []

  has : HasWord objects serial turn
  has = word_in objects serial turn holds

  still_there : object_in more serial ≡ Some has.array
  still_there = there_before objects new serial has.array has.there

  -- what is asked before the one refers to the other
  module _ (kept : List (Option Object)) (one other : ℕ) (is : kept ≡ more) (first : one ≡ serial) (last : other ≡ length objects + 1) where
    pub word_there : IsTrue (is_reference (content_at kept one turn))
    word_there =
        ap (λ (one : ℕ). is_reference (content_at kept one turn)) first ∙ ap (λ (kept : List (Option Object)). is_reference (content_at kept serial turn)) is
        ∙ ap is_reference (content_of_object more serial turn has.array still_there) ∙ has.holds

    pub new_held : IsTrue (is_held kept other)
    new_held =
        ap (is_held kept) last ∙ ap (λ (kept : List (Option Object)). is_held kept (length objects + 1)) is
        ∙ held_there more (length objects + 1) new (placed_there objects new)

    pub new_allowed : (allows : ℕ → ℕ → Bool) → IfSome (object_in objects serial) (λ object. allows object.site new.site ≡ true) → IsTrue (may_point allows kept one other)
    new_allowed allows allowed =
        ap (λ (one : ℕ). may_point allows kept one other) first ∙ ap (may_point allows kept serial) last
        ∙ ap (λ (kept : List (Option Object)). may_point allows kept serial (length objects + 1)) is
        ∙ may_point_there allows more serial (length objects + 1) has.array new still_there (placed_there objects new)
        (subst (λ (found : Option Object). IfSome found (λ object. allows object.site new.site ≡ true)) has.there allowed)

    pub refers_so : with_content kept one turn (Reference other) ≡ with_content more serial turn (Reference (length objects + 1))
    refers_so =
        ap (λ (one : ℕ). with_content kept one turn (Reference other)) first ∙ ap (λ (other : ℕ). with_content kept serial turn (Reference other)) last
        ∙ ap (λ (kept : List (Option Object)). with_content kept serial turn (Reference (length objects + 1))) is

-- ---- an object that stands behind some

pub in_middle : (before : List (Option Object)) (object : Object) (rest : List (Option Object)) → object_in (before ++ Some object ∷ rest) (suc (length before)) ≡ Some object
in_middle [] object rest = refl
in_middle (entry ∷ before) object rest = in_middle before object rest

pub changed_middle : (before : List (Option Object)) (object : Object) (rest : List (Option Object)) (contents : List Content)
    → with_contents_in (before ++ Some object ∷ rest) (suc (length before)) contents ≡ before ++ Some (object_of object.site object.kind contents) ∷ rest
changed_middle [] object rest contents = refl
changed_middle (entry ∷ before) object rest contents = ap (λ (objects : List (Option Object)). entry ∷ objects) (changed_middle before object rest contents)

contents_middle : (before : List (Option Object)) (object : Object) (rest : List (Option Object)) → contents_at (before ++ Some object ∷ rest) (suc (length before)) ≡ object.contents
contents_middle before object rest = let is = in_middle before object rest in rw is refl

set_middle : (before : List (Option Object)) (object : Object) (rest : List (Option Object)) (word : ℕ) (content : Content)
    → with_content (before ++ Some object ∷ rest) (length before + 1) word content
    ≡ before ++ Some (object_of object.site object.kind (slice_set object.contents word content)) ∷ rest
set_middle before object rest word content =
    ap (λ (serial : ℕ). with_content (before ++ Some object ∷ rest) serial word content) (add-one (length before))
    ∙ ap (λ (contents : List Content). with_contents_in (before ++ Some object ∷ rest) (suc (length before)) (slice_set contents word content)) (contents_middle before object rest)
    ∙ changed_middle before object rest (slice_set object.contents word content)

-- what is held is held further
pub held_before : (before further : List (Option Object)) (serial : ℕ) → IsTrue (is_held before serial) → IsTrue (is_held (before ++ further) serial)
held_before before further zero held = refl
held_before [] further (suc place) held = absurd (false≢true held)
held_before (entry ∷ before) further (suc zero) held = held
held_before (entry ∷ before) further (suc (suc place)) held = held_before before further (suc place) held

-- what is held is held where one more is put into a word of it
pub row_held : (program : Linked) (objects : List (Option Object)) (serial turn site size own : ℕ) → IsTrue (is_held objects own) → IsTrue (is_held (with_row program objects serial turn site size) own)
row_held program objects serial turn site size own held =
    held_alike (with_row program objects serial turn site size) (objects ++ Some (new_array program site size) ∷ []) own
    (residents_content (objects ++ Some (new_array program site size) ∷ []) serial turn (Reference (length objects + 1)))
    ∙ held_before objects (Some (new_array program site size) ∷ []) own held

changed_length : (objects : List (Option Object)) (serial : ℕ) (contents : List Content) → length (with_contents_in objects serial contents) ≡ length objects
changed_length objects zero contents = refl
changed_length [] (suc place) contents = refl
changed_length (entry ∷ objects) (suc zero) contents = refl
changed_length (entry ∷ objects) (suc (suc place)) contents = ap suc (changed_length objects (suc place) contents)

pub row_length : (program : Linked) (objects : List (Option Object)) (serial turn site size : ℕ) → length (with_row program objects serial turn site size) ≡ length objects + 1
row_length program objects serial turn site size =
    let more : List (Option Object) = objects ++ Some (new_array program site size) ∷ [] in
    changed_length more serial (slice_set (contents_at more serial) turn (Reference (length objects + 1))) ∙ length-append objects (Some (new_array program site size) ∷ [])

pub reads_on : (before objects : List (Option Object)) (first second third : ℕ → ℕ) → ((serial : ℕ) → IsTrue (is_held before serial) → IsTrue (is_held objects serial))
    → ReadsAsBefore before first second → ReadsAsBefore objects second third → ReadsAsBefore before first third
reads_on before objects first second third more one two place held =
    still objects second third two place (serial_of first place) (one place held) (more (serial_of first place) held)

-- what stands before an object of a serial
pub front_taken : (front back objects : List (Option Object)) (serial : ℕ) → objects ≡ front ++ back → serial ≡ length front + 1 → take (serial - 1) objects ≡ front
front_taken front back objects serial is at =
    ap (take (serial - 1)) is ∙ ap (λ (count : ℕ). take count (front ++ back)) (let same : serial - 1 ≡ length front = omega (arith, at) in same) ∙ go front where
      go : (front : List (Option Object)) → take (length front) (front ++ back) ≡ front
      go [] = refl
      go (entry ∷ front) = ap (λ (objects : List (Option Object)). entry ∷ objects) (go front)

-- ---- contents of which the first words refer to the objects from a serial on

abbrev pub filled : (first done count : ℕ) → List Content
filled first zero count = replicate count (Reference 0)
filled first (suc done) zero = []
filled first (suc done) (suc count) = Reference first ∷ filled (first + 1) done count

all_filled : (first count : ℕ) → filled first count count ≡ map Reference (range_with_len first count)
all_filled first zero = refl
all_filled first (suc count) = ap (λ (rest : List Content). Reference first ∷ rest) (all_filled (first + 1) count)

nulls_hold : (count word : ℕ) → word < count → IsTrue (is_reference (slice_get (replicate count (Reference 0)) word))
nulls_hold zero word low = absurd (omega (arith, low))
nulls_hold (suc count) zero low = refl
nulls_hold (suc count) (suc word) low = nulls_hold count word (omega (arith, low))

filled_hold : (first done count word : ℕ) → word < count → IsTrue (is_reference (slice_get (filled first done count) word))
filled_hold first zero count word low = nulls_hold count word low
filled_hold first (suc done) zero word low = absurd (omega (arith, low))
filled_hold first (suc done) (suc count) zero low = refl
filled_hold first (suc done) (suc count) (suc word) low = filled_hold (first + 1) done count word (omega (arith, low))

filled_next : (first done count : ℕ) → done < count → slice_set (filled first done count) done (Reference (first + done)) ≡ filled first (suc done) count
filled_next first zero zero low = absurd (omega (arith, low))
filled_next first (suc done) zero low = absurd (omega (arith, low))
filled_next first zero (suc count) low =
    let same : first + 0 ≡ first = omega arith in
    ap (λ (serial : ℕ). Reference serial ∷ replicate count (Reference 0)) same
filled_next first (suc done) (suc count) low =
    let same : first + suc done ≡ (first + 1) + done = omega arith in
    ap (λ (serial : ℕ). Reference first ∷ slice_set (filled (first + 1) done count) done (Reference serial)) same
    ∙ ap (λ (rest : List Content). Reference first ∷ rest) (filled_next (first + 1) done count (omega (arith, low)))

-- ---- an array that stands among others

record StandsIn (objects : List (Option Object)) (serial : ℕ) (array : Object) : Type 0 where
  before : List (Option Object)
  rest : List (Option Object)
  is : objects ≡ before ++ Some array ∷ rest
  at : serial ≡ length before + 1

stands_in : (objects : List (Option Object)) (serial : ℕ) (array : Object) → object_in objects serial ≡ Some array → StandsIn objects serial array
stands_in objects zero array is = absurd (none-some array is)
stands_in [] (suc place) array is = absurd (none-some array is)
stands_in (entry ∷ objects) (suc zero) array is = record { before = []; rest = objects; is = ap (λ (entry : Option Object). entry ∷ objects) is; at = refl }
stands_in (entry ∷ objects) (suc (suc place)) array is =
    let further = stands_in objects (suc place) array is in
    let at = further.at in
    record { before = entry ∷ further.before; rest = further.rest; is = ap (λ (objects : List (Option Object)). entry ∷ objects) further.is; at = omega (arith, at) }

-- the first of its words refer to new arrays
abbrev pub filled_so : Linked → List (Option Object) → (serial count done site size : ℕ) → List (Option Object)
filled_so program objects serial count done site size =
    with_contents_in objects serial (filled (length objects + 1) done count) ++ replicate done (Some (new_array program site size))

module _ (program : Linked) (array : Object) (count site size : ℕ) where
  abbrev child : Object
  child = new_array program site size

  module _ (before rest : List (Option Object)) where
    abbrev all : List (Option Object)
    all = before ++ Some array ∷ rest

    abbrev first : ℕ
    first = length all + 1

    abbrev partly : ℕ → Object
    partly done = object_of array.site array.kind (filled first done count)

    abbrev placed_rows : ℕ → List (Option Object)
    placed_rows done = before ++ Some (partly done) ∷ (rest ++ replicate done (Some child))

    filled_is : (done : ℕ) → filled_so program all (length before + 1) count done site size ≡ placed_rows done
    filled_is done =
        ap (λ (serial : ℕ). with_contents_in all serial (filled first done count) ++ replicate done (Some child)) (add-one (length before))
        ∙ ap (λ (objects : List (Option Object)). objects ++ replicate done (Some child)) (changed_middle before array rest (filled first done count))
        ∙ append_assoc before (Some (partly done) ∷ rest) (replicate done (Some child))

    rows_count : (done : ℕ) → length (placed_rows done) + 1 ≡ first + done
    rows_count done =
        let whole : length (placed_rows done) ≡ length before + suc (length (rest ++ replicate done (Some child))) =
        length-append before (Some (partly done) ∷ (rest ++ replicate done (Some child))) in
        let both : length (rest ++ replicate done (Some child)) ≡ length rest + length (replicate done (Some child)) = length-append rest (replicate done (Some child)) in
        let some : length (replicate done (Some child)) ≡ done = length-replicate done (Some child) in
        let start : length all ≡ length before + suc (length rest) = length-append before (Some array ∷ rest) in
        omega (arith, whole, both, some, start)

    row_in : (done : ℕ) → done < count → IsTrue (is_reference (content_at (placed_rows done) (length before + 1) done))
    row_in done low =
        ap (λ (serial : ℕ). is_reference (content_at (placed_rows done) serial done)) (add-one (length before))
        ∙ ap is_reference (content_of_object (placed_rows done) (suc (length before)) done (partly done)
        (in_middle before (partly done) (rest ++ replicate done (Some child))))
        ∙ filled_hold first done count done low

    one_more : (done : ℕ) → (before ++ Some (partly done) ∷ (rest ++ replicate done (Some child))) ++ Some child ∷ []
        ≡ before ++ Some (partly done) ∷ (rest ++ replicate (done + 1) (Some child))
    one_more done =
        append_assoc before (Some (partly done) ∷ (rest ++ replicate done (Some child))) (Some child ∷ [])
        ∙ ap (λ (rest : List (Option Object)). before ++ Some (partly done) ∷ rest)
        (append_assoc rest (replicate done (Some child)) (Some child ∷ [])
        ∙ ap (λ (children : List (Option Object)). rest ++ children) (replicate_more done (Some child)))

    rows_next : (done : ℕ) → done < count → with_row program (placed_rows done) (length before + 1) done site size ≡ placed_rows (done + 1)
    rows_next done low =
        ap (λ (objects : List (Option Object)). with_content objects (length before + 1) done (Reference (length (placed_rows done) + 1))) (one_more done)
        ∙ set_middle before (partly done) (rest ++ replicate (done + 1) (Some child)) done (Reference (length (placed_rows done) + 1))
        ∙ ap (λ (serial : ℕ). before ++ Some (object_of array.site array.kind (slice_set (filled first done count) done (Reference serial))) ∷ (rest ++ replicate (done + 1) (Some child)))
        (rows_count done)
        ∙ ap (λ (contents : List Content). before ++ Some (object_of array.site array.kind contents) ∷ (rest ++ replicate (done + 1) (Some child)))
        (filled_next first done count low ∙ ap (λ (next : ℕ). filled first next count) (sym (add-one done)))

    rows_first : array.contents ≡ replicate count (Reference 0) → all ≡ placed_rows 0
    rows_first blank =
        ap (λ (contents : List Content). before ++ Some (object_of array.site array.kind contents) ∷ rest) blank
        ∙ ap (λ (rest : List (Option Object)). before ++ Some (partly 0) ∷ rest) (sym (append-nil rest))

  module _ (objects : List (Option Object)) (serial : ℕ) (is : object_in objects serial ≡ Some array) where
    stands : StandsIn objects serial array
    stands = stands_in objects serial array is

    abbrev so : ℕ → List (Option Object)
    so done = filled_so program objects serial count done site size

    so_is : (done : ℕ) → so done ≡ placed_rows stands.before stands.rest done
    so_is done =
        ap (λ (objects : List (Option Object)). filled_so program objects serial count done site size) stands.is
        ∙ ap (λ (serial : ℕ). filled_so program (stands.before ++ Some array ∷ stands.rest) serial count done site size) stands.at
        ∙ filled_is stands.before stands.rest done

    fill_there : (done : ℕ) → done < count → IsTrue (is_reference (content_at (so done) serial done))
    fill_there done low =
        ap (λ (objects : List (Option Object)). is_reference (content_at objects serial done)) (so_is done)
        ∙ ap (λ (serial : ℕ). is_reference (content_at (placed_rows stands.before stands.rest done) serial done)) stands.at
        ∙ row_in stands.before stands.rest done low

    -- it has its site
    fill_allowed : (allows : ℕ → ℕ → Bool) (done : ℕ) → allows array.site site ≡ true → IfSome (object_in (so done) serial) (λ object. allows object.site site ≡ true)
    fill_allowed allows done allowed =
        let all : List (Option Object) = placed_rows stands.before stands.rest done in
        let there : object_in (so done) serial ≡ Some (partly stands.before stands.rest done) =
        ap (λ (objects : List (Option Object)). object_in objects serial) (so_is done) ∙ ap (object_in all) (stands.at ∙ add-one (length stands.before))
        ∙ in_middle stands.before (partly stands.before stands.rest done) (stands.rest ++ replicate done (Some child)) in
        subst (λ (found : Option Object). IfSome found (λ object. allows object.site site ≡ true)) (sym there) allowed

    fill_next : (done : ℕ) → done < count → with_row program (so done) serial done site size ≡ so (done + 1)
    fill_next done low =
        ap (λ (objects : List (Option Object)). with_row program objects serial done site size) (so_is done)
        ∙ ap (λ (serial : ℕ). with_row program (placed_rows stands.before stands.rest done) serial done site size) stands.at
        ∙ rows_next stands.before stands.rest done low ∙ sym (so_is (done + 1))

    fill_first : array.contents ≡ replicate count (Reference 0) → objects ≡ so 0
    fill_first blank = stands.is ∙ rows_first stands.before stands.rest blank ∙ sym (so_is 0)

    fill_last : so count ≡ with_rows program objects serial count site size
    fill_last =
        ap (λ (contents : List Content). with_contents_in objects serial contents ++ replicate count (Some child)) (all_filled (length objects + 1) count)

-- an object of which the contents are told
pub record HasContents (objects : List (Option Object)) (serial : ℕ) (contents : List Content) : Type 0 where
  pub array : Object
  pub there : object_in objects serial ≡ Some array
  pub holds : array.contents ≡ contents

pub has_contents : (objects : List (Option Object)) (serial : ℕ) (contents : List Content) → option_map (λ object. object.contents) (object_in objects serial) ≡ Some contents
    → HasContents objects serial contents
has_contents objects serial contents is = go (object_in objects serial) refl is where
  go : (found : Option Object) → object_in objects serial ≡ found → option_map (λ object. object.contents) found ≡ Some contents → HasContents objects serial contents
  go None at is = absurd (none-some contents is)
  go (Some array) at is = record { array = array; there = at; holds = same_Some array.contents contents is }

module _ (program : Linked) (objects : List (Option Object)) (serial count site size : ℕ)
    (blank : option_map (λ object. object.contents) (object_in objects serial) ≡ Some (replicate count (Reference 0))) where
  own : HasContents objects serial (replicate count (Reference 0))
  own = has_contents objects serial (replicate count (Reference 0)) blank

  pub filling_there : (done : ℕ) → done < count → IsTrue (is_reference (content_at (filled_so program objects serial count done site size) serial done))
  filling_there done low = fill_there program own.array count site size objects serial own.there done low

  pub filling_next : (done : ℕ) → done < count → with_row program (filled_so program objects serial count done site size) serial done site size
      ≡ filled_so program objects serial count (done + 1) site size
  filling_next done low = fill_next program own.array count site size objects serial own.there done low

  pub filling_allowed : (allows : ℕ → ℕ → Bool) (done : ℕ) → IfSome (object_in objects serial) (λ object. allows object.site site ≡ true)
      → IfSome (object_in (filled_so program objects serial count done site size) serial) (λ object. allows object.site site ≡ true)
  filling_allowed allows done allowed =
      fill_allowed program own.array count site size objects serial own.there allows done
      (subst (λ (found : Option Object). IfSome found (λ object. allows object.site site ≡ true)) own.there allowed)

  pub filling_first : objects ≡ filled_so program objects serial count 0 site size
  filling_first = fill_first program own.array count site size objects serial own.there own.holds

  pub filling_last : filled_so program objects serial count count site size ≡ with_rows program objects serial count site size
  filling_last = fill_last program own.array count site size objects serial own.there

-- what a store knows when one more was placed
pub knows_next : {Facts : Type 0} (rules : Rules Facts) (facts : Facts) (site size count : ℕ)
    → rules.placed (knows_rows rules facts site size count) site size ≡ knows_rows rules facts site size (count + 1)
knows_next {Facts} rules facts site size count = go count facts ∙ ap (knows_rows rules facts site size) (sym (add-one count)) where
  go : (count : ℕ) (facts : Facts) → rules.placed (knows_rows rules facts site size count) site size ≡ knows_rows rules facts site size (suc count)
  go zero facts = refl
  go (suc count) facts = go count (rules.placed facts site size)

-- so many, and so many more
pub knows_more : {Facts : Type 0} (rules : Rules Facts) (facts : Facts) (site size some more : ℕ)
    → knows_rows rules (knows_rows rules facts site size some) site size more ≡ knows_rows rules facts site size (some + more)
knows_more {Facts} rules facts site size zero more = let same : more ≡ 0 + more = omega arith in ap (knows_rows rules facts site size) same
knows_more {Facts} rules facts site size (suc some) more =
    let same : suc (some + more) ≡ suc some + more = omega arith in
    knows_more rules (rules.placed facts site size) site size some more ∙ ap (knows_rows rules facts site size) same
