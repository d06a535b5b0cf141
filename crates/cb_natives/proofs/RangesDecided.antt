-- Which ranges a call of `System.arraycopy` means, and what it throws where it means none.
use Rattle.std.proofs.Common.{◌≡◌, ◌∙◌, ap, refl, sym, subst, ℕ, ℤ, pos, negsuc, ◌+◌, ◌<◌, ◌≤◌, ◌^◌, ◌==◌, ◌&&◌, nat_le, Bool, true, false, IsTrue, List, [], length, drop, take, Option, Some, None, option_map, slice_get, if◌then◌else◌, arith}
use Rattle.std.proofs.lemmas.Bool.{false≢true, leb-true}
use Rattle.std.proofs.lemmas.Option.{same_Some}
use Rattle.cb_heap.specs.Kept.{contents_at, is_kept}
use Rattle.cb_heap.specs.Reading.{serial_of}
use Rattle.cb_kinds.specs.Basics.{is_reference}
use Rattle.cb_kinds.specs.declared.basic.Basic.{Basic}
use Rattle.cb_kinds.specs.declared.basic.Basic.TheVariants as basics
use Rattle.cb_link.specs.Numbers.{or_none}
use Rattle.cb_link.specs.Program.{Linked}
use Rattle.cb_link.specs.Slots.{shape, shape_with}
use Rattle.cb_machine.specs.Arrays.{element_of}
use Rattle.cb_machine.specs.Copying.{can_copy, copied_to, copies, copies_between, copies_fitting, copies_range, fitting, is_range, same_basic}
use Rattle.cb_machine.specs.Performing.{Call, Gives, Performed, Stops, on_object, stops}
use Rattle.cb_machine.specs.Plans.{leaving}
use Rattle.cb_machine.specs.Sites.{array_index, array_store}
use Rattle.cb_machine.specs.Throwing.{throwing}
use Rattle.cb_machine.specs.Values.{natural}
use Rattle.cb_plain.specs.State.{Content, Object}
use Rattle.cb_plain.specs.Updates.{object_in}
use Rattle.cb_plain.specs.declared.shape.Shape.{Shape}
use Rattle.cb_plain.specs.declared.shape.Shape.TheVariants.{Elements}
use Rattle.std.specs.declared.result.Result.TheVariants.{Err, Ok}
use Rattle.cb_natives.specs.Answers.{Beside}
use Rattle.cb_natives.specs.ArrayRanges.{MayCopyRanges, common_elements, elements_at, on_ranges}
use Rattle.cb_natives.specs.MakingArrays.{IsLaid, IsOfKind}
use Rattle.cb_natives.specs.MakingOwn.{call_of, range_in}
use Rattle.cb_natives.specs.declared.answers.Exception.TheVariants as exceptions
use Rattle.cb_natives.specs.declared.array_ranges.Ranges.{Ranges}
use Rattle.cb_natives.proofs.BoxesSet.{on_there}

-- ---- elements

alike_none : (one other : Option Basic) → common_elements one other ≡ None → can_copy one other ≡ false
alike_none None other is = refl
alike_none (Some one) None is = refl
alike_none (Some one) (Some other) is = go (same_basic one other) refl is where
  go : (same : Bool) → same_basic one other ≡ same → (if same then Some other else None) ≡ None → same_basic one other ≡ false
  go true own is = absurd (cc is)
  go false own is = own

record AreAlike (one other : Option Basic) (element : Basic) : Type 0 where
  pub first : Basic
  pub is : one ≡ Some first
  pub second : other ≡ Some element
  pub same : same_basic first element ≡ true

alike_some : (one other : Option Basic) (element : Basic) → common_elements one other ≡ Some element → AreAlike one other element
alike_some None other element is = absurd (cc is)
alike_some (Some one) None element is = absurd (cc is)
alike_some (Some one) (Some other) element is = go (same_basic one other) refl is where
  go : (same : Bool) → same_basic one other ≡ same → (if same then Some other else None) ≡ Some element → AreAlike (Some one) (Some other) element
  go true own is = let second : other ≡ element = cc is in record { first = one; is = refl; second = is; same = subst (λ (element : Basic). same_basic one element ≡ true) second own }
  go false own is = absurd (cc is)

same_marks : (one other : Basic) → same_basic one other ≡ true → is_reference one ≡ is_reference other
same_marks basics.Boolean basics.Boolean same = refl
same_marks basics.Byte basics.Byte same = refl
same_marks basics.Char basics.Char same = refl
same_marks basics.Short basics.Short same = refl
same_marks basics.Int basics.Int same = refl
same_marks basics.Long basics.Long same = refl
same_marks (basics.Reference one) (basics.Reference other) same = refl
same_marks one other same = absurd (false≢true same)

-- ---- ranges

abbrev pair_if : Bool → ℕ → ℕ → Option (ℕ × ℕ)
pair_if test from size = if test then Some (from, size) else None

range_none : (from size : ℤ) (count : ℕ) → range_in from size count ≡ None → is_range from size count ≡ false
range_none (pos from) (pos size) count is = go (nat_le (from + size) count) is where
  go : (test : Bool) → pair_if test from size ≡ None → test ≡ false
  go true is = absurd (cc is)
  go false is = refl
range_none (pos from) (negsuc size) count is = refl
range_none (negsuc from) (pos size) count is = refl
range_none (negsuc from) (negsuc size) count is = refl

abbrev first_in : Option (ℕ × ℕ) → ℕ
first_in None = 0
first_in (Some pair) = pair.0

abbrev last_in : Option (ℕ × ℕ) → ℕ
last_in None = 0
last_in (Some pair) = pair.1

record IsRange (from size : ℤ) (count start many : ℕ) : Type 0 where
  pub test : is_range from size count ≡ true
  pub from_start : natural from ≡ start
  pub so_many : natural size ≡ many
  pub within : start + many ≤ count

range_some : (from size : ℤ) (count start many : ℕ) → range_in from size count ≡ Some (start, many) → IsRange from size count start many
range_some (pos from) (pos size) count start many is = go (nat_le (from + size) count) refl is where
  go : (test : Bool) → nat_le (from + size) count ≡ test → pair_if test from size ≡ Some (start, many) → IsRange (pos from) (pos size) count start many
  go true own is =
      let first : from ≡ start = ap first_in is in
      let last : size ≡ many = ap last_in is in
      let low = leb-true (from + size) count own in
      record { test = own; from_start = first; so_many = last; within = omega (arith, low, first, last) }
  go false own is = absurd (cc is)
range_some (pos from) (negsuc size) count start many is = absurd (cc is)
range_some (negsuc from) (pos size) count start many is = absurd (cc is)
range_some (negsuc from) (negsuc size) count start many is = absurd (cc is)

-- ---- objects

contents_there : (objects : List (Option Object)) (serial : ℕ) (own : Object) → object_in objects serial ≡ Some own → contents_at objects serial ≡ own.contents
contents_there objects serial own there = rw there refl

kept_there : (objects : List (Option Object)) (serial : ℕ) (own : Object) → object_in objects serial ≡ Some own → IsTrue (is_kept objects serial)
kept_there objects serial own there = rw there refl

abbrev length_of : Object → ℕ
length_of object = length object.contents

length_there : (objects : List (Option Object)) (serial : ℕ) (own : Object) → object_in objects serial ≡ Some own → (size : ℕ) → option_map length_of (object_in objects serial) ≡ Some size
    → size ≡ length own.contents
length_there objects serial own there size is = same_Some size (length own.contents) (sym is ∙ ap (option_map length_of) there)

-- the elements of an object that is there
elements_there : (program : Linked) (objects : List (Option Object)) (serial : ℕ) (own : Object) → object_in objects serial ≡ Some own
    → elements_at program objects serial ≡ element_of program own.kind
elements_there program objects serial own there = rw there refl

-- ---- a call

module _ (program : Linked) (objects : List (Option Object)) (index : ℕ → ℕ) (source to : ℕ) (from at count : ℤ)
    (one : IsOfKind program objects (serial_of index source)) (other : IsOfKind program objects (serial_of index to)) where
  abbrev call : ℕ → Beside → Call
  call frames beside = call_of program objects frames beside

  abbrev done : ℕ → Beside → Option Performed
  done frames beside = copies (call frames beside) (serial_of index source) from (serial_of index to) at count

  abbrev first_of : Option Basic
  first_of = element_of program one.object.kind

  abbrev second_of : Option Basic
  second_of = element_of program other.object.kind

  between : (frames : ℕ) (beside : Beside) → done frames beside ≡ copies_between (call frames beside) one.object from (serial_of index to) other.object at count
  between frames beside =
      on_there (call frames beside) (serial_of index source) one.object
      (λ one. on_object (call frames beside) (serial_of index to) (λ other. copies_between (call frames beside) one from (serial_of index to) other at count)) one.is
      ∙ on_there (call frames beside) (serial_of index to) other.object (λ other. copies_between (call frames beside) one.object from (serial_of index to) other at count) other.is

  abbrev ranged : ℕ → Beside → Bool → Option Performed
  ranged frames beside test =
      if test then copies_range (call frames beside) (serial_of index to) other.object (natural at) (take (natural count) (drop (natural from) one.object.contents))
      else stops (call frames beside) array_index

  abbrev tested : ℕ → Beside → Bool → Option Performed
  tested frames beside test =
      if test then ranged frames beside (is_range from count (length one.object.contents) && is_range at count (length other.object.contents)) else stops (call frames beside) array_store

  common_is : common_elements (elements_at program objects (serial_of index source)) (elements_at program objects (serial_of index to)) ≡ common_elements first_of second_of
  common_is =
      ap (λ (first : Option Basic). common_elements first (elements_at program objects (serial_of index to))) (elements_there program objects (serial_of index source) one.object one.is)
      ∙ ap (common_elements first_of) (elements_there program objects (serial_of index to) other.object other.is)

  -- no elements in common
  pub none_common : None ≡ common_elements (elements_at program objects (serial_of index source)) (elements_at program objects (serial_of index to))
      → (frames : ℕ) (beside : Beside) → done frames beside ≡ on_ranges (call frames beside) index (Err exceptions.ArrayStore)
  none_common none frames beside = between frames beside ∙ ap (tested frames beside) (alike_none first_of second_of (sym common_is ∙ sym none))

  module _ (element : Basic) (some : Some element ≡ common_elements (elements_at program objects (serial_of index source)) (elements_at program objects (serial_of index to))) where
    alike : AreAlike first_of second_of element
    alike = alike_some first_of second_of element (sym common_is ∙ sym some)

    can : can_copy first_of second_of ≡ true
    can =
        ap (λ (first : Option Basic). can_copy first second_of) alike.is ∙ ap (can_copy (Some alike.first)) alike.second ∙ alike.same

    so_far : (frames : ℕ) (beside : Beside) → done frames beside ≡ ranged frames beside (is_range from count (length one.object.contents) && is_range at count (length other.object.contents))
    so_far frames beside = between frames beside ∙ ap (tested frames beside) can

    -- the first is too short
    pub source_short : (long : ℕ) → option_map length_of (object_in objects (serial_of index source)) ≡ Some long → None ≡ range_in from count long
        → (frames : ℕ) (beside : Beside) → done frames beside ≡ on_ranges (call frames beside) index (Err exceptions.ArrayIndexOutOfBounds)
    source_short long first none frames beside =
        let long_is : long ≡ length one.object.contents = length_there objects (serial_of index source) one.object one.is long first in
        so_far frames beside
        ∙ ap (λ (test : Bool). ranged frames beside (test && is_range at count (length other.object.contents)))
        (ap (λ (long : ℕ). is_range from count long) (sym long_is) ∙ range_none from count long (sym none))

    module _ (long size : ℕ) (first : option_map length_of (object_in objects (serial_of index source)) ≡ Some long)
        (second : option_map length_of (object_in objects (serial_of index to)) ≡ Some size) where
      long_is : long ≡ length one.object.contents
      long_is = length_there objects (serial_of index source) one.object one.is long first

      size_is : size ≡ length other.object.contents
      size_is = length_there objects (serial_of index to) other.object other.is size second

      long_at : long ≡ length (contents_at objects (serial_of index source))
      long_at = long_is ∙ sym (ap (λ (contents : List Content). length contents) (contents_there objects (serial_of index source) one.object one.is))

      size_at : size ≡ length (contents_at objects (serial_of index to))
      size_at = size_is ∙ sym (ap (λ (contents : List Content). length contents) (contents_there objects (serial_of index to) other.object other.is))

      -- the second is
      and_false : (test : Bool) → (test && false) ≡ false
      and_false true = refl
      and_false false = refl

      pub target_short : None ≡ range_in at count size → (frames : ℕ) (beside : Beside) → done frames beside ≡ on_ranges (call frames beside) index (Err exceptions.ArrayIndexOutOfBounds)
      target_short none frames beside =
          so_far frames beside
          ∙ ap (ranged frames beside)
          (ap (λ (test : Bool). is_range from count (length one.object.contents) && test) (ap (λ (size : ℕ). is_range at count size) (sym size_is) ∙ range_none at count size (sym none))
          ∙ and_false (is_range from count (length one.object.contents)))

      -- both are long enough
      module _ (start many place again : ℕ) (in_source : Some (start, many) ≡ range_in from count long) (in_target : Some (place, again) ≡ range_in at count size) where
        abbrev ranges : Ranges
        ranges = record { source = source; start = start; to = to; at = place; count = many; element = element }

        of_source : IsRange from count long start many
        of_source = range_some from count long start many (sym in_source)

        of_target : IsRange at count size place again
        of_target = range_some at count size place again (sym in_target)

        abbrev words : List Content
        words = take many (drop start one.object.contents)

        both : (is_range from count (length one.object.contents) && is_range at count (length other.object.contents)) ≡ true
        both =
            ap (λ (long : ℕ). is_range from count long && is_range at count (length other.object.contents)) (sym long_is)
            ∙ ap (λ (size : ℕ). is_range from count long && is_range at count size) (sym size_is)
            ∙ ap (λ (test : Bool). test && is_range at count size) of_source.test ∙ of_target.test

        abbrev ended : ℕ → Beside → (whole into : List Content) → Option Performed
        ended frames beside whole into =
            let fit = fitting (call frames beside) (Some element) (take many (drop start whole)) in
            if length fit == length (take many (drop start whole)) then Some (Gives (leaving (copied_to (call frames beside) (serial_of index to) (record { site = 0; kind = 0; contents = into }) place fit)) [])
            else Some (Stops (throwing (call frames beside).machine array_store (leaving (copied_to (call frames beside) (serial_of index to) (record { site = 0; kind = 0; contents = into }) place fit))))

        pub ranges_so : (frames : ℕ) (beside : Beside) → done frames beside ≡ on_ranges (call frames beside) index (Ok ranges)
        ranges_so frames beside =
            so_far frames beside ∙ ap (ranged frames beside) both
            ∙ ap (λ (place : ℕ). copies_range (call frames beside) (serial_of index to) other.object place (take (natural count) (drop (natural from) one.object.contents))) of_target.from_start
            ∙ ap (λ (many : ℕ). copies_range (call frames beside) (serial_of index to) other.object place (take many (drop (natural from) one.object.contents))) of_source.so_many
            ∙ ap (λ (start : ℕ). copies_range (call frames beside) (serial_of index to) other.object place (take many (drop start one.object.contents))) of_source.from_start
            ∙ ap (λ (own : Option Basic). copies_fitting (call frames beside) (serial_of index to) other.object place words (fitting (call frames beside) own words)) alike.second
            ∙ ap (λ (whole : List Content). ended frames beside whole other.object.contents) (sym (contents_there objects (serial_of index source) one.object one.is))
            ∙ ap (ended frames beside (contents_at objects (serial_of index source))) (sym (contents_there objects (serial_of index to) other.object other.is))

        -- and their words may be copied
        shape_one : shape program one.object.kind ≡ Elements (is_reference element)
        shape_one =
            ap (shape_with program (or_none (slice_get program.kinds one.object.kind))) alike.is
            ∙ ap Elements (same_marks alike.first element alike.same)

        shape_other : shape program other.object.kind ≡ Elements (is_reference element)
        shape_other = ap (shape_with program (or_none (slice_get program.kinds other.object.kind))) alike.second

        laid_one : IsLaid objects (Elements (is_reference element)) (serial_of index source)
        laid_one = subst (λ (shape : Shape). IsLaid objects shape (serial_of index source)) shape_one one.laid

        laid_other : IsLaid objects (Elements (is_reference element)) (serial_of index to)
        laid_other = subst (λ (shape : Shape). IsLaid objects shape (serial_of index to)) shape_other other.laid

        same_count : again ≡ many
        same_count = sym of_target.so_many ∙ of_source.so_many

        pub ranges_may : long < 2 ^ 32 → size < 2 ^ 32 → MayCopyRanges objects index ranges
        ranges_may few short = record {
          there = kept_there objects (serial_of index to) other.object other.is;
          marked = λ word low. tt;
          read = λ word low. laid_one.each (start + word) (omega (arith, low, long_at, of_source.within));
          held = λ word low. laid_one.refers (start + word) (omega (arith, low, long_at, of_source.within));
          put = λ word low. laid_other.each (place + word) (omega (arith, low, size_at, of_target.within, same_count));
          within = omega (arith, long_at, of_source.within);
          room = omega (arith, size_at, of_target.within, same_count);
          few = omega (arith, few, of_source.within);
          short = omega (arith, short, of_target.within, same_count);
        }
