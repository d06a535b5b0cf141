-- Values, and what fields and elements hold of them (JVMS §2.3, §2.6, §6.5).
use Rattle.std.specs.Prelude.{ℤ, pos, List, [], ◌∷◌, Option, Some, None, ℕ}
use Rattle.cb_arith.specs.Bits.{low_bits}
use Rattle.cb_arith.specs.Narrowing.{narrow}
use Rattle.cb_arith.specs.declared.narrower.Narrow.TheVariants as narrower
use Rattle.cb_kinds.specs.declared.basic.Basic.{Basic}
use Rattle.cb_kinds.specs.declared.basic.Basic.TheVariants as basics
use Rattle.cb_plain.specs.declared.value.Value.{Value}
use Rattle.cb_plain.specs.declared.value.Value.TheVariants.{Int, Long, Ref}
use Rattle.cb_plain.specs.State.{Content, Number, Reference}
use Rattle.cb_shapes.specs.declared.sort.Sort.{Sort}
use Rattle.cb_shapes.specs.declared.sort.Sort.TheVariants as sorts
use Rattle.cb_shapes.specs.Sorts.{category_of}
use Rattle.cb_shapes.specs.declared.sort.Category.{Category}

-- the sort of a value, and its category
abbrev pub sort_of : Value → Sort
sort_of (Int number) = sorts.Int
sort_of (Long number) = sorts.Long
sort_of (Ref serial) = sorts.Reference

abbrev pub category_of_value : Value → Option Category
category_of_value value = Some (category_of (sort_of value))

abbrev pub null : Value
null = Ref 0

-- a natural number, or 0 for one below
abbrev pub natural : ℤ → ℕ
natural (pos number) = number
natural other = 0

-- a number of a sort as a value
abbrev pub of_sort : Sort → ℤ → Value
of_sort sorts.Long number = Long number
of_sort other number = Int number

-- the sort of the values of a type
abbrev pub sort_of_basic : Basic → Sort
sort_of_basic basics.Long = sorts.Long
sort_of_basic (basics.Reference kind) = sorts.Reference
sort_of_basic other = sorts.Int

-- what a field or an element of a type holds at first
abbrev pub blank_value : Basic → Value
blank_value basics.Long = Long (pos 0)
blank_value (basics.Reference kind) = null
blank_value other = Int (pos 0)

-- what is kept of a value in a field or an element of a type: of a boolean the lowest bit, of bytes, chars and shorts the low bits
abbrev pub kept_int : Basic → ℤ → ℤ
kept_int basics.Boolean number = pos (low_bits 1 number)
kept_int basics.Byte number = narrow narrower.Byte number
kept_int basics.Char number = narrow narrower.Char number
kept_int basics.Short number = narrow narrower.Short number
kept_int other number = number

abbrev pub kept_value : Basic → Value → Value
kept_value basic (Int number) = Int (kept_int basic number)
kept_value basic other = other

-- a value as the contents of a word, and what is read of a word of a type
abbrev pub content_of : Value → Content
content_of (Int number) = Number number
content_of (Long number) = Number number
content_of (Ref serial) = Reference serial

abbrev pub value_in : Basic → Content → Value
value_in basic (Reference serial) = Ref serial
value_in basics.Long (Number number) = Long number
value_in other (Number number) = Int number

-- a value that is a number, and the numbers of values in order, or none where one is a reference
abbrev pub number_of : Value → Option ℤ
number_of (Int number) = Some number
number_of (Long number) = Some number
number_of (Ref serial) = None

abbrev with_number : Option ℤ → Option (List ℤ) → Option (List ℤ)
with_number (Some number) (Some numbers) = Some (number ∷ numbers)
with_number one other = None

abbrev pub numbers_of : List Value → Option (List ℤ)
numbers_of [] = Some []
numbers_of (value ∷ held) = with_number (number_of value) (numbers_of held)
