-- Objects as words: three of its header, which hold its kind and the length of its contents, its serial, and its site, and those of its
-- contents.
use Rattle.std.specs.Prelude.{pos, ℕ, ◌+◌, ◌*◌, ◌/◌, ◌%◌, ◌^◌, Bool, true, false, List, [], ◌∷◌, Option, Some, None, drop, replicate, slice_get, slice_index_or, zero, suc}
use Rattle.std.specs.Int.{int_wrap, w64}
use Rattle.cb_plain.specs.declared.shape.Shape.{Shape}
use Rattle.cb_plain.specs.declared.shape.Shape.TheVariants as shapes
use Rattle.cb_plain.specs.State.{Content, Number, Object, Reference, words_of}

-- what the first word of the header holds, and the other two
abbrev pub kind_of : List ℕ → ℕ
kind_of words = slice_index_or words 0 0 % 2 ^ 32

abbrev pub length_of : List ℕ → ℕ
length_of words = slice_index_or words 0 0 / 2 ^ 32

abbrev pub serial_of : List ℕ → ℕ
serial_of words = slice_index_or words 1 0

abbrev pub site_of : List ℕ → ℕ
site_of words = slice_index_or words 2 0

-- the words of the object that begins here
abbrev pub size_of : List ℕ → ℕ
size_of words = words_of (length_of words)

-- a word of contents: a number in two's complement, or the serial of an object
abbrev pub content_of : Bool → ℕ → Content
content_of true word = Reference word
content_of false word = Number (int_wrap w64 (pos word))

abbrev pub contents_in : List Bool → List ℕ → List Content
contents_in [] words = []
contents_in (mark ∷ marks) [] = []
contents_in (mark ∷ marks) (word ∷ words) = content_of mark word ∷ contents_in marks words

-- a mark for each word of contents, by the shape of the kind
abbrev pub marks_of : ℕ → Option Shape → List Bool
marks_of size None = []
marks_of size (Some (shapes.Fields marks)) = marks
marks_of size (Some (shapes.Elements mark)) = replicate size mark

abbrev pub marks_in : List Shape → List ℕ → List Bool
marks_in all words = marks_of (length_of words) (slice_get all (kind_of words))

-- the object that begins here
abbrev pub object_of : List Shape → List ℕ → Object
object_of all words = record { site = site_of words; kind = kind_of words; contents = contents_in (marks_in all words) (drop 3 words) }

-- so many objects, one behind the other
abbrev pub objects_in : List Shape → ℕ → List ℕ → List Object
objects_in all zero words = []
objects_in all (suc count) words = object_of all words ∷ objects_in all count (drop (size_of words) words)

-- the words of a new object
abbrev pub blank_words : (serial site kind size : ℕ) → List ℕ
blank_words serial site kind size = (kind + 2 ^ 32 * size) ∷ serial ∷ site ∷ replicate size 0
