-- Objects that are kept, and what there is of them. The one of serial n + 1 stands at n.
use Rattle.std.specs.Prelude.{ℕ, Bool, true, false, List, [], ◌∷◌, Option, Some, None, is_some, length, map, slice_get, slice_set, zero, suc}
use Rattle.std.specs.List.{sum_by}
use Rattle.cb_plain.specs.State.{Content, Number, Object, Reference, words_of}
use Rattle.cb_plain.specs.Updates.{object_in, with_contents_in}

-- which are kept
abbrev pub residents : List (Option Object) → List Bool
residents objects = map is_some objects

-- those of them that are to be kept
abbrev pub keep : List Bool → List (Option Object) → List (Option Object)
keep [] objects = []
keep (stays ∷ residents) [] = []
keep (true ∷ residents) (entry ∷ objects) = entry ∷ keep residents objects
keep (false ∷ residents) (entry ∷ objects) = None ∷ keep residents objects

-- whether the object of a serial is kept; and whether a reference is null or names one that is
abbrev pub is_kept : List (Option Object) → ℕ → Bool
is_kept objects serial = is_some (object_in objects serial)

abbrev pub is_held : List (Option Object) → ℕ → Bool
is_held objects zero = true
is_held objects (suc place) = is_kept objects (suc place)

-- the words that kept objects take
abbrev pub entry_words : Option Object → ℕ
entry_words None = 0
entry_words (Some object) = words_of (length object.contents)

abbrev pub words_kept : List (Option Object) → ℕ
words_kept objects = sum_by entry_words objects

-- what a word of an object holds, and objects with another content in one
abbrev pub contents_at : List (Option Object) → ℕ → List Content
contents_at objects serial = contents_of (object_in objects serial) where
  contents_of : Option Object → List Content
  contents_of None = []
  contents_of (Some object) = object.contents

abbrev pub content_at : List (Option Object) → ℕ → ℕ → Option Content
content_at objects serial word = slice_get (contents_at objects serial) word

abbrev pub with_content : List (Option Object) → ℕ → ℕ → Content → List (Option Object)
with_content objects serial word content = with_contents_in objects serial (slice_set (contents_at objects serial) word content)

-- whether a word is there and holds a number, or a reference
abbrev pub is_number : Option Content → Bool
is_number (Some (Number number)) = true
is_number (Some (Reference serial)) = false
is_number None = false

abbrev pub is_reference : Option Content → Bool
is_reference (Some (Number number)) = false
is_reference (Some (Reference serial)) = true
is_reference None = false
