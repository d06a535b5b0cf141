-- Words of objects that are copied from one object to another.
use Rattle.std.specs.Prelude.{◌≡◌, ◌<◌, ◌≤◌, ◌^◌, ◌+◌, pos, ℕ, Bool, true, false, IsTrue, List, Option, Some, None, drop, get_or, length, take}
use Rattle.cb_heap.specs.Kept.{content_at, contents_at, is_held, is_kept, is_number, is_reference}
use Rattle.cb_machine.specs.Copying.{overwritten}
use Rattle.cb_plain.specs.State.{Content, Number, Object, Reference}
use Rattle.cb_plain.specs.Updates.{with_contents_in}
use Rattle.cb_plain.specs.declared.shape.Shape.{Shape}
use Rattle.cb_plain.specs.declared.shape.Shape.TheVariants.{Elements, Fields}

-- whether a word of an object of a shape refers, and whether there is such a word
abbrev pub refers_at : Shape → ℕ → Bool
refers_at (Fields marks) word = get_or marks word false
refers_at (Elements mark) word = mark

abbrev pub HasWord : Shape → ℕ → Type 0
HasWord (Fields marks) word = word < length marks
HasWord (Elements mark) word = Unit {0}

-- a word is there that holds a reference, or a number
abbrev pub holds : Bool → Option Content → Bool
holds true content = is_reference content
holds false content = is_number content

-- what it refers to is null or there
abbrev pub RefersHeld : List (Option Object) → Option Content → Type 0
RefersHeld objects (Some (Reference serial)) = IsTrue (is_held objects serial)
RefersHeld objects other = Unit {0}

-- what it holds
abbrev pub word_of : Option Content → Content
word_of None = Number (pos 0)
word_of (Some content) = content

-- so many words of an object from one on, and objects with these in another one, from a word on
abbrev pub words_from : List (Option Object) → (source start count : ℕ) → List Content
words_from objects source start count = take count (drop start (contents_at objects source))

abbrev pub copied : List (Option Object) → (source start to at count : ℕ) → List (Option Object)
copied objects source start to at count = with_contents_in objects to (overwritten (contents_at objects to) at (words_from objects source start count))

-- they may be copied: both objects have these words, which hold what the same shape says, and refer to what is there
pub record MayCopy (objects : List (Option Object)) (shape : Shape) (source start to at count : ℕ) : Type 0 where
  pub there : IsTrue (is_kept objects to)
  pub marked : (place : ℕ) → place < count → HasWord shape place
  pub read : (place : ℕ) → place < count → holds (refers_at shape place) (content_at objects source (start + place)) ≡ true
  pub held : (place : ℕ) → place < count → RefersHeld objects (content_at objects source (start + place))
  pub put : (place : ℕ) → place < count → holds (refers_at shape place) (content_at objects to (at + place)) ≡ true
  pub within : start + count ≤ length (contents_at objects source)
  pub room : at + count ≤ length (contents_at objects to)
  pub few : start + count < 2 ^ 32
  pub short : at + count < 2 ^ 32
