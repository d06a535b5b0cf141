-- Ranges of words of arrays that are copied, as far as they fit (Java SE 8 API, System.arraycopy).
use Rattle.std.specs.Prelude.{◌≡◌, ◌<◌, ◌≤◌, ◌^◌, ◌+◌, ℕ, true, List, Option, Some, length}
use Rattle.cb_heap.specs.Kept.{content_at, contents_at, is_reference}
use Rattle.cb_kinds.specs.declared.basic.Basic.{Basic}
use Rattle.cb_link.specs.Program.{Linked}
use Rattle.cb_machine.specs.Copying.{fitting}
use Rattle.cb_plain.specs.State.{Content, Object}
use Rattle.cb_natives.specs.Answers.{Beside}
use Rattle.cb_natives.specs.Copies.{RefersHeld, words_from}
use Rattle.cb_natives.specs.MakingKept.{HasKinds}
use Rattle.cb_natives.specs.MakingOwn.{call_of}

-- so many words of an object from one on, up to the first that doesn't fit an array of such elements, in a call over these objects
abbrev pub fitting_from : Linked → List (Option Object) → (frames : ℕ) → Beside → Basic → (source start count : ℕ) → List Content
fitting_from program objects frames beside element source start count =
    fitting (call_of program objects frames beside) (Some element) (words_from objects source start count)

-- an object has these words, which refer to null or to objects whose kinds are the program's
pub record MayFit (program : Linked) (objects : List (Option Object)) (source start count : ℕ) : Type 0 where
  pub kinds : HasKinds program objects
  pub read : (place : ℕ) → place < count → is_reference (content_at objects source (start + place)) ≡ true
  pub held : (place : ℕ) → place < count → RefersHeld objects (content_at objects source (start + place))
  pub within : start + count ≤ length (contents_at objects source)
  pub few : start + count < 2 ^ 32
