-- The arguments of a run: an array of strings, each of which is placed behind its characters (JLS §12.1.4, §3.10.5).
use Rattle.std.specs.Prelude.{◌≡◌, ◌<◌, ◌≤◌, ℕ, ◌+◌, ◌==◌, true, false, IsTrue, List, [], ◌∷◌, ◌++◌, Option, Some, length, slice_get, if◌then◌else◌}
use Rattle.std.specs.List.{flat_map, fold}
use Rattle.cb_heap.specs.Kept.{is_reference, with_content}
use Rattle.cb_heap.specs.Rules.{Rules}
use Rattle.cb_heap.specs.Text.{with_text}
use Rattle.cb_heap.specs.declared.text_sites.TextSites.{TextSites}
use Rattle.cb_link.specs.Having.{site_kinds}
use Rattle.cb_link.specs.Program.{Linked}
use Rattle.cb_machine.specs.Machine.{kind_of_site}
use Rattle.cb_machine.specs.Sites.{argument_characters, argument_strings, arguments, system_in, system_out}
use Rattle.cb_plain.specs.Requests.{words_at}
use Rattle.cb_plain.specs.declared.shape.Shape.{Shape}
use Rattle.cb_plain.specs.declared.shape.Shape.TheVariants.{Elements, Fields}
use Rattle.cb_plain.specs.declared.want.Want.{Want}
use Rattle.cb_plain.specs.State.{Object, Reference, words_of}

-- how many words are wanted at a site, and that there is room for all that is wanted
abbrev pub wanted_at : ℕ → List Want → ℕ
wanted_at site [] = 0
wanted_at site (want ∷ wants) = (if want.site == site then want.words else 0) + wanted_at site wants

abbrev pub Covers : List Want → List Want → Type 0
Covers granted wants = (site : ℕ) → wanted_at site wants ≤ words_at granted site

-- what is wanted for the array, for a text, for the two streams, which have no words, and in all
abbrev pub array_want : ℕ → Want
array_want count = record { site = arguments; words = words_of count }

abbrev pub text_wants : List ℕ → List Want
text_wants units =
    record { site = argument_characters; words = words_of (length units) } ∷ record { site = argument_strings; words = words_of 1 } ∷ []

abbrev pub bare_want : ℕ → Want
bare_want site = record { site = site; words = words_of 0 }

abbrev pub stream_wants : List Want
stream_wants = bare_want system_out ∷ bare_want system_in ∷ []

abbrev pub all_wants : List (List ℕ) → List Want
all_wants given = array_want (length given) ∷ (flat_map text_wants given ++ stream_wants)

-- what is asked for the array, and for some texts: there are few sites
pub data AskedFor : List Want → Type 0 where
  TheArray : (words : ℕ) → AskedFor (record { site = 0; words = words } ∷ [])
  WithTexts : (words characters strings : ℕ)
      → AskedFor (record { site = 0; words = words } ∷ record { site = 2; words = characters } ∷ record { site = 1; words = strings } ∷ [])

-- where the strings are placed; of a linked program these are strings of one word with arrays of chars
abbrev pub argument_sites : Linked → TextSites
argument_sites program =
    record { site = argument_strings; kind = kind_of_site program argument_strings; characters = argument_characters; array = kind_of_site program argument_characters }

pub record MayHold (program : Linked) (shapes : List Shape) : Type 0 where
  pub strings : argument_strings < length (site_kinds program)
  pub characters : argument_characters < length (site_kinds program)
  pub elements : slice_get shapes (kind_of_site program argument_characters) ≡ Some (Elements false)
  pub field : slice_get shapes (kind_of_site program argument_strings) ≡ Some (Fields (true ∷ []))

-- the text of a turn is placed, and the array, which is the first object, refers to it
abbrev pub with_argument_text : Linked → List (Option Object) → (turn : ℕ) → List ℕ → List (Option Object)
with_argument_text program objects turn units =
    with_content (with_text (argument_sites program) units objects) 1 turn (Reference (length objects + 2))

-- those of the turns from one on
abbrev pub with_texts : Linked → List (Option Object) → (turn : ℕ) → List (List ℕ) → List (Option Object)
with_texts program objects turn [] = objects
with_texts program objects turn (units ∷ given) = with_texts program (with_argument_text program objects turn units) (turn + 1) given

abbrev pub knows_text : {Facts : Type 0} → Rules Facts → Facts → List ℕ → Facts
knows_text rules facts units = rules.placed (rules.placed facts argument_characters (length units)) argument_strings 1

abbrev pub knows_texts : {Facts : Type 0} → Rules Facts → Facts → List (List ℕ) → Facts
knows_texts rules facts given = fold (knows_text rules) facts given

-- the array is the first object, and so many words of it hold references
pub record HasArray (objects : List (Option Object)) (count : ℕ) : Type 0 where
  pub array : Object
  pub rest : List (Option Object)
  pub is : objects ≡ Some array ∷ rest
  pub holds : (word : ℕ) → word < count → IsTrue (is_reference (slice_get array.contents word))
