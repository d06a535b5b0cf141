-- The objects of the constant strings of a program (JLS §3.10.5, JVMS §5.1).
use Rattle.std.specs.Prelude.{◌≡◌, ◌<◌, ◌≤◌, ℕ, ◌+◌, ◌^◌, Bool, true, false, List, [], ◌∷◌, length, Some, slice_get, zero, suc}
use Rattle.cb_heap.specs.Closed.{IsClosed}
use Rattle.cb_heap.specs.Reading.{View}
use Rattle.cb_heap.specs.Text.{with_text}
use Rattle.cb_heap.specs.declared.text_sites.TextSites.{TextSites}
use Rattle.cb_link.specs.Having.{site_kinds}
use Rattle.cb_link.specs.Numbers.{or_none}
use Rattle.cb_link.specs.Program.{Linked}
use Rattle.cb_machine.specs.Machine.{kind_of_site, listed}
use Rattle.cb_machine.specs.Sites.{constant_characters, constant_strings}
use Rattle.cb_plain.specs.declared.shape.Shape.{Shape}
use Rattle.cb_plain.specs.declared.shape.Shape.TheVariants.{Elements, Fields}
use Rattle.cb_plain.specs.declared.table.Table.TheVariants.{Constants}
use Rattle.cb_plain.specs.declared.want.Want.{Want}
use Rattle.cb_plain.specs.Requests.{spent, words_at}
use Rattle.cb_plain.specs.Roots.{with_entry}
use Rattle.cb_plain.specs.State.{Roots, words_of}

-- the units of a text of the program, and the sites and kinds of constant strings
abbrev pub units_of : Linked → ℕ → List ℕ
units_of program text = or_none (slice_get program.constants text)

abbrev pub constant_sites : Linked → TextSites
constant_sites program =
    record { site = constant_strings; kind = kind_of_site program constant_strings; characters = constant_characters; array = kind_of_site program constant_characters }

-- the object of a text: the one that its table has, or a new one, which is entered there; and what there is then
abbrev pub new_constant : Linked → ℕ → View → ℕ × View
new_constant program text view = (
  length view.objects + 2,
  record { roots = with_entry view.roots Constants text (length view.objects + 2); objects = with_text (constant_sites program) (units_of program text) view.objects },
)

abbrev pub constant_or_new : Linked → ℕ → View → ℕ → ℕ × View
constant_or_new program text view zero = new_constant program text view
constant_or_new program text view (suc place) = (suc place, view)

abbrev pub with_constant : Linked → ℕ → View → ℕ × View
with_constant program text view = constant_or_new program text view (listed view.roots.tables.constants text)

-- a text has no object yet
abbrev pub IsNew : Roots → ℕ → Type 0
IsNew roots text = listed roots.tables.constants text ≡ 0

-- what is asked where it has none: room for a string of one word and its characters, of these shapes, and that the one may refer to the other
pub record MayEnter (program : Linked) (text : ℕ) (shapes : List Shape) (room : List Want) (allows : ℕ → ℕ → Bool) (view : View) : Type 0 where
  pub sites : constant_characters < length (site_kinds program)
  pub array : words_of (length (units_of program text)) ≤ words_at room constant_characters
  pub string : words_of 1 ≤ words_at (spent room constant_characters (words_of (length (units_of program text)))) constant_strings
  pub elements : slice_get shapes (kind_of_site program constant_characters) ≡ Some (Elements false)
  pub field : slice_get shapes (kind_of_site program constant_strings) ≡ Some (Fields (true ∷ []))
  pub serials : length view.objects + 2 < 2 ^ 63
  pub few : length (units_of program text) < 2 ^ 32
  pub closed : IsClosed view
  pub allowed : allows constant_strings constant_characters ≡ true
