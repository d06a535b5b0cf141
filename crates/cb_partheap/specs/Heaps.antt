-- What is seen of a heap in parts, and the store that it is.
use Rattle.std.specs.Prelude.{pos, ◌+◌, ◌-◌, ◌<◌, ◌==◌, ◌||◌, ℕ, Bool, true, false, List, Option, Some, None, length, nat_lt, option_map, slice_get, slice_index, slice_index_or, slice_set}
use Rattle.std.specs.Int.{int_wrap, w64}
use Rattle.cb_plain.specs.declared.shape.Shape.{Shape}
use Rattle.cb_plain.specs.declared.shape.Shape.TheVariants as shapes
use Rattle.cb_plain.specs.declared.want.Want.{Want}
use Rattle.cb_plain.specs.Requests.{spent}
use Rattle.cb_plain.specs.State.{Content, Number, Object, Reference, words_of}
use Rattle.cb_heap.specs.Reading.{serial_of}
use Rattle.cb_heap.specs.Storage.{Settings}
use Rattle.cb_dag.specs.Graphs.{has_edge}
use Rattle.cb_blocks.specs.Parted.{Parted, with_words}
use Rattle.cb_blocks.specs.Rows.{tabulated}
use Rattle.cb_partheap.specs.Spots.{Spot, place_of, serial_by, spot_where, words_by}
use Rattle.cb_partheap.specs.Stacks.{Stacked}
use Rattle.cb_partheap.specs.Words.{kind_at, site_at, size_at}

-- the words of all parts; the shapes of objects by kind; the part of each site, and the edges between parts; the serial of the next object;
-- the room that is left of what was granted; and the objects that marking has yet to look at
pub record Heap : Type 0 where
  pub memory : Parted
  pub shapes : List Shape
  pub site_parts : List ℕ
  pub edges : List (List Bool)
  pub next : ℕ
  pub granted : List Want
  pub grey : Stacked

-- how many objects were placed before the one at a place, and before the next one where none is there
abbrev before : Heap → Option Spot → ℕ
before heap None = heap.next - 1
before heap (Some spot) = serial_by heap.memory spot - 1

unfoldable pub index_in : Heap → ℕ → ℕ
index_in heap place = before heap (spot_where heap.memory (λ spot. place_of heap.memory spot == place))

-- whether a word of contents holds a reference, by the shape of its object's kind
abbrev pub holds : Option Shape → ℕ → Bool
holds None i = false
holds (Some (shapes.Fields marks)) i = slice_index_or marks i false
holds (Some (shapes.Elements mark)) i = mark

-- objects of a shape may have this word
abbrev pub HasWord : Shape → ℕ → Type 0
HasWord (shapes.Fields marks) i = i < length marks
HasWord (shapes.Elements mark) i = Unit {0}

-- what it holds: a number in two's complement, or the place of an object or 0, which is read
abbrev pub content_of : (ℕ → ℕ) → Bool → ℕ → Content
content_of index true word = Reference (serial_of index word)
content_of index false word = Number (int_wrap w64 (pos word))

-- the object that begins at a place of words
abbrev pub marks_at : List Shape → List ℕ → ℕ → ℕ → Bool
marks_at all words start i = holds (slice_get all (kind_at words start)) i

abbrev pub object_from : List Shape → (ℕ → ℕ) → List ℕ → ℕ → Object
object_from all index words start =
    record { site = site_at words start; kind = kind_at words start; contents = tabulated (size_at words start) (λ i. content_of index (marks_at all words start i) (slice_index words (start + (3 + i)))) }

abbrev pub object_by : Heap → Spot → Object
object_by heap spot = object_from heap.shapes (index_in heap) (words_by heap.memory spot) spot.start

-- all objects that were ever placed, by serial, where they are kept
unfoldable pub objects_in : Heap → List (Option Object)
objects_in heap = tabulated (heap.next - 1) (λ n. option_map (object_by heap) (spot_where heap.memory (λ spot. serial_by heap.memory spot == n + 1)))

-- references stay in their part or follow an edge
abbrev pub part_of : List ℕ → ℕ → ℕ
part_of site_parts site = slice_index site_parts site

abbrev pub may_refer : List (List Bool) → ℕ → ℕ → Bool
may_refer edges part other = part == other || has_edge edges part other

abbrev pub settings_in : Heap → Settings
settings_in heap =
    record { shapes = heap.shapes; knows = λ site. nat_lt site (length heap.site_parts); allows = λ one other. may_refer heap.edges (part_of heap.site_parts one) (part_of heap.site_parts other) }

-- a heap with other words, and with another word of an object's contents
abbrev pub with_memory : Heap → Parted → Heap
with_memory heap memory =
    record { memory = memory; shapes = heap.shapes; site_parts = heap.site_parts; edges = heap.edges; next = heap.next; granted = heap.granted; grey = heap.grey }

abbrev pub with_word : Heap → Spot → (i word : ℕ) → Heap
with_word heap spot i word =
    with_memory heap (with_words heap.memory spot.part (slice_set (words_by heap.memory spot) (spot.start + (3 + i)) word))

-- a heap with an object more of a site, whose words are among these
abbrev pub with_object : Heap → Parted → (site size : ℕ) → Heap
with_object heap memory site size =
    record { memory = memory; shapes = heap.shapes; site_parts = heap.site_parts; edges = heap.edges; next = heap.next + 1; granted = spent heap.granted site (words_of size); grey = heap.grey }

-- a heap with other room that is granted
abbrev pub with_granted : Heap → List Want → Heap
with_granted heap wants =
    record { memory = heap.memory; shapes = heap.shapes; site_parts = heap.site_parts; edges = heap.edges; next = heap.next; granted = wants; grey = heap.grey }
