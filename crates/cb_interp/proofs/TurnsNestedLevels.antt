-- The arrays of a dimension refer to those of the next, which are placed behind them; and an array is found by way of those above it.
use Rattle.std.proofs.Common.{◌≡◌, ◌∙◌, add-one, ap, refl, sym, subst, arith, inl, inr, ℕ, zero, suc, ◌+◌, ◌-◌, ◌*◌, ◌/◌, ◌%◌, ◌<◌, ◌≤◌, List, [], ◌∷◌, ◌++◌, ◌⊎◌, append_assoc, length, map, mul-le-mul_right, replicate, Option, Some, IsTrue, slice_get}
use Rattle.std.specs.Prelude.{is_some, option_map}
use Rattle.std.proofs.Math.Nat.{div-mul-le_self, mod-lt}
use Rattle.std.proofs.lemmas.Bool.{cases_lt}
use Rattle.std.proofs.lemmas.List.{append-nil, length-append, length-map, length-replicate, map-append, replicate-append-replicate}
use Rattle.std.proofs.lemmas.List.FromFn.{length-range_with_len}
use Rattle.std.proofs.lemmas.Nat.{div-add-mod'}
use Rattle.std.proofs.lemmas.Option.{slice_get-map}
use Rattle.std.specs.List.{range_with_len}
use Rattle.cb_heap.proofs.Laws.{content_of_object}
use Rattle.cb_heap.specs.Kept.{content_at, is_held}
use Rattle.cb_link.specs.Program.{Linked}
use Rattle.cb_machine.specs.Creating.{blank_element}
use Rattle.cb_machine.specs.Machine.{kind_of_site}
use Rattle.cb_machine.specs.Plans.{Rows, object_of, objects_of}
use Rattle.cb_plain.specs.State.{Content, Object, Reference}
use Rattle.cb_plain.specs.Updates.{object_in, with_contents_in}
use Rattle.cb_interp.specs.Nested.{Grid, LeadsDown, blanks, count_of, first_of, nested_objects, new_array, rows, rows_above, size_of, with_rows}
use Rattle.cb_interp.proofs.TurnsNested.{changed_middle, in_middle}

-- ---- numbers that follow one another

range_more : (from count : ℕ) → range_with_len from (count + 1) ≡ range_with_len from count ++ (from + count) ∷ []
range_more from count = ap (range_with_len from) (add-one count) ∙ go from count where
  go : (from count : ℕ) → range_with_len from (suc count) ≡ range_with_len from count ++ (from + count) ∷ []
  go from zero = let same : from ≡ from + 0 = omega arith in ap (λ (number : ℕ). number ∷ []) same
  go from (suc count) =
      let same : from + 1 + count ≡ from + suc count = omega arith in
      ap (λ (numbers : List ℕ). from ∷ numbers) (go (from + 1) count) ∙ ap (λ (last : ℕ). from ∷ (range_with_len (from + 1) count ++ last ∷ [])) same

range_at : (from count turn : ℕ) → turn < count → slice_get (range_with_len from count) turn ≡ Some (from + turn)
range_at from zero turn low = absurd (omega (arith, low))
range_at from (suc count) zero low = let same : from ≡ from + 0 = omega arith in ap {B = Option ℕ} Some same
range_at from (suc count) (suc turn) low =
    let same : from + 1 + turn ≡ from + suc turn = omega arith in
    range_at (from + 1) count turn (omega (arith, low)) ∙ ap {B = Option ℕ} Some same

one_fewer : {X : Type 0} (item : X) (count turn : ℕ) → turn < count → replicate (count - turn) item ≡ item ∷ replicate (count - (turn + 1)) item
one_fewer item count turn low =
    let same : count - turn ≡ suc (count - (turn + 1)) = omega (arith, low) in
    ap (λ (count : ℕ). replicate count item) same

-- ---- so many rows behind some objects, then arrays that are blank, then what the rows refer to

behind : (front : List (Option Object)) (objects : List Object) (rest : List (Option Object)) (turn : ℕ) (object : Object) → slice_get objects turn ≡ Some object
    → object_in (front ++ (map Some objects ++ rest)) (length front + turn + 1) ≡ Some object
behind front objects rest turn object is =
    ap (object_in (front ++ (map Some objects ++ rest))) (add-one (length front + turn)) ∙ go front objects turn is where
      at_first : (objects : List Object) (turn : ℕ) → slice_get objects turn ≡ Some object → object_in (map Some objects ++ rest) (suc turn) ≡ Some object
      at_first [] turn is = absurd (cc is)
      at_first (own ∷ objects) zero is = is
      at_first (own ∷ objects) (suc turn) is = at_first objects turn is

      go : (front : List (Option Object)) (objects : List Object) (turn : ℕ) → slice_get objects turn ≡ Some object
          → object_in (front ++ (map Some objects ++ rest)) (suc (length front + turn)) ≡ Some object
      go [] objects turn is = ap (λ (place : ℕ). object_in (map Some objects ++ rest) (suc place)) (let same : 0 + turn ≡ turn = omega arith in same) ∙ at_first objects turn is
      go (entry ∷ front) objects turn is =
          ap (λ (place : ℕ). object_in (entry ∷ (front ++ (map Some objects ++ rest))) (suc place)) (let same : suc (length front) + turn ≡ suc (length front + turn) = omega arith in same)
          ∙ go front objects turn is

pub rows_length : (site kind first size turn : ℕ) → length (map Some (objects_of (Rows site kind first size turn))) ≡ turn
rows_length site kind first size turn =
    length-map (objects_of (Rows site kind first size turn)) Some
    ∙ length-map (range_with_len 0 turn) (λ (turn : ℕ). object_of site kind (map Reference (range_with_len (first + turn * size) size))) ∙ length-range_with_len 0 turn

module _ (program : Linked) (site kind size count next below : ℕ) (front : List (Option Object)) where
  abbrev blank : Object
  blank = new_array program site size

  abbrev child : Object
  child = new_array program next below

  -- the serial of the first of the others
  abbrev first : ℕ
  first = length front + count + 1

  abbrev own_row : ℕ → Object
  own_row turn = object_of site kind (map Reference (range_with_len (first + turn * size) size))

  abbrev rows_to : ℕ → List Object
  rows_to turn = objects_of (Rows site kind first size turn)

  abbrev pub level_so : ℕ → List (Option Object)
  level_so turn = front ++ (map Some (rows_to turn) ++ (replicate (count - turn) (Some blank) ++ replicate (turn * size) (Some child)))

  row_at : (turn most : ℕ) → turn < most → slice_get (rows_to most) turn ≡ Some (own_row turn)
  row_at turn most low =
      slice_get-map (λ (turn : ℕ). own_row turn) (range_with_len 0 most) turn
      ∙ ap (option_map (λ (turn : ℕ). own_row turn)) (range_at 0 most turn low)
      ∙ ap (λ (turn : ℕ). Some (own_row turn)) (let same : 0 + turn ≡ turn = omega arith in same)

  rows_more : (turn : ℕ) → rows_to (turn + 1) ≡ rows_to turn ++ own_row turn ∷ []
  rows_more turn =
      ap (map (λ (turn : ℕ). own_row turn)) (range_more 0 turn)
      ∙ map-append (λ (turn : ℕ). own_row turn) (range_with_len 0 turn) ((0 + turn) ∷ [])
      ∙ ap (λ (last : ℕ). rows_to turn ++ own_row last ∷ []) (let same : 0 + turn ≡ turn = omega arith in same)

  pub level_length : (turn : ℕ) → turn ≤ count → length (level_so turn) ≡ length front + count + turn * size
  level_length turn low =
      let own = rows_length site kind first size turn in
      let whole : length (level_so turn) ≡ length front + length (map Some (rows_to turn) ++ (replicate (count - turn) (Some blank) ++ replicate (turn * size) (Some child))) =
      length-append front (map Some (rows_to turn) ++ (replicate (count - turn) (Some blank) ++ replicate (turn * size) (Some child))) in
      let rest : length (map Some (rows_to turn) ++ (replicate (count - turn) (Some blank) ++ replicate (turn * size) (Some child)))
      ≡ length (map Some (rows_to turn)) + length (replicate (count - turn) (Some blank) ++ replicate (turn * size) (Some child)) =
      length-append (map Some (rows_to turn)) (replicate (count - turn) (Some blank) ++ replicate (turn * size) (Some child)) in
      let last : length (replicate (count - turn) (Some blank) ++ replicate (turn * size) (Some child))
      ≡ length (replicate (count - turn) (Some blank)) + length (replicate (turn * size) (Some child)) =
      length-append (replicate (count - turn) (Some blank)) (replicate (turn * size) (Some child)) in
      let blanks : length (replicate (count - turn) (Some blank)) ≡ count - turn = length-replicate (count - turn) (Some blank) in
      let children : length (replicate (turn * size) (Some child)) ≡ turn * size = length-replicate (turn * size) (Some child) in
      omega (arith, own, whole, rest, last, blanks, children, low)

  -- the next of those that are blank
  abbrev before : ℕ → List (Option Object)
  before turn = front ++ map Some (rows_to turn)

  abbrev after : ℕ → List (Option Object)
  after turn = replicate (count - (turn + 1)) (Some blank) ++ replicate (turn * size) (Some child)

  before_length : (turn : ℕ) → length (before turn) ≡ length front + turn
  before_length turn =
      let both : length (before turn) ≡ length front + length (map Some (rows_to turn)) = length-append front (map Some (rows_to turn)) in
      let own = rows_length site kind first size turn in
      omega (arith, both, own)

  level_at : (turn : ℕ) → turn < count → level_so turn ≡ before turn ++ Some blank ∷ after turn
  level_at turn low =
      ap (λ (blanks : List (Option Object)). front ++ (map Some (rows_to turn) ++ (blanks ++ replicate (turn * size) (Some child)))) (one_fewer (Some blank) count turn low)
      ∙ sym (append_assoc front (map Some (rows_to turn)) (Some blank ∷ after turn))

  serial_at : (turn : ℕ) → length front + turn + 1 ≡ suc (length (before turn))
  serial_at turn = let same = before_length turn in omega (arith, same)

  pub level_blank : (turn : ℕ) → turn < count → object_in (level_so turn) (length front + turn + 1) ≡ Some blank
  level_blank turn low =
      ap (λ (objects : List (Option Object)). object_in objects (length front + turn + 1)) (level_at turn low)
      ∙ ap (object_in (before turn ++ Some blank ∷ after turn)) (serial_at turn)
      ∙ in_middle (before turn) blank (after turn)

  module _ (own_kind : kind ≡ kind_of_site program site) where
    pub level_next : (turn : ℕ) → turn < count → with_rows program (level_so turn) (length front + turn + 1) size next below ≡ level_so (turn + 1)
    level_next turn low =
        let longer = level_length turn (omega (arith, low)) in
        let new : length (level_so turn) + 1 ≡ first + turn * size = omega (arith, longer) in
        let children : turn * size + size ≡ (turn + 1) * size = omega arith in
        ap (λ (from : ℕ). with_contents_in (level_so turn) (length front + turn + 1) (map Reference (range_with_len from size)) ++ replicate size (Some child)) new
        ∙ ap (λ (objects : List (Option Object)). with_contents_in objects (length front + turn + 1) (map Reference (range_with_len (first + turn * size) size)) ++ replicate size (Some child))
        (level_at turn low)
        ∙ ap (λ (serial : ℕ). with_contents_in (before turn ++ Some blank ∷ after turn) serial (map Reference (range_with_len (first + turn * size) size)) ++ replicate size (Some child))
        (serial_at turn)
        ∙ ap (λ (objects : List (Option Object)). objects ++ replicate size (Some child))
        (changed_middle (before turn) blank (after turn) (map Reference (range_with_len (first + turn * size) size)))
        ∙ ap (λ (kind : ℕ). (before turn ++ Some (object_of site kind (map Reference (range_with_len (first + turn * size) size))) ∷ after turn) ++ replicate size (Some child)) (sym own_kind)
        ∙ append_assoc (before turn) (Some (own_row turn) ∷ after turn) (replicate size (Some child))
        ∙ ap (λ (rest : List (Option Object)). before turn ++ Some (own_row turn) ∷ rest)
        (append_assoc (replicate (count - (turn + 1)) (Some blank)) (replicate (turn * size) (Some child)) (replicate size (Some child))
        ∙ ap (λ (children : List (Option Object)). replicate (count - (turn + 1)) (Some blank) ++ children)
        (replicate-append-replicate (turn * size) size (Some child) ∙ ap (λ (count : ℕ). replicate count (Some child)) children))
        ∙ append_assoc front (map Some (rows_to turn)) (Some (own_row turn) ∷ (replicate (count - (turn + 1)) (Some blank) ++ replicate ((turn + 1) * size) (Some child)))
        ∙ ap (λ (objects : List (Option Object)). front ++ objects)
        (sym (append_assoc (map Some (rows_to turn)) (Some (own_row turn) ∷ []) (replicate (count - (turn + 1)) (Some blank) ++ replicate ((turn + 1) * size) (Some child))))
        ∙ ap (λ (own : List (Option Object)). front ++ (own ++ (replicate (count - (turn + 1)) (Some blank) ++ replicate ((turn + 1) * size) (Some child))))
        (sym (map-append Some (rows_to turn) (own_row turn ∷ [])) ∙ ap (map Some) (sym (rows_more turn)))

  pub level_first : level_so 0 ≡ front ++ replicate count (Some blank)
  level_first =
      let none : 0 * size ≡ 0 = omega arith in
      let all : count - 0 ≡ count = omega arith in
      ap (λ (children : ℕ). front ++ (replicate (count - 0) (Some blank) ++ replicate children (Some child))) none
      ∙ ap (λ (blanks : List (Option Object)). front ++ blanks) (append-nil (replicate (count - 0) (Some blank)))
      ∙ ap (λ (count : ℕ). front ++ replicate count (Some blank)) all

  pub level_last : level_so count ≡ front ++ (map Some (rows_to count) ++ replicate (count * size) (Some child))
  level_last =
      let none : count - count ≡ 0 = omega arith in
      ap (λ (blanks : ℕ). front ++ (map Some (rows_to count) ++ (replicate blanks (Some blank) ++ replicate (count * size) (Some child)))) none

  -- a word of a row
  pub row_word : (rest : List (Option Object)) (turn word : ℕ) → turn < count → word < size
      → content_at (front ++ (map Some (rows_to count) ++ rest)) (length front + turn + 1) word ≡ Some (Reference (first + turn * size + word))
  row_word rest turn word low short =
      content_of_object (front ++ (map Some (rows_to count) ++ rest)) (length front + turn + 1) word (own_row turn)
      (behind front (rows_to count) rest turn (own_row turn) (row_at turn count low))
      ∙ slice_get-map Reference (range_with_len (first + turn * size) size) word
      ∙ ap (option_map Reference) (range_at (first + turn * size) size word short)

-- ---- all dimensions

module _ (program : Linked) (grid : Grid) (start : List (Option Object)) where
  abbrev lowest : ℕ
  lowest = length start + 1

  abbrev pub above : ℕ → List (Option Object)
  above dimension = start ++ rows_above program grid lowest dimension

  rows_count : (dimension : ℕ) → length (rows program grid lowest dimension) ≡ count_of grid.sizes dimension
  rows_count dimension =
      rows_length (grid.site dimension) (kind_of_site program (grid.site dimension)) (first_of grid.sizes lowest (suc dimension)) (size_of grid.sizes dimension) (count_of grid.sizes dimension)

  pub above_length : (dimension : ℕ) → length (above dimension) + 1 ≡ first_of grid.sizes lowest dimension
  above_length zero = ap (λ (objects : List (Option Object)). length objects + 1) (append-nil start)
  above_length (suc dimension) =
      let before = above_length dimension in
      let own = rows_count dimension in
      let one : length (above (suc dimension)) ≡ length start + length (rows_above program grid lowest dimension ++ rows program grid lowest dimension) =
      length-append start (rows_above program grid lowest dimension ++ rows program grid lowest dimension) in
      let two : length (rows_above program grid lowest dimension ++ rows program grid lowest dimension) ≡ length (rows_above program grid lowest dimension) + length (rows program grid lowest dimension) =
      length-append (rows_above program grid lowest dimension) (rows program grid lowest dimension) in
      let three : length (above dimension) ≡ length start + length (rows_above program grid lowest dimension) = length-append start (rows_above program grid lowest dimension) in
      omega (arith, before, own, one, two, three)

  next_first : (dimension : ℕ) → length (above dimension) + count_of grid.sizes dimension + 1 ≡ first_of grid.sizes lowest (suc dimension)
  next_first dimension =
      let same = above_length dimension in
      let more : length (above dimension) + count_of grid.sizes dimension + 1 ≡ first_of grid.sizes lowest dimension + count_of grid.sizes dimension = omega (arith, same) in
      more

  -- rows lead from each dimension to the next
  abbrev LeadsFrom : List (Option Object) → (level turn word : ℕ) → Type 0
  LeadsFrom objects level turn word =
      turn < count_of grid.sizes level → word < size_of grid.sizes level
      → content_at objects (first_of grid.sizes lowest level + turn) word ≡ Some (Reference (first_of grid.sizes lowest (suc level) + turn * size_of grid.sizes level + word))

  leads_last : (dimension : ℕ) (rest : List (Option Object)) (turn word : ℕ) → LeadsFrom (above dimension ++ (rows program grid lowest dimension ++ rest)) dimension turn word
  leads_last dimension rest turn word few short =
      let place : first_of grid.sizes lowest dimension + turn ≡ length (above dimension) + turn + 1 = (let same = above_length dimension in omega (arith, same)) in
      ap (λ (serial : ℕ). content_at (above dimension ++ (rows program grid lowest dimension ++ rest)) serial word) place
      ∙ subst (λ (first : ℕ). content_at (above dimension ++ (map Some (objects_of (Rows (grid.site dimension) (kind_of_site program (grid.site dimension)) first (size_of grid.sizes dimension) (count_of grid.sizes dimension))) ++ rest)) (length (above dimension) + turn + 1) word
      ≡ Some (Reference (first + turn * size_of grid.sizes dimension + word))) (next_first dimension)
      (row_word program (grid.site dimension) (kind_of_site program (grid.site dimension)) (size_of grid.sizes dimension) (count_of grid.sizes dimension) 0 0 (above dimension) rest turn word few short)

  pub above_next : (dimension : ℕ) (rest : List (Option Object)) → above (suc dimension) ++ rest ≡ above dimension ++ (rows program grid lowest dimension ++ rest)
  above_next dimension rest =
      ap (λ (objects : List (Option Object)). objects ++ rest) (sym (append_assoc start (rows_above program grid lowest dimension) (rows program grid lowest dimension)))
      ∙ append_assoc (above dimension) (rows program grid lowest dimension) rest

  pub leads : (dimension : ℕ) (rest : List (Option Object)) → LeadsDown (above dimension ++ rest) grid.sizes lowest dimension
  leads zero rest level turn word low few short = absurd (omega (arith, low))
  leads (suc dimension) rest level turn word low few short =
      ap (λ (objects : List (Option Object)). content_at objects (first_of grid.sizes lowest level + turn) word) (above_next dimension rest)
      ∙ elim (cases_lt level dimension) [
        | inl below ↦ leads dimension (rows program grid lowest dimension ++ rest) level turn word below few short
        | inr at ↦
            let same : dimension ≡ level = omega (arith, at, low) in
            subst (λ (level : ℕ). LeadsFrom (above dimension ++ (rows program grid lowest dimension ++ rest)) level turn word) same (leads_last dimension rest turn word) few short
      ]

  -- so many of the arrays of a dimension lead to the next
  abbrev pub level_at_turn : (dimension turn : ℕ) → List (Option Object)
  level_at_turn dimension turn =
      level_so program (grid.site dimension) (kind_of_site program (grid.site dimension)) (size_of grid.sizes dimension) (count_of grid.sizes dimension)
      (grid.site (dimension + 1)) (size_of grid.sizes (dimension + 1)) (above dimension) turn

  pub level_begins : (dimension : ℕ) → start ++ nested_objects program grid lowest dimension ≡ level_at_turn dimension 0
  level_begins dimension =
      sym (append_assoc start (rows_above program grid lowest dimension) (blanks program grid dimension))
      ∙ sym (level_first program (grid.site dimension) (kind_of_site program (grid.site dimension)) (size_of grid.sizes dimension) (count_of grid.sizes dimension)
      (grid.site (dimension + 1)) (size_of grid.sizes (dimension + 1)) (above dimension))

  pub level_ends : (dimension : ℕ) → level_at_turn dimension (count_of grid.sizes dimension) ≡ start ++ nested_objects program grid lowest (dimension + 1)
  level_ends dimension =
      let children : List (Option Object) = replicate (count_of grid.sizes dimension * size_of grid.sizes dimension) (Some (new_array program (grid.site (dimension + 1)) (size_of grid.sizes (dimension + 1)))) in
      level_last program (grid.site dimension) (kind_of_site program (grid.site dimension)) (size_of grid.sizes dimension) (count_of grid.sizes dimension)
      (grid.site (dimension + 1)) (size_of grid.sizes (dimension + 1)) (above dimension)
      ∙ ap (λ (first : ℕ). above dimension ++ (map Some (objects_of (Rows (grid.site dimension) (kind_of_site program (grid.site dimension)) first (size_of grid.sizes dimension) (count_of grid.sizes dimension))) ++ children))
      (next_first dimension)
      ∙ append_assoc start (rows_above program grid lowest dimension) (rows program grid lowest dimension ++ children)
      ∙ ap (λ (objects : List (Option Object)). start ++ objects) (sym (append_assoc (rows_above program grid lowest dimension) (rows program grid lowest dimension) children))
      ∙ ap (λ (next : ℕ). start ++ (rows_above program grid lowest (suc dimension)
      ++ replicate (count_of grid.sizes (suc dimension)) (Some (new_array program (grid.site next) (size_of grid.sizes next))))) (add-one dimension)
      ∙ ap (λ (next : ℕ). start ++ nested_objects program grid lowest next) (sym (add-one dimension))

  pub turn_leads : (dimension turn : ℕ) → LeadsDown (level_at_turn dimension turn) grid.sizes lowest dimension
  turn_leads dimension turn =
      leads dimension (map Some (objects_of (Rows (grid.site dimension) (kind_of_site program (grid.site dimension)) (length (above dimension) + count_of grid.sizes dimension + 1) (size_of grid.sizes dimension) turn))
      ++ (replicate (count_of grid.sizes dimension - turn) (Some (new_array program (grid.site dimension) (size_of grid.sizes dimension)))
      ++ replicate (turn * size_of grid.sizes dimension) (Some (new_array program (grid.site (dimension + 1)) (size_of grid.sizes (dimension + 1))))))

  -- the array of a turn is blank, and is filled next
  turn_place : (dimension turn : ℕ) → first_of grid.sizes lowest dimension + turn ≡ length (above dimension) + turn + 1
  turn_place dimension turn = let same = above_length dimension in omega (arith, same)

  pub turn_blank : (dimension turn : ℕ) → turn < count_of grid.sizes dimension → blank_element program (kind_of_site program (grid.site dimension)) ≡ Reference 0
      → option_map (λ object. object.contents) (object_in (level_at_turn dimension turn) (first_of grid.sizes lowest dimension + turn)) ≡ Some (replicate (size_of grid.sizes dimension) (Reference 0))
  turn_blank dimension turn low nulls =
      ap (λ (serial : ℕ). option_map (λ object. object.contents) (object_in (level_at_turn dimension turn) serial)) (turn_place dimension turn)
      ∙ ap (option_map (λ object. object.contents)) (level_blank program (grid.site dimension) (kind_of_site program (grid.site dimension)) (size_of grid.sizes dimension) (count_of grid.sizes dimension)
      (grid.site (dimension + 1)) (size_of grid.sizes (dimension + 1)) (above dimension) turn low)
      ∙ ap (λ (content : Content). Some (replicate (size_of grid.sizes dimension) content)) nulls

  -- it is of the site of its dimension
  pub turn_there : (dimension turn : ℕ) → turn < count_of grid.sizes dimension
      → object_in (level_at_turn dimension turn) (first_of grid.sizes lowest dimension + turn) ≡ Some (new_array program (grid.site dimension) (size_of grid.sizes dimension))
  turn_there dimension turn low =
      ap (λ (serial : ℕ). object_in (level_at_turn dimension turn) serial) (turn_place dimension turn)
      ∙ level_blank program (grid.site dimension) (kind_of_site program (grid.site dimension)) (size_of grid.sizes dimension) (count_of grid.sizes dimension)
      (grid.site (dimension + 1)) (size_of grid.sizes (dimension + 1)) (above dimension) turn low

  pub turn_next : (dimension turn : ℕ) → turn < count_of grid.sizes dimension
      → with_rows program (level_at_turn dimension turn) (first_of grid.sizes lowest dimension + turn) (size_of grid.sizes dimension) (grid.site (dimension + 1)) (size_of grid.sizes (dimension + 1))
      ≡ level_at_turn dimension (turn + 1)
  turn_next dimension turn low =
      ap (λ (serial : ℕ). with_rows program (level_at_turn dimension turn) serial (size_of grid.sizes dimension) (grid.site (dimension + 1)) (size_of grid.sizes (dimension + 1))) (turn_place dimension turn)
      ∙ level_next program (grid.site dimension) (kind_of_site program (grid.site dimension)) (size_of grid.sizes dimension) (count_of grid.sizes dimension)
      (grid.site (dimension + 1)) (size_of grid.sizes (dimension + 1)) (above dimension) refl turn low

  -- the outermost array is there
  record Headed (objects : List (Option Object)) : Type 0 where
    object : Object
    rest : List (Option Object)
    is : objects ≡ Some object ∷ rest

  headed_above : (dimension : ℕ) → Headed (rows_above program grid lowest (suc dimension))
  headed_above zero = record {
    object = object_of (grid.site 0) (kind_of_site program (grid.site 0)) (map Reference (range_with_len (first_of grid.sizes lowest 1 + 0 * size_of grid.sizes 0) (size_of grid.sizes 0)));
    rest = [];
    is = refl;
  }
  headed_above (suc dimension) =
      let headed = headed_above dimension in
      record {
        object = headed.object;
        rest = headed.rest ++ rows program grid lowest (suc dimension);
        is = ap (λ (objects : List (Option Object)). objects ++ rows program grid lowest (suc dimension)) headed.is;
      }

  headed : (dimension : ℕ) → Headed (nested_objects program grid lowest dimension)
  headed zero = record { object = new_array program (grid.site 0) (size_of grid.sizes 0); rest = []; is = refl }
  headed (suc dimension) =
      let above = headed_above dimension in
      record {
        object = above.object;
        rest = above.rest ++ blanks program grid (suc dimension);
        is = ap (λ (objects : List (Option Object)). objects ++ blanks program grid (suc dimension)) above.is;
      }

  pub head_held : (dimension : ℕ) → IsTrue (is_held (start ++ nested_objects program grid lowest dimension) (length start + 1))
  head_held dimension =
      let first = headed dimension in
      ap (λ (objects : List (Option Object)). is_held (start ++ objects) (length start + 1)) first.is
      ∙ ap (is_held (start ++ Some first.object ∷ first.rest)) (add-one (length start))
      ∙ ap is_some (in_middle start first.object first.rest)

-- ---- the array of a turn, by way of that above it

abbrev pub serial_in : Content → ℕ
serial_in (Reference serial) = serial
serial_in other = 0

module _ (objects : List (Option Object)) (sizes : List ℕ) (lowest dimension turn : ℕ) (some : 0 < dimension) (low : turn < count_of sizes dimension)
    (leads : LeadsDown objects sizes lowest dimension) where
  abbrev up : ℕ
  up = dimension - 1

  abbrev words : ℕ
  words = size_of sizes up

  same : suc up ≡ dimension
  same = omega (arith, some)

  product : turn < count_of sizes up * words
  product = subst (λ (dimension : ℕ). turn < count_of sizes dimension) (sym same) low

  pub words_some : 0 < words
  words_some = go words refl where
    go : (size : ℕ) → words ≡ size → 0 < words
    go zero is =
        let none : turn < count_of sizes up * 0 = subst (λ (size : ℕ). turn < count_of sizes up * size) is product in
        absurd (omega (arith, none))
    go (suc size) is = omega (arith, is)

  pub above_low : turn / words < count_of sizes up
  above_low = go (cases_lt (turn / words) (count_of sizes up)) where
    go : (turn / words < count_of sizes up) ⊎ (count_of sizes up ≤ turn / words) → turn / words < count_of sizes up
    go (inl below) = below
    go (inr high) =
        let most = mul-le-mul_right words high in
        let least = div-mul-le_self turn words in
        let less = product in
        absurd (omega (arith, most, least, less))

  pub leads_up : LeadsDown objects sizes lowest up
  leads_up level turn word below few short = leads level turn word (omega (arith, below, some)) few short

  pub leads_there : content_at objects (first_of sizes lowest up + turn / words) (turn % words) ≡ Some (Reference (first_of sizes lowest dimension + turn))
  leads_there =
      let whole : turn / words * words + turn % words ≡ turn = div-add-mod' turn words in
      let sum : first_of sizes lowest (suc up) + turn / words * words + turn % words ≡ first_of sizes lowest (suc up) + turn = omega (arith, whole) in
      leads up (turn / words) (turn % words) (omega (arith, some)) above_low (mod-lt turn words_some)
      ∙ ap (λ (serial : ℕ). Some (Reference serial)) sum
      ∙ ap (λ (dimension : ℕ). Some (Reference (first_of sizes lowest dimension + turn))) same
