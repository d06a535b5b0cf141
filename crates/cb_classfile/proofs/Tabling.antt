-- Reading the entries of a table from left to right.
use Rattle.std.proofs.Common.{◌≡◌, ℕ, ◌+◌, ◌<◌, ◌≤◌, List, [], ◌∷◌, ◌++◌, length, refl, sym, ◌∙◌, ap, subst, arith, append_assoc, length-append}
use Rattle.std.proofs.lemmas.List.{append-nil}
use Rattle.cb_classfile.specs.Reading.{IsFront, IsWhole}
use Rattle.cb_classfile.specs.Tables.{u2, SpellsU2, SpellsEach, SpellsCount, SpellsTable, BeginsWith}

-- entries and one more
each_more : {Item : Type 0} (Spells : List ℕ → Item → Type 0) (front first : List ℕ) (items : List Item) (item : Item) → SpellsEach Spells front items → Spells first item → SpellsEach Spells (front ++ first) (items ++ item ∷ [])
each_more Spells front first [] item none spelled = (first, [], spelled, refl, ap (λ bytes. bytes ++ first) none ∙ sym (append-nil first))
each_more Spells front first (other ∷ items) item (one, rest, is, more, split) spelled =
    (one, rest ++ first, is, each_more Spells rest first items item more spelled, ap (λ bytes. bytes ++ first) split ∙ append_assoc one rest first)

-- so many of the entries were read, and rest is left
pub record Reached {Item : Type 0} (Spells : List ℕ → Item → Type 0) (count done : ℕ) (bytes : List ℕ) (items : List Item) (rest : List ℕ) : Type 0 where
  pub counted : length items ≡ done
  pub read : BeginsWith (SpellsEach Spells) bytes items rest
  -- whatever entries the bytes begin with, these are the first of them
  pub left : (all : List Item) (behind : List ℕ) → BeginsWith (SpellsCount Spells count) bytes all behind
      → (tail : List Item) × (all ≡ items ++ tail) × BeginsWith (SpellsEach Spells) rest tail behind

pub reached_none : {Item : Type 0} (Spells : List ℕ → Item → Type 0) (count : ℕ) (bytes : List ℕ) → Reached Spells count 0 bytes [] bytes
reached_none Spells count bytes = record {
  counted = refl;
  read = ([], refl, refl);
  left = λ all behind (front, spelled, split). (all, refl, (front, spelled.each, split));
}

-- one more, which alone stands at the front
pub reached_more : {Item : Type 0} (Spells : List ℕ → Item → Type 0) (count done : ℕ) (bytes rest after : List ℕ) (items : List Item) (item : Item) → Reached Spells count done bytes items rest → done < count → IsFront Spells rest item after → Reached Spells count (done + 1) bytes (items ++ item ∷ []) after
reached_more {Item} Spells count done bytes rest after items item reached room here = record {
  counted = omega (arith, reached.counted, length-append items (item ∷ []));
  read = (
    reached.read.0 ++ here.found.0,
    each_more Spells reached.read.0 here.found.0 items item reached.read.1 here.found.1,
    reached.read.2 ∙ ap (λ more. reached.read.0 ++ more) here.found.2 ∙ sym (append_assoc reached.read.0 here.found.0 after),
  );
  left = λ all behind begins. next all behind begins (reached.left all behind begins);
} where
  next : (all : List Item) (behind : List ℕ) → BeginsWith (SpellsCount Spells count) bytes all behind → (tail : List Item) × (all ≡ items ++ tail) × BeginsWith (SpellsEach Spells) rest tail behind → (tail : List Item) × (all ≡ (items ++ item ∷ []) ++ tail) × BeginsWith (SpellsEach Spells) after tail behind
  next all behind (front, counted, whole) ([], is, more) = absurd (omega (arith, room, reached.counted, counted.counted, ap length is, length-append items []))
  next all behind begins (other ∷ tail, is, (front, (one, two, is_other, others, parts), whole)) =
      let alike = here.only other (two ++ behind) (one, is_other, whole ∙ ap (λ more. more ++ behind) parts ∙ append_assoc one two behind) in
      (tail, is ∙ ap (λ x. items ++ x ∷ tail) (sym alike.0) ∙ sym (append_assoc items (item ∷ []) tail), (two, others, alike.1))

-- what follows from an entry at the rest follows from so many at the start
pub from_next : {Item : Type 0} {P : Type 0} (Spells : List ℕ → Item → Type 0) (count done : ℕ) (bytes rest : List ℕ) (items : List Item) → Reached Spells count done bytes items rest → done < count → ((other : Item) (behind : List ℕ) → BeginsWith Spells rest other behind → P) → (all : List Item) (behind : List ℕ) → BeginsWith (SpellsCount Spells count) bytes all behind → P
from_next {Item} {P} Spells count done bytes rest items reached room next all behind begins = go (reached.left all behind begins) begins where
  go : (tail : List Item) × (all ≡ items ++ tail) × BeginsWith (SpellsEach Spells) rest tail behind → BeginsWith (SpellsCount Spells count) bytes all behind → P
  go ([], is, more) (front, counted, whole) = absurd (omega (arith, room, reached.counted, counted.counted, ap length is, length-append items []))
  go (other ∷ tail, is, (front, (one, two, is_other, others, parts), whole)) begins =
      next other (two ++ behind) (one, is_other, whole ∙ ap (λ more. more ++ behind) parts ∙ append_assoc one two behind)

-- all were read
pub finished : {Item : Type 0} (Spells : List ℕ → Item → Type 0) (count done : ℕ) (bytes rest : List ℕ) (items : List Item) → Reached Spells count done bytes items rest → count ≤ done → done ≤ count → IsFront (SpellsCount Spells count) bytes items rest
finished {Item} Spells count done bytes rest items reached low high = record {
  found = (reached.read.0, record { counted = omega (arith, low, high, reached.counted); each = reached.read.1 }, reached.read.2);
  only = λ all behind begins. go all behind (reached.left all behind begins) begins;
} where
  go : (all : List Item) (behind : List ℕ) → (tail : List Item) × (all ≡ items ++ tail) × BeginsWith (SpellsEach Spells) rest tail behind → BeginsWith (SpellsCount Spells count) bytes all behind → (items ≡ all) × (rest ≡ behind)
  go all behind ([], is, (front, none, whole)) begins = (sym (is ∙ append-nil items), whole ∙ ap (λ bytes. bytes ++ behind) none)
  go all behind (other ∷ tail, is, more) (front, counted, whole) = absurd (omega (arith, low, high, reached.counted, counted.counted, ap length is, length-append items (other ∷ tail)))

-- a table, by what stands behind its number
number_of : {Item : Type 0} {Spells : List ℕ → Item → Type 0} {bytes after : List ℕ} {items : List Item} → (begins : BeginsWith (SpellsTable Spells) bytes items after) → BeginsWith SpellsU2 bytes (length items) (begins.1.entries ++ after)
number_of {Item} {Spells} {bytes} {after} {items} (front, spelled, split) =
    (u2 (length items), (spelled.counted, refl), split ∙ ap (λ bytes. bytes ++ after) spelled.spelled ∙ append_assoc (u2 (length items)) spelled.entries after)

-- where no number stands there is no table
pub table_lacks : {P Item : Type 0} (Spells : List ℕ → Item → Type 0) (bytes : List ℕ) → ((number : ℕ) (rest : List ℕ) → BeginsWith SpellsU2 bytes number rest → P) → (items : List Item) (after : List ℕ) → BeginsWith (SpellsTable Spells) bytes items after → P
table_lacks Spells bytes next items after begins = next (length items) (begins.1.entries ++ after) (number_of begins)

-- and behind the number of a table so many entries stand
pub table_behind : {Item : Type 0} {count : ℕ} {bytes rest after : List ℕ} {items : List Item} (Spells : List ℕ → Item → Type 0) → IsFront SpellsU2 bytes count rest → BeginsWith (SpellsTable Spells) bytes items after → BeginsWith (SpellsCount Spells count) rest items after
table_behind Spells here begins =
    let alike = here.only _ _ (number_of begins) in
    (begins.1.entries, record { counted = sym alike.0; each = begins.1.each }, alike.1)

-- a number and so many entries are a table
pub table_counted : {Item : Type 0} {count : ℕ} {bytes rest after : List ℕ} {items : List Item} (Spells : List ℕ → Item → Type 0) → IsFront SpellsU2 bytes count rest → IsFront (SpellsCount Spells count) rest items after → IsFront (SpellsTable Spells) bytes items after
table_counted {Item} {count} {bytes} {rest} {after} {items} Spells number entries = record {
  found = found number.found entries.found;
  only = λ other behind begins. entries.only other behind (table_behind Spells number begins);
} where
  found : BeginsWith SpellsU2 bytes count rest → BeginsWith (SpellsCount Spells count) rest items after → BeginsWith (SpellsTable Spells) bytes items after
  found (first, (fits, is), split) (second, spelled, split_too) =
      let long : u2 count ≡ u2 (length items) = ap u2 (sym spelled.counted) in (
        first ++ second,
        record {
          entries = second;
          spelled = ap (λ first. first ++ second) (is ∙ long);
          counted = omega (arith, spelled.counted, fits);
          each = spelled.each;
        },
        split ∙ ap (λ bytes. first ++ bytes) split_too ∙ sym (append_assoc first second after),
      )

-- what is spelled by all bytes stands at their front with nothing behind it
pub whole_begins : {Item : Type 0} (Spells : List ℕ → Item → Type 0) (bytes : List ℕ) (item : Item) → Spells bytes item → BeginsWith Spells bytes item []
whole_begins Spells bytes item spelled = (bytes, spelled, sym (append-nil bytes))

whole_spelled : {Item : Type 0} (Spells : List ℕ → Item → Type 0) (bytes : List ℕ) (item : Item) (rest : List ℕ) → BeginsWith Spells bytes item rest → rest ≡ [] → Spells bytes item
whole_spelled Spells bytes item rest (front, spelled, split) none =
    subst (λ bytes. Spells bytes item) (sym (split ∙ ap (λ rest. front ++ rest) none ∙ append-nil front)) spelled

-- so where nothing stands at the front the bytes spell nothing
pub whole_lacks : {P Item : Type 0} (Spells : List ℕ → Item → Type 0) (bytes : List ℕ) → ((item : Item) (rest : List ℕ) → BeginsWith Spells bytes item rest → P) → (item : Item) → Spells bytes item → P
whole_lacks Spells bytes next item spelled = next item [] (whole_begins Spells bytes item spelled)

-- where nothing stands behind the item, the bytes spell it
pub whole_alone : {Item : Type 0} (Spells : List ℕ → Item → Type 0) (bytes : List ℕ) (item : Item) (rest : List ℕ) → IsFront Spells bytes item rest → length rest < 1 → IsWhole Spells bytes item
whole_alone Spells bytes item rest here short = record {
  found = whole_spelled Spells bytes item rest here.found (none rest short);
  only = λ other spelled. (here.only other [] (whole_begins Spells bytes other spelled)).0;
} where
  none : (rest : List ℕ) → length rest < 1 → rest ≡ []
  none [] short = refl
  none (byte ∷ rest) short = absurd (omega (arith, short))

-- and where something does, they spell nothing
pub whole_left : {P Item : Type 0} (Spells : List ℕ → Item → Type 0) (bytes : List ℕ) (item : Item) (rest : List ℕ) → IsFront Spells bytes item rest → 1 ≤ length rest → (other : Item) → Spells bytes other → P
whole_left Spells bytes item rest here long other spelled =
    let same = here.only other [] (whole_begins Spells bytes other spelled) in
    absurd (omega (arith, ap length same.1, long))
