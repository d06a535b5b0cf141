-- At most one item of a kind stands at the front of some bytes.
use Rattle.std.proofs.Common.{◌≡◌, ℕ, ◌^◌, ◌<◌, List, [], ◌∷◌, ◌++◌, length, take, Option, Some, None, refl, sym, ◌∙◌, ap, subst, arith, append_assoc}
use Rattle.std.specs.Int.{Width, w16, w32, to_be_bytes}
use Rattle.std.proofs.Math.Seq.{take-append_seam}
use Rattle.std.proofs.lemmas.List.{append_cancel_left}
use Rattle.std.proofs.lemmas.Option.{same_Some}
use Rattle.cb_text.proofs.Laws.{IsWidth, width_16, width_32, number_again}
use Rattle.cb_classfile.specs.Attributes.{SpellsOnce}
use Rattle.cb_classfile.specs.Reading.{IsFront, IsWhole}
use Rattle.cb_classfile.specs.Tables.{u2, u4, SpellsBlock, SpellsU1, SpellsU2, SpellsPair, SpellsTriple, SpellsEach, SpellsCount, SpellsTable, BeginsWith, ThenOf}

-- of two items at the front of the same bytes, both are one
pub record IsExact {Item : Type 0} (Spells : List ℕ → Item → Type 0) : Type 0 where
  pub same : (one other : Item) (first second rest behind : List ℕ) → Spells first one → Spells second other → first ++ rest ≡ second ++ behind → (one ≡ other) × (rest ≡ behind)

-- the same of bytes that begin with an item
pub one_front : {Item : Type 0} {Spells : List ℕ → Item → Type 0} {bytes left : List ℕ} {one other : Item} {rest behind : List ℕ} → IsExact Spells → bytes ≡ left → BeginsWith Spells bytes one rest → BeginsWith Spells left other behind → (one ≡ other) × (rest ≡ behind)
one_front exact same (first, spelled, split) (second, spelled_too, split_too) = exact.same _ _ _ _ _ _ spelled spelled_too (sym split ∙ same ∙ split_too)

-- so whole bytes spell at most one
pub one_whole : {Item : Type 0} {Spells : List ℕ → Item → Type 0} {bytes : List ℕ} {one other : Item} → IsExact Spells → Spells bytes one → Spells bytes other → one ≡ other
one_whole exact spelled spelled_too = (exact.same _ _ _ _ [] [] spelled spelled_too refl).0

-- so what is found is all that stands there
pub front : {Item : Type 0} {Spells : List ℕ → Item → Type 0} {bytes : List ℕ} {item : Item} {rest : List ℕ} → IsExact Spells → BeginsWith Spells bytes item rest → IsFront Spells bytes item rest
front exact begins = record { found = begins; only = λ other behind too. one_front exact refl begins too }

pub whole : {Item : Type 0} {Spells : List ℕ → Item → Type 0} {bytes : List ℕ} {item : Item} → IsExact Spells → Spells bytes item → IsWhole Spells bytes item
whole exact spelled = record { found = spelled; only = λ other too. one_whole exact spelled too }

-- the same bytes in other words
pub respelled : {first front second start : List ℕ} (rest behind : List ℕ) → first ≡ front → second ≡ start → first ++ rest ≡ second ++ behind → front ++ rest ≡ start ++ behind
respelled rest behind is is_too same = sym (ap (λ bytes. bytes ++ rest) is) ∙ same ∙ ap (λ bytes. bytes ++ behind) is_too

-- at most one number of a width stands at the front
one_number : (w : Width) (limit : ℕ) {one other : ℕ} {rest behind : List ℕ} → IsWidth w limit → one < limit → other < limit → to_be_bytes w one ++ rest ≡ to_be_bytes w other ++ behind → (one ≡ other) × (rest ≡ behind)
one_number w limit {one} {other} {rest} {behind} width fits fits_too same =
    let first = number_again w limit one _ rest width fits refl in
    let second = number_again w limit other _ behind width fits_too same in
    let read = same_Some (one, rest) (other, behind) (sym first ∙ second) in
    (ap (λ read. read.0) read, ap (λ read. read.1) read)

-- and so of two bytes
pub one_u2 : {one other : ℕ} {rest behind : List ℕ} → one < 2 ^ 16 → other < 2 ^ 16 → u2 one ++ rest ≡ u2 other ++ behind → (one ≡ other) × (rest ≡ behind)
one_u2 fits fits_too same = one_number w16 (2 ^ 16) width_16 fits fits_too same

-- a number of one byte and one of two are exact
pub exact_u1 : IsExact SpellsU1
exact_u1 = record {
  same = λ one other first second rest behind spelled spelled_too same.
      let cells : one ∷ rest ≡ other ∷ behind = respelled rest behind spelled spelled_too same in
      let number : one ≡ other = cc in
      let left : rest ≡ behind = cc in
      (number, left);
}

pub exact_u2 : IsExact SpellsU2
exact_u2 = record {
  same = λ one other first second rest behind spelled spelled_too same.
      one_u2 spelled.0 spelled_too.0 (respelled rest behind spelled.1 spelled_too.1 same);
}

-- and so are two and three numbers
pub pair_same : (one two : ℕ) (other : ℕ × ℕ) → one ≡ other.0 → two ≡ other.1 → (one, two) ≡ other
pair_same one two other first second = rw (first, second) refl

triple_same : (one two three : ℕ) (other : ℕ × ℕ × ℕ) → one ≡ other.0 → two ≡ other.1 → three ≡ other.2 → (one, two, three) ≡ other
triple_same one two three other first second third = rw (first, second, third) refl

pub exact_pair : IsExact SpellsPair
exact_pair = record {
  same = λ one other first second rest behind spelled spelled_too same.
      let left = one_u2 {rest = u2 one.1 ++ rest} {behind = u2 other.1 ++ behind} spelled.0 spelled_too.0 (respelled rest behind spelled.2 spelled_too.2 same) in
      let right = one_u2 spelled.1 spelled_too.1 left.1 in
      (pair_same one.0 one.1 other left.0 right.0, right.1);
}

pub exact_triple : IsExact SpellsTriple
exact_triple = record {
  same = λ one other first second rest behind spelled spelled_too same.
      let left = one_u2 {rest = u2 one.1 ++ (u2 one.2 ++ rest)} {behind = u2 other.1 ++ (u2 other.2 ++ behind)} spelled.0 spelled_too.0 (respelled rest behind spelled.3 spelled_too.3 same) in
      let middle = one_u2 {rest = u2 one.2 ++ rest} {behind = u2 other.2 ++ behind} spelled.1 spelled_too.1 left.1 in
      let right = one_u2 spelled.2 spelled_too.2 middle.1 in
      (triple_same one.0 one.1 one.2 other left.0 middle.0 right.0, right.1);
}

-- at most one list of a length stands at the front
pub one_list : {one other rest behind : List ℕ} → length one ≡ length other → one ++ rest ≡ other ++ behind → (one ≡ other) × (rest ≡ behind)
one_list {one} {other} {rest} {behind} long same =
    let is : one ≡ other = sym (take-append_seam one rest) ∙ ap (take (length one)) same ∙ ap (λ n. take n (other ++ behind)) long ∙ take-append_seam other behind in
    (is, append_cancel_left other rest behind (ap (λ list. list ++ rest) (sym is) ∙ same))

-- and at most one behind its length
pub one_block : {one other rest behind : List ℕ} → length one < 2 ^ 32 → length other < 2 ^ 32 → u4 (length one) ++ (one ++ rest) ≡ u4 (length other) ++ (other ++ behind) → (one ≡ other) × (rest ≡ behind)
one_block fits fits_too same =
    let long = one_number w32 (2 ^ 32) width_32 fits fits_too same in
    one_list long.0 long.1

-- bytes behind their number are exact
pub exact_block : IsExact SpellsBlock
exact_block = record {
  same = λ one other first second rest behind spelled spelled_too same.
      one_block spelled.0 spelled_too.0 (respelled rest behind spelled.1 spelled_too.1 same);
}

-- what has no bytes is exact, where one alone is so
pub exact_empty : {Item : Type 0} (Is : Item → Type 0) → ((one other : Item) → Is one → Is other → one ≡ other) → IsExact (λ bytes item. Is item × (bytes ≡ []))
exact_empty Is alone = record {
  same = λ one other first second rest behind spelled spelled_too same.
      (alone one other spelled.0 spelled_too.0, respelled rest behind spelled.1 spelled_too.1 same);
}

-- what spells no more than the exact is exact
pub exact_within : {Item : Type 0} {Spells Wider : List ℕ → Item → Type 0} → ((bytes : List ℕ) (item : Item) → Spells bytes item → Wider bytes item) → IsExact Wider → IsExact Spells
exact_within within exact = record {
  same = λ one other first second rest behind spelled spelled_too same.
      exact.same _ _ _ _ _ _ (within first one spelled) (within second other spelled_too) same;
}

-- so many items stand at the front in one way
each_same : {Item : Type 0} (Spells : List ℕ → Item → Type 0) (one other : List Item) (first second rest behind : List ℕ) → IsExact Spells → length one ≡ length other → SpellsEach Spells first one → SpellsEach Spells second other → first ++ rest ≡ second ++ behind → (one ≡ other) × (rest ≡ behind)
each_same Spells [] [] first second rest behind exact long none none_too same = (refl, respelled rest behind none none_too same)
each_same Spells [] (next ∷ other) first second rest behind exact long none spelled same = absurd (omega (arith, long))
each_same Spells (item ∷ one) [] first second rest behind exact long spelled none same = absurd (omega (arith, long))
each_same Spells (item ∷ one) (next ∷ other) first second rest behind exact long (front, left, is, more, parts) (start, over, is_too, more_too, parts_too) same =
    let split = sym (append_assoc front left rest) ∙ respelled rest behind parts parts_too same ∙ append_assoc start over behind in
    let head = exact.same _ _ _ _ _ _ is is_too split in
    let tail = each_same Spells one other left over rest behind exact (omega (arith, long)) more more_too head.1 in
    (ap (λ first. first ∷ one) head.0 ∙ ap (λ items. next ∷ items) tail.0, tail.1)

-- so exact items are exact by their number
pub exact_count : {Item : Type 0} {Spells : List ℕ → Item → Type 0} (count : ℕ) → IsExact Spells → IsExact (SpellsCount Spells count)
exact_count {Item} {Spells} count exact = record {
  same = λ one other first second rest behind spelled spelled_too same.
      each_same Spells one other first second rest behind exact (spelled.counted ∙ sym spelled_too.counted) spelled.each spelled_too.each same;
}

-- and in a table
pub exact_table : {Item : Type 0} {Spells : List ℕ → Item → Type 0} → IsExact Spells → IsExact (SpellsTable Spells)
exact_table {Item} {Spells} exact = record {
  same = λ one other first second rest behind spelled spelled_too same.
      let number = one_u2 spelled.counted spelled_too.counted (respelled rest behind spelled.spelled spelled_too.spelled same) in
      each_same Spells one other spelled.entries spelled_too.entries rest behind exact number.0 spelled.each spelled_too.each number.1;
}

-- the contents spell at most one item or none, where contents spell at most one item
pub one_once : {Item : Type 0} (Spells : List ℕ → Item → Type 0) (contents : List (List ℕ)) (one other : Option Item) → ((bytes : List ℕ) (one other : Item) → Spells bytes one → Spells bytes other → one ≡ other) → SpellsOnce Spells contents one → SpellsOnce Spells contents other → one ≡ other
one_once Spells [] None None alone spelled spelled_too = refl
one_once Spells (contents ∷ []) (Some one) (Some other) alone spelled spelled_too = ap Some (alone contents one other spelled spelled_too)
one_once Spells contents one other alone spelled spelled_too = absurd assumption

-- of a pair whose parts are those of another, both are one
both_same : {Item Next : Type 0} (item : Item) (next : Next) (other : Item × Next) → item ≡ other.0 → next ≡ other.1 → (item, next) ≡ other
both_same item next other first second = λ i. (first i, second i)

-- an exact item and one behind it that is exact too are exact
pub exact_then : {Item Next : Type 0} {Spells : List ℕ → Item → Type 0} {Behind : Item → List ℕ → Next → Type 0} → IsExact Spells → ((item : Item) → IsExact (Behind item)) → IsExact (ThenOf Spells Behind)
exact_then {Item} {Next} {Spells} {Behind} exact exact_behind = record {
  same = λ one other first second rest behind spelled spelled_too same.
      let split = sym (append_assoc spelled.first spelled.second rest) ∙ respelled rest behind spelled.spelled spelled_too.spelled same ∙ append_assoc spelled_too.first spelled_too.second behind in
      let head = exact.same _ _ _ _ _ _ spelled.here spelled_too.here split in
      let moved : Behind other.0 spelled.second one.1 = subst (λ item. Behind item spelled.second one.1) head.0 spelled.behind in
      let tail = (exact_behind other.0).same _ _ _ _ _ _ moved spelled_too.behind head.1 in
      (both_same one.0 one.1 other head.0 tail.0, tail.1);
}
