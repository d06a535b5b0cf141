-- Values and words that are known.
use Rattle.std.proofs.Common.{◌≡◌, refl, subst, arith, ℕ, zero, suc, ◌+◌, ◌<◌, Bool, true, false, List, [], ◌∷◌, map, replicate, slice_get, slice_set, Some}
use Rattle.std.specs.List.{AllByRecursion, range_with_len}
use Rattle.cb_kinds.specs.declared.basic.Basic.{Basic}
use Rattle.cb_link.specs.Program.{Linked}
use Rattle.cb_plain.specs.State.{Content, blank}
use Rattle.cb_plain.specs.declared.value.Value.{Value}
use Rattle.cb_plain.specs.declared.value.Value.TheVariants as values
use Rattle.cb_verify.specs.declared.verification_type.VerificationType.{VerificationType}
use Rattle.cb_verify.specs.Within.{Within}
use Rattle.cb_safety.specs.Heap.{IsKnownWord}
use Rattle.cb_safety.specs.Held.{HasBasic, HasContent, IsStack}
use Rattle.cb_safety.specs.Kinds.{AreKnown, IsKnown, Kinds, Refers}
use Rattle.cb_safety.proofs.Assigned.{typed_is_known}

-- ---- one

pub referred_known : (program : Linked) (kinds : Kinds) (kind serial : ℕ) → Refers program kinds kind serial → IsKnown kinds (values.Ref serial)
referred_known program kinds kind serial Refers.ToNull = IsKnown.Null
referred_known program kinds kind serial (Refers.To own is) = IsKnown.AnObject own is.own is.there

pub content_known : (program : Linked) (kinds : Kinds) (basic : Basic) (content : Content) → HasContent program kinds basic content → IsKnownWord kinds content
content_known program kinds basic content (HasContent.AReference kind serial refers) = referred_known program kinds kind serial refers
content_known program kinds basic content (HasContent.ALong number fits) = tt
content_known program kinds basic content (HasContent.AnInt own number is fits kept) = tt

pub basic_known : (program : Linked) (kinds : Kinds) (basic : Basic) (value : Value) → HasBasic program kinds basic value → IsKnown kinds value
basic_known program kinds basic value (HasBasic.AReference kind serial refers) = referred_known program kinds kind serial refers
basic_known program kinds basic value (HasBasic.ALong number fits) = IsKnown.ALong number
basic_known program kinds basic value (HasBasic.AnInt own number is fits kept) = IsKnown.AnInt number

pub blank_known : (kinds : Kinds) (reference : Bool) → IsKnownWord kinds (blank reference)
blank_known kinds true = IsKnown.Null
blank_known kinds false = tt

-- ---- all

pub all_set : {Item : Type 0} (P : Item → Type 0) (items : List Item) (place : ℕ) (item : Item) → AllByRecursion P items → P item → AllByRecursion P (slice_set items place item)
all_set P [] place item all one = tt
all_set P (first ∷ items) zero item all one = (one, all.1)
all_set P (first ∷ items) (suc place) item all one = (all.0, all_set P items place item all.1 one)

pub all_found : {Item : Type 0} (P : Item → Type 0) (items : List Item) → ((place : ℕ) (item : Item) → slice_get items place ≡ Some item → P item) → AllByRecursion P items
all_found P [] each = tt
all_found P (item ∷ items) each = (each 0 item refl, all_found P items (λ place. each (suc place)))

pub all_alike : {Item : Type 0} (P : Item → Type 0) (count : ℕ) (item : Item) → P item → AllByRecursion P (replicate count item)
all_alike P zero item one = tt
all_alike P (suc count) item one = (one, all_alike P count item one)

pub all_mapped : {Item Part : Type 0} (P : Part → Type 0) (change : Item → Part) (items : List Item) → ((item : Item) → P (change item)) → AllByRecursion P (map change items)
all_mapped P change [] each = tt
all_mapped P change (item ∷ items) each = (each item, all_mapped P change items each)

pub stack_known : (method : Within) (kinds : Kinds) (types : List VerificationType) (stack : List Value) → IsStack method kinds types stack → AreKnown kinds stack
stack_known method kinds types stack IsStack.Empty = tt
stack_known method kinds types stack (IsStack.Upon type value others below has words is) = (typed_is_known method kinds type value has, stack_known method kinds others below is)
stack_known method kinds types stack (IsStack.Halves number others below is) = (IsKnown.ALong number, stack_known method kinds others below is)

pub all_ranged : {Item : Type 0} (P : Item → Type 0) (make : ℕ → Item) (from count : ℕ) → ((place : ℕ) → place < count → P (make (from + place)))
    → AllByRecursion P (map make (range_with_len from count))
all_ranged P make from zero each = tt
all_ranged P make from (suc count) each = (
  subst (λ (number : ℕ). P (make number)) (let same : from + 0 ≡ from = omega arith in same) (each 0 (omega arith)),
  all_ranged P make (from + 1) count
      (λ place low. subst (λ (number : ℕ). P (make number)) (let same : from + suc place ≡ from + 1 + place = omega arith in same) (each (suc place) (omega (arith, low)))),
)

pub words_known : (program : Linked) (kinds : Kinds) (basic : Basic) (contents : List Content) → AllByRecursion (HasContent program kinds basic) contents
    → AllByRecursion (IsKnownWord kinds) contents
words_known program kinds basic [] all = tt
words_known program kinds basic (content ∷ contents) all = (content_known program kinds basic content all.0, words_known program kinds basic contents all.1)
