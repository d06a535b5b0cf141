-- Local variables that are typed: loads, stores, and objects that become initialised.
use Rattle.std.proofs.Common.{◌≡◌, ◌∙◌, ap, sym, refl, subst, arith, ℕ, ℤ, zero, suc, ◌+◌, pos, FitsSigned, Bool, true, false, List, [], ◌∷◌, length, map, Option, Some, None, nat_le, slice_get, slice_set, if◌then◌else◌}
use Rattle.std.specs.Prelude.{◌==◌}
use Rattle.std.specs.Int.{w32}
use Rattle.std.proofs.lemmas.Bool.{eqb-true, false≢true}
use Rattle.std.proofs.lemmas.Option.{option_and_then_some, same_Some}
use Rattle.cb_machine.specs.Locals.{with_slots}
use Rattle.cb_machine.specs.Standing.{same_sort}
use Rattle.cb_machine.specs.Values.{sort_of}
use Rattle.cb_plain.specs.declared.value.Value.{Value}
use Rattle.cb_plain.specs.declared.value.Value.TheVariants as values
use Rattle.cb_plain.specs.Depth.{slots_of}
use Rattle.cb_shapes.specs.declared.sort.Sort.{Sort}
use Rattle.cb_shapes.specs.declared.sort.Sort.TheVariants as sorts
use Rattle.cb_verify.specs.declared.verification_type.VerificationType.{VerificationType}
use Rattle.cb_verify.specs.declared.verification_type.VerificationType.TheVariants.{Int, Long, New, Object, This, Top}
use Rattle.cb_verify.specs.Frames.{Frame, is_same, loaded, of_sort, replaced, stored}
use Rattle.cb_verify.specs.Leaving.{finished, new_kind}
use Rattle.cb_verify.specs.Types.{is_of, words}
use Rattle.cb_verify.specs.Within.{Within}
use Rattle.cb_safety.specs.Held.{HasType, HaveTypes, IsStack, words_in}
use Rattle.cb_safety.specs.Kinds.{IsKnown, Kinds, Refers, holds_kind, kind_in}
use Rattle.cb_safety.proofs.Assigned.{never, typed_is_known, when}
use Rattle.cb_safety.proofs.Taken.{sorted}

-- ---- loads

pub record AtLocal (method : Within) (kinds : Kinds) (locals : List Value) (local : ℕ) (type : VerificationType) : Type 0 where
  pub value : Value
  pub there : slice_get locals local ≡ Some value
  pub fits : HasType method kinds type value

pub at_local : (method : Within) (kinds : Kinds) (types : List VerificationType) (locals : List Value) (local : ℕ) (type : VerificationType)
    → HaveTypes method kinds types locals → slice_get types local ≡ Some type → AtLocal method kinds locals local type
at_local method kinds types locals local type HaveTypes.NoMore is = never is
at_local method kinds types locals zero type (HaveTypes.And own value others rest has have) is =
    record { value = value; there = refl; fits = subst (λ (same : VerificationType). HasType method kinds same value) (same_Some own type is) has }
at_local method kinds types locals (suc local) type (HaveTypes.And own value others rest has have) is =
    let found = at_local method kinds others rest local type have is in record { value = found.value; there = found.there; fits = found.fits }

-- what is loaded lies there, and is of the sort
loaded_at : (sort : Sort) (local : ℕ) (frame : Frame) (type : VerificationType) → loaded sort local frame ≡ Some type → (slice_get frame.locals local ≡ Some type) × (is_of sort type ≡ true)
loaded_at sort local frame type is = option_and_then_some (of_sort sort) (slice_get frame.locals local) type is by
  where
    by : (own : VerificationType) → slice_get frame.locals local ≡ Some own → of_sort sort own ≡ Some type → (slice_get frame.locals local ≡ Some type) × (is_of sort type ≡ true)
    by own there fits =
        let both = when (is_of sort own) (Some own) type fits in
        (there ∙ both.1, subst (λ (same : VerificationType). is_of sort same ≡ true) (same_Some own type both.1) both.0)

pub record Loaded (method : Within) (kinds : Kinds) (sort : Sort) (locals : List Value) (local : ℕ) (type : VerificationType) : Type 0 where
  pub value : Value
  pub there : slice_get locals local ≡ Some value
  pub fits : HasType method kinds type value
  pub sorted : same_sort (sort_of value) sort ≡ true
  pub is : is_of sort type ≡ true

pub loaded_typed : (method : Within) (kinds : Kinds) (sort : Sort) (local : ℕ) (frame : Frame) (locals : List Value) (type : VerificationType)
    → HaveTypes method kinds frame.locals locals → loaded sort local frame ≡ Some type → Loaded method kinds sort locals local type
loaded_typed method kinds sort local frame locals type have is =
    let both = loaded_at sort local frame type is in
    let found = at_local method kinds frame.locals locals local type have both.0 in
    record { value = found.value; there = found.there; fits = found.fits; sorted = sorted method kinds sort type found.value found.fits both.1; is = both.1 }

-- ---- stores

pub same_length : (method : Within) (kinds : Kinds) (types : List VerificationType) (locals : List Value) → HaveTypes method kinds types locals → length types ≡ length locals
same_length method kinds types locals HaveTypes.NoMore = refl
same_length method kinds types locals (HaveTypes.And type value others rest has have) = ap suc (same_length method kinds others rest have)

-- a value with its type
pub set_typed : (method : Within) (kinds : Kinds) (types : List VerificationType) (locals : List Value) (local : ℕ) (type : VerificationType) (value : Value)
    → HasType method kinds type value → HaveTypes method kinds types locals → HaveTypes method kinds (slice_set types local type) (slice_set locals local value)
set_typed method kinds types locals local type value fits HaveTypes.NoMore = HaveTypes.NoMore
set_typed method kinds types locals zero type value fits (HaveTypes.And own old others rest has have) = HaveTypes.And type value others rest fits have
set_typed method kinds types locals (suc local) type value fits (HaveTypes.And own old others rest has have) =
    HaveTypes.And own old (slice_set others local type) (slice_set rest local value) has (set_typed method kinds others rest local type value fits have)

-- a value of the type that is there
put_typed : (method : Within) (kinds : Kinds) (types : List VerificationType) (locals : List Value) (local : ℕ) (type : VerificationType) (value : Value)
    → HasType method kinds type value → slice_get types local ≡ Some type → HaveTypes method kinds types locals → HaveTypes method kinds types (slice_set locals local value)
put_typed method kinds types locals local type value fits is HaveTypes.NoMore = HaveTypes.NoMore
put_typed method kinds types locals zero type value fits is (HaveTypes.And own old others rest has have) =
    HaveTypes.And own value others rest (subst (λ (same : VerificationType). HasType method kinds same value) (sym (same_Some own type is)) fits) have
put_typed method kinds types locals (suc local) type value fits is (HaveTypes.And own old others rest has have) =
    HaveTypes.And own old others (slice_set rest local value) has (put_typed method kinds others rest local type value fits is have)

-- a type that is lost
lost_typed : (method : Within) (kinds : Kinds) (types : List VerificationType) (locals : List Value) (local : ℕ)
    → HaveTypes method kinds types locals → HaveTypes method kinds (slice_set types local Top) locals
lost_typed method kinds types locals local HaveTypes.NoMore = HaveTypes.NoMore
lost_typed method kinds types locals zero (HaveTypes.And own value others rest has have) =
    HaveTypes.And Top value others rest (HasType.Unknown value (typed_is_known method kinds own value has)) have
lost_typed method kinds types locals (suc local) (HaveTypes.And own value others rest has have) =
    HaveTypes.And own value (slice_set others local Top) rest has (lost_typed method kinds others rest local have)

lost_if : (method : Within) (kinds : Kinds) (types : List VerificationType) (locals : List Value) (local : ℕ) (test : Bool)
    → HaveTypes method kinds types locals → HaveTypes method kinds (if test then slice_set types local Top else types) locals
lost_if method kinds types locals local true have = lost_typed method kinds types locals local have
lost_if method kinds types locals local false have = have

pub record Stored (method : Within) (kinds : Kinds) (types : List VerificationType) (locals : List Value) (local : ℕ) (value : Value) : Type 0 where
  pub room : nat_le (local + length (slots_of value)) (length locals) ≡ true
  pub typed : HaveTypes method kinds types (with_slots locals local (slots_of value))

one_slot : (value : Value) → 1 ≡ words_in value → slots_of value ≡ value ∷ []
one_slot (values.Int number) same = refl
one_slot (values.Long number) same = absurd (omega (arith, same))
one_slot (values.Ref serial) same = refl

stored_one : (method : Within) (kinds : Kinds) (local : ℕ) (type : VerificationType) (value : Value) (before after : List VerificationType) (locals : List Value) (size : ℕ)
    → HasType method kinds type value → 1 ≡ words_in value → HaveTypes method kinds before locals → size ≡ length locals
    → (if nat_le (local + 1) size then Some (slice_set before local type) else None) ≡ Some after → Stored method kinds after locals local value
stored_one method kinds local type value before after locals size has same have sized is =
    let both = when (nat_le (local + 1) size) (Some (slice_set before local type)) after is in
    let room : nat_le (local + 1) (length locals) ≡ true = subst (λ (own : ℕ). nat_le (local + 1) own ≡ true) sized both.0 in
    let typed : HaveTypes method kinds after (slice_set locals local value) =
    subst (λ (types : List VerificationType). HaveTypes method kinds types (slice_set locals local value)) (same_Some (slice_set before local type) after both.1)
    (set_typed method kinds before locals local type value has have) in
    record {
      room = subst (λ (slots : List Value). nat_le (local + length slots) (length locals) ≡ true) (sym (one_slot value same)) room;
      typed = subst (λ (slots : List Value). HaveTypes method kinds after (with_slots locals local slots)) (sym (one_slot value same)) typed;
    }

stored_long : (method : Within) (kinds : Kinds) (local : ℕ) (number : ℤ) (before after : List VerificationType) (locals : List Value) (size : ℕ)
    → HasType method kinds Long (values.Long number) → HaveTypes method kinds before locals → size ≡ length locals
    → (if nat_le (local + 2) size then Some (slice_set (slice_set before local Long) (local + 1) Top) else None) ≡ Some after
    → Stored method kinds after locals local (values.Long number)
stored_long method kinds local number before after locals size has have sized is =
    let both = when (nat_le (local + 2) size) (Some (slice_set (slice_set before local Long) (local + 1) Top)) after is in
    record {
      room = subst (λ (own : ℕ). nat_le (local + 2) own ≡ true) sized both.0;
      typed =
          subst (λ (types : List VerificationType). HaveTypes method kinds types (with_slots locals local (slots_of (values.Long number))))
          (same_Some (slice_set (slice_set before local Long) (local + 1) Top) after both.1)
          (set_typed method kinds (slice_set before local Long) (slice_set locals local (values.Long number)) (local + 1) Top (values.Int (pos 0))
          (HasType.Unknown (values.Int (pos 0)) (IsKnown.AnInt (pos 0))) (set_typed method kinds before locals local Long (values.Long number) has have));
    }

pub stored_typed : (method : Within) (kinds : Kinds) (local : ℕ) (type : VerificationType) (value : Value) (types after : List VerificationType) (locals : List Value)
    → HasType method kinds type value → words type ≡ words_in value → HaveTypes method kinds types locals → stored local type types ≡ Some after
    → Stored method kinds after locals local value
stored_typed method kinds local type value types after locals (HasType.ALong number fits) same have is =
    stored_long method kinds local number _ after locals (length types) (HasType.ALong number fits) (lost_if method kinds types locals _ _ have)
    (same_length method kinds types locals have) is
stored_typed method kinds local type value types after locals has same have is =
    stored_one method kinds local _ _ _ after locals (length types) has same (lost_if method kinds types locals _ _ have)
    (same_length method kinds types locals have) is

-- an int in place of an int
an_int : (method : Within) (kinds : Kinds) (type : VerificationType) (number : ℤ) → FitsSigned w32 number → is_of sorts.Int type ≡ true → HasType method kinds type (values.Int number)
an_int method kinds Int number fits is = HasType.AnInt number fits
an_int method kinds type number fits is = absurd (false≢true is)

pub increased_typed : (method : Within) (kinds : Kinds) (local : ℕ) (frame : Frame) (locals : List Value) (type : VerificationType) (number : ℤ)
    → HaveTypes method kinds frame.locals locals → loaded sorts.Int local frame ≡ Some type → FitsSigned w32 number
    → HaveTypes method kinds frame.locals (slice_set locals local (values.Int number))
increased_typed method kinds local frame locals type number have is fits =
    let both = loaded_at sorts.Int local frame type is in
    put_typed method kinds frame.locals locals local type (values.Int number) (an_int method kinds type number fits both.1) both.0 have

-- ---- types in place of others

abbrev pub Keeps : Within → Kinds → (VerificationType → VerificationType) → Type 0
Keeps method kinds change = (type : VerificationType) (value : Value) → HasType method kinds type value → HasType method kinds (change type) value

changed_types : (method : Within) (kinds : Kinds) (change : VerificationType → VerificationType) (types : List VerificationType) (held : List Value) → Keeps method kinds change
    → HaveTypes method kinds types held → HaveTypes method kinds (map change types) held
changed_types method kinds change types held keeps HaveTypes.NoMore = HaveTypes.NoMore
changed_types method kinds change types held keeps (HaveTypes.And type value others rest has have) =
    HaveTypes.And (change type) value (map change others) rest (keeps type value has) (changed_types method kinds change others rest keeps have)

changed_stack : (method : Within) (kinds : Kinds) (change : VerificationType → VerificationType) (types : List VerificationType) (stack : List Value) → Keeps method kinds change
    → change Top ≡ Top → ((type : VerificationType) → words (change type) ≡ words type) → IsStack method kinds types stack → IsStack method kinds (map change types) stack
changed_stack method kinds change types stack keeps top same IsStack.Empty = IsStack.Empty
changed_stack method kinds change types stack keeps top same (IsStack.Upon type value others below has fits is) =
    IsStack.Upon (change type) value (map change others) below (keeps type value has) (same type ∙ fits) (changed_stack method kinds change others below keeps top same is)
changed_stack method kinds change types stack keeps top same (IsStack.Halves number others below is) =
    subst (λ (own : VerificationType). IsStack method kinds (own ∷ own ∷ map change others) (values.Long number ∷ below)) (sym top)
    (IsStack.Halves number (map change others) below (changed_stack method kinds change others below keeps top same is))

-- one that isn't initialised, by another
abbrev pub in_place : VerificationType → VerificationType → VerificationType → VerificationType
in_place old type own = if is_same old own then type else own

-- what is lost of a new object
lost_in : (method : Within) (kinds : Kinds) (type : VerificationType) (value : Value) (test : Bool) → HasType method kinds type value → HasType method kinds (if test then Top else type) value
lost_in method kinds type value true has = HasType.Unknown value (typed_is_known method kinds type value has)
lost_in method kinds type value false has = has

pub replaced_by_top : (method : Within) (kinds : Kinds) (old : VerificationType) (types : List VerificationType) (locals : List Value)
    → HaveTypes method kinds types locals → HaveTypes method kinds (replaced old Top types) locals
replaced_by_top method kinds old types locals have =
    changed_types method kinds (in_place old Top) types locals (λ type value has. lost_in method kinds type value (is_same old type) has) have

-- what a constructor has finished
this_kept : (method : Within) (kinds : Kinds) → Keeps method kinds (in_place This (Object method.class))
this_kept method kinds type value (HasType.ItsThis serial is) = HasType.AReference method.class serial (Refers.To serial is)
this_kept method kinds type value has = has

new_at : (method : Within) (kinds : Kinds) (place other serial kind own : ℕ) → new_kind method place ≡ Some kind → holds_kind method.program kind kind ≡ true
    → new_kind method other ≡ Some own → kind_in kinds serial ≡ Some own → (test : Bool) → (place == other) ≡ test
    → HasType method kinds (if test then Object kind else New other) (values.Ref serial)
new_at method kinds place other serial kind own makes goes made there true is =
    let same : Some own ≡ Some kind = sym made ∙ ap (new_kind method) (sym (eqb-true place other is)) ∙ makes in
    HasType.AReference kind serial (Refers.To serial (record { own = kind; there = there ∙ same; goes = goes }))
new_at method kinds place other serial kind own makes goes made there false is = HasType.ANew other serial own made there

new_kept : (method : Within) (kinds : Kinds) (place kind : ℕ) → new_kind method place ≡ Some kind → holds_kind method.program kind kind ≡ true
    → Keeps method kinds (in_place (New place) (Object kind))
new_kept method kinds place kind makes goes type value (HasType.ANew other serial own made there) =
    new_at method kinds place other serial kind own makes goes made there (place == other) refl
new_kept method kinds place kind makes goes type value has = has

-- it takes as many words
words_if : (test : Bool) (one other : VerificationType) → words one ≡ words other → words (if test then one else other) ≡ words other
words_if true one other same = same
words_if false one other same = refl

this_words : (kind : ℕ) (own : VerificationType) → words (in_place This (Object kind) own) ≡ words own
this_words kind This = refl
this_words kind own = refl

new_words : (place kind : ℕ) (own : VerificationType) → words (in_place (New place) (Object kind) own) ≡ words own
new_words place kind (New other) = words_if (place == other) (Object kind) (New other) refl
new_words place kind own = refl

this_finished : (method : Within) (kind : ℕ) (type : VerificationType) → finished method kind This ≡ Some type → Object method.class ≡ type
this_finished method kind type is = same_Some (Object method.class) type (when _ _ type is).1

pub new_finished : (method : Within) (kind place : ℕ) (type : VerificationType) → finished method kind (New place) ≡ Some type
    → (Object kind ≡ type) × (new_kind method place ≡ Some kind)
new_finished method kind place type is = by (new_kind method place) refl
  where
    by : (found : Option ℕ) → new_kind method place ≡ found → (Object kind ≡ type) × (new_kind method place ≡ Some kind)
    by None none = never (rw none at is)
    by (Some own) some =
        let both = when (kind == own) (Some (Object kind)) type (rw some at is) in
        (same_Some (Object kind) type both.1, some ∙ ap Some (sym (eqb-true kind own both.0)))

record Finished (method : Within) (kinds : Kinds) (old type : VerificationType) : Type 0 where
  pub keeps : Keeps method kinds (in_place old type)
  pub top : in_place old type Top ≡ Top
  pub same : (own : VerificationType) → words (in_place old type own) ≡ words own

finished_keeps : (method : Within) (kinds : Kinds) (kind : ℕ) (old type : VerificationType) → holds_kind method.program kind kind ≡ true
    → finished method kind old ≡ Some type → Finished method kinds old type
finished_keeps method kinds kind This type goes is =
    subst (λ (own : VerificationType). Finished method kinds This own) (this_finished method kind type is)
    (record { keeps = this_kept method kinds; top = refl; same = this_words method.class })
finished_keeps method kinds kind (New place) type goes is =
    let both = new_finished method kind place type is in
    subst (λ (own : VerificationType). Finished method kinds (New place) own) both.0
    (record { keeps = new_kept method kinds place kind both.1 goes; top = refl; same = new_words place kind })
finished_keeps method kinds kind old type goes is = never is

pub replaced_types : (method : Within) (kinds : Kinds) (kind : ℕ) (old type : VerificationType) (types : List VerificationType) (held : List Value)
    → holds_kind method.program kind kind ≡ true → finished method kind old ≡ Some type
    → HaveTypes method kinds types held → HaveTypes method kinds (replaced old type types) held
replaced_types method kinds kind old type types held goes is have =
    changed_types method kinds (in_place old type) types held (finished_keeps method kinds kind old type goes is).keeps have

pub replaced_stack : (method : Within) (kinds : Kinds) (kind : ℕ) (old type : VerificationType) (types : List VerificationType) (stack : List Value)
    → holds_kind method.program kind kind ≡ true → finished method kind old ≡ Some type
    → IsStack method kinds types stack → IsStack method kinds (replaced old type types) stack
replaced_stack method kinds kind old type types stack goes is typed =
    let done = finished_keeps method kinds kind old type goes is in changed_stack method kinds (in_place old type) types stack done.keeps done.top done.same typed
