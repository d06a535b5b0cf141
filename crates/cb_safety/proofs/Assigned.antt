-- What has a type has each type to which that is assignable.
use Rattle.std.proofs.Common.{◌≡◌, ◌∙◌, ap, sym, refl, ℕ, ℤ, Bool, true, false, List, [], ◌∷◌, Option, Some, None, option_map, if◌then◌else◌}
use Rattle.std.specs.Cmp.Lexicographic.{pointwise}
use Rattle.std.proofs.lemmas.Bool.{and_parts, eqb-true, false≢true}
use Rattle.std.proofs.lemmas.Option.{none-some, same_Some}
use Rattle.cb_link.specs.Program.{Linked}
use Rattle.cb_plain.specs.declared.value.Value.{Value}
use Rattle.cb_plain.specs.declared.value.Value.TheVariants as values
use Rattle.cb_verify.specs.declared.verification_type.VerificationType.{VerificationType}
use Rattle.cb_verify.specs.declared.verification_type.VerificationType.TheVariants.{Int, Long, New, Null, Object, This, Top}
use Rattle.cb_verify.specs.Frames.{Frame, frame_goes_to, stack_goes_to, stack_words}
use Rattle.cb_verify.specs.Leaving.{new_kind}
use Rattle.cb_verify.specs.Types.{goes_to, kind_goes_to, words}
use Rattle.cb_verify.specs.Within.{Within}
use Rattle.cb_safety.specs.Held.{HasType, HaveTypes, IsStack, words_in}
use Rattle.cb_safety.specs.Kinds.{IsKnown, IsOfKind, Kinds, Refers, holds_kind}

-- a test that is met, and an option that isn't there
pub never : {Item P : Type 0} {item : Item} → ◌≡◌ {A = Option Item} None (Some item) → P
never {Item} {P} {item} none = absurd (none-some item none)

pub when : {Item : Type 0} (test : Bool) (found : Option Item) (item : Item) → (if test then found else None) ≡ Some item → (test ≡ true) × (found ≡ Some item)
when true found item is = (refl, is)
when false found item is = never is

pub mapped : {Item Other P : Type 0} (change : Item → Other) (found : Option Item) (result : Other) → option_map change found ≡ Some result
    → ((item : Item) → found ≡ Some item → change item ≡ result → P) → P
mapped change None result is follows = never is
mapped change (Some item) result is follows = follows item refl (same_Some (change item) result is)

-- what is held as a kind is held as each kind to which that is assignable
abbrev pub KindsChain : Linked → Type 0
KindsChain program = (own kind other : ℕ) → holds_kind program own kind ≡ true → kind_goes_to program kind other ≡ true → holds_kind program own other ≡ true

-- a value that has a type is known
referred : (program : Linked) (kinds : Kinds) (kind serial : ℕ) → Refers program kinds kind serial → IsKnown kinds (values.Ref serial)
referred program kinds kind serial Refers.ToNull = IsKnown.Null
referred program kinds kind serial (Refers.To own is) = IsKnown.AnObject own is.own is.there

pub typed_is_known : (method : Within) (kinds : Kinds) (type : VerificationType) (value : Value) → HasType method kinds type value → IsKnown kinds value
typed_is_known method kinds type value (HasType.Unknown own is) = is
typed_is_known method kinds type value (HasType.AnInt number fits) = IsKnown.AnInt number
typed_is_known method kinds type value (HasType.ALong number fits) = IsKnown.ALong number
typed_is_known method kinds type value HasType.ItsNull = IsKnown.Null
typed_is_known method kinds type value (HasType.AReference kind serial refers) = referred method.program kinds kind serial refers
typed_is_known method kinds type value (HasType.ItsThis serial is) = IsKnown.AnObject serial is.own is.there
typed_is_known method kinds type value (HasType.ANew place serial kind made there) = IsKnown.AnObject serial kind there

-- one type
pub of_kind_assigned : (program : Linked) → KindsChain program → (kinds : Kinds) (kind other serial : ℕ) → kind_goes_to program kind other ≡ true
    → IsOfKind program kinds kind serial → IsOfKind program kinds other serial
of_kind_assigned program chain kinds kind other serial goes is = record { own = is.own; there = is.there; goes = chain is.own kind other is.goes goes }

refers_assigned : (program : Linked) → KindsChain program → (kinds : Kinds) (kind other serial : ℕ) → kind_goes_to program kind other ≡ true
    → Refers program kinds kind serial → Refers program kinds other serial
refers_assigned program chain kinds kind other serial goes Refers.ToNull = Refers.ToNull
refers_assigned program chain kinds kind other serial goes (Refers.To own is) = Refers.To own (of_kind_assigned program chain kinds kind other own goes is)

pub assigned : (method : Within) → KindsChain method.program → (kinds : Kinds) (type other : VerificationType) (value : Value)
    → goes_to method.program type other ≡ true → HasType method kinds type value → HasType method kinds other value
assigned method chain kinds type Top value goes has = HasType.Unknown value (typed_is_known method kinds type value has)
assigned method chain kinds type Int value goes (HasType.AnInt number fits) = HasType.AnInt number fits
assigned method chain kinds type Long value goes (HasType.ALong number fits) = HasType.ALong number fits
assigned method chain kinds type Null value goes HasType.ItsNull = HasType.ItsNull
assigned method chain kinds type (Object other) value goes HasType.ItsNull = HasType.AReference other 0 Refers.ToNull
assigned method chain kinds type (Object other) value goes (HasType.AReference kind serial refers) =
    HasType.AReference other serial (refers_assigned method.program chain kinds kind other serial goes refers)
assigned method chain kinds type This value goes (HasType.ItsThis serial is) = HasType.ItsThis serial is
assigned method chain kinds type (New other) value goes (HasType.ANew place serial kind made there) =
    HasType.ANew other serial kind (ap (new_kind method) (sym (eqb-true place other goes)) ∙ made) there
assigned method chain kinds type other value goes has = absurd (false≢true goes)

-- local variables
all_assigned : (method : Within) → KindsChain method.program → (kinds : Kinds) (types others : List VerificationType) (held : List Value)
    → pointwise (goes_to method.program) types others ≡ true → HaveTypes method kinds types held → HaveTypes method kinds others held
all_assigned method chain kinds types [] held goes HaveTypes.NoMore = HaveTypes.NoMore
all_assigned method chain kinds types (other ∷ others) held goes (HaveTypes.And type value more rest has have) =
    let both : (goes_to method.program type other ≡ true) × (pointwise (goes_to method.program) more others ≡ true) =
    and_parts (goes_to method.program type other) (pointwise (goes_to method.program) more others) goes in
    HaveTypes.And other value others rest (assigned method chain kinds type other value both.0 has) (all_assigned method chain kinds more others rest both.1 have)
all_assigned method chain kinds types others held goes have = absurd (false≢true goes)

-- the words of a stack don't begin with a long's lower one, to which nothing else is assignable
no_lower : {P : Type 0} (program : Linked) (types others : List VerificationType) → pointwise (goes_to program) (stack_words types) (Long ∷ others) ≡ true → P
no_lower program [] others goes = absurd (false≢true goes)
no_lower program (Long ∷ types) others goes = absurd (false≢true goes)
no_lower program (type ∷ types) others goes = absurd (false≢true goes)

-- a stack's rest, when one is assignable to it
abbrev Follows : Within → Kinds → List VerificationType → List Value → Type 0
Follows method kinds types stack = (others : List VerificationType) → stack_goes_to method.program types others ≡ true → IsStack method kinds others stack

one_upon : (method : Within) → KindsChain method.program → (kinds : Kinds) (type : VerificationType) (value : Value) (types : List VerificationType) (stack : List Value)
    (others : List VerificationType) → HasType method kinds type value → 1 ≡ words_in value → Follows method kinds types stack
    → pointwise (goes_to method.program) (type ∷ stack_words types) (stack_words others) ≡ true → IsStack method kinds others (value ∷ stack)
one_upon method chain kinds type value types stack [] has word follows goes = absurd (false≢true goes)
one_upon method chain kinds type value types stack (Long ∷ others) has word follows goes =
    no_lower method.program types (stack_words others) (and_parts (goes_to method.program type Top) (pointwise (goes_to method.program) (stack_words types) (Long ∷ stack_words others)) goes).1
one_upon method chain kinds type value types stack (other ∷ others) has word follows goes =
    let both : (goes_to method.program type other ≡ true) × (stack_goes_to method.program types others ≡ true) =
    and_parts (goes_to method.program type other) (stack_goes_to method.program types others) goes in
    IsStack.Upon other value others stack (assigned method chain kinds type other value both.0 has) word (follows others both.1)

long_upon : (method : Within) → KindsChain method.program → (kinds : Kinds) (number : ℤ) (types : List VerificationType) (stack : List Value)
    (others : List VerificationType) → HasType method kinds Long (values.Long number) → Follows method kinds types stack
    → pointwise (goes_to method.program) (Top ∷ Long ∷ stack_words types) (stack_words others) ≡ true → IsStack method kinds others (values.Long number ∷ stack)
long_upon method chain kinds number types stack [] has follows goes = absurd (false≢true goes)
long_upon method chain kinds number types stack (Long ∷ others) has follows goes = IsStack.Upon Long (values.Long number) others stack has refl (follows others goes)
long_upon method chain kinds number types stack (Top ∷ []) has follows goes = absurd (false≢true goes)
long_upon method chain kinds number types stack (Top ∷ Top ∷ others) has follows goes = IsStack.Halves number others stack (follows others goes)
long_upon method chain kinds number types stack (Top ∷ Long ∷ others) has follows goes = no_lower method.program types (stack_words others) goes
long_upon method chain kinds number types stack (Top ∷ other ∷ others) has follows goes = absurd (false≢true goes)
long_upon method chain kinds number types stack (other ∷ others) has follows goes = absurd (false≢true goes)

halves_upon : (method : Within) (kinds : Kinds) (number : ℤ) (types : List VerificationType) (stack : List Value) (others : List VerificationType)
    → Follows method kinds types stack → pointwise (goes_to method.program) (Top ∷ Top ∷ stack_words types) (stack_words others) ≡ true
    → IsStack method kinds others (values.Long number ∷ stack)
halves_upon method kinds number types stack [] follows goes = absurd (false≢true goes)
halves_upon method kinds number types stack (Top ∷ []) follows goes = absurd (false≢true goes)
halves_upon method kinds number types stack (Top ∷ Top ∷ others) follows goes = IsStack.Halves number others stack (follows others goes)
halves_upon method kinds number types stack (Top ∷ Long ∷ others) follows goes = no_lower method.program types (stack_words others) goes
halves_upon method kinds number types stack (Top ∷ other ∷ others) follows goes = absurd (false≢true goes)
halves_upon method kinds number types stack (other ∷ others) follows goes = absurd (false≢true goes)

upon : (method : Within) → KindsChain method.program → (kinds : Kinds) (type : VerificationType) (value : Value) (types : List VerificationType) (stack : List Value)
    (others : List VerificationType) → HasType method kinds type value → words type ≡ words_in value → Follows method kinds types stack
    → stack_goes_to method.program (type ∷ types) others ≡ true → IsStack method kinds others (value ∷ stack)
upon method chain kinds type value types stack others (HasType.ALong number fits) same follows goes =
    long_upon method chain kinds number types stack others (HasType.ALong number fits) follows goes
upon method chain kinds type value types stack others has same follows goes = one_upon method chain kinds _ _ types stack others has same follows goes

stack_assigned : (method : Within) → KindsChain method.program → (kinds : Kinds) (types others : List VerificationType) (stack : List Value)
    → stack_goes_to method.program types others ≡ true → IsStack method kinds types stack → IsStack method kinds others stack
stack_assigned method chain kinds types [] stack goes IsStack.Empty = IsStack.Empty
stack_assigned method chain kinds types (Long ∷ others) stack goes IsStack.Empty = absurd (false≢true goes)
stack_assigned method chain kinds types (other ∷ others) stack goes IsStack.Empty = absurd (false≢true goes)
stack_assigned method chain kinds types others stack goes (IsStack.Upon type value more below has same is) =
    upon method chain kinds type value more below others has same (λ own so. stack_assigned method chain kinds more own below so is) goes
stack_assigned method chain kinds types others stack goes (IsStack.Halves number more below is) =
    halves_upon method kinds number more below others (λ own so. stack_assigned method chain kinds more own below so is) goes

-- a frame: its local variables and its stack
pub frame_assigned : (method : Within) → KindsChain method.program → (kinds : Kinds) (one other : Frame) (locals stack : List Value)
    → frame_goes_to method.program one other ≡ true → HaveTypes method kinds one.locals locals → IsStack method kinds one.stack stack
    → HaveTypes method kinds other.locals locals × IsStack method kinds other.stack stack
frame_assigned method chain kinds one other locals stack goes have is =
    let parts = and_parts _ _ (and_parts _ _ goes).0 in
    (all_assigned method chain kinds one.locals other.locals locals parts.0 have, stack_assigned method chain kinds one.stack other.stack stack parts.1 is)

-- with the local variables alone, where the stack is lost
locals_assigned : (method : Within) → KindsChain method.program → (kinds : Kinds) (one other : Frame) (locals : List Value)
    → frame_goes_to method.program one other ≡ true → HaveTypes method kinds one.locals locals → HaveTypes method kinds other.locals locals
locals_assigned method chain kinds one other locals goes have =
    let parts = and_parts _ _ (and_parts _ _ goes).0 in all_assigned method chain kinds one.locals other.locals locals parts.0 have
