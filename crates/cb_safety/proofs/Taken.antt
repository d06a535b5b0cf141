-- What is taken off a stack that is typed.
use Rattle.std.proofs.Common.{◌≡◌, ◌∙◌, ap, sym, refl, subst, subst₂, arith, ℕ, ◌+◌, Bool, true, false, List, [], ◌∷◌, ◌++◌, length, map, Option, Some, None, option_map}
use Rattle.std.specs.Cmp.Lexicographic.{pointwise}
use Rattle.std.proofs.lemmas.Bool.{and_from, false≢true}
use Rattle.std.proofs.lemmas.List.{map-append}
use Rattle.std.proofs.lemmas.Option.{same_Some, some_pair_parts}
use Rattle.cb_kinds.specs.declared.basic.Basic.{Basic}
use Rattle.cb_kinds.specs.declared.basic.Basic.TheVariants as basics
use Rattle.cb_link.specs.Program.{Linked}
use Rattle.cb_machine.specs.Standing.{same_sort, taken as taken_values}
use Rattle.cb_machine.specs.Values.{sort_of, sort_of_basic}
use Rattle.cb_plain.specs.declared.value.Value.{Value}
use Rattle.cb_shapes.specs.declared.sort.Sort.{Sort}
use Rattle.cb_shapes.specs.declared.sort.Sort.TheVariants as sorts
use Rattle.cb_verify.specs.declared.verification_type.VerificationType.{VerificationType}
use Rattle.cb_verify.specs.declared.verification_type.VerificationType.TheVariants.{Top}
use Rattle.cb_verify.specs.Calls.{on_object, popped}
use Rattle.cb_verify.specs.Frames.{height}
use Rattle.cb_verify.specs.Rules.{taken}
use Rattle.cb_verify.specs.Types.{goes_to, is_of, type_of, words}
use Rattle.cb_verify.specs.Within.{Within}
use Rattle.cb_safety.specs.Held.{HasType, HaveTypes, IsStack, words_in}
use Rattle.cb_safety.specs.Kinds.{Kinds}
use Rattle.cb_safety.proofs.Assigned.{KindsChain, assigned, mapped, never, when}

-- a value of a type that is of a sort is of the sort
pub sorted : (method : Within) (kinds : Kinds) (sort : Sort) (type : VerificationType) (value : Value)
    → HasType method kinds type value → is_of sort type ≡ true → same_sort (sort_of value) sort ≡ true
sorted method kinds sorts.Int type value (HasType.AnInt number fits) is = refl
sorted method kinds sorts.Long type value (HasType.ALong number fits) is = refl
sorted method kinds sorts.Reference type value HasType.ItsNull is = refl
sorted method kinds sorts.Reference type value (HasType.AReference kind serial refers) is = refl
sorted method kinds sorts.Reference type value (HasType.ItsThis serial own) is = refl
sorted method kinds sorts.Reference type value (HasType.ANew place serial kind made there) is = refl
sorted method kinds sort type value has is = absurd (false≢true is)

no_sort : (sort : Sort) → is_of sort Top ≡ false
no_sort sorts.Int = refl
no_sort sorts.Long = refl
no_sort sorts.Reference = refl

-- and takes as many words as the type
pub sized : (method : Within) (kinds : Kinds) (sort : Sort) (type : VerificationType) (value : Value)
    → HasType method kinds type value → is_of sort type ≡ true → words type ≡ words_in value
sized method kinds sort type value (HasType.Unknown own known) is = absurd (false≢true (sym (no_sort sort) ∙ is))
sized method kinds sort type value has is = refl

-- values that were taken by their sorts, and the types of these and of the rest
pub record Taken (method : Within) (kinds : Kinds) (asked : List Sort) (stack : List Value) (types rest : List VerificationType) : Type 0 where
  pub values : List Value
  pub left : List Value
  pub taken : taken_values asked stack ≡ Some (values, left)
  pub held : HaveTypes method kinds types values
  pub below : IsStack method kinds rest left

taken_none : (method : Within) (kinds : Kinds) (types : List VerificationType) (stack : List Value) → IsStack method kinds types stack → Taken method kinds [] stack [] types
taken_none method kinds types stack is = record { values = []; left = stack; taken = refl; held = HaveTypes.NoMore; below = is }

taken_one : (method : Within) (kinds : Kinds) (sort : Sort) (asked : List Sort) (type : VerificationType) (value : Value) (stack : List Value) (types rest : List VerificationType)
    → same_sort (sort_of value) sort ≡ true → HasType method kinds type value → Taken method kinds asked stack types rest
    → Taken method kinds (sort ∷ asked) (value ∷ stack) (type ∷ types) rest
taken_one method kinds sort asked type value stack types rest same has more =
    record { values = value ∷ more.values; left = more.left; taken = rw (same, more.taken) refl; held = HaveTypes.And type value types more.values has more.held; below = more.below }

-- by sorts
abbrev with_first : VerificationType → List VerificationType × List VerificationType → List VerificationType × List VerificationType
with_first type more = (type ∷ more.0, more.1)

first_taken : (method : Within) (kinds : Kinds) (sort : Sort) (asked : List Sort) (type : VerificationType) (value : Value) (stack : List Value) (held rest : List VerificationType)
    → same_sort (sort_of value) sort ≡ true → HasType method kinds type value → (found : Option (List VerificationType × List VerificationType))
    → ((types more : List VerificationType) → found ≡ Some (types, more) → Taken method kinds asked stack types more)
    → option_map (with_first type) found ≡ Some (held, rest) → Taken method kinds (sort ∷ asked) (value ∷ stack) held rest
first_taken method kinds sort asked type value stack held rest same has None follows is = never is
first_taken method kinds sort asked type value stack held rest same has (Some found) follows is =
    let parts = some_pair_parts (type ∷ found.0) held found.1 rest is in
    subst₂ (λ (types more : List VerificationType). Taken method kinds (sort ∷ asked) (value ∷ stack) types more) parts.0 parts.1
    (taken_one method kinds sort asked type value stack found.0 found.1 same has (follows found.0 found.1 refl))

pub taken_typed : (method : Within) (kinds : Kinds) (asked : List Sort) (types : List VerificationType) (stack : List Value) (held rest : List VerificationType)
    → IsStack method kinds types stack → taken asked types ≡ Some (held, rest) → Taken method kinds asked stack held rest
taken_typed method kinds [] types stack held rest is some =
    let parts = some_pair_parts [] held types rest some in
    subst₂ (λ (own more : List VerificationType). Taken method kinds [] stack own more) parts.0 parts.1 (taken_none method kinds types stack is)
taken_typed method kinds (sort ∷ asked) types stack held rest IsStack.Empty some = never some
taken_typed method kinds (sort ∷ asked) types stack held rest (IsStack.Upon type value others below has words is) some =
    let both = when (is_of sort type) (option_map (with_first type) (taken asked others)) (held, rest) some in
    first_taken method kinds sort asked type value below held rest (sorted method kinds sort type value has both.0) has (taken asked others)
    (λ own more so. taken_typed method kinds asked others below own more is so) both.1
taken_typed method kinds (sort ∷ asked) types stack held rest (IsStack.Halves number others below is) some =
    absurd (false≢true (sym (no_sort sort) ∙ (when (is_of sort Top) (option_map (with_first Top) (taken asked (Top ∷ others))) (held, rest) some).0))

-- the types are of the sorts
pub taken_sorted : (asked : List Sort) (types held rest : List VerificationType) → taken asked types ≡ Some (held, rest) → pointwise is_of asked held ≡ true
taken_sorted [] types held rest some = subst (λ (own : List VerificationType). pointwise is_of [] own ≡ true) (some_pair_parts [] held types rest some).0 refl
taken_sorted (sort ∷ asked) [] held rest some = never some
taken_sorted (sort ∷ asked) (type ∷ types) held rest some =
    let both = when (is_of sort type) (option_map (with_first type) (taken asked types)) (held, rest) some in
    mapped (with_first type) (taken asked types) (held, rest) both.1
    (λ found is done. subst (λ (own : List VerificationType × List VerificationType). pointwise is_of (sort ∷ asked) own.0 ≡ true) done
    (and_from (is_of sort type) (pointwise is_of asked found.0) both.0 (taken_sorted asked types found.0 found.1 is)))

-- and more behind them
have_append : (method : Within) (kinds : Kinds) (types others : List VerificationType) (held more : List Value)
    → HaveTypes method kinds types held → HaveTypes method kinds others more → HaveTypes method kinds (types ++ others) (held ++ more)
have_append method kinds types others held more HaveTypes.NoMore also = also
have_append method kinds types others held more (HaveTypes.And type value rest values has have) also =
    HaveTypes.And type value (rest ++ others) (values ++ more) has (have_append method kinds rest others values more have also)

taken_parts : {P : Type 0} (sort : Sort) (asked : List Sort) (value : Value) (stack values left : List Value) → taken_values (sort ∷ asked) (value ∷ stack) ≡ Some (values, left)
    → ((more : List Value) → same_sort (sort_of value) sort ≡ true → taken_values asked stack ≡ Some (more, left) → values ≡ value ∷ more → P) → P
taken_parts {P} sort asked value stack values left is follows = by (same_sort (sort_of value) sort) refl (taken_values asked stack) refl
  where
    by : (test : Bool) → same_sort (sort_of value) sort ≡ test → (found : Option (List Value × List Value)) → taken_values asked stack ≡ found → P
    by true same None none = never (rw (same, none) at is)
    by true same (Some found) some =
        let parts = some_pair_parts (value ∷ found.0) values found.1 left (rw (same, some) at is) in
        follows found.0 same (subst (λ (own : List Value). taken_values asked stack ≡ Some (found.0, own)) parts.1 some) (sym parts.0)
    by false same found some = never (rw same at is)

taken_then : (asked more : List Sort) (stack values left others rest : List Value) → taken_values asked stack ≡ Some (values, left)
    → taken_values more left ≡ Some (others, rest) → taken_values (asked ++ more) stack ≡ Some (values ++ others, rest)
taken_then [] more stack values left others rest one two =
    let parts = some_pair_parts [] values stack left one in
    ap (taken_values more) parts.1 ∙ two ∙ ap {B = Option (List Value × List Value)} (λ (own : List Value). Some (own ++ others, rest)) parts.0
taken_then (sort ∷ asked) more [] values left others rest one two = never one
taken_then (sort ∷ asked) more (value ∷ stack) values left others rest one two =
    taken_parts sort asked value stack values left one
    (λ own same is whole. rw (same, taken_then asked more stack own left others rest is two, whole) refl)

-- as many values as sorts are those on the top
same_taken : (asked : List Sort) (front more held left : List Value) → length front ≡ length asked → taken_values asked (front ++ more) ≡ Some (held, left) → held ≡ front
same_taken [] [] more held left same is = sym (some_pair_parts [] held more left is).0
same_taken [] (value ∷ front) more held left same is = absurd (omega (arith, same))
same_taken (sort ∷ asked) [] more held left same is = absurd (omega (arith, same))
same_taken (sort ∷ asked) (value ∷ front) more held left same is =
    taken_parts sort asked value (front ++ more) held left is
    (λ others sorted took whole.
    whole ∙ ap (λ (values : List Value). value ∷ values) (same_taken asked front more others left (omega (arith, same)) took))

pub taken_front : (method : Within) (kinds : Kinds) (asked : List Sort) (stack : List Value) (types rest : List VerificationType)
    (took : Taken method kinds asked stack types rest) (front more : List Value) → stack ≡ front ++ more → length front ≡ length asked → took.values ≡ front
taken_front method kinds asked stack types rest took front more is same =
    same_taken asked front more took.values took.left same (ap (taken_values asked) (sym is) ∙ took.taken)

pub taken_behind : (method : Within) (kinds : Kinds) (asked more : List Sort) (stack : List Value) (types between behind rest : List VerificationType)
    → Taken method kinds asked stack types between → ((left : List Value) → IsStack method kinds between left → Taken method kinds more left behind rest)
    → Taken method kinds (asked ++ more) stack (types ++ behind) rest
taken_behind method kinds asked more stack types between behind rest one follows =
    let two = follows one.left one.below in
    record {
      values = one.values ++ two.values;
      left = two.left;
      taken = taken_then asked more stack one.values one.left two.values two.left one.taken two.taken;
      held = have_append method kinds types behind one.values two.values one.held two.held;
      below = two.below;
    }

-- by what they are assignable to
basic_is_of : (basic : Basic) → is_of (sort_of_basic basic) (type_of basic) ≡ true
basic_is_of (basics.Reference kind) = refl
basic_is_of basics.Long = refl
basic_is_of other = refl

pub basic_sorted : (method : Within) (kinds : Kinds) (basic : Basic) (value : Value) → HasType method kinds (type_of basic) value → same_sort (sort_of value) (sort_of_basic basic) ≡ true
basic_sorted method kinds basic value has = sorted method kinds (sort_of_basic basic) (type_of basic) value has (basic_is_of basic)

pub basic_sized : (method : Within) (kinds : Kinds) (basic : Basic) (value : Value) → HasType method kinds (type_of basic) value → words (type_of basic) ≡ words_in value
basic_sized method kinds basic value has = sized method kinds (sort_of_basic basic) (type_of basic) value has (basic_is_of basic)

pub no_basic : (program : Linked) (basic : Basic) → goes_to program Top (type_of basic) ≡ false
no_basic program (basics.Reference kind) = refl
no_basic program basics.Long = refl
no_basic program other = refl

pub popped_typed : (method : Within) → KindsChain method.program → (kinds : Kinds) (wanted : List Basic) (types : List VerificationType) (stack : List Value) (rest : List VerificationType)
    → IsStack method kinds types stack → popped method.program (map type_of wanted) types ≡ Some rest
    → Taken method kinds (map sort_of_basic wanted) stack (map type_of wanted) rest
popped_typed method chain kinds [] types stack rest is some =
    subst (λ (more : List VerificationType). Taken method kinds [] stack [] more) (same_Some types rest some) (taken_none method kinds types stack is)
popped_typed method chain kinds (basic ∷ wanted) types stack rest IsStack.Empty some = never some
popped_typed method chain kinds (basic ∷ wanted) types stack rest (IsStack.Upon type value others below has words is) some =
    let both = when (goes_to method.program type (type_of basic)) (popped method.program (map type_of wanted) others) rest some in
    let own : HasType method kinds (type_of basic) value = assigned method chain kinds type (type_of basic) value both.0 has in
    taken_one method kinds (sort_of_basic basic) (map sort_of_basic wanted) (type_of basic) value below (map type_of wanted) rest
    (basic_sorted method kinds basic value own) own (popped_typed method chain kinds wanted others below rest is both.1)
popped_typed method chain kinds (basic ∷ wanted) types stack rest (IsStack.Halves number others below is) some =
    absurd (false≢true (sym (no_basic method.program basic)
    ∙ (when (goes_to method.program Top (type_of basic)) (popped method.program (map type_of wanted) (Top ∷ others)) rest some).0))

-- with an object behind them
pub popped_on_typed : (method : Within) → KindsChain method.program → (kinds : Kinds) (wanted : List Basic) (kind : ℕ) (types : List VerificationType) (stack : List Value) (rest : List VerificationType)
    → IsStack method kinds types stack → popped method.program (on_object (map type_of wanted) kind) types ≡ Some rest
    → Taken method kinds (map sort_of_basic wanted ++ sorts.Reference ∷ []) stack (on_object (map type_of wanted) kind) rest
popped_on_typed method chain kinds wanted kind types stack rest is some =
    subst₂ (λ (asked : List Sort) (held : List VerificationType). Taken method kinds asked stack held rest)
    (map-append sort_of_basic wanted (basics.Reference kind ∷ [])) (map-append type_of wanted (basics.Reference kind ∷ []))
    (popped_typed method chain kinds (wanted ++ basics.Reference kind ∷ []) types stack rest is
    (subst (λ (held : List VerificationType). popped method.program held types ≡ Some rest) (sym (map-append type_of wanted (basics.Reference kind ∷ []))) some))

-- the words of a stack
abbrev pub words_on : List Value → ℕ
words_on [] = 0
words_on (value ∷ stack) = words_in value + words_on stack

pub stack_height : (method : Within) (kinds : Kinds) (types : List VerificationType) (stack : List Value) → IsStack method kinds types stack → words_on stack ≡ height types
stack_height method kinds types stack IsStack.Empty = refl
stack_height method kinds types stack (IsStack.Upon type value others below has same is) = omega (arith, same, stack_height method kinds others below is)
stack_height method kinds types stack (IsStack.Halves number others below is) = omega (arith, stack_height method kinds others below is)
