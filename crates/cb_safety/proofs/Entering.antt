-- The frame of a method that is entered stands at its first instruction.
use Rattle.std.proofs.Common.{◌≡◌, ◌∙◌, ap, refl, sym, subst, subst₂, ℕ, zero, suc, ◌+◌, ◌-◌, pos, Bool, true, false, List, [], ◌∷◌, ◌++◌, length, map, replicate, reverse, Option, Some, None, nat_le, ◌&&◌, if◌then◌else◌}
use Rattle.std.specs.Prelude.{is_some}
use Rattle.std.specs.List.{AllByRecursion, flat_map}
use Rattle.std.proofs.lemmas.Bool.{false≢true}
use Rattle.std.proofs.lemmas.List.{map-append, reverse-append}
use Rattle.std.proofs.lemmas.Option.{same_Some}
use Rattle.cb_kinds.specs.declared.basic.Basic.{Basic}
use Rattle.cb_kinds.specs.declared.basic.Basic.TheVariants as basics
use Rattle.cb_link.specs.Program.{Linked}
use Rattle.cb_plain.specs.Depth.{locals_of, slots_of}
use Rattle.cb_plain.specs.State.{MethodFrame}
use Rattle.cb_plain.specs.declared.value.Value.{Value}
use Rattle.cb_plain.specs.declared.value.Value.TheVariants as values
use Rattle.cb_verify.specs.declared.verification_type.VerificationType.{VerificationType}
use Rattle.cb_verify.specs.declared.verification_type.VerificationType.TheVariants.{Long, Top}
use Rattle.cb_verify.specs.Expansion.{frame_of, start, start_types}
use Rattle.cb_verify.specs.Frames as verified
use Rattle.cb_verify.specs.Types.{type_of}
use Rattle.cb_verify.specs.Within.{Within, result_of, within}
use Rattle.cb_safety.specs.Advancing.{HoldsOn}
use Rattle.cb_safety.specs.Beginning.{Begins}
use Rattle.cb_safety.specs.Frames.{Stands}
use Rattle.cb_safety.specs.Held.{HasType, HaveTypes, IsStack}
use Rattle.cb_safety.specs.Kinds.{IsKnown, Kinds}
use Rattle.cb_safety.proofs.Assigned.{mapped, never, when}
use Rattle.cb_safety.proofs.Entries.{within_method}
use Rattle.cb_safety.proofs.Going.{arrived}
use Rattle.cb_safety.proofs.Returning.{basic_elsewhere}
use Rattle.cb_safety.proofs.Variables.{same_length}

-- ---- lists of values and of their types

pub both_have : (method : Within) (kinds : Kinds) (types others : List VerificationType) (held more : List Value)
    → HaveTypes method kinds types held → HaveTypes method kinds others more → HaveTypes method kinds (types ++ others) (held ++ more)
both_have method kinds types others held more HaveTypes.NoMore also = also
both_have method kinds types others held more (HaveTypes.And type value rest values has have) also =
    HaveTypes.And type value (rest ++ others) (values ++ more) has (both_have method kinds rest others values more have also)

pub map_reverse : {Item Other : Type 0} (change : Item → Other) (items : List Item) → map change (reverse items) ≡ reverse (map change items)
map_reverse change [] = refl
map_reverse {Item} {Other} change (item ∷ items) =
    ap (map change) (reverse-append (item ∷ []) items)
    ∙ map-append change (reverse items) (item ∷ [])
    ∙ ap (λ (others : List Other). others ++ change item ∷ []) (map_reverse change items)
    ∙ sym (reverse-append (change item ∷ []) (map change items))

pub have_reversed : (method : Within) (kinds : Kinds) (types : List VerificationType) (held : List Value) → HaveTypes method kinds types held
    → HaveTypes method kinds (reverse types) (reverse held)
have_reversed method kinds types held HaveTypes.NoMore = HaveTypes.NoMore
have_reversed method kinds types held (HaveTypes.And type value others rest has have) =
    subst₂ (λ (types : List VerificationType) (held : List Value). HaveTypes method kinds types held)
    (sym (reverse-append (type ∷ []) others)) (sym (reverse-append (value ∷ []) rest))
    (both_have method kinds (reverse others) (type ∷ []) (reverse rest) (value ∷ []) (have_reversed method kinds others rest have)
    (HaveTypes.And type value [] [] has HaveTypes.NoMore))

pub basics_elsewhere : (one other : Within) (kinds : Kinds) (wanted : List Basic) (held : List Value) → one.program ≡ other.program
    → HaveTypes one kinds (map type_of wanted) held → HaveTypes other kinds (map type_of wanted) held
basics_elsewhere one other kinds [] held same HaveTypes.NoMore = HaveTypes.NoMore
basics_elsewhere one other kinds (basic ∷ wanted) held same (HaveTypes.And type value others rest has have) =
    HaveTypes.And (type_of basic) value (map type_of wanted) rest (basic_elsewhere one other kinds basic value same has)
    (basics_elsewhere one other kinds wanted rest same have)

-- ---- values in the slots of local variables

abbrev pub is_told : VerificationType → Bool
is_told Top = false
is_told other = true

abbrev pub AreTold : List VerificationType → Type 0
AreTold types = AllByRecursion (λ type. is_told type ≡ true) types

basic_told : (basic : Basic) → is_told (type_of basic) ≡ true
basic_told (basics.Reference kind) = refl
basic_told basics.Long = refl
basic_told other = refl

pub basics_told : (wanted : List Basic) → AreTold (map type_of wanted)
basics_told [] = tt
basics_told (basic ∷ wanted) = (basic_told basic, basics_told wanted)

one_laid : (method : Within) (kinds : Kinds) (type : VerificationType) (value : Value) → HasType method kinds type value → is_told type ≡ true
    → HaveTypes method kinds (verified.in_words type) (slots_of value)
one_laid method kinds type value (HasType.Unknown own known) told = absurd (false≢true told)
one_laid method kinds type value (HasType.ALong number fits) told =
    HaveTypes.And Long (values.Long number) (Top ∷ []) (values.Int (pos 0) ∷ []) (HasType.ALong number fits)
    (HaveTypes.And Top (values.Int (pos 0)) [] [] (HasType.Unknown (values.Int (pos 0)) (IsKnown.AnInt (pos 0))) HaveTypes.NoMore)
one_laid method kinds type value has told = HaveTypes.And _ _ [] [] has HaveTypes.NoMore

all_laid : (method : Within) (kinds : Kinds) (types : List VerificationType) (held : List Value) → HaveTypes method kinds types held → AreTold types
    → HaveTypes method kinds (flat_map verified.in_words types) (flat_map slots_of held)
all_laid method kinds types held HaveTypes.NoMore told = HaveTypes.NoMore
all_laid method kinds types held (HaveTypes.And type value others rest has have) told =
    both_have method kinds (verified.in_words type) (flat_map verified.in_words others) (slots_of value) (flat_map slots_of rest)
    (one_laid method kinds type value has told.0) (all_laid method kinds others rest have told.1)

-- nothing in the others
all_blank : (method : Within) (kinds : Kinds) (count : ℕ) → HaveTypes method kinds (replicate count Top) (replicate count (values.Int (pos 0)))
all_blank method kinds zero = HaveTypes.NoMore
all_blank method kinds (suc count) =
    HaveTypes.And Top (values.Int (pos 0)) (replicate count Top) (replicate count (values.Int (pos 0))) (HasType.Unknown (values.Int (pos 0)) (IsKnown.AnInt (pos 0)))
    (all_blank method kinds count)

laid_typed : (method : Within) (kinds : Kinds) (most : ℕ) (types : List VerificationType) (held : List Value) (locals : List VerificationType)
    → HaveTypes method kinds types held → AreTold types → verified.laid most types ≡ Some locals → HaveTypes method kinds locals (locals_of most held)
laid_typed method kinds most types held locals have told is =
    let front : List VerificationType = flat_map verified.in_words types in
    let slots : List Value = flat_map slots_of held in
    let laid : HaveTypes method kinds front slots = all_laid method kinds types held have told in
    let both = when (nat_le (length front) most) (Some (front ++ replicate (most - length front) Top)) locals is in
    subst (λ (own : List VerificationType). HaveTypes method kinds own (locals_of most held)) (same_Some (front ++ replicate (most - length front) Top) locals both.1)
    (subst (λ (size : ℕ). HaveTypes method kinds (front ++ replicate (most - size) Top) (locals_of most held)) (sym (same_length method kinds front slots laid))
    (both_have method kinds front (replicate (most - length slots) Top) slots (replicate (most - length slots) (values.Int (pos 0))) laid
    (all_blank method kinds (most - length slots))))

-- ---- the frame with which a method begins

pub record Entered (method : Within) (kinds : Kinds) (frame : verified.Frame) (arguments : List Value) : Type 0 where
  pub locals : HaveTypes method kinds frame.locals (locals_of method.body.max_locals arguments)
  pub stack : IsStack method kinds frame.stack []

when_not : {Item : Type 0} (test : Bool) (found : Option Item) (item : Item) → (if test then None else found) ≡ Some item → found ≡ Some item
when_not true found item is = never is
when_not false found item is = is

start_typed : (method : Within) (kinds : Kinds) (frame : verified.Frame) (arguments : List Value) → start method ≡ Some frame
    → HaveTypes method kinds (start_types method) arguments → AreTold (start_types method) → Entered method kinds frame arguments
start_typed method kinds frame arguments is have told =
    mapped begun (verified.laid method.body.max_locals (start_types method)) frame (when (verified.is_legal method.body.max_stack []) _ frame framed).1
    (λ locals laid same. subst (λ (own : verified.Frame). Entered method kinds own arguments) same
    (record { locals = laid_typed method kinds method.body.max_locals (start_types method) arguments locals have told laid; stack = IsStack.Empty }))
  where
    begun : List VerificationType → verified.Frame
    begun locals = record { locals = locals; stack = []; unfinished = verified.has_this (start_types method) }

    framed : frame_of method (start_types method) [] ≡ Some frame
    framed = when_not (method.is_constructor && is_some (result_of method)) (frame_of method (start_types method) []) frame is

-- a method's frame at its entry
abbrev pub entry_of : ℕ → Within → List Value → MethodFrame
entry_of number method arguments = record {
  method = number;
  pc = 0;
  slots = method.body.max_locals + method.body.max_stack;
  locals = locals_of method.body.max_locals arguments;
  stack = [];
}

pub entry_stands : (program : Linked) → HoldsOn program → (kinds : Kinds) (number : ℕ) (method : Within) (arguments : List Value) → within program number ≡ Some method
    → Begins program number method → HaveTypes method kinds (start_types method) arguments → AreTold (start_types method)
    → Stands program kinds (entry_of number method arguments)
entry_stands program holds kinds number method arguments so begins have told = record {
  at = record { method = method; within = so; types = begins.arrives.there; before = begins.arrives.before; slots = refl };
  locals = both.0;
  stack = both.1;
}
  where
    entered : Entered method kinds begins.frame arguments
    entered = start_typed method kinds begins.frame arguments begins.starts have told

    both : HaveTypes method kinds begins.arrives.there.locals (locals_of method.body.max_locals arguments) × IsStack method kinds begins.arrives.there.stack []
    both = arrived program kinds method (within_method program number method so).own holds begins.frame begins.arrives.there (locals_of method.body.max_locals arguments) []
        begins.arrives.goes entered.locals entered.stack
