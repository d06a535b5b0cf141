-- What instructions that ask for the class of an object leave is what the step leaves.
use Rattle.std.proofs.Common.{◌≡◌, ◌∙◌, ap, refl, sym, ℕ, Bool, true, false, List, [], ◌∷◌, Option, Some, None, zero, suc}
use Rattle.std.specs.Prelude.{option_and_then}
use Rattle.cb_kinds.specs.declared.basic.Basic.{Basic}
use Rattle.cb_kinds.specs.declared.basic.Basic.TheVariants as basics
use Rattle.cb_link.specs.Subtypes.{instance}
use Rattle.cb_link.specs.declared.named.Named.TheVariants as meanings
use Rattle.cb_machine.specs.Arrays.{fits_element}
use Rattle.cb_machine.specs.Standing.{Now, named_here, taken}
use Rattle.cb_machine.specs.Testing.{asks_kind, casts, int_of, throws_object}
use Rattle.cb_plain.specs.State.{Object}
use Rattle.cb_plain.specs.Updates.{object_at}
use Rattle.cb_plain.specs.declared.value.Value.{Value}
use Rattle.cb_plain.specs.declared.value.Value.TheVariants as values
use Rattle.cb_shapes.specs.declared.sort.Sort.TheVariants as sorts
use Rattle.cb_act.specs.Classes.{behind_cast, behind_instance, behind_throw, cast, fits_serial, pended, told_kind}
use Rattle.cb_act.specs.Steps.{StandsBefore, left_to, pends_to, view_of}
use Rattle.cb_act.proofs.Leaving.{stack_is}
use Rattle.cb_act.proofs.ObjectSteps.{left_so}

module _ (now : Now) (pc : ℕ) (stands : StandsBefore now pc) where
  -- checkcast
  pub casts_so : (kind : ℕ) → named_here now ≡ meanings.Kind kind → casts now ≡ left_to now pc (behind_cast now.machine.program kind (view_of now.state))
  casts_so kind names =
      go (taken (sorts.Reference ∷ []) now.frame.stack) refl
      ∙ ap (λ stack. left_to now pc (option_and_then (cast now.machine.program kind (view_of now.state)) (taken (sorts.Reference ∷ []) stack))) (sym (stack_is now pc stands)) where
        of_kind : (place : ℕ) (rest : List Value) → taken (sorts.Reference ∷ []) now.frame.stack ≡ Some (values.Ref (suc place) ∷ [], rest)
            → (object : Object) → object_at now.state (suc place) ≡ Some object → (is : Bool) → instance now.machine.program object.kind kind ≡ is
            → casts now ≡ left_to now pc (option_and_then (cast now.machine.program kind (view_of now.state)) (taken (sorts.Reference ∷ []) now.frame.stack))
        of_kind place rest held object there true is = rw (names, held, there, is) (left_so now pc stands now.state.objects (values.Ref (suc place) ∷ rest))
        of_kind place rest held object there false is = rw (names, held, there, is) refl

        of_object : (place : ℕ) (rest : List Value) → taken (sorts.Reference ∷ []) now.frame.stack ≡ Some (values.Ref (suc place) ∷ [], rest)
            → (object : Option Object) → object_at now.state (suc place) ≡ object
            → casts now ≡ left_to now pc (option_and_then (cast now.machine.program kind (view_of now.state)) (taken (sorts.Reference ∷ []) now.frame.stack))
        of_object place rest held None there = rw (names, held, there) refl
        of_object place rest held (Some object) there = of_kind place rest held object there (instance now.machine.program object.kind kind) refl

        go : (found : Option (List Value × List Value)) → taken (sorts.Reference ∷ []) now.frame.stack ≡ found
            → casts now ≡ left_to now pc (option_and_then (cast now.machine.program kind (view_of now.state)) (taken (sorts.Reference ∷ []) now.frame.stack))
        go None held = rw (names, held) refl
        go (Some ([], rest)) held = rw (names, held) refl
        go (Some (values.Int n ∷ others, rest)) held = rw (names, held) refl
        go (Some (values.Long n ∷ others, rest)) held = rw (names, held) refl
        go (Some (values.Ref zero ∷ other ∷ others, rest)) held = rw (names, held) refl
        go (Some (values.Ref (suc place) ∷ other ∷ others, rest)) held = rw (names, held) refl
        go (Some (values.Ref zero ∷ [], rest)) held = rw (names, held) (left_so now pc stands now.state.objects (values.Ref 0 ∷ rest))
        go (Some (values.Ref (suc place) ∷ [], rest)) held = of_object place rest held (object_at now.state (suc place)) refl

  -- instanceof
  pub asks_so : (kind : ℕ) → named_here now ≡ meanings.Kind kind → asks_kind now ≡ left_to now pc (behind_instance now.machine.program kind (view_of now.state))
  asks_so kind names =
      go (taken (sorts.Reference ∷ []) now.frame.stack) refl
      ∙ ap (λ stack. left_to now pc (option_and_then (told_kind now.machine.program kind (view_of now.state)) (taken (sorts.Reference ∷ []) stack))) (sym (stack_is now pc stands)) where
        of_object : (place : ℕ) (rest : List Value) → taken (sorts.Reference ∷ []) now.frame.stack ≡ Some (values.Ref (suc place) ∷ [], rest)
            → (object : Option Object) → object_at now.state (suc place) ≡ object
            → asks_kind now ≡ left_to now pc (option_and_then (told_kind now.machine.program kind (view_of now.state)) (taken (sorts.Reference ∷ []) now.frame.stack))
        of_object place rest held None there = rw (names, held, there) refl
        of_object place rest held (Some object) there =
            rw (names, held, there) (left_so now pc stands now.state.objects (int_of (instance now.machine.program object.kind kind) ∷ rest))

        go : (found : Option (List Value × List Value)) → taken (sorts.Reference ∷ []) now.frame.stack ≡ found
            → asks_kind now ≡ left_to now pc (option_and_then (told_kind now.machine.program kind (view_of now.state)) (taken (sorts.Reference ∷ []) now.frame.stack))
        go None held = rw (names, held) refl
        go (Some ([], rest)) held = rw (names, held) refl
        go (Some (values.Int n ∷ others, rest)) held = rw (names, held) refl
        go (Some (values.Long n ∷ others, rest)) held = rw (names, held) refl
        go (Some (values.Ref object ∷ other ∷ others, rest)) held = rw (names, held) refl
        go (Some (values.Ref zero ∷ [], rest)) held = rw (names, held) (left_so now pc stands now.state.objects (int_of false ∷ rest))
        go (Some (values.Ref (suc place) ∷ [], rest)) held = of_object place rest held (object_at now.state (suc place)) refl

  -- athrow
  pub throws_so : throws_object now ≡ pends_to now (behind_throw (view_of now.state))
  throws_so =
      go (taken (sorts.Reference ∷ []) now.frame.stack) refl
      ∙ ap (λ stack. pends_to now (option_and_then (pended (view_of now.state)) (taken (sorts.Reference ∷ []) stack))) (sym (stack_is now pc stands)) where
        of_object : (place : ℕ) (rest : List Value) → taken (sorts.Reference ∷ []) now.frame.stack ≡ Some (values.Ref (suc place) ∷ [], rest)
            → (object : Option Object) → object_at now.state (suc place) ≡ object
            → throws_object now ≡ pends_to now (option_and_then (pended (view_of now.state)) (taken (sorts.Reference ∷ []) now.frame.stack))
        of_object place rest held None there = rw (held, there) refl
        of_object place rest held (Some object) there = rw (held, there) refl

        go : (found : Option (List Value × List Value)) → taken (sorts.Reference ∷ []) now.frame.stack ≡ found
            → throws_object now ≡ pends_to now (option_and_then (pended (view_of now.state)) (taken (sorts.Reference ∷ []) now.frame.stack))
        go None held = rw held refl
        go (Some ([], rest)) held = rw held refl
        go (Some (values.Int n ∷ others, rest)) held = rw held refl
        go (Some (values.Long n ∷ others, rest)) held = rw held refl
        go (Some (values.Ref object ∷ other ∷ others, rest)) held = rw held refl
        go (Some (values.Ref zero ∷ [], rest)) held = rw held refl
        go (Some (values.Ref (suc place) ∷ [], rest)) held = of_object place rest held (object_at now.state (suc place)) refl

-- whether a reference fits elements
pub fits_so : (now : Now) (element : Option Basic) (value : ℕ) → fits_element now element value ≡ fits_serial now.machine.program now.state.objects element value
fits_so now element zero = refl
fits_so now None (suc place) = refl
fits_so now (Some basics.Boolean) (suc place) = refl
fits_so now (Some basics.Byte) (suc place) = refl
fits_so now (Some basics.Char) (suc place) = refl
fits_so now (Some basics.Short) (suc place) = refl
fits_so now (Some basics.Int) (suc place) = refl
fits_so now (Some basics.Long) (suc place) = refl
fits_so now (Some (basics.Reference kind)) (suc place) = refl
