-- What a division by zero throws: an exception with a message, a string that is placed first.
use Rattle.std.proofs.Common.{◌≡◌, ◌∙◌, ap, arith, refl, sym, subst, ℕ, zero, suc, ◌<◌, true, List, [], ◌∷◌, ◌++◌, Option, Some}
use Rattle.std.proofs.lemmas.Option.{none-some}
use Rattle.cb_kinds.specs.Basics.{is_reference}
use Rattle.cb_kinds.specs.declared.basic.Basic.{Basic}
use Rattle.cb_kinds.specs.declared.basic.Basic.TheVariants as basics
use Rattle.cb_link.specs.Program.{Linked}
use Rattle.cb_link.specs.Slots.{field_basic}
use Rattle.cb_machine.specs.Computing.{divide_message, throws_by_zero}
use Rattle.cb_machine.specs.Machine.{Machine, kind_of_site}
use Rattle.cb_machine.specs.Plans.{Plan, leaving, made, object_of, with_one}
use Rattle.cb_machine.specs.Sites as sites
use Rattle.cb_machine.specs.Strings.{Placed, constant_string}
use Rattle.cb_machine.specs.Throwing.{exception_contents, throwing_with}
use Rattle.cb_plain.specs.State.{Object, Reference, State}
use Rattle.cb_verify.specs.Within.{kind_of_string, kind_of_throwable}
use Rattle.cb_safety.specs.Constants.{HasMessage, TakesMessage}
use Rattle.cb_safety.specs.Heap.{Holds, IsObject}
use Rattle.cb_safety.specs.Held.{HasContent}
use Rattle.cb_safety.specs.Kinds.{IsKnown, IsOfKind, Kinds, Refers, kind_in, kinds_of}
use Rattle.cb_safety.specs.States.{AreFrames, IsTypedState}
use Rattle.cb_safety.specs.Strings.{HasConstants}
use Rattle.cb_safety.specs.Throwing.{AreThrown, IsThrown}
use Rattle.cb_safety.proofs.Known.{referred_known}
use Rattle.cb_safety.proofs.Begun.{constant_made}
use Rattle.cb_safety.proofs.Extended.{refers_more}
use Rattle.cb_safety.proofs.Grown.{good_one, one_put}
use Rattle.cb_safety.proofs.Growing.{kind_behind, kinds_grown}
use Rattle.cb_safety.proofs.StringsMade.{HasString, IsGood, objects_in}
use Rattle.cb_safety.proofs.Throwing.{frames_covered, kind_low, null_fits}

-- ---- an exception with a message

module _ (program : Linked) (kinds : Kinds) (kind message : ℕ) (thrown : IsThrown program kind) (takes : TakesMessage program kind) (refers : Refers program kinds kind_of_string message) where
  field_holds : (class slot : ℕ) (basic : Basic) → (slot < 3) × (is_reference basic ≡ true) → (slot ≡ 0 → basic ≡ basics.Reference kind_of_string)
      → Holds program kinds (exception_contents message 0) slot basic
  field_holds class zero basic is first = record {
    content = Reference message;
    there = refl;
    fits = subst (λ (basic : Basic). HasContent program kinds basic (Reference message)) (sym (first refl)) (HasContent.AReference kind_of_string message refers);
  }
  field_holds class (suc zero) basic is first = record { content = Reference 0; there = refl; fits = null_fits program kinds basic is.1 }
  field_holds class (suc (suc zero)) basic is first = record { content = Reference 0; there = refl; fits = null_fits program kinds basic is.1 }
  field_holds class (suc (suc (suc slot))) basic is first = let low = is.0 in absurd (omega (arith, low))

  told_is : (site : ℕ) → kind_of_site program site ≡ kind → IsObject program kinds (object_of site kind (exception_contents message 0))
  told_is site own = record {
    kind = kind_low program kind kind_of_throwable thrown.throwable;
    site = thrown.sited site own;
    sized = thrown.sized;
    fields = λ class slot basic own declared.
        field_holds class slot basic (thrown.fields class slot basic own declared)
        (λ first. takes class basic own (ap (field_basic program class) (sym first) ∙ declared));
    elements = λ basic place own low. absurd (none-some basic (sym thrown.no_elements ∙ own));
    few = λ basic own. absurd (none-some basic (sym thrown.no_elements ∙ own));
    words = (referred_known program kinds kind_of_string message refers, (IsKnown.Null, (IsKnown.Null, tt)));
  }

-- it becomes pending
told_typed : (machine : Machine) (site message : ℕ) (plan : Plan) → IsGood machine.program plan → IsThrown machine.program (kind_of_site machine.program site)
    → TakesMessage machine.program (kind_of_site machine.program site) → Refers machine.program (kinds_of (objects_in plan)) kind_of_string message
    → IsTypedState machine.program (made (throwing_with machine site message 0 plan))
told_typed machine site message plan good thrown takes refers =
    record {
      heap = more.typed.heap;
      roots = record {
        frames = AreFrames.Unwinding plan.next plan.left.roots.frames is
            (frames_covered machine.program kinds plan.left.roots.pending plan.left.roots.frames more.typed.roots.frames);
        statics = more.typed.roots.statics;
        classes = more.typed.roots.classes;
        tables = more.typed.roots.tables;
        argument = more.typed.roots.argument;
      };
      input = more.typed.input;
    }
  where
    own : ℕ
    own = kind_of_site machine.program site

    further : Plan
    further = with_one plan site own (exception_contents message 0)

    kinds : Kinds
    kinds = kinds_of (objects_in further)

    grown : Kinds
    grown = kinds_of (objects_in plan) ++ Some own ∷ []

    more : IsGood machine.program further
    more = good_one machine.program plan site own (exception_contents message 0) good
        (told_is machine.program grown own message thrown takes
        (refers_more machine.program (kinds_of (objects_in plan)) (Some own ∷ []) kind_of_string message refers) site refl)

    is : IsOfKind machine.program kinds kind_of_throwable plan.next
    is = record {
      own = own;
      there = ap (λ (objects : List (Option Object)). kind_in (kinds_of objects) plan.next) (one_put plan site own (exception_contents message 0))
          ∙ ap (λ (kinds : Kinds). kind_in kinds plan.next) (kinds_grown (objects_in plan) (object_of site own (exception_contents message 0) ∷ []))
          ∙ ap (kind_in grown) good.next ∙ kind_behind (objects_in plan) own [];
      goes = thrown.throwable;
    }

pub division_typed : (machine : Machine) (state : State) → HasConstants machine.program → HasMessage machine.program → AreThrown machine.program
    → IsTypedState machine.program state → IsTypedState machine.program (made (throws_by_zero machine state))
division_typed machine state constants takes thrown typed =
    let placed : Placed = constant_string machine divide_message (leaving state) in
    let string : HasString machine.program placed = constant_made machine constants divide_message (leaving state) (record { typed = typed; next = refl }) in
    told_typed machine sites.arithmetic placed.serial placed.plan string.good (thrown sites.arithmetic (1, omega arith, refl)) takes (Refers.To placed.serial string.is)
