-- An exception of the machine that keeps another one as its cause (JVMS §5.5).
use Rattle.std.proofs.Common.{◌≡◌, ◌∙◌, arith, refl, sym, subst, ℕ, zero, suc, ◌+◌, ◌<◌, true, [], ◌∷◌, ◌++◌, length, Some}
use Rattle.std.proofs.lemmas.Option.{none-some}
use Rattle.cb_kinds.specs.Basics.{is_reference}
use Rattle.cb_kinds.specs.declared.basic.Basic.{Basic}
use Rattle.cb_kinds.specs.declared.basic.Basic.TheVariants as basics
use Rattle.cb_link.specs.Program.{Linked}
use Rattle.cb_link.specs.Slots.{field_basic}
use Rattle.cb_machine.specs.Machine.{Machine, kind_of_site}
use Rattle.cb_machine.specs.Plans.{leaving, made, object_of}
use Rattle.cb_machine.specs.Sites as sites
use Rattle.cb_machine.specs.Throwing.{exception_contents, throwing_with}
use Rattle.cb_plain.specs.State.{Object, Reference, State}
use Rattle.cb_verify.specs.Within.{kind_of_throwable}
use Rattle.cb_safety.specs.Causes.{KeepsCause}
use Rattle.cb_safety.specs.Frames.{AreCovered}
use Rattle.cb_safety.specs.Heap.{Holds, IsObject}
use Rattle.cb_safety.specs.Held.{HasContent}
use Rattle.cb_safety.specs.Kinds.{IsKnown, IsOfKind, Kinds, Refers, kinds_of}
use Rattle.cb_safety.specs.States.{AreFrames, AreRoots, IsTypedState}
use Rattle.cb_safety.specs.Throwing.{IsThrown}
use Rattle.cb_safety.proofs.Extended.{are_covered_more, are_statics_more, are_tables_more, is_of_kind_more, refers_more}
use Rattle.cb_safety.proofs.Growing.{heap_grown, kind_behind, kinds_grown, kinds_placed}
use Rattle.cb_safety.proofs.Throwing.{frames_covered, kind_low, null_fits}

-- ---- the new object

kept_at : (program : Linked) (kinds : Kinds) (cause slot : ℕ) (basic : Basic) → IsOfKind program kinds kind_of_throwable cause → slot < 3 → is_reference basic ≡ true
    → (slot ≡ 1 → basic ≡ basics.Reference kind_of_throwable) → Holds program kinds (exception_contents 0 cause) slot basic
kept_at program kinds cause zero basic is low reference second = record { content = Reference 0; there = refl; fits = null_fits program kinds basic reference }
kept_at program kinds cause (suc zero) basic is low reference second = record {
  content = Reference cause;
  there = refl;
  fits = subst (λ (basic : Basic). HasContent program kinds basic (Reference cause)) (sym (second refl))
      (HasContent.AReference kind_of_throwable cause (Refers.To cause is));
}
kept_at program kinds cause (suc (suc zero)) basic is low reference second = record { content = Reference 0; there = refl; fits = null_fits program kinds basic reference }
kept_at program kinds cause (suc (suc (suc slot))) basic is low reference second = absurd (omega (arith, low))

wrapped_object : (program : Linked) (kinds : Kinds) (cause : ℕ) → IsThrown program (kind_of_site program sites.exception_in_initializer) → KeepsCause program
    → IsOfKind program kinds kind_of_throwable cause
    → IsObject program kinds (object_of sites.exception_in_initializer (kind_of_site program sites.exception_in_initializer) (exception_contents 0 cause))
wrapped_object program kinds cause thrown keeps is = record {
  kind = kind_low program (kind_of_site program sites.exception_in_initializer) kind_of_throwable thrown.throwable;
  site = thrown.sited sites.exception_in_initializer refl;
  sized = thrown.sized;
  fields = λ class slot basic own declared.
      let (low, reference) = thrown.fields class slot basic own declared in
      kept_at program kinds cause slot basic is low reference
      (λ second. keeps class basic own (subst (λ (slot : ℕ). field_basic program class slot ≡ Some basic) second declared));
  elements = λ basic place own low. absurd (none-some basic (sym thrown.no_elements ∙ own));
  few = λ basic own. absurd (none-some basic (sym thrown.no_elements ∙ own));
  words = (IsKnown.Null, (IsKnown.AnObject cause is.own is.there, (IsKnown.Null, tt)));
}

-- ---- the state

pub wraps_typed : (machine : Machine) (state : State) (cause : ℕ) → IsTypedState machine.program state
    → IsThrown machine.program (kind_of_site machine.program sites.exception_in_initializer) → KeepsCause machine.program
    → IsOfKind machine.program (kinds_of state.objects) kind_of_throwable cause
    → IsTypedState machine.program (made (throwing_with machine sites.exception_in_initializer 0 cause (leaving state)))
wraps_typed machine state cause typed thrown keeps is = record {
  heap = heap_grown machine.program state.objects (new ∷ []) typed.heap
      (wrapped_object machine.program grown cause thrown keeps (is_of_kind_more machine.program kinds (kinds_placed (new ∷ [])) kind_of_throwable cause is), tt);
  roots = subst (λ (kinds : Kinds). AreRoots machine.program kinds (made (throwing_with machine sites.exception_in_initializer 0 cause (leaving state))).roots)
      (sym (kinds_grown state.objects (new ∷ []))) rooted;
  input = typed.input;
}
  where
    own : ℕ
    own = kind_of_site machine.program sites.exception_in_initializer

    new : Object
    new = object_of sites.exception_in_initializer own (exception_contents 0 cause)

    kinds : Kinds
    kinds = kinds_of state.objects

    grown : Kinds
    grown = kinds ++ kinds_placed (new ∷ [])

    covered : AreCovered machine.program grown state.roots.frames
    covered = are_covered_more machine.program kinds (kinds_placed (new ∷ [])) state.roots.frames
        (frames_covered machine.program kinds state.roots.pending state.roots.frames typed.roots.frames)

    is_thrown : IsOfKind machine.program grown kind_of_throwable (length state.objects + 1)
    is_thrown = record { own = own; there = kind_behind state.objects own []; goes = thrown.throwable }

    rooted : AreRoots machine.program grown (made (throwing_with machine sites.exception_in_initializer 0 cause (leaving state))).roots
    rooted = record {
      frames = AreFrames.Unwinding (length state.objects + 1) state.roots.frames is_thrown covered;
      statics = are_statics_more machine.program kinds (kinds_placed (new ∷ [])) state.roots.statics typed.roots.statics;
      classes = typed.roots.classes;
      tables = are_tables_more machine.program kinds (kinds_placed (new ∷ [])) state.roots.tables typed.roots.tables;
      argument = refers_more machine.program kinds (kinds_placed (new ∷ [])) (kind_of_site machine.program sites.arguments) state.roots.argument typed.roots.argument;
    }
