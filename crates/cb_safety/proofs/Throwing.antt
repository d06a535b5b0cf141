-- An exception of the machine: what was typed stays so, with one object more, which is pending.
use Rattle.std.proofs.Common.{◌≡◌, ◌∙◌, arith, refl, sym, subst, ℕ, zero, suc, ◌+◌, ◌<◌, ◌&&◌, true, List, [], ◌∷◌, ◌++◌, length, nat_lt, Some, slice_get}
use Rattle.std.proofs.lemmas.Bool.{and_parts, false≢true, ltb-true}
use Rattle.std.proofs.lemmas.Option.{none-some}
use Rattle.cb_kinds.specs.Basics.{is_reference}
use Rattle.cb_kinds.specs.declared.basic.Basic.{Basic}
use Rattle.cb_kinds.specs.declared.basic.Basic.TheVariants as basics
use Rattle.cb_link.specs.Program.{Linked}
use Rattle.cb_link.specs.Subtypes.{type_of_kind}
use Rattle.cb_machine.specs.Machine.{Machine, kind_of_site}
use Rattle.cb_machine.specs.Plans.{made, object_of}
use Rattle.cb_machine.specs.Sites as sites
use Rattle.cb_machine.specs.Throwing.{exception_contents, throws}
use Rattle.cb_plain.specs.State.{Frame, Object, Reference, State}
use Rattle.cb_verify.specs.Within.{kind_of_throwable}
use Rattle.cb_safety.specs.Frames.{AreCovered, AreStanding}
use Rattle.cb_safety.specs.Heap.{IsObject}
use Rattle.cb_safety.specs.Held.{HasContent}
use Rattle.cb_safety.specs.Kinds.{IsKnown, IsOfKind, Kinds, Refers, holds_kind, is_held_as, kinds_of}
use Rattle.cb_safety.specs.States.{AreFrames, AreRoots, IsTypedState}
use Rattle.cb_safety.specs.Throwing.{IsThrown}
use Rattle.cb_safety.proofs.Known.{stack_known}
use Rattle.cb_safety.proofs.Extended.{are_covered_more, are_statics_more, are_tables_more, refers_more}
use Rattle.cb_safety.proofs.Growing.{heap_grown, kind_behind, kinds_grown, kinds_placed}

-- ---- frames that stand are covered

pub standing_covered : (program : Linked) (kinds : Kinds) (frames : List Frame) → AreStanding program kinds frames → AreCovered program kinds frames
standing_covered program kinds frames AreStanding.NotYet = AreCovered.Nothing
standing_covered program kinds frames (AreStanding.AMethod frame below stands rest) = AreCovered.AMethod frame below
    (record { at = stands.at; locals = stands.locals; stack = stack_known stands.at.method kinds stands.at.types.stack frame.stack stands.stack }) rest
standing_covered program kinds frames (AreStanding.AnInitialisation class place below is rest) = AreCovered.AnInitialisation class place below is rest

pub frames_covered : (program : Linked) (kinds : Kinds) (pending : ℕ) (frames : List Frame) → AreFrames program kinds pending frames → AreCovered program kinds frames
frames_covered program kinds pending frames (AreFrames.Running own standing) = standing_covered program kinds own standing
frames_covered program kinds pending frames (AreFrames.Unwinding serial own is covered) = covered

-- ---- the new object

null_at : (slot : ℕ) → slot < 3 → slice_get (exception_contents 0 0) slot ≡ Some (Reference 0)
null_at zero low = refl
null_at (suc zero) low = refl
null_at (suc (suc zero)) low = refl
null_at (suc (suc (suc slot))) low = absurd (omega (arith, low))

pub null_fits : (program : Linked) (kinds : Kinds) (basic : Basic) → is_reference basic ≡ true → HasContent program kinds basic (Reference 0)
null_fits program kinds (basics.Reference kind) is = HasContent.AReference kind 0 Refers.ToNull
null_fits program kinds other is = absurd (false≢true is)

pub kind_low : (program : Linked) (own kind : ℕ) → holds_kind program own kind ≡ true → own < length program.kinds
kind_low program own kind holds =
    let (both, held) = and_parts (nat_lt own (length program.kinds) && nat_lt kind (length program.kinds)) (is_held_as program.classes (type_of_kind program own) (type_of_kind program kind)) holds in
    ltb-true own (length program.kinds) (and_parts (nat_lt own (length program.kinds)) (nat_lt kind (length program.kinds)) both).0

thrown_object : (program : Linked) (kinds : Kinds) (site kind : ℕ) → IsThrown program kind → kind_of_site program site ≡ kind
    → IsObject program kinds (object_of site kind (exception_contents 0 0))
thrown_object program kinds site kind thrown same = record {
  kind = kind_low program kind kind_of_throwable thrown.throwable;
  site = thrown.sited site same;
  sized = thrown.sized;
  fields = λ class slot basic own declared.
      let (low, is) = thrown.fields class slot basic own declared in
      record { content = Reference 0; there = null_at slot low; fits = null_fits program kinds basic is };
  elements = λ basic place own low. absurd (none-some basic (sym thrown.no_elements ∙ own));
  few = λ basic own. absurd (none-some basic (sym thrown.no_elements ∙ own));
  words = (IsKnown.Null, (IsKnown.Null, (IsKnown.Null, tt)));
}

-- ---- the state

pub throws_typed : (machine : Machine) (state : State) (site : ℕ) → IsTypedState machine.program state → IsThrown machine.program (kind_of_site machine.program site)
    → IsTypedState machine.program (made (throws machine state site))
throws_typed machine state site typed thrown = record {
  heap = heap_grown machine.program state.objects (new ∷ []) typed.heap (thrown_object machine.program grown site own thrown refl, tt);
  roots = subst (λ (kinds : Kinds). AreRoots machine.program kinds (made (throws machine state site)).roots) (sym (kinds_grown state.objects (new ∷ []))) rooted;
  input = typed.input;
}
  where
    own : ℕ
    own = kind_of_site machine.program site

    new : Object
    new = object_of site own (exception_contents 0 0)

    kinds : Kinds
    kinds = kinds_of state.objects

    grown : Kinds
    grown = kinds ++ kinds_placed (new ∷ [])

    covered : AreCovered machine.program grown state.roots.frames
    covered = are_covered_more machine.program kinds (kinds_placed (new ∷ [])) state.roots.frames
        (frames_covered machine.program kinds state.roots.pending state.roots.frames typed.roots.frames)

    is_thrown : IsOfKind machine.program grown kind_of_throwable (length state.objects + 1)
    is_thrown = record { own = own; there = kind_behind state.objects own []; goes = thrown.throwable }

    rooted : AreRoots machine.program grown (made (throws machine state site)).roots
    rooted = record {
      frames = AreFrames.Unwinding (length state.objects + 1) state.roots.frames is_thrown covered;
      statics = are_statics_more machine.program kinds (kinds_placed (new ∷ [])) state.roots.statics typed.roots.statics;
      classes = typed.roots.classes;
      tables = are_tables_more machine.program kinds (kinds_placed (new ∷ [])) state.roots.tables typed.roots.tables;
      argument = refers_more machine.program kinds (kinds_placed (new ∷ [])) (kind_of_site machine.program sites.arguments) state.roots.argument typed.roots.argument;
    }
