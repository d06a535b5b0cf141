-- Roots before anything has run: nothing stands, and each static field is blank.
use Rattle.std.proofs.Common.{◌≡◌, ◌∙◌, ap, arith, refl, subst, ℕ, zero, suc, pos, ◌+◌, ◌<◌, [], length, map, replicate, Option, Some, None, slice_get}
use Rattle.std.specs.List.{range_with_len}
use Rattle.std.specs.Int.{w8, w16}
use Rattle.std.proofs.lemmas.Int.{int_wrap_fits}
use Rattle.std.proofs.lemmas.List.{length-replicate}
use Rattle.std.proofs.lemmas.List.FromFn.{length-map-range_with_len}
use Rattle.std.proofs.lemmas.Option.{option_and_then_some, same_Some, slice_get_within}
use Rattle.cb_kinds.specs.declared.basic.Basic.{Basic}
use Rattle.cb_kinds.specs.declared.basic.Basic.TheVariants as basics
use Rattle.cb_link.specs.Program.{Linked}
use Rattle.cb_link.specs.Slots.{basic_of_field, static_basic, statics}
use Rattle.cb_machine.specs.Library as library
use Rattle.cb_machine.specs.Starting.{empty_roots}
use Rattle.cb_machine.specs.Values.{blank_value, null}
use Rattle.cb_plain.specs.State.{small_chars, small_numbers}
use Rattle.cb_plain.specs.declared.value.Value.{Value}
use Rattle.cb_verify.specs.Within.{kind_of_class, kind_of_string}
use Rattle.cb_safety.specs.Frames.{AreStanding}
use Rattle.cb_safety.specs.Held.{HasBasic}
use Rattle.cb_safety.specs.Kinds.{IsKnown, Kinds, Refers}
use Rattle.cb_safety.specs.States.{AreFrames, AreRoots, HasStatic, IsTable}
use Rattle.cb_safety.proofs.Known.{all_mapped}
use Rattle.cb_safety.proofs.Assigned.{never}
use Rattle.cb_safety.proofs.Searching.{numbered}

null_each : (program : Linked) (kinds : Kinds) (kind size place serial : ℕ) → slice_get (replicate size 0) place ≡ Some serial → Refers program kinds kind serial
null_each program kinds kind zero place serial there = never there
null_each program kinds kind (suc size) zero serial there = subst (Refers program kinds kind) (same_Some 0 serial there) Refers.ToNull
null_each program kinds kind (suc size) (suc place) serial there = null_each program kinds kind size place serial there

null_table : (program : Linked) (kinds : Kinds) (kind size : ℕ) → IsTable program kinds kind size (replicate size 0)
null_table program kinds kind size = record { count = length-replicate size 0; each = null_each program kinds kind size }

blank_basic : (program : Linked) (kinds : Kinds) (basic : Basic) → HasBasic program kinds basic (blank_value basic)
blank_basic program kinds (basics.Reference own) = HasBasic.AReference own 0 Refers.ToNull
blank_basic program kinds basics.Long = HasBasic.ALong (pos 0) (record { sfits = omega arith })
blank_basic program kinds basics.Boolean = HasBasic.AnInt basics.Boolean (pos 0) refl (record { sfits = omega arith }) refl
blank_basic program kinds basics.Byte = HasBasic.AnInt basics.Byte (pos 0) refl (record { sfits = omega arith }) (int_wrap_fits w8 (pos 0) (record { sfits = omega arith }))
blank_basic program kinds basics.Char = HasBasic.AnInt basics.Char (pos 0) refl (record { sfits = omega arith }) refl
blank_basic program kinds basics.Short = HasBasic.AnInt basics.Short (pos 0) refl (record { sfits = omega arith }) (int_wrap_fits w16 (pos 0) (record { sfits = omega arith }))
blank_basic program kinds basics.Int = HasBasic.AnInt basics.Int (pos 0) refl (record { sfits = omega arith }) refl

abbrev blank_static : Option Basic → Value
blank_static None = null
blank_static (Some basic) = blank_value basic

abbrev at_slot : Linked → ℕ → Value
at_slot program slot = blank_static (static_basic program slot)

static_low : (program : Linked) (slot : ℕ) (basic : Basic) → static_basic program slot ≡ Some basic → slot < length (statics program.classes)
static_low program slot basic is =
    option_and_then_some (basic_of_field program) (slice_get (statics program.classes) slot) basic is
    (λ number there own. slice_get_within (statics program.classes) slot number there)

static_blank : (program : Linked) (kinds : Kinds) (slot : ℕ) (basic : Basic) → static_basic program slot ≡ Some basic
    → HasStatic program kinds (map (at_slot program) (range_with_len 0 (length (statics program.classes)))) slot basic
static_blank program kinds slot basic is = record {
  value = blank_value basic;
  there = numbered (at_slot program) 0 (length (statics program.classes)) slot (static_low program slot basic is)
      ∙ ap (λ (number : ℕ). Some (at_slot program number)) (let same : 0 + slot ≡ slot = omega arith in same) ∙ ap (λ (found : Option Basic). Some (blank_static found)) is;
  fits = blank_basic program kinds basic;
}

slot_known : (kinds : Kinds) (found : Option Basic) → IsKnown kinds (blank_static found)
slot_known kinds None = IsKnown.Null
slot_known kinds (Some basics.Long) = IsKnown.ALong (pos 0)
slot_known kinds (Some (basics.Reference kind)) = IsKnown.Null
slot_known kinds (Some other) = IsKnown.AnInt (pos 0)

pub first_roots : (program : Linked) (kinds : Kinds) → AreRoots program kinds (empty_roots program)
first_roots program kinds = record {
  frames = AreFrames.Running [] AreStanding.NotYet;
  statics = record {
    each = static_blank program kinds;
    known = all_mapped (IsKnown kinds) (at_slot program) (range_with_len 0 (length (statics program.classes))) (λ slot. slot_known kinds (static_basic program slot));
  };
  classes = length-map-range_with_len _ 0 (length program.classes);
  tables = record {
    constants = null_table program kinds kind_of_string (length program.constants);
    classes = null_table program kinds kind_of_class (length program.kinds);
    integers = null_table program kinds library.integer small_numbers;
    longs = null_table program kinds library.long small_numbers;
    characters = null_table program kinds library.character small_chars;
    booleans = null_table program kinds library.boolean 2;
  };
  argument = Refers.ToNull;
}
