-- A static field gets the value of its constant: what is left of roots and a store, and what the machine plans.
use Rattle.std.proofs.Common.{◌≡◌, ◌∙◌, ap, arith, refl, sym, subst, ℕ, zero, suc, ◌<◌, List, length, map, Option, Some, None}
use Rattle.std.proofs.lemmas.List.{length-map}
use Rattle.std.proofs.lemmas.Option.{none-some}
use Rattle.cb_heap.proofs.Laws.{reads_static}
use Rattle.cb_heap.specs.Reading.{View, read_roots, read_value, seen, serial_of}
use Rattle.cb_kinds.specs.declared.basic.Basic.{Basic}
use Rattle.cb_link.specs.Named.{static_initial}
use Rattle.cb_link.specs.Program.{Linked}
use Rattle.cb_link.specs.Slots.{static_basic}
use Rattle.cb_link.specs.declared.named.Named.{Named}
use Rattle.cb_link.specs.declared.named.Named.TheVariants as meanings
use Rattle.cb_machine.specs.Machine.{listed}
use Rattle.cb_machine.specs.Values.{kept_value}
use Rattle.cb_plain.specs.Roots as roots
use Rattle.cb_plain.specs.State.{Object, Roots}
use Rattle.cb_plain.specs.declared.value.Value.{Value}
use Rattle.cb_plain.specs.declared.value.Value.TheVariants as values
use Rattle.cb_unwind.proofs.Laws.{initial_read}
use Rattle.cb_unwind.specs.Begun.{set_to as roots_to, set_whole as roots_whole, set_initial as roots_initial}
use Rattle.cb_unwind.specs.Strings.{IsNew, constant_or_new, with_constant}
use Rattle.cb_interp.specs.TextStatics.{seen_to, text_of, with_found}
use Rattle.cb_interp.proofs.TurnsNeedLoads.{known_from, new_read}

-- ---- roots and a store

-- the text has no object exactly where it has none when roots are read
pub by_new : (index : ℕ → ℕ) (held : Roots) (text : ℕ) → (P : ℕ → Type 0) → (IsNew held text → P 0) → ((place : ℕ) → (IsNew held text → ⊥) → P (suc place))
    → P (listed (read_roots index held).tables.constants text)
by_new index held text P new known = go (listed held.tables.constants text) refl where
  go : (entry : ℕ) → listed held.tables.constants text ≡ entry → P (listed (read_roots index held).tables.constants text)
  go zero is = subst P (sym (new_read index held text is)) (new is)
  go (suc place) is =
      let not : IsNew held text → ⊥ = λ new. absurd (cc (is, new)) in
      let found = known_from index held text not in
      subst P (sym found.1) (known found.0 not)

-- as many static fields and texts stay
constant_statics_by : (program : Linked) (text : ℕ) (view : View) (serial : ℕ) → length (constant_or_new program text view serial).1.roots.statics ≡ length view.roots.statics
constant_statics_by program text view zero = refl
constant_statics_by program text view (suc place) = refl

pub constant_statics : (program : Linked) (text : ℕ) (view : View) → length (with_constant program text view).1.roots.statics ≡ length view.roots.statics
constant_statics program text view = constant_statics_by program text view (listed view.roots.tables.constants text)

pub statics_behind : (program : Linked) (text : ℕ) (index after : ℕ → ℕ) (kept new : List (Option Object)) (held final : Roots) (at slot : ℕ)
    → with_constant program text (seen index kept held) ≡ (serial_of after at, seen after new final) → slot < length held.statics → slot < length final.statics
statics_behind program text index after kept new held final at slot behind low =
    let whole : length (map (read_value after) final.statics) ≡ length (map (read_value index) held.statics) =
    ap (λ (found : ℕ × View). length found.1.roots.statics) (sym behind) ∙ constant_statics program text (seen index kept held) in
    let one = length-map final.statics (read_value after) in
    let other = length-map held.statics (read_value index) in
    omega (arith, low, whole, one, other)

pub text_set : (program : Linked) (text : ℕ) (index after : ℕ → ℕ) (kept new : List (Option Object)) (held final last : Roots) (at slot : ℕ)
    → with_constant program text (seen index kept held) ≡ (serial_of after at, seen after new final) → last ≡ roots.with_static final slot (values.Ref at)
    → seen after new last ≡ with_found slot (with_constant program text (seen index kept held))
text_set program text index after kept new held final last at slot behind is =
    ap (seen after new) is
    ∙ ap (λ (roots : Roots). record { roots = roots; objects = new }) (reads_static after final slot (values.Ref at))
    ∙ ap (with_found slot) (sym behind)

-- a number is the same when roots are read
kept_number : (index : ℕ → ℕ) (basic : Basic) (value : Value) → read_value index value ≡ value → read_value index (kept_value basic value) ≡ kept_value basic value
kept_number index basic (values.Int number) is = refl
kept_number index basic (values.Long number) is = refl
kept_number index basic (values.Ref place) is = is

whole_read : (index : ℕ → ℕ) (slot : ℕ) (value : Value) (held : Roots) (basic : Option Basic) → read_value index value ≡ value
    → read_roots index (roots_whole slot value held basic) ≡ roots_whole slot value (read_roots index held) basic
whole_read index slot value held None is = refl
whole_read index slot value held (Some basic) is =
    reads_static index held slot (kept_value basic value) ∙ ap (roots.with_static (read_roots index held) slot) (kept_number index basic value is)

named_read : (program : Linked) (index : ℕ → ℕ) (slot : ℕ) (held : Roots) (named : Named) → static_initial program slot ≡ named
    → read_roots index (roots_to program slot held named) ≡ roots_to program slot (read_roots index held) named
named_read program index slot held meanings.Nothing is = refl
named_read program index slot held (meanings.Kind kind) is = refl
named_read program index slot held (meanings.Static class other) is = refl
named_read program index slot held (meanings.Field class other) is = refl
named_read program index slot held (meanings.Method method) is = refl
named_read program index slot held (meanings.Text text) is = refl
named_read program index slot held (meanings.Whole value) is = whole_read index slot value held (static_basic program slot) (initial_read program index slot value is)

plain_so : (program : Linked) (slot : ℕ) (view : View) (named : Named) → text_of named ≡ None
    → seen_to program slot view named ≡ record { roots = roots_to program slot view.roots named; objects = view.objects }
plain_so program slot view meanings.Nothing is = refl
plain_so program slot view (meanings.Kind kind) is = refl
plain_so program slot view (meanings.Static class other) is = refl
plain_so program slot view (meanings.Field class other) is = refl
plain_so program slot view (meanings.Method method) is = refl
plain_so program slot view (meanings.Whole value) is = refl
plain_so program slot view (meanings.Text text) is = absurd (none-some text (sym is))

pub number_set : (program : Linked) (index : ℕ → ℕ) (kept : List (Option Object)) (held last : Roots) (slot : ℕ) → text_of (static_initial program slot) ≡ None
    → last ≡ roots_initial program held slot → seen index kept last ≡ seen_to program slot (seen index kept held) (static_initial program slot)
number_set program index kept held last slot none is =
    ap (seen index kept) is
    ∙ ap (λ (roots : Roots). record { roots = roots; objects = kept }) (named_read program index slot held (static_initial program slot) refl)
    ∙ sym (plain_so program slot (seen index kept held) (static_initial program slot) none)
