-- Which native a method is, by its class and its place there.
use Rattle.std.proofs.Common.{◌≡◌, ◌∙◌, ap₂, refl, sym, ℕ, Option, Some, None, option_map, slice_get}
use Rattle.std.proofs.lemmas.Option.{none-some, same_Some}
use Rattle.cb_link.specs.Program.{Linked}
use Rattle.cb_link.specs.declared.linked.LinkedMethod.{LinkedMethod}
use Rattle.cb_machine.specs.Natives.{native_at, native_of}

pub native_so : (program : Linked) (method class place : ℕ) → option_map (λ (linked : LinkedMethod). linked.class) (slice_get program.methods method) ≡ Some class
    → option_map (λ (linked : LinkedMethod). linked.place) (slice_get program.methods method) ≡ Some place → native_at class place ≡ native_of program method
native_so program method class place of_class of_place = go (slice_get program.methods method) refl of_class of_place where
  go : (found : Option LinkedMethod) → slice_get program.methods method ≡ found → option_map (λ (linked : LinkedMethod). linked.class) found ≡ Some class
      → option_map (λ (linked : LinkedMethod). linked.place) found ≡ Some place → native_at class place ≡ native_of program method
  go None at class_is place_is = absurd (none-some class class_is)
  go (Some linked) at class_is place_is =
      let own : native_of program method ≡ native_at linked.class linked.place = rw at refl in
      ap₂ native_at (sym (same_Some linked.class class class_is)) (sym (same_Some linked.place place place_is)) ∙ sym own
