-- The methods that are selected on objects of a kind.
use Rattle.std.proofs.Common.{◌≡◌, ◌∙◌, ap, refl, sym, arith, ℕ, ◌<◌, List, Option, None, Some, length, map}
use Rattle.std.specs.Prelude.{option_and_then, slice_get}
use Rattle.std.proofs.lemmas.List.{length-map}
use Rattle.std.proofs.lemmas.Option.{same_Some}
use Rattle.cb_hierarchy.specs.declared.selected.Selected.{Selected}
use Rattle.cb_hierarchy.specs.Selection.{entry_at}
use Rattle.cb_link.specs.Calls.{class_of_kind, or_object, select}
use Rattle.cb_link.specs.InnerCounts.{HasSelection}
use Rattle.cb_link.specs.Having.{IsWhole}
use Rattle.cb_link.specs.Numbers.{class_number, methods_of, name_of, ranked_method, ranked_methods}
use Rattle.cb_link.specs.Program.{Linked, linked_method}
use Rattle.cb_link.proofs.Ranged.{number_low}

module _ (program : Linked) (whole : IsWhole program) where
  object_low : (kind : ℕ) → or_object (class_of_kind program kind) < length program.classes
  object_low kind = go (slice_get program.kinds kind) where
    go : (name : Option (List ℕ)) → or_object (option_and_then (class_number program.classes) name) < length program.classes
    go None = omega (arith, whole.main)
    go (Some name) = in_turn (class_number program.classes name) (λ number found. number_low (map name_of program.classes) name number found) where
      in_turn : (found : Option ℕ) → ((number : ℕ) → found ≡ Some number → number < length (map name_of program.classes)) → or_object found < length program.classes
      in_turn None low = omega (arith, whole.main)
      in_turn (Some number) low = omega (arith, low number refl, length-map program.classes name_of)

  many : length program.methods ≡ length (ranked_methods program.classes)
  many =
      ap length whole.methods ∙ length-map (methods_of program.classes) (linked_method program.kinds)
      ∙ sym (length-map (methods_of program.classes) (ranked_method program.classes))

  module _ (selection : List (List Selected)) (has : HasSelection program.classes selection) (kind method : ℕ) (low : method < length program.methods) where
    pub has_entry : entry_at selection (or_object (class_of_kind program kind)) method ≡ Some (select program kind method)
    has_entry = has (or_object (class_of_kind program kind)) method (object_low kind) (omega (arith, low, many))

    pub entry_selected : (chosen : Selected) → entry_at selection (or_object (class_of_kind program kind)) method ≡ Some chosen → chosen ≡ select program kind method
    entry_selected chosen is = same_Some chosen (select program kind method) (sym is ∙ has_entry)
