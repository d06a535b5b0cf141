-- What invokespecials run: by the tables, and that it is one of the program's methods.
use Rattle.std.proofs.Common.{◌≡◌, ◌∙◌, ap, refl, sym, subst, Bool, true, false, ℕ, ◌<◌, List, [], ◌∷◌, Option, None, Some, length, not, ◌&&◌, if◌then◌else◌}
use Rattle.std.specs.Prelude.{option_and_then, option_map, slice_get}
use Rattle.std.proofs.lemmas.List.{length-map}
use Rattle.std.proofs.lemmas.Option.{slice_get-map}
use Rattle.cb_text.specs.Naming.{member_at}
use Rattle.cb_insn.specs.declared.insn.Insn.{Insn}
use Rattle.cb_classfile.specs.declared.method.Method.{Method}
use Rattle.cb_classfile.specs.Needed.{index_in}
use Rattle.cb_hierarchy.specs.declared.selected.Selected.{Selected}
use Rattle.cb_hierarchy.specs.declared.selected.Selected.TheVariants as chosen
use Rattle.cb_hierarchy.specs.Classes.{superclass}
use Rattle.cb_hierarchy.specs.Resolution.{most_specific}
use Rattle.cb_hierarchy.specs.Selection.{found, found_among, selected_from}
use Rattle.cb_shapes.specs.declared.action.Action.{Action}
use Rattle.cb_shapes.specs.declared.action.Action.TheVariants as actions
use Rattle.cb_shapes.specs.Shapes.{action_of}
use Rattle.cb_link.specs.declared.decoded.Decoded.{Decoded}
use Rattle.cb_link.specs.declared.linked.LinkedMethod.{LinkedMethod}
use Rattle.cb_link.specs.declared.named.Named.{Named}
use Rattle.cb_link.specs.declared.named.Named.TheVariants as meanings
use Rattle.cb_link.specs.Calls.{IsOneOf}
use Rattle.cb_link.specs.Decoding.{decoded, decoded_as}
use Rattle.cb_link.specs.Having.{IsWhole}
use Rattle.cb_link.specs.Named.{IsThere, code_at, code_in, insn_in, named, named_at}
use Rattle.cb_link.specs.Numbers.{Numbered, class_number, hierarchy, methods_of, ranked_method, ranked_methods}
use Rattle.cb_link.specs.Program.{Linked, linked_method}
use Rattle.cb_link.specs.Special.{among_interfaces, as_resolved, class_declaring, declared_above, from_class, from_superclass, holder_named, is_constructor, is_proper, or_abstract, signature_of, special, special_at, special_by, special_named}
use Rattle.cb_link.specs.InnerPlaces.{class_of_member, meanings_in, meant_at, selected_by}
use Rattle.cb_link.proofs.FoundLow.{found_among_low, found_low, from_low, specific_low}
use Rattle.cb_link.proofs.MeaningRows.{meant_selected}
use Rattle.cb_link.proofs.NamedThere.{insn_there}
use Rattle.cb_link.proofs.SpecialIndex.{special_index}

-- of an instruction that stands at a place of a method
module _ (program : Linked) (whole : IsWhole program) (number pc : ℕ) (method : Numbered Method) (there : slice_get (methods_of program.classes) number ≡ Some method) (insn : Insn)
    (is : insn_in (code_in method.member.body) pc ≡ Some insn) where
  declares : class_declaring program number ≡ Some method.class
  declares =
      ap (λ (methods : List LinkedMethod). option_map (λ (own : LinkedMethod). own.class) (slice_get methods number)) whole.methods
      ∙ ap (option_map (λ (own : LinkedMethod). own.class))
      (slice_get-map (linked_method program.kinds) (methods_of program.classes) number ∙ ap (option_map (linked_method program.kinds)) there)

  names : (index : ℕ) → index_in insn.operand ≡ Some index → named program number pc ≡ named_at program method.pool (Some index)
  names index at = rw (there, is, at) refl

  holds : (index : ℕ) → option_and_then (class_number program.classes) (holder_named program number index) ≡ class_of_member program.classes (member_at method.pool index)
  holds index = rw there refl

  by_action : (action : Option Action) → action_of insn ≡ action
      → selected_by action (meant_at (meanings_in program method.class method.pool) (index_in insn.operand)).selected ≡ special_by program number (named program number pc) action
  by_action (Some (actions.InvokeSpecial index)) so =
      let at : index_in insn.operand ≡ Some index = special_index insn.opcode insn.operand index so in
      ap (λ (index : Option ℕ). (meant_at (meanings_in program method.class method.pool) index).selected) at
      ∙ meant_selected program method.class method.pool index
      ∙ (λ i. special_named program (sym declares i) (sym (holds index) i) (sym (names index at) i))
  by_action other so = refl

  stands : option_and_then action_of (insn_in (code_at program number) pc) ≡ action_of insn
  stands = rw (there, is) refl

  pub special_there : selected_by (action_of insn) (meant_at (meanings_in program method.class method.pool) (index_in insn.operand)).selected ≡ special_at program number pc
  special_there = by_action (action_of insn) refl ∙ sym (ap (special_by program number (named program number pc)) stands)

-- of one that was decoded, or of none
abbrev pub selected_of : Option Decoded → Selected
selected_of found = or_abstract (option_map (λ (found : Decoded). found.selected) found)

pub special_found : (program : Linked) (method pc : ℕ) → selected_of (decoded program method pc) ≡ special_at program method pc
special_found program method pc = go (insn_in (code_at program method) pc) refl where
  go : (insn : Option Insn) → insn_in (code_at program method) pc ≡ insn → selected_of (option_map (decoded_as program method pc) insn) ≡ special_at program method pc
  go None stands = sym (ap (λ (insn : Option Insn). special_by program method (named program method pc) (option_and_then action_of insn)) stands)
  go (Some insn) stands = refl

-- what an invokespecial runs that names a method
pub special_is : (program : Linked) (caller pc index method : ℕ) (insn : Insn) → insn_in (code_at program caller) pc ≡ Some insn
    → action_of insn ≡ Some (actions.InvokeSpecial index) → named program caller pc ≡ meanings.Method method
    → special_at program caller pc ≡ special program method (class_declaring program caller) (option_and_then (class_number program.classes) (holder_named program caller index))
special_is program caller pc index method insn stands does names = rw (names, stands, does) refl

-- ---- it is one of the program's methods

module _ (program : Linked) (whole : IsWhole program) where
  abbrev Low : Selected → Type 0
  Low selected = IsOneOf (length (ranked_methods program.classes)) selected

  as_many : length (ranked_methods program.classes) ≡ length program.methods
  as_many =
      length-map (methods_of program.classes) (ranked_method program.classes)
      ∙ sym (ap length whole.methods ∙ length-map (methods_of program.classes) (linked_method program.kinds))

  from_class_low : (class method : ℕ) → Low (from_class program.classes class method)
  from_class_low class method = go (signature_of program.classes method) where
    go : (signature : Option ℕ) → Low (or_abstract (option_map (selected_from (hierarchy program.classes) (ranked_methods program.classes) class) signature))
    go None = tt
    go (Some signature) = from_low (hierarchy program.classes) (ranked_methods program.classes) class signature

  among_low : (class method : ℕ) → Low (among_interfaces program.classes class method)
  among_low class method = go (signature_of program.classes method) where
    go : (signature : Option ℕ)
        → Low (or_abstract (option_map (λ (signature : ℕ). found_among (most_specific (hierarchy program.classes) (ranked_methods program.classes) class signature)) signature))
    go None = tt
    go (Some signature) =
        found_among_low (hierarchy program.classes) (ranked_methods program.classes) (most_specific (hierarchy program.classes) (ranked_methods program.classes) class signature)
        (specific_low (hierarchy program.classes) (ranked_methods program.classes) class signature)

  module _ (method : ℕ) (low : method < length (ranked_methods program.classes)) where
    itself : Low (found (ranked_methods program.classes) method)
    itself = found_low (hierarchy program.classes) (ranked_methods program.classes) method low

    above_low : (above : List ℕ) → Low (from_superclass program.classes method above)
    above_low [] = itself
    above_low (class ∷ none) = from_class_low class method

    resolved_low : (holder : Option ℕ) → Low (as_resolved program method holder)
    resolved_low None = itself
    resolved_low (Some holder) = go (declared_above program.classes holder (class_declaring program method)) where
      go : (test : Bool) → Low (if test then found (ranked_methods program.classes) method else among_interfaces program.classes holder method)
      go true = itself
      go false = among_low holder method

    special_low : (class holder : Option ℕ) → Low (special program method class holder)
    special_low None holder = tt
    special_low (Some class) holder = go (not (is_constructor program.classes method) && is_proper program.classes class holder) where
      go : (test : Bool) → Low (if test then from_superclass program.classes method (superclass (hierarchy program.classes) class) else as_resolved program method holder)
      go true = above_low (superclass (hierarchy program.classes) class)
      go false = resolved_low holder

  named_low : (class holder : Option ℕ) (named : Named) → IsThere program named → Low (special_named program class holder named)
  named_low class holder (meanings.Method method) there = special_low method (subst (λ (count : ℕ). method < count) (sym as_many) there) class holder
  named_low class holder other there = tt

  by_low : (caller : ℕ) (named : Named) (action : Option Action) → IsThere program named → Low (special_by program caller named action)
  by_low caller named (Some (actions.InvokeSpecial index)) there =
      named_low (class_declaring program caller) (option_and_then (class_number program.classes) (holder_named program caller index)) named there
  by_low caller named other there = tt

  pub special_one_of : (method pc : ℕ) → IsOneOf (length program.methods) (special_at program method pc)
  special_one_of method pc =
      subst (λ (count : ℕ). IsOneOf count (special_at program method pc)) as_many
      (by_low method (named program method pc) (option_and_then action_of (insn_in (code_at program method) pc)) (insn_there program whole method pc))
