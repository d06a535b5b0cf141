-- A method that is selected where another one was resolved takes and gives the same, and the object is of the class that declares it.
use Rattle.std.proofs.Common.{◌≡◌, ◌∙◌, ap, refl, sym, subst, ℕ, ◌<◌, true, false, List, length, Option, Some, None, option_and_then, option_map, slice_get}
use Rattle.std.specs.Prelude.{codes}
use Rattle.std.proofs.lemmas.Option.{option_and_then_some, slice_get-map, slice_get_within}
use Rattle.cb_classfile.specs.declared.method.Method.{Method}
use Rattle.cb_hierarchy.specs.declared.class.Class.{Class as Ranked}
use Rattle.cb_hierarchy.specs.declared.member.Method.{Method as RankedMethod}
use Rattle.cb_hierarchy.specs.declared.selected.Selected.TheVariants as chosen
use Rattle.cb_hierarchy.specs.Above.{IsAcyclic}
use Rattle.cb_hierarchy.specs.Orders.{is_subclass}
use Rattle.cb_link.specs.Calls.{class_of_kind, or_object, select}
use Rattle.cb_link.specs.Numbers.{Numbered, class_number, hierarchy, methods_of, ranked_method, ranked_methods}
use Rattle.cb_link.specs.Program.{Linked, linked_method}
use Rattle.cb_safety.specs.Kinds.{holds_kind}
use Rattle.cb_safety.proofs.CallNames.{IsDeclared, declared}
use Rattle.cb_safety.proofs.Chosen.{IsChosen, selected_chosen}
use Rattle.cb_safety.proofs.Links.{Links}
use Rattle.cb_safety.proofs.Ordered.{acyclic, named_low, number_within}
use Rattle.cb_safety.proofs.Runs.{is_static_method}
use Rattle.cb_safety.proofs.Signed.{class_low, class_there, held_above, same_parameters, same_result, same_signature, texts_of}

module _ (program : Linked) (linked : Links program) where
  abbrev pub ranks : List Ranked
  ranks = hierarchy program.classes

  abbrev pub methods : List RankedMethod
  methods = ranked_methods program.classes

  pub no_cycle : IsAcyclic (hierarchy program.classes)
  no_cycle = acyclic (hierarchy program.classes) (ranked_methods program.classes) linked.whole.good

  abbrev pub Selectable : ℕ → ℕ → ℕ → Type 0
  Selectable class signature number = IsChosen (hierarchy program.classes) no_cycle (named_low program.classes) (ranked_methods program.classes) class signature number

  pub ranked_there : (number : ℕ) (own : Numbered Method) → slice_get (methods_of program.classes) number ≡ Some own → slice_get (ranked_methods program.classes) number ≡ Some (ranked_method program.classes own)
  ranked_there number own there = slice_get-map (ranked_method program.classes) (methods_of program.classes) number ∙ ap (option_map (ranked_method program.classes)) there

  pub declared_low : (number : ℕ) (method : RankedMethod) → slice_get (ranked_methods program.classes) number ≡ Some method → method.declared.class < length program.classes
  declared_low number method there =
      let own : IsDeclared program.classes number method = declared program.classes number method there in
      subst (λ (class : ℕ). class < length program.classes) (ap (λ (method : RankedMethod). method.declared.class) own.is)
      (slice_get_within program.classes own.own.class own.at.declaring own.at.declares)

  -- the class of a kind is one of the program's
  class_within : (kind : ℕ) (found : Option ℕ) → class_of_kind program kind ≡ found → or_object found < length (hierarchy program.classes)
  class_within kind None is = number_within program.classes (codes "java/lang/Object") 0 linked.front.object
  class_within kind (Some class) is =
      option_and_then_some (class_number program.classes) (slice_get program.kinds kind) class is (λ name there numbered. number_within program.classes name class numbered)

  own_class : (class : ℕ) → class < length program.classes → class_of_kind program class ≡ Some class
  own_class class low =
      let (file, there) = class_there program linked.formed linked.kinds linked.front class low in
      ap (option_and_then (class_number program.classes)) (linked.kinds.kind class file there) ∙ linked.kinds.number class file there

  -- what may be held as a class may be held as what is above that
  pub held_from : (kind class other : ℕ) → class < length program.classes → holds_kind program kind class ≡ true → is_subclass (hierarchy program.classes) class other ≡ true
      → other < length program.classes → holds_kind program kind other ≡ true
  held_from kind class other low holds below other_low =
      linked.through kind class other holds
      (held_above program linked.formed linked.kinds linked.front class class other (class_low program linked.formed linked.kinds linked.front class low) (ap or_object (own_class class low)) below other_low)

  module _ (resolved : ℕ) (own : Numbered Method) (there : slice_get (methods_of program.classes) resolved ≡ Some own) where
    pub record Suits (kind number : ℕ) : Type 0 where
      pub run : Numbered Method
      pub is : slice_get (methods_of program.classes) number ≡ Some run
      pub of_objects : is_static_method run ≡ false
      pub holds : holds_kind program kind run.class ≡ true
      pub parameters : (linked_method program.kinds run).parameters ≡ (linked_method program.kinds own).parameters
      pub result : (linked_method program.kinds run).result ≡ (linked_method program.kinds own).result

    pub chosen_suits : (kind number class : ℕ) (is : Selectable class (ranked_method program.classes own).declared.signature number)
        → holds_kind program kind is.method.declared.class ≡ true → Suits kind number
    chosen_suits kind number class is holds = record {
      run = run.own;
      is = run.there;
      of_objects = ap (λ (method : RankedMethod). method.is_static) run.is ∙ is.of_objects;
      holds = subst (λ (class : ℕ). holds_kind program kind class ≡ true) (sym (ap (λ (method : RankedMethod). method.declared.class) run.is)) holds;
      parameters = same_parameters program.kinds run.own own texts;
      result = same_result program.kinds run.own own texts;
    }
      where
        run : IsDeclared program.classes number is.method
        run = declared program.classes number is.method is.there

        texts : texts_of run.own ≡ texts_of own
        texts =
            same_signature program.classes number resolved run.own own run.there there
            (ap (λ (method : RankedMethod). method.declared.signature) run.is ∙ is.signature_is)

    -- the one that is resolved itself
    pub own_suits : (kind : ℕ) → is_static_method own ≡ false → holds_kind program kind own.class ≡ true → Suits kind resolved
    own_suits kind object holds = record { run = own; is = there; of_objects = object; holds = holds; parameters = refl; result = refl }

    pub virtual_suits : (kind number : ℕ) → kind < length program.kinds → select program kind resolved ≡ chosen.Method number → Suits kind number
    virtual_suits kind number low is =
        let class : ℕ = or_object (class_of_kind program kind) in
        let one : Selectable class (ranked_method program.classes own).declared.signature number =
        selected_chosen (hierarchy program.classes) no_cycle (named_low program.classes) (ranked_methods program.classes) class resolved number (ranked_method program.classes own)
        (class_within kind (class_of_kind program kind) refl) (ranked_there resolved own there) is in
        chosen_suits kind number class one
        (held_above program linked.formed linked.kinds linked.front kind class one.method.declared.class low refl one.under (declared_low number one.method one.there))
