-- The kinds of the arrays that an instruction makes, and the law of these instructions.
use Rattle.std.proofs.Common.{◌≡◌, ◌∙◌, ap, refl, sym, subst, arith, ℕ, ◌+◌, ◌<◌, true, List, ◌∷◌, length, map, Option, Some, None, option_and_then, slice_get}
use Rattle.std.specs.List.{AllByRecursion}
use Rattle.std.proofs.lemmas.Bool.{false≢true}
use Rattle.std.proofs.lemmas.Option.{same_Some, slice_get-map, slice_get_within}
use Rattle.cb_classfile.specs.declared.class.ClassFile.{ClassFile}
use Rattle.cb_insn.specs.declared.insn.Insn.{Insn}
use Rattle.cb_kinds.specs.Basics.{basic_of, component_of, kind_number}
use Rattle.cb_kinds.specs.Kinds.{is_array}
use Rattle.cb_kinds.specs.declared.basic.Basic.TheVariants as basics
use Rattle.cb_kinds.proofs.Laws.{text_at}
use Rattle.cb_link.specs.Having.{HasOwnName, IsWhole, site_kinds}
use Rattle.cb_link.specs.Named.{code_at, insn_in, made_at}
use Rattle.cb_link.specs.Numbers.{class_number, name_of, or_none}
use Rattle.cb_machine.specs.Arrays.{element_of}
use Rattle.cb_machine.specs.Creating.{makes_arrays}
use Rattle.cb_machine.specs.Machine.{Machine, kind_of_site, or_zero}
use Rattle.cb_machine.specs.Plans.{made}
use Rattle.cb_machine.specs.Sites.{negative_size}
use Rattle.cb_machine.specs.Steps.{done}
use Rattle.cb_machine.specs.Throwing.{throws}
use Rattle.cb_names.specs.Signs.{bracket}
use Rattle.cb_plain.specs.State.{Frame, MethodFrame, OfMethod, State}
use Rattle.cb_shapes.specs.Shapes.{action_of}
use Rattle.cb_shapes.specs.Targets.{goes_on as falls_on}
use Rattle.cb_shapes.specs.declared.action.Action.{Action}
use Rattle.cb_shapes.specs.declared.action.Action.TheVariants as actions
use Rattle.cb_verify.specs.declared.verification_type.VerificationType.TheVariants.{Object}
use Rattle.cb_verify.specs.Frames as verified
use Rattle.cb_verify.specs.Typed.{IsTyped}
use Rattle.cb_safety.specs.Advancing.{Advances, HoldsOn, HoldsOwn, IsSpelled}
use Rattle.cb_safety.specs.Making.{HasSite, HasSites, is_of_arrays}
use Rattle.cb_safety.specs.States.{IsTypedState}
use Rattle.cb_safety.specs.Throwing.{AreThrown}
use Rattle.cb_safety.proofs.ArraysMade.{AreArrays, arrays_made, kind, site}
use Rattle.cb_safety.proofs.Assigned.{mapped}
use Rattle.cb_safety.proofs.Going.{Planned, Stage, advances_by, now_at, running, stage_of}
use Rattle.cb_safety.proofs.Lists.{all_at}
use Rattle.cb_safety.proofs.MadeNames.{MakesArrays, arrays_are_named, count_of}
use Rattle.cb_safety.proofs.Makings.{Nested}
use Rattle.cb_safety.proofs.Sited.{has_sites}
use Rattle.cb_safety.proofs.Throwing.{throws_typed}

-- ---- the kinds by the names

-- no class has the name of an array
no_array_class : (classes : List ClassFile) (rest : List ℕ) → AllByRecursion HasOwnName classes → class_number classes (bracket ∷ rest) ≡ None
no_array_class classes rest named = by (class_number classes (bracket ∷ rest)) refl
  where
    by : (found : Option ℕ) → class_number classes (bracket ∷ rest) ≡ found → found ≡ None
    by None told = refl
    by (Some class) told =
        mapped name_of (slice_get classes class) (bracket ∷ rest)
        (sym (slice_get-map name_of classes class) ∙ text_at (map name_of classes) (bracket ∷ rest) class told)
        (λ file there same. absurd (false≢true (sym (all_at HasOwnName classes class file named there) ∙ ap is_array same)))

module _ (machine : Machine) (whole : IsWhole machine.program) (sites : HasSites machine.program) (holds : HoldsOwn machine.program) (method pc most : ℕ) (some : 0 < most)
    (nested : (dimension : ℕ) → dimension < most → Nested (made_at machine.program method pc) most dimension) where
  has : (dimension : ℕ) → (low : dimension < most) → HasSite machine.program method pc dimension (bracket ∷ (nested dimension low).rest)
  has dimension low = sites method pc dimension (bracket ∷ (nested dimension low).rest) (nested dimension low).here

  kind_is : (dimension : ℕ) → (low : dimension < most) → kind machine method pc dimension ≡ kind_number machine.program.kinds (bracket ∷ (nested dimension low).rest)
  kind_is dimension low = ap (λ (site : ℕ). kind_of_site machine.program site) (ap or_zero (has dimension low).is) ∙ (has dimension low).kind

  there : (dimension : ℕ) → (low : dimension < most) → slice_get machine.program.kinds (kind machine method pc dimension) ≡ Some (bracket ∷ (nested dimension low).rest)
  there dimension low = ap (slice_get machine.program.kinds) (kind_is dimension low) ∙ (has dimension low).there

  is_low : (dimension : ℕ) → dimension < most → kind machine method pc dimension < length machine.program.kinds
  is_low dimension low = slice_get_within machine.program.kinds (kind machine method pc dimension) (bracket ∷ (nested dimension low).rest) (there dimension low)

  has_element : (dimension : ℕ) → (low : dimension < most) → element_of machine.program (kind machine method pc dimension) ≡ Some (basic_of machine.program.kinds (nested dimension low).rest)
  has_element dimension low = ap (λ (name : Option (List ℕ)). component_of machine.program.kinds (or_none name)) (there dimension low)

  next_is : (dimension : ℕ) → (low : dimension < most) → (next : dimension + 1 < most) → (nested dimension low).rest ≡ bracket ∷ (nested (dimension + 1) next).rest
  next_is dimension low next =
      same_Some (nested dimension low).rest (bracket ∷ (nested (dimension + 1) next).rest) (sym ((nested dimension low).next next) ∙ (nested (dimension + 1) next).here)

  are_arrays : AreArrays machine.program method pc most (site machine method pc) (kind machine method pc)
  are_arrays = record {
    some = some;
    sited = λ own low. (has own low).is ∙ ap Some (sym (ap or_zero (has own low).is));
    low = λ own low. subst (λ (site : ℕ). site < length (site_kinds machine.program)) (sym (ap or_zero (has own low).is)) (has own low).low;
    arrays = λ own low. record {
      low = is_low own low;
      no_class = ap (option_and_then (class_number machine.program.classes)) (there own low) ∙ no_array_class machine.program.classes (nested own low).rest whole.named;
      element = basic_of machine.program.kinds (nested own low).rest;
      elements = has_element own low;
      own = holds (kind machine method pc own) (is_low own low);
    };
    nested = λ own next.
        let low : own < most = omega (arith, next) in
        has_element own low
        ∙ ap (λ (name : List ℕ). Some (basic_of machine.program.kinds name)) (next_is own low next)
        ∙ ap (λ (kind : ℕ). Some (basics.Reference kind)) (sym (kind_is (own + 1) next));
  }

  pub outermost : (name : List ℕ) → slice_get (made_at machine.program method pc) 0 ≡ Some name → kind_number machine.program.kinds name ≡ kind machine method pc 0
  outermost name is =
      ap (kind_number machine.program.kinds) (same_Some name (bracket ∷ (nested 0 some).rest) (sym is ∙ (nested 0 some).here)) ∙ sym (kind_is 0 some)

-- ---- the instructions

module _ (machine : Machine) (state : State) (frame : MethodFrame) (below : List Frame) (insn : Insn) (spelled : IsSpelled machine.program) (whole : IsWhole machine.program)
    (sites : HasSites machine.program) (holds : HoldsOwn machine.program) (throws_size : IsTypedState machine.program (made (throws machine state negative_size)))
    (is_there : insn_in (code_at machine.program frame.method) frame.pc ≡ Some insn) where
  planned : (action : Action) (stage : Stage machine state frame below insn action) → falls_on action ≡ true → MakesArrays machine state frame below insn whole is_there action stage
      → Planned machine.program (makes_arrays (now_at machine state frame below) (count_of action))
  planned action stage falling made =
      let same : kind_number stage.method.program.kinds made.given.name ≡ kind machine frame.method frame.pc 0 =
      (λ i. kind_number (stage.own i).kinds made.given.name)
      ∙ outermost machine whole sites holds frame.method frame.pc (count_of action) made.named.some made.named.each made.given.name made.made in
      arrays_made machine state frame below insn action stage throws_size falling (count_of action)
      (are_arrays machine whole sites holds frame.method frame.pc (count_of action) made.named.some made.named.each) made.types made.rest made.takes
      (subst (λ (kind : ℕ). verified.with_stack stage.method.body.max_stack stage.types (Object kind ∷ made.rest) ≡ Some stage.after) same made.given.fits)

  named : (action : Action) → action_of insn ≡ Some action → is_of_arrays action ≡ true → (stage : Stage machine state frame below insn action)
      → MakesArrays machine state frame below insn whole is_there action stage
  named = arrays_are_named machine state frame below insn whole is_there spelled

  advances_as : (action : Action) → action_of insn ≡ Some action → Stage machine state frame below insn action → is_of_arrays action ≡ true
      → Planned machine.program (done (now_at machine state frame below) insn.operand action)
  advances_as (actions.NewNumbers code) so stage is = planned (actions.NewNumbers code) stage refl (named (actions.NewNumbers code) so is stage)
  advances_as (actions.NewReferences index) so stage is = planned (actions.NewReferences index) stage refl (named (actions.NewReferences index) so is stage)
  advances_as (actions.NewArrays index dimensions) so stage is = planned (actions.NewArrays index dimensions) stage refl (named (actions.NewArrays index dimensions) so is stage)
  advances_as other so stage is = absurd (false≢true is)

pub arrays_made_advance : (machine : Machine) (state : State) (frame : MethodFrame) (below : List Frame) (insn : Insn) (action : Action)
    → IsTyped machine.program → IsSpelled machine.program → HoldsOn machine.program → IsWhole machine.program → HoldsOwn machine.program → AreThrown machine.program → IsTypedState machine.program state
    → state.exit ≡ None → state.roots.pending ≡ 0 → state.roots.frames ≡ OfMethod frame ∷ below
    → insn_in (code_at machine.program frame.method) frame.pc ≡ Some insn → action_of insn ≡ Some action → is_of_arrays action ≡ true → Advances machine state
arrays_made_advance machine state frame below insn action fits spelled on whole holds thrown typed none idle frames here so is =
    advances_by machine state (done (now_at machine state frame below) insn.operand action)
    (running machine state frame below insn action none idle frames here so)
    (advances_as machine state frame below insn spelled whole (has_sites machine.program whole) holds
    (throws_typed machine state negative_size typed (thrown negative_size (3, omega arith, refl)))
    here action so (stage_of machine state frame below insn action fits spelled on typed idle frames here so) is)
