-- An instruction that makes objects has what its turn looks at: a next instruction, and a site of a kind for each dimension. Arrays are of
-- kinds of arrays.
use Rattle.std.proofs.Common.{◌≡◌, ◌∙◌, ap, refl, sym, subst₂, arith, ℕ, zero, suc, ◌+◌, ◌<◌, ◌≤◌, true, List, ◌∷◌, length, Option, Some}
use Rattle.std.proofs.lemmas.Option.{same_Some, slice_get_within}
use Rattle.std.specs.Prelude.{is_some, slice_get}
use Rattle.cb_frames.specs.Tops.{topmost}
use Rattle.cb_frames.specs.declared.frame.Frame.{Frame as Shown}
use Rattle.cb_frames.specs.declared.frame.Frame.TheVariants as shown
use Rattle.cb_heap.specs.Reading.{View, seen}
use Rattle.cb_kinds.specs.Basics.{component_of}
use Rattle.cb_link.specs.Having.{IsWhole}
use Rattle.cb_link.specs.Named.{IsSite, made_at}
use Rattle.cb_link.specs.Numbers.{or_none}
use Rattle.cb_link.specs.Program.{Linked}
use Rattle.cb_link.specs.declared.decoded.Decoded.{Decoded}
use Rattle.cb_machine.specs.Arrays.{element_of}
use Rattle.cb_machine.specs.Creating.{blank_element}
use Rattle.cb_machine.specs.Machine.{Machine, kind_of_site}
use Rattle.cb_names.specs.Signs.{bracket}
use Rattle.cb_plain.specs.State.{Object, Reference, Roots, State}
use Rattle.cb_safety.proofs.Laws.{AreNamed, Stage, arrays_are_named, count_of, linked_sound, object_is_named, stage_of}
use Rattle.cb_safety.specs.Linked.{IsLinked}
use Rattle.cb_safety.specs.Making.{HasSite, is_of_arrays}
use Rattle.cb_safety.specs.Sound.{IsSound}
use Rattle.cb_safety.specs.States.{IsTypedState}
use Rattle.cb_shapes.specs.Shapes.{action_of}
use Rattle.cb_shapes.specs.Targets.{goes_on}
use Rattle.cb_shapes.specs.declared.action.Action.{Action}
use Rattle.cb_shapes.specs.declared.action.Action.TheVariants as actions
use Rattle.cb_verify.specs.Typed.{IsTyped}
use Rattle.cb_act.specs.Here.{Here}
use Rattle.cb_interp.specs.Needing.{IsSiteOf, MakesKinds, TellsDimensions}
use Rattle.cb_act.specs.Turning.{Outside, machine_of, state_of}
use Rattle.cb_interp.proofs.SuitedCalls.{goes_on_so}
use Rattle.cb_interp.proofs.TurnsSwitched.{top_again}

abbrev pub method_in : Option Shown → ℕ
method_in (Some (shown.Running method pc)) = method
method_in other = 0

abbrev pub pc_in : Option Shown → ℕ
pc_in (Some (shown.Running method pc)) = pc
pc_in other = 0

module _ (program : Linked) (limit : ℕ) (index : ℕ → ℕ) (objects : List (Option Object)) (held : Roots) (outside : Outside) (decoded : Decoded) where
  abbrev view : View
  view = seen index objects held

  abbrev state : State
  state = state_of view outside

  abbrev machine : Machine
  machine = machine_of program limit

  module _ (at : Here machine state decoded) (linked : IsLinked program) (fits : IsTyped program) (typed : IsTypedState program state) where
    sound : IsSound program
    sound = linked_sound program linked fits

    pub top : topmost held.frames ≡ Some (shown.Running at.frame.method at.frame.pc)
    top = sym (top_again index held) ∙ ap topmost at.frames

    does : (action : Action) → decoded.action ≡ Some action → action_of at.insn ≡ Some action
    does action is = sym (ap (λ (decoded : Decoded). decoded.action) at.is) ∙ is

    stage : (action : Action) → decoded.action ≡ Some action → Stage machine state at.frame at.below at.insn action
    stage action is = stage_of machine state at.frame at.below at.insn action fits sound.spelled sound.holds_on typed at.quiet at.frames at.there (does action is)

    -- it goes on
    pub next_there : (action : Action) → decoded.action ≡ Some action → goes_on action ≡ true → is_some decoded.next ≡ true
    next_there action is on = let (pc, next) = goes_on_so machine state decoded at fits sound typed action is on in ap is_some next

    -- the kind of a site has the name of what the instruction makes
    kind_there : TellsDimensions program → (dimension site : ℕ) (name : List ℕ) → IsSiteOf program held dimension site
        → slice_get (made_at program at.frame.method at.frame.pc) dimension ≡ Some name → slice_get program.kinds (kind_of_site program site) ≡ Some name
    kind_there tells dimension site name here made =
        let same : Some (shown.Running here.method here.pc) ≡ Some (shown.Running at.frame.method at.frame.pc) = sym here.top ∙ top in
        let own : IsSite program at.frame.method at.frame.pc dimension site =
        subst₂ (λ (method pc : ℕ). IsSite program method pc dimension site) (ap method_in same) (ap pc_in same) here.is in
        let has : HasSite program at.frame.method at.frame.pc dimension name = sound.sites at.frame.method at.frame.pc dimension name made in
        let number : has.number ≡ site = same_Some has.number site (sym has.is ∙ tells at.frame.method at.frame.pc dimension site own) in
        ap (λ (site : ℕ). slice_get program.kinds (kind_of_site program site)) (sym number) ∙ ap (slice_get program.kinds) has.kind ∙ has.there

    -- it is one of the program's
    pub site_kind_low : TellsDimensions program → (dimension site : ℕ) → IsSiteOf program held dimension site → kind_of_site program site < length program.kinds
    site_kind_low tells dimension site here =
        let same : Some (shown.Running here.method here.pc) ≡ Some (shown.Running at.frame.method at.frame.pc) = sym here.top ∙ top in
        let own : IsSite program at.frame.method at.frame.pc dimension site =
        subst₂ (λ (method pc : ℕ). IsSite program method pc dimension site) (ap method_in same) (ap pc_in same) here.is in
        slice_get_within program.kinds (kind_of_site program site) own.kind (kind_there tells dimension site own.kind here own.makes)

    module _ (whole : IsWhole program) where
      pub object_kinds : (number : ℕ) → decoded.action ≡ Some (actions.New number) → MakesKinds program held 1
      object_kinds number is =
          let object = object_is_named machine state at.frame at.below at.insn whole at.there number (does (actions.New number) is) (stage (actions.New number) is) in
          let low = slice_get_within (made_at program at.frame.method at.frame.pc) 0 object.named.name object.made in
          record { method = at.frame.method; pc = at.frame.pc; top = top; all = omega (arith, low) }

      module _ (action : Action) (is : decoded.action ≡ Some action) (arrays : is_of_arrays action ≡ true) where
        pub named : AreNamed program at.frame.method at.frame.pc (count_of action)
        named = (arrays_are_named machine state at.frame at.below at.insn whole at.there sound.spelled action (does action is) arrays (stage action is)).named

        pub some_arrays : 0 < count_of action
        some_arrays = named.some

        pub array_kinds : (count : ℕ) → count ≤ count_of action → MakesKinds program held count
        array_kinds count most = record { method = at.frame.method; pc = at.frame.pc; top = top; all = all count most } where
          all : (count : ℕ) → count ≤ count_of action → count ≤ length (made_at program at.frame.method at.frame.pc)
          all zero most = omega arith
          all (suc last) most =
              let nested = named.each last (omega (arith, most)) in
              let low = slice_get_within (made_at program at.frame.method at.frame.pc) last (bracket ∷ nested.rest) nested.here in
              omega (arith, low)

        -- the objects of each dimension are arrays
        pub elements_there : TellsDimensions program → (dimension site : ℕ) → dimension < count_of action → IsSiteOf program held dimension site
            → is_some (element_of program (kind_of_site program site)) ≡ true
        elements_there tells dimension site low here =
            let nested = named.each dimension low in
            ap (λ (name : Option (List ℕ)). is_some (component_of program.kinds (or_none name)))
            (kind_there tells dimension site (bracket ∷ nested.rest) here nested.here)

        -- and refer to others, but for those of the last
        pub references_there : TellsDimensions program → (dimension site : ℕ) → dimension + 1 < count_of action → IsSiteOf program held dimension site
            → blank_element program (kind_of_site program site) ≡ Reference 0
        references_there tells dimension site low here =
            let nested = named.each dimension (omega (arith, low)) in
            let next = named.each (dimension + 1) low in
            let rest : nested.rest ≡ bracket ∷ next.rest = same_Some nested.rest (bracket ∷ next.rest) (sym (nested.next low) ∙ next.here) in
            let there : slice_get program.kinds (kind_of_site program site) ≡ Some (bracket ∷ bracket ∷ next.rest) =
            kind_there tells dimension site (bracket ∷ nested.rest) here nested.here ∙ ap (λ (rest : List ℕ). Some (bracket ∷ rest)) rest in
            rw there refl
