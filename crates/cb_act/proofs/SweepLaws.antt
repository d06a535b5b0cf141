-- Whether a step calls `System.gc` is seen of what its instruction does.
use Rattle.std.proofs.Common.{◌≡◌, ◌∙◌, ap, refl, subst, sym, ℕ, Bool, true, false, List, length, Option, Some, None, option_and_then, slice_get}
use Rattle.std.specs.Prelude.{option_map, if◌then◌else◌, ◌==◌, ◌&&◌}
use Rattle.std.proofs.lemmas.Option.{same_Some}
use Rattle.cb_classfile.specs.declared.body.Body.{Body}
use Rattle.cb_classfile.specs.declared.method.Method.{Method}
use Rattle.cb_heap.specs.Reading.{View}
use Rattle.cb_library.specs.declared.native.Native.{Native}
use Rattle.cb_library.specs.declared.native.Native.TheVariants as natives
use Rattle.cb_insn.specs.declared.insn.Insn.{Insn}
use Rattle.cb_link.specs.Decoding.{decoded_as}
use Rattle.cb_link.specs.Named.{named}
use Rattle.cb_link.specs.Numbers.{Numbered}
use Rattle.cb_link.specs.Program.{Linked}
use Rattle.cb_link.specs.declared.decoded.Decoded.{Decoded}
use Rattle.cb_link.specs.declared.named.Named.{Named}
use Rattle.cb_link.specs.declared.named.Named.TheVariants as meanings
use Rattle.cb_machine.specs.Calling.{asked_sorts}
use Rattle.cb_machine.specs.Machine.{Machine, class_declaring, method_numbered}
use Rattle.cb_machine.specs.Natives.{native_of}
use Rattle.cb_machine.specs.Sites.{stack_overflow}
use Rattle.cb_machine.specs.Standing.{taken}
use Rattle.cb_plain.specs.State.{State}
use Rattle.cb_plain.specs.declared.class_state.ClassState.{ClassState}
use Rattle.cb_plain.specs.declared.class_state.ClassState.TheVariants.{Busy, Done, Failed, Untouched}
use Rattle.cb_plain.specs.declared.value.Value.{Value}
use Rattle.cb_frames.specs.Tops.{top_stack}
use Rattle.cb_shapes.specs.Shapes.{action_of}
use Rattle.cb_shapes.specs.declared.action.Action.{Action}
use Rattle.cb_shapes.specs.declared.action.Action.TheVariants as actions
use Rattle.cb_act.specs.Acting.{Asks, Deed, Does, acted, acted_as, by_body, invoked, need_of, on_method, or_need, static_call, static_deed, when_ready, without_body}
use Rattle.cb_act.specs.Here.{Here}
use Rattle.cb_act.specs.Steps.{view_of}
use Rattle.cb_act.specs.Sweeping.{calls_gc, gc_by_action, gc_by_body, gc_by_class, gc_by_frames, gc_by_method, gc_by_name, is_gc, is_usable}
use Rattle.cb_act.specs.declared.need.Need.TheVariants as needs

-- what isn't asking for it
abbrev pub NotGc : Linked → Deed → Type 0
NotGc program (Does view) = Unit {0}
NotGc program (Asks (needs.Performs method)) = is_gc (native_of program method) ≡ false
NotGc program (Asks other) = Unit {0}

module _ (program : Linked) (limit : ℕ) (view : View) where
  -- nothing is asked for
  module _ (deed : Deed) (not : NotGc program deed) where
    native_still : (method : ℕ) (native : Option Native) → native_of program method ≡ native → without_body method native ≡ deed → is_gc native ≡ false
    native_still method None same is = refl
    native_still method (Some native) same is =
        let own : is_gc (native_of program method) ≡ false = subst (NotGc program) (sym is) not in
        sym (ap is_gc same) ∙ own

    body_still : (method count : ℕ) (body : Option Body) → by_body program limit view method count body ≡ deed → gc_by_body program method body ≡ false
    body_still method count (Some body) is = refl
    body_still method count None is = native_still method (native_of program method) refl is

    call_still : (method count : ℕ) (found : Option (Numbered Method))
        → option_map (λ numbered. by_body program limit view method count numbered.member.body) found ≡ Some deed → gc_by_method program method found ≡ false
    call_still method count None is = refl
    call_still method count (Some numbered) is = body_still method count numbered.member.body (same_Some _ deed is)

    taken_still : (method : ℕ) (found : Option (List Value × List Value)) → option_and_then (invoked program limit view method) found ≡ Some deed
        → gc_by_method program method (method_numbered program method) ≡ false
    taken_still method None is = absurd (cc is)
    taken_still method (Some held) is = call_still method (length held.0) (method_numbered program method) is

    ready_still : (method class : ℕ) (state : Option ClassState)
        → option_and_then (λ state. or_need (static_call program limit view method) (need_of class state)) state ≡ Some deed
        → (is_usable state && gc_by_method program method (method_numbered program method)) ≡ false
    ready_still method class None is = refl
    ready_still method class (Some Untouched) is = refl
    ready_still method class (Some Failed) is = refl
    ready_still method class (Some Busy) is = taken_still method (taken (asked_sorts program method) (top_stack view.roots)) is
    ready_still method class (Some Done) is = taken_still method (taken (asked_sorts program method) (top_stack view.roots)) is

    class_still : (method : ℕ) (found : Option ℕ) → option_and_then (λ class. when_ready view class (static_call program limit view method)) found ≡ Some deed
        → gc_by_class program view.roots method found ≡ false
    class_still method None is = refl
    class_still method (Some class) is = ready_still method class (slice_get view.roots.classes class) is

    name_still : (named : Named) → on_method (static_deed program limit view) named ≡ Some deed → gc_by_name program view.roots named ≡ false
    name_still (meanings.Method method) is = class_still method (class_declaring program method) is
    name_still other is = refl

    pub action_still : (decoded : Decoded) (action : Option Action) → option_and_then (acted_as program limit decoded view) action ≡ Some deed
        → gc_by_action program view.roots decoded.named action ≡ false
    action_still decoded (Some (actions.InvokeStatic index)) is = name_still decoded.named is
    action_still decoded other is = refl

  -- it is
  module _ (method : ℕ) (gc : native_of program method ≡ Some natives.SystemGc) where
    abbrev Performs : Deed
    Performs = Asks (needs.Performs method)

    native_asked : (own : ℕ) (native : Option Native) → native_of program own ≡ native → without_body own native ≡ Performs → is_gc native ≡ true
    native_asked own None same is = absurd (cc is)
    native_asked own (Some native) same is =
        let one : own ≡ method = cc is in
        ap is_gc (sym same ∙ ap (native_of program) one ∙ gc)

    never_entered : (body : Body) (room : Bool) (left : View) → (if room then Does left else Asks (needs.Throws stack_overflow)) ≡ Performs → ⊥
    never_entered body true left is = cc is
    never_entered body false left is = cc is

    body_asked : (own count : ℕ) (body : Option Body) → by_body program limit view own count body ≡ Performs → gc_by_body program own body ≡ true
    body_asked own count (Some body) is = absurd (never_entered body _ _ is)
    body_asked own count None is = native_asked own (native_of program own) refl is

    call_asked : (own count : ℕ) (found : Option (Numbered Method))
        → option_map (λ numbered. by_body program limit view own count numbered.member.body) found ≡ Some Performs → gc_by_method program own found ≡ true
    call_asked own count None is = absurd (cc is)
    call_asked own count (Some numbered) is = body_asked own count numbered.member.body (same_Some _ Performs is)

    taken_asked : (own : ℕ) (found : Option (List Value × List Value)) → option_and_then (invoked program limit view own) found ≡ Some Performs
        → gc_by_method program own (method_numbered program own) ≡ true
    taken_asked own None is = absurd (cc is)
    taken_asked own (Some held) is = call_asked own (length held.0) (method_numbered program own) is

    ready_asked : (own class : ℕ) (state : Option ClassState)
        → option_and_then (λ state. or_need (static_call program limit view own) (need_of class state)) state ≡ Some Performs
        → (is_usable state && gc_by_method program own (method_numbered program own)) ≡ true
    ready_asked own class None is = absurd (cc is)
    ready_asked own class (Some Untouched) is = absurd (cc is)
    ready_asked own class (Some Failed) is = absurd (cc is)
    ready_asked own class (Some Busy) is = taken_asked own (taken (asked_sorts program own) (top_stack view.roots)) is
    ready_asked own class (Some Done) is = taken_asked own (taken (asked_sorts program own) (top_stack view.roots)) is

    class_asked : (own : ℕ) (found : Option ℕ) → option_and_then (λ class. when_ready view class (static_call program limit view own)) found ≡ Some Performs
        → gc_by_class program view.roots own found ≡ true
    class_asked own None is = absurd (cc is)
    class_asked own (Some class) is = ready_asked own class (slice_get view.roots.classes class) is

    pub name_asked : (named : Named) → on_method (static_deed program limit view) named ≡ Some Performs → gc_by_name program view.roots named ≡ true
    name_asked (meanings.Method own) is = class_asked own (class_declaring program own) is
    name_asked other is = absurd (cc is)

module _ (machine : Machine) (state : State) (decoded : Decoded) (at : Here machine state decoded) where
  abbrev here : Decoded
  here = decoded_as machine.program at.frame.method at.frame.pc at.insn

  gc_here : calls_gc machine.program state ≡ gc_by_action machine.program state.roots here.named here.action
  gc_here =
      ap (λ (pending : ℕ). if pending == 0 then gc_by_frames machine.program state.roots state.roots.frames else false) at.quiet
      ∙ ap (gc_by_frames machine.program state.roots) at.frames
      ∙ ap (λ (found : Option Insn). gc_by_action machine.program state.roots (named machine.program at.frame.method at.frame.pc) (option_and_then (λ insn. action_of insn) found)) at.there

  acted_here : (deed : Deed) → acted machine.program machine.frames decoded (view_of state) ≡ Some deed → acted machine.program machine.frames here (view_of state) ≡ Some deed
  acted_here deed is = sym (ap (λ (decoded : Decoded). acted machine.program machine.frames decoded (view_of state)) at.is) ∙ is

  pub no_gc : (deed : Deed) → acted machine.program machine.frames decoded (view_of state) ≡ Some deed → NotGc machine.program deed → calls_gc machine.program state ≡ false
  no_gc deed is not = gc_here ∙ action_still machine.program machine.frames (view_of state) deed not here here.action (acted_here deed is)

  pub gc_asked : (method index : ℕ) → action_of at.insn ≡ Some (actions.InvokeStatic index)
      → acted machine.program machine.frames decoded (view_of state) ≡ Some (Asks (needs.Performs method)) → native_of machine.program method ≡ Some natives.SystemGc
      → calls_gc machine.program state ≡ true
  gc_asked method index acts is gc =
      let asks : option_and_then (acted_as machine.program machine.frames here (view_of state)) (Some (actions.InvokeStatic index)) ≡ Some (Asks (needs.Performs method)) =
      ap (option_and_then (acted_as machine.program machine.frames here (view_of state))) (sym acts) ∙ acted_here (Asks (needs.Performs method)) is in
      gc_here ∙ ap (gc_by_action machine.program state.roots here.named) acts ∙ name_asked machine.program machine.frames (view_of state) method gc here.named asks
