-- What a native is given at its call: arguments of the types that it takes.
use Rattle.std.proofs.Common.{◌≡◌, ◌∙◌, ap, refl, sym, subst, ℕ, suc, Bool, true, false, List, ◌∷◌, ◌++◌, length, reverse, Some, option_and_then}
use Rattle.cb_hierarchy.specs.declared.selected.Selected.{Selected}
use Rattle.cb_hierarchy.specs.declared.selected.Selected.TheVariants as chosen
use Rattle.cb_insn.specs.declared.insn.Insn.{Insn}
use Rattle.cb_insn.specs.declared.opcode.TheConstants as opcodes
use Rattle.cb_kinds.specs.Texts.{number_of}
use Rattle.cb_library.specs.declared.native.Native.{Native}
use Rattle.cb_link.specs.Calls.{select}
use Rattle.cb_link.specs.Having.{parameters_at}
use Rattle.cb_link.specs.Named.{code_at, insn_in, named}
use Rattle.cb_link.specs.Numbers.{class_number}
use Rattle.cb_link.specs.Program.{Linked, linked_method}
use Rattle.cb_link.specs.Special.{class_declaring, holder_named, special}
use Rattle.cb_link.specs.declared.named.Named.TheVariants as meanings
use Rattle.cb_machine.specs.Calling.{implementing}
use Rattle.cb_machine.specs.Machine.{Machine}
use Rattle.cb_machine.specs.Natives.{native_of}
use Rattle.cb_plain.specs.State.{Frame, MethodFrame, Object as StateObject, OfMethod, State}
use Rattle.cb_plain.specs.Updates.{object_in}
use Rattle.cb_plain.specs.declared.value.Value.{Value}
use Rattle.cb_plain.specs.declared.value.Value.TheVariants as values
use Rattle.cb_shapes.specs.Shapes.{action_of}
use Rattle.cb_shapes.specs.declared.action.Action.{Action}
use Rattle.cb_shapes.specs.declared.action.Action.TheVariants as actions
use Rattle.cb_verify.specs.Typed.{IsTyped}
use Rattle.cb_verify.specs.Within.{Within, is_init, name_at}
use Rattle.cb_verify.specs.declared.verification_type.VerificationType.{VerificationType}
use Rattle.cb_safety.specs.Given.{AreTaken, RunsOn}
use Rattle.cb_safety.specs.Held.{HaveTypes}
use Rattle.cb_safety.specs.Kinds.{Kinds, kinds_of}
use Rattle.cb_safety.specs.Linked.{IsLinked}
use Rattle.cb_safety.specs.Performing.{HasNatives, HasSignature}
use Rattle.cb_safety.specs.States.{IsTypedState}
use Rattle.cb_safety.proofs.CallNames.{NamesMethod, call_of as opcode_of, names_method}
use Rattle.cb_safety.proofs.Called.{Call, call_of}
use Rattle.cb_safety.proofs.ConstructorCalls.{constructor_takes}
use Rattle.cb_safety.proofs.LinkedNatives.{has_natives}
use Rattle.cb_safety.proofs.Links.{Links, links}
use Rattle.cb_safety.proofs.Receiving.{OnObject}
use Rattle.cb_safety.proofs.Runs.{Takes, given_typed, linked_there}
use Rattle.cb_safety.proofs.SpecialCalls.{special_takes}
use Rattle.cb_safety.proofs.StaticCalls.{static_takes}
use Rattle.cb_safety.proofs.VirtualCalls.{interface_takes, virtual_takes}

-- ---- by the signature of the native

are_taken : (program : Linked) → Links program → HasNatives program → (kinds : Kinds) (from : Within) (number : ℕ) (native : Native) (arguments : List Value) → from.program ≡ program
    → native_of program number ≡ Some native → Takes program kinds from number arguments → AreTaken program kinds native arguments
are_taken program linked natives kinds from number native arguments own is takes = record {
  method = from;
  own = own;
  have = subst (λ (types : List VerificationType). HaveTypes from kinds types arguments) signature.takes (given_typed program kinds from takes.own arguments own takes.given);
}
  where
    signature : HasSignature program native (linked_method program.kinds takes.own) takes.own
    signature = natives.signatures number native (linked_method program.kinds takes.own) takes.own is (linked_there program linked.whole number takes.own takes.there) takes.there

-- ---- by the instruction

module _ (machine : Machine) (state : State) (frame : MethodFrame) (below : List Frame) (insn : Insn) (linked : IsLinked machine.program) (fits : IsTyped machine.program)
    (typed : IsTypedState machine.program state) (zero : state.roots.pending ≡ 0) (frames : state.roots.frames ≡ OfMethod frame ∷ below)
    (there : insn_in (code_at machine.program frame.method) frame.pc ≡ Some insn) where
  them : Links machine.program
  them = links machine.program linked

  call : (action : Action) → action_of insn ≡ Some action → Call machine state frame below insn action
  call action so = call_of machine state frame below insn action fits them.spelled them.holds typed zero frames there so

  names_at : (action : Action) (so : action_of insn ≡ Some action) (opcode index : ℕ) → opcode_of action ≡ Some (opcode, index)
      → NamesMethod machine.program frame.method frame.pc opcode index (call action so).at.method
  names_at action so opcode index is =
      names_method machine.program them.whole them.formed them.none them.spelled frame.method frame.pc (call action so).at.method insn action (opcode, index)
      (call action so).at.within there so is

  module _ (resolved number : ℕ) (arguments rest : List Value) (names : named machine.program frame.method frame.pc ≡ meanings.Method resolved)
      (stack : frame.stack ≡ reverse arguments ++ rest) where
    -- what the instruction names is that
    callee_is : (opcode index : ℕ) (method : Within) (own : NamesMethod machine.program frame.method frame.pc opcode index method) → resolved ≡ own.callee.number
    callee_is opcode index method own = let same : meanings.Method resolved ≡ meanings.Method own.callee.number = sym names ∙ own.names in cc same

    so_many : (callee count : ℕ) → resolved ≡ callee → count ≡ length (parameters_at machine.program resolved) → count ≡ length (parameters_at machine.program callee)
    so_many callee count same are = are ∙ ap (λ (number : ℕ). length (parameters_at machine.program number)) same

    static_by : (index : ℕ) (at : Call machine state frame below insn (actions.InvokeStatic index))
        → NamesMethod machine.program frame.method frame.pc opcodes.INVOKESTATIC index at.at.method → resolved ≡ number → length arguments ≡ length (parameters_at machine.program resolved)
        → Takes machine.program (kinds_of state.objects) at.at.method number arguments
    static_by index at own same count =
        let callee : resolved ≡ own.callee.number = callee_is opcodes.INVOKESTATIC index at.at.method own in
        subst (λ (number : ℕ). Takes machine.program (kinds_of state.objects) at.at.method number arguments) (sym callee ∙ same)
        (static_takes machine state frame below insn index them at own arguments rest stack (so_many own.callee.number (length arguments) callee count))

    -- on an object
    module _ (place : ℕ) (object : StateObject) (others : List Value) (are : arguments ≡ values.Ref (suc place) ∷ others)
        (count : length others ≡ length (parameters_at machine.program resolved)) (at_place : object_in state.objects (suc place) ≡ Some object) where
      abbrev on_object : (callee : ℕ) → resolved ≡ callee → OnObject state frame (length (parameters_at machine.program callee)) arguments
      on_object callee same = record {
        rest = rest;
        stack = stack;
        place = place;
        object = object;
        others = others;
        are = are;
        so_many = so_many callee (length others) same count;
        there = at_place;
      }

      abbrev special_of : ℕ → ℕ → Selected
      special_of index callee =
          special machine.program callee (class_declaring machine.program frame.method)
          (option_and_then (class_number machine.program.classes) (holder_named machine.program frame.method index))

      special_by : (index : ℕ) (at : Call machine state frame below insn (actions.InvokeSpecial index))
          → NamesMethod machine.program frame.method frame.pc opcodes.INVOKESPECIAL index at.at.method → special_of index resolved ≡ chosen.Method number
          → Takes machine.program (kinds_of state.objects) at.at.method number arguments
      special_by index at own runs = by (is_init (name_at at.at.method index)) refl where
        callee : resolved ≡ own.callee.number
        callee = callee_is opcodes.INVOKESPECIAL index at.at.method own

        so : special_of index own.callee.number ≡ chosen.Method number
        so = subst (λ (callee : ℕ). special_of index callee ≡ chosen.Method number) callee runs

        by : (init : Bool) → is_init (name_at at.at.method index) ≡ init → Takes machine.program (kinds_of state.objects) at.at.method number arguments
        by true init = constructor_takes machine state frame below insn index them at own init number arguments (on_object own.callee.number callee) so
        by false init = special_takes machine state frame below insn index them at own init number arguments (on_object own.callee.number callee) so

      virtual_by : (index : ℕ) (at : Call machine state frame below insn (actions.InvokeVirtual index))
          → NamesMethod machine.program frame.method frame.pc opcodes.INVOKEVIRTUAL index at.at.method → select machine.program object.kind resolved ≡ chosen.Method number
          → Takes machine.program (kinds_of state.objects) at.at.method number arguments
      virtual_by index at own runs =
          let callee : resolved ≡ own.callee.number = callee_is opcodes.INVOKEVIRTUAL index at.at.method own in
          virtual_takes machine state frame below insn index them at own number arguments (on_object own.callee.number callee)
          (subst (λ (callee : ℕ). select machine.program object.kind callee ≡ chosen.Method number) callee runs)

      abbrev implemented : ℕ → ℕ → Selected
      implemented index callee =
          implementing machine.program callee (option_and_then (number_of machine.program.kinds) (holder_named machine.program frame.method index)) object.kind

      interface_by : (index many : ℕ) (at : Call machine state frame below insn (actions.InvokeInterface index many))
          → NamesMethod machine.program frame.method frame.pc opcodes.INVOKEINTERFACE index at.at.method → implemented index resolved ≡ chosen.Method number
          → Takes machine.program (kinds_of state.objects) at.at.method number arguments
      interface_by index many at own runs =
          let callee : resolved ≡ own.callee.number = callee_is opcodes.INVOKEINTERFACE index at.at.method own in
          interface_takes machine state frame below insn index many them at own number arguments (on_object own.callee.number callee)
          (subst (λ (callee : ℕ). implemented index callee ≡ chosen.Method number) callee runs)

    taken_on : (action : Action) → RunsOn machine.program state.objects frame.method resolved number arguments action → (so : action_of insn ≡ Some action)
        → Takes machine.program (kinds_of state.objects) (call action so).at.method number arguments
    taken_on action (RunsOn.Statically index same count) so =
        static_by index (call (actions.InvokeStatic index) so) (names_at (actions.InvokeStatic index) so opcodes.INVOKESTATIC index refl) same count
    taken_on action (RunsOn.Specially index place object others are count at runs) so =
        special_by place object others are count at index (call (actions.InvokeSpecial index) so) (names_at (actions.InvokeSpecial index) so opcodes.INVOKESPECIAL index refl) runs
    taken_on action (RunsOn.Virtually index place object others are count at runs) so =
        virtual_by place object others are count at index (call (actions.InvokeVirtual index) so) (names_at (actions.InvokeVirtual index) so opcodes.INVOKEVIRTUAL index refl) runs
    taken_on action (RunsOn.ByInterface index many place object others are count at runs) so =
        interface_by place object others are count at index many (call (actions.InvokeInterface index many) so)
        (names_at (actions.InvokeInterface index many) so opcodes.INVOKEINTERFACE index refl) runs

pub arguments_are_given : (machine : Machine) (state : State) (frame : MethodFrame) (below : List Frame) (insn : Insn) (action : Action) (resolved number : ℕ) (native : Native)
    (arguments rest : List Value)
    → IsLinked machine.program → IsTyped machine.program → IsTypedState machine.program state → state.roots.pending ≡ 0 → state.roots.frames ≡ OfMethod frame ∷ below
    → insn_in (code_at machine.program frame.method) frame.pc ≡ Some insn → action_of insn ≡ Some action
    → named machine.program frame.method frame.pc ≡ meanings.Method resolved → frame.stack ≡ reverse arguments ++ rest
    → RunsOn machine.program state.objects frame.method resolved number arguments action → native_of machine.program number ≡ Some native
    → AreTaken machine.program (kinds_of state.objects) native arguments
arguments_are_given machine state frame below insn action resolved number native arguments rest linked fits typed zero frames there so names stack runs is =
    let at : Call machine state frame below insn action = call machine state frame below insn linked fits typed zero frames there action so in
    are_taken machine.program (links machine.program linked) (has_natives machine.program linked fits) (kinds_of state.objects) at.at.method number native arguments at.own is
    (taken_on machine state frame below insn linked fits typed zero frames there resolved number arguments rest names stack action runs so)
