use Rattle.std.proofs.Common.{◌∙◌, inl, inr, refl, sym}
use Rattle.cb_act.specs.Turning.{machine_of, state_of}
use Rattle.cb_heap.specs.Storage.{view_in}
use Rattle.cb_library.specs.declared.native.NativeForm.TheVariants as forms
use Rattle.cb_interp.proofs.NativeTurns.{inside}
use Rattle.cb_interp.proofs.RunSteps.{silent_ends}
use Rattle.cb_interp.proofs.Sweeps.{native_still}
use Rattle.cb_interp.proofs.needed_turns.performed_turn.Goals as goal

pub returns-in-Text : goal.returns-in-Text
returns-in-Text g c =
    silent_ends g.I.Source.left g.I.Source.gave g.S.Store.rules c.args.program.now g.outside (g.S.Store.storage c.args.store.now) (g.S.Store.storage c.perform_turn.new.store) c.args.roots.now c.perform_turn.new.roots c.args.input.now (g.I.Source.faults c.args.input.now) (g.O.Sink.taken c.args.out.now) (g.O.Sink.faults c.args.out.now) c.perform_turn.result
    (native_still (machine_of c.args.program.now c.args.roots.now.limit) (state_of (view_in (g.S.Store.storage c.args.store.now) c.args.roots.now.roots) g.outside) c.args.decoded.now c.requires.1.1.1.1.0 c.args.native c.requires.1.1.1.1.1 (elim c.in-Text.is [ inl is ↦ inside c.args.native forms.Text (sym c.form.ensures ∙ is) refl | inr other ↦ elim other [ inl is ↦ inside c.args.native forms.OwnFields (sym c.form.ensures ∙ is) refl | inr is ↦ inside c.args.native forms.Table (sym c.form.ensures ∙ is) refl ] ])) c.perform_turn.ensures

pub returns-in-Array : goal.returns-in-Array
returns-in-Array g c =
    silent_ends g.I.Source.left g.I.Source.gave g.S.Store.rules c.args.program.now g.outside (g.S.Store.storage c.args.store.now) (g.S.Store.storage c.array_turn.new.store) c.args.roots.now c.array_turn.new.roots c.args.input.now (g.I.Source.faults c.args.input.now) (g.O.Sink.taken c.args.out.now) (g.O.Sink.faults c.args.out.now) c.array_turn.result
    (native_still (machine_of c.args.program.now c.args.roots.now.limit) (state_of (view_in (g.S.Store.storage c.args.store.now) c.args.roots.now.roots) g.outside) c.args.decoded.now c.requires.1.1.1.1.0 c.args.native c.requires.1.1.1.1.1 (inside c.args.native forms.Array (sym c.form.ensures ∙ c.in-Array.is) refl)) c.array_turn.ensures

pub returns-in-Answer : goal.returns-in-Answer
returns-in-Answer g c =
    silent_ends g.I.Source.left g.I.Source.gave g.S.Store.rules c.args.program.now g.outside (g.S.Store.storage c.args.store.now) (g.S.Store.storage c.answering_turn.new.store) c.args.roots.now c.answering_turn.new.roots c.args.input.now (g.I.Source.faults c.args.input.now) (g.O.Sink.taken c.args.out.now) (g.O.Sink.faults c.args.out.now) c.answering_turn.result
    (native_still (machine_of c.args.program.now c.args.roots.now.limit) (state_of (view_in (g.S.Store.storage c.args.store.now) c.args.roots.now.roots) g.outside) c.args.decoded.now c.requires.1.1.1.1.0 c.args.native c.requires.1.1.1.1.1 (inside c.args.native forms.Answer (sym c.form.ensures ∙ c.in-Answer.is) refl)) c.answering_turn.ensures
