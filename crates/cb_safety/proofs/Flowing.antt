-- Of a typed program, the frame before an instruction flows to wherever the instruction goes.
use Rattle.std.proofs.Common.{◌≡◌, ◌∙◌, ap, sym, subst, ℕ, ◌<◌, Bool, true, not, ◌||◌, List, Some, None, length}
use Rattle.std.specs.Prelude.{if◌then◌else◌}
use Rattle.std.specs.List.{AllByRecursion}
use Rattle.cb_classfile.specs.declared.handler.Handler.{Handler}
use Rattle.cb_insn.specs.declared.insn.Insn.{Insn}
use Rattle.cb_link.specs.Named.{insn_in}
use Rattle.cb_link.specs.Program.{Linked}
use Rattle.cb_shapes.specs.Targets.{targets_of}
use Rattle.cb_verify.specs.Expansion.{declared, start}
use Rattle.cb_verify.specs.Framed.{frame_in, typing_of}
use Rattle.cb_verify.specs.Frames.{Frame}
use Rattle.cb_verify.specs.Leaving.{left}
use Rattle.cb_verify.specs.Typed.{IsTyped, Placed, after as after_insn, arrives, covers, falls, goes_on_to, is_handled, onwards, placed_in}
use Rattle.cb_verify.specs.Within.{Within, within}
use Rattle.cb_safety.specs.Flows.{CodeRises, Flows, Rises}
use Rattle.cb_safety.proofs.Arriving.{IsTypedMethod, arrives_there, falls_there, handles, typed_method}
use Rattle.cb_safety.proofs.Entries.{StandsFirst, framed_low, framed_within, frames_within, stands_first}
use Rattle.cb_safety.proofs.Placing.{IsPlaced, found_placed}
use Rattle.cb_safety.proofs.Searching.{all_each, all_kept, all_pass}

-- a frame may come to a target, and the one before an instruction to a handler that covers it
abbrev TakesFrame : Within → Frame → ℕ → Type 0
TakesFrame method frame place = arrives method (declared method) frame place ≡ true

abbrev TakesThrown : Within → ℕ → Frame → Handler → Type 0
TakesThrown method pc frame handler = covers pc handler ≡ true → is_handled method (declared method) frame handler ≡ true

-- from the first instruction at a place, which fits
flows_from : (program : Linked) (number pc : ℕ) (frame : Frame) (method : Within) → IsTypedMethod program number method → Rises method.body.code
    → StandsFirst method (declared method) (placed_in method) pc frame → Flows program number pc frame
flows_from program number pc frame method typed rises first = record {
  method = method;
  within = typed.within;
  insn = own.insn;
  there = ap (λ (code : List (ℕ × Insn)). insn_in code pc) typed.is.code ∙ is.there;
  after = after;
  leaves = ap (λ (place : ℕ). left method place own.insn frame) (sym is.place) ∙ first.fits.leaves;
  targets = λ place among. arrives_there program number method typed after place (all_each (TakesFrame method after) (targets_of own.insn.operand) place targeted among);
  next = λ falling. falls_there program number method typed own pc after rises first.found is.behind (onward falling) (fallen falling);
  handlers = λ handler among covering. handles program number method typed frame handler
      (all_each (TakesThrown method own.place frame) method.body.handlers handler handled among (ap (λ (place : ℕ). covers place handler) is.place ∙ covering));
}
  where
    own : Placed
    own = first.own

    after : Frame
    after = first.fits.after

    is : IsPlaced (declared method) method.body.code pc own
    is = found_placed method (declared method) (start method) method.body.code pc own first.found

    targeted : AllByRecursion (TakesFrame method after) (targets_of own.insn.operand)
    targeted = all_pass (arrives method (declared method) after) (targets_of own.insn.operand) first.fits.targets

    handled : AllByRecursion (TakesThrown method own.place frame) method.body.handlers
    handled = all_kept (is_handled method (declared method) frame) (covers own.place) method.body.handlers first.fits.handlers

    onward : falls own.insn ≡ true → onwards own.insn (after_insn method (own.place, own.insn) own.before) ≡ Some after
    onward falling =
        ap (onwards own.insn) (ap (after_insn method (own.place, own.insn)) first.had ∙ first.fits.leaves)
        ∙ ap (λ (falling : Bool). if falling then Some after else None) falling

    fallen : falls own.insn ≡ true → goes_on_to method (declared method) after own.next ≡ true
    fallen falling = sym (ap (λ (falling : Bool). not falling || goes_on_to method (declared method) after own.next) falling) ∙ first.fits.next

-- the frame before an instruction of a typed program flows to wherever the instruction goes
pub flows : (program : Linked) (number pc : ℕ) (frame : Frame) → IsTyped program → CodeRises program → frame_in (typing_of program) number pc ≡ Some frame
    → Flows program number pc frame
flows program number pc frame typed rises so =
    let low : number < length program.methods = framed_low program number pc frame so in
    let (method, within) = framed_within program number pc frame so in
    let of : IsTypedMethod program number method = typed_method program number method typed low within in
    flows_from program number pc frame method of (subst Rises of.is.code (rises number))
    (stands_first method (declared method) (placed_in method) pc frame of.fit.fit (sym (frames_within program number pc method low within) ∙ so))
