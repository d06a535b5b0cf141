-- Where the frame before an instruction that fits arrives.
use Rattle.std.proofs.Common.{◌≡◌, ◌∙◌, inl, inr, ap, refl, sym, subst, ℕ, ◌<◌, ◌==◌, Bool, true, false, not, List, Option, Some, None}
use Rattle.std.specs.Prelude.{is_none, option_map, length}
use Rattle.std.specs.List.{AllByRecursion, find, list_any}
use Rattle.std.proofs.lemmas.Bool.{and_parts, not-false, or_parts}
use Rattle.cb_classfile.specs.declared.handler.Handler.{Handler}
use Rattle.cb_insn.specs.declared.insn.Insn.{Insn}
use Rattle.cb_link.specs.Named.{behind_in}
use Rattle.cb_link.specs.Program.{Linked}
use Rattle.cb_verify.specs.declared.verification_type.VerificationType.TheVariants.{Object}
use Rattle.cb_verify.specs.Expansion.{declared, declared_at, start}
use Rattle.cb_verify.specs.Framed.{frame_in, typing_of}
use Rattle.cb_verify.specs.Frames.{Frame, frame_goes_to}
use Rattle.cb_verify.specs.Typed.{Declared, IsTyped, Placed, after as after_insn, arrives, arrives_at, caught_kind, goes_on_at, goes_on_to, is_handled_as, is_lost, frame_at, onwards, placed_in}
use Rattle.cb_verify.specs.Types.{goes_to}
use Rattle.cb_verify.specs.Within.{Within, kind_of_throwable, within}
use Rattle.cb_safety.specs.Flows.{Arrives, FallsTo, Handles, Rises, thrown_into}
use Rattle.cb_safety.proofs.Entries.{IsFit, IsMethod, frame_found, frames_within, stands_at, typed_fit, within_method}
use Rattle.cb_safety.proofs.Placing.{IsPlaced, StandsBehind, found_placed, same_place, stands_behind}
use Rattle.cb_safety.proofs.Searching.{any_found, found_all, found_passes}

-- ---- a declared frame is the one before the instruction at its place

abbrev is_entry : ℕ → ℕ × Option Frame → Bool
is_entry place entry = entry.0 == place

-- an entry that isn't lost stands at an instruction
some_there : (placed : List Placed) (entry : ℕ × Option Frame) → is_lost placed entry ≡ false → (own : Placed) × (find (stands_at entry.0) placed ≡ Some own)
some_there placed entry so =
    let (had, any) = or_parts (is_none entry.1) (not (list_any (stands_at entry.0) placed)) so in
    any_found (stands_at entry.0) placed (not-false (list_any (stands_at entry.0) placed) any)

declared_entry : (frames : Declared) (place : ℕ) (there : Option Frame) → declared_at frames place ≡ Some there → (entry : ℕ × Option Frame) × (find (is_entry place) frames ≡ Some entry)
declared_entry frames place there so = go (find (is_entry place) frames) so where
  go : (found : Option (ℕ × Option Frame)) → option_map (λ (entry : ℕ × Option Frame). entry.1) found ≡ Some there → (entry : ℕ × Option Frame) × (found ≡ Some entry)
  go None so = absurd (cc so)
  go (Some entry) so = (entry, refl)

some_at : (placed : List Placed) (frames : Declared) (place : ℕ) (there : Option Frame) → AllByRecursion (λ entry. is_lost placed entry ≡ false) frames
    → declared_at frames place ≡ Some there → (own : Placed) × (find (stands_at place) placed ≡ Some own)
some_at placed frames place there kept so =
    let (entry, found) = declared_entry frames place there so in
    let here : entry.0 ≡ place = same_place entry.0 place (found_passes (is_entry place) frames entry found) in
    let (own, is) = some_there placed entry (found_all (λ (entry : ℕ × Option Frame). is_lost placed entry ≡ false) (is_entry place) frames entry kept found) in
    (own, ap (λ (place : ℕ). find (stands_at place) placed) (sym here) ∙ is)

-- the frame before an instruction where one is declared, and where none is
declared_before : (frames : Declared) (place : ℕ) (arrived there : Option Frame) → declared_at frames place ≡ Some there → frame_at frames place arrived ≡ there
declared_before frames place arrived there so = rw so refl

arrived_before : (frames : Declared) (place : ℕ) (arrived : Option Frame) → declared_at frames place ≡ None → frame_at frames place arrived ≡ arrived
arrived_before frames place arrived so = rw so refl

-- ---- what holds of a method that is typed

pub record IsTypedMethod (program : Linked) (number : ℕ) (method : Within) : Type 0 where
  pub low : number < length program.methods
  pub within : within program number ≡ Some method
  pub is : IsMethod program number method
  pub fit : IsFit method (declared method) (placed_in method)

pub typed_method : (program : Linked) (number : ℕ) (method : Within) → IsTyped program → number < length program.methods → within program number ≡ Some method
    → IsTypedMethod program number method
typed_method program number method typed low so = record { low = low; within = so; is = within_method program number method so; fit = typed_fit program number method typed low so }

module _ (program : Linked) (number : ℕ) (method : Within) (typed : IsTypedMethod program number method) where
  -- the frame before an instruction that is the first at its place
  frame_there : (place : ℕ) (own : Placed) (frame : Frame) → find (stands_at place) (placed_in method) ≡ Some own → own.before ≡ Some frame
      → frame_in (typing_of program) number place ≡ Some frame
  frame_there place own frame found had =
      frames_within program number place method typed.low typed.within ∙ frame_found method (declared method) (placed_in method) place own typed.fit.fit found ∙ had

  pub frame_declared : (place : ℕ) (there : Frame) → declared_at (declared method) place ≡ Some (Some there) → frame_in (typing_of program) number place ≡ Some there
  frame_declared place there so =
      let (own, found) = some_at (placed_in method) (declared method) place (Some there) typed.fit.kept so in
      let is : IsPlaced (declared method) method.body.code place own = found_placed method (declared method) (start method) method.body.code place own found in
      frame_there place own there found (is.before ∙ declared_before (declared method) place is.arrived (Some there) so)

  goes_there : (frame : Frame) (place : ℕ) (there : Frame) → declared_at (declared method) place ≡ Some (Some there) → frame_goes_to method.program frame there ≡ true
      → Arrives program number frame place
  goes_there frame place there so goes =
      record { there = there; before = frame_declared place there so; goes = inr (subst (λ (program : Linked). frame_goes_to program frame there ≡ true) typed.is.own goes) }

  -- a frame arrives at a target, or at a handler
  pub arrives_there : (frame : Frame) (place : ℕ) → arrives method (declared method) frame place ≡ true → Arrives program number frame place
  arrives_there frame place so = go (declared_at (declared method) place) refl so where
    go : (found : Option (Option Frame)) → declared_at (declared method) place ≡ found → arrives_at method frame found ≡ true → Arrives program number frame place
    go None is so = absurd (cc so)
    go (Some None) is so = absurd (cc so)
    go (Some (Some there)) is so = goes_there frame place there is so

  -- and at the next instruction, also where none is declared there
  goes_on_there : (own : Placed) (pc : ℕ) (frame : Frame) (place : ℕ) → Rises method.body.code → find (stands_at pc) (placed_in method) ≡ Some own → own.next ≡ Some place
      → onwards own.insn (after_insn method (own.place, own.insn) own.before) ≡ Some frame → goes_on_at method frame (declared_at (declared method) place) ≡ true
      → Arrives program number frame place
  goes_on_there own pc frame place rises found next onward so = go (declared_at (declared method) place) refl so where
    go : (there : Option (Option Frame)) → declared_at (declared method) place ≡ there → goes_on_at method frame there ≡ true → Arrives program number frame place
    go None is so =
        let behind : StandsBehind method (declared method) (placed_in method) own place = stands_behind method (declared method) (start method) method.body.code pc own place rises found next in
        record {
          there = frame;
          before = frame_there place behind.other frame behind.found (behind.before ∙ arrived_before (declared method) place (onwards own.insn (after_insn method (own.place, own.insn) own.before)) is ∙ onward);
          goes = inl refl;
        }
    go (Some None) is so = absurd (cc so)
    go (Some (Some there)) is so = goes_there frame place there is so

  pub falls_there : (own : Placed) (pc : ℕ) (frame : Frame) → Rises method.body.code → find (stands_at pc) (placed_in method) ≡ Some own → behind_in method.body.code pc ≡ own.next
      → onwards own.insn (after_insn method (own.place, own.insn) own.before) ≡ Some frame → goes_on_to method (declared method) frame own.next ≡ true
      → FallsTo program number pc frame
  falls_there own pc frame rises found behind onward so = go own.next refl so where
    go : (next : Option ℕ) → own.next ≡ next → goes_on_to method (declared method) frame next ≡ true → FallsTo program number pc frame
    go None is so = absurd (cc so)
    go (Some place) is so =
        record {
          place = place;
          behind = ap (λ (code : List (ℕ × Insn)). behind_in code pc) typed.is.code ∙ behind ∙ is;
          arrives = goes_on_there own pc frame place rises found is onward so;
        }

  -- handlers take the frame before an instruction
  pub handles : (frame : Frame) (handler : Handler) → is_handled_as method (declared method) frame handler.handler (caught_kind method handler) ≡ true
      → Handles program number method frame handler
  handles frame handler so = go (caught_kind method handler) refl so where
    go : (kind : Option ℕ) → caught_kind method handler ≡ kind → is_handled_as method (declared method) frame handler.handler kind ≡ true → Handles program number method frame handler
    go None is so = absurd (cc so)
    go (Some kind) is so =
        let (thrown, arrived) = and_parts (goes_to method.program (Object kind) (Object kind_of_throwable)) (arrives method (declared method) (thrown_into frame kind) handler.handler) so in
        record {
          kind = kind;
          caught = is;
          throwable = subst (λ (program : Linked). goes_to program (Object kind) (Object kind_of_throwable) ≡ true) typed.is.own thrown;
          arrives = arrives_there (thrown_into frame kind) handler.handler arrived;
        }
