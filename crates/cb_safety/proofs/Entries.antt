-- Methods of which no place fails, and the frames before their instructions.
use Rattle.std.proofs.Common.{◌≡◌, ◌∙◌, inl, inr, ap, refl, sym, arith, ℕ, ◌+◌, ◌<◌, ◌≤◌, ◌==◌, Bool, true, false, cond, not, ◌||◌, ◌&&◌, List, [], ◌∷◌, ◌++◌, length, map, Option, Some, None}
use Rattle.std.specs.Prelude.{filter, option_and_then, option_map, slice_get, if◌then◌else◌}
use Rattle.std.specs.List.{AllByRecursion, find, list_all}
use Rattle.std.proofs.lemmas.Bool.{and_parts, cases_lt, not-false}
use Rattle.cb_classfile.specs.declared.body.Body.{Body}
use Rattle.cb_classfile.specs.declared.method.Method.{Method}
use Rattle.cb_insn.specs.declared.insn.Insn.{Insn}
use Rattle.cb_link.specs.declared.linked.LinkedMethod.{LinkedMethod}
use Rattle.cb_link.specs.Named.{code_at, code_in, code_of}
use Rattle.cb_link.specs.Numbers.{Numbered, methods_of}
use Rattle.cb_link.specs.Program.{Linked}
use Rattle.cb_shapes.specs.Targets.{targets_of}
use Rattle.cb_verify.specs.Expansion.{declared}
use Rattle.cb_verify.specs.Framed.{frame_at_place, frame_in, framed, framed_at, frames_in, frames_of, typing_of}
use Rattle.cb_verify.specs.Frames.{Frame}
use Rattle.cb_verify.specs.Leaving.{left}
use Rattle.cb_verify.specs.Typed.{Declared, IsTyped, Placed, after, arrives, begins, covers, failing, failing_in, falls, first_failing, fits, fits_with, goes_on_to, is_handled, is_lost, least, placed_in}
use Rattle.cb_verify.specs.Within.{Within, of_class, with_body, within}
use Rattle.cb_safety.proofs.Searching.{all_weaker, found_all, none_both, none_kept, none_mapped, numbered, numbered_past}

-- ---- a method of a program

-- the method of a number, with its program and its code
pub record IsMethod (program : Linked) (number : ℕ) (method : Within) : Type 0 where
  pub own : method.program ≡ program
  pub code : code_at program number ≡ method.body.code

abbrev program_in : Linked → Option Within → Linked
program_in program None = program
program_in program (Some method) = method.program

abbrev code_within : Option Within → List (ℕ × Insn)
code_within None = []
code_within (Some method) = method.body.code

is_method : (program : Linked) (number : ℕ) (method : Within) (linked : Option LinkedMethod) (found : Option (Numbered Method))
    → option_and_then (λ (linked : LinkedMethod). option_and_then (of_class program number linked.class) (option_map (λ (own : Numbered Method). own.member) found)) linked ≡ Some method
    → (method.program ≡ program) × (code_of found ≡ method.body.code)
is_method program number method None found so = absurd (cc so)
is_method program number method (Some linked) None so = absurd (cc so)
is_method program number method (Some linked) (Some own) so = go own.member.body so where
  go : (body : Option Body) → with_body program number linked.class own.member body ≡ Some method → (method.program ≡ program) × (code_in body ≡ method.body.code)
  go None so = absurd (cc so)
  go (Some body) so =
      (sym (ap (λ (found : Option Within). program_in program found) so), ap code_within so)

pub within_method : (program : Linked) (number : ℕ) (method : Within) → within program number ≡ Some method → IsMethod program number method
within_method program number method so =
    let both : (method.program ≡ program) × (code_at program number ≡ method.body.code) =
    is_method program number method (slice_get program.methods number) (slice_get (methods_of program.classes) number) so in
    record { own = both.0; code = both.1 }

-- the frames of the method of a number are its row of the typing
frames_at : (program : Linked) (number pc : ℕ) → number < length program.methods → frame_in (typing_of program) number pc ≡ frame_at_place pc (frames_in (within program number))
frames_at program number pc low =
    ap (option_and_then (frame_at_place pc)) (numbered (λ (number : ℕ). frames_in (within program number)) 0 (length program.methods) number low)
    ∙ ap (λ (number : ℕ). frame_at_place pc (frames_in (within program number))) (let same : 0 + number ≡ number = omega arith in same)

none_past : (program : Linked) (number pc : ℕ) → length program.methods ≤ number → frame_in (typing_of program) number pc ≡ None
none_past program number pc past =
    ap (option_and_then (frame_at_place pc)) (numbered_past (λ (number : ℕ). frames_in (within program number)) 0 (length program.methods) number past)

pub framed_low : (program : Linked) (number pc : ℕ) (frame : Frame) → frame_in (typing_of program) number pc ≡ Some frame → number < length program.methods
framed_low program number pc frame so = elim (cases_lt number (length program.methods)) [
  | inl low ↦ low
  | inr past ↦ absurd (cc (sym (none_past program number pc past) ∙ so))
]

pub framed_within : (program : Linked) (number pc : ℕ) (frame : Frame) → frame_in (typing_of program) number pc ≡ Some frame → (method : Within) × (within program number ≡ Some method)
framed_within program number pc frame so = go (within program number) (sym (frames_at program number pc (framed_low program number pc frame so)) ∙ so) where
  go : (method : Option Within) → frame_at_place pc (frames_in method) ≡ Some frame → (own : Within) × (method ≡ Some own)
  go None so = absurd (cc so)
  go (Some method) so = (method, refl)

pub frames_within : (program : Linked) (number pc : ℕ) (method : Within) → number < length program.methods → within program number ≡ Some method
    → frame_in (typing_of program) number pc ≡ frame_at_place pc (frames_of method)
frames_within program number pc method low so = frames_at program number pc low ∙ ap (λ (method : Option Within). frame_at_place pc (frames_in method)) so

-- ---- no place of it fails

-- each instruction fits, and no declared frame is lost
pub record IsFit (method : Within) (frames : Declared) (placed : List Placed) : Type 0 where
  pub fit : AllByRecursion (λ own. fits method frames own ≡ true) placed
  pub kept : AllByRecursion (λ entry. is_lost placed entry ≡ false) frames

none_least : (numbers : List ℕ) → least numbers ≡ None → numbers ≡ []
none_least [] so = refl
none_least (number ∷ numbers) so = absurd (cc so)

none_fails : (method : Within) (frames : Declared) (placed : List Placed) → failing_in method frames placed ≡ [] → IsFit method frames placed
none_fails method frames placed so =
    let beginning : List ℕ = if begins method frames then [] else 0 ∷ [] in
    let unfit : List ℕ = map (λ (own : Placed). own.place) (filter (λ (own : Placed). not (fits method frames own)) placed) in
    let lost : List ℕ = map (λ (entry : ℕ × Option Frame). entry.0) (filter (is_lost placed) frames) in
    let (front, back) = none_both (beginning ++ unfit) lost so in
    let (begun, walked) = none_both beginning unfit front in
    record {
      fit = all_weaker (λ (own : Placed). not (fits method frames own) ≡ false) (λ (own : Placed). fits method frames own ≡ true) (λ own so. not-false (fits method frames own) so) placed
          (none_kept (λ (own : Placed). not (fits method frames own)) placed (none_mapped (λ (own : Placed). own.place) (filter (λ (own : Placed). not (fits method frames own)) placed) walked));
      kept = none_kept (is_lost placed) frames (none_mapped (λ (entry : ℕ × Option Frame). entry.0) (filter (is_lost placed) frames) back);
    }

pub typed_fit : (program : Linked) (number : ℕ) (method : Within) → IsTyped program → number < length program.methods → within program number ≡ Some method
    → IsFit method (declared method) (placed_in method)
typed_fit program number method typed low so =
    none_fails method (declared method) (placed_in method) (none_least (failing method) (sym (ap (option_and_then first_failing) so) ∙ typed.fit number low))

-- ---- an instruction that fits, with the frame before it

pub record Fits (method : Within) (frames : Declared) (own : Placed) (before : Frame) : Type 0 where
  pub after : Frame
  pub leaves : left method own.place own.insn before ≡ Some after
  pub targets : list_all (arrives method frames after) (targets_of own.insn.operand) ≡ true
  pub next : (not (falls own.insn) || goes_on_to method frames after own.next) ≡ true
  pub handlers : list_all (is_handled method frames before) (filter (covers own.place) method.body.handlers) ≡ true

pub has_before : (method : Within) (frames : Declared) (own : Placed) → fits method frames own ≡ true → (before : Frame) × (own.before ≡ Some before)
has_before method frames own so = go own.before so where
  go : (before : Option Frame) → fits_with method frames own.place own.insn own.next before (after method (own.place, own.insn) before) ≡ true
      → (frame : Frame) × (before ≡ Some frame)
  go None so = absurd (cc so)
  go (Some before) so = (before, refl)

pub fits_parts : (method : Within) (frames : Declared) (own : Placed) (before : Frame) → fits method frames own ≡ true → own.before ≡ Some before → Fits method frames own before
fits_parts method frames own before so had =
    go (left method own.place own.insn before) refl
    (sym (ap (λ (before : Option Frame). fits_with method frames own.place own.insn own.next before (after method (own.place, own.insn) before)) had) ∙ so)
  where
    go : (leaves : Option Frame) → left method own.place own.insn before ≡ leaves → fits_with method frames own.place own.insn own.next (Some before) leaves ≡ true
        → Fits method frames own before
    go None leaves so = absurd (cc so)
    go (Some behind) leaves so =
        let goes : Bool = list_all (arrives method frames behind) (targets_of own.insn.operand) in
        let next : Bool = not (falls own.insn) || goes_on_to method frames behind own.next in
        let handles : Bool = list_all (is_handled method frames before) (filter (covers own.place) method.body.handlers) in
        let (first, handled) = and_parts (goes && next) handles so in
        let (gone, fallen) = and_parts goes next first in
        record { after = behind; leaves = leaves; targets = gone; next = fallen; handlers = handled }

-- ---- the frame at a place is the one before the instruction there

abbrev pub stands_at : ℕ → Placed → Bool
stands_at pc own = own.place == pc

abbrev first_before : ℕ → List Placed → Option Frame
first_before pc placed = option_and_then (λ own. own.before) (find (stands_at pc) placed)

framed_first : (pc place : ℕ) (before : Option Frame) (frame : Frame) (rest : List (ℕ × Frame)) → before ≡ Some frame
    → frame_at_place pc (framed_at place before ++ rest) ≡ cond (place == pc) before (frame_at_place pc rest)
framed_first pc place None frame rest had = absurd (cc had)
framed_first pc place (Some before) frame rest had = go (place == pc) where
  go : (here : Bool) → option_map (λ (entry : ℕ × Frame). entry.1) (cond here (Some (place, before)) (find (λ (entry : ℕ × Frame). entry.0 == pc) rest))
      ≡ cond here (Some before) (frame_at_place pc rest)
  go true = refl
  go false = refl

before_first : (pc : ℕ) (own : Placed) (placed : List Placed) → first_before pc (own ∷ placed) ≡ cond (own.place == pc) own.before (first_before pc placed)
before_first pc own placed = go (own.place == pc) where
  go : (here : Bool) → option_and_then (λ (own : Placed). own.before) (cond here (Some own) (find (stands_at pc) placed)) ≡ cond here own.before (first_before pc placed)
  go true = refl
  go false = refl

frame_first : (method : Within) (frames : Declared) (pc : ℕ) (placed : List Placed) → AllByRecursion (λ own. fits method frames own ≡ true) placed
    → frame_at_place pc (framed placed) ≡ first_before pc placed
frame_first method frames pc [] all = refl
frame_first method frames pc (own ∷ placed) all =
    let (before, had) = has_before method frames own all.0 in
    framed_first pc own.place own.before before (framed placed) had
    ∙ ap (cond (own.place == pc) own.before) (frame_first method frames pc placed all.1)
    ∙ sym (before_first pc own placed)

-- the first instruction at a place that has a frame
pub record StandsFirst (method : Within) (frames : Declared) (placed : List Placed) (pc : ℕ) (frame : Frame) : Type 0 where
  pub own : Placed
  pub found : find (stands_at pc) placed ≡ Some own
  pub had : own.before ≡ Some frame
  pub fits : Fits method frames own frame

pub stands_first : (method : Within) (frames : Declared) (placed : List Placed) (pc : ℕ) (frame : Frame) → AllByRecursion (λ own. fits method frames own ≡ true) placed
    → frame_at_place pc (framed placed) ≡ Some frame → StandsFirst method frames placed pc frame
stands_first method frames placed pc frame all so = go (find (stands_at pc) placed) refl (sym (frame_first method frames pc placed all) ∙ so) where
  go : (found : Option Placed) → find (stands_at pc) placed ≡ found → option_and_then (λ (own : Placed). own.before) found ≡ Some frame → StandsFirst method frames placed pc frame
  go None is had = absurd (cc had)
  go (Some own) is had = record {
    own = own;
    found = is;
    had = had;
    fits = fits_parts method frames own frame (found_all (λ (own : Placed). fits method frames own ≡ true) (stands_at pc) placed own all is) had;
  }

pub frame_found : (method : Within) (frames : Declared) (placed : List Placed) (pc : ℕ) (own : Placed) → AllByRecursion (λ own. fits method frames own ≡ true) placed
    → find (stands_at pc) placed ≡ Some own → frame_at_place pc (framed placed) ≡ own.before
frame_found method frames placed pc own all is = frame_first method frames pc placed all ∙ ap (option_and_then (λ (own : Placed). own.before)) is
