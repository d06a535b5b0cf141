-- In a typed program the frame with which a method begins comes to its first instruction.
use Rattle.std.proofs.Common.{◌≡◌, ◌∙◌, inl, inr, ap, refl, sym, subst, arith, ℕ, ◌<◌, ◌==◌, Bool, true, false, not, List, [], ◌∷◌, ◌++◌, length, map, Option, Some, None}
use Rattle.std.specs.Prelude.{filter, option_and_then, if◌then◌else◌}
use Rattle.std.specs.List.{find}
use Rattle.std.proofs.lemmas.Bool.{cases_lt, false≢true}
use Rattle.std.proofs.lemmas.Option.{slice_get_past}
use Rattle.cb_insn.specs.Grammar.{SpellsFrom}
use Rattle.cb_insn.specs.declared.insn.Insn.{Insn}
use Rattle.cb_link.specs.declared.linked.LinkedMethod.{LinkedMethod}
use Rattle.cb_link.specs.Program.{Linked}
use Rattle.cb_verify.specs.Expansion.{declared, declared_at, start}
use Rattle.cb_verify.specs.Framed.{frame_in, typing_of}
use Rattle.cb_verify.specs.Frames.{Frame, frame_goes_to}
use Rattle.cb_verify.specs.Typed.{Declared, IsTyped, Placed, after, begins, failing, failing_in, first_failing, first_place, fits, fits_with, frame_at, goes_on_at, is_lost, least, onwards, placed_behind, placed_in}
use Rattle.cb_verify.specs.Within.{Within, method_at, of_class, within}
use Rattle.cb_safety.specs.Advancing.{IsSpelled}
use Rattle.cb_safety.specs.Beginning.{Begins, HasCode}
use Rattle.cb_safety.proofs.Arriving.{IsTypedMethod, frame_declared, typed_method}
use Rattle.cb_safety.proofs.Assigned.{never}
use Rattle.cb_safety.proofs.Entries.{frame_found, frames_within, stands_at, within_method}
use Rattle.cb_safety.proofs.Searching.{found_all, found_if, none_both}

-- ---- a method's number

pub within_low : (program : Linked) (number : ℕ) (method : Within) → within program number ≡ Some method → number < length program.methods
within_low program number method so = elim (cases_lt number (length program.methods)) [
  | inl low ↦ low
  | inr past ↦ never (sym (ap (option_and_then (λ (linked : LinkedMethod). option_and_then (of_class program number linked.class) (method_at program number)))
      (slice_get_past program.methods number past)) ∙ so)
]

-- ---- its beginning doesn't fail

none_least : (numbers : List ℕ) → least numbers ≡ None → numbers ≡ []
none_least [] so = refl
none_least (number ∷ numbers) so = absurd (cc so)

none_when : (test : Bool) (numbers other : List ℕ) → (if test then numbers else other) ≡ [] → (other ≡ [] → ⊥) → test ≡ true
none_when true numbers other so some = refl
none_when false numbers other so some = absurd (some so)

zero_some : (numbers : List ℕ) → 0 ∷ numbers ≡ [] → ⊥
zero_some numbers so = absurd (cc so)

none_fails : (method : Within) (frames : Declared) (placed : List Placed) → failing_in method frames placed ≡ [] → begins method frames ≡ true
none_fails method frames placed so =
    let beginning : List ℕ = if begins method frames then [] else 0 ∷ [] in
    let unfit : List ℕ = map (λ (own : Placed). own.place) (filter (λ (own : Placed). not (fits method frames own)) placed) in
    let lost : List ℕ = map (λ (entry : ℕ × Option Frame). entry.0) (filter (is_lost placed) frames) in
    none_when (begins method frames) [] (0 ∷ []) (none_both beginning unfit (none_both (beginning ++ unfit) lost so).0).0 (zero_some [])

begins_well : (program : Linked) (number : ℕ) (method : Within) → IsTyped program → within program number ≡ Some method → begins method (declared method) ≡ true
begins_well program number method typed so =
    none_fails method (declared method) (placed_in method)
    (none_least (failing method) (sym (ap (option_and_then first_failing) so) ∙ typed.fit number (within_low program number method so)))

-- ---- the first instruction

pub record IsFirst (code : List (ℕ × Insn)) : Type 0 where
  pub placed : ℕ × Insn
  pub rest : List (ℕ × Insn)
  pub is : code ≡ placed ∷ rest
  pub zero_is : placed.0 ≡ 0

first_in : (code : List (ℕ × Insn)) (bytes : List ℕ) → 0 < length code → SpellsFrom 0 code bytes → IsFirst code
first_in [] bytes some spells = absurd (omega (arith, some))
first_in ((place, insn) ∷ code) bytes some (first, rest, same, own, spelled, more) = record { placed = (place, insn); rest = code; is = refl; zero_is = same }

zero_stands : (place : ℕ) → place ≡ 0 → (place == 0) ≡ true
zero_stands place same = ap (λ (own : ℕ). own == 0) same

module _ (program : Linked) (number : ℕ) (method : Within) (typed : IsTypedMethod program number method) (first : IsFirst method.body.code) where
  abbrev own : Placed
  own = record { place = first.placed.0; insn = first.placed.1; next = first_place first.rest; before = frame_at (declared method) first.placed.0 (start method) }

  first_found : find (stands_at 0) (placed_in method) ≡ Some own
  first_found =
      ap (λ (code : List (ℕ × Insn)). find (stands_at 0) (placed_behind method (declared method) (start method) code)) first.is
      ∙ found_if (stands_at 0) own
      (placed_behind method (declared method) (onwards first.placed.1 (after method first.placed (frame_at (declared method) first.placed.0 (start method)))) first.rest)
      true (zero_stands first.placed.0 first.zero_is)

  -- the frame there is the one with which the method begins, where none is declared
  first_frame : declared_at (declared method) 0 ≡ None → frame_in (typing_of program) number 0 ≡ start method
  first_frame none =
      frames_within program number 0 method typed.low typed.within
      ∙ frame_found method (declared method) (placed_in method) 0 own typed.fit.fit first_found
      ∙ ap (λ (place : ℕ). frame_at (declared method) place (start method)) first.zero_is
      ∙ rw none refl

  -- and it is there, since the first instruction fits
  has_before : (before : Option Frame) (leaves : Option Frame) → fits_with method (declared method) own.place own.insn own.next before leaves ≡ true → before ≡ None → ⊥
  has_before before leaves so none = false≢true (sym (ap (λ (before : Option Frame). fits_with method (declared method) own.place own.insn own.next before leaves) none) ∙ so)

  start_there : declared_at (declared method) 0 ≡ None → start method ≡ None → ⊥
  start_there undeclared none =
      has_before own.before (after method (own.place, own.insn) own.before)
      (found_all (λ (own : Placed). fits method (declared method) own ≡ true) (stands_at 0) (placed_in method) own typed.fit.fit first_found)
      (ap (λ (place : ℕ). frame_at (declared method) place (start method)) first.zero_is ∙ rw undeclared none)

  abbrev unseen : Option (Option Frame) → Bool
  unseen None = true
  unseen (Some there) = false

  abbrev begun_of : Option Frame → Bool
  begun_of None = unseen (declared_at (declared method) 0)
  begun_of (Some frame) = goes_on_at method frame (declared_at (declared method) 0)

  begins_with : (frame : Frame) → start method ≡ Some frame → (there : Option (Option Frame)) → declared_at (declared method) 0 ≡ there → goes_on_at method frame there ≡ true
      → Begins program number method
  begins_with frame some None undeclared so = record {
    frame = frame;
    starts = some;
    arrives = record { there = frame; before = first_frame undeclared ∙ some; goes = inl refl };
  }
  begins_with frame some (Some None) is so = absurd (false≢true so)
  begins_with frame some (Some (Some there)) is so = record {
    frame = frame;
    starts = some;
    arrives = record {
      there = there;
      before = frame_declared program number method typed 0 there is;
      goes = inr (subst (λ (own : Linked). frame_goes_to own frame there ≡ true) typed.is.own so);
    };
  }

  begins_unseen : start method ≡ None → (there : Option (Option Frame)) → declared_at (declared method) 0 ≡ there → unseen there ≡ true → Begins program number method
  begins_unseen none None undeclared so = absurd (start_there undeclared none)
  begins_unseen none (Some there) is so = absurd (false≢true so)

  begins_by : (found : Option Frame) → start method ≡ found → begun_of found ≡ true → Begins program number method
  begins_by None none so = begins_unseen none (declared_at (declared method) 0) refl so
  begins_by (Some frame) some so = begins_with frame some (declared_at (declared method) 0) refl so

pub method_begins : (program : Linked) (number : ℕ) (method : Within) → IsTyped program → IsSpelled program → HasCode program → within program number ≡ Some method
    → Begins program number method
method_begins program number method typed spelled has so =
    begins_by program number method of first (start method) refl (begins_well program number method typed so)
  where
    of : IsTypedMethod program number method
    of = typed_method program number method typed (within_low program number method so) so

    first : IsFirst method.body.code
    first =
        let (bytes, spells) = spelled number in
        first_in method.body.code bytes (has number method so)
        (subst (λ (code : List (ℕ × Insn)). SpellsFrom 0 code bytes) (within_method program number method so).code spells.spelled)
