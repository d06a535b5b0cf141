-- Instructions with the frames before them, and those of the code at the same places.
use Rattle.std.proofs.Common.{◌≡◌, ◌∙◌, inl, inr, ap, refl, sym, subst, arith, ℕ, ◌<◌, ◌==◌, Bool, true, false, List, [], ◌∷◌, Option, Some}
use Rattle.std.specs.Prelude.{option_map, slice_get}
use Rattle.std.specs.List.{AllByRecursion, find}
use Rattle.std.proofs.lemmas.Bool.Decides.{nat_tests}
use Rattle.cb_insn.specs.declared.insn.Insn.{Insn}
use Rattle.cb_link.specs.Named.{behind_in, insn_in}
use Rattle.cb_verify.specs.Frames.{Frame}
use Rattle.cb_verify.specs.Typed.{Declared, Placed, after, first_place, frame_at, onwards, placed_behind}
use Rattle.cb_verify.specs.Within.{Within}
use Rattle.cb_safety.specs.Flows.{Rises}
use Rattle.cb_safety.proofs.Entries.{stands_at}
use Rattle.cb_safety.proofs.Searching.{behind_here, behind_later, found_either, found_if, position_found}

abbrev is_at : ℕ → ℕ × Insn → Bool
is_at pc placed = placed.0 == pc

pub same_place : (one other : ℕ) → (one == other) ≡ true → one ≡ other
same_place one other so = grind (arith, nat_tests)

here_is : (one other : ℕ) → one ≡ other → (one == other) ≡ true
here_is one other so = grind (arith, nat_tests)

not_here : (one other : ℕ) → one < other → (one == other) ≡ false
not_here one other so = grind (arith, nat_tests)

-- ---- the instruction at a place, and the place behind it

insn_found : (code : List (ℕ × Insn)) (pc : ℕ) → insn_in code pc ≡ option_map (λ placed. placed.1) (find (is_at pc) code)
insn_found code pc = ap (option_map (λ (placed : ℕ × Insn). placed.1)) (position_found (is_at pc) code)

insn_here : (placed : ℕ × Insn) (code : List (ℕ × Insn)) (pc : ℕ) → (placed.0 == pc) ≡ true → insn_in (placed ∷ code) pc ≡ Some placed.1
insn_here placed code pc is = insn_found (placed ∷ code) pc ∙ ap (option_map (λ (placed : ℕ × Insn). placed.1)) (found_if (is_at pc) placed code true is)

insn_later : (placed : ℕ × Insn) (code : List (ℕ × Insn)) (pc : ℕ) → (placed.0 == pc) ≡ false → insn_in (placed ∷ code) pc ≡ insn_in code pc
insn_later placed code pc is =
    insn_found (placed ∷ code) pc ∙ ap (option_map (λ (placed : ℕ × Insn). placed.1)) (found_if (is_at pc) placed code false is) ∙ sym (insn_found code pc)

first_is : (code : List (ℕ × Insn)) → option_map (λ placed. placed.0) (slice_get code 0) ≡ first_place code
first_is [] = refl
first_is (placed ∷ code) = refl

next_here : (placed : ℕ × Insn) (code : List (ℕ × Insn)) (pc : ℕ) → (placed.0 == pc) ≡ true → behind_in (placed ∷ code) pc ≡ first_place code
next_here placed code pc is = ap (option_map (λ (placed : ℕ × Insn). placed.0)) (behind_here (is_at pc) placed code is) ∙ first_is code

next_later : (placed : ℕ × Insn) (code : List (ℕ × Insn)) (pc : ℕ) → (placed.0 == pc) ≡ false → behind_in (placed ∷ code) pc ≡ behind_in code pc
next_later placed code pc is = ap (option_map (λ (placed : ℕ × Insn). placed.0)) (behind_later (is_at pc) placed code is)

-- ---- the first one at a place, with the frame before it

abbrev before_at : Declared → Option Frame → ℕ × Insn → Option Frame
before_at frames arrived placed = frame_at frames placed.0 arrived

abbrev first_of : Declared → Option Frame → ℕ × Insn → List (ℕ × Insn) → Placed
first_of frames arrived placed code = record { place = placed.0; insn = placed.1; next = first_place code; before = before_at frames arrived placed }

abbrev left_by : Within → Declared → Option Frame → ℕ × Insn → Option Frame
left_by method frames arrived placed = onwards placed.1 (after method placed (before_at frames arrived placed))

pub record IsPlaced (frames : Declared) (code : List (ℕ × Insn)) (pc : ℕ) (own : Placed) : Type 0 where
  pub place : own.place ≡ pc
  pub there : insn_in code pc ≡ Some own.insn
  pub behind : behind_in code pc ≡ own.next
  pub arrived : Option Frame
  pub before : own.before ≡ frame_at frames pc arrived

placed_here : (frames : Declared) (arrived : Option Frame) (placed : ℕ × Insn) (code : List (ℕ × Insn)) (pc : ℕ) → (placed.0 == pc) ≡ true
    → IsPlaced frames (placed ∷ code) pc (first_of frames arrived placed code)
placed_here frames arrived placed code pc is =
    let same : placed.0 ≡ pc = same_place placed.0 pc is in
    record { place = same; there = insn_here placed code pc is; behind = next_here placed code pc is; arrived = arrived; before = ap (λ (place : ℕ). frame_at frames place arrived) same }

placed_later : (frames : Declared) (placed : ℕ × Insn) (code : List (ℕ × Insn)) (pc : ℕ) (own : Placed) → (placed.0 == pc) ≡ false → IsPlaced frames code pc own
    → IsPlaced frames (placed ∷ code) pc own
placed_later frames placed code pc own is later =
    record { place = later.place; there = insn_later placed code pc is ∙ later.there; behind = next_later placed code pc is ∙ later.behind; arrived = later.arrived; before = later.before }

pub found_placed : (method : Within) (frames : Declared) (arrived : Option Frame) (code : List (ℕ × Insn)) (pc : ℕ) (own : Placed)
    → find (stands_at pc) (placed_behind method frames arrived code) ≡ Some own → IsPlaced frames code pc own
found_placed method frames arrived [] pc own so = absurd (cc so)
found_placed method frames arrived (placed ∷ code) pc own so =
    elim (found_either (stands_at pc) (first_of frames arrived placed code) (placed_behind method frames (left_by method frames arrived placed) code) own so) [
      | inl here ↦ subst (λ (own : Placed). IsPlaced frames (placed ∷ code) pc own) here.1 (placed_here frames arrived placed code pc here.0)
      | inr later ↦ placed_later frames placed code pc own later.0 (found_placed method frames (left_by method frames arrived placed) code pc own later.1)
    ]

-- ---- the one behind it, where places rise

above : (method : Within) (frames : Declared) (arrived : Option Frame) (code : List (ℕ × Insn)) (low pc : ℕ) (own : Placed) → AllByRecursion (λ placed. low < placed.0) code
    → find (stands_at pc) (placed_behind method frames arrived code) ≡ Some own → low < pc
above method frames arrived [] low pc own all so = absurd (cc so)
above method frames arrived (placed ∷ code) low pc own all so =
    elim (found_either (stands_at pc) (first_of frames arrived placed code) (placed_behind method frames (left_by method frames arrived placed) code) own so) [
      | inl here ↦ subst (λ (place : ℕ). low < place) (same_place placed.0 pc here.0) all.0
      | inr later ↦ above method frames (left_by method frames arrived placed) code low pc own all.1 later.1
    ]

-- what stands behind an instruction has what that one leaves, or the frame that is declared there
pub record StandsBehind (method : Within) (frames : Declared) (all : List Placed) (own : Placed) (place : ℕ) : Type 0 where
  pub other : Placed
  pub found : find (stands_at place) all ≡ Some other
  pub before : other.before ≡ frame_at frames place (onwards own.insn (after method (own.place, own.insn) own.before))

right_behind : (method : Within) (frames : Declared) (arrived : Option Frame) (placed : ℕ × Insn) (code : List (ℕ × Insn)) (place : ℕ)
    → AllByRecursion (λ own. placed.0 < own.0) code → first_place code ≡ Some place
    → StandsBehind method frames (placed_behind method frames arrived (placed ∷ code)) (first_of frames arrived placed code) place
right_behind method frames arrived placed [] place all so = absurd (cc so)
right_behind method frames arrived placed (next ∷ code) place all so =
    let same : next.0 ≡ place = cc so in
    let own : Placed = first_of frames arrived placed (next ∷ code) in
    let other : Placed = first_of frames (left_by method frames arrived placed) next code in
    let rest : List Placed = placed_behind method frames (left_by method frames (left_by method frames arrived placed) next) code in
    record {
      other = other;
      found =
          found_if (stands_at place) own (other ∷ rest) false (not_here placed.0 place (subst (λ (place : ℕ). placed.0 < place) same all.0))
          ∙ found_if (stands_at place) other rest true (here_is next.0 place same);
      before = ap (λ (place : ℕ). frame_at frames place (left_by method frames arrived placed)) same;
    }

later_behind : (method : Within) (frames : Declared) (all : List Placed) (first own : Placed) (place : ℕ) → first.place < place → StandsBehind method frames all own place
    → StandsBehind method frames (first ∷ all) own place
later_behind method frames all first own place low later =
    record { other = later.other; found = found_if (stands_at place) first all false (not_here first.place place low) ∙ later.found; before = later.before }

pub stands_behind : (method : Within) (frames : Declared) (arrived : Option Frame) (code : List (ℕ × Insn)) (pc : ℕ) (own : Placed) (place : ℕ) → Rises code
    → find (stands_at pc) (placed_behind method frames arrived code) ≡ Some own → own.next ≡ Some place
    → StandsBehind method frames (placed_behind method frames arrived code) own place
stands_behind method frames arrived [] pc own place rises so next = absurd (cc so)
stands_behind method frames arrived (placed ∷ code) pc own place rises so next =
    let onward : Option Frame = left_by method frames arrived placed in
    let first : Placed = first_of frames arrived placed code in
    let rest : List Placed = placed_behind method frames onward code in
    elim (found_either (stands_at pc) first rest own so) [
      | inl here ↦ subst (λ (own : Placed). StandsBehind method frames (first ∷ rest) own place) here.1
          (right_behind method frames arrived placed code place rises.0 (ap (λ (own : Placed). own.next) here.1 ∙ next))
      | inr later ↦
          let behind : StandsBehind method frames rest own place = stands_behind method frames onward code pc own place rises.1 later.1 next in
          later_behind method frames rest first own place (above method frames onward code placed.0 place behind.other rises.0 behind.found) behind
    ]
