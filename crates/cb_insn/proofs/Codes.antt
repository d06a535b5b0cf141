-- Code, the places of its instructions, and its faults.
use Rattle.std.proofs.Common.{◌≡◌, ◌≢◌, ◌↔◌, ◌⊎◌, inl, inr, ℕ, zero, suc, ◌+◌, ◌<◌, ◌≤◌, pos, List, [], ◌∷◌, ◌++◌, length, drop, map, Contains, Result, Ok, Err, MatchResult, IsErrOf, refl, sym, ◌∙◌, ap, subst, arith, length-append, length-drop}
use Rattle.std.specs.List.{AllByRecursion}
use Rattle.std.proofs.lemmas.Bool.{cases_order, cases_lt}
use Rattle.std.proofs.lemmas.List.{drop-drop, drop_at}
use Rattle.std.proofs.lemmas.List.Elements.{All-contains, All-from_recursion, Contains-append_right}
use Rattle.cb_insn.specs.declared.insn.Insn.{Insn}
use Rattle.cb_insn.specs.declared.fault.InsnFault.{InsnFault}
use Rattle.cb_insn.specs.declared.fault.InsnFault.TheVariants as faults
use Rattle.cb_insn.specs.Grammar.{SpellsInsn, SpellsFrom, SpellsCode, targets_of}
use Rattle.cb_insn.specs.Places.{places}
use Rattle.cb_insn.specs.Faults.{Fault, Whole, Faulty, IsCut, IsBadOpcode, IsBadOperand, IsPlace, First, Next, HasFault, HasBadTarget, standing_at, targets_at}
use Rattle.cb_insn.specs.Inner.{IsRead, IsFaultOf}
use Rattle.cb_insn.proofs.Walking.{apart, whole_same, none_behind}
use Rattle.cb_insn.proofs.Heads.{FrontReads, spelled_reads, read_same}
use Rattle.cb_insn.proofs.Written.{insn_some}

-- of two instructions spelled at the front, both are one
pub one_insn : (pc : ℕ) (one other : Insn) (first next rest behind : List ℕ) → SpellsInsn pc one first → SpellsInsn pc other next → first ++ rest ≡ next ++ behind → (one ≡ other) × (length first ≡ length next) × (rest ≡ behind)
one_insn pc one other first next rest behind spells spells_too same =
    let read = spelled_reads pc one first rest spells in
    let read_too = spelled_reads pc other next behind spells_too in
    let size : length first ≡ length next = whole_same _ _ _ (subst (λ b. standing_at pc b ≡ Whole (length first)) same read.whole) read_too.whole in (
      read_same pc one other (next ++ behind) (subst (IsRead pc one) same read.read) read_too.read,
      size,
      sym (drop_at first rest (length first) refl) ∙ ap (drop (length first)) same ∙ ap (λ n. drop n (next ++ behind)) size ∙ drop_at next behind (length next) refl,
    )

-- bytes spell one code
pub one_from : (pc : ℕ) (one other : List (ℕ × Insn)) (bytes : List ℕ) → SpellsFrom pc one bytes → SpellsFrom pc other bytes → one ≡ other
one_from pc [] [] bytes spells spells_too = refl
one_from pc [] ((at, insn) ∷ other) bytes none (first, rest, is_at, spells, is, more) =
    absurd (omega (arith, insn_some pc insn first spells, length-append first rest, ap length is, ap length none))
one_from pc ((at, insn) ∷ one) [] bytes (first, rest, is_at, spells, is, more) none =
    absurd (omega (arith, insn_some pc insn first spells, length-append first rest, ap length is, ap length none))
one_from pc ((at, insn) ∷ one) ((place, next) ∷ other) bytes (first, rest, is_at, spells, is, more) (second, behind, is_place, spells_too, is_too, more_too) =
    let same = one_insn pc insn next first second rest behind spells spells_too (sym is ∙ is_too) in
    let others = one_from (pc + length first) one other rest more (subst (λ b. SpellsFrom (pc + length first) other b) (sym same.2) (subst (λ n. SpellsFrom (pc + n) other behind) (sym same.1) more_too)) in
    let at_same : at ≡ place = is_at ∙ sym is_place in
    let insn_same : insn ≡ next = same.0 in
    ap (λ p. (p, insn) ∷ one) at_same ∙ ap (λ i. (place, i) ∷ one) insn_same ∙ ap (λ c. (place, next) ∷ c) others

-- the instructions from a place on stand at the places from there on
pub record Covers (bytes : List ℕ) (pc : ℕ) (code : List (ℕ × Insn)) : Type 0 where
  pub whole : IsPlace bytes (length bytes)
  pub sound : AllByRecursion (λ placed. IsPlace bytes placed.0 × (placed.0 < length bytes)) code
  pub found : (at : ℕ) → IsPlace bytes at → pc ≤ at → at < length bytes → (insn : Insn) × Contains code (at, insn) × (targets_at at (drop at bytes) ≡ map pos (targets_of insn.operand))

pub here : {X : Type 0} (x : X) (xs : List X) → Contains (x ∷ xs) x
here x xs = (0, omega arith, refl)

pub there : {X : Type 0} (x y : X) (xs : List X) → Contains xs y → Contains (x ∷ xs) y
there x y xs has = Contains-append_right (x ∷ []) xs y has

pub covers : (bytes rest : List ℕ) (pc : ℕ) (code : List (ℕ × Insn)) → SpellsFrom pc code rest → IsPlace bytes pc → drop pc bytes ≡ rest → pc ≤ length bytes → Covers bytes pc code
covers bytes rest pc [] none place is_rest within = record {
  whole = subst (IsPlace bytes) ended place;
  sound = tt;
  found = λ at found_place after before. absurd (omega (arith, ended));
} where
  ended : pc ≡ length bytes
  ended = omega (arith, length-drop pc bytes, ap length is_rest, ap length none)
covers bytes rest pc ((at, insn) ∷ code) (first, behind, is_at, spells, is, more) place is_rest within =
    covers_next (covers bytes behind (pc + length first) code more next is_behind next_within)
  where
    size_some : 0 < length first
    size_some = insn_some pc insn first spells

    inside : pc < length bytes
    inside = omega (arith, size_some, length-drop pc bytes, ap length is_rest, ap length is, length-append first behind)

    reads : FrontReads pc insn (length first) (drop pc bytes)
    reads = subst (FrontReads pc insn (length first)) (sym (is_rest ∙ is)) (spelled_reads pc insn first behind spells)

    next : IsPlace bytes (pc + length first)
    next = Next pc (length first) place inside reads.whole

    is_behind : drop (pc + length first) bytes ≡ behind
    is_behind = sym (drop-drop (length first) pc bytes) ∙ ap (drop (length first)) (is_rest ∙ is) ∙ drop_at first behind (length first) refl

    next_within : pc + length first ≤ length bytes
    next_within = omega (arith, length-drop pc bytes, ap length is_rest, ap length is, length-append first behind)

    covers_next : Covers bytes (pc + length first) code → Covers bytes pc ((at, insn) ∷ code)
    covers_next others = record {
      whole = others.whole;
      sound = ((subst (IsPlace bytes) (sym is_at) place, omega (arith, inside)), others.sound);
      found = found;
    } where
      found : (found_at : ℕ) → IsPlace bytes found_at → pc ≤ found_at → found_at < length bytes → (found_insn : Insn) × Contains ((at, insn) ∷ code) (found_at, found_insn) × (targets_at found_at (drop found_at bytes) ≡ map pos (targets_of found_insn.operand))
      found found_at found_place after before = by_order (cases_lt pc found_at) where
        by_order : (pc < found_at) ⊎ (found_at ≤ pc) → (found_insn : Insn) × Contains ((at, insn) ∷ code) (found_at, found_insn) × (targets_at found_at (drop found_at bytes) ≡ map pos (targets_of found_insn.operand))
        by_order (inr not_after) =
            let same : at ≡ found_at = omega (arith, is_at) in
            let same_pc : pc ≡ found_at = omega arith in
            (insn, subst (λ p. Contains ((at, insn) ∷ code) (p, insn)) same (here (at, insn) code), subst (λ p. targets_at p (drop p bytes) ≡ map pos (targets_of insn.operand)) same_pc reads.targets)
        by_order (inl later) =
            let parted = apart bytes pc found_at place found_place later in
            let size = whole_same _ _ _ parted.reads reads.whole in
            let one = others.found found_at found_place (omega (arith, parted.behind)) before in
            (one.0, there (at, insn) (found_at, one.0) code one.1, one.2)

pub code_covers : (bytes : List ℕ) (code : List (ℕ × Insn)) → SpellsCode code bytes → Covers bytes 0 code
code_covers bytes code spells = covers bytes bytes 0 code spells.spelled First refl (omega arith)

-- of a list that another is made of
all_at : {X : Type 0} (P : X → Type 0) (xs : List X) (x : X) → AllByRecursion P xs → Contains xs x → P x
all_at P xs x all has = All-contains P xs x (All-from_recursion P xs all) has

unmapped : {X Y : Type 0} (f : X → Y) (xs : List X) (y : Y) → Contains (map f xs) y → (x : X) × Contains xs x × (f x ≡ y)
unmapped f [] y (k, below, is) = absurd (omega arith)
unmapped f (x ∷ xs) y (zero, below, is) = (x, here x xs, is)
unmapped f (x ∷ xs) y (suc k, below, is) = let one = unmapped f xs y (k, omega arith, is) in (one.0, there x one.0 xs one.1, one.2)

pub mapped : {X Y : Type 0} (f : X → Y) (xs : List X) (x : X) → Contains xs x → Contains (map f xs) (f x)
mapped f [] x (k, below, is) = absurd (omega arith)
mapped f (y ∷ xs) x (zero, below, is) = subst (Contains (map f (y ∷ xs))) (ap f is) (here (f y) (map f xs))
mapped f (y ∷ xs) x (suc k, below, is) = there (f y) (f x) (map f xs) (mapped f xs x (k, omega arith, is))

-- code that is spelled has no fault
pub no_fault_in : (bytes : List ℕ) (pc : ℕ) (fault : Fault) → IsPlace bytes (length bytes) → HasFault bytes pc fault → ⊥
no_fault_in bytes pc fault whole has = none_behind bytes pc (length bytes) fault whole has has.within

pub no_bad_target : (bytes : List ℕ) (code : List (ℕ × Insn)) (pc : ℕ) → SpellsCode code bytes → HasBadTarget bytes pc → ⊥
no_bad_target bytes code pc spells has =
    let all = code_covers bytes code spells in
    let one = all.found pc has.place (omega arith) has.within in
    let target = unmapped pos (targets_of one.0.operand) has.target (subst (λ zs. Contains zs has.target) one.2 has.among) in
    let reached = all_at (Contains (places code)) (targets_of one.0.operand) target.0 (all_at (λ placed. AllByRecursion (Contains (places code)) (targets_of placed.1.operand)) code (pc, one.0) spells.reached one.1) target.1 in
    let placed = unmapped (λ p. p.0) code target.0 reached in
    let start = all_at (λ p. IsPlace bytes p.0 × (p.0 < length bytes)) code placed.0 all.sound placed.1 in
    has.astray (target.0, subst (IsPlace bytes) placed.2 start.0, omega (arith, start.1, placed.2), sym target.2)

pub no_fault : (bytes : List ℕ) (code : List (ℕ × Insn)) (fault : InsnFault) → SpellsCode code bytes → IsFaultOf bytes fault → fault ≡ faults.OutOfMemory
no_fault bytes code (faults.Cut pc) spells has = absurd (no_fault_in bytes pc IsCut (code_covers bytes code spells).whole has)
no_fault bytes code (faults.BadOpcode pc) spells has = absurd (no_fault_in bytes pc IsBadOpcode (code_covers bytes code spells).whole has)
no_fault bytes code (faults.BadOperand pc) spells has = absurd (no_fault_in bytes pc IsBadOperand (code_covers bytes code spells).whole has)
no_fault bytes code (faults.BadTarget pc) spells has = absurd (no_bad_target bytes code pc spells has)
no_fault bytes code faults.OutOfMemory spells has = refl

-- there is one fault at most
pub same_place : (bytes : List ℕ) (pc other : ℕ) (fault next : Fault) → HasFault bytes pc fault → HasFault bytes other next → (pc ≡ other) × (fault ≡ next)
same_place bytes pc other fault next has has_too = by_order (cases_order pc other) where
  by_order : (pc ≡ other) ⊎ ((pc < other) ⊎ (other < pc)) → (pc ≡ other) × (fault ≡ next)
  by_order (inl same) = let both : Faulty fault ≡ Faulty next = sym has.stands ∙ ap (λ at. standing_at at (drop at bytes)) same ∙ has_too.stands in (same, cc)
  by_order (inr (inl before)) = absurd (none_behind bytes pc other fault has_too.place has before)
  by_order (inr (inr after)) = absurd (none_behind bytes other pc next has.place has_too after)

pub same_target : (bytes : List ℕ) (pc other : ℕ) → HasBadTarget bytes pc → HasBadTarget bytes other → pc ≡ other
same_target bytes pc other has has_too = by_order (cases_order pc other) where
  by_order : (pc ≡ other) ⊎ ((pc < other) ⊎ (other < pc)) → pc ≡ other
  by_order (inl same) = same
  by_order (inr (inl before)) = absurd (has.astray (has_too.least pc has.place before has.target has.among))
  by_order (inr (inr after)) = absurd (has_too.astray (has.least other has_too.place after has_too.target has_too.among))

pub one_fault : (bytes : List ℕ) (fault other : InsnFault) → fault ≢ faults.OutOfMemory → other ≢ faults.OutOfMemory → IsFaultOf bytes fault → IsFaultOf bytes other → fault ≡ other
one_fault bytes (faults.Cut pc) (faults.Cut at) _ _ has has_too = ap faults.Cut (same_place bytes pc at IsCut IsCut has has_too).0
one_fault bytes (faults.Cut pc) (faults.BadOpcode at) _ _ has has_too = let both = (same_place bytes pc at IsCut IsBadOpcode has has_too).1 in cc
one_fault bytes (faults.Cut pc) (faults.BadOperand at) _ _ has has_too = let both = (same_place bytes pc at IsCut IsBadOperand has has_too).1 in cc
one_fault bytes (faults.Cut pc) (faults.BadTarget at) _ _ has has_too = absurd (no_fault_in bytes pc IsCut has_too.whole has)
one_fault bytes (faults.BadOpcode pc) (faults.Cut at) _ _ has has_too = let both = (same_place bytes pc at IsBadOpcode IsCut has has_too).1 in cc
one_fault bytes (faults.BadOpcode pc) (faults.BadOpcode at) _ _ has has_too = ap faults.BadOpcode (same_place bytes pc at IsBadOpcode IsBadOpcode has has_too).0
one_fault bytes (faults.BadOpcode pc) (faults.BadOperand at) _ _ has has_too = let both = (same_place bytes pc at IsBadOpcode IsBadOperand has has_too).1 in cc
one_fault bytes (faults.BadOpcode pc) (faults.BadTarget at) _ _ has has_too = absurd (no_fault_in bytes pc IsBadOpcode has_too.whole has)
one_fault bytes (faults.BadOperand pc) (faults.Cut at) _ _ has has_too = let both = (same_place bytes pc at IsBadOperand IsCut has has_too).1 in cc
one_fault bytes (faults.BadOperand pc) (faults.BadOpcode at) _ _ has has_too = let both = (same_place bytes pc at IsBadOperand IsBadOpcode has has_too).1 in cc
one_fault bytes (faults.BadOperand pc) (faults.BadOperand at) _ _ has has_too = ap faults.BadOperand (same_place bytes pc at IsBadOperand IsBadOperand has has_too).0
one_fault bytes (faults.BadOperand pc) (faults.BadTarget at) _ _ has has_too = absurd (no_fault_in bytes pc IsBadOperand has_too.whole has)
one_fault bytes (faults.BadTarget pc) (faults.Cut at) _ _ has has_too = absurd (no_fault_in bytes at IsCut has.whole has_too)
one_fault bytes (faults.BadTarget pc) (faults.BadOpcode at) _ _ has has_too = absurd (no_fault_in bytes at IsBadOpcode has.whole has_too)
one_fault bytes (faults.BadTarget pc) (faults.BadOperand at) _ _ has has_too = absurd (no_fault_in bytes at IsBadOperand has.whole has_too)
one_fault bytes (faults.BadTarget pc) (faults.BadTarget at) _ _ has has_too = ap faults.BadTarget (same_target bytes pc at has has_too)
one_fault bytes faults.OutOfMemory other some _ has has_too = absurd (some refl)
one_fault bytes fault faults.OutOfMemory _ some has has_too = absurd (some refl)

-- so an answer that tells what stands in the bytes tells all
abbrev pub Tells : List ℕ → Result (List (ℕ × Insn)) InsnFault → Type 0
Tells bytes result = MatchResult result (λ code. SpellsCode code bytes) (IsFaultOf bytes)

pub told_code : (bytes : List ℕ) (result : Result (List (ℕ × Insn)) InsnFault) (code : List (ℕ × Insn)) → Tells bytes result → SpellsCode code bytes → MatchResult result (λ found. found ≡ code) (λ fault. fault ≡ faults.OutOfMemory)
told_code bytes (Ok found) code tells spells = one_from 0 found code bytes tells.spelled spells.spelled
told_code bytes (Err fault) code tells spells = no_fault bytes code fault spells tells

pub told_fault : (bytes : List ℕ) (result : Result (List (ℕ × Insn)) InsnFault) (fault : InsnFault) → fault ≢ faults.OutOfMemory → Tells bytes result → IsErrOf result fault ↔ ((¬ IsErrOf result faults.OutOfMemory) × IsFaultOf bytes fault)
told_fault bytes (Ok found) fault some tells = (λ is. cc, λ has. absurd (some (no_fault bytes found fault tells has.1)))
told_fault bytes (Err other) fault some tells = (forth, back) where
  forth : IsErrOf {T = List (ℕ × Insn)} (Err other) fault → (¬ (IsErrOf {T = List (ℕ × Insn)} (Err other) faults.OutOfMemory)) × IsFaultOf bytes fault
  forth is = let same : other ≡ fault = cc in (λ none. let is_memory : other ≡ faults.OutOfMemory = cc in some (sym same ∙ is_memory), subst (IsFaultOf bytes) same tells)

  back : (¬ (IsErrOf {T = List (ℕ × Insn)} (Err other) faults.OutOfMemory)) × IsFaultOf bytes fault → IsErrOf {T = List (ℕ × Insn)} (Err other) fault
  back (not_memory, has) = ap Err (one_fault bytes other fault (λ is. not_memory (ap Err is)) some tells has)
