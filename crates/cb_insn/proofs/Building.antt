-- The walk that builds the code.
use Rattle.std.proofs.Common.{◌^◌, ◌≡◌, ◌⊎◌, inl, inr, ℕ, ◌+◌, ◌<◌, ◌≤◌, pos, Bool, List, [], ◌∷◌, ◌++◌, length, take, drop, map, Contains, All, refl, sym, ◌∙◌, ap, subst, arith, length-append, length-drop, append_assoc, take-append-drop}
use Rattle.std.specs.List.{AllByRecursion}
use Rattle.std.proofs.Math.Seq.{take-add}
use Rattle.std.proofs.lemmas.Bool.{cases_order}
use Rattle.std.proofs.lemmas.List.{append-nil, take_all, length-take-le}
use Rattle.std.proofs.lemmas.List.Elements.{recursion_from_All, All-from_recursion, All-contains, All-push, All-weaker}
use Rattle.cb_insn.specs.declared.insn.Insn.{Insn}
use Rattle.cb_insn.specs.declared.fault.InsnFault.{InsnFault}
use Rattle.cb_insn.specs.declared.fault.InsnFault.TheVariants as faults
use Rattle.cb_insn.specs.Grammar.{SpellsInsn, SpellsFrom, SpellsCode, targets_of}
use Rattle.cb_insn.specs.Places.{places}
use Rattle.cb_insn.specs.Faults.{Whole, IsPlace, First, Next, HasBadTarget, standing_at, targets_at}
use Rattle.cb_insn.specs.Inner.{IsRead, IsMarked, MarksPlaces, Misses, IsFaultOf}
use Rattle.cb_insn.proofs.NumberBytes.{IsBytes, drop_bytes}
use Rattle.cb_insn.proofs.Spelling.{IsWithin}
use Rattle.cb_insn.proofs.Walking.{apart, whole_size, whole_same}
use Rattle.cb_insn.proofs.Heads.{spelled_reads, reads_spelled}
use Rattle.cb_insn.proofs.Codes.{covers, mapped}

-- an instruction more
spells_more : (start : ℕ) (code : List (ℕ × Insn)) (bytes first : List ℕ) (at : ℕ) (insn : Insn) → SpellsFrom start code bytes → at ≡ start + length bytes → SpellsInsn at insn first → SpellsFrom start (code ++ (at, insn) ∷ []) (bytes ++ first)
spells_more start [] bytes first at insn none is_at spells =
    let same : at ≡ start = omega (arith, ap length none) in
    (first, [], same, subst (λ p. SpellsInsn p insn first) same spells, ap (λ b. b ++ first) none ∙ sym (append-nil first), refl)
spells_more start ((place, one) ∷ code) bytes first at insn (front, rest, is_place, spells_one, is, more) is_at spells = (
  front,
  rest ++ first,
  is_place,
  spells_one,
  ap (λ b. b ++ first) is ∙ append_assoc front rest first,
  spells_more (start + length front) code rest first at insn more (omega (arith, ap length is, length-append front rest)) spells,
)

all_push : {X : Type 0} (P : X → Type 0) (xs : List X) (x : X) → AllByRecursion P xs → P x → AllByRecursion P (xs ++ x ∷ [])
all_push P xs x all one = recursion_from_All P (xs ++ x ∷ []) (All-push P xs x (All-from_recursion P xs all) one)

all_weaker : {X : Type 0} (P Q : X → Type 0) (xs : List X) → ((x : X) → P x → Q x) → AllByRecursion P xs → AllByRecursion Q xs
all_weaker P Q xs weaker all = recursion_from_All Q xs (All-weaker P Q weaker xs (All-from_recursion P xs all))

all_unmapped : {X Y : Type 0} (P : Y → Type 0) (f : X → Y) (xs : List X) → AllByRecursion P (map f xs) → AllByRecursion (λ x. P (f x)) xs
all_unmapped P f [] all = tt
all_unmapped P f (x ∷ xs) (one, all) = (one, all_unmapped P f xs all)

abbrev pub AreMarked : List Bool → (ℕ × Insn) → Type 0
AreMarked starts placed = AllByRecursion (λ target. IsMarked starts (pos target)) (targets_of placed.1.operand)

-- the walk has come to a place, and this is the code before it
pub record Built (bytes : List ℕ) (starts : List Bool) (pc : ℕ) (code : List (ℕ × Insn)) : Type 0 where
  pub place : IsPlace bytes pc
  pub within : pc ≤ length bytes
  pub spelled : SpellsFrom 0 code (take pc bytes)
  pub reached : AllByRecursion (AreMarked starts) code
  pub earlier : (at : ℕ) → IsPlace bytes at → at < pc → All (IsMarked starts) (targets_at at (drop at bytes))

pub built_start : (bytes : List ℕ) (starts : List Bool) → Built bytes starts 0 []
built_start bytes starts = record { place = First; within = omega arith; spelled = refl; reached = tt; earlier = λ at place before. absurd (omega arith) }

pub built_more : (bytes rest : List ℕ) (starts : List Bool) (pc size : ℕ) (code new : List (ℕ × Insn)) (insn : Insn) → Built bytes starts pc code → IsBytes bytes → pc < length bytes → rest ≡ drop pc bytes → IsRead pc insn rest → standing_at pc rest ≡ Whole size → All (IsMarked starts) (targets_at pc rest) → new ≡ code ++ (pc, insn) ∷ [] → Built bytes starts (pc + size) new
built_more bytes rest starts pc size code new insn built are inside is_rest read whole marked is_new = record {
  place = Next pc size built.place inside reads;
  within = omega (arith, sized.1, length-drop pc bytes);
  spelled = subst (λ c. SpellsFrom 0 c (take (pc + size) bytes)) (sym is_new) (subst (SpellsFrom 0 (code ++ (pc, insn) ∷ [])) (sym (take-add pc size bytes)) (spells_more 0 code (take pc bytes) (take size (drop pc bytes)) pc insn built.spelled (omega (arith, length-take-le pc bytes built.within)) spells));
  reached = subst (AllByRecursion (AreMarked starts)) (sym is_new) (all_push (AreMarked starts) code (pc, insn) built.reached here_marked);
  earlier = earlier;
} where
  reads : standing_at pc (drop pc bytes) ≡ Whole size
  reads = ap (standing_at pc) (sym is_rest) ∙ whole

  sized : (0 < size) × (size ≤ length (drop pc bytes))
  sized = whole_size pc (drop pc bytes) size reads

  marked_here : All (IsMarked starts) (targets_at pc (drop pc bytes))
  marked_here = subst (λ b. All (IsMarked starts) (targets_at pc b)) is_rest marked

  spells : SpellsInsn pc insn (take size (drop pc bytes))
  spells = reads_spelled pc insn (drop pc bytes) size (subst (IsRead pc insn) is_rest read) reads (drop_bytes pc bytes are) (recursion_from_All IsWithin (targets_at pc (drop pc bytes)) (All-weaker (IsMarked starts) IsWithin (λ z mark. (mark.place, mark.is)) (targets_at pc (drop pc bytes)) marked_here))

  same_targets : targets_at pc (drop pc bytes) ≡ map pos (targets_of insn.operand)
  same_targets = ap (targets_at pc) (sym (take-append-drop size (drop pc bytes))) ∙ (spelled_reads pc insn (take size (drop pc bytes)) (drop size (drop pc bytes)) spells).targets

  here_marked : AreMarked starts (pc, insn)
  here_marked = all_unmapped (IsMarked starts) pos (targets_of insn.operand) (recursion_from_All (IsMarked starts) (map pos (targets_of insn.operand)) (subst (All (IsMarked starts)) same_targets marked_here))

  earlier : (at : ℕ) → IsPlace bytes at → at < pc + size → All (IsMarked starts) (targets_at at (drop at bytes))
  earlier at place before = by_order (cases_order at pc) where
    by_order : (at ≡ pc) ⊎ ((at < pc) ⊎ (pc < at)) → All (IsMarked starts) (targets_at at (drop at bytes))
    by_order (inl same) = subst (λ p. All (IsMarked starts) (targets_at p (drop p bytes))) (sym same) marked_here
    by_order (inr (inl lower)) = built.earlier at place lower
    by_order (inr (inr higher)) =
        let parted = apart bytes pc at built.place place higher in
        let same = whole_same _ size parted.size reads parted.reads in
        absurd (omega (arith, parted.behind))

pub built_end : (bytes : List ℕ) (starts : List Bool) (pc : ℕ) (code : List (ℕ × Insn)) → Built bytes starts pc code → MarksPlaces starts bytes → length bytes ≤ pc → length bytes < 2 ^ 32 → SpellsCode code bytes
built_end bytes starts pc code built marks ended short = record {
  spelled = spelled;
  short = short;
  reached = all_weaker (AreMarked starts) (λ placed. AllByRecursion (Contains (places code)) (targets_of placed.1.operand)) code
      (λ placed are. all_weaker (λ target. IsMarked starts (pos target)) (Contains (places code)) (targets_of placed.1.operand) reached are) built.reached;
} where
  spelled : SpellsFrom 0 code bytes
  spelled = subst (SpellsFrom 0 code) (take_all pc bytes ended) built.spelled

  reached : (target : ℕ) → IsMarked starts (pos target) → Contains (places code) target
  reached target mark =
      let same : target ≡ mark.place = cc (mark.is) in
      let start = marks.sound mark.place mark.marked in
      let one = (covers bytes bytes 0 code spelled First refl (omega arith)).found mark.place start.0 (omega arith) start.1 in
      subst (Contains (places code)) (sym same) (mapped (λ p. p.0) code (mark.place, one.0) one.1)

-- a target without a mark is the first that is no place
pub built_miss : (bytes rest : List ℕ) (starts : List Bool) (pc : ℕ) (code : List (ℕ × Insn)) (fault : InsnFault) → Built bytes starts pc code → IsPlace bytes (length bytes) → MarksPlaces starts bytes → pc < length bytes → rest ≡ drop pc bytes → Misses pc (targets_at pc rest) starts fault → IsFaultOf bytes fault
built_miss bytes rest starts pc code (faults.BadTarget at) built whole marks inside is_rest (is_at, (target, among, astray)) =
    subst (HasBadTarget bytes) (sym is_at) (record {
      whole = whole;
      place = built.place;
      within = inside;
      target = target;
      among = subst (λ b. Contains (targets_at pc b) target) is_rest among;
      astray = λ start. astray (record { place = start.0; is = start.3; marked = marks.whole start.0 start.1 start.2 });
      least = λ before place lower other has.
          let mark = All-contains (IsMarked starts) (targets_at before (drop before bytes)) other (built.earlier before place lower) has in
          let start = marks.sound mark.place mark.marked in
          (mark.place, start.0, start.1, mark.is);
    })
built_miss bytes rest starts pc code faults.OutOfMemory built whole marks inside is_rest misses = tt
built_miss bytes rest starts pc code (faults.Cut at) built whole marks inside is_rest misses = absurd misses
built_miss bytes rest starts pc code (faults.BadOpcode at) built whole marks inside is_rest misses = absurd misses
built_miss bytes rest starts pc code (faults.BadOperand at) built whole marks inside is_rest misses = absurd misses
