-- One loading of a folder that tells its files.
use Rattle.std.proofs.Common.{◌≡◌, ◌⊎◌, inl, inr, ℕ, zero, suc, ◌+◌, ◌<◌, ◌≤◌, List, [], ◌∷◌, ◌++◌, length, map, take, None, Some, refl, sym, subst, ap, ◌∙◌, arith}
use Rattle.std.specs.Prelude.{slice_get}
use Rattle.std.proofs.lemmas.List.{length-map}
use Rattle.std.proofs.lemmas.Option.{slice_get_past}
use Rattle.std.proofs.Math.Seq.{take-length}
use Rattle.cb_io.specs.Folder.{Files}
use Rattle.cb_classfile.specs.declared.class.ClassFile.{ClassFile}
use Rattle.cb_link.specs.declared.refusal.Refusal.{Refusal}
use Rattle.cb_load.specs.Names.{Entry, names_of}
use Rattle.cb_load.specs.Closure.{IsBegun, Turn, entries_of}
use Rattle.cb_load.specs.Loading.{AreLoaded, AreTurns, IsRefused, Loads, StopsFor, loaded}
use Rattle.cb_load.proofs.LoadOnce.{not_both, one_load, one_refusal}
use Rattle.cb_load.proofs.TurnLists.{take_next}

-- an element within a list
an_item : {Item : Type 0} (items : List Item) (place : ℕ) → place < length items → (item : Item) × (slice_get items place ≡ Some item)
an_item [] place within = absurd (omega arith)
an_item (first ∷ items) zero within = (first, refl)
an_item (first ∷ items) (suc place) within = an_item items place (omega arith)

raised : {one other : ℕ} → (one < other) ⊎ ((other < one) ⊎ (one ≡ other)) → (suc one < suc other) ⊎ ((suc other < suc one) ⊎ (suc one ≡ suc other))
raised (inl less) = inl (omega arith)
raised (inr (inl more)) = inr (inl (omega arith))
raised (inr (inr same)) = inr (inr (ap suc same))

compared : (one other : ℕ) → (one < other) ⊎ ((other < one) ⊎ (one ≡ other))
compared zero zero = inr (inr refl)
compared zero (suc other) = inl (omega arith)
compared (suc one) zero = inr (inl (omega arith))
compared (suc one) (suc other) = raised (compared one other)

-- the turns of all entries have none behind them
ended : (main : List ℕ) (turns : List (Turn ClassFile)) → map (λ turn. turn.entry) turns ≡ entries_of names_of main turns → slice_get (entries_of names_of main turns) (length turns) ≡ None
ended main turns closed =
    let long : length (entries_of names_of main turns) ≡ length turns = sym (ap length closed) ∙ length-map turns (λ turn. turn.entry) in
    let past : length (entries_of names_of main turns) ≤ length turns = omega arith in
    slice_get_past (entries_of names_of main turns) (length turns) past

-- turns that begin with none, and each of which comes to what it comes to
record Walk (files : Files) (root main : List ℕ) (turns : List (Turn ClassFile)) : Type 0 where
  begun : IsBegun names_of main turns
  each : AreTurns (Some files) root turns

module _ (files : Files) (root main : List ℕ) (one other : List (Turn ClassFile)) (walk : Walk files root main one) (too : Walk files root main other) where
  next_same : (place : ℕ) → place < length one → place < length other → take place one ≡ take place other → take (place + 1) one ≡ take (place + 1) other
  next_same place short shorter same =
      let (turn, at) = an_item one place short in
      let (turn_too, at_too) = an_item other place shorter in
      let entry : Some turn.entry ≡ Some turn_too.entry = sym (walk.begun place turn at) ∙ ap (λ before. slice_get (entries_of names_of main before) place) same ∙ too.begun place turn_too at_too in
      let named : turn.entry ≡ turn_too.entry = cc in
      let loads = subst (λ entry. Loads (Some files) root (take place other) entry turn.loads) named (subst (λ before. Loads (Some files) root before turn.entry turn.loads) same (walk.each place turn at)) in
      let loaded_same = one_load files root (take place other) turn_too.entry turn.loads turn_too.loads loads (too.each place turn_too at_too) in
      let equal : turn ≡ turn_too = λ i. record { entry = named i; loads = loaded_same i } in
      take_next one place turn at ∙ (λ i. same i ++ equal i ∷ []) ∙ sym (take_next other place turn_too at_too)

  same_front : (count : ℕ) → count ≤ length one → count ≤ length other → take count one ≡ take count other
  same_front zero short shorter = refl
  same_front (suc count) short shorter =
      let front = same_front count (omega arith) (omega arith) in
      let next : count + 1 ≡ suc count = omega arith in
      subst (λ n. take n one ≡ take n other) next (next_same count (omega arith) (omega arith) front)

  -- turns that are fewer than others come before one of these
  behind : length one < length other → (turn : Turn ClassFile) × (slice_get (entries_of names_of main one) (length one) ≡ Some turn.entry) × Loads (Some files) root one turn.entry turn.loads
  behind short =
      let (turn, at) = an_item other (length one) short in
      let front : take (length one) other ≡ one = sym (same_front (length one) (omega arith) (omega arith)) ∙ take-length one in (
        turn,
        subst (λ before. slice_get (entries_of names_of main before) (length one) ≡ Some turn.entry) front (too.begun (length one) turn at),
        subst (λ before. Loads (Some files) root before turn.entry turn.loads) front (too.each (length one) turn at),
      )

  -- and as many are the same
  same : length one ≡ length other → one ≡ other
  same long =
      let all : take (length one) one ≡ take (length one) other = same_front (length one) (omega arith) (omega arith) in
      sym (take-length one) ∙ all ∙ ap (λ n. take n other) long ∙ take-length other

  -- turns of all entries aren't fewer than others
  not_fewer : map (λ turn. turn.entry) one ≡ entries_of names_of main one → length one < length other → ⊥
  not_fewer closed short =
      let next = behind short in
      let clash : None ≡ Some next.0.entry = sym (ended main one closed) ∙ next.1 in
      cc

  -- nor are turns before an entry that is refused
  not_refused : (entry : Entry) (refusal : Refusal) → slice_get (entries_of names_of main one) (length one) ≡ Some entry → IsRefused (Some files) root one entry refusal → length one < length other → ⊥
  not_refused entry refusal at refused short =
      let next = behind short in
      let both : Some next.0.entry ≡ Some entry = sym next.1 ∙ at in
      let equal : next.0.entry ≡ entry = cc in
      not_both files root one entry next.0.loads refusal (subst (λ entry. Loads (Some files) root one entry next.0.loads) equal next.2) refused

-- what is loaded is one list of classes
pub one_loaded : (files : Files) (root main : List ℕ) (one other : List ClassFile) → AreLoaded (Some files) root main one → AreLoaded (Some files) root main other → one ≡ other
one_loaded files root main one other is so = go (compared (length is.turns) (length so.turns)) where
  walk : Walk files root main is.turns
  walk = record { begun = is.closure.begun; each = is.each }

  too : Walk files root main so.turns
  too = record { begun = so.closure.begun; each = so.each }

  go : (length is.turns < length so.turns) ⊎ ((length so.turns < length is.turns) ⊎ (length is.turns ≡ length so.turns)) → one ≡ other
  go (inl fewer) = absurd (not_fewer files root main is.turns so.turns walk too is.closure.closed fewer)
  go (inr (inl more)) = absurd (not_fewer files root main so.turns is.turns too walk so.closure.closed more)
  go (inr (inr long)) = is.all ∙ ap loaded (same files root main is.turns so.turns walk too long) ∙ sym so.all

-- where classes are loaded, nothing is refused
pub not_loaded : (files : Files) (root main : List ℕ) (classes : List ClassFile) (refusal : Refusal) → AreLoaded (Some files) root main classes → StopsFor (Some files) root main refusal → ⊥
not_loaded files root main classes refusal is stops = go (compared (length is.turns) (length stops.turns)) where
  walk : Walk files root main is.turns
  walk = record { begun = is.closure.begun; each = is.each }

  too : Walk files root main stops.turns
  too = record { begun = stops.begun; each = stops.each }

  go : (length is.turns < length stops.turns) ⊎ ((length stops.turns < length is.turns) ⊎ (length is.turns ≡ length stops.turns)) → ⊥
  go (inl fewer) = not_fewer files root main is.turns stops.turns walk too is.closure.closed fewer
  go (inr (inl more)) = not_refused files root main stops.turns is.turns too walk stops.entry refusal stops.next stops.refused more
  go (inr (inr long)) =
      let equal : is.turns ≡ stops.turns = same files root main is.turns stops.turns walk too long in
      let clash : None ≡ Some stops.entry = sym (ended main is.turns is.closure.closed) ∙ ap (λ turns. slice_get (entries_of names_of main turns) (length turns)) equal ∙ stops.next in
      cc

-- and it is refused for one reason
pub one_stop : (files : Files) (root main : List ℕ) (one other : Refusal) → StopsFor (Some files) root main one → StopsFor (Some files) root main other → one ≡ other
one_stop files root main one other is so = go (compared (length is.turns) (length so.turns)) where
  walk : Walk files root main is.turns
  walk = record { begun = is.begun; each = is.each }

  too : Walk files root main so.turns
  too = record { begun = so.begun; each = so.each }

  go : (length is.turns < length so.turns) ⊎ ((length so.turns < length is.turns) ⊎ (length is.turns ≡ length so.turns)) → one ≡ other
  go (inl fewer) = absurd (not_refused files root main is.turns so.turns walk too is.entry one is.next is.refused fewer)
  go (inr (inl more)) = absurd (not_refused files root main so.turns is.turns too walk so.entry other so.next so.refused more)
  go (inr (inr long)) =
      let equal : is.turns ≡ so.turns = same files root main is.turns so.turns walk too long in
      let both : Some is.entry ≡ Some so.entry = sym is.next ∙ ap (λ turns. slice_get (entries_of names_of main turns) (length turns)) equal ∙ so.next in
      let entry : is.entry ≡ so.entry = cc in
      one_refusal files root so.turns so.entry one other (subst (λ entry. IsRefused (Some files) root so.turns entry one) entry (subst (λ turns. IsRefused (Some files) root turns is.entry one) equal is.refused)) so.refused
