-- The turns of `read()` and of `read(byte[], int, int)`, by their arguments.
use Rattle.std.proofs.Common.{◌≡◌, ◌∙◌, ap, arith, refl, sym, pos, ℕ, ◌<◌, ◌≤◌, true, List, [], ◌∷◌, ◌++◌, drop, length, length-append, map, Option, Some, None, take}
use Rattle.std.proofs.KnownBytes.{Consumes-kept, Consumes-nil}
use Rattle.std.proofs.lemmas.Bool.{false≢true}
use Rattle.std.specs.Io.KnownBytes.{Keeps}
use Rattle.cb_act.specs.Acting.{Asks, acted}
use Rattle.cb_act.specs.Here.{Here}
use Rattle.cb_act.specs.Turning.{Outside, TurnMade, machine_of, moment_of, state_of}
use Rattle.cb_act.specs.declared.need.Need.TheVariants as needs
use Rattle.cb_frames.specs.Tops.{top_stack}
use Rattle.cb_heap.specs.Reading.{View, read_value, seen}
use Rattle.cb_heap.specs.Rules.{Rules}
use Rattle.cb_library.specs.declared.native.Native.{Native}
use Rattle.cb_library.specs.declared.native.Native.TheVariants as natives
use Rattle.cb_link.specs.Program.{Linked}
use Rattle.cb_link.specs.declared.decoded.Decoded.{Decoded}
use Rattle.cb_machine.specs.Machine.{Machine}
use Rattle.cb_machine.specs.Natives.{native_of}
use Rattle.cb_machine.specs.Steps.{plan}
use Rattle.cb_machine.specs.Throwing.{throws}
use Rattle.cb_natives.proofs.Laws.{byte_performed, empty_performed, range_performed}
use Rattle.cb_natives.specs.Exceptions.{site_of}
use Rattle.cb_natives.specs.Asking.{NoCall}
use Rattle.cb_natives.specs.Input.{IsRange, Loses, PlansRange, ReadsByte, ReadsRange, byte_number, count_number, with_bytes}
use Rattle.cb_natives.specs.declared.answers.Answer.{Answer}
use Rattle.cb_natives.specs.declared.answers.Answer.TheVariants as answers
use Rattle.cb_natives.specs.declared.answers.Exception.{Exception}
use Rattle.std.specs.declared.result.Result.TheVariants.{Err}
use Rattle.cb_plain.specs.State.{Object, Roots, State}
use Rattle.cb_plain.specs.declared.value.Value.{Value}
use Rattle.cb_safety.specs.Linked.{IsLinked}
use Rattle.cb_safety.specs.Performing.{HasNatives}
use Rattle.cb_safety.specs.States.{IsTypedState}
use Rattle.cb_verify.specs.Typed.{IsTyped}
use Rattle.cb_interp.specs.Answering.{answer_values, argument_count, behind_answer}
use Rattle.cb_interp.specs.Performing.{arguments_at}
use Rattle.cb_interp.specs.Reading.{Fails, Takes, TakesInput, TurnedIn, reads}
use Rattle.cb_interp.proofs.NativesAnswered.{answered_turn, count_there, enough, given_there, goes_on, stops_so}
use Rattle.cb_interp.proofs.NativesRead.{GivesSo, reader_goes, reader_takes, reader_turn}
use Rattle.cb_interp.proofs.TurnsNeed.{steps_on}

-- a failed call left what was there
pub kept_fails : {In : Type 0} (left : In → Option (List ℕ)) (gave : In → ℕ → List ℕ → In → Type 0) (machine : Machine) (state : State) (source behind : In) → TakesInput machine state → Keeps (left source) (left behind)
    → Fails left gave machine state source behind
kept_fails left gave machine state source behind takes kept =
    record { front = []; mid = source; calls = NoCall; consumes = Consumes-kept (left source) (left source) (left behind) [] (Consumes-nil (left source)) kept; takes = takes }

-- or one behind others that took fewer bytes than the step does
pub loses_fails : {In : Type 0} (left : In → Option (List ℕ)) (gave : In → ℕ → List ℕ → In → Type 0) (machine : Machine) (state : State) (count : ℕ) (source behind : In) → ((bytes : List ℕ) → length bytes ≤ count → Takes machine state bytes)
    → Loses gave count source (left source) (left behind) → Fails left gave machine state source behind
loses_fails left gave machine state count source behind takes loses = record {
  front = loses.front;
  mid = loses.mid;
  calls = loses.calls;
  consumes = loses.consumes;
  takes = takes (loses.front ++ 0 ∷ []) (omega (arith, loses.few, length-append loses.front (0 ∷ [])));
}

-- another one that reads
pub reads_other : (native : Native) → reads native ≡ true → (native ≡ natives.ReadByte → ⊥) → native ≡ natives.ReadRange
reads_other natives.ReadByte is other = absurd (other refl)
reads_other natives.ReadRange is other = refl
reads_other native is other = absurd (false≢true is)

module _ (program : Linked) (index : ℕ → ℕ) (objects : List (Option Object)) (limit : ℕ) (held : Roots) (outside : Outside) (decoded : Decoded) (method : ℕ)
    (at : Here (machine_of program limit) (state_of (seen index objects held) outside) decoded)
    (asks : acted program limit decoded (seen index objects held) ≡ Some (Asks (needs.Performs method))) where
  abbrev machine : Machine
  machine = machine_of program limit

  abbrev view : View
  view = seen index objects held

  abbrev arguments : List Value
  arguments = map (read_value index) (arguments_at program decoded held)

  -- ---- a byte

  module _ (is : native_of program method ≡ Some natives.ReadByte) (linked : IsLinked program) (fits : IsTyped program)
      (typed : IsTypedState program (state_of view outside)) (has : HasNatives program) where
    one_counted : argument_count program decoded ≡ 1
    one_counted = count_there program index objects limit held outside decoded method at asks natives.ReadByte is linked fits typed has

    pub stream_there : 1 ≤ length (top_stack held)
    stream_there = let size = enough program index objects limit held outside decoded method at asks in omega (arith, size, one_counted)

    byte_gives : (input bytes : List ℕ) → take 1 input ≡ bytes
        → GivesSo program index objects limit held outside decoded method at asks natives.ReadByte is input (drop (length bytes) input) objects (answers.Int (byte_number bytes))
    byte_gives input bytes front =
        byte_performed machine (state_of view outside) input bytes arguments
        (given_there program index objects limit held outside decoded method at asks natives.ReadByte is linked fits typed has) front

    pub byte_goes : decoded.next ≡ None → ⊥
    byte_goes =
        reader_goes program index objects limit held outside decoded method at asks natives.ReadByte is 1 (omega arith) (λ bytes. objects) (λ bytes. answers.Int (byte_number bytes)) byte_gives
        linked fits typed

    pub byte_takes : (pc : ℕ) → decoded.next ≡ Some pc → TakesInput machine (state_of view outside)
    byte_takes =
        reader_takes program index objects limit held outside decoded method at asks natives.ReadByte is 1 (omega arith) (λ bytes. objects) (λ bytes. answers.Int (byte_number bytes)) byte_gives
        (0 ∷ []) (omega arith)

    pub byte_turned : {Facts In : Type 0} (left : In → Option (List ℕ)) (gave : In → ℕ → List ℕ → In → Type 0) (rules : Rules Facts) (facts : Facts) (pc : ℕ) → decoded.next ≡ Some pc → (source behind : In) (answer : Answer)
        → ReadsByte gave source behind (left source) (left behind) answer
        → (roots : Roots) → roots ≡ behind_answer 1 (answer_values answer) pc held → TurnedIn left gave rules machine outside view (seen index objects roots) facts facts source behind
    byte_turned left gave rules facts pc next source behind answer reads roots leaves =
        reader_turn program index objects limit held outside decoded method at asks natives.ReadByte is 1 (omega arith) (λ bytes. objects) (λ bytes. answers.Int (byte_number bytes)) byte_gives
        linked fits typed left gave rules facts pc next source behind reads.bytes reads.took reads.asked index objects facts roots refl refl refl
        (leaves ∙ ap (λ (count : ℕ). behind_answer count (answer_values answer) pc held) (sym one_counted)
        ∙ ap (λ (answer : Answer). behind_answer (argument_count program decoded) (answer_values answer) pc held) reads.gives)

  -- ---- a range

  module _ (is : native_of program method ≡ Some natives.ReadRange) where
    -- it throws
    pub range_throws : (exception : Exception) → PlansRange objects index arguments (Err exception) → plan machine (state_of view outside) ≡ Some (throws machine (state_of view outside) (site_of exception))
    range_throws exception plans =
        stops_so program index objects limit held outside decoded method at asks natives.ReadRange is (throws machine (state_of view outside) (site_of exception))
        (plans machine (record { roots = view.roots; input = outside.input; printed = outside.printed; exit = None }))

    module _ (linked : IsLinked program) (fits : IsTyped program) (typed : IsTypedState program (state_of view outside)) (has : HasNatives program) where
      four_counted : argument_count program decoded ≡ 4
      four_counted = count_there program index objects limit held outside decoded method at asks natives.ReadRange is linked fits typed has

      pub range_there : 4 ≤ length (top_stack held)
      range_there = let size = enough program index objects limit held outside decoded method at asks in omega (arith, size, four_counted)

      -- of no bytes
      module _ (array from : ℕ) (range : IsRange objects arguments array from 0) where
        pub empty_goes : decoded.next ≡ None → ⊥
        empty_goes =
            goes_on program index objects limit held outside decoded method at asks natives.ReadRange is (answers.Int (pos 0))
            (empty_performed machine (state_of view outside) array from arguments range) (steps_on machine (state_of view outside) decoded at linked fits typed)

        pub empty_turned : {Facts : Type 0} (rules : Rules Facts) (facts : Facts) (roots : Roots) (pc : ℕ) → decoded.next ≡ Some pc
            → roots ≡ behind_answer 4 (answer_values (answers.Int (pos 0))) pc held → TurnMade rules machine (moment_of view outside facts) (moment_of (seen index objects roots) outside facts)
        empty_turned rules facts roots pc next behind =
            answered_turn program index objects limit held outside decoded method at asks natives.ReadRange is (answers.Int (pos 0))
            (empty_performed machine (state_of view outside) array from arguments range) rules facts roots pc next
            (behind ∙ ap (λ (count : ℕ). behind_answer count (answer_values (answers.Int (pos 0))) pc held) (sym four_counted))

      -- of some
      module _ (array from count : ℕ) (range : IsRange objects arguments array from count) (some : 0 < count) where
        range_gives : (input bytes : List ℕ) → take count input ≡ bytes
            → GivesSo program index objects limit held outside decoded method at asks natives.ReadRange is input (drop (length bytes) input) (with_bytes objects array from bytes)
            (answers.Int (count_number (length bytes)))
        range_gives input bytes front = range_performed machine (state_of view outside) array from count input bytes arguments range some front

        pub range_goes : decoded.next ≡ None → ⊥
        range_goes =
            reader_goes program index objects limit held outside decoded method at asks natives.ReadRange is count some (with_bytes objects array from)
            (λ bytes. answers.Int (count_number (length bytes))) range_gives linked fits typed

        pub range_takes : (bytes : List ℕ) → length bytes ≤ count → (pc : ℕ) → decoded.next ≡ Some pc → Takes machine (state_of view outside) bytes
        range_takes =
            reader_takes program index objects limit held outside decoded method at asks natives.ReadRange is count some (with_bytes objects array from)
            (λ bytes. answers.Int (count_number (length bytes))) range_gives

        pub range_turned : {Facts In : Type 0} (left : In → Option (List ℕ)) (gave : In → ℕ → List ℕ → In → Type 0) (rules : Rules Facts) (facts : Facts) (pc : ℕ) → decoded.next ≡ Some pc → (source behind : In) (answer : Answer)
            → (index-now : ℕ → ℕ) (kept : List (Option Object)) (now : Facts) (roots : Roots) → ReadsRange gave source behind (left source) (left behind) count objects kept array from answer → index-now ≡ index → now ≡ facts
            → roots ≡ behind_answer 4 (answer_values answer) pc held → TurnedIn left gave rules machine outside view (seen index-now kept roots) facts now source behind
        range_turned left gave rules facts pc next source behind answer index-now kept now roots reads places knows leaves =
            reader_turn program index objects limit held outside decoded method at asks natives.ReadRange is count some (with_bytes objects array from)
            (λ bytes. answers.Int (count_number (length bytes))) range_gives linked fits typed left gave rules facts pc next source behind reads.bytes reads.took reads.asked index-now kept now roots places reads.stand knows
            (leaves ∙ ap (λ (count : ℕ). behind_answer count (answer_values answer) pc held) (sym four_counted)
            ∙ ap (λ (answer : Answer). behind_answer (argument_count program decoded) (answer_values answer) pc held) reads.gives)
