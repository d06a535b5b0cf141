-- Natives that read: what they are given of the input, and the turn of one is the machine's.
use Rattle.std.proofs.Common.{◌≡◌, ◌∙◌, ◌⊎◌, ap, arith, inl, inr, refl, subst, sym, ℕ, zero, suc, ◌<◌, ◌≤◌, ◌^◌, true, List, [], ◌∷◌, ◌++◌, drop, length, map, Option, Some, None, is_some, take}
use Rattle.std.proofs.Math.Seq.{drop-append_seam}
use Rattle.std.proofs.lemmas.List.{append-nil}
use Rattle.std.specs.Prelude.{OnOk, option_map}
use Rattle.std.specs.declared.result.Result.{Result}
use Rattle.std.specs.declared.result.Result.TheVariants.{Err, Ok}
use Rattle.cb_act.specs.Acting.{Asks, acted}
use Rattle.cb_act.specs.Here.{Here}
use Rattle.cb_act.specs.Turning.{Outside, TurnMade, machine_of, moment_of, state_of}
use Rattle.cb_act.specs.declared.need.Need.TheVariants as needs
use Rattle.cb_heap.specs.Reading.{View, read_roots, read_value, seen}
use Rattle.cb_heap.specs.Rules.{Rules}
use Rattle.cb_library.specs.declared.native.Native.{Native}
use Rattle.cb_link.specs.Program.{Linked}
use Rattle.cb_link.specs.declared.decoded.Decoded.{Decoded}
use Rattle.cb_machine.specs.Machine.{Machine}
use Rattle.cb_machine.specs.Natives.{native_of, performed}
use Rattle.cb_machine.specs.Performing.{Gives}
use Rattle.cb_machine.specs.Plans.{leaving, made}
use Rattle.cb_machine.specs.Steps.{plan}
use Rattle.cb_natives.specs.Asking.{Asked, GaveNone}
use Rattle.cb_natives.specs.Input.{Took}
use Rattle.cb_natives.specs.declared.answers.Answer.{Answer}
use Rattle.cb_plain.specs.State.{Object, Roots, State}
use Rattle.cb_plain.specs.Updates.{with_input, with_objects, with_roots}
use Rattle.cb_plain.specs.declared.value.Value.{Value}
use Rattle.cb_safety.specs.Linked.{IsLinked}
use Rattle.cb_safety.specs.States.{IsInput, IsTypedState}
use Rattle.cb_verify.specs.Typed.{IsTyped}
use Rattle.cb_interp.specs.Answering.{answer_values, argument_count, behind_answer}
use Rattle.cb_interp.specs.Performing.{arguments_at}
use Rattle.cb_interp.specs.Reading.{IsGiven, Reading, Silent, Takes, TurnedIn, with_given}
use Rattle.cb_interp.specs.declared.stop.Stop.{Stop}
use Rattle.cb_interp.proofs.NativesAnswered.{behind_read}
use Rattle.cb_interp.proofs.NativesLeft.{left_goes, left_plan}
use Rattle.cb_interp.proofs.TurnsMade.{quiet_turn}
use Rattle.cb_interp.proofs.TurnsNeed.{steps_on}

-- ---- what is given: what was read, with another byte behind it where there were as many as were asked for

pub record GivenBy {In : Type 0} (left : In → Option (List ℕ)) (gave : In → ℕ → List ℕ → In → Type 0) (source behind : In) (count : ℕ) (read : List ℕ) : Type 0 where
  pub rest : List ℕ
  pub is : IsGiven left gave source behind read rest
  pub front : take count (read ++ rest) ≡ read

take_all : (count : ℕ) (read : List ℕ) → length read ≤ count → take count read ≡ read
take_all zero [] few = refl
take_all zero (byte ∷ read) few = absurd (omega (arith, few))
take_all (suc count) [] few = refl
take_all (suc count) (byte ∷ read) few = ap (λ (rest : List ℕ). byte ∷ rest) (take_all count read (omega (arith, few)))

all_dropped : (bytes : List ℕ) → drop (length bytes) bytes ≡ []
all_dropped bytes = ap (drop (length bytes)) (sym (append-nil bytes)) ∙ drop-append_seam bytes []

take_one : (count : ℕ) → 0 < count → take {A = ℕ} count (0 ∷ []) ≡ 0 ∷ []
take_one count some = take_all count (0 ∷ []) (omega (arith, some))

take_front : (count : ℕ) (read rest : List ℕ) → length read ≡ count → take count (read ++ rest) ≡ read
take_front zero [] rest all = refl
take_front zero (byte ∷ read) rest all = absurd (omega (arith, all))
take_front (suc count) [] rest all = absurd (omega (arith, all))
take_front (suc count) (byte ∷ read) rest all = ap (λ (front : List ℕ). byte ∷ front) (take_front count read rest (omega (arith, all)))

bytes_joined : (one other : List ℕ) → IsInput one → IsInput other → IsInput (one ++ other)
bytes_joined [] other all each = each
bytes_joined (byte ∷ one) other all each = (all.0, bytes_joined one other all.1 each)

pub given_by : {In : Type 0} (left : In → Option (List ℕ)) (gave : In → ℕ → List ℕ → In → Type 0) (source behind : In) (count : ℕ) (read : List ℕ)
    → Took (left source) (left behind) count read → Asked gave count source behind read → GivenBy left gave source behind count read
given_by left gave source behind count read took asked = by asked.ends where
  by : ((length read ≡ count) × (behind ≡ asked.mid)) ⊎ ((length read < count) × GaveNone gave asked.mid behind) → GivenBy left gave source behind count read
  by (inl (all, same)) =
      let zero_low : 0 < 2 ^ 8 = omega arith in
      record {
        rest = 0 ∷ [];
        is = record {
          mid = asked.mid;
          calls = asked.calls;
          ends = inl (omega arith, same);
          bytes = bytes_joined read (0 ∷ []) took.low (zero_low, tt);
          consumes = took.consumes;
          end = λ none. absurd (cc none);
        };
        front = take_front count read (0 ∷ []) all;
      }
  by (inr (less, none)) = record {
    rest = [];
    is = record {
      mid = asked.mid;
      calls = asked.calls;
      ends = inr (refl, none);
      bytes = bytes_joined read [] took.low tt;
      consumes = took.consumes;
      end = λ same. took.end less;
    };
    front = ap (take count) (append-nil read) ∙ take_all count read took.few;
  }

-- ---- the turn

abbrev pub here_given : (machine : Machine) (view : View) (outside : Outside) (decoded : Decoded) (given : List ℕ) → Here machine (state_of view outside) decoded
    → Here machine (state_of view (with_given outside given)) decoded
here_given machine view outside decoded given at =
    record { frame = at.frame; below = at.below; frames = at.frames; quiet = at.quiet; runs = refl; insn = at.insn; there = at.there; is = at.is }

pub typed_given : (program : Linked) (view : View) (outside : Outside) (given : List ℕ) → IsTypedState program (state_of view outside) → IsInput given
    → IsTypedState program (state_of view (with_given outside given))
typed_given program view outside given typed all = record { heap = typed.heap; roots = typed.roots; input = all }

-- no byte was read
pub silent_ins : {Facts In : Type 0} (left : In → Option (List ℕ)) (gave : In → ℕ → List ℕ → In → Type 0) (rules : Rules Facts) (machine : Machine) (outside : Outside)
    (before after : View) (facts now : Facts) (source : In) (result : Result (Unit {0}) Stop) → OnOk result (TurnMade rules machine (moment_of before outside facts) (moment_of after outside now))
    → OnOk result (TurnedIn left gave rules machine outside before after facts now source source)
silent_ins left gave rules machine outside before after facts now source (Ok done) turned = Silent turned refl
silent_ins left gave rules machine outside before after facts now source (Err stop) turned = tt

module _ (program : Linked) (index : ℕ → ℕ) (objects : List (Option Object)) (limit : ℕ) (held : Roots) (outside : Outside) (decoded : Decoded) (method : ℕ)
    (at : Here (machine_of program limit) (state_of (seen index objects held) outside) decoded)
    (asks : acted program limit decoded (seen index objects held) ≡ Some (Asks (needs.Performs method)))
    (native : Native) (is : native_of program method ≡ Some native) where
  abbrev machine : Machine
  machine = machine_of program limit

  abbrev view : View
  view = seen index objects held

  abbrev state : List ℕ → State
  state given = state_of view (with_given outside given)

  abbrev arguments : List Value
  arguments = map (read_value index) (arguments_at program decoded held)

  -- what it leaves: the input that is left, and objects
  abbrev pub left_by : List ℕ → List (Option Object) → State
  left_by rest after = with_objects (with_input (state_of view outside) rest) after

  abbrev pub GivesSo : (given rest : List ℕ) → List (Option Object) → Answer → Type 0
  GivesSo given rest after answer = performed machine (state given) native arguments ≡ Some (Gives (leaving (left_by rest after)) (answer_values answer))

  module _ (given rest : List ℕ) (after : List (Option Object)) (answer : Answer) (gives : GivesSo given rest after answer) where
    pub read_goes : is_some (plan machine (state given)) ≡ true → decoded.next ≡ None → ⊥
    read_goes some none =
        left_goes program index objects limit held (with_given outside given) decoded method (here_given machine view outside decoded given at) asks native is (left_by rest after) answer refl gives some none

    pub read_plan : (pc : ℕ) → decoded.next ≡ Some pc
        → plan machine (state given) ≡ Some (leaving (with_roots (left_by rest after) (behind_answer (argument_count program decoded) (answer_values answer) pc view.roots)))
    read_plan pc next =
        left_plan program index objects limit held (with_given outside given) decoded method (here_given machine view outside decoded given at) asks native is (left_by rest after) answer refl gives pc next

    pub read_made : {Facts : Type 0} (rules : Rules Facts) (facts : Facts) (pc : ℕ) → decoded.next ≡ Some pc → (index-now : ℕ → ℕ) (kept : List (Option Object)) (now : Facts) (roots : Roots)
        → index-now ≡ index → kept ≡ after → now ≡ facts → roots ≡ behind_answer (argument_count program decoded) (answer_values answer) pc held
        → TurnMade rules machine (moment_of view (with_given outside given) facts) (moment_of (seen index-now kept roots) (with_given outside rest) now)
    read_made rules facts pc next index-now kept now roots places stand knows left =
        let read : read_roots index-now roots ≡ behind_answer (argument_count program decoded) (answer_values answer) pc view.roots =
        ap (λ (index : ℕ → ℕ). read_roots index roots) places ∙ ap (read_roots index) left ∙ behind_read index (argument_count program decoded) pc answer held in
        quiet_turn rules machine (moment_of view (with_given outside given) facts) (moment_of (seen index-now kept roots) (with_given outside rest) now)
        (leaving (with_roots (left_by rest after) (behind_answer (argument_count program decoded) (answer_values answer) pc view.roots)))
        (read_plan pc next) refl
        (ap (λ (roots : Roots). state_of (record { roots = roots; objects = kept }) (with_given outside rest)) read
        ∙ ap (λ (objects : List (Option Object)). state_of (record { roots = behind_answer (argument_count program decoded) (answer_values answer) pc view.roots; objects = objects })
        (with_given outside rest)) stand)
        knows

  -- given bytes it leaves none
  pub read_takes : (bytes rest : List ℕ) → rest ≡ [] → (after : List (Option Object)) (answer : Answer) → GivesSo bytes rest after answer → (pc : ℕ) → decoded.next ≡ Some pc
      → Takes machine (state_of view outside) bytes
  read_takes bytes rest none after answer gives pc next = record {
    next = with_roots (left_by rest after) (behind_answer (argument_count program decoded) (answer_values answer) pc view.roots);
    steps = ap (option_map made) (read_plan bytes rest after answer gives pc next);
    taken = none;
  }

  -- a native that takes so many bytes at most from the front of its input, of which follow the objects that it leaves and its answer
  module _ (count : ℕ) (some : 0 < count) (after : List ℕ → List (Option Object)) (answer : List ℕ → Answer)
      (gives : (input bytes : List ℕ) → take count input ≡ bytes → GivesSo input (drop (length bytes) input) (after bytes) (answer bytes)) where
    byte_gives : GivesSo (0 ∷ []) [] (after (0 ∷ [])) (answer (0 ∷ []))
    byte_gives = gives (0 ∷ []) (0 ∷ []) (take_one count some)

    pub reader_takes : (bytes : List ℕ) → length bytes ≤ count → (pc : ℕ) → decoded.next ≡ Some pc → Takes machine (state_of view outside) bytes
    reader_takes bytes few =
        read_takes bytes (drop (length bytes) bytes) (all_dropped bytes) (after bytes) (answer bytes) (gives bytes bytes (take_all count bytes few))

    module _ (linked : IsLinked program) (fits : IsTyped program) (typed : IsTypedState program (state_of view outside)) where
      pub reader_goes : decoded.next ≡ None → ⊥
      reader_goes none =
          let zero_low : 0 < 2 ^ 8 = omega arith in
          read_goes (0 ∷ []) [] (after (0 ∷ [])) (answer (0 ∷ [])) byte_gives
          (steps_on machine (state (0 ∷ [])) decoded (here_given machine view outside decoded (0 ∷ []) at) linked fits (typed_given program view outside (0 ∷ []) typed (zero_low, tt)))
          none

      pub reader_turn : {Facts In : Type 0} (left : In → Option (List ℕ)) (gave : In → ℕ → List ℕ → In → Type 0) (rules : Rules Facts) (facts : Facts) (pc : ℕ) → decoded.next ≡ Some pc
          → (source behind : In) (bytes : List ℕ) → Took (left source) (left behind) count bytes → Asked gave count source behind bytes
          → (index-now : ℕ → ℕ) (kept : List (Option Object)) (now : Facts) (roots : Roots) → index-now ≡ index → kept ≡ after bytes → now ≡ facts
          → roots ≡ behind_answer (argument_count program decoded) (answer_values (answer bytes)) pc held
          → TurnedIn left gave rules machine outside view (seen index-now kept roots) facts now source behind
      reader_turn left gave rules facts pc next source behind bytes took asked index-now kept now roots places stand knows leaves =
          let by : GivenBy left gave source behind count bytes = given_by left gave source behind count bytes took asked in
          let given : GivesSo (bytes ++ by.rest) by.rest (after bytes) (answer bytes) =
          subst (λ (rest : List ℕ). GivesSo (bytes ++ by.rest) rest (after bytes) (answer bytes)) (drop-append_seam bytes by.rest) (gives (bytes ++ by.rest) bytes by.front) in
          Reading bytes by.rest (reader_takes (0 ∷ []) (omega (arith, some)) pc next) by.is
          (read_made (bytes ++ by.rest) by.rest (after bytes) (answer bytes) given rules facts pc next index-now kept now roots places stand knows leaves)
