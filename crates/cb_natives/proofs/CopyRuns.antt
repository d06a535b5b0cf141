-- What natives ask for and perform that make a copy.
use Rattle.std.proofs.Common.{◌≡◌, ◌∙◌, ap, arith, refl, sym, ℕ, ◌+◌, ◌*◌, ◌<◌, ◌≤◌, Bool, true, List, [], ◌∷◌, length, Option, Some, None}
use Rattle.std.proofs.lemmas.Bool.{false≢true}
use Rattle.std.proofs.lemmas.List.{length-append}
use Rattle.std.specs.List.{AllByRecursion}
use Rattle.std.specs.declared.result.Result.TheVariants.{Err, Ok}
use Rattle.cb_heap.specs.Follows.{Follows}
use Rattle.cb_heap.specs.Kept.{contents_at}
use Rattle.cb_heap.specs.Reading.{serial_of}
use Rattle.cb_heap.specs.Rules.{Rules}
use Rattle.cb_library.specs.declared.native.Native.{Native}
use Rattle.cb_library.specs.declared.native.Native.TheVariants as natives
use Rattle.cb_link.specs.Having.{site_kinds}
use Rattle.cb_link.specs.Program.{Linked}
use Rattle.cb_machine.specs.Copying.{array_native}
use Rattle.cb_machine.specs.Machine.{Machine}
use Rattle.cb_machine.specs.Natives.{performed}
use Rattle.cb_machine.specs.Performing.{Gives, Stops}
use Rattle.cb_machine.specs.Plans.{Plan, asked}
use Rattle.cb_machine.specs.Sites.{suppressed}
use Rattle.cb_machine.specs.Throwing.{throws}
use Rattle.cb_plain.specs.Requests.{add_want}
use Rattle.cb_plain.specs.State.{Object, Reference, Roots, State, words_of}
use Rattle.cb_plain.specs.declared.value.Value.{Value}
use Rattle.cb_plain.specs.declared.want.Want.{Want}
use Rattle.cb_natives.specs.Answers.{Beside}
use Rattle.cb_natives.specs.Exceptions.{site_of}
use Rattle.cb_natives.specs.Making.{Asks, MayLeave, Performs, Throws, facts_behind, machine_in, state_in}
use Rattle.cb_natives.specs.MakingArrays.{DecidesCopy, MayMakeCopy, given_by, made_by, makes_array, wanted_by, with_reference}
use Rattle.cb_natives.specs.MakingOwn.{call_of, objects_behind, planned}
use Rattle.cb_natives.specs.declared.answers.Exception.{Exception}
use Rattle.cb_natives.specs.declared.copying.Copying.{Copying}
use Rattle.cb_natives.specs.declared.copying.Copying.TheVariants as copyings

-- ---- which native it is

performed_array : (machine : Machine) (state : State) (native : Native) (arguments : List Value) → makes_array native ≡ true
    → performed machine state native arguments ≡ array_native (record { machine = machine; state = state }) native arguments
performed_array machine state natives.ObjectClone arguments makes = refl
performed_array machine state natives.StringToCharArray arguments makes = refl
performed_array machine state natives.ThrowableAddSuppressed arguments makes = refl
performed_array machine state natives.ThrowableGetSuppressed arguments makes = refl
performed_array machine state other arguments makes = absurd (false≢true makes)

-- ---- what is asked for

one_want : (site size : ℕ) → add_want [] (record { site = site; words = (0 + 1) * words_of size }) ≡ add_want [] (record { site = site; words = words_of size })
one_want site size =
    let words : (0 + 1) * words_of size ≡ words_of size = omega arith in
    ap (λ (words : ℕ). add_want [] (record { site = site; words = words })) words

asked_so : (program : Linked) (objects : List (Option Object)) (index : ℕ → ℕ) (frames : ℕ) (beside : Beside) (copying : Copying) → MayMakeCopy program objects index copying
    → asked (planned (call_of program objects frames beside) (made_by program objects index copying)) ≡ wanted_by copying
asked_so program objects index frames beside (copyings.Gives from site kind size) may =
    one_want site _ ∙ ap (λ (size : ℕ). add_want [] (record { site = site; words = words_of size })) (sym may.whole)
asked_so program objects index frames beside (copyings.Adds at from other size) may =
    let words = contents_at objects (serial_of index from) in
    let more : length (with_reference objects (serial_of index from) (serial_of index other)) ≡ size + 1 =
    omega (arith, length-append words (Reference (serial_of index other) ∷ []), may.whole) in
    one_want suppressed _ ∙ ap (λ (size : ℕ). add_want [] (record { site = suppressed; words = words_of size })) more

pub sites_so : (program : Linked) (objects : List (Option Object)) (index : ℕ → ℕ) (copying : Copying) → 32 ≤ length (site_kinds program) → MayMakeCopy program objects index copying
    → AllByRecursion (λ (want : Want). want.site < length (site_kinds program)) (wanted_by copying)
sites_so program objects index (copyings.Gives from site kind size) known may = (may.at, tt)
sites_so program objects index (copyings.Adds at from other size) known may = (omega (arith, known), tt)

pub some_wanted : (copying : Copying) → wanted_by copying ≡ [] → ⊥
some_wanted (copyings.Gives from site kind size) none = cc none
some_wanted (copyings.Adds at from other size) none = cc none

-- ---- what is planned, thrown and done

abbrev beside_of : Roots → (input printed : List ℕ) → Beside
beside_of roots input printed = record { roots = roots; input = input; printed = printed; exit = None }

module _ (program : Linked) (objects : List (Option Object)) (index : ℕ → ℕ) (native : Native) (arguments : List Value) (makes : makes_array native ≡ true) where
  module _ (copying : Copying) (decided : DecidesCopy program objects index (λ call. array_native call native arguments) (Ok copying)) where
    abbrev plan_of : (frames : ℕ) → Roots → (input printed : List ℕ) → Plan
    plan_of frames roots input printed = planned (call_of program objects frames (beside_of roots input printed)) (made_by program objects index copying)

    does : (roots : Roots) (frames : ℕ) (input printed : List ℕ)
        → performed (machine_in program frames) (state_in (record { roots = roots; objects = objects }) input printed) native arguments
        ≡ Some (Gives (plan_of frames roots input printed) (given_by objects copying))
    does roots frames input printed =
        performed_array (machine_in program frames) (state_in (record { roots = roots; objects = objects }) input printed) native arguments makes
        ∙ decided.does frames (beside_of roots input printed)

    wants_so : (roots : Roots) (frames : ℕ) (input printed : List ℕ) → asked (plan_of frames roots input printed) ≡ wanted_by copying
    wants_so roots frames input printed = asked_so program objects index frames (beside_of roots input printed) copying decided.may

    pub asks_so : (roots : Roots) (wants : List Want) → wants ≡ wanted_by copying → Asks program (record { roots = roots; objects = objects }) native arguments wants
    asks_so roots wants is = λ frames input printed. record {
      own = plan_of frames roots input printed;
      answer = given_by objects copying;
      is = does roots frames input printed;
      asks = wants_so roots frames input printed ∙ sym is;
    }

    pub asked_by : (roots : Roots) (wants : List Want) → Asks program (record { roots = roots; objects = objects }) native arguments wants → wants ≡ wanted_by copying
    asked_by roots wants asks =
        let makes = asks 0 [] [] in
        let same : Some (Gives makes.own makes.answer) ≡ Some (Gives (plan_of 0 roots [] []) (given_by objects copying)) = sym makes.is ∙ does roots 0 [] [] in
        let plans : makes.own ≡ plan_of 0 roots [] [] = cc same in
        sym makes.asks ∙ ap asked plans ∙ wants_so roots 0 [] []

    pub leaves_so : (roots : Roots) (allows : ℕ → ℕ → Bool) → MayLeave program allows (record { roots = roots; objects = objects }) native arguments
        → Follows allows (objects_behind (made_by program objects index copying))
    leaves_so roots allows leaves =
        leaves.each (plan_of leaves.frames roots leaves.input leaves.printed) (given_by objects copying) (does roots leaves.frames leaves.input leaves.printed)

    pub performs_so : {Facts : Type 0} (rules : Rules Facts) (facts : Facts) (kept : List (Option Object)) (now : Facts) (answer : List Value)
        → kept ≡ objects_behind (made_by program objects index copying) → now ≡ facts_behind rules facts (made_by program objects index copying).placed
        → answer ≡ given_by objects copying → (roots : Roots)
        → Performs rules program native arguments (record { roots = roots; objects = objects }) facts (record { roots = roots; objects = kept }) now answer
    performs_so rules facts kept now answer behind knows is roots = λ frames input printed. record {
      own = plan_of frames roots input printed;
      is = does roots frames input printed ∙ ap (λ (answer : List Value). Some (Gives (plan_of frames roots input printed) answer)) (sym is);
      steps = ap (λ (kept : List (Option Object)). state_in (record { roots = roots; objects = kept }) input printed) behind;
      knows = knows;
    }

  module _ (exception : Exception) (decided : DecidesCopy program objects index (λ call. array_native call native arguments) (Err exception)) where
    thrown : (roots : Roots) (frames : ℕ) (input printed : List ℕ)
        → performed (machine_in program frames) (state_in (record { roots = roots; objects = objects }) input printed) native arguments
        ≡ Some (Stops (throws (machine_in program frames) (state_in (record { roots = roots; objects = objects }) input printed) (site_of exception)))
    thrown roots frames input printed =
        performed_array (machine_in program frames) (state_in (record { roots = roots; objects = objects }) input printed) native arguments makes
        ∙ decided.does frames (beside_of roots input printed)

    pub throws_so : (roots : Roots) → Throws program (record { roots = roots; objects = objects }) native arguments exception
    throws_so roots = λ frames input printed. thrown roots frames input printed

    pub not_asked : (roots : Roots) (wants : List Want) → Asks program (record { roots = roots; objects = objects }) native arguments wants → ⊥
    not_asked roots wants asks =
        let makes = asks 0 [] [] in
        let same : Some (Gives makes.own makes.answer) ≡ Some (Stops (throws (machine_in program 0) (state_in (record { roots = roots; objects = objects }) [] []) (site_of exception))) =
        sym makes.is ∙ thrown roots 0 [] [] in
        cc same
