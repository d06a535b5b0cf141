-- How a run ends that nothing cuts short, where the folder tells its files and linking has one outcome.
use Rattle.std.proofs.Common.{◌≡◌, ◌++◌, ℕ, ◌<◌, List, Option, Some, None, sym, ◌∙◌, ap, subst, arith}
use Rattle.cb_io.specs.Folder.{Files}
use Rattle.cb_classfile.specs.declared.class.ClassFile.{ClassFile}
use Rattle.cb_core.specs.Recorded.{core_records}
use Rattle.cb_link.specs.declared.refusal.Refusal.{Refusal}
use Rattle.cb_link.specs.Judging.{IsNoProgram, IsProgram}
use Rattle.cb_load.specs.Linking.{Behind, InLoading}
use Rattle.cb_load.specs.Loading.{AreLoaded, StopsFor}
use Rattle.cb_link.specs.Program.{Linked, linked}
use Rattle.cb_verify.specs.Typed.{IsTyped, fails_at}
use Rattle.cb_runner.specs.Ending.{Ending, refused}
use Rattle.cb_runner.specs.Messages.{Reason}
use Rattle.cb_runner.specs.Run.{AreNoProgram, AreProgram, IsRunnable, RunsClass, Stopped, Typed, Unrun, Untyped, AreTyped, AreUntyped, IsUntyped, reason_of_linking, reason_of_typing}
use Rattle.cb_runner.specs.Running.{EndsRun}
use Rattle.cb_runner.specs.Words.{Run}

-- linking loads classes or stops, and stops for one reason; and what was loaded is a program, or none for one reason
pub record LinksOnce (files : Files) (folder main : List ℕ) : Type 0 where
  pub apart : (classes : List ClassFile) (refusal : Refusal) → AreLoaded (Some files) folder main classes → StopsFor (Some files) folder main refusal → ⊥
  pub same : (one other : Refusal) → StopsFor (Some files) folder main one → StopsFor (Some files) folder main other → one ≡ other
  pub alike : (one other : List ClassFile) → AreLoaded (Some files) folder main one → AreLoaded (Some files) folder main other → one ≡ other
  pub judged : (classes : List ClassFile) (method : ℕ) (refusal : Refusal) → IsProgram classes main method → IsNoProgram classes main refusal → ⊥
  pub reason : (classes : List ClassFile) (one other : Refusal) → IsNoProgram classes main one → IsNoProgram classes main other → one ≡ other

one_told : (one other : Refusal) (why reason : Reason) (ending : Ending) → one ≡ other → reason_of_linking one ≡ Some why → reason_of_linking other ≡ Some reason → ending ≡ refused why 0 → ending ≡ refused reason 0
one_told one other why reason ending same says gives is =
    let both : Some why ≡ Some reason = sym says ∙ ap reason_of_linking same ∙ gives in
    let alike : why ≡ reason = cc in
    is ∙ ap (λ reason. refused reason 0) alike

-- a run whose class isn't loaded
pub stopped_so : {In : Type 0} (left : In → Option (List ℕ)) (gave : In → ℕ → List ℕ → In → Type 0) (files : Files) (folder : List ℕ) (run : Run) (first last : In) (ending : Ending) (refusal : Refusal) (reason : Reason) → LinksOnce files folder run.main → RunsClass left gave (Some files) folder run first last ending → StopsFor (Some files) folder run.main refusal → reason_of_linking refusal ≡ Some reason → ending ≡ refused reason 0
stopped_so left gave files folder run first last ending refusal reason once (Unrun (Stopped told why (InLoading stops) says is) alone) stopped gives =
    one_told told refusal why reason ending (once.same told refusal stops stopped) says gives is
stopped_so left gave files folder run first last ending refusal reason once (Unrun (Stopped told why (Behind classes loaded none) says is) alone) stopped gives = absurd (once.apart classes refusal loaded stopped)
stopped_so left gave files folder run first last ending refusal reason once (Unrun (Untyped classes method why loaded good untyped is) alone) stopped gives = absurd (once.apart classes refusal loaded stopped)
stopped_so left gave files folder run first last ending refusal reason once (Typed program runnable runs) stopped gives = absurd (once.apart runnable.classes refusal runnable.loaded stopped)

-- classes that are alike are one program
same_program : (others classes : List ClassFile) (main : List ℕ) (method : ℕ) → others ≡ classes → IsProgram (core_records ++ others) main method → IsProgram (core_records ++ classes) main method
same_program others classes main method same good = subst (λ classes. IsProgram (core_records ++ classes) main method) same good

-- one whose classes are no program
pub judged_so : {In : Type 0} (left : In → Option (List ℕ)) (gave : In → ℕ → List ℕ → In → Type 0) (files : Files) (folder : List ℕ) (run : Run) (first last : In) (ending : Ending) (classes : List ClassFile) (refusal : Refusal) (reason : Reason) → LinksOnce files folder run.main → RunsClass left gave (Some files) folder run first last ending → AreLoaded (Some files) folder run.main classes → AreNoProgram classes run.main refusal → reason_of_linking refusal ≡ Some reason → ending ≡ refused reason 0
judged_so left gave files folder run first last ending classes refusal reason once (Unrun (Stopped told why (InLoading stops) says is) alone) loaded none gives = absurd (once.apart classes told loaded stops)
judged_so left gave files folder run first last ending classes refusal reason once (Unrun (Stopped told why (Behind others loaded_too none_too) says is) alone) loaded none gives =
    let here = subst (λ classes. IsNoProgram (core_records ++ classes) run.main told) (once.alike others classes loaded_too loaded) none_too in
    one_told told refusal why reason ending (once.reason (core_records ++ classes) told refusal here none) says gives is
judged_so left gave files folder run first last ending classes refusal reason once (Unrun (Untyped others method why loaded_too good untyped is) alone) loaded none gives =
    absurd (once.judged (core_records ++ classes) method refusal (same_program others classes run.main method (once.alike others classes loaded_too loaded) good) none)
judged_so left gave files folder run first last ending classes refusal reason once (Typed program runnable runs) loaded none gives =
    let same = once.alike runnable.classes classes runnable.loaded loaded in
    absurd (once.judged (core_records ++ classes) runnable.method refusal (same_program runnable.classes classes run.main runnable.method same runnable.good) none)

-- the first number at which a function gives something, and what it gives
one_first : (fails : ℕ → Option ℕ) (one other pc place : ℕ) → fails one ≡ Some pc → ((number : ℕ) → number < one → fails number ≡ None) → fails other ≡ Some place → ((number : ℕ) → number < other → fails number ≡ None) → (one ≡ other) × (pc ≡ place)
one_first fails one other pc place is first is_too first_too =
    let below : one < other → ⊥ = λ less. gives_none one is (first_too one less) in
    let above : other < one → ⊥ = λ less. gives_none other is_too (first other less) in
    let same : one ≡ other = omega (arith, below, above) in
    let gives : Some pc ≡ Some place = sym is ∙ ap fails same ∙ is_too in
    (same, cc)
  where
    gives_none : {found : ℕ} (number : ℕ) → fails number ≡ Some found → fails number ≡ None → ⊥
    gives_none number gives none = cc

one_reason : (program : Linked) (one other : Reason) → IsUntyped program one → IsUntyped program other → one ≡ other
one_reason program one other is is_too =
    let (number, pc) = one_first (fails_at program) is.number is_too.number is.pc is_too.pc is.first.fails is.first.first is_too.first.fails is_too.first.first in
    let told : Some one ≡ Some other = sym is.told ∙ ap (λ number. reason_of_typing program number is.pc) number ∙ ap (reason_of_typing program is_too.number) pc ∙ is_too.told in
    cc

not_both : (program : Linked) (reason : Reason) → IsTyped program → IsUntyped program reason → ⊥
not_both program reason typed untyped = none (fails_at program untyped.number) (typed.fit untyped.number untyped.first.within) untyped.first.fails where
  none : {pc : ℕ} (found : Option ℕ) → found ≡ None → found ≡ Some pc → ⊥
  none found is is_too = cc

-- one whose classes are a program that isn't typed
pub untyped_so : {In : Type 0} (left : In → Option (List ℕ)) (gave : In → ℕ → List ℕ → In → Type 0) (files : Files) (folder : List ℕ) (run : Run) (first last : In) (ending : Ending) (classes : List ClassFile) (reason : Reason) → LinksOnce files folder run.main → RunsClass left gave (Some files) folder run first last ending → AreLoaded (Some files) folder run.main classes → AreProgram classes run.main → AreUntyped classes run.main reason → ending ≡ refused reason 0
untyped_so left gave files folder run first last ending classes reason once (Unrun (Stopped refusal why (InLoading stops) says is) alone) loaded good untyped = absurd (once.apart classes refusal loaded stops)
untyped_so left gave files folder run first last ending classes reason once (Unrun (Stopped refusal why (Behind others loaded_too none) says is) alone) loaded good untyped =
    let (method, program) = good in
    absurd (once.judged (core_records ++ classes) method refusal program (subst (λ classes. IsNoProgram (core_records ++ classes) run.main refusal) (once.alike others classes loaded_too loaded) none))
untyped_so left gave files folder run first last ending classes reason once (Unrun (Untyped others method why loaded_too good_too untyped_too is) alone) loaded good untyped =
    let same = once.alike others classes loaded_too loaded in
    let told = subst (λ classes. IsUntyped (linked (core_records ++ classes) run.main method) why) same untyped_too in
    is ∙ ap (λ reason. refused reason 0) (one_reason (linked (core_records ++ classes) run.main method) why reason told (untyped method (same_program others classes run.main method same good_too)))
untyped_so left gave files folder run first last ending classes reason once (Typed program runnable runs) loaded good untyped =
    let same = once.alike runnable.classes classes runnable.loaded loaded in
    let told = subst (λ classes. IsTyped (linked (core_records ++ classes) run.main runnable.method)) same (subst IsTyped runnable.is runnable.typed) in
    absurd (not_both (linked (core_records ++ classes) run.main runnable.method) reason told (untyped runnable.method (same_program runnable.classes classes run.main runnable.method same runnable.good)))

-- one whose classes are a program that is typed runs that of its classes
pub runs_so : {In : Type 0} (left : In → Option (List ℕ)) (gave : In → ℕ → List ℕ → In → Type 0) (files : Files) (folder : List ℕ) (run : Run) (first last : In) (ending : Ending) (classes : List ClassFile) → LinksOnce files folder run.main → RunsClass left gave (Some files) folder run first last ending → AreLoaded (Some files) folder run.main classes → AreProgram classes run.main → AreTyped classes run.main → (program : Linked) × IsRunnable (Some files) folder run.main program × EndsRun left gave run program first last ending
runs_so left gave files folder run first last ending classes once (Unrun (Stopped refusal reason (InLoading stops) says is) alone) loaded good typed = absurd (once.apart classes refusal loaded stops)
runs_so left gave files folder run first last ending classes once (Unrun (Stopped refusal reason (Behind others loaded_too none) says is) alone) loaded good typed =
    let (method, program) = good in
    absurd (once.judged (core_records ++ classes) method refusal program (subst (λ classes. IsNoProgram (core_records ++ classes) run.main refusal) (once.alike others classes loaded_too loaded) none))
runs_so left gave files folder run first last ending classes once (Unrun (Untyped others method reason loaded_too good_too untyped is) alone) loaded good typed =
    let same = once.alike others classes loaded_too loaded in
    let told = subst (λ classes. IsUntyped (linked (core_records ++ classes) run.main method) reason) same untyped in
    absurd (not_both (linked (core_records ++ classes) run.main method) reason (typed method (same_program others classes run.main method same good_too)) told)
runs_so left gave files folder run first last ending classes once (Typed program runnable runs) loaded good typed = (program, runnable, runs)
