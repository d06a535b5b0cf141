use Rattle.std.proofs.Common.{◌≡◌, ◌+◌, ◌<◌, ◌≤◌, ◌∙◌, IfErr, [], ◌∷◌, ap, length, refl, sym, subst, arith, length-append}
use Rattle.std.specs.List.{AllByRecursion, list_any}
use Rattle.std.proofs.lemmas.Bool.{false≢true}
use Rattle.cb_link.specs.Numbers.{same_name}
use Rattle.cb_link.specs.Having.{HasOwnName}
use Rattle.cb_link.specs.declared.refusal.Refusal.TheVariants.{FolderFault}
use Rattle.cb_load.specs.Loading.{AreLoaded, Stops}
use Rattle.cb_load.specs.InnerTurns.{AreAbsent, IsNext, Stands}
use Rattle.cb_link.proofs.Laws.{handed_from}
use Rattle.cb_load.proofs.LoadFaults.{fault_of_ok, fault_then, no_fault}
use Rattle.cb_load.proofs.LinkLaws.{few_of_library}
use Rattle.cb_load.proofs.NamesPlain.{names_plain}
use Rattle.cb_load.proofs.TurnSteps.{loaded_next}
use Rattle.cb_load.proofs.linking.load_classes.Goals as goal

pub loop-absent-init : goal.loop-absent-init
loop-absent-init g c = (
  refl,
  no_fault _,
  λ name has. absurd (false≢true (sym (ap (list_any (same_name name)) c.none-absent.ensures) ∙ has)),
  subst (λ main. Stands (g.F.Folder.files c.args.folder.now) c.args.root.now main c.args.library c.in_ok-loading.loading.taken c.in_ok-loading.loading.entries c.in_ok-loading.loading.names c.in_ok-loading.loading.classes) c.as_slice.ensures (c.in_ok-loading.ensures.stands (g.F.Folder.files c.args.folder.now) c.args.root.now),
  subst (λ classes. length classes ≤ 1024) (sym c.in_ok-loading.ensures.classes) (few_of_library c.args.library c.requires.library),
)

pub returns-in_err-place-clause-refused : goal.returns-in_err-place-clause-refused
returns-in_err-place-clause-refused g c =
    let now = c.loop-absent.loading in
    let stands = subst (λ files. Stands files c.args.root.now c.args.main.now c.args.library now.taken now.entries now.names now.classes) (sym c.loop-absent.invariant.0) c.loop-absent.invariant.3 in
    let told = subst (λ files. IfErr c.next.result (Stops files c.args.root.now c.args.main.now)) c.loop-absent.invariant.0 (c.next.ensures.refused c.args.main.now c.args.library stands) in
    handed_from (Stops (g.F.Folder.files c.args.folder.now) c.args.root.now c.args.main.now) _ c.next.result _ c.from_residual-in_err-place.ensures c.in_err-place.was told

pub loop-absent-smaller : goal.loop-absent-smaller
loop-absent-smaller g c =
    let now = c.loop-absent.loading in
    let later = c.load.new.self in
    let stands = subst (λ files. Stands files c.args.root.now c.args.main.now c.args.library now.taken now.entries now.names now.classes) (sym c.loop-absent.invariant.0) c.loop-absent.invariant.3 in
    let next = subst (λ found. IsNext (g.F.Folder.files c.loop-absent.folder) c.args.root.now c.args.main.now c.args.library now.entries now.names now.classes found) c.in-Some.is (c.in_ok-place.ensures.next c.args.main.now c.args.library stands) in
    let loaded = loaded_next (g.F.Folder.files c.loop-absent.folder) c.args.root.now c.args.main.now c.args.library c.in-Some.place now.entries later.entries now.names later.names now.classes later.classes c.in-Some.class next c.in_ok-load.ensures.names c.in_ok-load.ensures.entries c.in_ok-load.ensures.classes in
    let less : length now.classes < 1024 = loaded.1 in
    let long : length later.classes ≡ length now.classes + 1 = ap length c.in_ok-load.ensures.classes ∙ length-append now.classes (c.in-Some.class ∷ []) in
    omega (arith, less, long)

pub loop-absent-preserved : goal.loop-absent-preserved
loop-absent-preserved g c =
    let now = c.loop-absent.loading in
    let later = c.load.new.self in
    let stands = subst (λ files. Stands files c.args.root.now c.args.main.now c.args.library now.taken now.entries now.names now.classes) (sym c.loop-absent.invariant.0) c.loop-absent.invariant.3 in
    let next = subst (λ found. IsNext (g.F.Folder.files c.loop-absent.folder) c.args.root.now c.args.main.now c.args.library now.entries now.names now.classes found) c.in-Some.is (c.in_ok-place.ensures.next c.args.main.now c.args.library stands) in
    let loaded = loaded_next (g.F.Folder.files c.loop-absent.folder) c.args.root.now c.args.main.now c.args.library c.in-Some.place now.entries later.entries now.names later.names now.classes later.classes c.in-Some.class next c.in_ok-load.ensures.names c.in_ok-load.ensures.entries c.in_ok-load.ensures.classes in
    let less : length now.classes < 1024 = loaded.1 in
    let long : length later.classes ≡ length now.classes + 1 = ap length c.in_ok-load.ensures.classes ∙ length-append now.classes (c.in-Some.class ∷ []) in
    let counted = subst (λ taken. Stands (g.F.Folder.files c.loop-absent.folder) c.args.root.now c.args.main.now c.args.library taken later.entries later.names later.classes) (sym c.in_ok-load.ensures.taken) loaded.0 in (
      c.in_ok-place.ensures.kept ∙ c.loop-absent.invariant.0,
      fault_then _ _ _ c.loop-absent.invariant.1 (fault_of_ok _ _ c.in_ok-place.field-0 FolderFault c.in_ok-place.ensures.fault),
      subst (λ files. AreAbsent files c.args.root.now c.next.new.absent) c.loop-absent.invariant.0 c.in_ok-place.ensures.absent,
      subst (λ files. Stands files c.args.root.now c.args.main.now c.args.library later.taken later.entries later.names later.classes) c.loop-absent.invariant.0 counted,
      omega (arith, less, long),
    )

pub returns-clause-loaded : goal.returns-clause-loaded
returns-clause-loaded g c =
    let now = c.loop-absent.loading in
    let stands = subst (λ files. Stands files c.args.root.now c.args.main.now c.args.library now.taken now.entries now.names now.classes) (sym c.loop-absent.invariant.0) c.loop-absent.invariant.3 in
    let last = subst (λ found. IsNext (g.F.Folder.files c.loop-absent.folder) c.args.root.now c.args.main.now c.args.library now.entries now.names now.classes found) c.in_default.is (c.in_ok-place.ensures.next c.args.main.now c.args.library stands) in
    (last.0, subst (λ files. AreLoaded files c.args.root.now c.args.main.now last.0) c.loop-absent.invariant.0 last.1, last.2)

pub next-requires : goal.next-requires
next-requires g c = subst (λ files. AreAbsent files c.args.root.now c.loop-absent.absent) (sym c.loop-absent.invariant.0) c.loop-absent.invariant.2

pub returns-clause-few : goal.returns-clause-few
returns-clause-few g c = c.loop-absent.invariant.4

pub returns-clause-named : goal.returns-clause-named
returns-clause-named g c =
    let now = c.loop-absent.loading in
    let stands = subst (λ files. Stands files c.args.root.now c.args.main.now c.args.library now.taken now.entries now.names now.classes) (sym c.loop-absent.invariant.0) c.loop-absent.invariant.3 in
    let last = subst (λ found. IsNext (g.F.Folder.files c.loop-absent.folder) c.args.root.now c.args.main.now c.args.library now.entries now.names now.classes found) c.in_default.is (c.in_ok-place.ensures.next c.args.main.now c.args.library stands) in
    subst (AllByRecursion HasOwnName) (sym last.2) (names_plain (g.F.Folder.files c.loop-absent.folder) c.args.root.now c.args.main.now c.args.library last.0 c.requires.library last.1)
