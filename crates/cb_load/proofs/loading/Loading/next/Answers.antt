use Rattle.std.proofs.Common.{◌≡◌, ◌<◌, ◌≤◌, ◌∙◌, length, sym, subst, arith, true, None}
use Rattle.std.specs.List.{list_any}
use Rattle.cb_link.specs.Numbers.{same_name}
use Rattle.cb_link.specs.declared.refusal.Refusal.TheVariants.{FolderFault}
use Rattle.cb_load.specs.InnerTurns.{AreAbsent}
use Rattle.cb_load.specs.Loading.{Stops}
use Rattle.cb_load.specs.Files.{MayStandAt, path_of}
use Rattle.cb_link.proofs.Laws.{handed}
use Rattle.cb_load.proofs.LoadFiles.{more_absent}
use Rattle.cb_load.proofs.LoadFaults.{fault_of_ok, fault_then}
use Rattle.cb_load.proofs.TurnSteps.{entry_at, entry_named, few_of, found_next, idle_next, none_next, stop_next, there_next}
use Rattle.cb_load.proofs.loading.Loading.next.Goals as goal

pub loop-place-preserved-then-has : goal.loop-place-preserved-then-has
loop-place-preserved-then-has g c =
    let found = entry_named c.args.self.now.entries c.loop-place.place c.name-name.result.now c.name-name.ensures in
    let known = sym c.has.ensures ∙ c.if-has.true in (
      c.loop-place.invariant.0,
      c.loop-place.invariant.1,
      c.loop-place.invariant.2,
      λ main library stands. there_next (g.F.Folder.files c.args.folder.now) _ c.loop-place.invariant.0 c.args.root.now main library c.loop-place.place c.args.self.now.entries c.args.self.now.names c.args.self.now.classes found.0 (c.loop-place.invariant.3 main library stands) found.1
          (subst (λ name. list_any (same_name name) c.args.self.now.names ≡ true) (sym found.2) known),
    )

pub returns-in_err-class-clause-refused : goal.returns-in_err-class-clause-refused
returns-in_err-class-clause-refused g c = λ main library stands.
    let within : c.loop-place.place < length c.args.self.now.entries = omega (arith, c.loop-place-test.true, c.len-place-end.ensures) in
    let at = entry_at c.args.self.now.entries c.loop-place.place c.name-name.result.now c.is_needed-needed.result within c.name-name.ensures c.is_needed-needed.ensures in
    handed (Stops (g.F.Folder.files c.args.folder.now) c.args.root.now main) _ _ c.from_residual.ensures
    (stop_next (g.F.Folder.files c.args.folder.now) _ c.loop-place.invariant.0 c.args.root.now main library c.loop-place.place c.args.self.now.entries c.args.self.now.names c.args.self.now.classes _ (c.loop-place.invariant.3 main library stands) at
    _ (sym c.has.ensures ∙ c.if-has.false) (few_of c.len-has_room.result _ c.len-has_room.ensures) _ c.in_err-class.ensures.refused)

pub returns-in-Some-clause-next : goal.returns-in-Some-clause-next
returns-in-Some-clause-next g c = λ main library stands.
    let within : c.loop-place.place < length c.args.self.now.entries = omega (arith, c.loop-place-test.true, c.len-place-end.ensures) in
    let at = entry_at c.args.self.now.entries c.loop-place.place c.name-name.result.now c.is_needed-needed.result within c.name-name.ensures c.is_needed-needed.ensures in
    found_next (g.F.Folder.files c.args.folder.now) _ c.loop-place.invariant.0 c.args.root.now main library c.loop-place.place c.args.self.now.entries c.args.self.now.names c.args.self.now.classes _ (c.loop-place.invariant.3 main library stands) at
    _ (sym c.has.ensures ∙ c.if-has.false) (few_of c.len-has_room.result _ c.len-has_room.ensures) c.in_ok-class.field-0 c.in-Some.class c.in-Some.is c.in_ok-class.ensures.loads

pub loop-place-preserved : goal.loop-place-preserved
loop-place-preserved g c =
    let within : c.loop-place.place < length c.args.self.now.entries = omega (arith, c.loop-place-test.true, c.len-place-end.ensures) in
    let at = entry_at c.args.self.now.entries c.loop-place.place c.name-name.result.now c.is_needed-needed.result within c.name-name.ensures c.is_needed-needed.ensures in (
      c.in_ok-class.ensures.kept ∙ c.loop-place.invariant.0,
      fault_then _ _ _ c.loop-place.invariant.1 (fault_of_ok _ _ c.in_ok-class.field-0 FolderFault c.in_ok-class.ensures.fault),
      more_absent (g.F.Folder.files c.args.folder.now) c.args.root.now c.loop-place.absent c.insert.new.self c.name-name.result.now c.loop-place.invariant.2
          (subst (λ files. MayStandAt files (path_of c.args.root.now c.name-name.result.now) None) c.loop-place.invariant.0 (c.in_ok-class.ensures.absent c.in_default.is)) c.in_ok-insert.ensures,
      λ main library stands. idle_next (g.F.Folder.files c.args.folder.now) _ c.loop-place.invariant.0 c.args.root.now main library c.loop-place.place c.args.self.now.entries c.args.self.now.names c.args.self.now.classes _ (c.loop-place.invariant.3 main library stands) at
          _ (sym c.has.ensures ∙ c.if-has.false) (few_of c.len-has_room.result _ c.len-has_room.ensures) c.in_ok-class.field-0 c.in_default.is c.in_ok-class.ensures.loads,
    )

pub returns-clause-next : goal.returns-clause-next
returns-clause-next g c = λ main library stands.
    let last : length c.args.self.now.entries ≤ c.loop-place.place = omega (arith, c.loop-place-test.false, c.len-place-end.ensures) in
    none_next (g.F.Folder.files c.args.folder.now) c.args.root.now main library c.loop-place.place c.args.self.now.entries c.args.self.now.names c.args.self.now.classes (c.loop-place.invariant.3 main library stands) last

pub class_for-requires : goal.class_for-requires
class_for-requires g c = subst (λ files. AreAbsent files c.args.root.now c.loop-place.absent) (sym c.loop-place.invariant.0) c.loop-place.invariant.2
