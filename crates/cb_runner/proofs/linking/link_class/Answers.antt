use Rattle.std.proofs.Common.{refl, subst}
use Rattle.cb_load.specs.Linking.{Hinders, IsLinked}
use Rattle.cb_link.specs.declared.refusal.Refusal.TheVariants as links
use Rattle.cb_runner.specs.Inner.{run_of}
use Rattle.cb_runner.proofs.Endings.{quiet_count}
use Rattle.cb_runner.proofs.Unlinked.{unlinked_so}
use Rattle.cb_runner.proofs.Unverified.{formed_all, gave, linked_by, quiet_by, runnable_by, stopped_by}
use Rattle.cb_runner.proofs.linking.link_class.Goals as goal

pub returns-in-Err-clause-stopped : goal.returns-in-Err-clause-stopped
returns-in-Err-clause-stopped g c =
    let stops = subst (λ main. Hinders (g.F.Folder.files c.args.folder.now) c.args.asked.now.folder.now c.in-Ok.library main c.in-Err.refusal) c.in-Ok-internal_name.ensures c.in-Err.ensures.refused in
    unlinked_so _ _ (run_of c.args.asked.now) _ c.in-Err.refusal c.unlinked.result c.in-Ok.ensures.made stops c.unlinked.ensures

pub returns-in-Ok-link-clause-runnable : goal.returns-in-Ok-link-clause-runnable
returns-in-Ok-link-clause-runnable g c =
    let links = subst (λ main. IsLinked (g.F.Folder.files c.args.folder.now) c.args.asked.now.folder.now c.in-Ok.library main c.in-Ok-link.program) c.in-Ok-internal_name.ensures c.in-Ok-link.ensures.linked in
    runnable_by _ _ _ _ c.in-Ok-link.program c.verified.result c.in-Ok.ensures.made links c.verified.ensures.same c.verified.ensures.typed

pub returns-in-Ok-link-clause-linked : goal.returns-in-Ok-link-clause-linked
returns-in-Ok-link-clause-linked g c =
    let formed = formed_all c.in-Ok.library c.in-Ok.ensures.readable in
    linked_by c.in-Ok-link.program c.verified.result (c.linking_links.ensures _ _ _ c.in-Ok.library c.in-Ok-link.program c.in-Ok.ensures.records formed c.in-Ok-link.ensures.linked) c.verified.ensures.same

pub returns-in-Ok-link-clause-stopped : goal.returns-in-Ok-link-clause-stopped
returns-in-Ok-link-clause-stopped g c =
    let links = subst (λ main. IsLinked (g.F.Folder.files c.args.folder.now) c.args.asked.now.folder.now c.in-Ok.library main c.in-Ok-link.program) c.in-Ok-internal_name.ensures c.in-Ok-link.ensures.linked in
    stopped_by _ _ (run_of c.args.asked.now) _ c.in-Ok-link.program c.verified.result c.in-Ok.ensures.made links c.verified.ensures.stopped

pub returns-in-Ok-link-clause-fault : goal.returns-in-Ok-link-clause-fault
returns-in-Ok-link-clause-fault g c =
    quiet_count _ _ (gave _ c.in-Ok-link.program links.FolderFault refl) (quiet_by c.in-Ok-link.program c.verified.result c.verified.ensures.stopped) c.in-Ok-link.ensures.fault
