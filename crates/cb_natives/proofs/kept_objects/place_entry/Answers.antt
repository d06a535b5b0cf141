use Rattle.cb_heap.specs.Storage.{view_in}
use Rattle.std.proofs.Common.{◌∙◌, ◌++◌, ◌∷◌, [], Some, ap, rules, w64, ℤ}
use Rattle.std.proofs.lemmas.Int.{to_z-of_z}
use mir.Val.{SFits}
use Rattle.cb_frames.specs.Limited.{Limited}
use Rattle.cb_machine.specs.Plans.{object_of}
use Rattle.cb_plain.specs.State.{Number}
use Rattle.cb_natives.proofs.KeptMade.{entry_placed}
use Rattle.cb_natives.proofs.kept_objects.place_entry.Goals as goal

pub returns-clause-view : goal.returns-clause-view
returns-clause-view g c =
    let fits : SFits w64 c.args.entry.number = search rules in
    ap (λ (held : Limited). view_in (g.S.Store.storage c.place_number-at.new.store) held.roots) c.enter.ensures
    ∙ entry_placed c.args.program.now c.args.entry (g.S.Store.storage c.args.store.now).kept (g.S.Store.storage c.place_number-at.new.store).kept (g.S.Store.storage c.args.store.now).index
    (g.S.Store.storage c.place_number-at.new.store).index c.args.roots.now.roots c.place_number-at.result c.site_kind.result c.site_kind.ensures.kind
    (c.place_number-at.ensures.kept
    ∙ ap (λ (number : ℤ). (g.S.Store.storage c.args.store.now).kept ++ Some (object_of c.args.entry.site c.site_kind.result (Number number ∷ [])) ∷ []) (to_z-of_z w64 c.args.entry.number fits))
    c.place_number-at.ensures.serial c.place_number-at.ensures.places c.requires.held
