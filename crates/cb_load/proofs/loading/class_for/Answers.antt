use Rattle.std.proofs.Common.{◌∙◌, sym, subst}
use Rattle.std.proofs.lemmas.Bool.{false≢true}
use Rattle.cb_load.specs.Names.{Entry}
use Rattle.cb_load.specs.Loading.{IsClassOf}
use Rattle.cb_load.specs.InnerTurns.{StopsAt}
use Rattle.cb_link.proofs.Laws.{handed}
use Rattle.cb_load.proofs.LoadFiles.{crowded_entry, long_entry, missing_entry, no_class_entry, opaque_entry, read_entry}
use Rattle.cb_load.proofs.loading.class_for.Goals as goal

pub returns-in_err-class_of-in-Bytes-2-clause-refused : goal.returns-in_err-class_of-in-Bytes-2-clause-refused
returns-in_err-class_of-in-Bytes-2-clause-refused g c = λ before fresh room.
    let entry : Entry = record { name = c.args.name.now; needed = c.args.needed } in
    handed (StopsAt (g.F.Folder.files c.args.folder.now) c.args.root.now before entry) _ _ c.from_residual-in_err-class_of-in-Bytes-2.ensures
    (no_class_entry (g.F.Folder.files c.args.folder.now) c.args.root.now before entry c.in_ok-find.field-0 c.in-Bytes.field-0 _ _ c.in_ok-find.ensures.found c.in-Bytes.is fresh (room.0 c.if-not-has_room.false) c.deref.ensures.value c.in_err-class_of-in-Bytes-2.ensures)

pub returns-in_ok-units_of-in-Absent-clause-refused : goal.returns-in_ok-units_of-in-Absent-clause-refused
returns-in_ok-units_of-in-Absent-clause-refused g c = λ before fresh room.
    missing_entry (g.F.Folder.files c.args.folder.now) c.args.root.now before (record { name = c.args.name.now; needed = c.args.needed }) c.in_ok-find.field-0 _ c.in_ok-find.ensures.found c.in-Absent.is c.if-needed.true fresh c.in_ok-units_of-in-Absent.ensures

pub returns-in-Absent-2-clause-loads : goal.returns-in-Absent-2-clause-loads
returns-in-Absent-2-clause-loads g c = λ before fresh room.
    opaque_entry (g.F.Folder.files c.args.folder.now) c.args.root.now before (record { name = c.args.name.now; needed = c.args.needed }) c.in_ok-find.field-0 c.in_ok-find.ensures.found c.in-Absent-2.is c.if-needed.false fresh

pub returns-in-TooLong-clause-refused : goal.returns-in-TooLong-clause-refused
returns-in-TooLong-clause-refused g c = λ before fresh room.
    long_entry (g.F.Folder.files c.args.folder.now) c.args.root.now before (record { name = c.args.name.now; needed = c.args.needed }) c.in_ok-find.field-0 _ c.in_ok-find.ensures.found c.in-TooLong.is fresh c.too_large.ensures

pub returns-in-Bytes-clause-refused : goal.returns-in-Bytes-clause-refused
returns-in-Bytes-clause-refused g c = λ before fresh room.
    crowded_entry (g.F.Folder.files c.args.folder.now) c.args.root.now before (record { name = c.args.name.now; needed = c.args.needed }) c.in_ok-find.field-0 c.in-Bytes.field-0 _ c.in_ok-find.ensures.found c.in-Bytes.is fresh
    (λ has. false≢true (sym c.if-not-has_room.true ∙ room.1 has)) c.too_large-in-Bytes.ensures

pub returns-in_ok-class_of-in-Bytes-2-clause-loads : goal.returns-in_ok-class_of-in-Bytes-2-clause-loads
returns-in_ok-class_of-in-Bytes-2-clause-loads g c = λ before fresh room.
    read_entry (g.F.Folder.files c.args.folder.now) c.args.root.now before (record { name = c.args.name.now; needed = c.args.needed }) c.in_ok-find.field-0 c.in-Bytes.field-0 c.in_ok-class_of-in-Bytes-2.field-0 c.in_ok-find.ensures.found c.in-Bytes.is fresh
    (room.0 c.if-not-has_room.false) (subst (λ bytes. IsClassOf c.args.name.now bytes c.in_ok-class_of-in-Bytes-2.field-0) c.deref.ensures.value c.in_ok-class_of-in-Bytes-2.ensures)
