use Rattle.std.proofs.Common.{◌≡◌, ◌<◌, ◌∙◌, ap, length, refl, slice_get, subst, sym}
use Rattle.std.proofs.lemmas.Option.{slice_get_read}
use Rattle.cb_frames.specs.Entries.{table_entries}
use Rattle.cb_frames.proofs.Tables.{joined_tables}
use Rattle.cb_frames.proofs.object_tables.ObjectTables.reference.Goals as goal

pub returns : goal.returns
returns c =
    let all : table_entries c.args.self.now ≡ c.self.inside.all.items =
    ap table_entries (sym c.self.view_is) ∙ joined_tables c.self.inside.all.items c.self.inside.starts c.self.invariant in
    ap (λ entries. slice_get entries c.args.i) all
    ∙ slice_get_read c.self.inside.all.items (length c.self.inside.all.items) c.args.i c.index.result.now refl (subst (λ entries. c.args.i < length entries) all c.requires) c.index.ensures
