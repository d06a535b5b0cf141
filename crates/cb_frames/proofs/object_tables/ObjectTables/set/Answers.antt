use Rattle.std.proofs.Common.{◌<◌, ◌∙◌, ◌+◌, ap, length, slice_set, subst, sym}
use Rattle.cb_plain.specs.Roots.{table_in}
use Rattle.cb_frames.specs.InnerTables.{tables_in, with_place}
use Rattle.cb_frames.proofs.Tables.{placed_table}
use Rattle.cb_frames.proofs.object_tables.ObjectTables.set.Goals as goal

pub returns : goal.returns
returns c =
    ap (λ start. tables_in (slice_set c.self.inside.all.items (start + c.args.i) c.args.to) c.self.inside.starts) c.of.ensures
    ∙ placed_table c.self.inside.all.items c.self.inside.starts c.args.which c.args.i c.args.to c.self.invariant
    (subst (λ held. c.args.i < length (table_in held c.args.which)) (sym c.self.view_is) c.requires)
    ∙ ap (λ held. with_place held c.args.which c.args.i c.args.to) c.self.view_is
