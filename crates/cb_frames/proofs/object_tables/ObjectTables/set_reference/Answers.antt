use Rattle.std.proofs.Common.{◌≡◌, ◌∙◌, ap, arith, length-set, slice_set, sym}
use Rattle.cb_frames.specs.Entries.{table_entries}
use Rattle.cb_frames.specs.InnerTables.{AreCut}
use Rattle.cb_frames.proofs.Tables.{joined_tables}
use Rattle.cb_frames.proofs.object_tables.ObjectTables.set_reference.Goals as goal

pub returns-clause-entry : goal.returns-clause-entry
returns-clause-entry c =
    let all : table_entries c.args.self.now ≡ c.self.inside.all.items =
    ap table_entries (sym c.self.view_is) ∙ joined_tables c.self.inside.all.items c.self.inside.starts c.self.invariant in
    let size = length-set c.self.inside.all.items c.args.i c.args.to in
    let cut : AreCut (slice_set c.self.inside.all.items c.args.i c.args.to) c.self.inside.starts = record {
      integers = c.self.invariant.integers;
      longs = c.self.invariant.longs;
      characters = c.self.invariant.characters;
      booleans = c.self.invariant.booleans;
      end = omega (arith, c.self.invariant.end, size);
      few = omega (arith, c.self.invariant.few, size);
    } in
    joined_tables (slice_set c.self.inside.all.items c.args.i c.args.to) c.self.inside.starts cut ∙ ap (λ entries. slice_set entries c.args.i c.args.to) (sym all)
