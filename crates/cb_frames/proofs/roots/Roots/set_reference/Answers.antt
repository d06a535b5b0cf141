use Rattle.std.proofs.Common.{◌≡◌, ◌<◌, ◌∙◌, ◌++◌, ◌∷◌, ◌-◌, [], ap, arith, length, map, reverse, rules, slice_index, slice_set, subst, sym}
use Rattle.std.specs.List.{flat_map}
use Rattle.std.proofs.lemmas.List.{length-map, map-set}
use Rattle.cb_plain.specs.declared.value.Value.TheVariants as values
use Rattle.cb_frames.specs.Entries.{entries, frame_entries, nulled_frame, nulled_tables, referent, table_entries, without_references}
use Rattle.cb_plain.specs.State.{Roots}
use Rattle.cb_frames.proofs.Laid.{within_entries}
use Rattle.cb_frames.proofs.Parted.{last_entry, set_argument, set_pending, set_statics, set_tables, statics_at, statics_nulled}
use Rattle.cb_frames.proofs.roots.Roots.set_reference.Goals as goal

pub returns-then-i-statics-clause-entry : goal.returns-then-i-statics-clause-entry
returns-then-i-statics-clause-entry c =
    let few : c.args.i - c.size-frames.result < length (map referent c.self.inside.statics.items) = search (rules, length-map) in
    ap (λ statics. flat_map frame_entries (reverse c.self.inside.frames.frames) ++ statics ++ table_entries c.self.inside.tables ++ c.self.inside.pending ∷ c.self.inside.argument ∷ [])
    (map-set referent c.self.inside.statics.items (c.args.i - c.size-frames.result) (values.Ref c.args.to))
    ∙ sym (set_statics (flat_map frame_entries (reverse c.self.inside.frames.frames)) (map referent c.self.inside.statics.items) (table_entries c.self.inside.tables) c.self.inside.pending c.self.inside.argument
    c.size-frames.result c.args.i c.args.to (sym c.size-frames.ensures.entries) c.if-i-frames.false few)
    ∙ ap (λ held. slice_set (entries held.roots) c.args.i c.args.to) c.self.view_is

pub returns-then-i-statics-clause-rest : goal.returns-then-i-statics-clause-rest
returns-then-i-statics-clause-rest c =
    let few : c.args.i - c.size-frames.result < length (map referent c.self.inside.statics.items) = search (rules, length-map) in
    let some : 0 < slice_index (map referent c.self.inside.statics.items) (c.args.i - c.size-frames.result) =
    subst (λ n. 0 < n)
    (statics_at (flat_map frame_entries (reverse c.self.inside.frames.frames)) (map referent c.self.inside.statics.items) (table_entries c.self.inside.tables) c.self.inside.pending c.self.inside.argument
    c.size-frames.result c.args.i (sym c.size-frames.ensures.entries) c.if-i-frames.false few)
    (subst (λ held. 0 < slice_index (entries held.roots) c.args.i) (sym c.self.view_is) c.requires) in
    ap (λ statics.
    let held : Roots = record {
      frames = map nulled_frame c.self.inside.frames.frames;
      pending = 0;
      statics = statics;
      classes = c.self.inside.classes.items;
      tables = nulled_tables c.self.inside.tables;
      argument = 0;
    } in
    held) (statics_nulled c.self.inside.statics.items (c.args.i - c.size-frames.result) c.args.to some)
    ∙ ap (λ held. without_references held.roots) c.self.view_is

pub returns-then-i-tables-clause-entry : goal.returns-then-i-tables-clause-entry
returns-then-i-tables-clause-entry c =
    let count : length (map referent c.self.inside.statics.items) ≡ c.len-statics.result = search (rules, length-map) in
    ap (λ tables. flat_map frame_entries (reverse c.self.inside.frames.frames) ++ map referent c.self.inside.statics.items ++ tables ++ c.self.inside.pending ∷ c.self.inside.argument ∷ [])
    c.set_reference-then-i-tables.ensures.entry
    ∙ sym (set_tables (flat_map frame_entries (reverse c.self.inside.frames.frames)) (map referent c.self.inside.statics.items) (table_entries c.self.inside.tables) c.self.inside.pending c.self.inside.argument
    c.size-frames.result c.len-statics.result c.args.i c.args.to (sym c.size-frames.ensures.entries) count c.if-i-frames.false c.if-i-statics.false
    (omega (arith, c.if-i-tables.true, c.len-tables.ensures.entries)))
    ∙ ap (λ held. slice_set (entries held.roots) c.args.i c.args.to) c.self.view_is

pub returns-then-i-tables-2-clause-entry : goal.returns-then-i-tables-2-clause-entry
returns-then-i-tables-2-clause-entry c =
    let count : length (map referent c.self.inside.statics.items) ≡ c.len-statics.result = search (rules, length-map) in
    sym (set_pending (flat_map frame_entries (reverse c.self.inside.frames.frames)) (map referent c.self.inside.statics.items) (table_entries c.self.inside.tables) c.self.inside.pending c.self.inside.argument
    c.size-frames.result c.len-statics.result c.len-tables.result c.args.i c.args.to
    (sym c.size-frames.ensures.entries) count (sym c.len-tables.ensures.entries) c.if-i-frames.false c.if-i-statics.false c.if-i-tables-2.true)
    ∙ ap (λ held. slice_set (entries held.roots) c.args.i c.args.to) c.self.view_is

pub returns-else-i-tables-2-clause-entry : goal.returns-else-i-tables-2-clause-entry
returns-else-i-tables-2-clause-entry c =
    let count : length (map referent c.self.inside.statics.items) ≡ c.len-statics.result = search (rules, length-map) in
    let some = subst (λ held. 0 < slice_index (entries held.roots) c.args.i) (sym c.self.view_is) c.requires in
    let last = last_entry (flat_map frame_entries (reverse c.self.inside.frames.frames)) (map referent c.self.inside.statics.items) (table_entries c.self.inside.tables) c.self.inside.pending c.self.inside.argument
    c.size-frames.result c.len-statics.result c.len-tables.result c.args.i (sym c.size-frames.ensures.entries) count (sym c.len-tables.ensures.entries)
    c.if-i-frames.false c.if-i-statics.false c.if-i-tables.false c.if-i-tables-2.false (within_entries _ c.args.i some) in
    sym (set_argument (flat_map frame_entries (reverse c.self.inside.frames.frames)) (map referent c.self.inside.statics.items) (table_entries c.self.inside.tables) c.self.inside.pending c.self.inside.argument
    c.size-frames.result c.len-statics.result c.len-tables.result c.args.i c.args.to
    (sym c.size-frames.ensures.entries) count (sym c.len-tables.ensures.entries) c.if-i-frames.false c.if-i-statics.false last)
    ∙ ap (λ held. slice_set (entries held.roots) c.args.i c.args.to) c.self.view_is
