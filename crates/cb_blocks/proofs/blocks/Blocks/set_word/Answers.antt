use Rattle.std.proofs.Common.{◌∙◌, set, sym, ap, subst}
use Rattle.cb_blocks.specs.Parted.{IsAt, Parted, with_words}
use Rattle.cb_blocks.specs.Rows.{row}
use Rattle.cb_blocks.proofs.Parted.{at_kept, at_touched, at_written}
use Rattle.cb_blocks.proofs.blocks.Blocks.set_word.Goals as goal

pub write_touched-requires : goal.write_touched-requires
write_touched-requires c = at_touched c.self.inside.region c.self.inside.blocks c.self.inside.used.items c.args.part c.args.i c.index_of-index.result c.self.invariant.blocks_are (subst (λ (v : Parted). IsAt v c.args.part c.args.i c.index_of-index.result) (sym c.self.view_is) c.index_of-index.ensures)

pub invariant_of-self : goal.invariant_of-self
invariant_of-self c = record {
  blocks_are = at_kept c.self.inside.region c.write_touched.new.self c.self.inside.blocks c.self.inside.used.items c.args.part c.args.i c.index_of-index.result c.args.word c.self.invariant.blocks_are (subst (λ (v : Parted). IsAt v c.args.part c.args.i c.index_of-index.result) (sym c.self.view_is) c.index_of-index.ensures) c.write_touched.ensures.words c.write_touched.ensures.touched;
  ends_are = c.self.invariant.ends_are;
}

pub returns : goal.returns
returns c =
    at_written c.self.inside.region c.write_touched.new.self c.self.inside.blocks c.self.inside.used.items c.args.part c.args.i c.index_of-index.result c.args.word c.self.invariant.blocks_are (subst (λ (v : Parted). IsAt v c.args.part c.args.i c.index_of-index.result) (sym c.self.view_is) c.index_of-index.ensures) c.write_touched.ensures.words
    ∙ ap (λ (v : Parted). with_words v c.args.part (set (row v.words c.args.part) c.args.i c.args.word)) c.self.view_is
