use Rattle.std.proofs.Common.{◌∙◌, ℕ, set, sym, ap, subst}
use Rattle.cb_blocks.specs.Parted.{IsAt, Parted, with_words}
use Rattle.cb_blocks.specs.Rows.{row}
use Rattle.cb_blocks.proofs.Parted.{at_kept, at_touched, at_written, parts_of}
use Rattle.cb_blocks.proofs.blocks.Blocks.set_region_word.Goals as goal

pub write_touched-requires : goal.write_touched-requires
write_touched-requires c =
    let is : (part : ℕ) × (i : ℕ) × IsAt (parts_of c.self.inside.region c.self.inside.blocks c.self.inside.used.items) part i c.args.index = (subst (λ (v : Parted). (part : ℕ) × (i : ℕ) × IsAt v part i c.args.index) (sym c.self.view_is) c.requires) in
    at_touched c.self.inside.region c.self.inside.blocks c.self.inside.used.items is.0 is.1 c.args.index c.self.invariant.blocks_are is.2

pub invariant_of-self : goal.invariant_of-self
invariant_of-self c =
    let is : (part : ℕ) × (i : ℕ) × IsAt (parts_of c.self.inside.region c.self.inside.blocks c.self.inside.used.items) part i c.args.index = (subst (λ (v : Parted). (part : ℕ) × (i : ℕ) × IsAt v part i c.args.index) (sym c.self.view_is) c.requires) in
    record {
      blocks_are = at_kept c.self.inside.region c.write_touched.new.self c.self.inside.blocks c.self.inside.used.items is.0 is.1 c.args.index c.args.word c.self.invariant.blocks_are is.2 c.write_touched.ensures.words c.write_touched.ensures.touched;
      ends_are = c.self.invariant.ends_are;
    }

pub returns : goal.returns
returns c part i at =
    let at' = subst (λ (v : Parted). IsAt v part i c.args.index) (sym c.self.view_is) at in
    at_written c.self.inside.region c.write_touched.new.self c.self.inside.blocks c.self.inside.used.items part i c.args.index c.args.word c.self.invariant.blocks_are at' c.write_touched.ensures.words
    ∙ ap (λ (v : Parted). with_words v part (set (row v.words part) i c.args.word)) c.self.view_is
