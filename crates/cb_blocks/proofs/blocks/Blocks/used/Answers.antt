use Rattle.std.proofs.Common.{◌∙◌, ◌<◌, length, sym, ap, subst, arith, vec_len}
use Rattle.std.proofs.lemmas.List.{get_or_read_under}
use Rattle.cb_blocks.specs.Parted.{Parted}
use Rattle.cb_blocks.specs.Rows.{row}
use Rattle.cb_blocks.proofs.Parted.{part_of, used_of}
use Rattle.cb_blocks.proofs.blocks.Blocks.used.Goals as goal

pub index-requires : goal.index-requires
index-requires c = omega (arith, part_of c.self.inside.region c.self.inside.blocks c.self.inside.used.items c.args.part (subst (λ (v : Parted). c.args.part < length v.words) (sym c.self.view_is) c.requires), c.self.inside.used.ok.0)

pub returns : goal.returns
returns c =
    get_or_read_under c.self.inside.used.items c.args.part (vec_len c.self.inside.used) c.index.result.now 0 c.index.ensures (omega (arith, part_of c.self.inside.region c.self.inside.blocks c.self.inside.used.items c.args.part (subst (λ (v : Parted). c.args.part < length v.words) (sym c.self.view_is) c.requires), c.self.inside.used.ok.0)) c.self.inside.used.ok.0
    ∙ used_of c.self.inside.region c.self.inside.blocks c.self.inside.used.items c.args.part (subst (λ (v : Parted). c.args.part < length v.words) (sym c.self.view_is) c.requires) ∙ ap (λ (v : Parted). length (row v.words c.args.part)) c.self.view_is
