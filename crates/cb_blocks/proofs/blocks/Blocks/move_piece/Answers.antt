use Rattle.std.proofs.Common.{◌∙◌, ◌+◌, ◌<◌, ◌≤◌, length, max, refl, sym, ap, subst, arith}
use Rattle.cb_raw.specs.Words.{RawWords, copied}
use Rattle.cb_blocks.specs.Parted.{IsAt, Parted, with_words}
use Rattle.cb_blocks.specs.Rows.{row}
use Rattle.cb_blocks.proofs.Moved.{IsPiece, moved_blocks, moved_parts, source_fits, target_fits}
use Rattle.cb_blocks.proofs.Parted.{part_of, parts_of, used_of}
use Rattle.cb_blocks.proofs.blocks.Blocks.move_piece.Goals as goal

pub slide-requires-clause-source : goal.slide-requires-clause-source
slide-requires-clause-source c =
    let below = subst (λ (v : Parted). c.args.part < length v.words) (sym c.self.view_is) c.requires.part in
    let long = used_of c.self.inside.region c.self.inside.blocks c.self.inside.used.items c.args.part below in
    let inside : c.args.from + c.args.count ≤ length (row (parts_of c.self.inside.region c.self.inside.blocks c.self.inside.used.items).words c.args.part) = subst (λ (v : Parted). c.args.from + c.args.count ≤ length (row v.words c.args.part)) (sym c.self.view_is) c.requires.inside in
    let from_is = (subst (λ (v : Parted). IsAt v c.args.part c.args.from c.args.places.0) (sym c.self.view_is) c.requires.source_is).2 in
    let to_is = (subst (λ (v : Parted). IsAt v c.args.part c.args.to c.args.places.1) (sym c.self.view_is) c.requires.target_is).2 in
    let after : RawWords = record { words = copied c.self.inside.region.words c.args.places.0 c.args.places.1 c.args.count; touched = max c.self.inside.region.touched (max c.args.places.0 c.args.places.1 + c.args.count) } in
    let piece : IsPiece c.self.inside.region c.self.inside.blocks c.self.inside.used.items after c.args.part c.args.from c.args.to c.args.count c.args.places.0 c.args.places.1 =
    record { is = c.self.invariant.blocks_are; below = part_of c.self.inside.region c.self.inside.blocks c.self.inside.used.items c.args.part below; order = c.requires.order; inside = omega (arith, inside, long); some = c.requires.some; near = c.requires.source; near' = c.requires.target; source_is = from_is; target_is = to_is; words = refl; touched = refl } in
    omega (arith, source_fits c.self.inside.region c.self.inside.blocks c.self.inside.used.items after c.args.part c.args.from c.args.to c.args.count c.args.places.0 c.args.places.1 piece, c.self.invariant.blocks_are.touched, c.self.invariant.blocks_are.laid.sound.within, c.self.invariant.blocks_are.laid.whole)

pub slide-requires-clause-target : goal.slide-requires-clause-target
slide-requires-clause-target c =
    let below = subst (λ (v : Parted). c.args.part < length v.words) (sym c.self.view_is) c.requires.part in
    let long = used_of c.self.inside.region c.self.inside.blocks c.self.inside.used.items c.args.part below in
    let inside : c.args.from + c.args.count ≤ length (row (parts_of c.self.inside.region c.self.inside.blocks c.self.inside.used.items).words c.args.part) = subst (λ (v : Parted). c.args.from + c.args.count ≤ length (row v.words c.args.part)) (sym c.self.view_is) c.requires.inside in
    let from_is = (subst (λ (v : Parted). IsAt v c.args.part c.args.from c.args.places.0) (sym c.self.view_is) c.requires.source_is).2 in
    let to_is = (subst (λ (v : Parted). IsAt v c.args.part c.args.to c.args.places.1) (sym c.self.view_is) c.requires.target_is).2 in
    let after : RawWords = record { words = copied c.self.inside.region.words c.args.places.0 c.args.places.1 c.args.count; touched = max c.self.inside.region.touched (max c.args.places.0 c.args.places.1 + c.args.count) } in
    let piece : IsPiece c.self.inside.region c.self.inside.blocks c.self.inside.used.items after c.args.part c.args.from c.args.to c.args.count c.args.places.0 c.args.places.1 =
    record { is = c.self.invariant.blocks_are; below = part_of c.self.inside.region c.self.inside.blocks c.self.inside.used.items c.args.part below; order = c.requires.order; inside = omega (arith, inside, long); some = c.requires.some; near = c.requires.source; near' = c.requires.target; source_is = from_is; target_is = to_is; words = refl; touched = refl } in
    omega (arith, target_fits c.self.inside.region c.self.inside.blocks c.self.inside.used.items after c.args.part c.args.from c.args.to c.args.count c.args.places.0 c.args.places.1 piece, c.self.invariant.blocks_are.touched, c.self.invariant.blocks_are.laid.sound.within, c.self.invariant.blocks_are.laid.whole)

pub invariant_of-self : goal.invariant_of-self
invariant_of-self c =
    let below = subst (λ (v : Parted). c.args.part < length v.words) (sym c.self.view_is) c.requires.part in
    let long = used_of c.self.inside.region c.self.inside.blocks c.self.inside.used.items c.args.part below in
    let inside : c.args.from + c.args.count ≤ length (row (parts_of c.self.inside.region c.self.inside.blocks c.self.inside.used.items).words c.args.part) = subst (λ (v : Parted). c.args.from + c.args.count ≤ length (row v.words c.args.part)) (sym c.self.view_is) c.requires.inside in
    let from_is = (subst (λ (v : Parted). IsAt v c.args.part c.args.from c.args.places.0) (sym c.self.view_is) c.requires.source_is).2 in
    let to_is = (subst (λ (v : Parted). IsAt v c.args.part c.args.to c.args.places.1) (sym c.self.view_is) c.requires.target_is).2 in
    let piece : IsPiece c.self.inside.region c.self.inside.blocks c.self.inside.used.items c.slide.new.self c.args.part c.args.from c.args.to c.args.count c.args.places.0 c.args.places.1 =
    record { is = c.self.invariant.blocks_are; below = part_of c.self.inside.region c.self.inside.blocks c.self.inside.used.items c.args.part below; order = c.requires.order; inside = omega (arith, inside, long); some = c.requires.some; near = c.requires.source; near' = c.requires.target; source_is = from_is; target_is = to_is; words = c.slide.ensures.words; touched = c.slide.ensures.touched } in
    record {
      blocks_are = moved_blocks c.self.inside.region c.self.inside.blocks c.self.inside.used.items c.slide.new.self c.args.part c.args.from c.args.to c.args.count c.args.places.0 c.args.places.1 piece;
      ends_are = c.self.invariant.ends_are;
    }

pub returns : goal.returns
returns c =
    let below = subst (λ (v : Parted). c.args.part < length v.words) (sym c.self.view_is) c.requires.part in
    let long = used_of c.self.inside.region c.self.inside.blocks c.self.inside.used.items c.args.part below in
    let inside : c.args.from + c.args.count ≤ length (row (parts_of c.self.inside.region c.self.inside.blocks c.self.inside.used.items).words c.args.part) = subst (λ (v : Parted). c.args.from + c.args.count ≤ length (row v.words c.args.part)) (sym c.self.view_is) c.requires.inside in
    let from_is = (subst (λ (v : Parted). IsAt v c.args.part c.args.from c.args.places.0) (sym c.self.view_is) c.requires.source_is).2 in
    let to_is = (subst (λ (v : Parted). IsAt v c.args.part c.args.to c.args.places.1) (sym c.self.view_is) c.requires.target_is).2 in
    let piece : IsPiece c.self.inside.region c.self.inside.blocks c.self.inside.used.items c.slide.new.self c.args.part c.args.from c.args.to c.args.count c.args.places.0 c.args.places.1 =
    record { is = c.self.invariant.blocks_are; below = part_of c.self.inside.region c.self.inside.blocks c.self.inside.used.items c.args.part below; order = c.requires.order; inside = omega (arith, inside, long); some = c.requires.some; near = c.requires.source; near' = c.requires.target; source_is = from_is; target_is = to_is; words = c.slide.ensures.words; touched = c.slide.ensures.touched } in
    moved_parts c.self.inside.region c.self.inside.blocks c.self.inside.used.items c.slide.new.self c.args.part c.args.from c.args.to c.args.count c.args.places.0 c.args.places.1 piece
    ∙ ap (λ (v : Parted). with_words v c.args.part (copied (row v.words c.args.part) c.args.from c.args.to c.args.count)) c.self.view_is
