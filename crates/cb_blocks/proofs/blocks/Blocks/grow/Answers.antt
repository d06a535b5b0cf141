use Rattle.std.proofs.Common.{◌≡◌, ◌∙◌, ◌+◌, ◌-◌, ◌<◌, length, get_or, set, refl, sym, ap, subst, arith, vec_len}
use Rattle.std.proofs.lemmas.List.{get_or_read_under}
use Rattle.cb_blocks.specs.Parted.{IsEnd, IsEnded, Parted, blocks_for}
use Rattle.cb_blocks.specs.Rows.{row}
use Rattle.cb_blocks.proofs.Parted.{held_taken, part_of, parted, parts_of, used_of}
use Rattle.cb_blocks.specs.Parted.{IsGrown, IsOpened, IsTooMuch}
use Rattle.cb_blocks.proofs.Changed.{grown_parts}
use Rattle.cb_blocks.proofs.Ends.{ended_far, exact_far, same_blocks}
use Rattle.cb_blocks.proofs.Rowed.{parts_extended}
use Rattle.cb_blocks.proofs.blocks.Blocks.grow.Goals as goal

pub index-requires : goal.index-requires
index-requires c = omega (arith, (part_of c.self.inside.region c.self.inside.blocks c.self.inside.used.items c.args.part (subst (λ (v : Parted). c.args.part < length v.words) (sym c.self.view_is) c.requires)), c.self.inside.used.ok.0)

pub len-have-requires : goal.len-have-requires
len-have-requires c = omega (arith, (part_of c.self.inside.region c.self.inside.blocks c.self.inside.used.items c.args.part (subst (λ (v : Parted). c.args.part < length v.words) (sym c.self.view_is) c.requires)), c.self.invariant.blocks_are.laid.parts)

pub open-requires-clause-part : goal.open-requires-clause-part
open-requires-clause-part c = omega (arith, (part_of c.self.inside.region c.self.inside.blocks c.self.inside.used.items c.args.part (subst (λ (v : Parted). c.args.part < length v.words) (sym c.self.view_is) c.requires)), c.self.invariant.blocks_are.laid.parts)

pub index_mut-requires : goal.index_mut-requires
index_mut-requires c = omega (arith, (part_of c.self.inside.region c.self.inside.blocks c.self.inside.used.items c.args.part (subst (λ (v : Parted). c.args.part < length v.words) (sym c.self.view_is) c.requires)), c.self.inside.used.ok.0)

pub end_of-requires-clause-part : goal.end_of-requires-clause-part
end_of-requires-clause-part c = omega (arith, (part_of c.self.inside.region c.self.inside.blocks c.self.inside.used.items c.args.part (subst (λ (v : Parted). c.args.part < length v.words) (sym c.self.view_is) c.requires)), c.self.invariant.blocks_are.laid.parts, parts_extended c.self.inside.blocks.rows c.open.new.blocks.rows c.args.part _ c.open.ensures.rows)

pub end_of-requires-clause-exact : goal.end_of-requires-clause-exact
end_of-requires-clause-exact c =
    let len : c.index.result.now ≡ get_or c.self.inside.used.items c.args.part 0 = get_or_read_under c.self.inside.used.items c.args.part (vec_len c.self.inside.used) c.index.result.now 0 c.index.ensures (omega (arith, (part_of c.self.inside.region c.self.inside.blocks c.self.inside.used.items c.args.part (subst (λ (v : Parted). c.args.part < length v.words) (sym c.self.view_is) c.requires)), c.self.inside.used.ok.0)) c.self.inside.used.ok.0 in
    let had = c.self.invariant.blocks_are.laid.exact c.args.part (part_of c.self.inside.region c.self.inside.blocks c.self.inside.used.items c.args.part (subst (λ (v : Parted). c.args.part < length v.words) (sym c.self.view_is) c.requires)) in
    let is = parted c.self.inside.region c.self.inside.blocks c.self.inside.used.items c.self.invariant.blocks_are in
    let all = held_taken c.self.inside.blocks.rows (parts_of c.self.inside.region c.self.inside.blocks c.self.inside.used.items).words is.same is.exact in
    let long = used_of c.self.inside.region c.self.inside.blocks c.self.inside.used.items c.args.part (subst (λ (v : Parted). c.args.part < length v.words) (sym c.self.view_is) c.requires) in
    let whole : c.saturating_add-used.result ≡ get_or c.self.inside.used.items c.args.part 0 + c.args.words = omega (arith, len, c.saturating_add-used.ensures, c.count_blocks-wanted.ensures, c.len-have.ensures, c.if-wanted-have.false, c.free.type_inv, c.len-have.type_inv) in
    let opened : IsOpened c.self.inside.region c.self.inside.blocks c.open.new.region c.open.new.blocks c.args.part (blocks_for (get_or c.self.inside.used.items c.args.part 0 + c.args.words) - length (row c.self.inside.blocks.rows c.args.part)) =
    subst (λ n. IsOpened c.self.inside.region c.self.inside.blocks c.open.new.region c.open.new.blocks c.args.part (n - length (row c.self.inside.blocks.rows c.args.part))) (c.count_blocks-wanted.ensures ∙ ap blocks_for whole) c.open.ensures in
    exact_far c.self.inside.region c.self.inside.blocks c.self.inside.used.items c.open.new.region c.open.new.blocks c.args.part c.args.words c.self.invariant.blocks_are (part_of c.self.inside.region c.self.inside.blocks c.self.inside.used.items c.args.part (subst (λ (v : Parted). c.args.part < length v.words) (sym c.self.view_is) c.requires)) opened ∙ ap blocks_for (sym whole)

pub index_mut-requires-2 : goal.index_mut-requires-2
index_mut-requires-2 c = omega (arith, (part_of c.self.inside.region c.self.inside.blocks c.self.inside.used.items c.args.part (subst (λ (v : Parted). c.args.part < length v.words) (sym c.self.view_is) c.requires)), c.self.invariant.ends_are.long, c.self.inside.ends.ok.0)

pub returns-then-wanted-have-clause-room : goal.returns-then-wanted-have-clause-room
returns-then-wanted-have-clause-room c =
    let len : c.index.result.now ≡ get_or c.self.inside.used.items c.args.part 0 = get_or_read_under c.self.inside.used.items c.args.part (vec_len c.self.inside.used) c.index.result.now 0 c.index.ensures (omega (arith, (part_of c.self.inside.region c.self.inside.blocks c.self.inside.used.items c.args.part (subst (λ (v : Parted). c.args.part < length v.words) (sym c.self.view_is) c.requires)), c.self.inside.used.ok.0)) c.self.inside.used.ok.0 in
    let had = c.self.invariant.blocks_are.laid.exact c.args.part (part_of c.self.inside.region c.self.inside.blocks c.self.inside.used.items c.args.part (subst (λ (v : Parted). c.args.part < length v.words) (sym c.self.view_is) c.requires)) in
    let is = parted c.self.inside.region c.self.inside.blocks c.self.inside.used.items c.self.invariant.blocks_are in
    let all = held_taken c.self.inside.blocks.rows (parts_of c.self.inside.region c.self.inside.blocks c.self.inside.used.items).words is.same is.exact in
    let long = used_of c.self.inside.region c.self.inside.blocks c.self.inside.used.items c.args.part (subst (λ (v : Parted). c.args.part < length v.words) (sym c.self.view_is) c.requires) in
    (λ e. subst (λ (v : Parted). IsTooMuch v c.args.part c.args.words) c.self.view_is (omega (arith, len, had, all, long, c.saturating_add-used.ensures, c.count_blocks-wanted.ensures, c.len-have.ensures, c.free.ensures, c.if-wanted-have.true)), λ e. refl)

pub invariant_of-self : goal.invariant_of-self
invariant_of-self c =
    let len : c.index.result.now ≡ get_or c.self.inside.used.items c.args.part 0 = get_or_read_under c.self.inside.used.items c.args.part (vec_len c.self.inside.used) c.index.result.now 0 c.index.ensures (omega (arith, (part_of c.self.inside.region c.self.inside.blocks c.self.inside.used.items c.args.part (subst (λ (v : Parted). c.args.part < length v.words) (sym c.self.view_is) c.requires)), c.self.inside.used.ok.0)) c.self.inside.used.ok.0 in
    let had = c.self.invariant.blocks_are.laid.exact c.args.part (part_of c.self.inside.region c.self.inside.blocks c.self.inside.used.items c.args.part (subst (λ (v : Parted). c.args.part < length v.words) (sym c.self.view_is) c.requires)) in
    let is = parted c.self.inside.region c.self.inside.blocks c.self.inside.used.items c.self.invariant.blocks_are in
    let all = held_taken c.self.inside.blocks.rows (parts_of c.self.inside.region c.self.inside.blocks c.self.inside.used.items).words is.same is.exact in
    let long = used_of c.self.inside.region c.self.inside.blocks c.self.inside.used.items c.args.part (subst (λ (v : Parted). c.args.part < length v.words) (sym c.self.view_is) c.requires) in
    let whole : c.saturating_add-used.result ≡ get_or c.self.inside.used.items c.args.part 0 + c.args.words = omega (arith, len, c.saturating_add-used.ensures, c.count_blocks-wanted.ensures, c.len-have.ensures, c.if-wanted-have.false, c.free.type_inv, c.len-have.type_inv) in
    let opened : IsOpened c.self.inside.region c.self.inside.blocks c.open.new.region c.open.new.blocks c.args.part (blocks_for (get_or c.self.inside.used.items c.args.part 0 + c.args.words) - length (row c.self.inside.blocks.rows c.args.part)) =
    subst (λ n. IsOpened c.self.inside.region c.self.inside.blocks c.open.new.region c.open.new.blocks c.args.part (n - length (row c.self.inside.blocks.rows c.args.part))) (c.count_blocks-wanted.ensures ∙ ap blocks_for whole) c.open.ensures in
    subst (λ n. IsEnded c.open.new.region c.open.new.blocks (set c.self.inside.used.items c.args.part n) (set c.self.inside.ends.items c.args.part c.end_of.result)) (sym whole)
    (ended_far c.self.inside.region c.self.inside.blocks c.self.inside.used.items c.self.inside.ends.items c.open.new.region c.open.new.blocks c.args.part c.args.words c.end_of.result c.self.invariant (part_of c.self.inside.region c.self.inside.blocks c.self.inside.used.items c.args.part (subst (λ (v : Parted). c.args.part < length v.words) (sym c.self.view_is) c.requires)) opened
    (subst (λ n. IsEnd (row c.open.new.blocks.rows c.args.part) n c.end_of.result) whole c.end_of.ensures))

pub returns-clause-grown : goal.returns-clause-grown
returns-clause-grown c =
    let len : c.index.result.now ≡ get_or c.self.inside.used.items c.args.part 0 = get_or_read_under c.self.inside.used.items c.args.part (vec_len c.self.inside.used) c.index.result.now 0 c.index.ensures (omega (arith, (part_of c.self.inside.region c.self.inside.blocks c.self.inside.used.items c.args.part (subst (λ (v : Parted). c.args.part < length v.words) (sym c.self.view_is) c.requires)), c.self.inside.used.ok.0)) c.self.inside.used.ok.0 in
    let had = c.self.invariant.blocks_are.laid.exact c.args.part (part_of c.self.inside.region c.self.inside.blocks c.self.inside.used.items c.args.part (subst (λ (v : Parted). c.args.part < length v.words) (sym c.self.view_is) c.requires)) in
    let is = parted c.self.inside.region c.self.inside.blocks c.self.inside.used.items c.self.invariant.blocks_are in
    let all = held_taken c.self.inside.blocks.rows (parts_of c.self.inside.region c.self.inside.blocks c.self.inside.used.items).words is.same is.exact in
    let long = used_of c.self.inside.region c.self.inside.blocks c.self.inside.used.items c.args.part (subst (λ (v : Parted). c.args.part < length v.words) (sym c.self.view_is) c.requires) in
    let whole : c.saturating_add-used.result ≡ get_or c.self.inside.used.items c.args.part 0 + c.args.words = omega (arith, len, c.saturating_add-used.ensures, c.count_blocks-wanted.ensures, c.len-have.ensures, c.if-wanted-have.false, c.free.type_inv, c.len-have.type_inv) in
    let opened : IsOpened c.self.inside.region c.self.inside.blocks c.open.new.region c.open.new.blocks c.args.part (blocks_for (get_or c.self.inside.used.items c.args.part 0 + c.args.words) - length (row c.self.inside.blocks.rows c.args.part)) =
    subst (λ n. IsOpened c.self.inside.region c.self.inside.blocks c.open.new.region c.open.new.blocks c.args.part (n - length (row c.self.inside.blocks.rows c.args.part))) (c.count_blocks-wanted.ensures ∙ ap blocks_for whole) c.open.ensures in
    subst (λ (v : Parted). IsGrown v (parts_of c.open.new.region c.open.new.blocks (set c.self.inside.used.items c.args.part c.saturating_add-used.result)) c.args.part c.args.words) c.self.view_is
    (subst (λ n. IsGrown (parts_of c.self.inside.region c.self.inside.blocks c.self.inside.used.items) (parts_of c.open.new.region c.open.new.blocks (set c.self.inside.used.items c.args.part n)) c.args.part c.args.words) (sym whole) (grown_parts c.self.inside.region c.self.inside.blocks c.self.inside.used.items c.open.new.region c.open.new.blocks c.args.part c.args.words c.self.invariant.blocks_are (part_of c.self.inside.region c.self.inside.blocks c.self.inside.used.items c.args.part (subst (λ (v : Parted). c.args.part < length v.words) (sym c.self.view_is) c.requires)) opened))

pub returns-clause-room : goal.returns-clause-room
returns-clause-room c =
    let len : c.index.result.now ≡ get_or c.self.inside.used.items c.args.part 0 = get_or_read_under c.self.inside.used.items c.args.part (vec_len c.self.inside.used) c.index.result.now 0 c.index.ensures (omega (arith, (part_of c.self.inside.region c.self.inside.blocks c.self.inside.used.items c.args.part (subst (λ (v : Parted). c.args.part < length v.words) (sym c.self.view_is) c.requires)), c.self.inside.used.ok.0)) c.self.inside.used.ok.0 in
    let had = c.self.invariant.blocks_are.laid.exact c.args.part (part_of c.self.inside.region c.self.inside.blocks c.self.inside.used.items c.args.part (subst (λ (v : Parted). c.args.part < length v.words) (sym c.self.view_is) c.requires)) in
    let is = parted c.self.inside.region c.self.inside.blocks c.self.inside.used.items c.self.invariant.blocks_are in
    let all = held_taken c.self.inside.blocks.rows (parts_of c.self.inside.region c.self.inside.blocks c.self.inside.used.items).words is.same is.exact in
    let long = used_of c.self.inside.region c.self.inside.blocks c.self.inside.used.items c.args.part (subst (λ (v : Parted). c.args.part < length v.words) (sym c.self.view_is) c.requires) in
    let whole : c.saturating_add-used.result ≡ get_or c.self.inside.used.items c.args.part 0 + c.args.words = omega (arith, len, c.saturating_add-used.ensures, c.count_blocks-wanted.ensures, c.len-have.ensures, c.if-wanted-have.false, c.free.type_inv, c.len-have.type_inv) in
    let opened : IsOpened c.self.inside.region c.self.inside.blocks c.open.new.region c.open.new.blocks c.args.part (blocks_for (get_or c.self.inside.used.items c.args.part 0 + c.args.words) - length (row c.self.inside.blocks.rows c.args.part)) =
    subst (λ n. IsOpened c.self.inside.region c.self.inside.blocks c.open.new.region c.open.new.blocks c.args.part (n - length (row c.self.inside.blocks.rows c.args.part))) (c.count_blocks-wanted.ensures ∙ ap blocks_for whole) c.open.ensures in (
      λ e. cc,
      λ much. let much' : IsTooMuch (parts_of c.self.inside.region c.self.inside.blocks c.self.inside.used.items) c.args.part c.args.words = subst (λ (v : Parted). IsTooMuch v c.args.part c.args.words) (sym c.self.view_is) much in
          absurd (omega (arith, much', whole, had, all, long, c.count_blocks-wanted.ensures, c.len-have.ensures, c.free.ensures, c.if-wanted-have.false)),
    )

pub returns-then-words-left_behind-clause-room : goal.returns-then-words-left_behind-clause-room
returns-then-words-left_behind-clause-room c = (
  λ e. cc,
  λ much. absurd (omega (arith, much, same_blocks (row c.args.self.now.rows c.args.part) (length (row c.args.self.now.words c.args.part)) c.end-end.result c.args.words c.end-end.ensures.is (omega (arith, c.if-words-left_behind.true, c.left_behind.ensures)))),
)
