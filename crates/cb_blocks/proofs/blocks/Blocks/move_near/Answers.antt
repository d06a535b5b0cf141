use Rattle.std.proofs.Common.{◌≡◌, ◌∙◌, ℕ, ◌+◌, List, length, sym, ap, arith, length-set}
use Rattle.std.proofs.lemmas.List.{set-set}
use Rattle.cb_raw.specs.Words.{copied}
use Rattle.cb_raw.proofs.Laws.{length-copied}
use Rattle.cb_blocks.specs.Parted.{Parted, with_words}
use Rattle.cb_blocks.specs.Rows.{row}
use Rattle.cb_blocks.proofs.Moved.{copied_more, copied_none, with_same}
use Rattle.cb_blocks.proofs.Rowed.{row_set_same}
use Rattle.cb_blocks.proofs.blocks.Blocks.move_near.Goals as goal

pub loop-done-init : goal.loop-done-init
loop-done-init c = record { moved = sym (ap (with_words c.args.self.now c.args.part) (copied_none (row c.args.self.now.words c.args.part) c.args.from c.args.to) ∙ with_same c.args.self.now c.args.part); within = omega arith }

pub move_piece-requires-clause-part : goal.move_piece-requires-clause-part
move_piece-requires-clause-part c = omega (arith, c.requires.part, ap (λ (v : Parted). length v.words) c.loop-done.invariant.moved, length-set c.args.self.now.words c.args.part (copied (row c.args.self.now.words c.args.part) c.args.from c.args.to c.loop-done.done))

pub move_piece-requires-clause-inside : goal.move_piece-requires-clause-inside
move_piece-requires-clause-inside c =
    let mine : row c.loop-done.self.words c.args.part ≡ copied (row c.args.self.now.words c.args.part) c.args.from c.args.to c.loop-done.done = ap (λ (v : Parted). row v.words c.args.part) c.loop-done.invariant.moved ∙ row_set_same c.args.self.now.words c.args.part (copied (row c.args.self.now.words c.args.part) c.args.from c.args.to c.loop-done.done) c.requires.part in
    let long = length-copied (row c.args.self.now.words c.args.part) c.args.from c.args.to c.loop-done.done (omega (arith, c.requires.inside, c.loop-done.invariant.within)) (omega (arith, c.requires.inside, c.loop-done.invariant.within, c.requires.order)) in
    omega (arith, ap length mine, long, c.requires.inside, c.piece-step.ensures.within)

pub loop-done-preserved : goal.loop-done-preserved
loop-done-preserved c =
    let half : List ℕ = copied (row c.args.self.now.words c.args.part) c.args.from c.args.to c.loop-done.done in
    let mine : row c.loop-done.self.words c.args.part ≡ half = ap (λ (v : Parted). row v.words c.args.part) c.loop-done.invariant.moved ∙ row_set_same c.args.self.now.words c.args.part half c.requires.part in
    let words : Parted → List ℕ → Parted = λ v w. with_words v c.args.part w in
    let made : List (List ℕ) → Parted = λ w. record { blocks = c.args.self.now.blocks; rows = c.args.self.now.rows; words = w } in
    let last : List ℕ = copied half (c.args.from + c.loop-done.done) (c.args.to + c.loop-done.done) c.piece-step.result in
    record {
      moved = c.move_piece.ensures
          ∙ ap (λ w. words c.loop-done.self (copied w (c.args.from + c.loop-done.done) (c.args.to + c.loop-done.done) c.piece-step.result)) mine
          ∙ ap (λ v. words v last) c.loop-done.invariant.moved
          ∙ ap made (set-set c.args.self.now.words c.args.part half last)
          ∙ ap (words c.args.self.now) (copied_more (row c.args.self.now.words c.args.part) c.args.from c.args.to c.loop-done.done c.piece-step.result c.requires.order (omega (arith, c.requires.inside, c.loop-done.invariant.within, c.piece-step.ensures.within)));
      within = omega (arith, c.loop-done.invariant.within, c.piece-step.ensures.within);
    }

pub returns : goal.returns
returns c = c.loop-done.invariant.moved ∙ ap (λ n. with_words c.args.self.now c.args.part (copied (row c.args.self.now.words c.args.part) c.args.from c.args.to n)) (omega (arith, c.loop-done.invariant.within))
