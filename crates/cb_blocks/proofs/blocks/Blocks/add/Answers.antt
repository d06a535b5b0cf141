use Rattle.std.proofs.Common.{◌∙◌, ◌+◌, ◌≤◌, length, subst, arith}
use Rattle.cb_blocks.specs.Parted.{IsAt, room_behind}
use Rattle.cb_blocks.specs.Rows.{row}
use Rattle.cb_blocks.proofs.Headed.{first_written, grown_by, head_at, head_there, headed, second_written, third_written}
use Rattle.cb_blocks.proofs.blocks.Blocks.add.Goals as goal

pub set_region_word-requires : goal.set_region_word-requires
set_region_word-requires c =
    let fits : 3 + c.args.zeros ≤ room_behind c.end-end.result = omega (arith, c.if-words-left_behind.false, c.left_behind.ensures) in
    let none = headed c.args.self.now c.extend.new.self c.args.part c.args.zeros c.requires.part c.extend.ensures in
    (c.args.part, length (row c.args.self.now.words c.args.part) + 0, head_at c.args.self.now c.extend.new.self c.extend.new.self c.args.part 0 0 0 c.args.zeros 0 c.end-end.result none (omega arith) (head_there c.args.self.now c.extend.new.self c.args.part c.end-end.result (3 + c.args.zeros) 0 c.end-end.ensures.sound c.requires.part c.end-end.ensures.is fits (omega arith) c.extend.ensures ∙ omega arith))

pub set_region_word-requires-2 : goal.set_region_word-requires-2
set_region_word-requires-2 c =
    let fits : 3 + c.args.zeros ≤ room_behind c.end-end.result = omega (arith, c.if-words-left_behind.false, c.left_behind.ensures) in
    let none = headed c.args.self.now c.extend.new.self c.args.part c.args.zeros c.requires.part c.extend.ensures in
    let one = first_written c.args.self.now c.extend.new.self c.extend.new.self c.set_region_word.new.self c.args.part 0 0 c.args.zeros c.args.head.0 none (c.set_region_word.ensures c.args.part (length (row c.args.self.now.words c.args.part) + 0) (head_at c.args.self.now c.extend.new.self c.extend.new.self c.args.part 0 0 0 c.args.zeros 0 c.end-end.result none (omega arith) (head_there c.args.self.now c.extend.new.self c.args.part c.end-end.result (3 + c.args.zeros) 0 c.end-end.ensures.sound c.requires.part c.end-end.ensures.is fits (omega arith) c.extend.ensures ∙ omega arith))) in
    (c.args.part, length (row c.args.self.now.words c.args.part) + 1, head_at c.args.self.now c.extend.new.self c.set_region_word.new.self c.args.part c.args.head.0 0 0 c.args.zeros 1 (c.end-end.result + 1) one (omega arith) (head_there c.args.self.now c.extend.new.self c.args.part c.end-end.result (3 + c.args.zeros) 1 c.end-end.ensures.sound c.requires.part c.end-end.ensures.is fits (omega arith) c.extend.ensures))

pub set_region_word-requires-3 : goal.set_region_word-requires-3
set_region_word-requires-3 c =
    let fits : 3 + c.args.zeros ≤ room_behind c.end-end.result = omega (arith, c.if-words-left_behind.false, c.left_behind.ensures) in
    let none = headed c.args.self.now c.extend.new.self c.args.part c.args.zeros c.requires.part c.extend.ensures in
    let one = first_written c.args.self.now c.extend.new.self c.extend.new.self c.set_region_word.new.self c.args.part 0 0 c.args.zeros c.args.head.0 none (c.set_region_word.ensures c.args.part (length (row c.args.self.now.words c.args.part) + 0) (head_at c.args.self.now c.extend.new.self c.extend.new.self c.args.part 0 0 0 c.args.zeros 0 c.end-end.result none (omega arith) (head_there c.args.self.now c.extend.new.self c.args.part c.end-end.result (3 + c.args.zeros) 0 c.end-end.ensures.sound c.requires.part c.end-end.ensures.is fits (omega arith) c.extend.ensures ∙ omega arith))) in
    let two = second_written c.args.self.now c.extend.new.self c.set_region_word.new.self c.set_region_word-2.new.self c.args.part c.args.head.0 0 c.args.zeros c.args.head.1 one (c.set_region_word-2.ensures c.args.part (length (row c.args.self.now.words c.args.part) + 1) (head_at c.args.self.now c.extend.new.self c.set_region_word.new.self c.args.part c.args.head.0 0 0 c.args.zeros 1 (c.end-end.result + 1) one (omega arith) (head_there c.args.self.now c.extend.new.self c.args.part c.end-end.result (3 + c.args.zeros) 1 c.end-end.ensures.sound c.requires.part c.end-end.ensures.is fits (omega arith) c.extend.ensures))) in
    (c.args.part, length (row c.args.self.now.words c.args.part) + 2, head_at c.args.self.now c.extend.new.self c.set_region_word-2.new.self c.args.part c.args.head.0 c.args.head.1 0 c.args.zeros 2 (c.end-end.result + 2) two (omega arith) (head_there c.args.self.now c.extend.new.self c.args.part c.end-end.result (3 + c.args.zeros) 2 c.end-end.ensures.sound c.requires.part c.end-end.ensures.is fits (omega arith) c.extend.ensures))

pub returns-clause-added : goal.returns-clause-added
returns-clause-added c =
    let fits : 3 + c.args.zeros ≤ room_behind c.end-end.result = omega (arith, c.if-words-left_behind.false, c.left_behind.ensures) in
    let none = headed c.args.self.now c.extend.new.self c.args.part c.args.zeros c.requires.part c.extend.ensures in
    let one = first_written c.args.self.now c.extend.new.self c.extend.new.self c.set_region_word.new.self c.args.part 0 0 c.args.zeros c.args.head.0 none (c.set_region_word.ensures c.args.part (length (row c.args.self.now.words c.args.part) + 0) (head_at c.args.self.now c.extend.new.self c.extend.new.self c.args.part 0 0 0 c.args.zeros 0 c.end-end.result none (omega arith) (head_there c.args.self.now c.extend.new.self c.args.part c.end-end.result (3 + c.args.zeros) 0 c.end-end.ensures.sound c.requires.part c.end-end.ensures.is fits (omega arith) c.extend.ensures ∙ omega arith))) in
    let two = second_written c.args.self.now c.extend.new.self c.set_region_word.new.self c.set_region_word-2.new.self c.args.part c.args.head.0 0 c.args.zeros c.args.head.1 one (c.set_region_word-2.ensures c.args.part (length (row c.args.self.now.words c.args.part) + 1) (head_at c.args.self.now c.extend.new.self c.set_region_word.new.self c.args.part c.args.head.0 0 0 c.args.zeros 1 (c.end-end.result + 1) one (omega arith) (head_there c.args.self.now c.extend.new.self c.args.part c.end-end.result (3 + c.args.zeros) 1 c.end-end.ensures.sound c.requires.part c.end-end.ensures.is fits (omega arith) c.extend.ensures))) in
    let three = third_written c.args.self.now c.extend.new.self c.set_region_word-2.new.self c.set_region_word-3.new.self c.args.part c.args.head.0 c.args.head.1 c.args.zeros c.args.head.2 two (c.set_region_word-3.ensures c.args.part (length (row c.args.self.now.words c.args.part) + 2) (head_at c.args.self.now c.extend.new.self c.set_region_word-2.new.self c.args.part c.args.head.0 c.args.head.1 0 c.args.zeros 2 (c.end-end.result + 2) two (omega arith) (head_there c.args.self.now c.extend.new.self c.args.part c.end-end.result (3 + c.args.zeros) 2 c.end-end.ensures.sound c.requires.part c.end-end.ensures.is fits (omega arith) c.extend.ensures))) in
    grown_by c.args.self.now c.extend.new.self c.set_region_word-3.new.self c.args.part c.args.head.0 c.args.head.1 c.args.head.2 c.args.zeros three

pub returns-clause-place : goal.returns-clause-place
returns-clause-place c =
    let fits : 3 + c.args.zeros ≤ room_behind c.end-end.result = omega (arith, c.if-words-left_behind.false, c.left_behind.ensures) in
    let none = headed c.args.self.now c.extend.new.self c.args.part c.args.zeros c.requires.part c.extend.ensures in
    let one = first_written c.args.self.now c.extend.new.self c.extend.new.self c.set_region_word.new.self c.args.part 0 0 c.args.zeros c.args.head.0 none (c.set_region_word.ensures c.args.part (length (row c.args.self.now.words c.args.part) + 0) (head_at c.args.self.now c.extend.new.self c.extend.new.self c.args.part 0 0 0 c.args.zeros 0 c.end-end.result none (omega arith) (head_there c.args.self.now c.extend.new.self c.args.part c.end-end.result (3 + c.args.zeros) 0 c.end-end.ensures.sound c.requires.part c.end-end.ensures.is fits (omega arith) c.extend.ensures ∙ omega arith))) in
    let two = second_written c.args.self.now c.extend.new.self c.set_region_word.new.self c.set_region_word-2.new.self c.args.part c.args.head.0 0 c.args.zeros c.args.head.1 one (c.set_region_word-2.ensures c.args.part (length (row c.args.self.now.words c.args.part) + 1) (head_at c.args.self.now c.extend.new.self c.set_region_word.new.self c.args.part c.args.head.0 0 0 c.args.zeros 1 (c.end-end.result + 1) one (omega arith) (head_there c.args.self.now c.extend.new.self c.args.part c.end-end.result (3 + c.args.zeros) 1 c.end-end.ensures.sound c.requires.part c.end-end.ensures.is fits (omega arith) c.extend.ensures))) in
    let three = third_written c.args.self.now c.extend.new.self c.set_region_word-2.new.self c.set_region_word-3.new.self c.args.part c.args.head.0 c.args.head.1 c.args.zeros c.args.head.2 two (c.set_region_word-3.ensures c.args.part (length (row c.args.self.now.words c.args.part) + 2) (head_at c.args.self.now c.extend.new.self c.set_region_word-2.new.self c.args.part c.args.head.0 c.args.head.1 0 c.args.zeros 2 (c.end-end.result + 2) two (omega arith) (head_there c.args.self.now c.extend.new.self c.args.part c.end-end.result (3 + c.args.zeros) 2 c.end-end.ensures.sound c.requires.part c.end-end.ensures.is fits (omega arith) c.extend.ensures))) in
    subst (λ n. IsAt c.set_region_word-3.new.self c.args.part n c.end-end.result) (omega arith) (head_at c.args.self.now c.extend.new.self c.set_region_word-3.new.self c.args.part c.args.head.0 c.args.head.1 c.args.head.2 c.args.zeros 0 c.end-end.result three (omega arith) (head_there c.args.self.now c.extend.new.self c.args.part c.end-end.result (3 + c.args.zeros) 0 c.end-end.ensures.sound c.requires.part c.end-end.ensures.is fits (omega arith) c.extend.ensures ∙ omega arith))
