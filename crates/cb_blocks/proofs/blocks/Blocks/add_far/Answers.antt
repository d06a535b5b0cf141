use Rattle.std.proofs.Common.{◌≡◌, ◌+◌, length, set, subst, arith}
use Rattle.cb_blocks.specs.Parted.{IsAt, IsGrown, IsTooMuch, with_words}
use Rattle.cb_blocks.specs.Rows.{row}
use Rattle.cb_blocks.proofs.Headed.{granted, first_written, grown_by, head_inside, headed, second_written, third_written}
use Rattle.cb_blocks.proofs.blocks.Blocks.add_far.Goals as goal

pub overflow_add-start : goal.overflow_add-start
overflow_add-start c =
    let none = headed c.args.self.now c.grow-there_is_room.new.self c.args.part c.args.zeros c.requires.part (granted c.grow-there_is_room.result (IsGrown c.args.self.now c.grow-there_is_room.new.self c.args.part (3 + c.args.zeros)) (IsTooMuch c.args.self.now c.args.part (3 + c.args.zeros)) c.grow-there_is_room.ensures.grown c.grow-there_is_room.ensures.room c.requires.room) in
    let last = head_inside c.args.self.now c.grow-there_is_room.new.self c.grow-there_is_room.new.self c.args.part 0 0 0 c.args.zeros 2 none (omega arith) in
    omega (arith, last.1, c.used-start.ensures, c.used-end.ensures, c.used-end.type_inv)

pub overflow_add-start-2 : goal.overflow_add-start-2
overflow_add-start-2 c =
    let none = headed c.args.self.now c.grow-there_is_room.new.self c.args.part c.args.zeros c.requires.part (granted c.grow-there_is_room.result (IsGrown c.args.self.now c.grow-there_is_room.new.self c.args.part (3 + c.args.zeros)) (IsTooMuch c.args.self.now c.args.part (3 + c.args.zeros)) c.grow-there_is_room.ensures.grown c.grow-there_is_room.ensures.room c.requires.room) in
    let last = head_inside c.args.self.now c.grow-there_is_room.new.self c.grow-there_is_room.new.self c.args.part 0 0 0 c.args.zeros 2 none (omega arith) in
    omega (arith, last.1, c.used-start.ensures, c.used-end.ensures, c.used-end.type_inv)

pub set_word-requires-3-clause-place : goal.set_word-requires-3-clause-place
set_word-requires-3-clause-place c =
    let none = headed c.args.self.now c.grow-there_is_room.new.self c.args.part c.args.zeros c.requires.part (granted c.grow-there_is_room.result (IsGrown c.args.self.now c.grow-there_is_room.new.self c.args.part (3 + c.args.zeros)) (IsTooMuch c.args.self.now c.args.part (3 + c.args.zeros)) c.grow-there_is_room.ensures.grown c.grow-there_is_room.ensures.room c.requires.room) in
    let place_one : c.used-start.result ≡ length (row c.args.self.now.words c.args.part) + 0 = omega (arith, c.used-start.ensures) in
    let one = first_written c.args.self.now c.grow-there_is_room.new.self c.grow-there_is_room.new.self c.set_word.new.self c.args.part 0 0 c.args.zeros c.args.first none (subst (λ n. c.set_word.new.self ≡ with_words c.grow-there_is_room.new.self c.args.part (set (row c.grow-there_is_room.new.self.words c.args.part) n c.args.first)) place_one c.set_word.ensures) in
    let place_two : c.used-start.result + 1 ≡ length (row c.args.self.now.words c.args.part) + 1 = omega (arith, c.used-start.ensures) in
    let two = second_written c.args.self.now c.grow-there_is_room.new.self c.set_word.new.self c.set_word-2.new.self c.args.part c.args.first 0 c.args.zeros c.args.second one (subst (λ n. c.set_word-2.new.self ≡ with_words c.set_word.new.self c.args.part (set (row c.set_word.new.self.words c.args.part) n c.args.second)) place_two c.set_word-2.ensures) in
    omega (arith, c.used-start.ensures, (head_inside c.args.self.now c.grow-there_is_room.new.self c.set_word-2.new.self c.args.part c.args.first c.args.second 0 c.args.zeros 2 two (omega arith)).1)

pub returns-clause-added : goal.returns-clause-added
returns-clause-added c =
    let none = headed c.args.self.now c.grow-there_is_room.new.self c.args.part c.args.zeros c.requires.part (granted c.grow-there_is_room.result (IsGrown c.args.self.now c.grow-there_is_room.new.self c.args.part (3 + c.args.zeros)) (IsTooMuch c.args.self.now c.args.part (3 + c.args.zeros)) c.grow-there_is_room.ensures.grown c.grow-there_is_room.ensures.room c.requires.room) in
    let place_one : c.used-start.result ≡ length (row c.args.self.now.words c.args.part) + 0 = omega (arith, c.used-start.ensures) in
    let one = first_written c.args.self.now c.grow-there_is_room.new.self c.grow-there_is_room.new.self c.set_word.new.self c.args.part 0 0 c.args.zeros c.args.first none (subst (λ n. c.set_word.new.self ≡ with_words c.grow-there_is_room.new.self c.args.part (set (row c.grow-there_is_room.new.self.words c.args.part) n c.args.first)) place_one c.set_word.ensures) in
    let place_two : c.used-start.result + 1 ≡ length (row c.args.self.now.words c.args.part) + 1 = omega (arith, c.used-start.ensures) in
    let two = second_written c.args.self.now c.grow-there_is_room.new.self c.set_word.new.self c.set_word-2.new.self c.args.part c.args.first 0 c.args.zeros c.args.second one (subst (λ n. c.set_word-2.new.self ≡ with_words c.set_word.new.self c.args.part (set (row c.set_word.new.self.words c.args.part) n c.args.second)) place_two c.set_word-2.ensures) in
    let place_three : c.used-start.result + 2 ≡ length (row c.args.self.now.words c.args.part) + 2 = omega (arith, c.used-start.ensures) in
    let three = third_written c.args.self.now c.grow-there_is_room.new.self c.set_word-2.new.self c.set_word-3.new.self c.args.part c.args.first c.args.second c.args.zeros c.args.third two (subst (λ n. c.set_word-3.new.self ≡ with_words c.set_word-2.new.self c.args.part (set (row c.set_word-2.new.self.words c.args.part) n c.args.third)) place_three c.set_word-3.ensures) in
    grown_by c.args.self.now c.grow-there_is_room.new.self c.set_word-3.new.self c.args.part c.args.first c.args.second c.args.third c.args.zeros three

pub returns-clause-place : goal.returns-clause-place
returns-clause-place c = subst (λ n. IsAt c.set_word-3.new.self c.args.part n c.index_of.result) c.used-start.ensures c.index_of.ensures
