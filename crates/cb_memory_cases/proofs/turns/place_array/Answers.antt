use Rattle.std.proofs.Common.{◌∙◌, ◌+◌, ◌++◌, ◌∷◌, [], ap, Some}
use Rattle.cb_plain.specs.Requests.{words_at}
use Rattle.cb_plain.specs.State.{words_of}
use Rattle.cb_heap.specs.Shaped.{new_object}
use Rattle.cb_memory_cases.proofs.Words.{place_stays, placed_words, spent_room}
use Rattle.cb_memory_cases.proofs.turns.place_array.Goals as goal

pub returns-clause-words : goal.returns-clause-words
returns-clause-words g c =
    placed_words (g.S.Store.storage c.args.store.now) (g.S.Store.storage c.place.new.self) c.args.mark c.kind_for.result c.args.size c.place.result c.requires.shapes c.kind_for.ensures c.place.ensures.kept c.place.ensures.serial

pub returns-clause-stays : goal.returns-clause-stays
returns-clause-stays g c =
    place_stays (g.S.Store.storage c.args.store.now) (g.S.Store.storage c.place.new.self) (new_object (g.S.Store.storage c.args.store.now).settings.shapes 0 c.kind_for.result c.args.size) c.place.ensures.kept c.place.ensures.places

pub returns-clause-room : goal.returns-clause-room
returns-clause-room g c =
    ap (λ wants. words_at wants 0 + words_of c.args.size) c.place.ensures.granted ∙ spent_room (g.S.Store.storage c.args.store.now).granted 0 (words_of c.args.size) c.requires.room
