use Rattle.cb_heap.proofs.Laws.{same_allows}
use Rattle.std.proofs.Common.{◌≡◌, ◌<◌, ◌≤◌, ◌^◌, ◌+◌, ◌∙◌, ◌++◌, ◌∷◌, [], ℕ, true, Some, ap, arith, length}
use Rattle.cb_heap.specs.Kept.{contents_at}
use Rattle.cb_heap.specs.Reading.{serial_of}
use Rattle.cb_machine.specs.Plans.{object_of}
use Rattle.cb_machine.specs.Sites.{suppressed}
use Rattle.cb_plain.specs.State.{Object, Reference}
use Rattle.cb_plain.specs.declared.shape.Shape.{Shape}
use Rattle.cb_plain.specs.declared.shape.Shape.TheVariants.{Elements}
use Rattle.cb_natives.specs.Copies.{copied}
use Rattle.cb_natives.proofs.CopyPlaced.{blank_so, can_copy, copied_so, longer_follows, longer_held, longer_may, longer_put, longer_there, longer_words, new_so, new_words}
use Rattle.cb_natives.proofs.FollowLaws.{follows_from_so}
use Rattle.cb_natives.proofs.copy_placing.place_longer.Goals as goal

pub copy_words-requires-clause-may : goal.copy_words-requires-clause-may
copy_words-requires-clause-may g c =
    let objects = (g.S.Store.storage c.args.store.now).kept in
    let index = (g.S.Store.storage c.args.store.now).index in
    let source = serial_of index c.args.from in
    let after = (g.S.Store.storage c.place-at.new.self).index in
    let now = (g.S.Store.storage c.place-at.new.self).kept in
    let shape : Shape = Elements true in
    let size = c.args.size in
    let placed : now ≡ objects ++ Some (object_of suppressed c.args.kind (new_words (size + 1) shape)) ∷ [] =
    c.place-at.ensures.kept ∙ ap (λ (object : Object). objects ++ Some object ∷ []) (new_so (g.S.Store.storage c.args.store.now).settings.shapes shape suppressed c.args.kind (size + 1) c.requires.shape) in
    let fits : size ≤ size + 1 = omega arith in
    let few : size < 2 ^ 32 = omega (arith, c.ranges.size) in
    can_copy objects suppressed c.args.kind (size + 1) shape source size c.requires.laid c.requires.size (blank_so shape (size + 1) tt) fits few now placed (serial_of after c.args.from) (serial_of after c.place-at.result) (c.place-at.ensures.places c.args.from c.requires.laid.held) c.place-at.ensures.serial

pub copy_words-requires-clause-follows : goal.copy_words-requires-clause-follows
copy_words-requires-clause-follows g c =
    let objects = (g.S.Store.storage c.args.store.now).kept in
    let index = (g.S.Store.storage c.args.store.now).index in
    let source = serial_of index c.args.from in
    let after = (g.S.Store.storage c.place-at.new.self).index in
    let now = (g.S.Store.storage c.place-at.new.self).kept in
    let shape : Shape = Elements true in
    let size = c.args.size in
    let placed : now ≡ objects ++ Some (object_of suppressed c.args.kind (new_words (size + 1) shape)) ∷ [] =
    c.place-at.ensures.kept ∙ ap (λ (object : Object). objects ++ Some object ∷ []) (new_so (g.S.Store.storage c.args.store.now).settings.shapes shape suppressed c.args.kind (size + 1) c.requires.shape) in
    let fits : size ≤ size + 1 = omega arith in
    let few : size < 2 ^ 32 = omega (arith, c.ranges.size) in
    let words = contents_at objects source in
    let source_at = serial_of after c.args.from in
    let own = serial_of after c.place-at.result in
    let longer : copied now source_at 0 own 0 size ≡ objects ++ Some (object_of suppressed c.args.kind (words ++ Reference 0 ∷ [])) ∷ [] =
    copied_so objects suppressed c.args.kind (size + 1) shape source size c.requires.laid c.requires.size (blank_so shape (size + 1) tt) fits few now placed source_at own (c.place-at.ensures.places c.args.from c.requires.laid.held) c.place-at.ensures.serial
    ∙ ap (λ contents. objects ++ Some (object_of suppressed c.args.kind contents) ∷ []) (longer_words words size c.requires.size) in
    follows_from_so (g.S.Store.storage c.args.store.now).settings.allows (g.S.Store.storage c.place-at.new.self).settings.allows (same_allows c.place-at.ensures.settings)
    (objects ++ Some (object_of suppressed c.args.kind (words ++ Reference 0 ∷ [])) ∷ []) (copied now source_at 0 own 0 size) longer (length objects + 1) own c.place-at.ensures.serial
    (longer_follows objects suppressed c.args.kind words size c.requires.size (serial_of index c.args.other) c.requires.other (g.S.Store.storage c.args.store.now).settings.allows c.requires.follows)

pub put_ref-requires-clause-there : goal.put_ref-requires-clause-there
put_ref-requires-clause-there g c =
    let objects = (g.S.Store.storage c.args.store.now).kept in
    let index = (g.S.Store.storage c.args.store.now).index in
    let source = serial_of index c.args.from in
    let after = (g.S.Store.storage c.place-at.new.self).index in
    let now = (g.S.Store.storage c.place-at.new.self).kept in
    let shape : Shape = Elements true in
    let size = c.args.size in
    let placed : now ≡ objects ++ Some (object_of suppressed c.args.kind (new_words (size + 1) shape)) ∷ [] =
    c.place-at.ensures.kept ∙ ap (λ (object : Object). objects ++ Some object ∷ []) (new_so (g.S.Store.storage c.args.store.now).settings.shapes shape suppressed c.args.kind (size + 1) c.requires.shape) in
    let fits : size ≤ size + 1 = omega arith in
    let few : size < 2 ^ 32 = omega (arith, c.ranges.size) in
    let words = contents_at objects source in
    let then = (g.S.Store.storage c.copy_words.new.store).kept in
    let later = (g.S.Store.storage c.copy_words.new.store).index in
    let longer : then ≡ objects ++ Some (object_of suppressed c.args.kind (words ++ Reference 0 ∷ [])) ∷ [] =
    c.copy_words.ensures.kept ∙ copied_so objects suppressed c.args.kind (size + 1) shape source size c.requires.laid c.requires.size (blank_so shape (size + 1) tt) fits few now placed (serial_of after c.args.from) (serial_of after c.place-at.result) (c.place-at.ensures.places c.args.from c.requires.laid.held) c.place-at.ensures.serial
    ∙ ap (λ contents. objects ++ Some (object_of suppressed c.args.kind contents) ∷ []) (longer_words words size c.requires.size) in
    let own : serial_of later c.place-at.result ≡ length objects + 1 = ap (λ (index : ℕ → ℕ). serial_of index c.place-at.result) c.copy_words.ensures.places ∙ c.place-at.ensures.serial in
    let same : serial_of later c.args.other ≡ serial_of index c.args.other = ap (λ (index : ℕ → ℕ). serial_of index c.args.other) c.copy_words.ensures.places ∙ c.place-at.ensures.places c.args.other c.requires.other in
    longer_there objects suppressed c.args.kind words size c.requires.size (serial_of index c.args.other) c.requires.other then longer (serial_of later c.place-at.result) own (serial_of later c.args.other) same

pub put_ref-requires-clause-held : goal.put_ref-requires-clause-held
put_ref-requires-clause-held g c =
    let objects = (g.S.Store.storage c.args.store.now).kept in
    let index = (g.S.Store.storage c.args.store.now).index in
    let source = serial_of index c.args.from in
    let after = (g.S.Store.storage c.place-at.new.self).index in
    let now = (g.S.Store.storage c.place-at.new.self).kept in
    let shape : Shape = Elements true in
    let size = c.args.size in
    let placed : now ≡ objects ++ Some (object_of suppressed c.args.kind (new_words (size + 1) shape)) ∷ [] =
    c.place-at.ensures.kept ∙ ap (λ (object : Object). objects ++ Some object ∷ []) (new_so (g.S.Store.storage c.args.store.now).settings.shapes shape suppressed c.args.kind (size + 1) c.requires.shape) in
    let fits : size ≤ size + 1 = omega arith in
    let few : size < 2 ^ 32 = omega (arith, c.ranges.size) in
    let words = contents_at objects source in
    let then = (g.S.Store.storage c.copy_words.new.store).kept in
    let later = (g.S.Store.storage c.copy_words.new.store).index in
    let longer : then ≡ objects ++ Some (object_of suppressed c.args.kind (words ++ Reference 0 ∷ [])) ∷ [] =
    c.copy_words.ensures.kept ∙ copied_so objects suppressed c.args.kind (size + 1) shape source size c.requires.laid c.requires.size (blank_so shape (size + 1) tt) fits few now placed (serial_of after c.args.from) (serial_of after c.place-at.result) (c.place-at.ensures.places c.args.from c.requires.laid.held) c.place-at.ensures.serial
    ∙ ap (λ contents. objects ++ Some (object_of suppressed c.args.kind contents) ∷ []) (longer_words words size c.requires.size) in
    let own : serial_of later c.place-at.result ≡ length objects + 1 = ap (λ (index : ℕ → ℕ). serial_of index c.place-at.result) c.copy_words.ensures.places ∙ c.place-at.ensures.serial in
    let same : serial_of later c.args.other ≡ serial_of index c.args.other = ap (λ (index : ℕ → ℕ). serial_of index c.args.other) c.copy_words.ensures.places ∙ c.place-at.ensures.places c.args.other c.requires.other in
    longer_held objects suppressed c.args.kind words size c.requires.size (serial_of index c.args.other) c.requires.other then longer (serial_of later c.place-at.result) own (serial_of later c.args.other) same

pub put_ref-requires-clause-allowed : goal.put_ref-requires-clause-allowed
put_ref-requires-clause-allowed g c =
    let objects = (g.S.Store.storage c.args.store.now).kept in
    let index = (g.S.Store.storage c.args.store.now).index in
    let source = serial_of index c.args.from in
    let after = (g.S.Store.storage c.place-at.new.self).index in
    let now = (g.S.Store.storage c.place-at.new.self).kept in
    let shape : Shape = Elements true in
    let size = c.args.size in
    let placed : now ≡ objects ++ Some (object_of suppressed c.args.kind (new_words (size + 1) shape)) ∷ [] =
    c.place-at.ensures.kept ∙ ap (λ (object : Object). objects ++ Some object ∷ []) (new_so (g.S.Store.storage c.args.store.now).settings.shapes shape suppressed c.args.kind (size + 1) c.requires.shape) in
    let fits : size ≤ size + 1 = omega arith in
    let few : size < 2 ^ 32 = omega (arith, c.ranges.size) in
    let words = contents_at objects source in
    let then = (g.S.Store.storage c.copy_words.new.store).kept in
    let later = (g.S.Store.storage c.copy_words.new.store).index in
    let longer : then ≡ objects ++ Some (object_of suppressed c.args.kind (words ++ Reference 0 ∷ [])) ∷ [] =
    c.copy_words.ensures.kept ∙ copied_so objects suppressed c.args.kind (size + 1) shape source size c.requires.laid c.requires.size (blank_so shape (size + 1) tt) fits few now placed (serial_of after c.args.from) (serial_of after c.place-at.result) (c.place-at.ensures.places c.args.from c.requires.laid.held) c.place-at.ensures.serial
    ∙ ap (λ contents. objects ++ Some (object_of suppressed c.args.kind contents) ∷ []) (longer_words words size c.requires.size) in
    let own : serial_of later c.place-at.result ≡ length objects + 1 = ap (λ (index : ℕ → ℕ). serial_of index c.place-at.result) c.copy_words.ensures.places ∙ c.place-at.ensures.serial in
    let same : serial_of later c.args.other ≡ serial_of index c.args.other = ap (λ (index : ℕ → ℕ). serial_of index c.args.other) c.copy_words.ensures.places ∙ c.place-at.ensures.places c.args.other c.requires.other in
    longer_may objects suppressed c.args.kind words size c.requires.size (serial_of index c.args.other) c.requires.other then longer (serial_of later c.place-at.result) own (serial_of later c.args.other) same
    (g.S.Store.storage c.args.store.now).settings.allows (g.S.Store.storage c.copy_words.new.store).settings.allows (same_allows c.copy_words.ensures.settings ∙ same_allows c.place-at.ensures.settings) c.requires.follows

pub returns-clause-kept : goal.returns-clause-kept
returns-clause-kept g c =
    let objects = (g.S.Store.storage c.args.store.now).kept in
    let index = (g.S.Store.storage c.args.store.now).index in
    let source = serial_of index c.args.from in
    let after = (g.S.Store.storage c.place-at.new.self).index in
    let now = (g.S.Store.storage c.place-at.new.self).kept in
    let shape : Shape = Elements true in
    let size = c.args.size in
    let placed : now ≡ objects ++ Some (object_of suppressed c.args.kind (new_words (size + 1) shape)) ∷ [] =
    c.place-at.ensures.kept ∙ ap (λ (object : Object). objects ++ Some object ∷ []) (new_so (g.S.Store.storage c.args.store.now).settings.shapes shape suppressed c.args.kind (size + 1) c.requires.shape) in
    let fits : size ≤ size + 1 = omega arith in
    let few : size < 2 ^ 32 = omega (arith, c.ranges.size) in
    let words = contents_at objects source in
    let then = (g.S.Store.storage c.copy_words.new.store).kept in
    let later = (g.S.Store.storage c.copy_words.new.store).index in
    let longer : then ≡ objects ++ Some (object_of suppressed c.args.kind (words ++ Reference 0 ∷ [])) ∷ [] =
    c.copy_words.ensures.kept ∙ copied_so objects suppressed c.args.kind (size + 1) shape source size c.requires.laid c.requires.size (blank_so shape (size + 1) tt) fits few now placed (serial_of after c.args.from) (serial_of after c.place-at.result) (c.place-at.ensures.places c.args.from c.requires.laid.held) c.place-at.ensures.serial
    ∙ ap (λ contents. objects ++ Some (object_of suppressed c.args.kind contents) ∷ []) (longer_words words size c.requires.size) in
    let own : serial_of later c.place-at.result ≡ length objects + 1 = ap (λ (index : ℕ → ℕ). serial_of index c.place-at.result) c.copy_words.ensures.places ∙ c.place-at.ensures.serial in
    let same : serial_of later c.args.other ≡ serial_of index c.args.other = ap (λ (index : ℕ → ℕ). serial_of index c.args.other) c.copy_words.ensures.places ∙ c.place-at.ensures.places c.args.other c.requires.other in
    c.put_ref.ensures.kept ∙ longer_put objects suppressed c.args.kind words size c.requires.size (serial_of index c.args.other) c.requires.other then longer (serial_of later c.place-at.result) own (serial_of later c.args.other) same
