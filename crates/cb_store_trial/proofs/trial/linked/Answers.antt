use Rattle.cb_heap.proofs.Laws.{same_shapes, same_allows}
use Rattle.cb_heap.specs.Storage.{view_in}
use Rattle.std.proofs.Common.{arith, ◌≡◌, ◌∙◌, ap, sym, subst, ◌+◌, length, Some, List, [], ◌∷◌, Option}
use Rattle.cb_plain.specs.Roots.{with_pending}
use Rattle.cb_plain.specs.State.{Object, Reference}
use Rattle.cb_plain.specs.Updates.{object_in}
use Rattle.cb_heap.specs.Closed.{IsClosed}
use Rattle.cb_heap.specs.Kept.{content_at, is_held, is_reference, with_content}
use Rattle.cb_heap.specs.Reading.{seen, serial_of}
use Rattle.cb_heap.specs.Shaped.{new_object}
use Rattle.cb_heap.specs.Store.{ReadsAsBefore, may_point}
use Rattle.cb_heap.proofs.Laws as laws
use Rattle.cb_store_trial.proofs.Pair.{and, first_place, first_there, held_where, linked_closed, same_word, second_place, second_there, word_back, word_there}
use Rattle.cb_store_trial.proofs.trial.linked.Goals as goal

pub put_ref-requires-clause-there : goal.put_ref-requires-clause-there
put_ref-requires-clause-there g c =
    let objects : List (Option Object) = (g.S.Store.storage c.make_room.new.self).kept in
    let one : Object = new_object (g.S.Store.storage c.make_room.new.self).settings.shapes 0 1 1 in
    let other : Object = new_object (g.S.Store.storage c.place-one.new.self).settings.shapes 0 1 1 in
    let both : (g.S.Store.storage c.place-other.new.self).kept ≡ and (and objects one) other = c.place-other.ensures.kept ∙ ap (λ kept. and kept other) c.place-one.ensures.kept in
    let place : serial_of (g.S.Store.storage c.place-other.new.self).index c.place-one.result ≡ length objects + 1 =
    first_place objects one (g.S.Store.storage c.place-one.new.self).index (g.S.Store.storage c.place-other.new.self).index c.place-one.result
    (subst (λ kept. ReadsAsBefore kept (g.S.Store.storage c.place-one.new.self).index (g.S.Store.storage c.place-other.new.self).index) c.place-one.ensures.kept c.place-other.ensures.places) c.place-one.ensures.serial in
    ap is_reference
    (ap (λ kept. content_at kept (serial_of (g.S.Store.storage c.place-other.new.self).index c.place-one.result) 0) both
    ∙ ap (λ serial. content_at (and (and objects one) other) serial 0) place
    ∙ word_there objects one other (ap (λ shapes. (new_object shapes 0 1 1).contents) (same_shapes c.make_room.ensures.settings) ∙ c.requires.blank))

pub put_ref-requires-clause-held : goal.put_ref-requires-clause-held
put_ref-requires-clause-held g c =
    let objects : List (Option Object) = (g.S.Store.storage c.make_room.new.self).kept in
    let one : Object = new_object (g.S.Store.storage c.make_room.new.self).settings.shapes 0 1 1 in
    let other : Object = new_object (g.S.Store.storage c.place-one.new.self).settings.shapes 0 1 1 in
    let both : (g.S.Store.storage c.place-other.new.self).kept ≡ and (and objects one) other = c.place-other.ensures.kept ∙ ap (λ kept. and kept other) c.place-one.ensures.kept in
    let place : serial_of (g.S.Store.storage c.place-other.new.self).index c.place-other.result ≡ length objects + 2 =
    second_place objects one (g.S.Store.storage c.place-other.new.self).index c.place-other.result (c.place-other.ensures.serial ∙ ap (λ kept. length kept + 1) c.place-one.ensures.kept) in
    ap (λ kept. is_held kept (serial_of (g.S.Store.storage c.place-other.new.self).index c.place-other.result)) both
    ∙ ap (is_held (and (and objects one) other)) place
    ∙ held_where (and (and objects one) other) (length objects + 2) other (second_there objects one other)

pub put_ref-requires-clause-allowed : goal.put_ref-requires-clause-allowed
put_ref-requires-clause-allowed g c =
    let objects : List (Option Object) = (g.S.Store.storage c.make_room.new.self).kept in
    let one : Object = new_object (g.S.Store.storage c.make_room.new.self).settings.shapes 0 1 1 in
    let other : Object = new_object (g.S.Store.storage c.place-one.new.self).settings.shapes 0 1 1 in
    let both : (g.S.Store.storage c.place-other.new.self).kept ≡ and (and objects one) other = c.place-other.ensures.kept ∙ ap (λ kept. and kept other) c.place-one.ensures.kept in
    let first : serial_of (g.S.Store.storage c.place-other.new.self).index c.place-one.result ≡ length objects + 1 =
    first_place objects one (g.S.Store.storage c.place-one.new.self).index (g.S.Store.storage c.place-other.new.self).index c.place-one.result
    (subst (λ kept. ReadsAsBefore kept (g.S.Store.storage c.place-one.new.self).index (g.S.Store.storage c.place-other.new.self).index) c.place-one.ensures.kept c.place-other.ensures.places) c.place-one.ensures.serial in
    let second : serial_of (g.S.Store.storage c.place-other.new.self).index c.place-other.result ≡ length objects + 2 =
    second_place objects one (g.S.Store.storage c.place-other.new.self).index c.place-other.result (c.place-other.ensures.serial ∙ ap (λ kept. length kept + 1) c.place-one.ensures.kept) in
    let allows : (g.S.Store.storage c.place-other.new.self).settings.allows ≡ (g.S.Store.storage c.args.store.now).settings.allows = (same_allows c.place-other.ensures.settings) ∙ (same_allows c.place-one.ensures.settings) ∙ (same_allows c.make_room.ensures.settings) in
    ap (λ kept. may_point (g.S.Store.storage c.place-other.new.self).settings.allows kept (serial_of (g.S.Store.storage c.place-other.new.self).index c.place-one.result) (serial_of (g.S.Store.storage c.place-other.new.self).index c.place-other.result)) both
    ∙ laws.may_point_there (g.S.Store.storage c.place-other.new.self).settings.allows (and (and objects one) other) (serial_of (g.S.Store.storage c.place-other.new.self).index c.place-one.result) (serial_of (g.S.Store.storage c.place-other.new.self).index c.place-other.result) one other
    (subst (λ serial. object_in (and (and objects one) other) serial ≡ Some one) (sym first) (first_there objects one other))
    (subst (λ serial. object_in (and (and objects one) other) serial ≡ Some other) (sym second) (second_there objects one other))
    (ap (λ allows. allows 0 0) allows ∙ c.requires.allows 0 0)

pub collect_all-requires : goal.collect_all-requires
collect_all-requires g c =
    let objects : List (Option Object) = (g.S.Store.storage c.make_room.new.self).kept in
    let one : Object = new_object (g.S.Store.storage c.make_room.new.self).settings.shapes 0 1 1 in
    let other : Object = new_object (g.S.Store.storage c.place-one.new.self).settings.shapes 0 1 1 in
    let both : (g.S.Store.storage c.place-other.new.self).kept ≡ and (and objects one) other = c.place-other.ensures.kept ∙ ap (λ kept. and kept other) c.place-one.ensures.kept in
    let again : ReadsAsBefore (and objects one) (g.S.Store.storage c.place-one.new.self).index (g.S.Store.storage c.place-other.new.self).index =
    subst (λ kept. ReadsAsBefore kept (g.S.Store.storage c.place-one.new.self).index (g.S.Store.storage c.place-other.new.self).index) c.place-one.ensures.kept c.place-other.ensures.places in
    let first : serial_of (g.S.Store.storage c.place-other.new.self).index c.place-one.result ≡ length objects + 1 =
    first_place objects one (g.S.Store.storage c.place-one.new.self).index (g.S.Store.storage c.place-other.new.self).index c.place-one.result again c.place-one.ensures.serial in
    let second : serial_of (g.S.Store.storage c.place-other.new.self).index c.place-other.result ≡ length objects + 2 =
    second_place objects one (g.S.Store.storage c.place-other.new.self).index c.place-other.result (c.place-other.ensures.serial ∙ ap (λ kept. length kept + 1) c.place-one.ensures.kept) in
    let blank : (new_object (g.S.Store.storage c.make_room.new.self).settings.shapes 0 1 1).contents ≡ Reference 0 ∷ [] = ap (λ shapes. (new_object shapes 0 1 1).contents) (same_shapes c.make_room.ensures.settings) ∙ c.requires.blank in
    let whole : (g.S.Store.storage c.put_ref.new.self).kept ≡ with_content (and (and objects one) other) (length objects + 1) 0 (Reference (length objects + 2)) =
    c.put_ref.ensures.kept
    ∙ ap (λ kept. with_content kept (serial_of (g.S.Store.storage c.place-other.new.self).index c.place-one.result) 0 (Reference (serial_of (g.S.Store.storage c.place-other.new.self).index c.place-other.result))) both
    ∙ ap (λ serial. with_content (and (and objects one) other) serial 0 (Reference (serial_of (g.S.Store.storage c.place-other.new.self).index c.place-other.result))) first
    ∙ ap (λ serial. with_content (and (and objects one) other) (length objects + 1) 0 (Reference serial)) second in
    record {
      closed =
          subst (λ held. IsClosed (view_in (g.S.Store.storage c.put_ref.new.self) held.roots)) (sym c.set_pending.ensures)
          (subst (λ index. IsClosed (seen index (g.S.Store.storage c.put_ref.new.self).kept (with_pending c.make_room.new.roots.roots c.place-one.result))) (sym c.put_ref.ensures.places)
          (subst (λ kept. IsClosed (seen (g.S.Store.storage c.place-other.new.self).index kept (with_pending c.make_room.new.roots.roots c.place-one.result))) (sym whole)
          (linked_closed objects one other (g.S.Store.storage c.make_room.new.self).index (g.S.Store.storage c.place-one.new.self).index (g.S.Store.storage c.place-other.new.self).index c.make_room.new.roots.roots c.place-one.result
          blank
          (ap (λ shapes. (new_object shapes 0 1 1).contents) (same_shapes c.place-one.ensures.settings) ∙ blank)
          c.make_room.ensures.collected.closed c.place-one.ensures.places again first)));
    }

pub get_ref-back-requires : goal.get_ref-back-requires
get_ref-back-requires g c =
    let objects : List (Option Object) = (g.S.Store.storage c.make_room.new.self).kept in
    let one : Object = new_object (g.S.Store.storage c.make_room.new.self).settings.shapes 0 1 1 in
    let other : Object = new_object (g.S.Store.storage c.place-one.new.self).settings.shapes 0 1 1 in
    let both : (g.S.Store.storage c.place-other.new.self).kept ≡ and (and objects one) other = c.place-other.ensures.kept ∙ ap (λ kept. and kept other) c.place-one.ensures.kept in
    let again : ReadsAsBefore (and objects one) (g.S.Store.storage c.place-one.new.self).index (g.S.Store.storage c.place-other.new.self).index =
    subst (λ kept. ReadsAsBefore kept (g.S.Store.storage c.place-one.new.self).index (g.S.Store.storage c.place-other.new.self).index) c.place-one.ensures.kept c.place-other.ensures.places in
    let first : serial_of (g.S.Store.storage c.place-other.new.self).index c.place-one.result ≡ length objects + 1 =
    first_place objects one (g.S.Store.storage c.place-one.new.self).index (g.S.Store.storage c.place-other.new.self).index c.place-one.result again c.place-one.ensures.serial in
    let second : serial_of (g.S.Store.storage c.place-other.new.self).index c.place-other.result ≡ length objects + 2 =
    second_place objects one (g.S.Store.storage c.place-other.new.self).index c.place-other.result (c.place-other.ensures.serial ∙ ap (λ kept. length kept + 1) c.place-one.ensures.kept) in
    let blank : (new_object (g.S.Store.storage c.make_room.new.self).settings.shapes 0 1 1).contents ≡ Reference 0 ∷ [] = ap (λ shapes. (new_object shapes 0 1 1).contents) (same_shapes c.make_room.ensures.settings) ∙ c.requires.blank in
    let whole : (g.S.Store.storage c.put_ref.new.self).kept ≡ with_content (and (and objects one) other) (length objects + 1) 0 (Reference (length objects + 2)) =
    c.put_ref.ensures.kept
    ∙ ap (λ kept. with_content kept (serial_of (g.S.Store.storage c.place-other.new.self).index c.place-one.result) 0 (Reference (serial_of (g.S.Store.storage c.place-other.new.self).index c.place-other.result))) both
    ∙ ap (λ serial. with_content (and (and objects one) other) serial 0 (Reference (serial_of (g.S.Store.storage c.place-other.new.self).index c.place-other.result))) first
    ∙ ap (λ serial. with_content (and (and objects one) other) (length objects + 1) 0 (Reference serial)) second in
    let named : serial_of (g.S.Store.storage c.put_ref.new.self).index c.set_pending.new.self.roots.pending ≡ length objects + 1 =
    ap (λ held. serial_of (g.S.Store.storage c.put_ref.new.self).index held.roots.pending) c.set_pending.ensures ∙ ap (λ index. serial_of index c.place-one.result) c.put_ref.ensures.places ∙ first in
    let back : content_at (g.S.Store.storage c.collect_all.new.self).kept (serial_of (g.S.Store.storage c.collect_all.new.self).index c.collect_all.new.roots.roots.pending) 0 ≡ Some (Reference (length objects + 2)) =
    word_back objects one other (view_in (g.S.Store.storage c.put_ref.new.self) c.set_pending.new.self.roots)
    (view_in (g.S.Store.storage c.collect_all.new.self) c.collect_all.new.roots.roots)
    blank whole named c.collect_all.ensures.collected in
    ap is_reference (ap (λ place. content_at (g.S.Store.storage c.collect_all.new.self).kept (serial_of (g.S.Store.storage c.collect_all.new.self).index place) 0) c.pending.ensures ∙ back)

pub serial-requires : goal.serial-requires
serial-requires g c =
    let objects : List (Option Object) = (g.S.Store.storage c.make_room.new.self).kept in
    let one : Object = new_object (g.S.Store.storage c.make_room.new.self).settings.shapes 0 1 1 in
    let other : Object = new_object (g.S.Store.storage c.place-one.new.self).settings.shapes 0 1 1 in
    let both : (g.S.Store.storage c.place-other.new.self).kept ≡ and (and objects one) other = c.place-other.ensures.kept ∙ ap (λ kept. and kept other) c.place-one.ensures.kept in
    let again : ReadsAsBefore (and objects one) (g.S.Store.storage c.place-one.new.self).index (g.S.Store.storage c.place-other.new.self).index =
    subst (λ kept. ReadsAsBefore kept (g.S.Store.storage c.place-one.new.self).index (g.S.Store.storage c.place-other.new.self).index) c.place-one.ensures.kept c.place-other.ensures.places in
    let first : serial_of (g.S.Store.storage c.place-other.new.self).index c.place-one.result ≡ length objects + 1 =
    first_place objects one (g.S.Store.storage c.place-one.new.self).index (g.S.Store.storage c.place-other.new.self).index c.place-one.result again c.place-one.ensures.serial in
    let second : serial_of (g.S.Store.storage c.place-other.new.self).index c.place-other.result ≡ length objects + 2 =
    second_place objects one (g.S.Store.storage c.place-other.new.self).index c.place-other.result (c.place-other.ensures.serial ∙ ap (λ kept. length kept + 1) c.place-one.ensures.kept) in
    let blank : (new_object (g.S.Store.storage c.make_room.new.self).settings.shapes 0 1 1).contents ≡ Reference 0 ∷ [] = ap (λ shapes. (new_object shapes 0 1 1).contents) (same_shapes c.make_room.ensures.settings) ∙ c.requires.blank in
    let whole : (g.S.Store.storage c.put_ref.new.self).kept ≡ with_content (and (and objects one) other) (length objects + 1) 0 (Reference (length objects + 2)) =
    c.put_ref.ensures.kept
    ∙ ap (λ kept. with_content kept (serial_of (g.S.Store.storage c.place-other.new.self).index c.place-one.result) 0 (Reference (serial_of (g.S.Store.storage c.place-other.new.self).index c.place-other.result))) both
    ∙ ap (λ serial. with_content (and (and objects one) other) serial 0 (Reference (serial_of (g.S.Store.storage c.place-other.new.self).index c.place-other.result))) first
    ∙ ap (λ serial. with_content (and (and objects one) other) (length objects + 1) 0 (Reference serial)) second in
    let named : serial_of (g.S.Store.storage c.put_ref.new.self).index c.set_pending.new.self.roots.pending ≡ length objects + 1 =
    ap (λ held. serial_of (g.S.Store.storage c.put_ref.new.self).index held.roots.pending) c.set_pending.ensures ∙ ap (λ index. serial_of index c.place-one.result) c.put_ref.ensures.places ∙ first in
    let back : content_at (g.S.Store.storage c.collect_all.new.self).kept (serial_of (g.S.Store.storage c.collect_all.new.self).index c.collect_all.new.roots.roots.pending) 0 ≡ Some (Reference (length objects + 2)) =
    word_back objects one other (view_in (g.S.Store.storage c.put_ref.new.self) c.set_pending.new.self.roots)
    (view_in (g.S.Store.storage c.collect_all.new.self) c.collect_all.new.roots.roots)
    blank whole named c.collect_all.ensures.collected in
    let found : content_at (g.S.Store.storage c.collect_all.new.self).kept (serial_of (g.S.Store.storage c.collect_all.new.self).index c.pending.result) 0 ≡ Some (Reference (length objects + 2)) =
    ap (λ place. content_at (g.S.Store.storage c.collect_all.new.self).kept (serial_of (g.S.Store.storage c.collect_all.new.self).index place) 0) c.pending.ensures ∙ back in
    let serial : serial_of (g.S.Store.storage c.collect_all.new.self).index c.get_ref-back.result ≡ length objects + 2 = same_word (sym c.get_ref-back.ensures ∙ found) in
    laws.held_kept (g.S.Store.storage c.collect_all.new.self).kept (serial_of (g.S.Store.storage c.collect_all.new.self).index c.get_ref-back.result) (omega (arith, serial))
    (laws.reference_held (view_in (g.S.Store.storage c.collect_all.new.self) c.collect_all.new.roots.roots) c.collect_all.ensures.collected.closed
    (serial_of (g.S.Store.storage c.collect_all.new.self).index c.pending.result) 0 (serial_of (g.S.Store.storage c.collect_all.new.self).index c.get_ref-back.result) c.get_ref-back.ensures)

pub returns : goal.returns
returns g c =
    let objects : List (Option Object) = (g.S.Store.storage c.make_room.new.self).kept in
    let one : Object = new_object (g.S.Store.storage c.make_room.new.self).settings.shapes 0 1 1 in
    let other : Object = new_object (g.S.Store.storage c.place-one.new.self).settings.shapes 0 1 1 in
    let both : (g.S.Store.storage c.place-other.new.self).kept ≡ and (and objects one) other = c.place-other.ensures.kept ∙ ap (λ kept. and kept other) c.place-one.ensures.kept in
    let again : ReadsAsBefore (and objects one) (g.S.Store.storage c.place-one.new.self).index (g.S.Store.storage c.place-other.new.self).index =
    subst (λ kept. ReadsAsBefore kept (g.S.Store.storage c.place-one.new.self).index (g.S.Store.storage c.place-other.new.self).index) c.place-one.ensures.kept c.place-other.ensures.places in
    let first : serial_of (g.S.Store.storage c.place-other.new.self).index c.place-one.result ≡ length objects + 1 =
    first_place objects one (g.S.Store.storage c.place-one.new.self).index (g.S.Store.storage c.place-other.new.self).index c.place-one.result again c.place-one.ensures.serial in
    let second : serial_of (g.S.Store.storage c.place-other.new.self).index c.place-other.result ≡ length objects + 2 =
    second_place objects one (g.S.Store.storage c.place-other.new.self).index c.place-other.result (c.place-other.ensures.serial ∙ ap (λ kept. length kept + 1) c.place-one.ensures.kept) in
    let blank : (new_object (g.S.Store.storage c.make_room.new.self).settings.shapes 0 1 1).contents ≡ Reference 0 ∷ [] = ap (λ shapes. (new_object shapes 0 1 1).contents) (same_shapes c.make_room.ensures.settings) ∙ c.requires.blank in
    let whole : (g.S.Store.storage c.put_ref.new.self).kept ≡ with_content (and (and objects one) other) (length objects + 1) 0 (Reference (length objects + 2)) =
    c.put_ref.ensures.kept
    ∙ ap (λ kept. with_content kept (serial_of (g.S.Store.storage c.place-other.new.self).index c.place-one.result) 0 (Reference (serial_of (g.S.Store.storage c.place-other.new.self).index c.place-other.result))) both
    ∙ ap (λ serial. with_content (and (and objects one) other) serial 0 (Reference (serial_of (g.S.Store.storage c.place-other.new.self).index c.place-other.result))) first
    ∙ ap (λ serial. with_content (and (and objects one) other) (length objects + 1) 0 (Reference serial)) second in
    let named : serial_of (g.S.Store.storage c.put_ref.new.self).index c.set_pending.new.self.roots.pending ≡ length objects + 1 =
    ap (λ held. serial_of (g.S.Store.storage c.put_ref.new.self).index held.roots.pending) c.set_pending.ensures ∙ ap (λ index. serial_of index c.place-one.result) c.put_ref.ensures.places ∙ first in
    let back : content_at (g.S.Store.storage c.collect_all.new.self).kept (serial_of (g.S.Store.storage c.collect_all.new.self).index c.collect_all.new.roots.roots.pending) 0 ≡ Some (Reference (length objects + 2)) =
    word_back objects one other (view_in (g.S.Store.storage c.put_ref.new.self) c.set_pending.new.self.roots)
    (view_in (g.S.Store.storage c.collect_all.new.self) c.collect_all.new.roots.roots)
    blank whole named c.collect_all.ensures.collected in
    let found : content_at (g.S.Store.storage c.collect_all.new.self).kept (serial_of (g.S.Store.storage c.collect_all.new.self).index c.pending.result) 0 ≡ Some (Reference (length objects + 2)) =
    ap (λ place. content_at (g.S.Store.storage c.collect_all.new.self).kept (serial_of (g.S.Store.storage c.collect_all.new.self).index place) 0) c.pending.ensures ∙ back in
    let serial : serial_of (g.S.Store.storage c.collect_all.new.self).index c.get_ref-back.result ≡ length objects + 2 = same_word (sym c.get_ref-back.ensures ∙ found) in
    c.serial.ensures ∙ serial ∙ ap (λ count. count + 2) c.make_room.ensures.collected.count
