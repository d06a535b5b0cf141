use Rattle.std.proofs.Common.{◌≡◌, ◌∙◌, ◌+◌, ◌<◌, ◌≤◌, ap, arith, length, pos, refl, sym, List, ℕ, Option, Some, w64}
use Rattle.std.specs.Int.{int_wrap}
use Rattle.cb_heap.specs.Kept.{content_at, contents_at, is_number, with_content}
use Rattle.cb_heap.specs.Reading.{serial_of}
use Rattle.cb_natives.specs.MakingOwn.{deleted}
use Rattle.cb_natives.proofs.OwnPlacing.{deleted_next, deleted_read, deleted_start, deleted_word}
use Rattle.cb_natives.proofs.Units.{unit_number}
use Rattle.cb_plain.specs.State.{Content, Number, Object}
use Rattle.cb_natives.proofs.own_placing.close_up.Goals as goal

pub loop-i-init : goal.loop-i-init
loop-i-init g c =
    let objects = (g.S.Store.storage c.args.store.now).kept in
    let array = serial_of (g.S.Store.storage c.args.store.now).index c.args.array in
    let there = c.requires.may.there in
    let within = c.requires.may.within in
    record {
      kept = sym (deleted_start objects array c.args.place (omega (arith, there, within)));
      places = refl;
      facts = refl;
      faults = refl;
      settings = refl;
    }

pub get-unit-requires : goal.get-unit-requires
get-unit-requires g c =
    let objects = (g.S.Store.storage c.args.store.now).kept in
    let array = serial_of (g.S.Store.storage c.args.store.now).index c.args.array in
    let there = c.requires.may.there in
    let within = c.requires.may.within in
    let low : c.loop-i.i + 1 < length (contents_at objects array) = omega (arith, within) in
    let from : c.args.place ≤ c.loop-i.i = omega arith in
    ap (λ (index : ℕ → ℕ). is_number (content_at (g.S.Store.storage c.loop-i.store).kept (serial_of index c.args.array) (c.loop-i.i + 1))) c.loop-i.invariant.places
    ∙ ap (λ (kept : List (Option Object)). is_number (content_at kept array (c.loop-i.i + 1))) c.loop-i.invariant.kept
    ∙ ap is_number (deleted_read objects array c.requires.kept c.args.place c.loop-i.i from low)
    ∙ unit_number (content_at objects array (c.loop-i.i + 1)) (c.requires.units.each (c.loop-i.i + 1) low)

pub put-requires : goal.put-requires
put-requires g c =
    let objects = (g.S.Store.storage c.args.store.now).kept in
    let array = serial_of (g.S.Store.storage c.args.store.now).index c.args.array in
    let there = c.requires.may.there in
    let within = c.requires.may.within in
    let low : c.loop-i.i + 1 < length (contents_at objects array) = omega (arith, within) in
    let from : c.args.place ≤ c.loop-i.i = omega arith in
    ap (λ (index : ℕ → ℕ). is_number (content_at (g.S.Store.storage c.loop-i.store).kept (serial_of index c.args.array) c.loop-i.i)) c.loop-i.invariant.places
    ∙ ap (λ (kept : List (Option Object)). is_number (content_at kept array c.loop-i.i)) c.loop-i.invariant.kept
    ∙ ap is_number (deleted_word objects array c.requires.kept c.args.place c.loop-i.i from low)
    ∙ unit_number (content_at objects array c.loop-i.i) (c.requires.units.each c.loop-i.i (omega (arith, low)))

pub loop-i-preserved : goal.loop-i-preserved
loop-i-preserved g c =
    let objects = (g.S.Store.storage c.args.store.now).kept in
    let array = serial_of (g.S.Store.storage c.args.store.now).index c.args.array in
    let there = c.requires.may.there in
    let within = c.requires.may.within in
    let low : c.loop-i.i + 1 < length (contents_at objects array) = omega (arith, within) in
    let from : c.args.place ≤ c.loop-i.i = omega arith in
    let before = c.loop-i.invariant in
    let content : Content = Number (int_wrap w64 (pos c.get-unit.result)) in
    let read : content_at objects array (c.loop-i.i + 1) ≡ Some content =
    sym (deleted_read objects array c.requires.kept c.args.place c.loop-i.i from low)
    ∙ sym (ap (λ (index : ℕ → ℕ). content_at (g.S.Store.storage c.loop-i.store).kept (serial_of index c.args.array) (c.loop-i.i + 1)) before.places
    ∙ ap (λ (kept : List (Option Object)). content_at kept array (c.loop-i.i + 1)) before.kept)
    ∙ c.get-unit.ensures in
    record {
      kept = c.put.ensures.kept
          ∙ ap (λ (index : ℕ → ℕ). with_content (g.S.Store.storage c.loop-i.store).kept (serial_of index c.args.array) c.loop-i.i content) before.places
          ∙ ap (λ (kept : List (Option Object)). with_content kept array c.loop-i.i content) before.kept
          ∙ deleted_next objects array c.requires.kept c.args.place c.loop-i.i from low content read;
      places = c.put.ensures.places ∙ before.places;
      facts = c.put.ensures.facts ∙ before.facts;
      faults = c.put.ensures.faults ∙ before.faults;
      settings = c.put.ensures.settings ∙ before.settings;
    }

pub returns-clause-kept : goal.returns-clause-kept
returns-clause-kept g c =
    let there = c.requires.may.there in
    let end : c.loop-i.i ≡ c.args.count = omega (arith, there) in
    c.loop-i.invariant.kept ∙ ap (deleted (g.S.Store.storage c.args.store.now).kept (serial_of (g.S.Store.storage c.args.store.now).index c.args.array) c.args.place) end
