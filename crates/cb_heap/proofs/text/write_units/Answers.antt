use Rattle.std.proofs.Common.{◌≡◌, ◌∙◌, ap, arith, refl, sym, ℕ, pos, get_or, length, ◌<◌, w64}
use Rattle.std.proofs.lemmas.Int.{int_wrap_fits}
use Rattle.std.specs.Int.{int_wrap}
use Rattle.cb_plain.specs.State.{Number}
use Rattle.cb_plain.specs.Updates.{with_contents_in}
use Rattle.cb_heap.specs.Kept.{content_at, is_number, with_content}
use Rattle.cb_heap.specs.Reading.{serial_of}
use Rattle.cb_heap.proofs.TextLaws.{filled, filled_all, filled_none, number_so, with_same, written_so}
use Rattle.cb_heap.proofs.text.write_units.Goals as goal

pub loop-i-init : goal.loop-i-init
loop-i-init g c =
    let objects = (g.S.Store.storage c.args.store.now).kept in
    let serial = serial_of (g.S.Store.storage c.args.store.now).index c.args.at in
    record {
      kept = sym (with_same objects serial) ∙ ap (with_contents_in objects serial) (c.requires.blank ∙ filled_none c.args.units.now);
      places = refl;
      facts = refl;
      granted = refl;
      faults = refl;
      settings = refl;
    }

pub put-requires : goal.put-requires
put-requires g c =
    let objects = (g.S.Store.storage c.args.store.now).kept in
    let serial = serial_of (g.S.Store.storage c.args.store.now).index c.args.at in
    ap (λ index. is_number (content_at (g.S.Store.storage c.loop-i.store).kept (serial_of index c.args.at) c.loop-i.i)) c.loop-i.invariant.places
    ∙ ap (λ kept. is_number (content_at kept serial c.loop-i.i)) c.loop-i.invariant.kept
    ∙ number_so objects serial c.args.units.now c.requires.there c.loop-i.i c.loop-i-test.true

pub loop-i-preserved : goal.loop-i-preserved
loop-i-preserved g c =
    let objects = (g.S.Store.storage c.args.store.now).kept in
    let serial = serial_of (g.S.Store.storage c.args.store.now).index c.args.at in
    let unit : ℕ = get_or c.args.units.now c.loop-i.i 0 in
    let before = c.loop-i.invariant in
    let fits : unit < 65536 = (c.type_inv.units c.loop-i.i).fits in
    let word : int_wrap w64 (pos c.from.result) ≡ pos unit =
    ap (λ word. int_wrap w64 (pos word)) c.from.ensures ∙ int_wrap_fits w64 (pos unit) (record { sfits = omega (arith, fits) }) in
    record {
      kept = c.put.ensures.kept
          ∙ ap (λ content. with_content (g.S.Store.storage c.loop-i.store).kept (serial_of (g.S.Store.storage c.loop-i.store).index c.args.at) c.loop-i.i (Number content)) word
          ∙ ap (λ index. with_content (g.S.Store.storage c.loop-i.store).kept (serial_of index c.args.at) c.loop-i.i (Number (pos unit))) before.places
          ∙ ap (λ kept. with_content kept serial c.loop-i.i (Number (pos unit))) before.kept
          ∙ written_so objects serial c.args.units.now c.requires.there c.loop-i.i c.loop-i-test.true;
      places = c.put.ensures.places ∙ before.places;
      facts = c.put.ensures.facts ∙ before.facts;
      granted = c.put.ensures.granted ∙ before.granted;
      faults = c.put.ensures.faults ∙ before.faults;
      settings = c.put.ensures.settings ∙ before.settings;
    }

pub returns-clause-kept : goal.returns-clause-kept
returns-clause-kept g c =
    let serial = serial_of (g.S.Store.storage c.args.store.now).index c.args.at in
    let end : c.loop-i.i ≡ length c.args.units.now = omega arith in
    c.loop-i.invariant.kept
    ∙ ap (λ count. with_contents_in (g.S.Store.storage c.args.store.now).kept serial (filled c.args.units.now count)) end
    ∙ ap (with_contents_in (g.S.Store.storage c.args.store.now).kept serial) (filled_all c.args.units.now)
