use Rattle.std.proofs.Common.{◌∙◌, ◌+◌, ◌-◌, ◌≤◌, arith, length, refl}
use Rattle.std.proofs.lemmas.Result.{MatchResult-from_err}
use Rattle.cb_heap.specs.Kept.{contents_at}
use Rattle.cb_heap.specs.Reading.{serial_of}
use Rattle.cb_natives.specs.Input.{Loses}
use Rattle.cb_natives.proofs.Inputs.{holds_there, length_there, loses_so, moves_more, moves_none, still_low, taken_all, taken_last}
use Rattle.cb_natives.proofs.input.read_range.Goals as goal

pub loop-taken-init : goal.loop-taken-init
loop-taken-init g c = record {
  moves = moves_none g.I.Source.gave c.args.input.now (g.I.Source.left c.args.input.now) (g.S.Store.storage c.args.store.now).kept (serial_of (g.S.Store.storage c.args.store.now).index c.args.at) c.args.from;
  most = omega arith;
  never_falls = omega arith;
  unfailed = λ low. omega arith;
  places = refl;
  facts = refl;
  granted = refl;
  faults = refl;
  settings = refl;
}

pub read_piece-requires-clause-holds : goal.read_piece-requires-clause-holds
read_piece-requires-clause-holds g c =
    let objects = (g.S.Store.storage c.args.store.now).kept in
    let index = (g.S.Store.storage c.args.store.now).index in
    let before = c.loop-taken.invariant in
    let room : c.args.from + c.loop-taken.taken ≤ length (contents_at objects (serial_of index c.args.at)) = omega (arith, c.requires.within, before.most) in
    holds_there g.I.Source.gave c.args.input.now c.loop-taken.input (g.I.Source.left c.args.input.now) (g.I.Source.left c.loop-taken.input) objects (g.S.Store.storage c.loop-taken.store).kept index (g.S.Store.storage c.loop-taken.store).index c.args.at c.args.from c.loop-taken.taken
    c.requires.holds before.moves before.places room

pub read_piece-requires-clause-within : goal.read_piece-requires-clause-within
read_piece-requires-clause-within g c =
    let objects = (g.S.Store.storage c.args.store.now).kept in
    let index = (g.S.Store.storage c.args.store.now).index in
    let before = c.loop-taken.invariant in
    let room : c.args.from + c.loop-taken.taken ≤ length (contents_at objects (serial_of index c.args.at)) = omega (arith, c.requires.within, before.most) in
    let same = length_there g.I.Source.gave c.args.input.now c.loop-taken.input (g.I.Source.left c.args.input.now) (g.I.Source.left c.loop-taken.input) objects (g.S.Store.storage c.loop-taken.store).kept index (g.S.Store.storage c.loop-taken.store).index c.args.at c.args.from c.loop-taken.taken
    c.requires.holds before.moves before.places room in
    omega (arith, same, c.requires.within, before.most)

pub returns-then-more-eq0-clause-taken : goal.returns-then-more-eq0-clause-taken
returns-then-more-eq0-clause-taken g c =
    let objects = (g.S.Store.storage c.args.store.now).kept in
    let index = (g.S.Store.storage c.args.store.now).index in
    let before = c.loop-taken.invariant in
    let room : c.args.from + c.loop-taken.taken ≤ length (contents_at objects (serial_of index c.args.at)) = omega (arith, c.requires.within, before.most) in
    taken_last g.I.Source.gave c.args.input.now c.loop-taken.input (g.I.Source.left c.args.input.now) (g.I.Source.left c.loop-taken.input) objects (g.S.Store.storage c.loop-taken.store).kept index (g.S.Store.storage c.loop-taken.store).index c.args.at c.args.from c.loop-taken.taken
    c.requires.holds before.moves before.places room c.read_piece.new.input (g.I.Source.left c.read_piece.new.input) (g.S.Store.storage c.read_piece.new.store).kept c.args.count (c.args.count - c.loop-taken.taken) c.in_ok-more.more (omega (arith, c.loop-taken-test.true))
    c.in_ok-more.ensures.moved (omega (arith, c.if-more-eq0.true))

pub loop-taken-preserved : goal.loop-taken-preserved
loop-taken-preserved g c =
    let objects = (g.S.Store.storage c.args.store.now).kept in
    let index = (g.S.Store.storage c.args.store.now).index in
    let before = c.loop-taken.invariant in
    let after = c.in_ok-more.ensures in
    let room : c.args.from + c.loop-taken.taken ≤ length (contents_at objects (serial_of index c.args.at)) = omega (arith, c.requires.within, before.most) in
    let few = after.moved.few in
    record {
      moves = moves_more g.I.Source.gave c.args.input.now c.loop-taken.input (g.I.Source.left c.args.input.now) (g.I.Source.left c.loop-taken.input) objects (g.S.Store.storage c.loop-taken.store).kept index (g.S.Store.storage c.loop-taken.store).index c.args.at c.args.from c.loop-taken.taken
          c.requires.holds before.moves before.places room c.read_piece.new.input (g.I.Source.left c.read_piece.new.input) (g.S.Store.storage c.read_piece.new.store).kept c.in_ok-more.more after.moved.moves (λ none. absurd (omega (arith, c.if-more-eq0.false, none)));
      most = omega (arith, few, before.most);
      never_falls = omega (arith, after.cause.never_falls, before.never_falls);
      unfailed = still_low (g.I.Source.faults c.args.input.now) (g.I.Source.faults c.loop-taken.input) (g.I.Source.faults c.read_piece.new.input) after.cause before.unfailed;
      places = after.places ∙ before.places;
      facts = after.facts ∙ before.facts;
      granted = after.granted ∙ before.granted;
      faults = after.faults ∙ before.faults;
      settings = after.settings ∙ before.settings;
    }

pub returns-in_err-more-clause-lost : goal.returns-in_err-more-clause-lost
returns-in_err-more-clause-lost g c =
    let left = g.I.Source.left c.args.input.now in
    let leaves = g.I.Source.left c.read_piece.new.input in
    let loses : Loses g.I.Source.gave c.args.count c.args.input.now left leaves =
    loses_so g.I.Source.gave c.args.input.now c.loop-taken.input left (g.I.Source.left c.loop-taken.input) leaves (g.S.Store.storage c.args.store.now).kept (g.S.Store.storage c.loop-taken.store).kept
    (serial_of (g.S.Store.storage c.args.store.now).index c.args.at) c.args.from c.loop-taken.taken c.args.count c.loop-taken.invariant.moves (omega (arith, c.loop-taken-test.true)) c.in_err-more.ensures.lost in
    MatchResult-from_err c.from_residual.result (λ _. Unit {0}) (λ _. Loses g.I.Source.gave c.args.count c.args.input.now left leaves) c.from_residual.ensures.0 (λ _. loses)

pub returns-clause-taken : goal.returns-clause-taken
returns-clause-taken g c =
    let objects = (g.S.Store.storage c.args.store.now).kept in
    let index = (g.S.Store.storage c.args.store.now).index in
    let before = c.loop-taken.invariant in
    let room : c.args.from + c.loop-taken.taken ≤ length (contents_at objects (serial_of index c.args.at)) = omega (arith, c.requires.within, before.most) in
    taken_all g.I.Source.gave c.args.input.now c.loop-taken.input (g.I.Source.left c.args.input.now) (g.I.Source.left c.loop-taken.input) objects (g.S.Store.storage c.loop-taken.store).kept index (g.S.Store.storage c.loop-taken.store).index c.args.at c.args.from c.loop-taken.taken
    c.requires.holds before.moves before.places room c.args.count (omega (arith, before.most, c.loop-taken-test.false))
