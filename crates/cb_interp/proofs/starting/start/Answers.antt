use Rattle.cb_heap.proofs.Laws.{same_shapes, same_allows}
use Rattle.cb_heap.specs.Storage.{view_in}
use Rattle.std.proofs.Common.{◌≡◌, ◌∙◌, ap, sym, subst, arith, ◌+◌, ◌*◌, ◌<◌, [], length, slice_get, ℕ, List, Option, Some}
use Rattle.std.specs.List.{AllByRecursion}
use Rattle.std.specs.Prelude.{IsTrue}
use Rattle.std.specs.declared.result.Result.{Result}
use Rattle.std.specs.declared.result.Result.TheVariants.{Err, Ok}
use Rattle.cb_frames.specs.Limited.{Limited}
use Rattle.cb_heap.specs.Closed.{IsClosed}
use Rattle.cb_heap.specs.Reading.{read_roots}
use Rattle.cb_heap.specs.Store.{IsFault}
use Rattle.cb_heap.specs.declared.no_room.NoRoom.{NoRoom}
use Rattle.cb_io.specs.Faults.{CountsFaults}
use Rattle.cb_plain.specs.Requests.{most_words}
use Rattle.cb_machine.specs.Starting.{start}
use Rattle.cb_natives.proofs.Laws.{follows_so}
use Rattle.cb_plain.specs.State.{Object, State}
use Rattle.cb_plain.specs.declared.want.Want.{Want}
use Rattle.cb_interp.specs.Arguments.{all_wants}
use Rattle.cb_interp.specs.Starting.{MayStart, RefusesStart, first_objects, unread}
use Rattle.cb_act.specs.Turning.{machine_of, moment_of}
use Rattle.cb_interp.proofs.TurnsMaking.{handed_on}
use Rattle.cb_interp.proofs.TurnsStarting.{begins_with, handed_same, none_left, ruled_so, seen_empty, state_so, statics_count}
use Rattle.cb_interp.proofs.TurnsStartingPlan.{start_is}
use Rattle.cb_interp.proofs.TurnsStartingRoom.{covers_asked, first_sites}
use Rattle.cb_interp.proofs.TurnsStartingRoots.{empty_closed, empty_read}
use Rattle.cb_interp.proofs.starting.start.Goals as goal

pub ready-requires-clause-few : goal.ready-requires-clause-few
ready-requires-clause-few g c =
    let may = c.linked_programs_start.ensures c.args.program.now (g.S.Store.storage c.args.store.now).settings.shapes c.requires.linked c.requires.fits c.requires.shaped in
    may.few

pub make_room-requires-clause-closed : goal.make_room-requires-clause-closed
make_room-requires-clause-closed g c =
    let program = c.args.program.now in
    subst IsClosed
    (sym (seen_empty program (g.S.Store.storage c.args.store.now).index (g.S.Store.storage c.args.store.now).kept c.ready.new.roots.roots c.requires.empty
    (ap (λ (held : Limited). held.roots) c.ready.ensures)))
    (empty_closed program)

pub make_room-requires-clause-sites : goal.make_room-requires-clause-sites
make_room-requires-clause-sites g c =
    let may = c.linked_programs_start.ensures c.args.program.now (g.S.Store.storage c.args.store.now).settings.shapes c.requires.linked c.requires.fits c.requires.shaped in
    subst (AllByRecursion (λ (want : Want). IsTrue ((g.S.Store.storage c.args.store.now).settings.knows want.site))) (sym c.ask.ensures)
    (first_sites (λ (site : ℕ). IsTrue ((g.S.Store.storage c.args.store.now).settings.knows site)) c.args.given.now (λ site low. c.requires.sites site (may.sites site (omega (arith, low)))))

pub place_first-first-requires-clause-fits : goal.place_first-first-requires-clause-fits
place_first-first-requires-clause-fits g c =
    let may = c.linked_programs_start.ensures c.args.program.now (g.S.Store.storage c.args.store.now).settings.shapes c.requires.linked c.requires.fits c.requires.shaped in
    subst (MayStart c.args.program.now) (sym (same_shapes c.make_room.ensures.settings)) may

pub place_first-first-requires-clause-empty : goal.place_first-first-requires-clause-empty
place_first-first-requires-clause-empty g c =
    none_left (g.S.Store.storage c.make_room.new.self).kept
    (c.make_room.ensures.collected.count ∙ ap (λ (kept : List (Option Object)). length kept) c.requires.empty)

pub place_first-first-requires-clause-granted : goal.place_first-first-requires-clause-granted
place_first-first-requires-clause-granted g c =
    let bounded = c.in_ok-make_room.ensures.bounded in
    covers_asked (g.S.Store.storage c.make_room.new.self).granted (all_wants c.args.given.now) (c.in_ok-make_room.ensures.granted ∙ c.ask.ensures)
    (subst (λ (wants : List Want). (want : Want) → (place : ℕ) → slice_get wants place ≡ Some want → want.words < most_words) (sym c.in_ok-make_room.ensures.granted)
    bounded.each)

pub place_first-first-requires-clause-follows : goal.place_first-first-requires-clause-follows
place_first-first-requires-clause-follows g c =
    let may = c.linked_programs_start.ensures c.args.program.now (g.S.Store.storage c.args.store.now).settings.shapes c.requires.linked c.requires.fits c.requires.shaped in
    let machine = machine_of c.args.program.now c.args.roots.now.limit in
    follows_so (g.S.Store.storage c.args.store.now).settings.allows (g.S.Store.storage c.make_room.new.self).settings.allows (same_allows c.make_room.ensures.settings)
    (start machine c.args.given.now []).objects (first_objects c.args.program.now c.args.given.now)
    (sym (ap (λ (state : State). state.objects) (start_is machine c.args.given.now [] may.first may.second may.slots))) c.requires.follows

pub settle-requires : goal.settle-requires
settle-requires g c =
    let program = c.args.program.now in
    let index = (g.S.Store.storage c.args.store.now).index in
    let count = statics_count program (g.S.Store.storage c.make_room.new.self).index c.make_room.new.roots.roots
    (c.make_room.ensures.collected.roots ∙ ap (λ (held : Limited). read_roots index held.roots) c.ready.ensures ∙ empty_read program index) in
    omega (arith, count)

pub returns-in_err-make_room-clause-refused : goal.returns-in_err-make_room-clause-refused
returns-in_err-make_room-clause-refused g c =
    let machine = machine_of c.args.program.now c.args.roots.now.limit in
    let known = (g.S.Store.storage c.args.store.now).facts in
    let facts = (g.S.Store.storage c.make_room.new.self).facts in
    let reason = c.in_err-make_room.field-0.0 in
    handed_on (λ (reason : NoRoom). RefusesStart g.S.Store.rules machine c.args.given.now known reason facts) c.from_residual.result reason c.from_residual.ensures
    (record {
      refused = ruled_so g.S.Store.rules machine known c.args.given.now (g.S.Store.storage c.args.store.now).index (g.S.Store.storage c.args.store.now).kept
          (g.S.Store.storage c.make_room.new.self).kept c.ready.new.roots.roots c.ask.new.request (Err reason) facts c.requires.empty
          (ap (λ (held : Limited). held.roots) c.ready.ensures) c.ask.ensures c.make_room.ensures.collected.count c.in_err-make_room.ensures.ruled;
    })

pub returns-in_err-make_room-clause-nothing : goal.returns-in_err-make_room-clause-nothing
returns-in_err-make_room-clause-nothing g c =
    let left = (g.S.Store.storage c.make_room.new.self).kept in
    handed_on (λ (reason : NoRoom). left ≡ []) c.from_residual.result c.in_err-make_room.field-0.0 c.from_residual.ensures
    (none_left left (c.make_room.ensures.collected.count ∙ ap (λ (kept : List (Option Object)). length kept) c.requires.empty))

pub returns-in_err-make_room-clause-counted : goal.returns-in_err-make_room-clause-counted
returns-in_err-make_room-clause-counted g c =
    subst (λ (result : Result (Unit {0}) NoRoom). CountsFaults (g.S.Store.storage c.args.store.now).faults (g.S.Store.storage c.make_room.new.self).faults (IsFault result))
    (sym (handed_same c.from_residual.result c.in_err-make_room.field-0.0 c.from_residual.ensures)) c.in_err-make_room.ensures.counted

pub returns-clause-counted : goal.returns-clause-counted
returns-clause-counted g c =
    subst (λ (now : ℕ). CountsFaults (g.S.Store.storage c.args.store.now).faults now (IsFault (Ok tt))) (sym c.place_first-first.ensures.faults) c.in_ok-make_room.ensures.counted

pub returns-clause-begun : goal.returns-clause-begun
returns-clause-begun g c = λ input.
    let program = c.args.program.now in
    let machine = machine_of program c.args.roots.now.limit in
    let index = (g.S.Store.storage c.args.store.now).index in
    let may = c.linked_programs_start.ensures program (g.S.Store.storage c.args.store.now).settings.shapes c.requires.linked c.requires.fits c.requires.shaped in
    let rules = g.S.Store.rules in
    let known = (g.S.Store.storage c.args.store.now).facts in
    let middle = (g.S.Store.storage c.make_room.new.self).facts in
    let moment = moment_of (view_in (g.S.Store.storage c.place_first-first.new.store) c.settle.new.roots.roots) (unread input)
    (g.S.Store.storage c.place_first-first.new.store).facts in
    begins_with rules machine known c.args.given.now (g.S.Store.storage c.args.store.now).settings.shapes may input middle moment
    (ruled_so rules machine known c.args.given.now index (g.S.Store.storage c.args.store.now).kept (g.S.Store.storage c.make_room.new.self).kept c.ready.new.roots.roots
    c.ask.new.request (Ok tt) middle c.requires.empty (ap (λ (held : Limited). held.roots) c.ready.ensures) c.ask.ensures c.make_room.ensures.collected.count
    c.in_ok-make_room.ensures.ruled input)
    (state_so program (g.S.Store.storage c.make_room.new.self).index (g.S.Store.storage c.place_first-first.new.store).index c.make_room.new.roots.roots
    (c.make_room.ensures.collected.roots ∙ ap (λ (held : Limited). read_roots index held.roots) c.ready.ensures ∙ empty_read program index)
    c.place_first-first.ensures.places 1 (2 * length c.args.given.now + 2) (2 * length c.args.given.now + 3) c.place_first-first.result.array
    c.place_first-first.result.out c.place_first-first.result.input c.place_first-first.ensures.array c.place_first-first.ensures.out
    c.place_first-first.ensures.input (g.S.Store.storage c.place_first-first.new.store).kept (first_objects program c.args.given.now) c.settle.new.roots.roots input
    (ap (λ (held : Limited). held.roots) c.settle.ensures) c.place_first-first.ensures.kept)
    c.place_first-first.ensures.facts
