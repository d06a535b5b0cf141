use Rattle.cb_heap.specs.Storage.{view_in}
use Rattle.std.proofs.Common.{◌≡◌, ◌∙◌, ◌+◌, ◌^◌, ◌<◌, ap, ap₂, rules, sym, subst, length, true, ℕ, Some}
use Rattle.std.specs.Prelude.{IfErr, IsErrOf, OnOk}
use Rattle.cb_frames.specs.Limited.{Limited}
use Rattle.cb_heap.specs.Reading.{View, seen}
use Rattle.cb_io.specs.Faults.{CountsFaults}
use Rattle.cb_link.specs.Calls.{IsOneOf}
use Rattle.cb_link.specs.Decoding.{decoded}
use Rattle.cb_machine.specs.Steps.{plan}
use Rattle.cb_safety.specs.States.{IsTypedState}
use Rattle.cb_act.specs.Acting.{Asks, acted}
use Rattle.cb_act.specs.Coming.{MayCome}
use Rattle.cb_act.specs.Here.{Here, need_plan}
use Rattle.cb_interp.specs.Reading.{LosesBy}
use Rattle.cb_interp.specs.Running.{Advanced, MayRun, SaysBy, TurnStops}
use Rattle.cb_act.specs.Turning.{Moment, machine_of, moment_of, most_at_once, state_of}
use Rattle.cb_heap.specs.declared.no_room.NoRoom.TheVariants as rooms
use Rattle.cb_interp.specs.declared.stop.Stop.TheVariants as stops
use Rattle.cb_interp.proofs.LinkedFew.{few_parameters}
use Rattle.cb_interp.proofs.LinkedMarks.{marks_natives}
use Rattle.cb_interp.proofs.RunHere.{decoded_here, here_at, runs_special}
use Rattle.cb_interp.proofs.RunTurns.{whole_advance}
use Rattle.cb_interp.proofs.RunTyped.{may_run_on}
use Rattle.cb_interp.proofs.turn.method_turn.Goals as goal

pub act_turn-requires : goal.act_turn-requires
act_turn-requires g c κs within =
    let program = c.args.program.now in
    let limit = c.args.roots.now.limit in
    let found : Some c.in-Some.decoded.now ≡ decoded program c.args.method c.args.pc = c.in-Some.ensures.found in
    let here = here_at program limit (g.S.Store.storage c.args.store.now).index (g.S.Store.storage c.args.store.now).kept c.args.roots.now.roots g.outside c.args.method c.args.pc c.in-Some.decoded.now
    c.requires.1.1.1.1.0 c.requires.1.1.1.1.1 found in
    let selected = subst (IsOneOf (length program.methods)) (sym (runs_special program limit (g.S.Store.storage c.args.store.now).index (g.S.Store.storage c.args.store.now).kept c.args.roots.now.roots g.outside
    c.args.method c.args.pc c.in-Some.decoded.now found)) (c.linked_selects.ensures program c.args.method c.args.pc c.requires.1.1.1.0.linked) in (
      search rules,
      (
        here,
        (
          c.requires.1.1.1.0.linked,
          (
            c.requires.1.1.1.0.fits,
            (
              c.requires.1.1.1.0.typed,
              (
                c.requires.1.1.1.0.follows,
                (
                  c.in-Some.ensures.within,
                  (selected, (marks_natives program c.requires.1.1.1.0.linked, few_parameters program c.requires.1.1.1.0.linked)),
                ),
              ),
            ),
          ),
        ),
      ),
    )

pub needed_turn-requires : goal.needed_turn-requires
needed_turn-requires g c κs within =
    let program = c.args.program.now in
    let limit = c.args.roots.now.limit in
    let view = view_in (g.S.Store.storage c.args.store.now) c.args.roots.now.roots in
    let later = view_in (g.S.Store.storage c.act_turn.new.store) c.act_turn.new.roots.roots in
    let same : later ≡ view =
    ap (λ index. seen index (g.S.Store.storage c.act_turn.new.store).kept c.act_turn.new.roots.roots) c.in-Err.ensures.places
    ∙ ap (λ kept. seen (g.S.Store.storage c.args.store.now).index kept c.act_turn.new.roots.roots) c.in-Err.ensures.held
    ∙ ap (λ (limited : Limited). view_in (g.S.Store.storage c.args.store.now) limited.roots) c.in-Err.ensures.same in
    let found : Some c.in-Some.decoded.now ≡ decoded program c.args.method c.args.pc = c.in-Some.ensures.found in
    let here = here_at program limit (g.S.Store.storage c.args.store.now).index (g.S.Store.storage c.args.store.now).kept c.args.roots.now.roots g.outside c.args.method c.args.pc c.in-Some.decoded.now
    c.requires.1.1.1.1.0 c.requires.1.1.1.1.1 found in (
      search rules,
      (
        search rules,
        (
          search rules,
          (
            subst (λ (limit : ℕ). MayRun g.S.Store.rules.fixed (machine_of program limit) (g.S.Store.storage c.act_turn.new.store).settings (state_of later g.outside)) (sym c.act_turn.ensures.limit)
                (may_run_on g.S.Store.rules.fixed (machine_of program limit) c.requires.1.1.1.0 c.act_turn.ensures.settings
                (subst (λ (view : View). MayCome (machine_of program limit) (state_of (view_in (g.S.Store.storage c.args.store.now) c.args.roots.now.roots) g.outside) (state_of view g.outside)) (sym same) MayCome.Here)
                (subst (λ (view : View). IsTypedState program (state_of view g.outside)) (sym same) c.requires.1.1.1.0.typed)
                (subst (λ (view : View). g.S.Store.rules.fixed ≡ true → length view.objects + most_at_once < 2 ^ 63) (sym same) c.requires.1.1.1.0.few)),
            (
              (subst (λ limit. Here (machine_of program limit) (state_of later g.outside) c.in-Some.decoded.now) (sym c.act_turn.ensures.limit)
                  (subst (λ view. Here (machine_of program limit) (state_of view g.outside) c.in-Some.decoded.now) (sym same) here)),
              (
                (subst (λ limit. acted program limit c.in-Some.decoded.now later ≡ Some (Asks c.in-Err.need)) (sym c.act_turn.ensures.limit)
                    (subst (λ view. acted program limit c.in-Some.decoded.now view ≡ Some (Asks c.in-Err.need)) (sym same) c.in-Err.ensures.asked)),
                (subst (λ limit. plan (machine_of program limit) (state_of later g.outside) ≡ need_plan (machine_of program limit) (state_of later g.outside) c.in-Err.need) (sym c.act_turn.ensures.limit)
                    (subst (λ view. plan (machine_of program limit) (state_of view g.outside) ≡ need_plan (machine_of program limit) (state_of view g.outside) c.in-Err.need) (sym same) c.in-Err.ensures.needs)),
              ),
            ),
          ),
        ),
      ),
    )

pub returns-in-Ok : goal.returns-in-Ok
returns-in-Ok g c = record {
  made = whole_advance g.S.Store.rules (machine_of c.args.program.now c.args.roots.now.limit) g.outside
      (view_in (g.S.Store.storage c.args.store.now) c.args.roots.now.roots) (view_in (g.S.Store.storage c.act_turn.new.store) c.act_turn.new.roots.roots)
      (g.S.Store.storage c.args.store.now).facts (g.S.Store.storage c.act_turn.new.store).facts (g.O.Sink.taken c.args.out.now) g.I.Source.left g.I.Source.gave c.args.input.now
      c.in-Ok.ensures.made;
  stopped = tt;
  left = tt;
  lost = tt;
  counted = search rules;
  output = search rules;
  read = search rules;
  limit = c.act_turn.ensures.limit;
  settings = c.act_turn.ensures.settings;
}

pub returns-in-Err : goal.returns-in-Err
returns-in-Err g c =
    let program = c.args.program.now in
    let limit = c.args.roots.now.limit in
    let view = view_in (g.S.Store.storage c.args.store.now) c.args.roots.now.roots in
    let later = view_in (g.S.Store.storage c.act_turn.new.store) c.act_turn.new.roots.roots in
    let same : later ≡ view =
    ap (λ index. seen index (g.S.Store.storage c.act_turn.new.store).kept c.act_turn.new.roots.roots) c.in-Err.ensures.places
    ∙ ap (λ kept. seen (g.S.Store.storage c.args.store.now).index kept c.act_turn.new.roots.roots) c.in-Err.ensures.held
    ∙ ap (λ (limited : Limited). view_in (g.S.Store.storage c.args.store.now) limited.roots) c.in-Err.ensures.same in
    let behind = view_in (g.S.Store.storage c.needed_turn.new.store) c.needed_turn.new.roots.roots in
    let after = moment_of behind g.outside (g.S.Store.storage c.needed_turn.new.store).facts in
    let facts = (g.S.Store.storage c.needed_turn.new.store).facts in
    let taken = g.O.Sink.taken c.args.out.now in
    let takes = g.O.Sink.taken c.needed_turn.new.out in
    let source = c.args.input.now in
    let last = c.needed_turn.new.input in
    record {
      made = subst (λ facts_before. OnOk c.needed_turn.result (Advanced g.I.Source.left g.I.Source.gave g.S.Store.rules (machine_of program limit) g.outside view behind facts_before facts taken takes source last)) c.in-Err.ensures.facts
          (subst (λ view. OnOk c.needed_turn.result (Advanced g.I.Source.left g.I.Source.gave g.S.Store.rules (machine_of program limit) g.outside view behind (g.S.Store.storage c.act_turn.new.store).facts facts taken takes source last)) same
          (subst (λ limit. OnOk c.needed_turn.result (Advanced g.I.Source.left g.I.Source.gave g.S.Store.rules (machine_of program limit) g.outside later behind (g.S.Store.storage c.act_turn.new.store).facts facts taken takes source last))
          c.act_turn.ensures.limit c.needed_turn.ensures.made));
      stopped = subst (λ (moment : Moment g.S.Store.Facts). IfErr c.needed_turn.result (λ stop. TurnStops g.S.Store.rules (machine_of program limit) stop moment after))
          (ap₂ (λ (view : View) facts. moment_of view g.outside facts) same c.in-Err.ensures.facts)
          (subst (λ limit. IfErr c.needed_turn.result (λ stop. TurnStops g.S.Store.rules (machine_of program limit) stop (moment_of later g.outside (g.S.Store.storage c.act_turn.new.store).facts) after))
          c.act_turn.ensures.limit c.needed_turn.ensures.stopped);
      left = subst (λ view. IfErr c.needed_turn.result (λ stop. SaysBy (machine_of program limit) (state_of view g.outside) stop taken takes)) same
          (subst (λ limit. IfErr c.needed_turn.result (λ stop. SaysBy (machine_of program limit) (state_of later g.outside) stop taken takes)) c.act_turn.ensures.limit c.needed_turn.ensures.left);
      lost = subst (λ view. IfErr c.needed_turn.result (λ stop. LosesBy g.I.Source.left g.I.Source.gave (machine_of program limit) (state_of view g.outside) stop source last)) same
          (subst (λ limit. IfErr c.needed_turn.result (λ stop. LosesBy g.I.Source.left g.I.Source.gave (machine_of program limit) (state_of later g.outside) stop source last)) c.act_turn.ensures.limit c.needed_turn.ensures.lost);
      counted = subst (λ count. CountsFaults count (g.S.Store.storage c.needed_turn.new.store).faults (IsErrOf c.needed_turn.result (stops.NoRoom rooms.ReportFault))) c.act_turn.ensures.faults
          c.needed_turn.ensures.counted;
      output = c.needed_turn.ensures.output;
      read = c.needed_turn.ensures.read;
      limit = c.needed_turn.ensures.limit ∙ c.act_turn.ensures.limit;
      settings = c.needed_turn.ensures.settings ∙ c.act_turn.ensures.settings;
    }

pub unreachable-requires : goal.unreachable-requires
unreachable-requires g c =
    let program = c.args.program.now in
    decoded_here program c.args.roots.now.limit (g.S.Store.storage c.args.store.now).index (g.S.Store.storage c.args.store.now).kept c.args.roots.now.roots g.outside c.args.method c.args.pc
    c.requires.1.1.1.0.linked c.requires.1.1.1.0.fits c.requires.1.1.1.0.typed c.requires.1.1.1.1.0 c.requires.1.1.1.1.1 c.in_default.ensures.found
