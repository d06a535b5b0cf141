use Rattle.std.proofs.Common.{arith, length, ◌-◌, refl, true}
use Rattle.cb_names.specs.Names.{IsClassName}
use Rattle.cb_names.proofs.ClassNames.{behind_beyond, no_semicolon, seen_none, seen_more, seen_wrong, seen_whole}
use Rattle.cb_names.proofs.KindsOfNames.{NoSlash, is_method, is_unqualified, more_angled, more_parted, no_angle_beyond, no_kind, no_slash_beyond, none_left, none_more, same_found}
use Rattle.cb_names.proofs.name.name_kinds.Goals as goal
use Rattle.cb_names.proofs.name.name_kinds.Goals.{then-unit-gt-BRACKET, else-unit-gt-BRACKET+in-Some}

pub loop-unit-init : goal.loop-unit-init
loop-unit-init c = record { seen = λ back. seen_none back; parted = (λ _. tt, λ _. refl); angled = (λ _. tt, λ _. refl) }

pub returns : goal.returns
returns c =
    let some = c.in-len1-up.len_at_least in
    let no_class : IsClassName c.args.text.now → ⊥ = no_semicolon _ (length c.args.text.now - 1) (omega arith) c.if-last-eq-SEMICOLON.true in
    let none = no_kind _ no_class in
    record { unqualified = none.0; method = none.1; class = none.2 }

pub returns-in-None : goal.returns-in-None
returns-in-None c =
    let no_class : IsClassName c.args.text.now → ⊥ = seen_wrong _ _ _ c.loop-unit.invariant.seen c.loop-unit-test.true c.in-None.ensures in
    let none = no_kind _ no_class in
    record { unqualified = none.0; method = none.1; class = none.2 }

pub loop-unit-preserved : goal.loop-unit-preserved
loop-unit-preserved c = elim c.if-unit-gt-BRACKET.branch [
  | then-unit-gt-BRACKET w ↦ record {
    seen = rw w.begun-is (seen_more c.args.text.now c.loop-unit.begun true c.loop-unit.unit-index c.loop-unit.invariant.seen c.loop-unit-test.true (behind_beyond c.loop-unit.begun _ w.if-unit-gt-BRACKET.true));
    parted = rw w.parted-is (none_more NoSlash c.args.text.now c.loop-unit.unit-index c.loop-unit.parted c.loop-unit.parted c.loop-unit-test.true c.loop-unit.invariant.parted (same_found _ c.loop-unit.parted (no_slash_beyond _ w.if-unit-gt-BRACKET.true)));
    angled = rw w.angled-is (none_more _ c.args.text.now c.loop-unit.unit-index c.loop-unit.angled c.loop-unit.angled c.loop-unit-test.true c.loop-unit.invariant.angled (same_found _ c.loop-unit.angled (no_angle_beyond _ w.if-unit-gt-BRACKET.true)));
  }
  | else-unit-gt-BRACKET+in-Some w ↦ record {
    seen = rw w.begun-is (seen_more c.args.text.now c.loop-unit.begun w.in-Some.after c.loop-unit.unit-index c.loop-unit.invariant.seen c.loop-unit-test.true w.in-Some.ensures);
    parted = rw w.parted-is (none_more NoSlash c.args.text.now c.loop-unit.unit-index c.loop-unit.parted _ c.loop-unit-test.true c.loop-unit.invariant.parted (more_parted c.loop-unit.parted _));
    angled = rw w.angled-is (none_more _ c.args.text.now c.loop-unit.unit-index c.loop-unit.angled _ c.loop-unit-test.true c.loop-unit.invariant.angled (more_angled c.loop-unit.angled w.is_angle-angled.result _ w.is_angle-angled.ensures));
  }
]

pub returns-2 : goal.returns-2
returns-2 c =
    let class = seen_whole c.args.text.now c.loop-unit.begun _ c.loop-unit.invariant.seen c.loop-unit-test.false in
    let unqualified = is_unqualified c.args.text.now c.loop-unit.begun c.loop-unit.parted class (none_left NoSlash _ _ c.loop-unit.parted c.loop-unit-test.false c.loop-unit.invariant.parted) in
    record {
      unqualified = unqualified;
      method = is_method c.args.text.now _ c.loop-unit.angled _ unqualified (none_left _ _ _ c.loop-unit.angled c.loop-unit-test.false c.loop-unit.invariant.angled) c.angles_may_stand.ensures;
      class = class;
    }
