use Rattle.std.proofs.Common.{◌≡◌, ◌∙◌, ap, arith, length, length-set, map, refl, slice_set}
use Rattle.std.proofs.lemmas.List.{length-map, map-set}
use Rattle.cb_frames.specs.Inner.{blank, wiped}
use Rattle.cb_frames.specs.Slots.{value_of}
use Rattle.cb_frames.proofs.Moved.{wiped_more, wiped_none}
use Rattle.cb_frames.proofs.arguments.wipe.Goals as goal

pub loop-i-init : goal.loop-i-init
loop-i-init c = (wiped_none (map value_of c.args.slots.now) c.args.from, refl)

pub loop-i-preserved : goal.loop-i-preserved
loop-i-preserved c = (
  ap (map value_of) c.set.ensures
      ∙ map-set value_of c.loop-i.slots c.loop-i.i _
      ∙ ap (λ slots. slice_set slots c.loop-i.i blank) c.loop-i.invariant.0
      ∙ wiped_more (map value_of c.args.slots.now) c.args.from c.loop-i.i (omega arith) (omega (arith, length-map c.args.slots.now value_of)),
  ap length c.set.ensures ∙ length-set c.loop-i.slots c.loop-i.i _ ∙ c.loop-i.invariant.1,
)

pub returns-clause-slots : goal.returns-clause-slots
returns-clause-slots c = c.loop-i.invariant.0 ∙ ap (wiped (map value_of c.args.slots.now) c.args.from) (let e : c.loop-i.i ≡ c.args.to = omega arith in e)
