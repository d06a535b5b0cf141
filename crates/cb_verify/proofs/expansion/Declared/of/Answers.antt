use Rattle.std.proofs.Common.{◌≡◌, ◌∙◌, ap, subst, ◌<◌, ◌≤◌, List, get_or, length}
use Rattle.cb_classfile.specs.declared.frame_map.MapFrame.{MapFrame}
use Rattle.cb_classfile.specs.declared.map_type.MapType.{MapType}
use Rattle.cb_verify.specs.Expansion.{expanded}
use Rattle.cb_verify.specs.Within.{Within}
use Rattle.cb_verify.proofs.Declaring.{declared_all, declared_more, values_of}
use Rattle.cb_verify.proofs.Rising.{declared_rise}
use Rattle.cb_verify.proofs.expansion.Declared.of.Goals as goal

pub loop-frame-preserved : goal.loop-frame-preserved
loop-frame-preserved c =
    declared_more c.args.method.now c.loop-frame.previous c.loop-frame.laid c.in_ok-laid-2.laid c.args.method.now.body.frames c.loop-frame.frame-index c.in_ok-place.place c.frame-item.result
    c.in_ok-expanded.expanded c.loop-frame.frames c.push.new.self (subst (λ (frames : List MapFrame). c.loop-frame.frame-index < length frames) listed c.loop-frame-test.true)
    (c.frame-item.is ∙ ap (λ (frames : List MapFrame). get_or frames c.loop-frame.frame-index c.frame-item.result) listed) c.loop-frame.invariant c.in_ok-place.ensures.place c.in_ok-laid-2.ensures
    (c.in_ok-expanded.ensures ∙ ap (λ (stack : List MapType). expanded c.args.method.now (values_of c.in_ok-laid-2.laid) stack) c.as_slice.ensures) c.in_ok-push.ensures.ok
  where
    listed : c.as_slice-frame-items.result.now ≡ c.args.method.now.body.frames
    listed = c.as_slice-frame-items.ensures ∙ ap (λ (method : Within). method.body.frames) c.method.view_is

pub invariant_of-result : goal.invariant_of-result
invariant_of-result c =
    declared_rise c.args.method.now c.loop-frame.frames
    (declared_all c.args.method.now c.loop-frame.previous c.loop-frame.laid c.args.method.now.body.frames c.loop-frame.frame-index c.loop-frame.frames
    (subst (λ (frames : List MapFrame). length frames ≤ c.loop-frame.frame-index) listed c.loop-frame-test.false) c.loop-frame.invariant)
  where
    listed : c.as_slice-frame-items.result.now ≡ c.args.method.now.body.frames
    listed = c.as_slice-frame-items.ensures ∙ ap (λ (method : Within). method.body.frames) c.method.view_is
