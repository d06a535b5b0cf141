use Rattle.std.proofs.Common.{◌∙◌, [], ◌++◌, ap, map}
use Rattle.std.proofs.Math.Seq.{take_all}
use Rattle.std.specs.List.{flat_map}
use Rattle.cb_kinds.specs.Kinds.{kinds_of_name}
use Rattle.cb_kinds.specs.Texts.{entered_all}
use Rattle.cb_link.specs.Making.{class_kinds, fixed_kinds}
use Rattle.cb_link.specs.Numbers.{name_of}
use Rattle.cb_link.proofs.KindedParts.{all_firsts, then_item, then_more}
use Rattle.cb_link.proofs.kinds.kinds_of.Goals as goal

pub loop-class-preserved : goal.loop-class-preserved
loop-class-preserved c =
    then_item class_kinds c.args.classes.now c.loop-class.class-index c.class-item.result c.enter_names.new.names c.loop-class.names c.enter_kinds_of.new.kinds
    c.loop-class-test.true c.class-item.is c.loop-class.invariant c.in_ok-enter_kinds_of.ensures

pub returns : goal.returns
returns c =
    let classes = c.args.classes.now in
    let entered =
    then_more [] c.enter_names.new.names c.loop-class.names (map name_of classes) (flat_map class_kinds classes)
    (c.in_ok-enter_names.ensures ∙ ap (λ names. entered_all names (map name_of classes)) c.new-names.ensures)
    (c.loop-class.invariant ∙ ap (λ classes. entered_all c.enter_names.new.names (flat_map class_kinds classes)) (take_all c.loop-class.class-index classes c.loop-class-test.false)) in
    all_firsts (map name_of classes ++ flat_map class_kinds classes) (flat_map kinds_of_name fixed_kinds) c.loop-class.names c.enter_fixed.new.names entered c.in_ok-enter_fixed.ensures
