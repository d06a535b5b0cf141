use Rattle.std.proofs.Common.{◌∙◌, [], ◌∷◌, ap}
use Rattle.std.proofs.Math.Seq.{take_all}
use Rattle.std.specs.List.{flat_map}
use Rattle.cb_kinds.specs.Texts.{entered_all}
use Rattle.cb_link.specs.Making.{class_texts, divide_text}
use Rattle.cb_link.proofs.KindedParts.{all_firsts, then_item}
use Rattle.cb_link.proofs.kinds.constants_of.Goals as goal

pub loop-class-preserved : goal.loop-class-preserved
loop-class-preserved c =
    then_item class_texts c.args.classes.now c.loop-class.class-index c.class-item.result c.in_ok-texts.texts c.loop-class.texts c.enter_texts_of.new.texts
    c.loop-class-test.true c.class-item.is c.loop-class.invariant c.in_ok-enter_texts_of.ensures

pub returns : goal.returns
returns c =
    let classes = c.args.classes.now in
    all_firsts (divide_text ∷ []) (flat_map class_texts classes) c.in_ok-texts.texts c.loop-class.texts c.in_ok-texts.ensures
    (c.loop-class.invariant ∙ ap (λ classes. entered_all c.in_ok-texts.texts (flat_map class_texts classes)) (take_all c.loop-class.class-index classes c.loop-class-test.false))
