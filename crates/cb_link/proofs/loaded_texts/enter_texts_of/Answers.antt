use Rattle.cb_classfile.specs.declared.method.Method.{Method}
use Rattle.cb_link.specs.Making.{body_texts, field_texts_of}
use Rattle.cb_link.proofs.KindedParts.{then_items}
use Rattle.cb_link.proofs.loaded_texts.enter_texts_of.Goals as goal

pub returns : goal.returns
returns c =
    let class = c.args.class.now in
    then_items (field_texts_of class.pool) (λ (method : Method). body_texts class.pool method.body) c.as_slice.result.now class.fields c.as_slice-2.result.now class.methods
    c.args.texts.now c.enter_each.new.texts c.enter_each-2.new.texts c.as_slice.ensures c.as_slice-2.ensures c.in_ok-enter_each.ensures c.in_ok-enter_each-2.ensures
