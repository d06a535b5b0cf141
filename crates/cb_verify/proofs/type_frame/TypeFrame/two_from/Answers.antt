use Rattle.cb_verify.proofs.FrameLists.{two_is}
use Rattle.cb_verify.proofs.type_frame.TypeFrame.two_from.Goals as goal

pub returns-then-is_of_category-clause-count : goal.returns-then-is_of_category-clause-count
returns-then-is_of_category-clause-count c =
    two_is c.args.self.now.stack c.args.place c.is_of_category.result c.is_of_category-2.result _ c.is_of_category.ensures.is_of c.if-not-is_of_category.false c.is_of_category-2.ensures.is_of c.if-is_of_category.true

pub returns-else-is_of_category-clause-count : goal.returns-else-is_of_category-clause-count
returns-else-is_of_category-clause-count c =
    two_is c.args.self.now.stack c.args.place c.is_of_category.result c.is_of_category-2.result _ c.is_of_category.ensures.is_of c.if-not-is_of_category.false c.is_of_category-2.ensures.is_of c.if-is_of_category.false
