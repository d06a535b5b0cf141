use Rattle.std.proofs.Common.{◌∙◌, ap, sym}
use Rattle.cb_flow.specs.Networks.{Network}
use Rattle.cb_chooser.proofs.Chosen.{chosen_best, chosen_shown}
use Rattle.cb_chooser.proofs.chooser.Chooser.choose.Goals as goal

pub returns-clause-best : goal.returns-clause-best
returns-clause-best c =
    chosen_best c.args.gains.now c.solve_uncounted.new.network.gains c.solve_uncounted.new.network.edges c.solve_uncounted.new.network.flow c.copy_reached.new.set c.solve_uncounted.new.network.reached
    c.solve_uncounted.new.network.parts (c.solve_uncounted.ensures.gains ∙ c.load.ensures.gains) c.copy_reached.ensures
    (c.requires.gains.each ∙ sym (c.solve_uncounted.ensures.parts ∙ c.load.ensures.parts ∙ ap (λ (n : Network). n.parts) c.self.view_is))
    c.solve_uncounted.ensures.within c.solve_uncounted.ensures.is_flow c.solve_uncounted.ensures.each c.solve_uncounted.ensures.reached c.solve_uncounted.ensures.cut_off

pub returns-clause-certificate : goal.returns-clause-certificate
returns-clause-certificate c =
    chosen_shown c.args.gains.now c.solve_uncounted.new.network.gains c.solve_uncounted.new.network.edges c.solve_uncounted.new.network.flow c.copy_reached.new.set c.solve_uncounted.new.network.reached
    c.solve_uncounted.new.network.parts (c.solve_uncounted.ensures.gains ∙ c.load.ensures.gains) c.copy_reached.ensures
    (c.requires.gains.each ∙ sym (c.solve_uncounted.ensures.parts ∙ c.load.ensures.parts ∙ ap (λ (n : Network). n.parts) c.self.view_is))
    c.solve_uncounted.ensures.within c.solve_uncounted.ensures.is_flow c.solve_uncounted.ensures.each c.solve_uncounted.ensures.reached c.solve_uncounted.ensures.cut_off
