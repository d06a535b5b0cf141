use Rattle.std.proofs.lemmas.Result.{on_ok_weaker}
use Rattle.cb_points_to.proofs.Expanding.{each_expands, has_expands, must_between, must_each, must_has, must_load, must_store, through_expands}
use Rattle.cb_points_to.proofs.expand.expand.Goals as goal

pub returns-in-Has : goal.returns-in-Has
returns-in-Has c =
    on_ok_weaker c.hold.result (has_expands c.args.constraints.now c.args.looked.now c.args.web.now c.hold.new.web c.args.inclusion.now c.args.own c.args.other c.in-Has.node c.in-Has.site c.in-Has.is)
    (c.hold.ensures c.args.constraints.now c.args.looked.now c.requires.web (must_has c.args.constraints.now c.args.looked.now c.args.web.now c.hold.new.web c.args.inclusion.now c.args.own c.args.other c.requires.says c.in-Has.node c.in-Has.site c.in-Has.is))

pub returns-in-HasEach : goal.returns-in-HasEach
returns-in-HasEach c =
    on_ok_weaker c.hold-in-HasEach.result (each_expands c.args.constraints.now c.args.looked.now c.args.web.now c.hold-in-HasEach.new.web c.args.inclusion.now c.args.own c.args.other c.in-HasEach.base c.in-HasEach.slots c.in-HasEach.site c.slot-slot.result c.in-HasEach.is c.slot-slot.ensures)
    (c.hold-in-HasEach.ensures c.args.constraints.now c.args.looked.now c.requires.web (must_each c.args.constraints.now c.args.looked.now c.args.web.now c.hold-in-HasEach.new.web c.args.inclusion.now c.args.own c.args.other c.requires.says c.in-HasEach.base c.in-HasEach.slots c.in-HasEach.site c.slot-slot.result c.in-HasEach.is c.slot-slot.ensures))

pub returns-in-Through : goal.returns-in-Through
returns-in-Through c = on_ok_weaker c.add_edge.result (through_expands c.args.constraints.now c.args.looked.now c.args.web.now c.add_edge.new.self c.args.inclusion.now c.args.own c.args.other c.in-Through.from c.in-Through.to c.in-Through.filter c.in-Through.is) c.add_edge.ensures

pub join-requires-in-Load-clause-links : goal.join-requires-in-Load-clause-links
join-requires-in-Load-clause-links c =
    must_load c.args.constraints.now c.args.looked.now c.args.web.now c.args.web.now c.args.inclusion.now c.args.own c.args.other c.requires.says c.in-Load.base c.in-Load.slots c.in-Load.to c.slot-slot-in-Load.result c.in-Load.is c.slot-slot-in-Load.ensures

pub join-requires-in-Store-clause-links : goal.join-requires-in-Store-clause-links
join-requires-in-Store-clause-links c =
    must_store c.args.constraints.now c.args.looked.now c.args.web.now c.args.web.now c.args.inclusion.now c.args.own c.args.other c.requires.says c.in-Store.from c.in-Store.base c.in-Store.slots c.slot-slot-in-Store.result c.in-Store.is c.slot-slot-in-Store.ensures

pub join-requires-in-Between-clause-links : goal.join-requires-in-Between-clause-links
join-requires-in-Between-clause-links c =
    must_between c.args.constraints.now c.args.looked.now c.args.web.now c.args.web.now c.args.inclusion.now c.args.own c.args.other c.requires.says c.in-Between.source c.in-Between.target c.in-Between.slots c.slot-slot-in-Between.result c.slot-behind.result c.in-Between.is c.slot-slot-in-Between.ensures c.slot-behind.ensures
