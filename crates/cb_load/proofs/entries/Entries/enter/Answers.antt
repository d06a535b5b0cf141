use Rattle.std.proofs.Common.{◌≡◌, refl, sym, subst, true, false}
use Rattle.cb_load.specs.Inner.{entered}
use Rattle.cb_load.proofs.EnteredKeys.{free_of, kept_by}
use Rattle.cb_load.proofs.entries.Entries.enter.Goals as goal

pub returns-then-has : goal.returns-then-has
returns-then-has c = subst (λ name. c.args.self.now ≡ entered c.args.self.now (record { name = name; needed = c.args.needed })) c.in_ok-name.ensures (kept_by c.in_ok-name.name.items c.args.needed c.args.self.now true _ c.if-has.ensures refl refl)

pub returns-then-has-2 : goal.returns-then-has-2
returns-then-has-2 c = subst (λ name. c.args.self.now ≡ entered c.args.self.now (record { name = name; needed = c.args.needed })) c.in_ok-name.ensures (kept_by c.in_ok-name.name.items c.args.needed c.args.self.now false true c.if-has.ensures c.if-has-2.ensures refl)

pub add-requires : goal.add-requires
add-requires c = free_of c.in_ok-name.name.items c.args.needed c.args.self.now (sym c.if-has.ensures) (sym c.if-has-2.ensures)
