use Rattle.std.proofs.Common.{◌≡◌, ◌++◌, map, take}
use Rattle.cb_link.specs.Numbers.{texts_in}
use Rattle.cb_link.proofs.ranked.push_method_texts.Given as goal

abbrev pub invariant-loop-method : goal.invariant-loop-method
invariant-loop-method l = l.texts ≡ l.initial.texts ++ map (λ method. texts_in l.pool method.name method.descriptor) (take l.method-index l.methods)
