use Rattle.std.proofs.Common.{◌≡◌, ◌≤◌, take}
use Rattle.cb_link.specs.Numbers.{package_of}
use Rattle.cb_link.proofs.ranked.package_of.Given as goal

abbrev pub invariant-loop-index : goal.invariant-loop-index
invariant-loop-index l = (l.end ≤ l.index) × (take l.end l.name ≡ package_of (take l.index l.name))
