-- The parts of settings that are the same.
use Rattle.std.proofs.Common.{◌≡◌, ap}
use Rattle.cb_heap.specs.Storage.{Settings}

pub same_shapes : {one other : Settings} → one ≡ other → one.shapes ≡ other.shapes
same_shapes same = ap (λ (settings : Settings). settings.shapes) same

pub same_knows : {one other : Settings} → one ≡ other → one.knows ≡ other.knows
same_knows same = ap (λ (settings : Settings). settings.knows) same

pub same_allows : {one other : Settings} → one ≡ other → one.allows ≡ other.allows
same_allows same = ap (λ (settings : Settings). settings.allows) same
