-- The table of the machine's own sites is that of the definition.
use Rattle.std.proofs.Common.{◌≡◌, refl, map}
use Rattle.cb_link.specs.declared.fixed.TheConstants.{FIXED_KINDS}
use Rattle.cb_link.specs.Making.{fixed_kinds}

pub fixed_table : map (λ name. name.now) FIXED_KINDS ≡ fixed_kinds
fixed_table = refl
