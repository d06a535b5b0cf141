-- Longs compared (JVMS §6.5, lcmp).
use Rattle.std.specs.Prelude.{ℤ, pos, neg_ℤ, int_lt, if◌then◌else◌}

-- -1 where the first is less, 0 where they are the same, 1 where it is greater
abbrev pub compare : ℤ → ℤ → ℤ
compare a b = if int_lt a b then neg_ℤ (pos 1) else if int_lt b a then pos 1 else pos 0
