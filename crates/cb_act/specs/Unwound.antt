-- What a pending exception leaves of the roots (JVMS §2.10).
use Rattle.std.specs.Prelude.{ℕ}
use Rattle.cb_frames.specs.Tops.{cleared, placed, pushed}
use Rattle.cb_plain.specs.Roots.{with_pending}
use Rattle.cb_plain.specs.State.{Roots}
use Rattle.cb_plain.specs.declared.value.Value.TheVariants.{Ref}

-- a handler at a place of the topmost method takes it: it stands alone on the stack
abbrev pub caught : ℕ → Roots → Roots
caught pc roots = with_pending (placed (pushed (cleared roots) (Ref roots.pending)) pc) 0
