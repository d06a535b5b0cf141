-- What is left where an exception with a message is thrown (JVMS §6.5, idiv; §2.10).
use Rattle.std.specs.Prelude.{ℕ, ◌+◌, [], ◌∷◌, ◌++◌, length, Some}
use Rattle.cb_heap.specs.Reading.{View}
use Rattle.cb_machine.specs.Plans.{object_of}
use Rattle.cb_machine.specs.Throwing.{exception_contents}
use Rattle.cb_plain.specs.Roots.{with_pending}

-- it is placed and becomes pending
abbrev pub thrown_with : (site kind message : ℕ) → View → View
thrown_with site kind message view =
    record { roots = with_pending view.roots (length view.objects + 1); objects = view.objects ++ Some (object_of site kind (exception_contents message 0)) ∷ [] }
