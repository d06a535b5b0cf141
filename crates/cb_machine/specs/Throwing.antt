-- Exceptions of the machine and its natives: an object at the site of its class, which becomes pending. Frames stay as they are.
use Rattle.std.specs.Prelude.{ℕ, List, [], ◌∷◌}
use Rattle.cb_plain.specs.State.{Content, Reference, State}
use Rattle.cb_plain.specs.Updates.{with_pending}
use Rattle.cb_machine.specs.Machine.{Machine, kind_of_site}
use Rattle.cb_machine.specs.Plans.{Plan, leaving, with_left, with_one}

-- what an exception holds: a message, a cause, and what was suppressed, which is nothing at first. These are the fields of Throwable, and
-- the library's exceptions have no more
abbrev pub exception_contents : ℕ → ℕ → List Content
exception_contents message cause = Reference message ∷ Reference cause ∷ Reference 0 ∷ []

abbrev pub throwing_with : Machine → ℕ → ℕ → ℕ → Plan → Plan
throwing_with machine site message cause plan =
    with_left (with_one plan site (kind_of_site machine.program site) (exception_contents message cause)) (with_pending plan.left plan.next)

-- one without message and cause
abbrev pub throwing : Machine → ℕ → Plan → Plan
throwing machine site plan = throwing_with machine site 0 0 plan

-- by an instruction that does nothing else
abbrev pub throws : Machine → State → ℕ → Plan
throws machine state site = throwing machine site (leaving state)
