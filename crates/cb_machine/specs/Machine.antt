-- A machine: a linked program with its limit of frames, and the numbers that it looks up in it.
use Rattle.std.specs.Prelude.{ℕ, List, Option, Some, None, option_and_then, slice_get}
use Rattle.cb_classfile.specs.declared.body.Body.{Body}
use Rattle.cb_link.specs.Having.{site_kinds}
use Rattle.cb_link.specs.Program.{Linked}
pub use Rattle.cb_link.specs.Special.{class_declaring, method_numbered}

pub record Machine : Type 0 where
  pub program : Linked
  pub frames : ℕ

-- a number that is there, or 0
abbrev pub or_zero : Option ℕ → ℕ
or_zero None = 0
or_zero (Some number) = number

abbrev pub listed : List ℕ → ℕ → ℕ
listed numbers place = or_zero (slice_get numbers place)

-- the kind of the objects of a site
abbrev pub kind_of_site : Linked → ℕ → ℕ
kind_of_site program site = listed (site_kinds program) site

-- a method's body
abbrev pub body_of : Linked → ℕ → Option Body
body_of program method = option_and_then (λ numbered. numbered.member.body) (method_numbered program method)

-- the machine with another limit of frames
abbrev pub with_limit : Machine → ℕ → Machine
with_limit machine limit = record { program = machine.program; frames = limit }
