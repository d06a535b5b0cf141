-- What a turn that does what an instruction needs looks at: what is answered where there is no room, and of what is made the site, the size,
-- and the place where the instruction goes on (JVMS §6.5, new, newarray, anewarray, and multianewarray of one dimension).
use Rattle.std.specs.Prelude.{◌≡◌, ◌==◌, ◌<◌, ◌≤◌, ◌^◌, ℕ, pos, Bool, true, false, length, Option, None, Some, slice_get}
use Rattle.std.specs.declared.result.Result.{Result}
use Rattle.std.specs.declared.result.Result.TheVariants.{Err, Ok}
use Rattle.cb_frames.specs.Tops.{top_stack, topmost}
use Rattle.cb_frames.specs.declared.frame.Frame.TheVariants as shown
use Rattle.cb_heap.specs.declared.no_room.NoRoom.{NoRoom}
use Rattle.cb_link.specs.Named.{IsSite, made_at}
use Rattle.cb_link.specs.Program.{Linked}
use Rattle.cb_link.specs.Slots.{shape}
use Rattle.cb_link.specs.declared.decoded.Decoded.{Decoded}
use Rattle.cb_machine.specs.Creating.{is_size, site_number}
use Rattle.cb_machine.specs.Machine.{kind_of_site}
use Rattle.cb_plain.specs.State.{Roots}
use Rattle.cb_plain.specs.declared.shape.Shape.{Shape}
use Rattle.cb_plain.specs.declared.shape.Shape.TheVariants as shapes
use Rattle.cb_plain.specs.declared.value.Value.{Value}
use Rattle.cb_plain.specs.declared.value.Value.TheVariants.{Int}
use Rattle.cb_shapes.specs.declared.action.Action.{Action}
use Rattle.cb_shapes.specs.declared.action.Action.TheVariants as actions
use Rattle.cb_interp.specs.declared.need_sites.Making.{Making}
use Rattle.cb_interp.specs.declared.stop.Stop.{Stop}
use Rattle.cb_interp.specs.declared.stop.Stop.TheVariants as stops

-- what is answered by a turn that stops for want of room
abbrev pub stopped : Result (Unit {0}) NoRoom → Result (Unit {0}) Stop
stopped (Ok done) = Ok done
stopped (Err reason) = Err (stops.NoRoom reason)

-- whether an instruction makes an object of a class, or one array
abbrev pub makes_object_by : Option Action → Bool
makes_object_by (Some (actions.New index)) = true
makes_object_by other = false

abbrev pub makes_array_by : Option Action → Bool
makes_array_by (Some (actions.NewNumbers code)) = true
makes_array_by (Some (actions.NewReferences index)) = true
makes_array_by (Some (actions.NewArrays index dimensions)) = dimensions == 1
makes_array_by other = false

-- the instruction at which the topmost frame stands makes objects of so many kinds at least
pub record MakesKinds (program : Linked) (roots : Roots) (count : ℕ) : Type 0 where
  pub method : ℕ
  pub pc : ℕ
  pub top : topmost roots.frames ≡ Some (shown.Running method pc)
  pub all : count ≤ length (made_at program method pc)

-- the site of a dimension of what it makes
pub record IsSiteOf (program : Linked) (roots : Roots) (dimension site : ℕ) : Type 0 where
  pub method : ℕ
  pub pc : ℕ
  pub top : topmost roots.frames ≡ Some (shown.Running method pc)
  pub is : IsSite program method pc dimension site

-- it is the site that the machine finds
abbrev pub TellsDimensions : Linked → Type 0
TellsDimensions program = (method pc dimension site : ℕ) → IsSite program method pc dimension site → site_number program method pc dimension ≡ Some site

-- how many words of contents objects of a class have, and that these are few
abbrev pub fields_count : Shape → ℕ
fields_count (shapes.Fields marks) = length marks
fields_count (shapes.Elements mark) = 0

abbrev pub HasFewFields : Linked → Type 0
HasFewFields program = (kind : ℕ) → fields_count (shape program kind) < 2 ^ 32

-- an object is made of it
pub record IsObjectHere (program : Linked) (roots : Roots) (decoded : Decoded) (making : Making) : Type 0 where
  pub here : IsSiteOf program roots 0 making.site
  pub sized : fields_count (shape program (kind_of_site program making.site)) ≡ making.size
  pub next : decoded.next ≡ Some making.next

-- or an array, of the size that is on top of the stack
abbrev pub holds_size : Option Value → Bool
holds_size None = false
holds_size (Some value) = is_size value

pub record IsArrayHere (program : Linked) (roots : Roots) (decoded : Decoded) (making : Making) : Type 0 where
  pub here : IsSiteOf program roots 0 making.site
  pub sized : slice_get (top_stack roots) 0 ≡ Some (Int (pos making.size))
  pub next : decoded.next ≡ Some making.next
