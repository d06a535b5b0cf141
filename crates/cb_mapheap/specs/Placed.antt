-- What contracts see of the store.
use Rattle.std.specs.Prelude.{List}
use Rattle.cb_plain.specs.declared.shape.Shape.{Shape}
use Rattle.cb_plain.specs.declared.want.Want.{Want}
use Rattle.cb_plain.specs.State.{Object}

-- the shapes of the objects of each kind, all objects that were placed, by serial from 1 on, and the room that is left
pub record Placed : Type 0 where
  pub shapes : List Shape
  pub objects : List Object
  pub granted : List Want
