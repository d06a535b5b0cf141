-- Objects by the shapes of their kinds.
use Rattle.std.specs.Prelude.{ℕ, ◌==◌, Bool, true, false, List, [], Option, Some, None, length, map, replicate, slice_get}
use Rattle.cb_plain.specs.declared.shape.Shape.{Shape}
use Rattle.cb_plain.specs.declared.shape.Shape.TheVariants as shapes
use Rattle.cb_plain.specs.State.{Content, Object, blank}

-- whether objects of a kind may have so many words of contents: its own number, or any where it is an array's
abbrev may_have : ℕ → Option Shape → Bool
may_have size None = false
may_have size (Some (shapes.Fields marks)) = length marks == size
may_have size (Some (shapes.Elements mark)) = true

abbrev pub has_size : List Shape → ℕ → ℕ → Bool
has_size all kind size = may_have size (slice_get all kind)

-- a new object
abbrev blank_words : ℕ → Option Shape → List Content
blank_words size None = []
blank_words size (Some (shapes.Fields marks)) = map blank marks
blank_words size (Some (shapes.Elements mark)) = replicate size (blank mark)

abbrev pub new_object : List Shape → (site kind size : ℕ) → Object
new_object all site kind size = record { site = site; kind = kind; contents = blank_words size (slice_get all kind) }
