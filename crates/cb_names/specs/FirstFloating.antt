-- The first floating-point type in a list of types.
use Rattle.std.specs.Prelude.{List, [], ◌∷◌, Option, None}
use Rattle.std.specs.Option.{option_or}
use Rattle.cb_names.specs.declared.floating.Floating.{Floating}
use Rattle.cb_names.specs.Descriptors.{floating_in}
use Rattle.cb_names.specs.Types.{JavaType, type_text}

-- that of the first type whose descriptor has one
abbrev pub first_floating : List JavaType → Option Floating
first_floating [] = None
first_floating (type ∷ types) = option_or (floating_in (type_text type)) (first_floating types)
