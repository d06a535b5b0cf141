-- The numbers of some classes of the library, which are those of their kinds too.
use Rattle.std.specs.Prelude.{ℕ}

abbrev pub cloneable : ℕ
cloneable = 3

abbrev pub string : ℕ
string = 8

abbrev pub system : ℕ
system = 11

abbrev pub integer : ℕ
integer = 15

abbrev pub long : ℕ
long = 16

abbrev pub character : ℕ
character = 17

abbrev pub boolean : ℕ
boolean = 18

abbrev pub error : ℕ
error = 25

-- the library's classes come first
abbrev pub classes : ℕ
classes = 50
