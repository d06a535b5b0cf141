-- What computations take from the operand stack and give (JVMS §6.5, constants, arithmetic, conversions and lcmp).
use Rattle.std.specs.Prelude.{ℤ, pos, List, [], ◌∷◌, Option, Some, None}
use Rattle.std.specs.Int.{w32, int_wrap}
use Rattle.cb_arith.specs.declared.int.IntOp.TheVariants as ints
use Rattle.cb_arith.specs.declared.long.LongOp.TheVariants as longs
use Rattle.cb_arith.specs.Ints.{int_op}
use Rattle.cb_arith.specs.Longs.{long_op}
use Rattle.cb_arith.specs.Narrowing.{narrow}
use Rattle.cb_arith.specs.Order.{compare}
use Rattle.cb_arith.specs.Shifts.{long_shift}
use Rattle.cb_shapes.specs.declared.computation.Computation.{Computation}
use Rattle.cb_shapes.specs.declared.computation.Computation.TheVariants.{Nothing, IntConstant, LongConstant, OfInts, OfLongs, ShiftLong, NegateInt, NegateLong, IntToLong, LongToInt, MakeNarrow, CompareLongs}
use Rattle.cb_shapes.specs.declared.sort.Sort.{Sort}
use Rattle.cb_shapes.specs.declared.sort.Sort.TheVariants.{Int, Long}

-- the sorts of what is taken, the topmost first
abbrev pub takes : Computation → List Sort
takes Nothing = []
takes (IntConstant number) = []
takes (LongConstant number) = []
takes (OfInts op) = Int ∷ Int ∷ []
takes (OfLongs op) = Long ∷ Long ∷ []
takes (ShiftLong op) = Int ∷ Long ∷ []
takes NegateInt = Int ∷ []
takes NegateLong = Long ∷ []
takes IntToLong = Int ∷ []
takes LongToInt = Long ∷ []
takes (MakeNarrow to) = Int ∷ []
takes CompareLongs = Long ∷ Long ∷ []

-- and of what is given, which is one number at most
abbrev pub gives : Computation → Option Sort
gives Nothing = None
gives (IntConstant number) = Some Int
gives (LongConstant number) = Some Long
gives (OfInts op) = Some Int
gives (OfLongs op) = Some Long
gives (ShiftLong op) = Some Long
gives NegateInt = Some Int
gives NegateLong = Some Long
gives IntToLong = Some Long
gives LongToInt = Some Int
gives (MakeNarrow to) = Some Int
gives CompareLongs = Some Int

-- what comes of the numbers that are taken, the topmost first. ByZero: it would divide by zero
pub data Computed : Type 0 where
  Gives : List ℤ → Computed
  ByZero : Computed

abbrev or_by_zero : Option ℤ → Computed
or_by_zero None = ByZero
or_by_zero (Some number) = Gives (number ∷ [])

abbrev pub computed : Computation → List ℤ → Option Computed
computed Nothing [] = Some (Gives [])
computed (IntConstant number) [] = Some (Gives (number ∷ []))
computed (LongConstant number) [] = Some (Gives (number ∷ []))
computed (OfInts op) (b ∷ a ∷ []) = Some (or_by_zero (int_op op a b))
computed (OfLongs op) (b ∷ a ∷ []) = Some (or_by_zero (long_op op a b))
computed (ShiftLong op) (by ∷ a ∷ []) = Some (Gives (long_shift op a by ∷ []))
computed NegateInt (a ∷ []) = Some (or_by_zero (int_op ints.Sub (pos 0) a))
computed NegateLong (a ∷ []) = Some (or_by_zero (long_op longs.Sub (pos 0) a))
computed IntToLong (a ∷ []) = Some (Gives (a ∷ []))
computed LongToInt (a ∷ []) = Some (Gives (int_wrap w32 a ∷ []))
computed (MakeNarrow to) (a ∷ []) = Some (Gives (narrow to a ∷ []))
computed CompareLongs (b ∷ a ∷ []) = Some (Gives (compare a b ∷ []))
computed other numbers = None
