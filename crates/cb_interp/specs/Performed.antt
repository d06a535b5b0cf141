-- The native for which an instruction asks.
use Rattle.std.specs.Prelude.{◌≡◌, ℕ, Some}
use Rattle.cb_act.specs.Acting.{Asks, acted}
use Rattle.cb_act.specs.declared.need.Need.TheVariants as needs
use Rattle.cb_heap.specs.Reading.{View}
use Rattle.cb_library.specs.declared.native.Native.{Native}
use Rattle.cb_link.specs.Program.{Linked}
use Rattle.cb_link.specs.declared.decoded.Decoded.{Decoded}
use Rattle.cb_machine.specs.Natives.{native_of}

-- it asks for a method that is this native
pub record AsksNative (program : Linked) (limit : ℕ) (decoded : Decoded) (view : View) (native : Native) : Type 0 where
  pub method : ℕ
  pub asked : acted program limit decoded view ≡ Some (Asks (needs.Performs method))
  pub is : native_of program method ≡ Some native
