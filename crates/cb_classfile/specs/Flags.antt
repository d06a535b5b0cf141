-- Access flags that rules speak of (JVMS §4.1, §4.5, §4.6).
use Rattle.std.specs.Prelude.{◌≡◌, ℕ, bit_and}

abbrev pub acc_static : ℕ
acc_static = 0x0008

abbrev pub acc_synchronized : ℕ
acc_synchronized = 0x0020

abbrev pub acc_native : ℕ
acc_native = 0x0100

abbrev pub acc_interface : ℕ
acc_interface = 0x0200

abbrev pub acc_abstract : ℕ
acc_abstract = 0x0400

abbrev pub HasFlag : ℕ → ℕ → Type 0
HasFlag flags flag = bit_and flags flag ≡ flag
