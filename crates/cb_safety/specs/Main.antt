-- The method with which a program begins (JLS §12.1.4, JVMS §5.2).
use Rattle.std.specs.Prelude.{◌≡◌, true, [], ◌∷◌, Some, None}
use Rattle.cb_kinds.specs.declared.basic.Basic.TheVariants as basics
use Rattle.cb_link.specs.Having.{parameters_at}
use Rattle.cb_link.specs.Program.{Linked}
use Rattle.cb_machine.specs.Machine.{kind_of_site}
use Rattle.cb_machine.specs.Sites.{arguments}
use Rattle.cb_verify.specs.Within.{Within, within}
use Rattle.cb_safety.specs.Frames.{result_at}

-- it has code, is static, takes an array of the kind of that of arguments, and gives nothing
pub record HasMain (program : Linked) : Type 0 where
  pub method : Within
  pub within : within program program.main_method ≡ Some method
  pub is_static : method.is_static ≡ true
  pub takes : parameters_at program program.main_method ≡ basics.Reference (kind_of_site program arguments) ∷ []
  pub gives : result_at program program.main_method ≡ None
