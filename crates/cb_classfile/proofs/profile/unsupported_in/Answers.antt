use Rattle.std.proofs.Common.{map, ◌++◌}
use Rattle.cb_classfile.specs.Profile.{constant_item, descriptor_item_at, method_item}
use Rattle.cb_classfile.proofs.First.{first_before, first_behind}
use Rattle.cb_classfile.proofs.profile.unsupported_in.Goals as goal

pub returns-in-Some : goal.returns-in-Some
returns-in-Some c =
    let pool = c.args.constants.now in
    rw c.requires (first_before (map (constant_item pool) pool) (map (λ field. descriptor_item_at pool field.descriptor) c.args.class.now.fields ++ map (method_item pool) c.args.class.now.methods) _ c.in-Some.ensures)

pub returns-in-None : goal.returns-in-None
returns-in-None c =
    let pool = c.args.constants.now in
    rw c.requires (first_behind (map (constant_item pool) pool) _ _ c.in-None.ensures (rw (c.as_slice-fields.ensures, c.as_slice-methods.ensures) at c.first_item_of_both.ensures))
