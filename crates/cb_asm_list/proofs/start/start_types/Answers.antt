use Rattle.cb_names.specs.Types.{type_of}
use Rattle.cb_asm_line.specs.Parameters.{parameters_of}
use Rattle.cb_asm_list.specs.Expansion.{class_named, parameter_type, text_named, this_types}
use Rattle.cb_asm_list.proofs.AllOf.{begun}
use Rattle.cb_asm_list.proofs.start.start_types.Goals as goal

pub loop-parameter-init : goal.loop-parameter-init
loop-parameter-init c =
    rw c.as_slice-parameter-items.ensures.value
    (begun parameter_type type_of c.in_ok-parameters.parameters.items (parameters_of (text_named c.args.class.now c.args.method.now.descriptor))
    (this_types c.args.method.now.flags.0 (class_named c.args.class.now c.args.class.now.this_class) (text_named c.args.class.now c.args.method.now.name))
    c.in_ok-types.types c.in_ok-parameters.ensures c.in_ok-types.ensures)
