use Rattle.cb_names.proofs.FloatingParts.{class_none, of_array, of_method}
use Rattle.cb_names.proofs.floating.floating_of_parts.Goals as goal

pub returns-clause-class : goal.returns-clause-class
returns-clause-class c = class_none

pub returns-clause-array : goal.returns-clause-array
returns-clause-array c = of_array

pub returns-clause-method : goal.returns-clause-method
returns-clause-method c = of_method
