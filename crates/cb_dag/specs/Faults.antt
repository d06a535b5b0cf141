-- Why a graph is not condensed.
use Rattle.std.specs.Prelude.{Bool, List}
use Rattle.cb_dag.specs.Parts.{HasManyEdges, HasManyParts}
use Rattle.cb_dag.specs.declared.fault.DagFault.{DagFault}
use Rattle.cb_dag.specs.declared.fault.DagFault.TheVariants.{OutOfMemory, TooManyEdges, TooManyParts}

abbrev pub IsFault : List (List Bool) → DagFault → Type 0
IsFault rows TooManyParts = HasManyParts rows
IsFault rows TooManyEdges = HasManyEdges rows
IsFault rows OutOfMemory = Unit {0}
