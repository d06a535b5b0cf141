-- The words for what there is too much of.
use Rattle.std.specs.Prelude.{ℕ, List, codes}
use Rattle.cb_link.specs.declared.refusal.Quantity.{Quantity}
use Rattle.cb_link.specs.declared.refusal.Quantity.TheVariants.{ClassFileBytes, Classes, Methods, Sites, Nodes, Partitions, Edges, AssemblyBytes}

abbrev pub quantity_text : Quantity → List ℕ
quantity_text ClassFileBytes = codes "class file bytes"
quantity_text Classes = codes "classes"
quantity_text Methods = codes "methods"
quantity_text Sites = codes "sites"
quantity_text Nodes = codes "nodes"
quantity_text Partitions = codes "partitions"
quantity_text Edges = codes "edges"
quantity_text AssemblyBytes = codes "assembly bytes"
