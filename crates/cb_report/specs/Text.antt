-- The text of a report on the collections of a run: a header, and a record for each collection, in order.
use Rattle.std.specs.Prelude.{◌+◌, ◌++◌, ◌==◌, ◌∷◌, ℕ, ℤ, pos, negsuc, suc, Bool, true, false, List, [], codes, if◌then◌else◌}
use Rattle.std.specs.Fmt.{decimal}
use Rattle.std.specs.List.{flat_map, range_with_len}
use Rattle.cb_plain.specs.Amounts.{Amounts}
use Rattle.cb_plain.specs.declared.facts.Facts.{Facts}
use Rattle.cb_dag.specs.Closed.{gain_of}

-- a line ends with a newline
abbrev pub line : List ℕ → List ℕ
line text = text ++ codes "\n"

-- how many parts the heap has
abbrev pub header : ℕ → List ℕ
header parts = line (codes "cbgc 1 parts " ++ decimal parts)

-- a whole number
abbrev pub signed : ℤ → List ℕ
signed (pos number) = decimal number
signed (negsuc number) = codes "-" ++ decimal (suc number)

-- a part in which anything is used: that, how much of it is reckoned to survive, and what it gains
abbrev pub part_line : Facts → ℕ → List ℕ
part_line facts estimate =
    if facts.used == 0 then [] else
    line (codes "part " ++ decimal facts.part ++ codes " used " ++ decimal facts.used ++ codes " estimate " ++ decimal estimate ++ codes " gain " ++ signed (gain_of facts estimate))

abbrev pub part_lines : List Facts → List ℕ → List ℕ
part_lines [] estimates = []
part_lines (facts ∷ all) [] = []
part_lines (facts ∷ all) (estimate ∷ estimates) = part_line facts estimate ++ part_lines all estimates

-- the parts of a set, from a number on
abbrev pub set_words : ℕ → List Bool → List ℕ
set_words part [] = []
set_words part (true ∷ set) = codes " " ++ decimal part ++ set_words (part + 1) set
set_words part (false ∷ set) = set_words (part + 1) set

abbrev pub set_line : List Bool → List ℕ
set_line set = line (codes "set" ++ set_words 0 set)

-- what flows from one to another, if anything does
abbrev pub flow_line : List ℕ → List ℕ → ℕ → List ℕ
flow_line from to amount = if amount == 0 then [] else line (codes "flow " ++ from ++ codes " " ++ to ++ codes " " ++ decimal amount)

-- from the source to parts, from a number on, and from them to the sink
abbrev pub source_lines : ℕ → List ℕ → List ℕ
source_lines part [] = []
source_lines part (amount ∷ amounts) = flow_line (codes "s") (decimal part) amount ++ source_lines (part + 1) amounts

abbrev pub sink_lines : ℕ → List ℕ → List ℕ
sink_lines part [] = []
sink_lines part (amount ∷ amounts) = flow_line (decimal part) (codes "t") amount ++ sink_lines (part + 1) amounts

-- from a part along the edges that lead to it, in their order, to those from which they lead
abbrev pub lines_from : ℕ → List (ℕ × ℕ) → List ℕ → List ℕ
lines_from part [] arcs = []
lines_from part (edge ∷ edges) [] = []
lines_from part (edge ∷ edges) (arc ∷ arcs) = (if edge.1 == part then flow_line (decimal edge.1) (decimal edge.0) arc else []) ++ lines_from part edges arcs

-- a flow: from the source by part; between parts by the one from which it flows and then by the other; to the sink by part
abbrev pub flow_lines : (parts : ℕ) → List (ℕ × ℕ) → Amounts → List ℕ
flow_lines parts edges flow =
    source_lines 0 flow.sources ++ flat_map (λ part. lines_from part edges flow.arcs) (range_with_len 0 parts) ++ sink_lines 0 flow.sinks

-- what was found to stay and what went, in words
abbrev pub counts_line : (visited freed : ℕ) → List ℕ
counts_line visited freed = line (codes "visited " ++ decimal visited ++ codes " freed " ++ decimal freed)

-- the record of a collection of a set that was chosen, and of one of all parts. Collections are counted from 1
pub record Chosen : Type 0 where
  pub facts : List Facts
  pub estimates : List ℕ
  pub set : List Bool
  pub flow : Amounts

abbrev pub partial_record : (number parts : ℕ) → List (ℕ × ℕ) → Chosen → (visited freed : ℕ) → List ℕ
partial_record number parts edges chosen visited freed =
    line (codes "gc " ++ decimal number ++ codes " partial") ++ part_lines chosen.facts chosen.estimates ++ set_line chosen.set ++ flow_lines parts edges chosen.flow
    ++ counts_line visited freed ++ line (codes "end")

abbrev pub full_record : (number visited freed : ℕ) → List ℕ
full_record number visited freed = line (codes "gc " ++ decimal number ++ codes " full") ++ counts_line visited freed ++ line (codes "end")
