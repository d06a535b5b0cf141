use Rattle.cb_heap.proofs.Laws as laws
use Rattle.cb_heap.proofs.law.keeps_changes.Goals as goal

pub returns : goal.returns
returns c = record { content = laws.keep_changed; placed = laws.keep_placed; twice = laws.keep_twice; content_residents = laws.residents_content; placed_residents = laws.residents_placed }
