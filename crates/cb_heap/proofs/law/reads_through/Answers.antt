use Rattle.cb_heap.proofs.Laws as laws
use Rattle.cb_heap.proofs.law.reads_through.Goals as goal

pub returns : goal.returns
returns c =
    record { pending = laws.reads_pending; argument = laws.reads_argument; class = laws.reads_class; static_field = laws.reads_static; entry = laws.reads_entry; stack = laws.reads_stack; locals = laws.reads_locals; placed = laws.reads_placed; local = laws.reads_local; pushed = laws.reads_pushed; without = laws.reads_without; cleared = laws.reads_cleared; entered = laws.reads_entered; entered_init = laws.reads_entered_init; left = laws.reads_left }
