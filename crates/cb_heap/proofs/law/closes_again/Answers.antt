use Rattle.cb_heap.proofs.Laws as laws
use Rattle.cb_heap.proofs.law.closes_again.Goals as goal

pub returns : goal.returns
returns c =
    record { pending = laws.closed_pending; argument = laws.closed_argument; class = laws.closed_class; static_field = laws.closed_static; entry = laws.closed_entry; placed = laws.closed_placed; local = laws.closed_local; pushed = laws.closed_pushed; without = laws.closed_without; cleared = laws.closed_cleared; entered = laws.closed_entered; entered_init = laws.closed_entered_init; left = laws.closed_left; content = laws.closed_content; new = laws.closed_new; reads = laws.roots_again }
