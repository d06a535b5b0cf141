use Rattle.std.proofs.Common.{◌≡◌, ◌∙◌, ap, sym}
use Rattle.cb_heap.specs.Reading.{seen, serial_of}
use Rattle.cb_heap.specs.Text.{with_text}
use Rattle.cb_unwind.specs.Strings.{constant_sites}
use Rattle.cb_unwind.proofs.StringLaws.{listed_so, new_so, units_so}
use Rattle.cb_unwind.proofs.strings.constant_string.Goals as goal

pub returns-clause-behind : goal.returns-clause-behind
returns-clause-behind g c =
    let program = c.args.program.now in
    let objects = (g.S.Store.storage c.args.store.now).kept in
    let after = (g.S.Store.storage c.place_text-at.new.store).index in
    let kept = (g.S.Store.storage c.place_text-at.new.store).kept in
    let none : c.table-known.result ≡ 0 = c.if-known-ne0.false in
    new_so program (g.S.Store.storage c.args.store.now).index objects c.args.roots.now.roots c.args.text c.table-known.result c.table-known.ensures none
    (c.requires.may (listed_so c.args.roots.now.roots.tables.constants c.args.text c.table-known.result c.table-known.ensures ∙ none)).closed
    after kept c.place_text-at.result c.place_text-at.ensures.places c.place_text-at.ensures.serial
    (c.place_text-at.ensures.kept
    ∙ ap (λ sites. with_text sites c.constant.result.now objects) c.sites_of.ensures
    ∙ ap (λ units. with_text (constant_sites program) units objects) (units_so program c.args.text c.constant.result.now c.constant.ensures))
    ∙ ap (λ roots. (serial_of after c.place_text-at.result, seen after kept roots.roots)) (sym c.set_table.ensures)
