use Rattle.std.proofs.Common.{◌≡◌, ◌∙◌, ap, sym, ◌∷◌, ◌++◌, [], ℕ, Some}
use Rattle.cb_heap.specs.Shaped.{has_size, new_object}
use Rattle.cb_machine.specs.Machine.{kind_of_site, or_zero}
use Rattle.cb_plain.specs.State.{Object}
use Rattle.cb_interp.proofs.nested_turns.place_array.Goals as goal

pub place-requires-clause-shaped : goal.place-requires-clause-shaped
place-requires-clause-shaped g c =
    let kind : kind_of_site c.args.program.now c.args.site ≡ c.site_kind.result = ap or_zero c.site_kind.ensures.kind in
    ap (λ (kind : ℕ). has_size (g.S.Store.storage c.args.store.now).settings.shapes kind c.args.size) (sym kind) ∙ c.requires.fits.sized

pub returns-clause-kept : goal.returns-clause-kept
returns-clause-kept g c =
    let shapes = (g.S.Store.storage c.args.store.now).settings.shapes in
    let kind : kind_of_site c.args.program.now c.args.site ≡ c.site_kind.result = ap or_zero c.site_kind.ensures.kind in
    c.place.ensures.kept
    ∙ ap (λ (kind : ℕ). (g.S.Store.storage c.args.store.now).kept ++ Some (new_object shapes c.args.site kind c.args.size) ∷ []) (sym kind)
    ∙ ap (λ (object : Object). (g.S.Store.storage c.args.store.now).kept ++ Some object ∷ []) c.requires.fits.shaped
