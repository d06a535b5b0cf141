use Rattle.std.proofs.Common.{◌≡◌, ◌∙◌, ap, arith, subst, sym, ◌+◌, ◌∷◌, ◌++◌, [], length, ℕ, List, Option, Some}
use Rattle.cb_heap.specs.Shaped.{has_size, new_object}
use Rattle.cb_heap.specs.Store.{ReadsAsBefore}
use Rattle.cb_machine.specs.Machine.{kind_of_site, or_zero}
use Rattle.cb_machine.specs.Sites.{arguments}
use Rattle.cb_plain.specs.State.{Object}
use Rattle.cb_interp.proofs.starting.place_array.Goals as goal

pub site_kind-requires : goal.site_kind-requires
site_kind-requires g c = c.requires.fits.sites arguments (omega arith)

pub place-requires-clause-shaped : goal.place-requires-clause-shaped
place-requires-clause-shaped g c =
    let kind : kind_of_site c.args.program.now arguments ≡ c.site_kind.result = ap or_zero c.site_kind.ensures.kind in
    ap (λ (kind : ℕ). has_size (g.S.Store.storage c.args.store.now).settings.shapes kind c.args.size) (sym kind) ∙ (c.requires.fits.array c.args.size).sized

pub place-requires-clause-serials : goal.place-requires-clause-serials
place-requires-clause-serials g c =
    let none = ap (λ (objects : List (Option Object)). length objects) c.requires.empty in
    omega (arith, none)

pub returns-clause-kept : goal.returns-clause-kept
returns-clause-kept g c =
    let shapes = (g.S.Store.storage c.args.store.now).settings.shapes in
    let kind : kind_of_site c.args.program.now arguments ≡ c.site_kind.result = ap or_zero c.site_kind.ensures.kind in
    c.place.ensures.kept
    ∙ ap (λ (objects : List (Option Object)). objects ++ Some (new_object shapes arguments c.site_kind.result c.args.size) ∷ []) c.requires.empty
    ∙ ap (λ (kind : ℕ). Some (new_object shapes arguments kind c.args.size) ∷ []) (sym kind)
    ∙ ap (λ (object : Object). Some object ∷ []) (c.requires.fits.array c.args.size).shaped

pub returns-clause-serial : goal.returns-clause-serial
returns-clause-serial g c = c.place.ensures.serial ∙ ap (λ (objects : List (Option Object)). length objects + 1) c.requires.empty

pub returns-clause-places : goal.returns-clause-places
returns-clause-places g c =
    subst (λ (objects : List (Option Object)). ReadsAsBefore objects (g.S.Store.storage c.args.store.now).index (g.S.Store.storage c.place.new.self).index) c.requires.empty
    c.place.ensures.places
