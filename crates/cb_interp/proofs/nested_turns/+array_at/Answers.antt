use Rattle.std.proofs.Common.{◌≡◌, ◌∙◌, ap, arith, sym, subst, ◌+◌, ◌-◌, ◌/◌, ◌%◌, ◌<◌, ℕ, Some}
use Rattle.std.proofs.Math.Nat.{mod-lt}
use Rattle.std.proofs.lemmas.Option.{same_Some}
use Rattle.cb_heap.specs.Kept.{content_at, is_reference}
use Rattle.cb_heap.specs.Reading.{serial_of}
use Rattle.cb_plain.specs.State.{Reference}
use Rattle.cb_interp.specs.Nested.{count_of, first_of, size_of, sizes_on}
use Rattle.cb_interp.proofs.TurnsNestedLevels.{above_low, leads_there, leads_up, serial_in, words_some}
use Rattle.cb_interp.proofs.nested_turns.+array_at.Goals as goal

pub array_at-above-requires : goal.array_at-above-requires
array_at-above-requires g t c κs within =
    let sizes = sizes_on c.args.roots.now.roots (c.args.last + 1) in
    let some : 0 < c.args.dimension = omega arith in
    let low = c.requires.low in
    let same : c.from-words.result ≡ size_of sizes (c.args.dimension - 1) = c.from-words.ensures ∙ c.level_size.ensures in (
      omega arith,
      (
        within,
        (
          omega (arith, low),
          (
            c.requires.many,
            (
              c.requires.sized,
              (
                subst (λ (words : ℕ). c.args.turn / words < count_of sizes (c.args.dimension - 1)) (sym same)
                    (above_low (g.S.Store.storage c.args.store.now).kept sizes (serial_of (g.S.Store.storage c.args.store.now).index c.args.array) c.args.dimension c.args.turn some c.requires.turn c.requires.leads),
                leads_up (g.S.Store.storage c.args.store.now).kept sizes (serial_of (g.S.Store.storage c.args.store.now).index c.args.array) c.args.dimension c.args.turn some c.requires.turn c.requires.leads,
              ),
            ),
          ),
        ),
      ),
    )

pub nonzero_rem-turn : goal.nonzero_rem-turn
nonzero_rem-turn g t c =
    let sizes = sizes_on c.args.roots.now.roots (c.args.last + 1) in
    let some : 0 < c.args.dimension = omega arith in
    subst (λ (words : ℕ). 0 < words) (sym (c.from-words.ensures ∙ c.level_size.ensures))
    (words_some (g.S.Store.storage c.args.store.now).kept sizes (serial_of (g.S.Store.storage c.args.store.now).index c.args.array) c.args.dimension c.args.turn some c.requires.turn c.requires.leads)

pub overflow_cast-turn : goal.overflow_cast-turn
overflow_cast-turn g t c =
    let sizes = sizes_on c.args.roots.now.roots (c.args.last + 1) in
    let some : 0 < c.args.dimension = omega arith in
    let words : 0 < c.from-words.result =
    subst (λ (words : ℕ). 0 < words) (sym (c.from-words.ensures ∙ c.level_size.ensures))
    (words_some (g.S.Store.storage c.args.store.now).kept sizes (serial_of (g.S.Store.storage c.args.store.now).index c.args.array) c.args.dimension c.args.turn some c.requires.turn c.requires.leads) in
    let rest = mod-lt c.args.turn words in
    let same : c.from-words.result ≡ c.level_size.result = c.from-words.ensures in
    record { fits = omega (arith, rest, same) }

pub get_ref-requires : goal.get_ref-requires
get_ref-requires g t c =
    let sizes = sizes_on c.args.roots.now.roots (c.args.last + 1) in
    let objects = (g.S.Store.storage c.args.store.now).kept in
    let first = serial_of (g.S.Store.storage c.args.store.now).index c.args.array in
    let some : 0 < c.args.dimension = omega arith in
    let same : c.from-words.result ≡ size_of sizes (c.args.dimension - 1) = c.from-words.ensures ∙ c.level_size.ensures in
    ap (λ (serial : ℕ). is_reference (content_at objects serial (c.args.turn % c.from-words.result))) c.array_at-above.ensures
    ∙ ap (λ (words : ℕ). is_reference (content_at objects (first_of sizes first (c.args.dimension - 1) + c.args.turn / words) (c.args.turn % words))) same
    ∙ ap is_reference (leads_there objects sizes first c.args.dimension c.args.turn some c.requires.turn c.requires.leads)

pub returns : goal.returns
returns g t c =
    let sizes = sizes_on c.args.roots.now.roots (c.args.last + 1) in
    let objects = (g.S.Store.storage c.args.store.now).kept in
    let first = serial_of (g.S.Store.storage c.args.store.now).index c.args.array in
    let some : 0 < c.args.dimension = omega arith in
    let same : c.from-words.result ≡ size_of sizes (c.args.dimension - 1) = c.from-words.ensures ∙ c.level_size.ensures in
    let there : content_at objects (serial_of (g.S.Store.storage c.args.store.now).index c.array_at-above.result) (c.args.turn % c.from-words.result) ≡ Some (Reference (first_of sizes first c.args.dimension + c.args.turn)) =
    ap (λ (serial : ℕ). content_at objects serial (c.args.turn % c.from-words.result)) c.array_at-above.ensures
    ∙ ap (λ (words : ℕ). content_at objects (first_of sizes first (c.args.dimension - 1) + c.args.turn / words) (c.args.turn % words)) same
    ∙ leads_there objects sizes first c.args.dimension c.args.turn some c.requires.turn c.requires.leads in
    ap serial_in (same_Some (Reference (serial_of (g.S.Store.storage c.args.store.now).index c.get_ref.result)) (Reference (first_of sizes first c.args.dimension + c.args.turn)) (sym c.get_ref.ensures ∙ there))
