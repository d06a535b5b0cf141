use Rattle.cb_heap.specs.Storage.{view_in}
use Rattle.std.proofs.Common.{◌∙◌, ap, subst, sym}
use Rattle.cb_link.specs.Named.{IsThere}
use Rattle.cb_interp.proofs.NativesAsked.{loads_constant, names_constant, never_other}
use Rattle.cb_interp.proofs.loading.loads_need.Goals as goal

pub load_need-requires : goal.load_need-requires
load_need-requires g c = λ κs lives. (
  lives,
  (
    c.requires.1.0,
    (
      c.requires.1.1.0,
      (
        loads_constant c.args.program.now c.args.roots.now.limit c.args.decoded.now (view_in (g.S.Store.storage c.args.store.now) c.args.roots.now.roots) c.requires.1.1.1,
        (
          c.in-Text.is,
          subst (IsThere c.args.program.now)
              (sym (ap (λ decoded. decoded.named) c.requires.1.1.0.is) ∙ c.in-Text.is)
              (c.linked_constants.ensures.there c.args.program.now c.requires.1.0.linked c.requires.1.1.0.frame.method c.requires.1.1.0.frame.pc),
        ),
      ),
    ),
  ),
)

pub load_class_need-requires : goal.load_class_need-requires
load_class_need-requires g c = λ κs lives. (
  lives,
  (
    c.requires.1.0,
    (
      c.requires.1.1.0,
      (
        loads_constant c.args.program.now c.args.roots.now.limit c.args.decoded.now (view_in (g.S.Store.storage c.args.store.now) c.args.roots.now.roots) c.requires.1.1.1,
        (
          c.in-Kind.is,
          subst (IsThere c.args.program.now)
              (sym (ap (λ decoded. decoded.named) c.requires.1.1.0.is) ∙ c.in-Kind.is)
              (c.linked_constants.ensures.there c.args.program.now c.requires.1.0.linked c.requires.1.1.0.frame.method c.requires.1.1.0.frame.pc),
        ),
      ),
    ),
  ),
)

pub unreachable-requires : goal.unreachable-requires
unreachable-requires g c =
    never_other c.args.decoded.now.named
    (names_constant c.args.program.now c.args.roots.now.limit c.args.decoded.now (view_in (g.S.Store.storage c.args.store.now) c.args.roots.now.roots) c.requires.1.1.1)
    (λ text is. c.in_default.not-Text text is) (λ kind is. c.in_default.not-Kind kind is)
