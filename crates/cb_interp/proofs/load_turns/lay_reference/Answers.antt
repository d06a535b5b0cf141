use Rattle.std.proofs.Common.{◌∙◌, ◌<◌, ap, length, rules, subst, sym}
use Rattle.cb_frames.specs.Limited.{Limited, with_roots}
use Rattle.cb_frames.specs.Tops.{placed}
use Rattle.cb_plain.specs.declared.value.Value.TheVariants.{Ref}
use Rattle.cb_interp.proofs.TurnsNeedLoads.{some_frames}
use Rattle.cb_interp.proofs.load_turns.lay_reference.Goals as goal

pub set_place-requires : goal.set_place-requires
set_place-requires c =
    subst (λ (held : Limited). 0 < length held.roots.frames) (sym c.push.ensures) (some_frames c.args.roots.now.roots (Ref c.args.at) (search rules))

pub returns : goal.returns
returns c = c.set_place.ensures ∙ ap (λ (held : Limited). with_roots held (placed held.roots c.args.next)) c.push.ensures
