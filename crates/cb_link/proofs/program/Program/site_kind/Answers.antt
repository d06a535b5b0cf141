use Rattle.std.proofs.Common.{◌≡◌, ◌<◌, ◌-◌, length, slice_get, Some, subst}
use Rattle.cb_link.specs.Having.{site_kinds}
use Rattle.cb_link.specs.declared.program.Program.TheInside.{Inside}
use Rattle.cb_link.proofs.MembersAmong.{site_behind, site_front, site_kind_within}
use Rattle.cb_link.proofs.program.Program.site_kind.Goals as goal

pub returns-then-place-fixed-clause-kind : goal.returns-then-place-fixed-clause-kind
returns-then-place-fixed-clause-kind c =
    let found = subst (λ (inside : Inside). slice_get inside.base.fixed c.args.site ≡ Some c.get.result.now) c.self-inside.view_is c.get.ensures in
    subst (λ program. slice_get (site_kinds program) c.args.site ≡ Some c.get.result.now) c.self.view_is
    (site_front c.self.inside.base c.self.invariant.whole c.args.site c.get.result.now found)

pub returns-then-place-fixed-clause-within : goal.returns-then-place-fixed-clause-within
returns-then-place-fixed-clause-within c =
    let found = subst (λ (inside : Inside). slice_get inside.base.fixed c.args.site ≡ Some c.get.result.now) c.self-inside.view_is c.get.ensures in
    subst (λ program. c.get.result.now < length program.kinds) c.self.view_is
    (site_kind_within c.self.inside.base c.self.invariant.whole c.args.site c.get.result.now
    (site_front c.self.inside.base c.self.invariant.whole c.args.site c.get.result.now found))

pub returns-else-place-fixed-clause-kind : goal.returns-else-place-fixed-clause-kind
returns-else-place-fixed-clause-kind c =
    let many = subst (λ (inside : Inside). c.len-fixed.result ≡ length inside.base.fixed) c.self-inside.view_is c.len-fixed.ensures in
    let found = subst (λ (inside : Inside). slice_get inside.base.sites (c.args.site - c.len-fixed.result) ≡ Some c.get-else-place-fixed.result.now) c.self-inside.view_is c.get-else-place-fixed.ensures in
    subst (λ program. slice_get (site_kinds program) c.args.site ≡ Some c.get-else-place-fixed.result.now.kind) c.self.view_is
    (site_behind c.self.inside.base c.self.invariant.whole c.args.site c.len-fixed.result c.get-else-place-fixed.result.now many c.if-place-fixed.false found)

pub returns-else-place-fixed-clause-within : goal.returns-else-place-fixed-clause-within
returns-else-place-fixed-clause-within c =
    let many = subst (λ (inside : Inside). c.len-fixed.result ≡ length inside.base.fixed) c.self-inside.view_is c.len-fixed.ensures in
    let found = subst (λ (inside : Inside). slice_get inside.base.sites (c.args.site - c.len-fixed.result) ≡ Some c.get-else-place-fixed.result.now) c.self-inside.view_is c.get-else-place-fixed.ensures in
    subst (λ program. c.get-else-place-fixed.result.now.kind < length program.kinds) c.self.view_is
    (site_kind_within c.self.inside.base c.self.invariant.whole c.args.site c.get-else-place-fixed.result.now.kind
    (site_behind c.self.inside.base c.self.invariant.whole c.args.site c.len-fixed.result c.get-else-place-fixed.result.now many c.if-place-fixed.false found))
