use Rattle.std.proofs.Common.{◌≡◌, ◌∙◌, ◌+◌, ◌<◌, ◌++◌, ◌∷◌, [], ap, ap₂, arith, length, subst, sym}
use Rattle.std.proofs.lemmas.List.{length_push}
use Rattle.std.proofs.lemmas.Option.{get_or_from_slice_get, slice_get_within}
use Rattle.cb_hierarchy.specs.Members.{method_of}
use Rattle.cb_hierarchy.specs.InnerReaching.{AreFirst, among_if, entry_among, entry_by, entry_of, reach_own, reached_at}
use Rattle.cb_hierarchy.specs.Resolution.{most_specific}
use Rattle.std.specs.Prelude.{unwrap_or}
use Rattle.cb_hierarchy.specs.declared.entry.Entry.TheVariants.{Absent}
use Rattle.cb_hierarchy.proofs.AmongLaws.{unwrapped}
use Rattle.cb_hierarchy.proofs.RowLaws.{pushed}
use Rattle.cb_hierarchy.proofs.selection.row_of.Goals as goal

pub index-requires-in-loop-resolved : goal.index-requires-in-loop-resolved
index-requires-in-loop-resolved c =
    let within : c.signature-signature.result < length c.in_ok-among.among.items =
    slice_get_within c.in_ok-among.among.items c.signature-signature.result _ (c.in_ok-among.ensures c.signature-signature.result c.signature-signature.ensures.small) in
    omega (arith, within, c.in_ok-among.among.ok.0)

pub loop-resolved-preserved : goal.loop-resolved-preserved
loop-resolved-preserved c =
    let classes = c.args.hierarchy.now in
    let methods = c.args.methods.now in
    let class = c.args.class in
    let resolved = c.loop-resolved.resolved in
    let signature = c.signature-signature.result in
    let cell : c.index-in-loop-resolved.result.now ≡ among_if classes methods class methods signature =
    c.index-in-loop-resolved.ensures ∙ get_or_from_slice_get c.in_ok-among.among.items signature _ c.index-in-loop-resolved.result.now (c.in_ok-among.ensures signature c.signature-signature.ensures.small) in
    let among : c.unwrap_or.result ≡ entry_among (most_specific classes methods class signature) =
    c.unwrap_or.ensures ∙ ap (λ found. unwrap_or found Absent) cell ∙ unwrapped classes methods class signature in
    let own : c.index.result.now ≡ method_of methods class signature =
    c.index.ensures ∙ get_or_from_slice_get c.in_ok-own.own.items signature _ c.index.result.now (c.in_ok-own.ensures signature c.signature-signature.ensures.small) in
    let reached : c.reach_own-reached.result ≡ reach_own classes methods resolved (method_of methods class signature) (reached_at c.args.rows.now c.args.superclass resolved) =
    c.reach_own-reached.ensures ∙ ap₂ (reach_own classes methods resolved) own c.reached_at-above.ensures in
    let entry : c.entry_of.result ≡ entry_by classes methods c.args.rows.now c.args.superclass class resolved =
    c.entry_of.ensures ∙ ap₂ (entry_of methods) reached among
    ∙ ap (λ signature. entry_of methods (reach_own classes methods resolved (method_of methods class signature) (reached_at c.args.rows.now c.args.superclass resolved)) (entry_among (most_specific classes methods class signature)))
    c.signature-signature.ensures.value in
    let items : c.push.new.self.items ≡ c.loop-resolved.row.items ++ c.entry_of.result ∷ [] = c.in_ok-push.ensures.items in (
      ap length items ∙ length_push c.loop-resolved.row.items c.entry_of.result ∙ ap (λ count. count + 1) c.loop-resolved.invariant.0,
      subst (AreFirst (resolved + 1) (entry_by classes methods c.args.rows.now c.args.superclass class)) (sym items)
          (pushed resolved (entry_by classes methods c.args.rows.now c.args.superclass class) c.loop-resolved.row.items c.entry_of.result c.loop-resolved.invariant.0 c.loop-resolved.invariant.1 entry),
    )
