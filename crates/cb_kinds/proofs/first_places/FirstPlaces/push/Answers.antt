use Rattle.std.proofs.Common.{◌≡◌, ◌∙◌, ◌+◌, ◌<◌, ◌^◌, ◌++◌, ◌∷◌, [], Some, ap, arith, length, refl, subst, sym}
use Rattle.indexmap.specs.IndexMap.{Updates}
use Rattle.cb_kinds.proofs.FirstPlaceLaws.{again, first}
use Rattle.cb_kinds.proofs.first_places.FirstPlaces.push.Goals as goal
use Rattle.cb_kinds.proofs.first_places.FirstPlaces.push.Goals.{then-not-contains_key+in_ok-insert, else-not-contains_key}

pub invariant_of-self-2 : goal.invariant_of-self-2
invariant_of-self-2 g c =
    let before = c.self.inside.keys.items in
    let many : c.len-place.result ≡ length before = omega (arith, c.len-place.ensures, c.self.inside.keys.ok.0) in
    let few : length before + 1 < 2 ^ 32 = omega (arith, c.if-not-has_number.false, many) in
    elim c.if-not-contains_key.branch [
      | then-not-contains_key+in_ok-insert w ↦
          let keys : c.push.new.self.items ≡ before ++ c.args.key ∷ [] = rw (c.in_ok-push.ensures.items, w.self-inside-is, c.in_ok-reserve.ensures.items) refl in
          let firsts = ap (λ inside. inside.firsts) w.self-inside-is in
          rw (keys, firsts) (first g.K.PartialEq.eq g.met.K.Eq.laws before c.self.inside.firsts c.self.invariant c.args.key few w.insert.new.self (sym c.contains_key.ensures ∙ w.if-not-contains_key.true)
          (subst (λ place. Updates g.K.PartialEq.eq c.self.inside.firsts w.insert.new.self c.args.key (Some place)) many w.in_ok-insert.ensures.updates))
      | else-not-contains_key w ↦
          let keys : c.push.new.self.items ≡ before ++ c.args.key ∷ [] = rw (c.in_ok-push.ensures.items, w.self-inside-is, c.in_ok-reserve.ensures.items) refl in
          let firsts = ap (λ inside. inside.firsts) w.self-inside-is in
          rw (keys, firsts) (again g.K.PartialEq.eq g.met.K.Eq.laws before c.self.inside.firsts c.self.invariant c.args.key few (sym c.contains_key.ensures ∙ w.if-not-contains_key.false))
    ]
