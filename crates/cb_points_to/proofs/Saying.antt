-- What inclusions say, of relations and of all closed ones.
use Rattle.std.proofs.Common.{◌≡◌, ◌∙◌, sym, ap, refl, subst, inl, inr, arith, suc, ℕ, ◌<◌, cond, eqb, List, [], ◌∷◌, length, get_or, Option, Some, None, IfSome, slice_get}
use Rattle.std.specs.List.{All}
use Rattle.std.proofs.lemmas.Bool.{cases_Bool}
use Rattle.std.proofs.lemmas.Option.{get_or_from_slice_get, slice_get_within}
use Rattle.cb_points_to.specs.Inclusions.{Holds, Relation, System, callee_in, callee_of, slot_in, slot_of}
use Rattle.cb_points_to.specs.Made.{IsCallee, IsInclusion, IsSystem}
use Rattle.cb_points_to.specs.Says.{At, Had, Inside, MustHave, MustLink, Says, first_base, second_base}
use Rattle.cb_points_to.specs.declared.inclusion.Inclusion.{Inclusion}
use Rattle.cb_points_to.specs.declared.inclusion.Inclusion.TheVariants.{Between, Call, Copy, Has, HasEach, Load, Store, Through}
use Rattle.cb_points_to.specs.declared.tables.Callee.{Callee}

-- more is had and linked
module _ (system : System) (Fact More : ℕ → ℕ → Type 0) (Edge Edges : ℕ → ℕ → Option ℕ → Type 0) (more : (node site : ℕ) → Fact node site → More node site)
    (edges : (from to : ℕ) (filter : Option ℕ) → Edge from to filter → Edges from to filter) where
  pub says_more : (inclusion : Inclusion) (own other : ℕ) → Says system Fact Edge inclusion own other → Says system More Edges inclusion own other
  says_more (Has node site) own other said = more node site said
  says_more (HasEach base slots site) own other said = λ slot is. more slot site (said slot is)
  says_more (Copy from to) own other said = edges from to None said
  says_more (Through from to filter) own other said = edges from to (Some filter) said
  says_more (Load base slots to) own other said = λ slot is. edges slot to None (said slot is)
  says_more (Store from base slots) own other said = λ slot is. edges from slot None (said slot is)
  says_more (Between source target slots) own other said = λ slot behind is there. edges slot behind None (said slot behind is there)
  says_more (Call receiver calls arguments result) own other said = λ callee is. record {
    receiver = more callee.receiver own (said callee is).receiver;
    arguments_in = λ i from to a b. edges from to None ((said callee is).arguments_in i from to a b);
    result_out = λ from to a b. edges from to None ((said callee is).result_out from to a b);
  }

-- what it says of each site of its bases is that it holds
pub closes : (system : System) (pts : Relation) (inclusion : Inclusion)
    → ((own other : ℕ) → At (Had pts) (first_base inclusion) own → At (Had pts) (second_base inclusion) other → Says system (Had pts) (Inside system pts) inclusion own other)
    → Holds system pts inclusion
closes system pts (Has node site) said = said 0 0 refl refl
closes system pts (HasEach base slots site) said = λ own slot on is. said own 0 on refl slot is
closes system pts (Copy from to) said = λ site on. said 0 0 refl refl site on refl
closes system pts (Through from to filter) said = λ site on passes. said 0 0 refl refl site on passes
closes system pts (Load base slots to) said = λ own slot on is site at. said own 0 on refl slot is site at refl
closes system pts (Store from base slots) said = λ own slot on is site at. said own 0 on refl slot is site at refl
closes system pts (Between source target slots) said = λ own other slot behind on at is there site in_slot. said own other on at slot behind is there site in_slot refl
closes system pts (Call receiver calls arguments result) said = λ site callee on is. record {
  receiver = (said site 0 on refl callee is).receiver;
  arguments_in = λ i from to a b own at. (said site 0 on refl callee is).arguments_in i from to a b own at refl;
  result_out = λ from to a b own at. (said site 0 on refl callee is).result_out from to a b own at refl;
}

some_is : (P : ℕ → Type 0) (option : Option ℕ) (x : ℕ) → IfSome option P → option ≡ Some x → P x
some_is P option x all is = let h : IfSome (Some x) P = subst (λ o. IfSome o P) is all in h

-- what tables name is there
pub all_at : {X : Type 0} (P : X → Type 0) (xs : List X) (i : ℕ) (x : X) → All P xs → slice_get xs i ≡ Some x → P x
all_at P xs i x all there = subst P (get_or_from_slice_get xs i x x there) (all i x (slice_get_within xs i x there))

module _ {X Y : Type 0} (key : X → ℕ) (value : X → Y) (found : List X → ℕ → Option Y) (none : (site : ℕ) → found [] site ≡ None)
    (some : (x : X) (xs : List X) (site : ℕ) → found (x ∷ xs) site ≡ cond (eqb (key x) site) (Some (value x)) (found xs site)) where
  found_in : (P : Y → Type 0) (xs : List X) (site : ℕ) (y : Y) → All (λ x. P (value x)) xs → found xs site ≡ Some y → P y
  found_in P [] site y all is = let no : None ≡ Some y = sym (none site) ∙ is in cc
  found_in P (x ∷ xs) site y all is = elim (cases_Bool (eqb (key x) site)) [
    | inl on ↦
        let same : Some (value x) ≡ Some y = sym (some x xs site ∙ ap (λ b. cond b (Some (value x)) (found xs site)) on) ∙ is in
        let e : value x ≡ y = cc in
        subst P e (all 0 x (omega arith))
    | inr off ↦ found_in P xs site y (λ k d within. all (suc k) d (omega arith)) (sym (some x xs site ∙ ap (λ b. cond b (Some (value x)) (found xs site)) off) ∙ is)
  ]

module _ (system : System) (sound : IsSystem system) where
  pub slot_there : (slots site slot : ℕ) → slots < length system.slots → slot_in system slots site ≡ Some slot → slot < system.nodes
  slot_there slots site slot within is =
      let table = sound.slots slots [] within in
      found_in (λ slot. slot.site) (λ slot. slot.node) slot_of (λ site. refl) (λ x xs site. refl) (λ node. node < system.nodes) (get_or system.slots slots []) site slot
      (λ k d low. (table.each k d low).node) is

  pub callee_there : (calls site : ℕ) (callee : Callee) → calls < length system.calls → callee_in system calls site ≡ Some callee → IsCallee system callee
  callee_there calls site callee within is =
      let table = sound.calls calls [] within in
      found_in (λ callee. callee.site) (λ callee. callee) callee_of (λ site. refl) (λ x xs site. refl) (IsCallee system) (get_or system.calls calls []) site callee table.each is

  pub named : (i : ℕ) (inclusion : Inclusion) → slice_get system.inclusions i ≡ Some inclusion → IsInclusion system inclusion
  named i inclusion there = all_at (IsInclusion system) system.inclusions i inclusion sound.inclusions there

  -- what it says of sites that every closed relation has, every closed relation has
  module _ (i own other : ℕ) where
    pub must : (inclusion : Inclusion) → slice_get system.inclusions i ≡ Some inclusion → IsInclusion system inclusion
        → At (MustHave system) (first_base inclusion) own → At (MustHave system) (second_base inclusion) other
        → Says system (MustHave system) (MustLink system) inclusion own other
    must (Has node site) there fine first second = record { node_in = fine.0; site_in = fine.1; had = λ pts closed. closed.each i _ there }
    must (HasEach base slots site) there fine first second = λ slot is. record {
      node_in = slot_there slots own slot fine.1 is;
      site_in = fine.2;
      had = λ pts closed. closed.each i _ there own slot (first.had pts closed) is;
    }
    must (Copy from to) there fine first second = record { from_in = fine.0; to_in = fine.1; filter_in = tt; inside = λ pts closed site on _. closed.each i _ there site on }
    must (Through from to filter) there fine first second =
        record { from_in = fine.0; to_in = fine.1; filter_in = fine.2; inside = λ pts closed site on passes. closed.each i _ there site on passes }
    must (Load base slots to) there fine first second = λ slot is. record {
      from_in = slot_there slots own slot fine.1 is;
      to_in = fine.2;
      filter_in = tt;
      inside = λ pts closed site on _. closed.each i _ there own slot (first.had pts closed) is site on;
    }
    must (Store from base slots) there fine first second = λ slot is. record {
      from_in = fine.0;
      to_in = slot_there slots own slot fine.2 is;
      filter_in = tt;
      inside = λ pts closed site on _. closed.each i _ there own slot (first.had pts closed) is site on;
    }
    must (Between source target slots) there fine first second = λ slot behind is at. record {
      from_in = slot_there slots own slot fine.2 is;
      to_in = slot_there slots other behind fine.2 at;
      filter_in = tt;
      inside = λ pts closed site on _. closed.each i _ there own other slot behind (first.had pts closed) (second.had pts closed) is at site on;
    }
    must (Call receiver calls arguments result) there fine first second = λ callee is. record {
      receiver = record {
        node_in = (callee_there calls own callee fine.1 is).receiver;
        site_in = first.site_in;
        had = λ pts closed. (closed.each i _ there own callee (first.had pts closed) is).receiver;
      };
      arguments_in = λ k from to a b. record {
        from_in = all_at (λ node. node < system.nodes) arguments k from fine.2 a;
        to_in = all_at (λ node. node < system.nodes) callee.arguments k to (callee_there calls own callee fine.1 is).arguments b;
        filter_in = tt;
        inside = λ pts closed site on _. (closed.each i _ there own callee (first.had pts closed) is).arguments_in k from to a b site on;
      };
      result_out = λ from to a b. record {
        from_in = some_is (λ node. node < system.nodes) callee.result from (callee_there calls own callee fine.1 is).result a;
        to_in = some_is (λ node. node < system.nodes) result to fine.3 b;
        filter_in = tt;
        inside = λ pts closed site on _. (closed.each i _ there own callee (first.had pts closed) is).result_out from to a b site on;
      };
    }
