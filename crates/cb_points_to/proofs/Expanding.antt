-- What an inclusion says is had, part by part.
use Rattle.std.proofs.Common.{◌≡◌, ◌∙◌, sym, refl, subst, inl, inr, arith, ℕ, ◌+◌, ◌<◌, ◌≤◌, List, length, Option, Some, None, slice_get}
use Rattle.std.proofs.lemmas.Bool.{cases_lt}
use Rattle.std.proofs.lemmas.Option.{slice_get_within}
use Rattle.cb_points_to.specs.Closed.{has}
use Rattle.cb_points_to.specs.Inclusions.{System, slot_in}
use Rattle.cb_points_to.specs.Says.{Had, MustHave, MustLink, Says}
use Rattle.cb_points_to.specs.Webs.{Entering, Expands, Holding, Joining, Keeps, Linked, Linking, Passing}
use Rattle.cb_points_to.specs.declared.inclusion.Inclusion.{Inclusion}
use Rattle.cb_points_to.specs.declared.inclusion.Inclusion.TheVariants.{Between, Copy, Has, HasEach, Load, Store, Through}
use Rattle.cb_points_to.specs.declared.tables.Callee.{Callee}
use Rattle.cb_points_to.specs.declared.web.Web.{Web}
use Rattle.cb_points_to.proofs.Growing.{keeps_on}

same_some : (a b : ℕ) → ◌≡◌ {A = Option ℕ} (Some a) (Some b) → a ≡ b
same_some a b e = cc

pub must_some : (system : System) (node site at : ℕ) → MustHave system node site → ◌≡◌ {A = Option ℕ} (Some node) (Some at) → MustHave system at site
must_some system node site at must e = subst (λ n. MustHave system n site) (same_some node at e) must

-- arguments, one by one
module _ (system : System) (looked : List (List ℕ)) (old mid : Web) (given taken : List ℕ) (at : ℕ) (before : Passing system looked old mid given taken at) where
  pub passing_more : (new : Web) (x y : ℕ) → slice_get given at ≡ Some x → slice_get taken at ≡ Some y → Linking system looked mid new x y None
      → Passing system looked old new given taken (at + 1)
  passing_more new x y first second linking = record {
    keeps = keeps_on system looked old mid new before.keeps linking.keeps;
    linked = λ i from to low a b. elim (cases_lt i at) [
      | inl l ↦ linking.keeps.grows.linked from to None (before.linked i from to l a b)
      | inr p ↦
          let same : i ≡ at = omega arith in
          let e : x ≡ from = same_some x from (sym first ∙ subst (λ k. slice_get given k ≡ Some from) same a) in
          let f : y ≡ to = same_some y to (sym second ∙ subst (λ k. slice_get taken k ≡ Some to) same b) in
          subst (λ n. Linked new n to None) e (subst (λ n. Linked new x n None) f linking.linked)
    ];
  }

  pub passing_past : length taken ≤ at → Passing system looked old mid given taken (at + 1)
  passing_past past = record {
    keeps = before.keeps;
    linked = λ i from to low a b. let inside : i < length taken = slice_get_within taken i to b in before.linked i from to (omega arith) a b;
  }

pub entering : (system : System) (looked : List (List ℕ)) (old held joined new : Web) (own : ℕ) (arguments : List ℕ) (outcome : Option ℕ) (callee : Callee)
    → Holding system looked old held (Some callee.receiver) own → Joining system looked held joined callee.result outcome
    → Passing system looked joined new arguments callee.arguments (length arguments) → Entering system looked old new own arguments outcome callee
entering system looked old held joined new own arguments outcome callee holding joining passing = record {
  keeps = keeps_on system looked old held new holding.keeps (keeps_on system looked held joined new joining.keeps passing.keeps);
  enters = record {
    receiver = passing.keeps.grows.had callee.receiver own (joining.keeps.grows.had callee.receiver own (holding.had callee.receiver refl));
    arguments_in = λ i from to a b. passing.linked i from to (slice_get_within arguments i from a) a b;
    result_out = λ from to a b. passing.keeps.grows.linked from to None (joining.linked from to a b);
  };
}

-- the shapes of inclusions
module _ (system : System) (looked : List (List ℕ)) (old new : Web) (inclusion : Inclusion) (own other : ℕ) where
  said_as : (shape : Inclusion) → inclusion ≡ shape → Says system (MustHave system) (MustLink system) inclusion own other → Says system (MustHave system) (MustLink system) shape own other
  said_as shape is says = subst (λ i. Says system (MustHave system) (MustLink system) i own other) is says

  as_said : (shape : Inclusion) → inclusion ≡ shape → Keeps system looked old new → Says system (Had (has new.rows)) (Linked new) shape own other
      → Expands system looked old new inclusion own other
  as_said shape is keeps says = record { keeps = keeps; says = subst (λ i. Says system (Had (has new.rows)) (Linked new) i own other) (sym is) says }

  module _ (says : Says system (MustHave system) (MustLink system) inclusion own other) where
    pub must_has : (node site : ℕ) → inclusion ≡ Has node site → (at : ℕ) → ◌≡◌ {A = Option ℕ} (Some node) (Some at) → MustHave system at site
    must_has node site is at e = must_some system node site at (said_as (Has node site) is says) e

    pub must_each : (base slots site : ℕ) (slot : Option ℕ) → inclusion ≡ HasEach base slots site → slot ≡ slot_in system slots own → (at : ℕ) → slot ≡ Some at
        → MustHave system at site
    must_each base slots site slot is there at e = (said_as (HasEach base slots site) is says) at (sym there ∙ e)

    pub must_copy : (from to : ℕ) → inclusion ≡ Copy from to → (a b : ℕ) → ◌≡◌ {A = Option ℕ} (Some from) (Some a) → ◌≡◌ {A = Option ℕ} (Some to) (Some b)
        → MustLink system a b None
    must_copy from to is a b e f =
        subst (λ n. MustLink system n b None) (same_some from a e) (subst (λ n. MustLink system from n None) (same_some to b f) (said_as (Copy from to) is says))

    pub must_through : (from to filter : ℕ) → inclusion ≡ Through from to filter → MustLink system from to (Some filter)
    must_through from to filter is = said_as (Through from to filter) is says

    pub must_load : (base slots to : ℕ) (slot : Option ℕ) → inclusion ≡ Load base slots to → slot ≡ slot_in system slots own → (a b : ℕ) → slot ≡ Some a
        → ◌≡◌ {A = Option ℕ} (Some to) (Some b) → MustLink system a b None
    must_load base slots to slot is there a b e f = subst (λ n. MustLink system a n None) (same_some to b f) ((said_as (Load base slots to) is says) a (sym there ∙ e))

    pub must_store : (from base slots : ℕ) (slot : Option ℕ) → inclusion ≡ Store from base slots → slot ≡ slot_in system slots own → (a b : ℕ)
        → ◌≡◌ {A = Option ℕ} (Some from) (Some a) → slot ≡ Some b → MustLink system a b None
    must_store from base slots slot is there a b e f = subst (λ n. MustLink system n b None) (same_some from a e) ((said_as (Store from base slots) is says) b (sym there ∙ f))

    pub must_between : (source target slots : ℕ) (slot behind : Option ℕ) → inclusion ≡ Between source target slots → slot ≡ slot_in system slots own
        → behind ≡ slot_in system slots other → (a b : ℕ) → slot ≡ Some a → behind ≡ Some b → MustLink system a b None
    must_between source target slots slot behind is there beside a b e f = (said_as (Between source target slots) is says) a b (sym there ∙ e) (sym beside ∙ f)

  pub has_expands : (node site : ℕ) → inclusion ≡ Has node site → Holding system looked old new (Some node) site → Expands system looked old new inclusion own other
  has_expands node site is holding = as_said (Has node site) is holding.keeps (holding.had node refl)

  pub each_expands : (base slots site : ℕ) (slot : Option ℕ) → inclusion ≡ HasEach base slots site → slot ≡ slot_in system slots own
      → Holding system looked old new slot site → Expands system looked old new inclusion own other
  each_expands base slots site slot is there holding = as_said (HasEach base slots site) is holding.keeps (λ at e. holding.had at (there ∙ e))

  pub copy_expands : (from to : ℕ) → inclusion ≡ Copy from to → Joining system looked old new (Some from) (Some to) → Expands system looked old new inclusion own other
  copy_expands from to is joining = as_said (Copy from to) is joining.keeps (joining.linked from to refl refl)

  pub through_expands : (from to filter : ℕ) → inclusion ≡ Through from to filter → Linking system looked old new from to (Some filter)
      → Expands system looked old new inclusion own other
  through_expands from to filter is linking = as_said (Through from to filter) is linking.keeps linking.linked

  pub load_expands : (base slots to : ℕ) (slot : Option ℕ) → inclusion ≡ Load base slots to → slot ≡ slot_in system slots own
      → Joining system looked old new slot (Some to) → Expands system looked old new inclusion own other
  load_expands base slots to slot is there joining = as_said (Load base slots to) is joining.keeps (λ at e. joining.linked at to (there ∙ e) refl)

  pub store_expands : (from base slots : ℕ) (slot : Option ℕ) → inclusion ≡ Store from base slots → slot ≡ slot_in system slots own
      → Joining system looked old new (Some from) slot → Expands system looked old new inclusion own other
  store_expands from base slots slot is there joining = as_said (Store from base slots) is joining.keeps (λ at e. joining.linked from at refl (there ∙ e))

  pub between_expands : (source target slots : ℕ) (slot behind : Option ℕ) → inclusion ≡ Between source target slots → slot ≡ slot_in system slots own
      → behind ≡ slot_in system slots other → Joining system looked old new slot behind → Expands system looked old new inclusion own other
  between_expands source target slots slot behind is there beside joining =
      as_said (Between source target slots) is joining.keeps (λ a b e f. joining.linked a b (there ∙ e) (beside ∙ f))
