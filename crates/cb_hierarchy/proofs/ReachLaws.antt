-- What is reached upwards is what overrides.
use Rattle.std.proofs.Common.{◌≡◌, ◌≢◌, ◌∙◌, inl, inr, ap, ap₂, arith, refl, subst, sym, ◌≤◌, get_or, map, set, take, ◌+◌, ℕ, Bool, true, false, cond, not, ◌<◌, ◌&&◌, ◌||◌, ◌==◌, List, [], ◌∷◌, ◌++◌, length, Option, Some, None, option_map}
use Rattle.std.specs.Prelude.{filter, option_and_then, slice_get}
use Rattle.std.proofs.lemmas.Bool.{cases_eq, eqb-true}
use Rattle.std.proofs.lemmas.List.{append-nil, get_or_default, take_all, take_more}
use Rattle.std.proofs.lemmas.List.Elements.{Contains-append_left, Contains-push_cases, filter-append}
use Rattle.std.proofs.lemmas.Option.{slice_get-get_or, slice_get-map, slice_get_within}
use Rattle.cb_hierarchy.specs.declared.class.Class.{Class}
use Rattle.std.specs.Prelude.{Vec}
use Rattle.std.specs.List.{Contains, flat_map}
use Rattle.std.specs.declared.alloc.Global.{Global}
use Rattle.cb_hierarchy.specs.declared.entry.Entry.{Entry}
use Rattle.cb_hierarchy.specs.declared.entry.Entry.TheVariants.{Upwards}
use Rattle.cb_hierarchy.specs.declared.entry.Reached.{Reached}
use Rattle.cb_hierarchy.specs.declared.member.Method.{Method}
use Rattle.cb_hierarchy.specs.declared.selected.Selected.TheVariants as chosen
use Rattle.cb_hierarchy.specs.Classes.{is_interface, listed, parents, superclass, superinterfaces}
use Rattle.cb_hierarchy.specs.Inner.{IsParentsFirst}
use Rattle.cb_hierarchy.specs.Members.{method_of}
use Rattle.cb_hierarchy.specs.Orders.{upwards, upwards_by}
use Rattle.cb_hierarchy.specs.InnerReaching.{IsMade, IsRowBy, can_override, entry_by, entry_in, entry_among, entry_for, entry_of, entry_selected, is_of_interface, opens, reach, reach_class, reach_interface, reach_more, reach_own, reached_at, reached_in, signature_in, signature_of}
use Rattle.cb_hierarchy.specs.Resolution.{is_private, method_is, most_specific}
use Rattle.cb_hierarchy.specs.Selection.{declared_upwards, entry_at, first_or, implementing, of_method, overrides_above, overriding, seen, selected}
use Rattle.cb_hierarchy.proofs.Locals.{upwards_local}
use Rattle.cb_hierarchy.proofs.OverrideTables.{between_them, itself_there}
use Rattle.cb_hierarchy.proofs.RowLaws.{slice_get_other, slice_get_same, there}
use Rattle.cb_hierarchy.proofs.Turned.{enough}

and_false : (a : Bool) → ((a && false) || false) ≡ false
and_false true = refl
and_false false = refl

and_true : (a : Bool) → ((a && true) || false) ≡ a
and_true true = refl
and_true false = refl

module _ (classes : List Class) (methods : List Method) (resolved : ℕ) where
  -- of the methods of classes alone
  abbrev of_classes : List ℕ → Option Reached
  of_classes [] = None
  of_classes (method ∷ above) = reach_class classes methods resolved method (of_classes above)

  abbrev known : ℕ → Option Reached → Bool
  known method None = false
  known method (Some reached) = can_override classes reached.is_open (slice_get methods method) (slice_get methods resolved)

  step : (method other : ℕ) (above : Option Reached)
      → ((seen classes (slice_get methods method) (slice_get methods other) && ((other == resolved) || known other above)) || known method above)
      ≡ known method (reach_class classes methods resolved other above)
  step method other None = go (other == resolved) refl
    where
      go : (test : Bool) → (other == resolved) ≡ test → ((seen classes (slice_get methods method) (slice_get methods other) && (test || false)) || false)
          ≡ known method (cond test (Some (record { method = other; is_open = false })) None)
      go true same = and_true (seen classes (slice_get methods method) (slice_get methods other)) ∙ ap (λ other. seen classes (slice_get methods method) (slice_get methods other)) (eqb-true other resolved same)
      go false apart = and_false (seen classes (slice_get methods method) (slice_get methods other))
  step method other (Some reached) = go (other == resolved) refl
    where
      go : (test : Bool) → (other == resolved) ≡ test
          → ((seen classes (slice_get methods method) (slice_get methods other) && (test || known other (Some reached))) || known method (Some reached))
          ≡ can_override classes (reached.is_open || opens classes (slice_get methods other) (slice_get methods resolved)) (slice_get methods method) (slice_get methods resolved)
      go true same =
          subst (λ between. ((seen classes (slice_get methods method) (slice_get methods between) && true) || known method (Some reached))
          ≡ can_override classes (reached.is_open || opens classes (slice_get methods between) (slice_get methods resolved)) (slice_get methods method) (slice_get methods resolved))
          (sym (eqb-true other resolved same))
          (itself_there classes reached.is_open (slice_get methods method) (slice_get methods resolved))
      go false apart = between_them classes reached.is_open (slice_get methods method) (slice_get methods other) (slice_get methods resolved)

  above_is : (above : List ℕ) (method : ℕ) → overrides_above classes methods method above resolved ≡ known method (of_classes above)
  above_is [] method = refl
  above_is (other ∷ above) method =
      ap₂ (λ there beyond. (seen classes (slice_get methods method) (slice_get methods other) && ((other == resolved) || there)) || beyond) (above_is above other) (above_is above method)
      ∙ step method other (of_classes above)

  overriding_is : (above : List ℕ) → overriding classes methods resolved above ≡ option_map (λ reached. reached.method) (of_classes above)
  overriding_is [] = refl
  overriding_is (method ∷ above) =
      ap₂ (λ there (others : Option ℕ). cond ((method == resolved) || there) (Some method) others) (above_is above method) (overriding_is above)
      ∙ go (of_classes above)
    where
      one : (test : Bool) → cond (test || false) (Some method) None ≡ option_map (λ (reached : Reached). reached.method) (cond test (Some (record { method = method; is_open = false })) None)
      one true = refl
      one false = refl

      other : (test : Bool) (number : ℕ) → cond test (Some method) (Some number) ≡ Some (cond test method number)
      other true number = refl
      other false number = refl

      go : (reached : Option Reached) → cond ((method == resolved) || known method reached) (Some method) (option_map (λ reached. reached.method) reached)
          ≡ option_map (λ reached. reached.method) (reach_class classes methods resolved method reached)
      go None = one (method == resolved)
      go (Some reached) = other ((method == resolved) || known method (Some reached)) reached.method

  abbrev of_interfaces : List ℕ → Option Reached
  of_interfaces [] = None
  of_interfaces (method ∷ above) = reach_interface methods method (of_interfaces above)

  implementing_is : (above : List ℕ) → implementing methods above ≡ option_map (λ reached. reached.method) (of_interfaces above)
  implementing_is [] = refl
  implementing_is (method ∷ above) =
      ap (λ (others : Option ℕ). cond (method_is methods (λ own. not (is_private own.visibility)) method) (Some method) others) (implementing_is above)
      ∙ go (method_is methods (λ own. not (is_private own.visibility)) method)
    where
      go : (test : Bool) → cond test (Some method) (option_map (λ reached. reached.method) (of_interfaces above))
          ≡ option_map (λ reached. reached.method) (cond test (Some (record { method = method; is_open = false })) (of_interfaces above))
      go true = refl
      go false = refl

  reach_of_class : is_of_interface classes methods resolved ≡ false → (above : List ℕ) → reach classes methods resolved above ≡ of_classes above
  reach_of_class is [] = refl
  reach_of_class is (method ∷ above) =
      ap₂ (λ test (reached : Option Reached). cond test (reach_interface methods method reached) (reach_class classes methods resolved method reached)) is (reach_of_class is above)

  reach_of_interface : is_of_interface classes methods resolved ≡ true → (above : List ℕ) → reach classes methods resolved above ≡ of_interfaces above
  reach_of_interface is [] = refl
  reach_of_interface is (method ∷ above) =
      ap₂ (λ test (reached : Option Reached). cond test (reach_interface methods method reached) (reach_class classes methods resolved method reached)) is (reach_of_interface is above)

  -- what is reached is what overrides or implements
  upwards_is : (test : Bool) → is_of_interface classes methods resolved ≡ test → (above : List ℕ)
      → cond test (implementing methods above) (overriding classes methods resolved above) ≡ option_map (λ reached. reached.method) (reach classes methods resolved above)
  upwards_is true is above = implementing_is above ∙ ap (option_map (λ reached. reached.method)) (sym (reach_of_interface is above))
  upwards_is false is above = overriding_is above ∙ ap (option_map (λ reached. reached.method)) (sym (reach_of_class is above))

  chosen_is : (reached : Option Reached) (others : List ℕ) → first_or methods (option_map (λ reached. reached.method) reached) others ≡ entry_selected (entry_of methods reached (entry_among others))
  chosen_is None [] = refl
  chosen_is None (method ∷ []) = refl
  chosen_is None (method ∷ other ∷ others) = refl
  chosen_is (Some reached) others = go (method_is methods (λ own. own.is_abstract) reached.method)
    where
      go : (test : Bool) → cond test chosen.Abstract (chosen.Method reached.method) ≡ entry_selected (Upwards test reached.is_open reached.method)
      go true = refl
      go false = refl

  -- what is selected
  pub selected_is : (class : ℕ) (method : Method) → slice_get methods resolved ≡ Some method → selected classes methods class resolved ≡ entry_selected (entry_for classes methods class resolved)
  selected_is class method is =
      ap (of_method classes methods class resolved) is
      ∙ ap (λ upwards. first_or methods upwards (most_specific classes methods class method.declared.signature))
      (upwards_is (is_interface classes method.declared.class) of_interface (declared_upwards classes methods class method.declared.signature))
      ∙ chosen_is (reach classes methods resolved (declared_upwards classes methods class method.declared.signature)) (most_specific classes methods class method.declared.signature)
      ∙ ap (λ signature. entry_selected (entry_of methods (reach classes methods resolved (declared_upwards classes methods class signature)) (entry_among (most_specific classes methods class signature))))
      (sym (ap signature_in is))
    where
      of_interface : is_of_interface classes methods resolved ≡ is_interface classes method.declared.class
      of_interface = rw is refl

  -- one class more
  own_more : (own : Option ℕ) (above : List ℕ) → reach classes methods resolved (filter (method_is methods (λ method. not method.is_static)) (listed own) ++ above)
      ≡ reach_own classes methods resolved own (reach classes methods resolved above)
  own_more None above = refl
  own_more (Some method) above = go (method_is methods (λ method. not method.is_static) method)
    where
      go : (test : Bool) → reach classes methods resolved (cond test (method ∷ []) [] ++ above)
          ≡ cond test (reach_more classes methods resolved method (reach classes methods resolved above)) (reach classes methods resolved above)
      go true = refl
      go false = refl

  reached_back : (reached : Option Reached) (others : List ℕ) → reached_in (entry_of methods reached (entry_among others)) ≡ reached
  reached_back None [] = refl
  reached_back None (method ∷ []) = refl
  reached_back None (method ∷ other ∷ others) = refl
  reached_back (Some reached) others = refl

  abbrev listed_of : ℕ → List ℕ
  listed_of number = listed (method_of methods number (signature_of methods resolved))

  -- the methods upwards from a class are its own and those upwards from its superclass
  upwards_from : (order : List ℕ) → IsParentsFirst classes order → (class : ℕ) (own : Class) → class < length classes → slice_get classes class ≡ Some own
      → (rows : List (Vec Entry Global)) → ((parent : ℕ) → Contains (parents classes class) parent → IsMade classes methods rows parent) → resolved < length methods
      → entry_for classes methods class resolved ≡ entry_by classes methods rows own.superclass class resolved
  upwards_from order first class own within is rows made below =
      ap (λ reached. entry_of methods reached (entry_among (most_specific classes methods class (signature_of methods resolved))))
      (ap (λ numbers. reach classes methods resolved (filter (method_is methods (λ method. not method.is_static)) (flat_map listed_of numbers)))
      (sym (enough classes order first (upwards_by classes) (upwards_local classes) class within) ∙ ap (λ numbers. class ∷ flat_map (upwards classes) numbers) super)
      ∙ ap (reach classes methods resolved) (filter-append (method_is methods (λ method. not method.is_static)) (listed_of class) (flat_map listed_of (flat_map (upwards classes) (listed own.superclass))))
      ∙ own_more (method_of methods class (signature_of methods resolved)) (filter (method_is methods (λ method. not method.is_static)) (flat_map listed_of (flat_map (upwards classes) (listed own.superclass))))
      ∙ ap (reach_own classes methods resolved (method_of methods class (signature_of methods resolved))) (go own.superclass super))
    where
      super : superclass classes class ≡ listed own.superclass
      super = rw is refl

      go : (parent : Option ℕ) → superclass classes class ≡ listed parent
          → reach classes methods resolved (filter (method_is methods (λ method. not method.is_static)) (flat_map listed_of (flat_map (upwards classes) (listed parent)))) ≡ reached_at rows parent resolved
      go None is = refl
      go (Some parent) is =
          ap (λ numbers. reach classes methods resolved (filter (method_is methods (λ method. not method.is_static)) (flat_map listed_of numbers))) (append-nil (upwards classes parent))
          ∙ sym (reached_back (reach classes methods resolved (declared_upwards classes methods parent (signature_of methods resolved))) (most_specific classes methods parent (signature_of methods resolved)))
          ∙ sym (ap (option_and_then reached_in) (made parent
          (Contains-append_left (superclass classes class) (superinterfaces classes class) parent (subst (λ numbers. Contains numbers parent) (sym is) (0, omega arith, refl))) resolved below))

-- what a table has by its rows
pub shown : (rows : List (Vec Entry Global)) (class method : ℕ) → entry_at (map (λ row. map entry_selected row.items) rows) class method ≡ option_map entry_selected (entry_in rows class method)
shown rows class method =
    ap (option_and_then (λ row. slice_get row method)) (slice_get-map (λ row. map entry_selected row.items) rows class)
    ∙ go (slice_get rows class)
  where
    go : (row : Option (Vec Entry Global)) → option_and_then (λ row. slice_get row method) (option_map (λ row. map entry_selected row.items) row)
        ≡ option_map entry_selected (option_and_then (λ row. slice_get row.items method) row)
    go None = refl
    go (Some row) = slice_get-map entry_selected row.items method

-- the row of one class more
pub row_more : (classes : List Class) (methods : List Method) (order : List ℕ) → IsParentsFirst classes order → (place class : ℕ) (own : Class) (rows : List (Vec Entry Global)) (row : Vec Entry Global)
    → place < length order → class ≡ get_or order place 0 → slice_get classes class ≡ Some own → length rows ≡ length classes
    → ((done : ℕ) → Contains (take place order) done → IsMade classes methods rows done) → IsRowBy classes methods rows own.superclass class row.items
    → (done : ℕ) → Contains (take (place + 1) order) done → IsMade classes methods (set rows class row) done
row_more classes methods order first place class own rows row within at is many made by done among resolved below =
    elim (cases_eq done class) as (λ _. entry_in (set rows class row) done resolved ≡ Some (entry_for classes methods done resolved)) [
      | inl same ↦
          ap (option_and_then (λ row. slice_get row.items resolved)) (ap (slice_get (set rows class row)) same ∙ slice_get_same rows class row inside)
          ∙ by resolved below
          ∙ ap Some (sym (upwards_from classes methods resolved order first class own here is rows
          (λ parent of. made parent (first.behind place class parent (slice_get-get_or order place 0 within ∙ ap Some (sym at)) of)) below) ∙ ap (λ class. entry_for classes methods class resolved) (sym same))
      | inr apart ↦
          ap (option_and_then (λ row. slice_get row.items resolved)) (slice_get_other rows class done row apart)
          ∙ made done (before apart) resolved below
    ]
  where
    here : class < length classes
    here = slice_get_within classes class own is

    inside : class < length rows
    inside = omega (arith, here, many)

    before : done ≢ class → Contains (take place order) done
    before apart =
        elim (Contains-push_cases (take place order) (get_or order place 0) done (subst (λ taken. Contains taken done) (take_more order place 0 within) among)) as (λ _. Contains (take place order) done) [
          | inl earlier ↦ earlier
          | inr same ↦ absurd (apart (sym same ∙ sym at))
        ]

-- each class of the order is one
pub class_within : (classes : List Class) (order : List ℕ) → IsParentsFirst classes order → (place : ℕ) → place < length order → get_or order place 0 < length classes
class_within classes order first place within = first.below (get_or order place 0) (place, within, get_or_default order place (get_or order place 0) 0 within)

-- the whole table
pub table_is : (classes : List Class) (methods : List Method) (order : List ℕ) → IsParentsFirst classes order → (place : ℕ) (rows : List (Vec Entry Global)) → length order ≤ place
    → ((done : ℕ) → Contains (take place order) done → IsMade classes methods rows done) → (class method : ℕ) → class < length classes → method < length methods
    → entry_at (map (λ row. map entry_selected row.items) rows) class method ≡ Some (selected classes methods class method)
table_is classes methods order first place rows all made class method within below =
    shown rows class method
    ∙ ap (option_map entry_selected) (made class (subst (λ taken. Contains taken class) (sym (take_all place order all)) (first.every class within)) method below)
    ∙ ap Some (sym (selected_is classes methods method class (there methods method below).0 (there methods method below).1))
