-- What the references of the objects tell with which a run begins: the array of arguments may refer to strings, and these to their
-- characters, where there is an argument.
use Rattle.std.proofs.Common.{◌≡◌, refl, subst, sym, arith, ℕ, ◌<◌, Bool, true, List, [], ◌∷◌, length, map, Option, Some}
use Rattle.std.specs.List.{flat_map}
use Rattle.cb_heap.specs.Follows.{Follows}
use Rattle.cb_link.specs.Program.{Linked}
use Rattle.cb_machine.specs.Plans.{objects_of}
use Rattle.cb_machine.specs.Sites.{argument_characters, argument_strings, arguments}
use Rattle.cb_plain.specs.State.{Object}
use Rattle.cb_interp.specs.Starting.{first_objects}
use Rattle.cb_interp.proofs.Allowed.{pair_of}
use Rattle.cb_interp.proofs.TurnsStartingPlan.{objects_first, placed_first}

pub record FirstPairs (allows : ℕ → ℕ → Bool) : Type 0 where
  pub refers : allows arguments argument_strings ≡ true
  pub holds : allows argument_strings argument_characters ≡ true

pub first_pairs : (allows : ℕ → ℕ → Bool) (program : Linked) (given : List (List ℕ)) → 0 < length given → Follows allows (first_objects program given) → FirstPairs allows
first_pairs allows program [] some follows = absurd (omega (arith, some))
first_pairs allows program (units ∷ given) some follows =
    let all : List (Option Object) = map Some (flat_map objects_of (placed_first program (units ∷ given))) in
    let same : Follows allows all = subst (Follows allows) (sym (objects_first program (units ∷ given))) follows in
    record {
      refers = pair_of allows all 1 2 _ _ same refl refl (0, omega arith, refl);
      holds = pair_of allows all 3 1 _ _ same refl refl (0, omega arith, refl);
    }
