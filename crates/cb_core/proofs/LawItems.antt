-- What isn't left out: no item is found where each is none.
use Rattle.std.proofs.Common.{◌≡◌, ◌≢◌, Bool, true, false, ℕ, List, [], ◌∷◌, Option, Some, None, ◌==◌, ◌&&◌, refl, sym, subst}
use Rattle.std.specs.List.{AllByRecursion}
use Rattle.std.specs.Cmp.Lexicographic.{same_text}
use Rattle.std.proofs.lemmas.Bool.{eqb-true}
use Rattle.cb_classfile.specs.declared.feature.Feature.{Feature}
use Rattle.cb_classfile.specs.Attributes.{is_text}
use Rattle.cb_classfile.specs.Profile.{first_of, item_if}

pub none_first : (items : List (Option Feature)) → AllByRecursion (λ item. item ≡ None) items → first_of items ≡ None
none_first [] all = refl
none_first (None ∷ items) all = none_first items all.1
none_first (Some item ∷ items) all = all.0

-- none is found where the test fails
test_fails : (test : Bool) (item : Feature) → (test ≡ true → ⊥) → item_if test item ≡ None
test_fails true item fails = absurd (fails refl)
test_fails false item fails = refl

pub differ_none : (one other : ℕ) (item : Feature) → (one ≡ other → ⊥) → item_if (one == other) item ≡ None
differ_none one other item differ = test_fails (one == other) item (λ is. differ (eqb-true one other is))

-- what has another name is none
first_holds : (one other : Bool) → (one && other) ≡ true → one ≡ true
first_holds true other is = refl
first_holds false other is = is

pub other_name : (name text : List ℕ) (found : Option (List ℕ)) (more : Bool) (item : Feature) → text ≢ name → found ≡ Some text → item_if (is_text name found && more) item ≡ None
other_name name text found more item differ is =
    test_fails (is_text name found && more) item (λ holds. differ (same_text text name (sym (subst (λ one. is_text name one ≡ true) is (first_holds (is_text name found) more holds)))))
