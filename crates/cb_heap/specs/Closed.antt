-- Views in which nothing names an object that isn't kept, and collections.
use Rattle.std.specs.Prelude.{◌≡◌, ℕ, List, [], Option, Some, None, IsTrue, length}
use Rattle.std.specs.List.{flat_map, list_all}
use Rattle.cb_plain.specs.Reach.{root_references, unless_null}
use Rattle.cb_plain.specs.State.{Content, Number, Object, Reference}
use Rattle.cb_heap.specs.Kept.{is_held, keep, residents}
use Rattle.cb_heap.specs.Reading.{View}

-- the references that kept objects hold
abbrev pub reference_in_word : Content → List ℕ
reference_in_word (Number number) = []
reference_in_word (Reference serial) = unless_null serial

abbrev pub references_in_entry : Option Object → List ℕ
references_in_entry None = []
references_in_entry (Some object) = flat_map reference_in_word object.contents

abbrev pub references_in : List (Option Object) → List ℕ
references_in objects = flat_map references_in_entry objects

-- every root and every reference in a kept object names a kept object
pub record IsClosed (view : View) : Type 0 where
  pub roots : IsTrue (list_all (is_held view.objects) (root_references view.roots))
  pub objects : IsTrue (list_all (is_held view.objects) (references_in view.objects))

-- a collection: some objects go, all else stays as it is, and nothing that is left names one that went
pub record Collects (old new : View) : Type 0 where
  pub roots : new.roots ≡ old.roots
  pub objects : new.objects ≡ keep (residents new.objects) old.objects
  pub count : length new.objects ≡ length old.objects
  pub closed : IsClosed new
