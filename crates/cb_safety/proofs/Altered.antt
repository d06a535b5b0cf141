-- Plans in whose state an object gets other contents, which may name what is placed.
use Rattle.std.proofs.Common.{◌≡◌, ◌∙◌, ap, arith, refl, sym, subst, ℕ, zero, suc, List, [], ◌∷◌, ◌++◌, length, map, Option, Some, None, option_map, slice_get}
use Rattle.std.specs.List.{fold}
use Rattle.cb_link.specs.Program.{Linked}
use Rattle.cb_machine.specs.Plans.{Placing, Plan, objects_of, with_left}
use Rattle.cb_plain.specs.State.{Content, Object}
use Rattle.cb_plain.specs.Updates.{kept, object_in, with_contents_at, with_contents_in}
use Rattle.cb_safety.specs.Heap.{IsHeap, IsObject}
use Rattle.cb_safety.specs.Kinds.{Kinds, kind_in, kinds_of}
use Rattle.cb_safety.specs.States.{AreRoots}
use Rattle.cb_safety.proofs.Assigned.{never}
use Rattle.cb_safety.proofs.Changed.{heap_set, kinds_set, with_contents}
use Rattle.cb_safety.proofs.Enlarged.{put}
use Rattle.cb_safety.proofs.Grown.{Grows}
use Rattle.cb_safety.proofs.StringsMade.{IsGood, objects_in}

-- ---- objects with others behind them

kept_more : (objects more : List (Option Object)) (place : ℕ) (object : Object) → kept (slice_get objects place) ≡ Some object → kept (slice_get (objects ++ more) place) ≡ Some object
kept_more [] more place object is = never is
kept_more (entry ∷ objects) more zero object is = is
kept_more (entry ∷ objects) more (suc place) object is = kept_more objects more place object is

pub object_placed : (placed : List Placing) (objects : List (Option Object)) (place : ℕ) (object : Object) → object_in objects (suc place) ≡ Some object
    → object_in (fold put objects placed) (suc place) ≡ Some object
object_placed [] objects place object is = is
object_placed (placing ∷ placed) objects place object is =
    object_placed placed (put objects placing) place object (kept_more objects (map Some (objects_of placing)) place object is)

altered_append : (objects more : List (Option Object)) (place : ℕ) (object : Object) (contents : List Content) → kept (slice_get objects place) ≡ Some object
    → with_contents_in (objects ++ more) (suc place) contents ≡ with_contents_in objects (suc place) contents ++ more
altered_append [] more place object contents is = never is
altered_append (entry ∷ objects) more zero object contents is = refl
altered_append (entry ∷ objects) more (suc place) object contents is = ap (λ (objects : List (Option Object)). entry ∷ objects) (altered_append objects more place object contents is)

altered_placed : (placed : List Placing) (objects : List (Option Object)) (place : ℕ) (object : Object) (contents : List Content) → object_in objects (suc place) ≡ Some object
    → fold put (with_contents_in objects (suc place) contents) placed ≡ with_contents_in (fold put objects placed) (suc place) contents
altered_placed [] objects place object contents is = refl
altered_placed (placing ∷ placed) objects place object contents is =
    ap (λ (objects : List (Option Object)). fold put objects placed) (sym (altered_append objects (map Some (objects_of placing)) place object contents is))
    ∙ altered_placed placed (put objects placing) place object contents (kept_more objects (map Some (objects_of placing)) place object is)

altered_length : (objects : List (Option Object)) (place : ℕ) (contents : List Content) → length (with_contents_in objects (suc place) contents) ≡ length objects
altered_length [] place contents = refl
altered_length (entry ∷ objects) zero contents = refl
altered_length (entry ∷ objects) (suc place) contents = ap suc (altered_length objects place contents)

-- ---- plans

abbrev pub altered : Plan → ℕ → List Content → Plan
altered plan serial contents = with_left plan (with_contents_at plan.left serial contents)

pub altered_good : (program : Linked) (plan : Plan) (place : ℕ) (object : Object) (contents : List Content) → IsGood program plan → object_in plan.left.objects (suc place) ≡ Some object
    → IsObject program (kinds_of (objects_in plan)) (with_contents object contents) → IsGood program (altered plan (suc place) contents)
altered_good program plan place object contents good there is =
    let same : objects_in (altered plan (suc place) contents) ≡ with_contents_in (objects_in plan) (suc place) contents =
    altered_placed plan.placed plan.left.objects place object contents there in
    let heap = heap_set program (objects_in plan) place object contents good.typed.heap (object_placed plan.placed plan.left.objects place object there) is in
    let kinds : kinds_of (with_contents_in (objects_in plan) (suc place) contents) ≡ kinds_of (objects_in plan) = kinds_set (objects_in plan) (suc place) contents in
    record {
      typed = record {
        heap = subst (IsHeap program) (sym same) heap;
        roots = subst (λ (kinds : Kinds). AreRoots program kinds plan.left.roots) (sym (ap kinds_of same ∙ kinds)) good.typed.roots;
        input = good.typed.input;
      };
      next =
          let long : length (objects_in (altered plan (suc place) contents)) ≡ length (objects_in plan) = ap length same ∙ altered_length (objects_in plan) place contents in
          let old = good.next in
          omega (arith, long, old);
    }

pub altered_grows : (kinds : Kinds) (plan : Plan) (place : ℕ) (object : Object) (contents : List Content) → object_in plan.left.objects (suc place) ≡ Some object → Grows kinds plan
    → Grows kinds (altered plan (suc place) contents)
altered_grows kinds plan place object contents there grows = record {
  more = grows.more;
  is = ap kinds_of (altered_placed plan.placed plan.left.objects place object contents there) ∙ kinds_set (objects_in plan) (suc place) contents ∙ grows.is;
  runs = grows.runs;
}

-- the kind of an object that is there
pub kind_there : (objects : List (Option Object)) (place : ℕ) (object : Object) → object_in objects (suc place) ≡ Some object → kind_in (kinds_of objects) (suc place) ≡ Some object.kind
kind_there [] place object is = never is
kind_there (None ∷ objects) zero object is = never is
kind_there (Some first ∷ objects) zero object is = ap (option_map (λ (object : Object). object.kind)) is
kind_there (entry ∷ objects) (suc place) object is = kind_there objects place object is
