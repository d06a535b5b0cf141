-- Class objects that the machine places.
use Rattle.std.proofs.Common.{◌≡◌, ◌∙◌, ap, arith, refl, sym, subst, ℕ, zero, suc, pos, ◌<◌, List, [], ◌∷◌, ◌++◌, length, Option, Some, None, slice_get, slice_set}
use Rattle.std.proofs.lemmas.List.{length-set}
use Rattle.std.proofs.lemmas.Option.{none-some}
use Rattle.cb_kinds.specs.declared.basic.Basic.{Basic}
use Rattle.cb_kinds.specs.declared.basic.Basic.TheVariants as basics
use Rattle.cb_link.specs.Program.{Linked}
use Rattle.cb_machine.specs.Machine.{Machine, kind_of_site, listed, or_zero}
use Rattle.cb_machine.specs.Plans.{Plan, object_of, with_left, with_one}
use Rattle.cb_machine.specs.Sites.{class_objects}
use Rattle.cb_machine.specs.Strings.{Placed, class_object}
use Rattle.cb_plain.specs.Roots as plain_roots
use Rattle.cb_plain.specs.State.{Content, Number, Object, Roots}
use Rattle.cb_plain.specs.Updates.{with_entry}
use Rattle.cb_plain.specs.declared.table.Table.TheVariants as tables
use Rattle.cb_verify.specs.Within.{kind_of_class}
use Rattle.cb_safety.specs.Constants.{HasClassObjects}
use Rattle.cb_safety.specs.Heap.{IsObject}
use Rattle.cb_safety.specs.Held.{HasContent}
use Rattle.cb_safety.specs.Kinds.{IsOfKind, Kinds, Refers, kind_in, kinds_of}
use Rattle.cb_safety.specs.States.{AreRoots, IsTable}
use Rattle.cb_safety.proofs.Grown.{Grows, good_one, grows_one, one_put}
use Rattle.cb_safety.proofs.Growing.{kind_behind, kinds_grown}
use Rattle.cb_safety.proofs.StringsMade.{IsGood, good_rooted, objects_in, set_each}
use Rattle.cb_safety.proofs.Throwing.{kind_low}

is_table_set : (program : Linked) (kinds : Kinds) (kind size : ℕ) (entries : List ℕ) (place serial : ℕ) → Refers program kinds kind serial → IsTable program kinds kind size entries
    → IsTable program kinds kind size (slice_set entries place serial)
is_table_set program kinds kind size entries place serial refers table = record {
  count = length-set entries place serial ∙ table.count;
  each = set_each (Refers program kinds kind) entries place serial refers table.each;
}

roots_entered : (program : Linked) (kinds : Kinds) (roots : Roots) (kind serial : ℕ) → Refers program kinds kind_of_class serial → AreRoots program kinds roots
    → AreRoots program kinds (plain_roots.with_entry roots tables.ClassObjects kind serial)
roots_entered program kinds roots kind serial refers are = record {
  frames = are.frames;
  statics = are.statics;
  classes = are.classes;
  tables = record {
    constants = are.tables.constants;
    classes = is_table_set program kinds kind_of_class (length program.kinds) roots.tables.classes kind serial refers are.tables.classes;
    integers = are.tables.integers;
    longs = are.tables.longs;
    characters = are.tables.characters;
    booleans = are.tables.booleans;
  };
  argument = are.argument;
}

class_is : (program : Linked) (has : HasClassObjects program) (kinds : Kinds) (kind : ℕ) → kind < length program.kinds
    → IsObject program kinds (object_of class_objects (kind_of_site program class_objects) (Number (pos kind) ∷ []))
class_is program has kinds kind low = record {
  kind = kind_low program (kind_of_site program class_objects) kind_of_class has.objects.class_object;
  site = has.objects.sited class_objects refl;
  sized = has.objects.sized;
  fields = λ class slot basic own declared.
      let is = has.objects.fields class slot basic own declared in
      record {
        content = Number (pos kind);
        there = ap (slice_get (Number (pos kind) ∷ [])) is.0;
        fits = subst (λ (basic : Basic). HasContent program kinds basic (Number (pos kind))) (sym is.1)
            (HasContent.AnInt basics.Int (pos kind) refl (let few = has.few in record { sfits = omega (arith, low, few) }) refl);
      };
  elements = λ basic place own low. absurd (none-some basic (sym has.objects.no_elements ∙ own));
  few = λ basic own. absurd (none-some basic (sym has.objects.no_elements ∙ own));
  words = (tt, tt);
}

of_kind : (program : Linked) (kinds : Kinds) (kind place : ℕ) → Refers program kinds kind (suc place) → IsOfKind program kinds kind (suc place)
of_kind program kinds kind place (Refers.To own is) = is

there_is : (found : Option ℕ) (place : ℕ) → or_zero found ≡ suc place → found ≡ Some (suc place)
there_is None place is = absurd (cc is)
there_is (Some number) place is = ap Some is

abbrev entered_class : ℕ → Placed → Placed
entered_class kind placed =
    record { serial = placed.serial; plan = with_left placed.plan (with_entry placed.plan.left tables.ClassObjects kind placed.serial) }

abbrev class_or_new : Machine → ℕ → Plan → ℕ → Placed
class_or_new machine kind plan zero =
    entered_class kind (record { serial = plan.next; plan = with_one plan class_objects (kind_of_site machine.program class_objects) (Number (pos kind) ∷ []) })
class_or_new machine kind plan (suc place) = record { serial = suc place; plan = plan }

-- a plan that has placed a class object
pub record HasClassObject (program : Linked) (kinds : Kinds) (placed : Placed) : Type 0 where
  pub good : IsGood program placed.plan
  pub is : IsOfKind program (kinds_of (objects_in placed.plan)) kind_of_class placed.serial
  pub grows : Grows kinds placed.plan

pub class_made : (machine : Machine) (has : HasClassObjects machine.program) (kinds : Kinds) (kind : ℕ) (plan : Plan) → kind < length machine.program.kinds
    → IsGood machine.program plan → Grows kinds plan → HasClassObject machine.program kinds (class_object machine kind plan)
class_made machine has kinds kind plan low good grows = by (listed plan.left.roots.tables.classes kind) refl
  where
    own : ℕ
    own = kind_of_site machine.program class_objects

    contents : List Content
    contents = Number (pos kind) ∷ []

    further : Plan
    further = with_one plan class_objects own contents

    more : IsGood machine.program further
    more = good_one machine.program plan class_objects own contents good (class_is machine.program has (kinds_of (objects_in plan) ++ Some own ∷ []) kind low)

    is_class : IsOfKind machine.program (kinds_of (objects_in further)) kind_of_class plan.next
    is_class = record {
      own = own;
      there = ap (λ (objects : List (Option Object)). kind_in (kinds_of objects) plan.next) (one_put plan class_objects own contents)
          ∙ ap (λ (kinds : Kinds). kind_in kinds plan.next) (kinds_grown (objects_in plan) (object_of class_objects own contents ∷ []))
          ∙ ap (kind_in (kinds_of (objects_in plan) ++ Some own ∷ [])) good.next ∙ kind_behind (objects_in plan) own [];
      goes = has.objects.class_object;
    }

    further_grows : Grows kinds further
    further_grows = grows_one kinds plan class_objects own contents grows

    by : (serial : ℕ) → listed plan.left.roots.tables.classes kind ≡ serial → HasClassObject machine.program kinds (class_or_new machine kind plan serial)
    by zero none = record {
      good = good_rooted machine.program further (plain_roots.with_entry further.left.roots tables.ClassObjects kind plan.next) more
          (roots_entered machine.program (kinds_of (objects_in further)) further.left.roots kind plan.next (Refers.To plan.next is_class) more.typed.roots);
      is = is_class;
      grows = record { more = further_grows.more; is = further_grows.is; runs = further_grows.runs };
    }
    by (suc place) some = record {
      good = good;
      is = of_kind machine.program (kinds_of (objects_in plan)) kind_of_class place
          (good.typed.roots.tables.classes.each kind (suc place) (there_is (slice_get plan.left.roots.tables.classes kind) place some));
      grows = grows;
    }
