-- Constructors of boxes: what they set.
use Rattle.std.proofs.Common.{◌≡◌, ◌∙◌, ap, ap₂, refl, sym, ℕ, ℤ, zero, suc, true, List, [], Option, Some, None, slice_set}
use Rattle.std.proofs.lemmas.Bool.{false≢true}
use Rattle.std.proofs.lemmas.Option.{none-some}
use Rattle.cb_heap.specs.Kept.{content_at, contents_at, is_number, with_content}
use Rattle.cb_heap.specs.Reading.{View, serial_of}
use Rattle.cb_heap.specs.Rules.{Rules}
use Rattle.cb_library.specs.declared.native.Native.{Native}
use Rattle.cb_link.specs.Program.{Linked}
use Rattle.cb_machine.specs.Builders.{sets_number}
use Rattle.cb_machine.specs.Natives.{performed}
use Rattle.cb_machine.specs.Performing.{Call, Gives, Performed, on_object, stops, value_slot, with_word}
use Rattle.cb_machine.specs.Plans.{leaving}
use Rattle.cb_machine.specs.Sites.{null_pointer}
use Rattle.cb_plain.specs.State.{Content, Number, Object, Roots}
use Rattle.cb_plain.specs.Updates.{object_in, with_contents_in}
use Rattle.cb_plain.specs.declared.value.Value.{Value}
use Rattle.cb_plain.specs.declared.want.Want.{Want}
use Rattle.cb_natives.specs.Making.{Asks, Performs, Throws, machine_in, state_in}
use Rattle.cb_natives.specs.MakingNumbers.{SetsBox, sets_box}
use Rattle.cb_natives.specs.declared.answers.Exception.TheVariants as exceptions
use Rattle.cb_natives.specs.declared.number_boxes.Setting.{Setting}

-- ---- an object that is there

contents_none : (objects : List (Option Object)) (serial word : ℕ) → object_in objects serial ≡ None → content_at objects serial word ≡ None
contents_none objects serial word none = rw none refl

pub object_there : (objects : List (Option Object)) (serial word : ℕ) → is_number (content_at objects serial word) ≡ true
    → (object : Object) × (object_in objects serial ≡ Some object)
object_there objects serial word is = go (object_in objects serial) refl where
  go : (found : Option Object) → object_in objects serial ≡ found → (object : Object) × (object_in objects serial ≡ Some object)
  go None same = absurd (false≢true (sym (ap is_number (contents_none objects serial word same)) ∙ is))
  go (Some object) same = (object, same)

pub on_there : (call : Call) (serial : ℕ) (object : Object) (go : Object → Option Performed) → object_in call.state.objects serial ≡ Some object
    → on_object call serial go ≡ go object
on_there call zero object go there = absurd (none-some object there)
on_there call (suc place) object go there = rw there refl

-- ---- what it asks for and does

module _ (objects : List (Option Object)) (index : ℕ → ℕ) (native : Native) (arguments : List Value) (setting : Setting)
    (sets : SetsBox objects index native arguments setting) (program : Linked) where
  abbrev view_with : Roots → View
  view_with roots = record { roots = roots; objects = objects }

  abbrev call_in : Roots → ℕ → List ℕ → List ℕ → Call
  call_in roots frames input printed = record { machine = machine_in program frames; state = state_in (view_with roots) input printed }

  abbrev serial : ℕ
  serial = serial_of index setting.at

  none_stops : (roots : Roots) (frames : ℕ) (input printed : List ℕ) → setting.at ≡ 0
      → performed (machine_in program frames) (state_in (view_with roots) input printed) native arguments ≡ stops (call_in roots frames input printed) null_pointer
  none_stops roots frames input printed none =
      sets.performs (machine_in program frames) (state_in (view_with roots) input printed)
      ∙ ap (λ (at : ℕ). sets_box (call_in roots frames input printed) (serial_of index at) setting.number) none

  pub none_throws : setting.at ≡ 0 → (roots : Roots) → Throws program (view_with roots) native arguments exceptions.NullPointer
  none_throws none roots frames input printed = none_stops roots frames input printed none

  pub asks_some : (roots : Roots) (wants : List Want) → Asks program (view_with roots) native arguments wants → setting.at ≡ 0 → ⊥
  asks_some roots wants asks none =
      let makes = asks 0 [] [] in
      let gives = makes.is in
      let throws = none_stops roots 0 [] [] none in
      cc

  module _ (some : setting.at ≡ 0 → ⊥) where
    abbrev found : (object : Object) × (object_in objects serial ≡ Some object)
    found = object_there objects serial 0 (sets.there some)

    gives_so : (roots : Roots) (frames : ℕ) (input printed : List ℕ)
        → performed (machine_in program frames) (state_in (view_with roots) input printed) native arguments
        ≡ Some (Gives (leaving (with_word (state_in (view_with roots) input printed) serial found.0 value_slot (Number setting.number))) [])
    gives_so roots frames input printed =
        sets.performs (machine_in program frames) (state_in (view_with roots) input printed)
        ∙ on_there (call_in roots frames input printed) serial found.0 (sets_number (call_in roots frames input printed) serial setting.number) found.1

    pub some_asks : (roots : Roots) → Asks program (view_with roots) native arguments []
    some_asks roots frames input printed = record {
      own = leaving (with_word (state_in (view_with roots) input printed) serial found.0 value_slot (Number setting.number));
      answer = [];
      is = gives_so roots frames input printed;
      asks = refl;
    }

    contents_so : contents_at objects serial ≡ found.0.contents
    contents_so = rw found.1 refl

    pub some_set : {Facts : Type 0} (rules : Rules Facts) (facts now : Facts) (kept : List (Option Object)) (number : ℤ) → number ≡ setting.number
        → kept ≡ with_content objects serial 0 (Number number) → now ≡ facts
        → (roots : Roots) → Performs rules program native arguments (view_with roots) facts (record { roots = roots; objects = kept }) now []
    some_set rules facts now kept number is put same roots frames input printed = record {
      own = leaving (with_word (state_in (view_with roots) input printed) serial found.0 value_slot (Number setting.number));
      is = gives_so roots frames input printed;
      steps = ap (λ (objects : List (Option Object)). state_in (record { roots = roots; objects = objects }) input printed)
          (put
          ∙ ap₂ (λ (contents : List Content) (number : ℤ). with_contents_in objects serial (slice_set contents 0 (Number number))) contents_so is);
      knows = same;
    }
