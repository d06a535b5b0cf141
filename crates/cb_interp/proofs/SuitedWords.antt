-- Where an instruction of a typed state is done the words of objects hold what is read of them.
use Rattle.std.proofs.Common.{◌≡◌, ◌∙◌, ap, arith, refl, sym, subst, ℕ, ◌<◌, ◌^◌, Bool, true, false, List, [], ◌∷◌, length, Option, Some, None, zero, suc, IsTrue}
use Rattle.std.proofs.lemmas.Bool.{false≢true}
use Rattle.std.proofs.lemmas.Option.{same_Some}
use Rattle.std.specs.List.{list_all}
use Rattle.std.specs.Prelude.{is_some, slice_get, ◌&&◌}
use Rattle.cb_frames.specs.Tops.{on_top, stack_in, top_stack}
use Rattle.cb_heap.proofs.Laws.{stack_held}
use Rattle.cb_heap.specs.Closed.{IsClosed}
use Rattle.cb_heap.specs.Kept.{content_at, contents_at, is_held}
use Rattle.cb_insn.specs.declared.insn.Insn.{Insn}
use Rattle.cb_kinds.specs.declared.basic.Basic.{Basic}
use Rattle.cb_kinds.specs.declared.basic.Basic.TheVariants as basics
use Rattle.cb_link.specs.Decoding.{decoded_as}
use Rattle.cb_link.specs.Named.{code_at, insn_in, named}
use Rattle.cb_link.specs.Program.{Linked}
use Rattle.cb_link.specs.declared.named.Named.TheVariants as meanings
use Rattle.cb_machine.specs.Arrays.{element_of}
use Rattle.cb_machine.specs.Machine.{Machine}
use Rattle.cb_machine.specs.Values.{sort_of_basic}
use Rattle.cb_plain.specs.Reach.{references_in}
use Rattle.cb_plain.specs.State.{Content, Frame, MethodFrame, OfMethod, State}
use Rattle.cb_plain.specs.Updates.{object_in}
use Rattle.cb_plain.specs.declared.value.Value.{Value}
use Rattle.cb_plain.specs.declared.value.Value.TheVariants as values
use Rattle.cb_shapes.specs.Shapes.{action_of}
use Rattle.cb_shapes.specs.Sorts.{sort_of_elements}
use Rattle.cb_shapes.specs.declared.action.Action.TheVariants as actions
use Rattle.cb_shapes.specs.declared.elements.Elements.{Elements}
use Rattle.cb_shapes.specs.declared.sort.Sort.{Sort}
use Rattle.cb_shapes.specs.declared.sort.Sort.TheVariants as sorts
use Rattle.cb_verify.specs.Typed.{IsTyped}
use Rattle.cb_safety.specs.Heap.{Holds}
use Rattle.cb_safety.specs.Held.{HasContent}
use Rattle.cb_safety.specs.Kinds.{Kinds, kinds_of}
use Rattle.cb_safety.specs.Sound.{IsSound}
use Rattle.cb_safety.specs.Ready.{NamesStatic}
use Rattle.cb_safety.specs.States.{HasStatic, IsTypedState}
use Rattle.cb_safety.specs.Words.{AreAny, AreOfSort, ArrayOn, HasWord, IsArray, RefersToArray}
use Rattle.cb_safety.proofs.Laws.{arrays_measured, elements_read, elements_written, fields_read, fields_written, references_are_read, references_are_written, Stage, stage_of}
use Rattle.cb_act.specs.Acting.{basic_on, default_of, elements_of, or_default}
use Rattle.cb_act.specs.Here.{HasElements}
use Rattle.cb_act.specs.Objects.{Suits, SuitsWord, SuitsWords, object_on, referred, suits_unless_null}
use Rattle.cb_act.specs.Steps.{view_of}
use Rattle.cb_act.specs.Suited.{HasWords, SuitsArray}
use Rattle.cb_act.proofs.Laws.{whole_read}

-- a word that holds what a type may is read as that type
content_suits : (program : Linked) (kinds : Kinds) (basic : Basic) (content : Content) → HasContent program kinds basic content → Suits basic (Some content)
content_suits program kinds basic content (HasContent.AReference kind serial refers) = tt
content_suits program kinds basic content (HasContent.ALong number fits) = tt
content_suits program kinds basics.Boolean content (HasContent.AnInt own number sort fits kept) = fits
content_suits program kinds basics.Byte content (HasContent.AnInt own number sort fits kept) = fits
content_suits program kinds basics.Char content (HasContent.AnInt own number sort fits kept) = fits
content_suits program kinds basics.Short content (HasContent.AnInt own number sort fits kept) = fits
content_suits program kinds basics.Int content (HasContent.AnInt own number sort fits kept) = fits
content_suits program kinds basics.Long content (HasContent.AnInt own number sort fits kept) = absurd (cc sort)
content_suits program kinds (basics.Reference kind) content (HasContent.AnInt own number sort fits kept) = absurd (cc sort)

-- elements of a sort that are references suit any reference
reference_suits : (basic : Basic) (content : Option Content) → sort_of_basic basic ≡ sorts.Reference → Suits basic content → Suits (basics.Reference 0) content
reference_suits (basics.Reference kind) None sort suits = suits
reference_suits (basics.Reference kind) (Some content) sort suits = suits
reference_suits basics.Boolean content sort suits = absurd (cc sort)
reference_suits basics.Byte content sort suits = absurd (cc sort)
reference_suits basics.Char content sort suits = absurd (cc sort)
reference_suits basics.Short content sort suits = absurd (cc sort)
reference_suits basics.Int content sort suits = absurd (cc sort)
reference_suits basics.Long content sort suits = absurd (cc sort)

module _ (machine : Machine) (state : State) (frame : MethodFrame) (below : List Frame) (frames : state.roots.frames ≡ OfMethod frame ∷ below) where
  on_stack : (depth serial : ℕ) → slice_get frame.stack depth ≡ Some (values.Ref serial) → object_on (view_of state) depth ≡ serial
  on_stack depth serial on = ap (λ stack. referred (slice_get stack depth)) (ap (on_top [] stack_in) frames) ∙ ap referred on

  -- the word of an object, or of null
  word_suits : (basic : Basic) (slot serial : ℕ) → HasWord machine.program state.objects slot basic serial → suits_unless_null basic (view_of state) slot serial
  word_suits basic slot serial HasWord.OfNull = tt
  word_suits basic slot serial (HasWord.OfObject own object there holds) = go own there where
    go : (own : ℕ) → object_in state.objects own ≡ Some object → suits_unless_null basic (view_of state) slot own
    go zero there = tt
    go (suc place) there =
        subst (Suits basic) (sym (ap (λ contents. slice_get contents slot) (contents_there place there) ∙ holds.there))
        (content_suits machine.program (kinds_of state.objects) basic holds.content holds.fits) where
          contents_there : (place : ℕ) → object_in state.objects (suc place) ≡ Some object → contents_at state.objects (suc place) ≡ object.contents
          contents_there place there = rw there refl

  pub word_on : (basic : Basic) (slot depth serial : ℕ) → slice_get frame.stack depth ≡ Some (values.Ref serial) → HasWord machine.program state.objects slot basic serial
      → SuitsWord basic depth slot (view_of state)
  word_on basic slot depth serial on word =
      subst (suits_unless_null basic (view_of state) slot) (sym (on_stack depth serial on)) (word_suits basic slot serial word)

  -- an array on the stack
  default_sorted : (sort : Sort) → sort_of_basic (default_of sort) ≡ sort
  default_sorted sorts.Int = refl
  default_sorted sorts.Long = refl
  default_sorted sorts.Reference = refl

  basic_there : (sort : Sort) (depth serial : ℕ) (Suiting : Basic → Type 0) → slice_get frame.stack depth ≡ Some (values.Ref serial)
      → (array : IsArray machine.program state.objects Suiting serial) → basic_on machine.program sort (view_of state) depth ≡ array.basic
  basic_there sort depth serial Suiting on array =
      ap (λ serial. or_default sort (elements_of machine.program (object_in state.objects serial))) (on_stack depth serial on)
      ∙ ap (λ object. or_default sort (elements_of machine.program object)) array.there
      ∙ ap (or_default sort) array.element

  basic_null : (sort : Sort) (depth : ℕ) → slice_get frame.stack depth ≡ Some (values.Ref 0) → basic_on machine.program sort (view_of state) depth ≡ default_of sort
  basic_null sort depth on = ap (λ serial. or_default sort (elements_of machine.program (object_in state.objects serial))) (on_stack depth 0 on)

  no_words : (basic : Basic) (word : ℕ) → word < 0 → Suits basic (content_at state.objects 0 word)
  no_words basic word low = absurd (omega (arith, low))

  each_suits : (basic : Basic) (depth serial : ℕ) (Suiting : Basic → Type 0) → slice_get frame.stack depth ≡ Some (values.Ref serial)
      → (array : IsArray machine.program state.objects Suiting serial) → array.basic ≡ basic → SuitsWords basic depth (view_of state)
  each_suits basic depth serial Suiting on array same word low =
      let contents : contents_at state.objects (object_on (view_of state) depth) ≡ array.object.contents =
      ap (contents_at state.objects) (on_stack depth serial on) ∙ there_contents in
      let holds : Holds machine.program (kinds_of state.objects) array.object.contents word array.basic = array.each word (subst (λ contents. word < length contents) contents low) in
      subst (λ basic. Suits basic (content_at state.objects (object_on (view_of state) depth) word)) same
      (subst (Suits array.basic) (sym (ap (λ contents. slice_get contents word) contents ∙ holds.there))
      (content_suits machine.program (kinds_of state.objects) array.basic holds.content holds.fits)) where
        there_contents : contents_at state.objects serial ≡ array.object.contents
        there_contents = let there = array.there in rw there refl

  pub suits_array : (sort : Sort) (depth : ℕ) → ArrayOn machine.program state frame depth (AreOfSort sort) → SuitsArray machine.program sort depth (view_of state)
  suits_array sort depth array = go array.serial array.on array.refers where
    go : (serial : ℕ) → slice_get frame.stack depth ≡ Some (values.Ref serial) → RefersToArray machine.program state.objects (AreOfSort sort) serial
        → SuitsArray machine.program sort depth (view_of state)
    go serial on RefersToArray.ToNull = record {
      sorted = ap sort_of_basic (basic_null sort depth on) ∙ default_sorted sort;
      words = λ word low. absurd (omega (arith, subst (λ serial. word < length (contents_at state.objects serial)) (on_stack depth 0 on) low));
    }
    go serial on (RefersToArray.ToArray own array) = record {
      sorted = ap sort_of_basic (basic_there sort depth own (AreOfSort sort) on array) ∙ array.suits;
      words = each_suits (basic_on machine.program sort (view_of state) depth) depth own (AreOfSort sort) on array (sym (basic_there sort depth own (AreOfSort sort) on array));
    }

  pub suits_references : (depth : ℕ) → ArrayOn machine.program state frame depth (AreOfSort sorts.Reference) → SuitsWords (basics.Reference 0) depth (view_of state)
  suits_references depth array word low =
      let suits : SuitsArray machine.program sorts.Reference depth (view_of state) = suits_array sorts.Reference depth array in
      reference_suits (basic_on machine.program sorts.Reference (view_of state) depth) (content_at state.objects (object_on (view_of state) depth) word) suits.sorted (suits.words word low)

  pub few_on : (Suiting : Basic → Type 0) (depth : ℕ) → ArrayOn machine.program state frame depth Suiting → length (contents_at state.objects (object_on (view_of state) depth)) < 2 ^ 31
  few_on Suiting depth array = go array.serial array.on array.refers where
    go : (serial : ℕ) → slice_get frame.stack depth ≡ Some (values.Ref serial) → RefersToArray machine.program state.objects Suiting serial
        → length (contents_at state.objects (object_on (view_of state) depth)) < 2 ^ 31
    go serial on RefersToArray.ToNull = omega (arith, ap (λ serial. length (contents_at state.objects serial)) (on_stack depth 0 on))
    go serial on (RefersToArray.ToArray own array) =
        let contents : length (contents_at state.objects (object_on (view_of state) depth)) ≡ length array.object.contents =
        ap (λ serial. length (contents_at state.objects serial)) (on_stack depth own on) ∙ there_length own array in
        omega (arith, contents, array.few) where
          there_length : (own : ℕ) (array : IsArray machine.program state.objects Suiting own) → length (contents_at state.objects own) ≡ length array.object.contents
          there_length own array = let there = array.there in rw there refl

  pub has_elements : (Suiting : Basic → Type 0) (depth : ℕ) → ArrayOn machine.program state frame depth Suiting → HasElements machine.program (view_of state) depth
  has_elements Suiting depth array = go array.serial array.on array.refers where
    go : (serial : ℕ) → slice_get frame.stack depth ≡ Some (values.Ref serial) → RefersToArray machine.program state.objects Suiting serial
        → HasElements machine.program (view_of state) depth
    go serial on RefersToArray.ToNull object there =
        let none : None ≡ Some object = ap (object_in state.objects) (sym (on_stack depth 0 on)) ∙ there in absurd (cc none)
    go serial on (RefersToArray.ToArray own array) object there =
        let same : object ≡ array.object = same_Some object array.object (sym there ∙ ap (object_in state.objects) (on_stack depth own on) ∙ array.there) in
        ap (λ object. is_some (element_of machine.program object.kind)) same ∙ ap is_some array.element

  -- what is on the stack is there
  held_in : (held : List Value) (depth : ℕ) → IsTrue (list_all (is_held state.objects) (references_in held)) → is_held state.objects (referred (slice_get held depth)) ≡ true
  held_in [] depth all = refl
  held_in (values.Int n ∷ rest) zero all = refl
  held_in (values.Long n ∷ rest) zero all = refl
  held_in (values.Ref zero ∷ rest) zero all = refl
  held_in (values.Ref (suc place) ∷ rest) zero all = first (is_held state.objects (suc place)) _ all where
    first : (a b : Bool) → (a && b) ≡ true → a ≡ true
    first true b is = refl
    first false b is = is
  held_in (values.Int n ∷ rest) (suc depth) all = held_in rest depth all
  held_in (values.Long n ∷ rest) (suc depth) all = held_in rest depth all
  held_in (values.Ref zero ∷ rest) (suc depth) all = held_in rest depth all
  held_in (values.Ref (suc place) ∷ rest) (suc depth) all = held_in rest depth (second (is_held state.objects (suc place)) _ all) where
    second : (a b : Bool) → (a && b) ≡ true → b ≡ true
    second true b is = is
    second false b is = absurd (false≢true is)

  pub held_on : IsClosed (view_of state) → (depth : ℕ) → is_held state.objects (object_on (view_of state) depth) ≡ true
  held_on closed depth = held_in (top_stack state.roots) depth (stack_held (is_held state.objects) state.roots closed.roots)

module _ (machine : Machine) (state : State) (frame : MethodFrame) (below : List Frame) (insn : Insn)
    (fits : IsTyped machine.program) (sound : IsSound machine.program) (typed : IsTypedState machine.program state) (quiet : state.roots.pending ≡ 0)
    (frames : state.roots.frames ≡ OfMethod frame ∷ below) (there : insn_in (code_at machine.program frame.method) frame.pc ≡ Some insn) where
  pub loaded_array : (elements : Elements) → action_of insn ≡ Some (actions.LoadNumber elements) → ArrayOn machine.program state frame 1 (AreOfSort (sort_of_elements elements))
  loaded_array elements does = (elements_read machine state frame below insn elements fits sound.spelled sound.holds_on sound.holds_elements typed quiet frames there does).array

  pub stored_array : (elements : Elements) → action_of insn ≡ Some (actions.StoreNumber elements) → ArrayOn machine.program state frame 2 (AreOfSort (sort_of_elements elements))
  stored_array elements does = (elements_written machine state frame below insn elements fits sound.spelled sound.holds_on sound.holds_elements typed quiet frames there does).array

  pub loaded_references : action_of insn ≡ Some actions.LoadReference → ArrayOn machine.program state frame 1 (AreOfSort sorts.Reference)
  loaded_references does = (references_are_read machine state frame below insn fits sound.spelled sound.holds_on sound.holds_elements typed quiet frames there does).array

  stored_references : action_of insn ≡ Some actions.StoreReference → ArrayOn machine.program state frame 2 (AreOfSort sorts.Reference)
  stored_references does = (references_are_written machine state frame below insn fits sound.spelled sound.holds_on sound.holds_elements typed quiet frames there does).array

  pub has_words : IsClosed (view_of state) → HasWords machine.program (decoded_as machine.program frame.method frame.pc insn) (view_of state)
  has_words closed = record {
    kinds = λ serial object is. (typed.heap.each serial object is).kind;
    told = refl;
    whole = λ value names index. whole_read machine.program frame.method frame.pc value names index;
    static_low = static_low;
    held = λ depth. held_on machine state frame below frames closed depth;
    read = λ index class slot basic does names declared.
        let reads = fields_read machine state frame below insn index class slot basic fits sound.spelled sound.holds_on sound.fields typed quiet frames there does names declared in
        word_on machine state frame below frames basic slot 0 reads.serial reads.object reads.word;
    written = λ index class slot basic does names declared.
        let writes = fields_written machine state frame below insn index class slot basic fits sound.spelled sound.holds_on sound.fields typed quiet frames there does names declared in
        word_on machine state frame below frames basic slot 1 writes.serial writes.object writes.word;
    measured = λ does. few_on machine state frame below frames AreAny 0 (arrays_measured machine state frame below insn fits sound.spelled sound.holds_on sound.holds_elements typed quiet frames there does);
    loaded = λ elements does. suits_array machine state frame below frames (sort_of_elements elements) 1 (loaded_array elements does);
    stored = λ elements does. suits_array machine state frame below frames (sort_of_elements elements) 2 (stored_array elements does);
    references_loaded = λ does. suits_array machine state frame below frames sorts.Reference 1 (loaded_references does);
    references_stored = λ does. suits_references machine state frame below frames 2 (stored_references does);
  } where
    low : (held : List Value) (slot : ℕ) (value : Value) → slice_get held slot ≡ Some value → slot < length held
    low [] slot value is = absurd (cc is)
    low (first ∷ held) zero value is = omega arith
    low (first ∷ held) (suc slot) value is = omega (arith, low held slot value is)

    static_low : (index class slot : ℕ) → action_of insn ≡ Some (actions.PutStatic index) → named machine.program frame.method frame.pc ≡ meanings.Static class slot
        → slot < length state.roots.statics
    static_low index class slot does names =
        let stage : Stage machine state frame below insn (actions.PutStatic index) =
        stage_of machine state frame below insn (actions.PutStatic index) fits sound.spelled sound.holds_on typed quiet frames there does in
        let own : NamesStatic machine.program frame.method frame.pc = sound.statics frame.method frame.pc stage.method insn (actions.PutStatic index) stage.within there does refl in
        let same : meanings.Static own.class own.slot ≡ meanings.Static class slot = sym own.names ∙ names in
        let slots : own.slot ≡ slot = cc same in
        let value : HasStatic machine.program (kinds_of state.objects) state.roots.statics own.slot own.basic = typed.roots.statics.each own.slot own.basic own.declared in
        subst (λ slot. slot < length state.roots.statics) slots (low state.roots.statics own.slot value.value value.there)
