-- The text that is told of an exception: what is read for it is its text, and it is written piece by piece.
use Rattle.std.proofs.Common.{◌≡◌, ◌∙◌, ◌==◌, Bool, false, add-one, ap, ap₂, append_assoc, arith, refl, sym, subst, ℕ, zero, suc, ◌+◌, ◌<◌, ◌≤◌, ◌++◌, ◌-◌, true, List, [], ◌∷◌, drop, get_or, length, length-append, length-drop, map, rules, take, Option, Some, None, option_and_then, option_map, slice_get}
use Rattle.std.proofs.lemmas.Bool.{eqb-true, false≢true}
use Rattle.std.proofs.Math.Seq.{drop-cons}
use Rattle.std.proofs.lemmas.List.{drop-drop, map-append, take-append-drop, take_all, take_more}
use Rattle.std.proofs.lemmas.Option.{get_or_from_slice_get, same_Some, slice_get-get_or}
use Rattle.std.proofs.lemmas.Str.{utf16_chars-nil}
use Rattle.std.specs.Io.KnownBytes.{Appends}
use Rattle.std.specs.List.{flat_map}
use Rattle.std.specs.Prelude.{IsErr, IsErrAnd, codes, is_some}
use Rattle.std.specs.declared.result.Result.{Result}
use Rattle.std.specs.declared.result.Result.TheVariants.{Err, Ok}
use Rattle.cb_heap.specs.Kept.{content_at, contents_at, is_held, is_kept, is_reference}
use Rattle.cb_heap.specs.Reading.{serial_of}
use Rattle.cb_io.proofs.Laws.{Appends-Appends}
use Rattle.cb_io.specs.Sink.{AppendsProperPrefix}
use Rattle.cb_io.specs.Utf8.{character_bytes, utf8}
use Rattle.cb_io.specs.declared.failed.Failed.{Failed}
use Rattle.cb_link.specs.Numbers.{or_none}
use Rattle.cb_link.specs.Program.{Linked}
use Rattle.cb_machine.specs.Performing.{reference_at}
use Rattle.cb_machine.specs.Texts.{class_name}
use Rattle.cb_names.specs.Signs.{dot, slash}
use Rattle.cb_plain.specs.State.{Content, Number, Object, Reference, State}
use Rattle.cb_plain.specs.Updates.{object_in}
use Rattle.cb_interp.specs.Printing.{array_of, as_line, referred_word, string_text, unit_in, units_at}
use Rattle.cb_interp.specs.Texts.{IsCut, IsPlain, IsString, IsTellable, TellsException, Writes, dotted, exception_units, message_slot, message_text, message_units, string_units}
use Rattle.cb_interp.proofs.TurnsNativeString.{both}
use Rattle.cb_interp.proofs.TurnsNativeText.{utf8_ascii}
use Rattle.cb_interp.proofs.TurnsNativeUnits.{Pair, Written, utf8_joined}
use Rattle.cb_interp.proofs.TurnsStarting.{handed_same}

-- ---- the object of a serial

pub contents_are : (objects : List (Option Object)) (serial : ℕ) (object : Object) → object_in objects serial ≡ Some object → contents_at objects serial ≡ object.contents
contents_are objects serial object there = rw there refl

-- a reference that isn't null
pub not_null : (P : ℕ → Type 0) (index : ℕ → ℕ) (place : ℕ) → ¬ (place ≡ 0) → ((own : ℕ) → serial_of index place ≡ suc own → P (suc own)) → P (serial_of index place)
not_null P index zero some each = absurd (some refl)
not_null P index (suc place) some each = each (index (suc place)) refl

pub kept_held : (objects : List (Option Object)) (serial : ℕ) → is_kept objects serial ≡ true → is_held objects serial ≡ true
kept_held objects zero kept = refl
kept_held objects (suc place) kept = kept

reference_is : (object : Object) (word : ℕ) → slice_get object.contents 0 ≡ Some (Reference word) → reference_at object 0 ≡ Some word
reference_is object word is = rw is refl

-- ---- strings, by the objects alone

abbrev words_in : List (Option Object) → ℕ → Option (List Content)
words_in objects zero = Some []
words_in objects (suc place) = option_map (λ array. array.contents) (object_in objects (suc place))

abbrev text_in : List (Option Object) → Object → Option (List ℕ)
text_in objects string = option_map (map unit_in) (option_and_then (words_in objects) (reference_at string 0))

abbrev string_in : List (Option Object) → ℕ → Option (List ℕ)
string_in objects serial = option_and_then (text_in objects) (object_in objects serial)

words_are : (objects : List (Option Object)) (word : ℕ) → is_held objects word ≡ true → words_in objects word ≡ Some (contents_at objects word)
words_are objects zero held = refl
words_are objects (suc place) held = go (object_in objects (suc place)) refl held where
  go : (found : Option Object) → object_in objects (suc place) ≡ found → is_some found ≡ true → words_in objects (suc place) ≡ Some (contents_at objects (suc place))
  go None there some = absurd (false≢true some)
  go (Some array) there some = ap (option_map (λ (array : Object). array.contents)) there ∙ ap {B = Option (List Content)} Some (sym (contents_are objects (suc place) array there))

string_at : (objects : List (Option Object)) (serial word : ℕ) → content_at objects serial 0 ≡ Some (Reference word) → is_held objects word ≡ true
    → string_in objects serial ≡ Some (map unit_in (contents_at objects word))
string_at objects serial word is held = go (object_in objects serial) refl where
  go : (found : Option Object) → object_in objects serial ≡ found → string_in objects serial ≡ Some (map unit_in (contents_at objects word))
  go None there =
      let none : content_at objects serial 0 ≡ None = rw there refl in
      absurd (cc (sym none ∙ is))
  go (Some object) there =
      let first : slice_get object.contents 0 ≡ Some (Reference word) = ap (λ (contents : List Content). slice_get contents 0) (sym (contents_are objects serial object there)) ∙ is in
      ap (option_and_then (text_in objects)) there
      ∙ ap (λ (found : Option ℕ). option_map (map unit_in) (option_and_then (words_in objects) found)) (reference_is object word first)
      ∙ ap (option_map (map unit_in)) (words_are objects word held)

same_string : (state : State) (serial : ℕ) → string_units state serial ≡ string_in state.objects serial
same_string state serial = refl

-- ---- messages

-- a word that is a reference is that to which it refers
referred : (content : Option Content) → is_reference content ≡ true → content ≡ Some (Reference (referred_word content))
referred None is = absurd (false≢true is)
referred (Some (Number number)) is = absurd (false≢true is)
referred (Some (Reference serial)) is = refl

string_text_is : (objects : List (Option Object)) (place : ℕ) → IsString objects (suc place) → string_in objects (suc place) ≡ Some (string_text objects (suc place))
string_text_is objects place string =
    let (word, held) = both _ _ string.text in
    string_at objects (suc place) (array_of objects (suc place)) (referred (content_at objects (suc place) 0) word) held

pub message_is : (state : State) (objects : List (Option Object)) (message : ℕ) → state.objects ≡ objects → ((place : ℕ) → message ≡ suc place → IsString objects (suc place))
    → message_units state message ≡ Some (message_text objects message)
message_is state objects zero same strings = refl
message_is state objects (suc place) same strings =
    ap (option_map (λ (units : List ℕ). codes ": " ++ units))
    (same_string state (suc place) ∙ ap (λ (objects : List (Option Object)). string_in objects (suc place)) same ∙ string_text_is objects place (strings place refl))

-- ---- exceptions

pub kind_of_it : (objects : List (Option Object)) (serial kind : ℕ) (object : Object) → object_in objects serial ≡ Some object
    → option_map (λ (object : Object). object.kind) (object_in objects serial) ≡ Some kind → object.kind ≡ kind
kind_of_it objects serial kind object there is = same_Some object.kind kind (sym (ap (option_map (λ (object : Object). object.kind)) there) ∙ is)

pub told : (program : Linked) (objects : List (Option Object)) (serial kind message : ℕ) (name : List ℕ) → IsTellable program objects serial
    → option_map (λ (object : Object). object.kind) (object_in objects serial) ≡ Some kind → slice_get program.kinds kind ≡ Some name
    → content_at objects serial message_slot ≡ Some (Reference message) → TellsException program objects serial (map dotted name ++ message_text objects message)
told program objects serial kind message name tellable kinded named is = λ state same.
    ap (option_and_then (exception_units program state)) (ap (λ (objects : List (Option Object)). object_in objects serial) same ∙ tellable.there)
    ∙ ap (λ (found : Option ℕ). option_map (λ (message : List ℕ). class_name program tellable.object.kind ++ message) (option_and_then (message_units state) found)) first
    ∙ ap (λ (own : List ℕ). option_map (λ (message : List ℕ). own ++ message) (message_units state message)) class
    ∙ ap (option_map (λ (message : List ℕ). map dotted name ++ message)) (message_is state objects message same (λ place own. tellable.message place (is ∙ ap (λ (word : ℕ). Some (Reference word)) own)))
  where
    first : reference_at tellable.object message_slot ≡ Some message
    first = reference_is tellable.object message
        (ap (λ (contents : List Content). slice_get contents message_slot) (sym (contents_are objects serial tellable.object tellable.there)) ∙ is)

    class : class_name program tellable.object.kind ≡ map dotted name
    class = ap (class_name program) (kind_of_it objects serial kind tellable.object tellable.there kinded) ∙ ap (λ (found : Option (List ℕ)). map dotted (or_none found)) named

-- the serial of its message
abbrev pub message_of : List (Option Object) → ℕ → ℕ
message_of objects serial = referred_word (content_at objects serial message_slot)

pub message_there : (objects : List (Option Object)) (serial : ℕ) → is_reference (content_at objects serial message_slot) ≡ true
    → content_at objects serial message_slot ≡ Some (Reference (message_of objects serial))
message_there objects serial word = referred (content_at objects serial message_slot) word

-- so there is a text that is told
pub text_there : (program : Linked) (objects : List (Option Object)) (serial : ℕ) → IsTellable program objects serial → (units : List ℕ) × TellsException program objects serial units
text_there program objects serial tellable =
    let kind = tellable.object.kind in
    let name = get_or program.kinds kind [] in
    let message = message_of objects serial in (
      map dotted name ++ message_text objects message,
      told program objects serial kind message name tellable (ap (option_map (λ (object : Object). object.kind)) tellable.there)
          (slice_get-get_or program.kinds kind [] tellable.kind) (message_there objects serial tellable.word),
    )

-- ---- what is told is written

-- no pair of surrogates stands across where the back begins with another unit
pub low_joined : (front back : List ℕ) → get_or back 0 0 < 0xDC00 → utf8 (front ++ back) ≡ utf8 front ++ utf8 back
low_joined front back low = utf8_joined front back (λ last size pair. omega (arith, pair.2, low))

-- two pieces one after the other, of which the first is whole
pub writes_then : (old mid new : Option (List ℕ)) (first second : List ℕ) (result : Result (Unit {0}) Failed) → Appends old mid first → Writes mid new second result
    → Writes old new (first ++ second) result
writes_then old mid new first second (Ok done) front back = record { all = Appends-Appends old mid new first second front back.all; part = tt }
writes_then old mid new first second (Err error) front back =
    let (piece, appends, prefix) = back.part in
    record {
      all = tt;
      part = (
        first ++ piece,
        Appends-Appends old mid new first piece front appends,
        record {
          rest = prefix.rest;
          whole = ap (λ (back : List ℕ). first ++ back) prefix.whole ∙ sym (append_assoc first piece prefix.rest);
          proper = prefix.proper;
        },
      );
    }

-- a call failed within the first
writes_cut : (old new : Option (List ℕ)) (first second : List ℕ) (error : Failed) → AppendsProperPrefix old new first → Writes old new (first ++ second) (Err error)
writes_cut old new first second error (piece, appends, prefix) = record {
  all = tt;
  part = (
    piece,
    appends,
    record {
      rest = prefix.rest ++ second;
      whole = ap (λ (front : List ℕ). front ++ second) prefix.whole ∙ append_assoc piece prefix.rest second;
      proper = omega (arith, prefix.proper, length-append prefix.rest second);
    },
  );
}

pub failed_in : (old new : Option (List ℕ)) (bytes : List ℕ) (result : Result (Unit {0}) Failed) (error : Failed) → IsErr result × IsErrAnd result (λ told. told ≡ error)
    → AppendsProperPrefix old new bytes → Writes old new bytes result
failed_in old new bytes result error on part = subst (Writes old new bytes) (sym (handed_same result error on)) (record { all = tt; part = part })

pub failed_more : (old new : Option (List ℕ)) (first second : List ℕ) (result : Result (Unit {0}) Failed) → IsErr result → Writes old new first result → Writes old new (first ++ second) result
failed_more old new first second (Ok done) failed cut = absurd (false≢true failed)
failed_more old new first second (Err error) failed cut = writes_cut old new first second error cut.part

pub failed_cut : (old new : Option (List ℕ)) (first second : List ℕ) (result : Result (Unit {0}) Failed) (error : Failed) → IsErr result × IsErrAnd result (λ told. told ≡ error)
    → AppendsProperPrefix old new first → Writes old new (first ++ second) result
failed_cut old new first second result error on part = failed_more old new first second result on.0 (failed_in old new first result error on part)

-- the pieces of a message
newline : utf8 (as_line true []) ≡ codes "\n"
newline = utf8_ascii (codes "\n") (search rules)

pub message_line : (units : List ℕ) → codes ": " ++ utf8 (as_line true units) ≡ utf8 (codes ": " ++ units) ++ codes "\n"
message_line units =
    ap (λ (front : List ℕ). front ++ utf8 (units ++ codes "\n")) (sym (utf8_ascii (codes ": ") (search rules)))
    ∙ sym (utf8_joined (codes ": ") (units ++ codes "\n") (λ last size pair. colon_apart last (omega (arith, size)) pair))
    ∙ ap utf8 (sym (append_assoc (codes ": ") units (codes "\n")))
    ∙ low_joined (codes ": " ++ units) (codes "\n") (omega arith)
    ∙ ap (λ (back : List ℕ). utf8 (codes ": " ++ units) ++ back) newline
  where
    colon_apart : (last : ℕ) → last ≡ 1 → Pair (get_or (codes ": ") last 0) (get_or (units ++ codes "\n") 0 0) → ⊥
    colon_apart last is pair = let at : get_or (codes ": ") last 0 ≡ 32 = ap (λ (last : ℕ). get_or (codes ": ") last 0) is in omega (arith, pair.0, at)

nothing : utf8 [] ≡ []
nothing = ap (flat_map character_bytes) utf16_chars-nil

pub null_line : (index : ℕ → ℕ) (objects : List (Option Object)) (at : ℕ) → at ≡ 0 → utf8 (as_line true []) ≡ utf8 (message_text objects (serial_of index at)) ++ codes "\n"
null_line index objects zero null = newline ∙ ap (λ (front : List ℕ). front ++ codes "\n") (sym nothing)
null_line index objects (suc place) null = absurd (cc null)

pub string_line : (index : ℕ → ℕ) (objects : List (Option Object)) (at : ℕ) → ¬ (at ≡ 0)
    → codes ": " ++ utf8 (as_line true (units_at objects (array_of objects (serial_of index at)))) ≡ utf8 (message_text objects (serial_of index at)) ++ codes "\n"
string_line index objects zero some = absurd (some refl)
string_line index objects (suc place) some = message_line (units_at objects (array_of objects (serial_of index (suc place))))

pub not_zero : (index : ℕ → ℕ) (at : ℕ) → ¬ (at ≡ 0) → serial_of index at ≡ 0 → ⊥
not_zero index zero some is = absurd (some refl)
not_zero index (suc place) some is = cc is

-- and of a name
pub one_more_plain : (name : List ℕ) (count : ℕ) → map dotted (take count name) ≡ take count name → count < length name → ¬ (get_or name count 0 ≡ slash)
    → map dotted (take (count + 1) name) ≡ take (count + 1) name
one_more_plain name count plain low other =
    let more = take_more name count 0 low in
    ap (map dotted) more ∙ map-append dotted (take count name) (get_or name count 0 ∷ [])
    ∙ ap₂ (λ (front : List ℕ) (last : ℕ). front ++ last ∷ []) plain (stays (get_or name count 0) other) ∙ sym more
  where
    stays : (unit : ℕ) → ¬ (unit ≡ slash) → dotted unit ≡ unit
    stays unit other = go (unit == slash) refl where
      go : (same : Bool) → (unit == slash) ≡ same → dotted unit ≡ unit
      go true is = absurd (other (eqb-true unit slash is))
      go false is = rw is refl

pub name_cut : (name : List ℕ) (count : ℕ) → IsPlain name count → count < length name → IsCut name (take count name) (drop (count + 1) name)
name_cut name count plain low = record {
  whole = sym (take-append-drop count name)
      ∙ ap (λ (back : List ℕ). take count name ++ back)
      (drop-cons name count 0 low
      ∙ ap₂ (λ (unit : ℕ) (rest : List ℕ). unit ∷ rest) (get_or_from_slice_get name count slash 0 (plain.end low)) (ap (λ (count : ℕ). drop count name) (sym (add-one count))));
  plain = plain.plain;
}

-- what is left of a slice behind so many, and behind the unit at its front
left_behind : (name : List ℕ) (count : ℕ) → take (length name - count) (drop count name) ≡ drop count name
left_behind name count = take_all (length name - count) (drop count name) (omega (arith, length-drop count name))

pub behind_slash : (name : List ℕ) (count : ℕ)
    → take (length (take (length name - count) (drop count name)) - 1) (drop 1 (take (length name - count) (drop count name))) ≡ drop (count + 1) name
behind_slash name count =
    ap (λ (left : List ℕ). take (length left - 1) (drop 1 left)) (left_behind name count) ∙ left_behind (drop count name) 1 ∙ drop-drop 1 count name

pub left_count : (name : List ℕ) (count : ℕ) → length (take (length name - count) (drop count name)) ≡ length name - count
left_count name count = ap (λ (left : List ℕ). length left) (left_behind name count) ∙ length-drop count name

pub name_end : (name : List ℕ) (count : ℕ) → IsPlain name count → length name ≤ count → map dotted name ≡ name
name_end name count plain past =
    let all : take count name ≡ name = take_all count name past in
    ap (map dotted) (sym all) ∙ plain.plain ∙ all

pub name_piece : (name front behind : List ℕ) → IsCut name front behind → utf8 (map dotted name) ≡ utf8 front ++ (codes "." ++ utf8 (map dotted behind))
name_piece name front behind cut =
    let back = map dotted behind in
    ap (λ (name : List ℕ). utf8 (map dotted name)) cut.whole
    ∙ ap utf8 (map-append dotted front (slash ∷ behind) ∙ ap (λ (front : List ℕ). front ++ (dot ∷ back)) cut.plain)
    ∙ low_joined front (dot ∷ back) (omega arith)
    ∙ ap (λ (rest : List ℕ). utf8 front ++ rest)
    (utf8_joined (codes ".") back (λ last size pair. dot_apart last (omega (arith, size)) pair) ∙ ap (λ (front : List ℕ). front ++ utf8 back) (utf8_ascii (codes ".") (search rules)))
  where
    dot_apart : (last : ℕ) → last ≡ 0 → Pair (get_or (codes ".") last 0) (get_or (map dotted behind) 0 0) → ⊥
    dot_apart last is pair = let at : get_or (codes ".") last 0 ≡ 46 = ap (λ (last : ℕ). get_or (codes ".") last 0) is in omega (arith, pair.0, at)

-- a name and a message one after the other
message_low : (objects : List (Option Object)) (message : ℕ) → get_or (message_text objects message) 0 0 < 0xDC00
message_low objects zero = omega arith
message_low objects (suc place) = omega arith

pub told_bytes : (name : List ℕ) (objects : List (Option Object)) (message : ℕ)
    → utf8 (map dotted name) ++ (utf8 (message_text objects message) ++ codes "\n") ≡ utf8 (map dotted name ++ message_text objects message) ++ codes "\n"
told_bytes name objects message =
    sym (append_assoc (utf8 (map dotted name)) (utf8 (message_text objects message)) (codes "\n"))
    ∙ ap (λ (front : List ℕ). front ++ codes "\n") (sym (low_joined (map dotted name) (message_text objects message) (message_low objects message)))

-- a text of which some was written before: the whole of what is left is written, or a part
writes_rest : (old mid new : Option (List ℕ)) (before now : ℕ) (bytes rest : List ℕ) (result : Result (Unit {0}) Failed) → Written old mid before now bytes rest → Writes mid new rest result
    → Writes old new bytes result
writes_rest old mid new before now bytes rest result so_far more =
    subst (λ (bytes : List ℕ). Writes old new bytes result) (sym so_far.whole) (writes_then old mid new so_far.done rest result so_far.taken more)

pub writes_whole : (old mid new : Option (List ℕ)) (before now : ℕ) (bytes rest last : List ℕ) (result : Result (Unit {0}) Failed) → Written old mid before now bytes rest → rest ≡ last
    → Writes mid new last result → Writes old new bytes result
writes_whole old mid new before now bytes rest last result so_far is more =
    writes_rest old mid new before now bytes rest result so_far (subst (λ (rest : List ℕ). Writes mid new rest result) (sym is) more)

pub failed_rest : (old mid new : Option (List ℕ)) (before now : ℕ) (bytes rest piece left : List ℕ) (result : Result (Unit {0}) Failed) (error : Failed) → Written old mid before now bytes rest
    → rest ≡ piece ++ left → IsErr result × IsErrAnd result (λ told. told ≡ error) → AppendsProperPrefix mid new piece → Writes old new bytes result
failed_rest old mid new before now bytes rest piece left result error so_far is on part =
    writes_rest old mid new before now bytes rest result so_far (subst (λ (rest : List ℕ). Writes mid new rest result) (sym is) (failed_cut mid new piece left result error on part))
