-- Copies of objects that are placed: what is new has the words of its shape, into which those of another object are copied.
use Rattle.std.proofs.Common.{◌≡◌, ◌∙◌, ap, arith, refl, subst, sym, ℕ, zero, suc, ◌+◌, ◌-◌, ◌<◌, ◌≤◌, ◌^◌, Bool, true, false, List, [], ◌∷◌, ◌++◌, Option, Some, None, IsTrue, drop, get_or, length, map, replicate, slice_get, slice_set, take}
use Rattle.std.proofs.lemmas.List.{drop-replicate, length-map, length-replicate, set_at, take_all}
use Rattle.cb_heap.proofs.Laws.{held_further, there_before}
use Rattle.cb_heap.specs.Kept.{content_at, contents_at, is_held, is_reference, with_content}
use Rattle.cb_heap.specs.Shaped.{has_size, new_object}
use Rattle.cb_heap.specs.Store.{may_point}
use Rattle.cb_machine.specs.Copying.{overwritten}
use Rattle.cb_machine.specs.Plans.{object_of}
use Rattle.cb_plain.specs.State.{Content, Number, Object, Reference, blank}
use Rattle.cb_plain.specs.Updates.{with_contents_in}
use Rattle.cb_plain.specs.declared.shape.Shape.{Shape}
use Rattle.cb_plain.specs.declared.shape.Shape.TheVariants.{Elements, Fields}
use Rattle.cb_natives.specs.Copies.{HasWord, MayCopy, RefersHeld, copied, holds, refers_at}
use Rattle.cb_natives.specs.MakingArrays.{HasSize, IsLaid}
use Rattle.cb_natives.specs.Following.{FollowsFrom}
use Rattle.cb_natives.proofs.FollowLaws.{follows_from_so, null_before, put_may}
use Rattle.cb_natives.proofs.Overwriting.{over, over_whole}
use Rattle.cb_natives.proofs.OwnLaws.{contents_so, kept_there, last_kept, with_last}
use Rattle.cb_natives.proofs.Placed.{last_contents}

-- ---- new words

abbrev pub new_words : ℕ → Shape → List Content
new_words size (Fields marks) = map blank marks
new_words size (Elements mark) = replicate size (blank mark)

holds_blank : (mark : Bool) → holds mark (Some (blank mark)) ≡ true
holds_blank true = refl
holds_blank false = refl

alike_blank : (mark : Bool) (size word : ℕ) → word < size → holds mark (slice_get (replicate size (blank mark)) word) ≡ true
alike_blank mark zero word low = absurd (omega (arith, low))
alike_blank mark (suc size) zero low = holds_blank mark
alike_blank mark (suc size) (suc word) low = alike_blank mark size word (omega (arith, low))

marks_blank : (marks : List Bool) (word : ℕ) → word < length marks → holds (get_or marks word false) (slice_get (map blank marks) word) ≡ true
marks_blank [] word low = absurd (omega (arith, low))
marks_blank (mark ∷ marks) zero low = holds_blank mark
marks_blank (mark ∷ marks) (suc word) low = marks_blank marks word (omega (arith, low))

pub record IsBlank (shape : Shape) (size : ℕ) : Type 0 where
  pub long : length (new_words size shape) ≡ size
  pub each : (word : ℕ) → word < size → holds (refers_at shape word) (slice_get (new_words size shape) word) ≡ true
  pub has : (word : ℕ) → word < size → HasWord shape word

pub blank_so : (shape : Shape) (size : ℕ) → HasSize shape size → IsBlank shape size
blank_so (Fields marks) size is = record {
  long = length-map marks blank ∙ is;
  each = λ word low. marks_blank marks word (omega (arith, low, is));
  has = λ word low. omega (arith, low, is);
}
blank_so (Elements mark) size is = record { long = length-replicate {A = Content} size (blank mark); each = alike_blank mark size; has = λ word low. tt }

pub sized_so : (shapes : List Shape) (shape : Shape) (kind size : ℕ) → slice_get shapes kind ≡ Some shape → HasSize shape size → IsTrue (has_size shapes kind size)
sized_so shapes (Fields marks) kind size is has = rw is (grind (arith, has))
sized_so shapes (Elements mark) kind size is has = rw is refl

pub new_so : (shapes : List Shape) (shape : Shape) (site kind size : ℕ) → slice_get shapes kind ≡ Some shape → new_object shapes site kind size ≡ object_of site kind (new_words size shape)
new_so shapes (Fields marks) site kind size is = rw is refl
new_so shapes (Elements mark) site kind size is = rw is refl

-- ---- what was there before

contents_further : (objects : List (Option Object)) (object : Object) (serial : ℕ) → IsTrue (is_held objects serial) → contents_at (objects ++ Some object ∷ []) serial ≡ contents_at objects serial
contents_further objects object zero held = refl
contents_further objects object (suc place) held =
    let found = kept_there objects (suc place) held in
    contents_so (objects ++ Some object ∷ []) (suc place) found.0 (there_before objects object (suc place) found.0 found.1) ∙ sym (contents_so objects (suc place) found.0 found.1)

refers_further : (objects : List (Option Object)) (object : Object) (found : Option Content) → RefersHeld objects found → RefersHeld (objects ++ Some object ∷ []) found
refers_further objects object None held = tt
refers_further objects object (Some (Number number)) held = tt
refers_further objects object (Some (Reference serial)) held = held_further objects object serial held

-- ---- an object behind them, into which words are copied from the first on

module _ (objects : List (Option Object)) (site kind long : ℕ) (shape : Shape) (source size : ℕ) (laid : IsLaid objects shape source) (is : size ≡ length (contents_at objects source))
    (blank : IsBlank shape long) (fits : size ≤ long) (few : size < 2 ^ 32) where
  abbrev object : Object
  object = object_of site kind (new_words long shape)

  abbrev behind : List (Option Object)
  behind = objects ++ Some object ∷ []

  abbrev last : ℕ
  last = length objects + 1

  abbrev words : List Content
  words = contents_at objects source

  source_same : contents_at behind source ≡ words
  source_same = contents_further objects object source laid.held

  word_there : (place : ℕ) → content_at behind source (0 + place) ≡ content_at objects source place
  word_there place =
      let same : 0 + place ≡ place = omega arith in
      ap (content_at behind source) same ∙ ap (λ contents. slice_get contents place) source_same

  blank_there : (place : ℕ) → content_at behind last (0 + place) ≡ slice_get (new_words long shape) place
  blank_there place =
      let same : 0 + place ≡ place = omega arith in
      ap (content_at behind last) same ∙ ap (λ contents. slice_get contents place) (last_contents objects object)

  can_there : MayCopy behind shape source 0 last 0 size
  can_there = record {
    there = last_kept objects object;
    marked = λ place low. blank.has place (omega (arith, low, fits));
    read = λ place low. ap (holds (refers_at shape place)) (word_there place) ∙ laid.each place (omega (arith, low, is));
    held = λ place low. subst (RefersHeld behind) (sym (word_there place)) (refers_further objects object (content_at objects source place) (laid.refers place (omega (arith, low, is))));
    put = λ place low. ap (holds (refers_at shape place)) (blank_there place) ∙ blank.each place (omega (arith, low, fits));
    within = omega (arith, ap length source_same, is);
    room = omega (arith, ap length (last_contents objects object), blank.long, fits);
    few = omega (arith, few);
    short = omega (arith, few);
  }

  words_there : take size (drop 0 (contents_at behind source)) ≡ words
  words_there = ap (λ contents. take size (drop 0 contents)) source_same ∙ take_all size words (omega (arith, is))

  copied_behind : copied behind source 0 last 0 size ≡ objects ++ Some (object_of site kind (over (new_words long shape) 0 words)) ∷ []
  copied_behind =
      ap (λ new. with_contents_in behind last (overwritten (contents_at behind last) 0 new)) words_there
      ∙ ap (λ contents. with_contents_in behind last (overwritten contents 0 words)) (last_contents objects object)
      ∙ with_last objects object (over (new_words long shape) 0 words)

  module _ (now : List (Option Object)) (placed : now ≡ behind) (from at : ℕ) (same : from ≡ source) (own : at ≡ last) where
    pub can_copy : MayCopy now shape from 0 at 0 size
    can_copy =
        subst (λ now. MayCopy now shape from 0 at 0 size) (sym placed)
        (subst (λ (from : ℕ). MayCopy behind shape from 0 at 0 size) (sym same)
        (subst (λ (at : ℕ). MayCopy behind shape source 0 at 0 size) (sym own) can_there))

    pub copied_so : copied now from 0 at 0 size ≡ objects ++ Some (object_of site kind (over (new_words long shape) 0 words)) ∷ []
    copied_so =
        ap (λ now. copied now from 0 at 0 size) placed
        ∙ ap (λ (from : ℕ). copied behind from 0 at 0 size) same
        ∙ ap (λ (at : ℕ). copied behind source 0 at 0 size) own
        ∙ copied_behind

    pub copied_whole : size ≡ long → copied now from 0 at 0 size ≡ objects ++ Some (object_of site kind words) ∷ []
    copied_whole all =
        copied_so ∙ ap (λ contents. objects ++ Some (object_of site kind contents) ∷ []) (over_whole (new_words long shape) words (omega (arith, is, all, blank.long)))

-- ---- an array with one reference more

pub longer_words : (words : List Content) (size : ℕ) → size ≡ length words → over (new_words (size + 1) (Elements true)) 0 words ≡ words ++ Reference 0 ∷ []
longer_words words size is =
    let at : 0 + length words ≡ size = omega (arith, is) in
    let one : size + 1 - size ≡ 1 = omega arith in
    ap (λ rest. words ++ rest)
    (ap (λ (count : ℕ). drop count (replicate (size + 1) (Reference 0))) at
    ∙ drop-replicate size (size + 1) (Reference 0)
    ∙ ap (λ (count : ℕ). replicate count (Reference 0)) one)

last_word : (words : List Content) (content : Content) → slice_get (words ++ content ∷ []) (length words) ≡ Some content
last_word [] content = refl
last_word (word ∷ words) content = last_word words content

module _ (objects : List (Option Object)) (site kind : ℕ) (words : List Content) (size : ℕ) (is : size ≡ length words) (other : ℕ) (held : IsTrue (is_held objects other)) where
  abbrev longer : List (Option Object)
  longer = objects ++ Some (object_of site kind (words ++ Reference 0 ∷ [])) ∷ []

  abbrev end : ℕ
  end = length objects + 1

  end_null : content_at longer end size ≡ Some (Reference 0)
  end_null =
      ap (λ contents. slice_get contents size) (last_contents objects (object_of site kind (words ++ Reference 0 ∷ [])))
      ∙ ap (λ (size : ℕ). slice_get (words ++ Reference 0 ∷ []) size) is
      ∙ last_word words (Reference 0)

  end_word : is_reference (content_at longer end size) ≡ true
  end_word = ap is_reference end_null

  other_held : IsTrue (is_held longer other)
  other_held = held_further objects (object_of site kind (words ++ Reference 0 ∷ [])) other held

  end_put : with_content longer end size (Reference other) ≡ objects ++ Some (object_of site kind (words ++ Reference other ∷ [])) ∷ []
  end_put =
      ap (λ contents. with_contents_in longer end (slice_set contents size (Reference other))) (last_contents objects (object_of site kind (words ++ Reference 0 ∷ [])))
      ∙ ap (with_contents_in longer end) (set_at words (Reference 0) [] (Reference other) size (sym is))
      ∙ with_last objects (object_of site kind (words ++ Reference 0 ∷ [])) (words ++ Reference other ∷ [])

  pub longer_follows : (allows : ℕ → ℕ → Bool) → FollowsFrom allows (objects ++ Some (object_of site kind (words ++ Reference other ∷ [])) ∷ []) end → FollowsFrom allows longer end
  longer_follows allows follows =
      null_before allows longer end size (Reference other) end_null (subst (λ objects. FollowsFrom allows objects end) (sym end_put) follows)

  module _ (now : List (Option Object)) (placed : now ≡ longer) (at : ℕ) (own : at ≡ end) (to : ℕ) (same : to ≡ other) where
    pub longer_there : IsTrue (is_reference (content_at now at size))
    longer_there =
        ap (λ now. is_reference (content_at now at size)) placed ∙ ap (λ (at : ℕ). is_reference (content_at longer at size)) own ∙ end_word

    pub longer_held : IsTrue (is_held now to)
    longer_held = ap (λ now. is_held now to) placed ∙ ap (is_held longer) same ∙ other_held

    pub longer_put : with_content now at size (Reference to) ≡ objects ++ Some (object_of site kind (words ++ Reference other ∷ [])) ∷ []
    longer_put =
        ap (λ now. with_content now at size (Reference to)) placed
        ∙ ap (λ (at : ℕ). with_content longer at size (Reference to)) own
        ∙ ap (λ (to : ℕ). with_content longer end size (Reference to)) same
        ∙ end_put

    pub longer_may : (allows later : ℕ → ℕ → Bool) → later ≡ allows → FollowsFrom allows (objects ++ Some (object_of site kind (words ++ Reference other ∷ [])) ∷ []) end
        → IsTrue (may_point later now at to)
    longer_may allows later alike follows =
        put_may later now at size to longer_there
        (follows_from_so allows later alike (objects ++ Some (object_of site kind (words ++ Reference other ∷ [])) ∷ []) (with_content now at size (Reference to)) longer_put end at own follows)
