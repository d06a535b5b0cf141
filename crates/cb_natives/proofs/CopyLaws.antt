-- Words that are copied one by one, the last first.
use Rattle.std.proofs.Common.{◌≡◌, ◌∙◌, ap, arith, refl, subst, sym, ℕ, pos, zero, suc, ◌+◌, ◌<◌, ◌≤◌, Bool, true, List, [], ◌∷◌, Option, Some, None, IsTrue, drop, get_or, length, slice_get}
use Rattle.std.proofs.lemmas.List.{drop_more, drop_all, get_or-drop, get_or-take, length-drop, length-take}
use Rattle.cb_heap.specs.Kept.{content_at, contents_at, is_held, with_content}
use Rattle.cb_heap.specs.Reading.{serial_of}
use Rattle.cb_machine.specs.Copying.{overwritten}
use Rattle.cb_plain.specs.State.{Content, Number, Object, Reference}
use Rattle.cb_plain.specs.Updates.{with_contents_in}
use Rattle.cb_plain.specs.declared.shape.Shape.{Shape}
use Rattle.cb_natives.specs.Copies.{MayCopy, RefersHeld, copied, holds, refers_at, word_of, words_from}
use Rattle.cb_natives.specs.Following.{FollowsFrom, MayRefer}
use Rattle.cb_natives.proofs.Changes.{held_changed, put_before, with_same, word_same}
use Rattle.cb_natives.proofs.FollowLaws.{may_copy}
use Rattle.cb_natives.proofs.Overwriting.{over_none}

-- ---- one word

pub word_read : (contents : List Content) (place : ℕ) → get_or contents place (Number (pos 0)) ≡ word_of (slice_get contents place)
word_read [] place = refl
word_read (content ∷ contents) zero = refl
word_read (content ∷ contents) (suc place) = word_read contents place

pub refers_held : (objects : List (Option Object)) (found : Option Content) (serial : ℕ) → RefersHeld objects found → found ≡ Some (Reference serial) → IsTrue (is_held objects serial)
refers_held objects found serial held is = subst (RefersHeld objects) is held

pub refers_still : (objects now : List (Option Object)) (found : Option Content) → ((serial : ℕ) → is_held now serial ≡ is_held objects serial) → RefersHeld objects found → RefersHeld now found
refers_still objects now None same held = tt
refers_still objects now (Some (Number number)) same held = tt
refers_still objects now (Some (Reference serial)) same held = same serial ∙ held

-- ---- what was copied so far

abbrev pub copied_back : List (Option Object) → (source start to at count left : ℕ) → List (Option Object)
copied_back objects source start to at count left =
    with_contents_in objects to (overwritten (contents_at objects to) (at + left) (drop left (words_from objects source start count)))

module _ (objects : List (Option Object)) (shape : Shape) (source start to at count : ℕ) (may : MayCopy objects shape source start to at count) where
  abbrev new : List Content
  new = words_from objects source start count

  pub new_length : length new ≡ count
  new_length =
      omega (arith, may.within, length-take count (drop start (contents_at objects source)), length-drop start (contents_at objects source))

  pub back_none : objects ≡ copied_back objects source start to at count count
  back_none =
      let none : drop count new ≡ [] = drop_all count new (omega (arith, new_length)) in
      sym (ap (λ words. with_contents_in objects to (overwritten (contents_at objects to) (at + count) words)) none
      ∙ ap (with_contents_in objects to) (over_none (contents_at objects to) (at + count))
      ∙ with_same objects to)

  pub back_all : (now : List (Option Object)) (left : ℕ) → now ≡ copied_back objects source start to at count left → left ≡ 0 → now ≡ copied objects source start to at count
  back_all now left before none =
      let first : at + 0 ≡ at = omega arith in
      before
      ∙ ap (copied_back objects source start to at count) none
      ∙ ap (λ (at : ℕ). with_contents_in objects to (overwritten (contents_at objects to) at new)) first

  -- one step of it
  module _ (order : source ≡ to → start ≤ at) (now : List (Option Object)) (left place : ℕ)
      (before : now ≡ copied_back objects source start to at count left) (next : left ≡ suc place) (low : left ≤ count) where
    same_before : (array word : ℕ) → (array ≡ to → word < at + left) → content_at now array word ≡ content_at objects array word
    same_before array word under =
        ap (λ objects. content_at objects array word) before
        ∙ word_same objects to may.there (at + left) (drop left new) (omega (arith, may.room, low)) array word under

    source_same : content_at now source (start + place) ≡ content_at objects source (start + place)
    source_same = same_before source (start + place) (λ own. omega (arith, order own, next))

    pub step_read : holds (refers_at shape place) (content_at now source (start + place)) ≡ true
    step_read = ap (holds (refers_at shape place)) source_same ∙ may.read place (omega (arith, next, low))

    pub step_put : holds (refers_at shape place) (content_at now to (at + place)) ≡ true
    step_put =
        ap (holds (refers_at shape place)) (same_before to (at + place) (λ own. omega (arith, next))) ∙ may.put place (omega (arith, next, low))

    pub step_held : RefersHeld now (content_at now source (start + place))
    step_held =
        subst (RefersHeld now) (sym source_same)
        (refers_still objects now (content_at objects source (start + place))
        (λ serial. ap (λ now. is_held now serial) before ∙ held_changed objects to serial (overwritten (contents_at objects to) (at + left) (drop left new)))
        (may.held place (omega (arith, next, low))))

    pub step_may : (allows : ℕ → ℕ → Bool) → FollowsFrom allows (copied objects source start to at count) to → MayRefer allows now to (content_at now source (start + place))
    step_may allows follows =
        subst (MayRefer allows now to) (sym source_same)
        (subst (λ now. MayRefer allows now to (content_at objects source (start + place))) (sym before)
        (may_copy allows objects shape source start to at count may follows (overwritten (contents_at objects to) (at + left) (drop left new)) place (omega (arith, next, low))
        (content_at objects source (start + place)) refl))

    word_so : word_of (content_at now source (start + place)) ≡ get_or new place (Number (pos 0))
    word_so =
        ap word_of source_same
        ∙ sym (get_or-take count (drop start (contents_at objects source)) place (Number (pos 0)) (omega (arith, next, low))
        ∙ get_or-drop start (contents_at objects source) place (Number (pos 0))
        ∙ word_read (contents_at objects source) (start + place))

    rest_so : get_or new place (Number (pos 0)) ∷ drop left new ≡ drop place new
    rest_so =
        let more : place + 1 ≡ left = omega (arith, next) in
        sym (drop_more new place (Number (pos 0)) (omega (arith, next, low, new_length))
        ∙ ap (λ (count : ℕ). get_or new place (Number (pos 0)) ∷ drop count new) more)

    pub step_copies : with_content now to (at + place) (word_of (content_at now source (start + place))) ≡ copied_back objects source start to at count place
    step_copies =
        let under : at + left ≡ suc (at + place) = omega (arith, next) in
        let word = get_or new place (Number (pos 0)) in
        ap (with_content now to (at + place)) word_so
        ∙ ap (λ now. with_content now to (at + place) word) before
        ∙ ap (λ (from : ℕ). with_content (with_contents_in objects to (overwritten (contents_at objects to) from (drop left new))) to (at + place) word) under
        ∙ put_before objects to (at + place) word (drop left new) may.there (omega (arith, may.room, low, next))
        ∙ ap (λ words. with_contents_in objects to (overwritten (contents_at objects to) (at + place) words)) rest_so

-- the same at places of a store that names objects as it did
module _ (objects : List (Option Object)) (index after : ℕ → ℕ) (shape : Shape) (source start to at count : ℕ)
    (may : MayCopy objects shape (serial_of index source) start (serial_of index to) at count) (order : serial_of index source ≡ serial_of index to → start ≤ at)
    (now : List (Option Object)) (left place : ℕ) (before : now ≡ copied_back objects (serial_of index source) start (serial_of index to) at count left)
    (places : after ≡ index) (next : left ≡ suc place) (low : left ≤ count) (mark : Bool) (marks : mark ≡ refers_at shape place) where
  pub read_there : holds mark (content_at now (serial_of after source) (start + place)) ≡ true
  read_there =
      ap (λ mark. holds mark (content_at now (serial_of after source) (start + place))) marks
      ∙ ap (λ index. holds (refers_at shape place) (content_at now (serial_of index source) (start + place))) places
      ∙ step_read objects shape (serial_of index source) start (serial_of index to) at count may order now left place before next low

  pub put_there : holds mark (content_at now (serial_of after to) (at + place)) ≡ true
  put_there =
      ap (λ mark. holds mark (content_at now (serial_of after to) (at + place))) marks
      ∙ ap (λ index. holds (refers_at shape place) (content_at now (serial_of index to) (at + place))) places
      ∙ step_put objects shape (serial_of index source) start (serial_of index to) at count may order now left place before next low

  pub held_there : RefersHeld now (content_at now (serial_of after source) (start + place))
  held_there =
      subst (λ index. RefersHeld now (content_at now (serial_of index source) (start + place))) (sym places)
      (step_held objects shape (serial_of index source) start (serial_of index to) at count may order now left place before next low)

  pub may_there : (allows later : ℕ → ℕ → Bool) → later ≡ allows → FollowsFrom allows (copied objects (serial_of index source) start (serial_of index to) at count) (serial_of index to)
      → MayRefer later now (serial_of after to) (content_at now (serial_of after source) (start + place))
  may_there allows later same follows =
      subst (λ (allows : ℕ → ℕ → Bool). MayRefer allows now (serial_of after to) (content_at now (serial_of after source) (start + place))) (sym same)
      (subst (λ index. MayRefer allows now (serial_of index to) (content_at now (serial_of index source) (start + place))) (sym places)
      (step_may objects shape (serial_of index source) start (serial_of index to) at count may order now left place before next low allows follows))

  pub copied_there : (then : List (Option Object)) → then ≡ with_content now (serial_of after to) (at + place) (word_of (content_at now (serial_of after source) (start + place)))
      → then ≡ copied_back objects (serial_of index source) start (serial_of index to) at count place
  copied_there then is =
      is
      ∙ ap (λ index. with_content now (serial_of index to) (at + place) (word_of (content_at now (serial_of index source) (start + place)))) places
      ∙ step_copies objects shape (serial_of index source) start (serial_of index to) at count may order now left place before next low
