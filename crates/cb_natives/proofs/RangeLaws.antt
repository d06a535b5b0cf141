-- Words that are copied one by one, the first first, and words up to the first that doesn't fit.
use Rattle.std.proofs.Common.{◌≡◌, ◌∙◌, ap, arith, refl, subst, sym, ℕ, pos, zero, suc, ◌+◌, ◌<◌, ◌≤◌, Bool, true, false, cond, List, [], ◌∷◌, ◌++◌, Option, Some, drop, get_or, length, slice_get, slice_set, take}
use Rattle.std.proofs.lemmas.List.{append-nil, append_assoc, drop_more, get_or-drop, get_or-take, length-drop, length-take, take-take, take_more}
use Rattle.cb_heap.specs.Kept.{content_at, contents_at, is_held, with_content}
use Rattle.cb_heap.specs.Reading.{serial_of}
use Rattle.cb_kinds.specs.declared.basic.Basic.{Basic}
use Rattle.cb_kinds.specs.declared.basic.Basic.TheVariants as basics
use Rattle.cb_machine.specs.Copying.{fits, fitting}
use Rattle.cb_machine.specs.Performing.{Call}
use Rattle.cb_plain.specs.State.{Content, Number, Object}
use Rattle.cb_plain.specs.Updates.{with_contents_in}
use Rattle.cb_plain.specs.declared.shape.Shape.{Shape}
use Rattle.cb_natives.specs.Copies.{MayCopy, RefersHeld, copied, holds, refers_at, word_of, words_from}
use Rattle.cb_natives.specs.Following.{FollowsFrom, MayRefer}
use Rattle.cb_natives.proofs.Changes.{contents_other, contents_with, held_changed, same_or, with_same, with_twice}
use Rattle.cb_natives.proofs.CopyLaws.{refers_still, word_read}
use Rattle.cb_natives.proofs.FollowLaws.{may_copy}
use Rattle.cb_natives.proofs.Overwriting.{over, over_first, over_length, over_none, over_over, over_past, over_set}

-- ---- behind what was written

over_after : {A : Type 0} (items : List A) (from : ℕ) (new : List A) (place : ℕ) → from + length new ≤ length items → from + length new ≤ place
    → slice_get (over items from new) place ≡ slice_get items place
over_after items from [] place fits high = ap (λ held. slice_get held place) (over_none items from)
over_after [] zero (one ∷ new) place fits high = absurd (omega (arith, fits))
over_after (item ∷ items) zero (one ∷ new) zero fits high = absurd (omega (arith, high))
over_after (item ∷ items) zero (one ∷ new) (suc place) fits high =
    ap (λ held. slice_get held (suc place)) (over_first item items one new) ∙ over_after items 0 new place (omega (arith, fits)) (omega (arith, high))
over_after [] (suc from) (one ∷ new) place fits high = absurd (omega (arith, fits))
over_after (item ∷ items) (suc from) (one ∷ new) zero fits high = absurd (omega (arith, high))
over_after (item ∷ items) (suc from) (one ∷ new) (suc place) fits high =
    ap (λ held. slice_get held (suc place)) (over_past item items from (one ∷ new)) ∙ over_after items from (one ∷ new) place (omega (arith, fits)) (omega (arith, high))

-- one item more behind those that are there
over_more : {A : Type 0} (items : List A) (from : ℕ) (new : List A) (one : A) → from + length new < length items
    → slice_set (over items from new) (from + length new) one ≡ over items from (new ++ one ∷ [])
over_more items from new one low =
    let long : length (over items from new) ≡ length items = over_length items from new (omega (arith, low)) in
    ap (λ held. slice_set held (from + length new) one) (sym (over_none (over items from new) (suc (from + length new))))
    ∙ over_set (over items from new) (from + length new) one [] (omega (arith, low, long))
    ∙ over_over items from new (one ∷ []) (omega (arith, low))

-- ---- what was copied so far

module _ (objects : List (Option Object)) (shape : Shape) (source start to at count : ℕ) (may : MayCopy objects shape source start to at count) where
  pub up_none : objects ≡ copied objects source start to at 0
  up_none = sym (ap (with_contents_in objects to) (over_none (contents_at objects to) at) ∙ with_same objects to)

  module _ (order : source ≡ to → at ≤ start) (now : List (Option Object)) (place : ℕ) (before : now ≡ copied objects source start to at place) (low : place < count) where
    abbrev front : List Content
    front = words_from objects source start place

    front_length : length front ≡ place
    front_length =
        omega (arith, low, may.within, length-take place (drop start (contents_at objects source)), length-drop start (contents_at objects source))

    contents_now : contents_at now to ≡ over (contents_at objects to) at front
    contents_now = ap (λ now. contents_at now to) before ∙ contents_with objects to (over (contents_at objects to) at front) may.there

    after : (word : ℕ) → at + place ≤ word → content_at now to word ≡ content_at objects to word
    after word high =
        ap (λ contents. slice_get contents word) contents_now
        ∙ over_after (contents_at objects to) at front word (omega (arith, front_length, may.room, low)) (omega (arith, front_length, high))

    source_same : content_at now source (start + place) ≡ content_at objects source (start + place)
    source_same =
        same_or to source
        (λ same. subst (λ (source : ℕ). content_at now source (start + place) ≡ content_at objects source (start + place)) same
        (after (start + place) (let own = order (sym same) in omega (arith, own))))
        (λ differ. ap (λ now. content_at now source (start + place)) before
        ∙ ap (λ contents. slice_get contents (start + place)) (contents_other objects to source (over (contents_at objects to) at front) differ))

    pub up_read : holds (refers_at shape place) (content_at now source (start + place)) ≡ true
    up_read = ap (holds (refers_at shape place)) source_same ∙ may.read place low

    pub up_put : holds (refers_at shape place) (content_at now to (at + place)) ≡ true
    up_put = ap (holds (refers_at shape place)) (after (at + place) (omega arith)) ∙ may.put place low

    pub up_held : RefersHeld now (content_at now source (start + place))
    up_held =
        subst (RefersHeld now) (sym source_same)
        (refers_still objects now (content_at objects source (start + place))
        (λ serial. ap (λ now. is_held now serial) before ∙ held_changed objects to serial (over (contents_at objects to) at front))
        (may.held place low))

    pub up_may : (allows : ℕ → ℕ → Bool) → FollowsFrom allows (copied objects source start to at count) to → MayRefer allows now to (content_at now source (start + place))
    up_may allows follows =
        subst (MayRefer allows now to) (sym source_same)
        (subst (λ now. MayRefer allows now to (content_at objects source (start + place))) (sym before)
        (may_copy allows objects shape source start to at count may follows (over (contents_at objects to) at front) place low (content_at objects source (start + place)) refl))

    word_so : word_of (content_at now source (start + place)) ≡ get_or (drop start (contents_at objects source)) place (Number (pos 0))
    word_so =
        ap word_of source_same
        ∙ sym (get_or-drop start (contents_at objects source) place (Number (pos 0))
        ∙ word_read (contents_at objects source) (start + place))

    front_so : front ++ get_or (drop start (contents_at objects source)) place (Number (pos 0)) ∷ [] ≡ words_from objects source start (place + 1)
    front_so =
        sym (take_more (drop start (contents_at objects source)) place (Number (pos 0)) (omega (arith, low, may.within, length-drop start (contents_at objects source))))

    pub up_copies : with_content now to (at + place) (word_of (content_at now source (start + place))) ≡ copied objects source start to at (place + 1)
    up_copies =
        let word = get_or (drop start (contents_at objects source)) place (Number (pos 0)) in
        let contents = contents_at objects to in
        let end : at + place ≡ at + length front = omega (arith, front_length) in
        ap (with_content now to (at + place)) word_so
        ∙ ap (λ held. with_contents_in now to (slice_set held (at + place) word)) contents_now
        ∙ ap (λ now. with_contents_in now to (slice_set (over contents at front) (at + place) word)) before
        ∙ with_twice objects to (over contents at front) (slice_set (over contents at front) (at + place) word)
        ∙ ap (λ (end : ℕ). with_contents_in objects to (slice_set (over contents at front) end word)) end
        ∙ ap (with_contents_in objects to) (over_more contents at front word (omega (arith, front_length, may.room, low)))
        ∙ ap (λ new. with_contents_in objects to (over contents at new)) front_so

-- the same at places of a store that names objects as it did
module _ (objects : List (Option Object)) (index later : ℕ → ℕ) (shape : Shape) (source start to at count : ℕ)
    (may : MayCopy objects shape (serial_of index source) start (serial_of index to) at count) (order : serial_of index source ≡ serial_of index to → at ≤ start)
    (now : List (Option Object)) (place : ℕ) (before : now ≡ copied objects (serial_of index source) start (serial_of index to) at place)
    (places : later ≡ index) (low : place < count) (mark : Bool) (marks : mark ≡ refers_at shape place) where
  pub up_read_there : holds mark (content_at now (serial_of later source) (start + place)) ≡ true
  up_read_there =
      ap (λ mark. holds mark (content_at now (serial_of later source) (start + place))) marks
      ∙ ap (λ index. holds (refers_at shape place) (content_at now (serial_of index source) (start + place))) places
      ∙ up_read objects shape (serial_of index source) start (serial_of index to) at count may order now place before low

  pub up_put_there : holds mark (content_at now (serial_of later to) (at + place)) ≡ true
  up_put_there =
      ap (λ mark. holds mark (content_at now (serial_of later to) (at + place))) marks
      ∙ ap (λ index. holds (refers_at shape place) (content_at now (serial_of index to) (at + place))) places
      ∙ up_put objects shape (serial_of index source) start (serial_of index to) at count may order now place before low

  pub up_held_there : RefersHeld now (content_at now (serial_of later source) (start + place))
  up_held_there =
      subst (λ index. RefersHeld now (content_at now (serial_of index source) (start + place))) (sym places)
      (up_held objects shape (serial_of index source) start (serial_of index to) at count may order now place before low)

  pub up_may_there : (allows after : ℕ → ℕ → Bool) → after ≡ allows → FollowsFrom allows (copied objects (serial_of index source) start (serial_of index to) at count) (serial_of index to)
      → MayRefer after now (serial_of later to) (content_at now (serial_of later source) (start + place))
  up_may_there allows after same follows =
      subst (λ (allows : ℕ → ℕ → Bool). MayRefer allows now (serial_of later to) (content_at now (serial_of later source) (start + place))) (sym same)
      (subst (λ index. MayRefer allows now (serial_of index to) (content_at now (serial_of index source) (start + place))) (sym places)
      (up_may objects shape (serial_of index source) start (serial_of index to) at count may order now place before low allows follows))

  pub up_copied_there : (then : List (Option Object)) → then ≡ with_content now (serial_of later to) (at + place) (word_of (content_at now (serial_of later source) (start + place)))
      → then ≡ copied objects (serial_of index source) start (serial_of index to) at (place + 1)
  up_copied_there then is =
      is
      ∙ ap (λ index. with_content now (serial_of index to) (at + place) (word_of (content_at now (serial_of index source) (start + place)))) places
      ∙ up_copies objects shape (serial_of index source) start (serial_of index to) at count may order now place before low

-- ---- words up to the first that doesn't fit

pub fits_next : (call : Call) (element : Option Basic) (words : List Content) (place : ℕ) → place < length words
    → fitting call element words ≡ take place words ++ fitting call element (drop place words)
    → fits call element (get_or words place (Number (pos 0))) ≡ true
    → fitting call element words ≡ take (place + 1) words ++ fitting call element (drop (place + 1) words)
fits_next call element words place low so fit =
    let word = get_or words place (Number (pos 0)) in
    let rest = drop (place + 1) words in
    so
    ∙ ap (λ behind. take place words ++ fitting call element behind) (drop_more words place (Number (pos 0)) low)
    ∙ ap (λ fit. take place words ++ cond fit (word ∷ fitting call element rest) []) fit
    ∙ sym (append_assoc (take place words) (word ∷ []) (fitting call element rest))
    ∙ ap (λ front. front ++ fitting call element rest) (sym (take_more words place (Number (pos 0)) low))

pub fits_last : (call : Call) (element : Option Basic) (words : List Content) (place : ℕ) → place < length words
    → fitting call element words ≡ take place words ++ fitting call element (drop place words)
    → fits call element (get_or words place (Number (pos 0))) ≡ false
    → fitting call element words ≡ take place words
fits_last call element words place low so none =
    let word = get_or words place (Number (pos 0)) in
    let rest = drop (place + 1) words in
    so
    ∙ ap (λ behind. take place words ++ fitting call element behind) (drop_more words place (Number (pos 0)) low)
    ∙ ap (λ fit. take place words ++ cond fit (word ∷ fitting call element rest) []) none
    ∙ append-nil (take place words)

module _ (objects : List (Option Object)) (source start count : ℕ) (within : start + count ≤ length (contents_at objects source)) where
  pub range_length : length (words_from objects source start count) ≡ count
  range_length = omega (arith, within, length-take count (drop start (contents_at objects source)), length-drop start (contents_at objects source))

  pub range_word : (place : ℕ) → place < count → get_or (words_from objects source start count) place (Number (pos 0)) ≡ word_of (content_at objects source (start + place))
  range_word place low =
      get_or-take count (drop start (contents_at objects source)) place (Number (pos 0)) low
      ∙ get_or-drop start (contents_at objects source) place (Number (pos 0))
      ∙ word_read (contents_at objects source) (start + place)

-- numbers all fit, and so do words of which so many are asked
fits_number : (call : Call) (element : Basic) (content : Content) → ((kind : ℕ) → element ≡ basics.Reference kind → ⊥) → fits call (Some element) content ≡ true
fits_number call basics.Boolean content none = refl
fits_number call basics.Byte content none = refl
fits_number call basics.Char content none = refl
fits_number call basics.Short content none = refl
fits_number call basics.Int content none = refl
fits_number call basics.Long content none = refl
fits_number call (basics.Reference kind) content none = absurd (none kind refl)

pub numbers_fit : (call : Call) (element : Basic) (words : List Content) → ((kind : ℕ) → element ≡ basics.Reference kind → ⊥) → fitting call (Some element) words ≡ words
numbers_fit call element [] none = refl
numbers_fit call element (word ∷ words) none =
    ap (λ fit. cond fit (word ∷ fitting call (Some element) words) []) (fits_number call element word none)
    ∙ ap (λ rest. word ∷ rest) (numbers_fit call element words none)

pub words_all : (objects : List (Option Object)) (source start count : ℕ) → take count (words_from objects source start count) ≡ words_from objects source start count
words_all objects source start count = take-take count count (drop start (contents_at objects source)) (omega arith)
