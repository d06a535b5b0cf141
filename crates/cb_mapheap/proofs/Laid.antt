-- Objects that lie one behind the other.
use Rattle.std.proofs.Common.{◌≡◌, ◌∙◌, ap, sym, refl, subst, arith, ℕ, zero, suc, ◌+◌, ◌/◌, ◌^◌, ◌<◌, ◌≤◌, Bool, List, [], ◌∷◌, ◌++◌, Some, IsTrue, drop, length, map, get_or, set, slice_get, drop-drop, drop-set-lt, length-drop}
use Rattle.std.proofs.lemmas.Bool.{false≢true}
use Rattle.std.proofs.lemmas.List.{drop-append-le, drop-set-add, drop_all, get_or_append_left}
use Rattle.std.proofs.lemmas.List.Sums.{sum_by-cons}
use Rattle.cb_plain.specs.declared.shape.Shape.{Shape}
use Rattle.cb_plain.specs.State.{Content, Object}
use Rattle.cb_plain.specs.Updates.{with_contents_in}
use Rattle.cb_heap.specs.Kept.{entry_words, is_kept, words_kept}
use Rattle.cb_mapheap.specs.Layout.{Begins, LiesAt}
use Rattle.cb_mapheap.specs.Words.{content_of, contents_in, length_of, marks_in, object_of, objects_in, size_of}
use Rattle.cb_mapheap.proofs.Contents.{begins_front, begins_set, contents_length, marks_begin, object_before, object_front, object_set, read_before}

-- where the one after so many begins
abbrev pub start_of : ℕ → List ℕ → ℕ
start_of zero words = 0
start_of (suc n) words = size_of words + start_of n (drop (size_of words) words)

pub start_there : (all : List Shape) (at serial : ℕ) (starts words : List ℕ) (n : ℕ) → LiesAt all at serial starts words → n < length starts → get_or starts n 0 ≡ at + start_of n words
start_there all at serial [] words n lies below = absurd (omega (arith, below))
start_there all at serial (start ∷ starts) words zero lies below = omega (arith, lies.0)
start_there all at serial (start ∷ starts) words (suc n) lies below =
    omega (arith, start_there all (at + size_of words) (suc serial) starts (drop (size_of words) words) n lies.2 (omega (arith, below)))

pub begins_there : (all : List Shape) (at serial : ℕ) (starts words : List ℕ) (n : ℕ) → LiesAt all at serial starts words → n < length starts → Begins all (serial + n) (drop (start_of n words) words)
begins_there all at serial [] words n lies below = absurd (omega (arith, below))
begins_there all at serial (start ∷ starts) words zero lies below = let same : serial ≡ serial + 0 = omega arith in subst (λ number. Begins all number words) same lies.1
begins_there all at serial (start ∷ starts) words (suc n) lies below =
    let same : suc serial + n ≡ serial + suc n = omega arith in
    let there = begins_there all (at + size_of words) (suc serial) starts (drop (size_of words) words) n lies.2 (omega (arith, below)) in
    subst (λ number. Begins all number (drop (size_of words + start_of n (drop (size_of words) words)) words)) same
    (subst (λ rest. Begins all (suc serial + n) rest) (drop-drop (start_of n (drop (size_of words) words)) (size_of words) words) there)

pub object_there : (all : List Shape) (at serial : ℕ) (starts words : List ℕ) (n : ℕ) → LiesAt all at serial starts words → n < length starts →
    slice_get (objects_in all (length starts) words) n ≡ Some (object_of all (drop (start_of n words) words))
object_there all at serial [] words n lies below = absurd (omega (arith, below))
object_there all at serial (start ∷ starts) words zero lies below = refl
object_there all at serial (start ∷ starts) words (suc n) lies below =
    object_there all (at + size_of words) (suc serial) starts (drop (size_of words) words) n lies.2 (omega (arith, below))
    ∙ ap (λ rest. Some (object_of all rest)) (drop-drop (start_of n (drop (size_of words) words)) (size_of words) words)

-- a word of contents changes
size_set : (words : List ℕ) (place word : ℕ) → 3 ≤ place → size_of (set words place word) ≡ size_of words
size_set words place word past = ap (λ first. 3 + first / 2 ^ 32) (read_before words place word 0 (omega (arith, past)))

rest_lies : (all : List Shape) (at serial : ℕ) (starts words rest : List ℕ) (size size_now : ℕ) → size_now ≡ size → drop size words ≡ rest → LiesAt all (at + size) serial starts rest →
    LiesAt all (at + size_now) serial starts (drop size_now words)
rest_lies all at serial starts words rest size size_now same is lies = rw (same, is) lies

pub lies_set : (all : List Shape) (at serial : ℕ) (starts words : List ℕ) (n i place word : ℕ) → LiesAt all at serial starts words → n < length starts →
    i < length_of (drop (start_of n words) words) → place ≡ start_of n words + (3 + i) → LiesAt all at serial starts (set words place word)
lies_set all at serial [] words n i place word lies below within is = absurd (omega (arith, below))
lies_set all at serial (start ∷ starts) words zero i place word lies below within is = (
  lies.0,
  begins_set all serial words place word lies.1 (omega (arith, is)),
  rest_lies all at (suc serial) starts (set words place word) (drop (size_of words) words) (size_of words) (size_of (set words place word)) (size_set words place word (omega (arith, is)))
      (drop-set-lt (size_of words) words place word (omega (arith, is, within))) lies.2,
)
lies_set all at serial (start ∷ starts) words (suc n) i place word lies below within is =
    let rest : List ℕ = drop (size_of words) words in
    let behind : place ≡ size_of words + (start_of n rest + (3 + i)) = omega (arith, is) in
    let there = lies_set all (at + size_of words) (suc serial) starts rest n i (start_of n rest + (3 + i)) word lies.2 (omega (arith, below))
    (subst (λ words. i < length_of words) (sym (drop-drop (start_of n rest) (size_of words) words)) within) refl in (
      lies.0,
      begins_set all serial words place word lies.1 (omega (arith, is)),
      rest_lies all at (suc serial) starts (set words place word) (set rest (start_of n rest + (3 + i)) word) (size_of words) (size_of (set words place word)) (size_set words place word (omega (arith, is)))
          (ap (λ spot. drop (size_of words) (set words spot word)) behind ∙ drop-set-add (size_of words) words (start_of n rest + (3 + i)) word) there,
    )

rest_objects : (all : List Shape) (count : ℕ) (words rest : List ℕ) (size size_now : ℕ) → size_now ≡ size → drop size words ≡ rest → objects_in all count (drop size_now words) ≡ objects_in all count rest
rest_objects all count words rest size size_now same is = rw (same, is) refl

-- the contents of the object that begins here, with another word among them
abbrev pub contents_with : List Shape → List ℕ → (i : ℕ) → Bool → ℕ → List Content
contents_with all words i mark word = set (contents_in (marks_in all words) (drop 3 words)) i (content_of (get_or (marks_in all words) i mark) word)

pub objects_set : (all : List Shape) (at serial : ℕ) (starts words : List ℕ) (n i place word : ℕ) (mark : Bool) → LiesAt all at serial starts words → n < length starts →
    i < length_of (drop (start_of n words) words) → place ≡ start_of n words + (3 + i) →
    map Some (objects_in all (length starts) (set words place word)) ≡ with_contents_in (map Some (objects_in all (length starts) words)) (suc n) (contents_with all (drop (start_of n words) words) i mark word)
objects_set all at serial [] words n i place word mark lies below within is = absurd (omega (arith, below))
objects_set all at serial (start ∷ starts) words zero i place word mark lies below within is =
    let here : place ≡ 3 + i = omega (arith, is) in
    let first = ap (λ spot. object_of all (set words spot word)) here ∙ object_set all serial words i word mark lies.1 within in
    let rest = rest_objects all (length starts) (set words place word) (drop (size_of words) words) (size_of words) (size_of (set words place word)) (size_set words place word (omega (arith, is)))
    (drop-set-lt (size_of words) words place word (omega (arith, is, within))) in
    ap (λ objects. Some (object_of all (set words place word)) ∷ map Some objects) rest
    ∙ ap (λ object. Some object ∷ map Some (objects_in all (length starts) (drop (size_of words) words))) first
objects_set all at serial (start ∷ starts) words (suc n) i place word mark lies below within is =
    let rest : List ℕ = drop (size_of words) words in
    let behind : place ≡ size_of words + (start_of n rest + (3 + i)) = omega (arith, is) in
    let again = drop-drop (start_of n rest) (size_of words) words in
    let there = objects_set all (at + size_of words) (suc serial) starts rest n i (start_of n rest + (3 + i)) word mark lies.2 (omega (arith, below)) (subst (λ words. i < length_of words) (sym again) within) refl in
    let first = object_before all serial words place word lies.1 (omega (arith, behind)) in
    let others = rest_objects all (length starts) (set words place word) (set rest (start_of n rest + (3 + i)) word) (size_of words) (size_of (set words place word)) (size_set words place word (omega (arith, is)))
    (ap (λ spot. drop (size_of words) (set words spot word)) behind ∙ drop-set-add (size_of words) words (start_of n rest + (3 + i)) word) in
    ap (λ object. Some object ∷ map Some (objects_in all (length starts) (drop (size_of (set words place word)) (set words place word)))) first
    ∙ ap (λ objects. Some (object_of all words) ∷ map Some objects) others
    ∙ ap (λ objects. Some (object_of all words) ∷ objects) there
    ∙ ap (λ words'. Some (object_of all words) ∷ with_contents_in (map Some (objects_in all (length starts) rest)) (suc n) (contents_with all words' i mark word)) again

-- one more object behind the last
size_front : (words more : List ℕ) → size_of words ≤ length words → size_of (words ++ more) ≡ size_of words
size_front words more whole = ap (λ first. 3 + first / 2 ^ 32) (get_or_append_left words more 0 0 (omega (arith, whole)))

pub lies_more : (all : List Shape) (at serial : ℕ) (starts words more : List ℕ) → LiesAt all at serial starts words → Begins all (serial + length starts) more → length more ≡ size_of more →
    LiesAt all at serial (starts ++ (at + length words) ∷ []) (words ++ more)
lies_more all at serial [] words more lies begins whole =
    let same : serial + 0 ≡ serial = omega arith in
    let start : at + 0 ≡ at = omega arith in
    subst (λ words. LiesAt all at serial ((at + length words) ∷ []) (words ++ more)) (sym lies)
    (start, subst (λ number. Begins all number more) same begins, drop_all (size_of more) more (omega (arith, whole)))
lies_more all at serial (start ∷ starts) words more lies begins whole =
    let same : serial + suc (length starts) ≡ suc serial + length starts = omega arith in
    let there = lies_more all (at + size_of words) (suc serial) starts (drop (size_of words) words) more lies.2 (subst (λ number. Begins all number more) same begins) whole in
    let end : at + size_of words + length (drop (size_of words) words) ≡ at + length words = omega (arith, length-drop (size_of words) words, lies.1.whole) in (
      lies.0,
      begins_front all serial words more lies.1,
      rest_lies all at (suc serial) (starts ++ (at + length words) ∷ []) (words ++ more) (drop (size_of words) words ++ more) (size_of words) (size_of (words ++ more)) (size_front words more lies.1.whole)
          (drop-append-le (size_of words) words more lies.1.whole)
          (subst (λ last. LiesAt all (at + size_of words) (suc serial) (starts ++ last ∷ []) (drop (size_of words) words ++ more)) end there),
    )

pub objects_more : (all : List Shape) (at serial last : ℕ) (starts words more : List ℕ) → LiesAt all at serial starts words →
    objects_in all (length (starts ++ last ∷ [])) (words ++ more) ≡ objects_in all (length starts) words ++ object_of all more ∷ []
objects_more all at serial last [] words more lies = ap (λ words. object_of all (words ++ more) ∷ []) lies
objects_more all at serial last (start ∷ starts) words more lies =
    let others = rest_objects all (length (starts ++ last ∷ [])) (words ++ more) (drop (size_of words) words ++ more) (size_of words) (size_of (words ++ more)) (size_front words more lies.1.whole)
    (drop-append-le (size_of words) words more lies.1.whole) in
    ap (λ object. object ∷ objects_in all (length (starts ++ last ∷ [])) (drop (size_of (words ++ more)) (words ++ more))) (object_front all serial words more lies.1)
    ∙ ap (λ objects. object_of all words ∷ objects) (others ∙ objects_more all (at + size_of words) (suc serial) last starts (drop (size_of words) words) more lies.2)

-- all objects take all words
object_words : (all : List Shape) (serial : ℕ) (words : List ℕ) → Begins all serial words → entry_words (Some (object_of all words)) ≡ size_of words
object_words all serial words begins =
    let marks = marks_begin all serial words begins in
    let long : length (marks_in all words) ≤ length (drop 3 words) = omega (arith, marks, begins.whole, length-drop 3 words) in
    omega (arith, contents_length (marks_in all words) (drop 3 words) long, marks)

pub words_there : (all : List Shape) (at serial : ℕ) (starts words : List ℕ) → LiesAt all at serial starts words → words_kept (map Some (objects_in all (length starts) words)) ≡ length words
words_there all at serial [] words lies = sym (ap length lies)
words_there all at serial (start ∷ starts) words lies =
    let rest = words_there all (at + size_of words) (suc serial) starts (drop (size_of words) words) lies.2 in
    let more = sum_by-cons entry_words (Some (object_of all words)) (map Some (objects_in all (length starts) (drop (size_of words) words))) in
    omega (arith, rest, more, object_words all serial words lies.1, length-drop (size_of words) words, lies.1.whole)

pub objects_count : (all : List Shape) (count : ℕ) (words : List ℕ) → length (objects_in all count words) ≡ count
objects_count all zero words = refl
objects_count all (suc count) words = ap suc (objects_count all count (drop (size_of words) words))

-- a serial whose object is kept
pub kept_within : (objects : List Object) (n : ℕ) → IsTrue (is_kept (map Some objects) (suc n)) → n < length objects
kept_within [] n kept = absurd (false≢true kept)
kept_within (object ∷ objects) zero kept = omega arith
kept_within (object ∷ objects) (suc n) kept = omega (arith, kept_within objects n kept)
