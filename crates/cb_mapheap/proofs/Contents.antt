-- An object by its words.
use Rattle.std.proofs.Common.{◌≡◌, ◌∙◌, ap, sym, refl, arith, ℕ, zero, suc, ◌+◌, ◌-◌, ◌^◌, ◌<◌, ◌≤◌, ◌==◌, Bool, true, false, List, [], ◌∷◌, ◌++◌, Some, None, Option, IsTrue, drop, length, map, replicate, get_or, set, slice_get, get_or-set_other, length-append, length-drop, length-set, eqb-true}
use Rattle.std.proofs.lemmas.Bool.{false≢true}
use Rattle.std.proofs.lemmas.List.{drop-append-le, drop-set-add, get_or_append_left, length-replicate}
use Rattle.std.specs.Int.{int_wrap}
use Rattle.cb_plain.specs.declared.shape.Shape.{Shape}
use Rattle.cb_plain.specs.declared.shape.Shape.TheVariants as shapes
use Rattle.cb_plain.specs.State.{blank}
use Rattle.cb_heap.specs.Shaped.{has_size, new_object}
use Rattle.cb_mapheap.specs.Layout.{Begins}
use Rattle.cb_mapheap.specs.Words.{blank_words, content_of, contents_in, kind_of, length_of, marks_in, marks_of, object_of, site_of, size_of}

-- contents with another word in them, behind them, and before others
pub contents_set : (marks : List Bool) (words : List ℕ) (i word : ℕ) (mark : Bool) → i < length marks →
    contents_in marks (set words i word) ≡ set (contents_in marks words) i (content_of (get_or marks i mark) word)
contents_set [] words i word mark below = absurd (omega (arith, below))
contents_set (first ∷ marks) [] i word mark below = refl
contents_set (first ∷ marks) (old ∷ words) zero word mark below = refl
contents_set (first ∷ marks) (old ∷ words) (suc i) word mark below =
    ap (λ rest. content_of first old ∷ rest) (contents_set marks words i word mark (omega (arith, below)))

pub contents_past : (marks : List Bool) (words : List ℕ) (i word : ℕ) → length marks ≤ i → contents_in marks (set words i word) ≡ contents_in marks words
contents_past [] words i word past = refl
contents_past (mark ∷ marks) [] i word past = refl
contents_past (mark ∷ marks) (old ∷ words) zero word past = absurd (omega (arith, past))
contents_past (mark ∷ marks) (old ∷ words) (suc i) word past = ap (λ rest. content_of mark old ∷ rest) (contents_past marks words i word (omega (arith, past)))

pub contents_front : (marks : List Bool) (words more : List ℕ) → length marks ≤ length words → contents_in marks (words ++ more) ≡ contents_in marks words
contents_front [] words more within = refl
contents_front (mark ∷ marks) [] more within = absurd (omega (arith, within))
contents_front (mark ∷ marks) (word ∷ words) more within = ap (λ rest. content_of mark word ∷ rest) (contents_front marks words more (omega (arith, within)))

-- how many there are, and each of them
pub contents_length : (marks : List Bool) (words : List ℕ) → length marks ≤ length words → length (contents_in marks words) ≡ length marks
contents_length [] words within = refl
contents_length (mark ∷ marks) [] within = absurd (omega (arith, within))
contents_length (mark ∷ marks) (word ∷ words) within = ap suc (contents_length marks words (omega (arith, within)))

pub contents_within : (marks : List Bool) (words : List ℕ) → length (contents_in marks words) ≤ length marks
contents_within [] words = omega arith
contents_within (mark ∷ marks) [] = omega arith
contents_within (mark ∷ marks) (word ∷ words) = omega (arith, contents_within marks words)

pub contents_at : (marks : List Bool) (words : List ℕ) (i : ℕ) (mark : Bool) → i < length (contents_in marks words) →
    slice_get (contents_in marks words) i ≡ Some (content_of (get_or marks i mark) (get_or words i 0))
contents_at [] words i mark below = absurd (omega (arith, below))
contents_at (first ∷ marks) [] i mark below = absurd (omega (arith, below))
contents_at (first ∷ marks) (word ∷ words) zero mark below = refl
contents_at (first ∷ marks) (word ∷ words) (suc i) mark below = contents_at marks words i mark (omega (arith, below))

-- new contents
blank_at : (mark : Bool) → content_of mark 0 ≡ blank mark
unfolding int_wrap
blank_at true = refl
blank_at false = refl

contents_blank : (marks : List Bool) → contents_in marks (replicate (length marks) 0) ≡ map blank marks
contents_blank [] = refl
contents_blank (mark ∷ marks) = ap (λ content. content ∷ contents_in marks (replicate (length marks) 0)) (blank_at mark) ∙ ap (λ rest. blank mark ∷ rest) (contents_blank marks)

elements_blank : (size : ℕ) (mark : Bool) → contents_in (replicate size mark) (replicate size 0) ≡ replicate size (blank mark)
elements_blank zero mark = refl
elements_blank (suc size) mark = ap (λ content. content ∷ contents_in (replicate size mark) (replicate size 0)) (blank_at mark) ∙ ap (λ rest. blank mark ∷ rest) (elements_blank size mark)

-- marks for each word
marks_count : (all : List Shape) (kind size : ℕ) (shape : Option Shape) → slice_get all kind ≡ shape → IsTrue (has_size all kind size) → length (marks_of size shape) ≡ size
marks_count all kind size None is shaped = absurd (false≢true (rw is at shaped))
marks_count all kind size (Some (shapes.Fields marks)) is shaped = let same : IsTrue (length marks == size) = rw is at shaped in omega (arith, eqb-true)
marks_count all kind size (Some (shapes.Elements mark)) is shaped = length-replicate size mark

pub marks_length : (all : List Shape) (kind size : ℕ) → IsTrue (has_size all kind size) → length (marks_of size (slice_get all kind)) ≡ size
marks_length all kind size shaped = marks_count all kind size (slice_get all kind) refl shaped

-- the object at the front of a list of words: it stays when a word behind it changes, or more come behind it
pub read_before : (words : List ℕ) (place word n : ℕ) → n < place → get_or (set words place word) n 0 ≡ get_or words n 0
read_before words place word n before = get_or-set_other words place n word 0 (λ same. absurd (omega (arith, before, same)))

object_like : (all : List Shape) (one other : List ℕ) → get_or one 0 0 ≡ get_or other 0 0 → get_or one 2 0 ≡ get_or other 2 0 →
    contents_in (marks_in all other) (drop 3 one) ≡ contents_in (marks_in all other) (drop 3 other) → object_of all one ≡ object_of all other
object_like all one other first third rest = rw (first, third) (ap (λ contents. record { site = site_of other; kind = kind_of other; contents = contents }) rest)

begins_like : (all : List Shape) (serial : ℕ) (one other : List ℕ) → get_or one 0 0 ≡ get_or other 0 0 → get_or one 1 0 ≡ get_or other 1 0 → get_or one 2 0 ≡ get_or other 2 0 →
    length other ≤ length one → Begins all serial other → Begins all serial one
begins_like all serial one other first second third longer begins = record {
  shaped = rw first begins.shaped;
  whole = rw first (omega (arith, begins.whole, longer));
  numbered = rw second begins.numbered;
  site = rw third begins.site;
}

pub marks_begin : (all : List Shape) (serial : ℕ) (words : List ℕ) → Begins all serial words → length (marks_in all words) ≡ length_of words
marks_begin all serial words begins = marks_length all (kind_of words) (length_of words) begins.shaped

pub object_before : (all : List Shape) (serial : ℕ) (words : List ℕ) (place word : ℕ) → Begins all serial words → size_of words ≤ place →
    object_of all (set words place word) ≡ object_of all words
object_before all serial words place word begins past =
    let behind : (n : ℕ) × (3 + n ≡ place) × (length (marks_in all words) ≤ n) = (place - 3, omega (arith, past), omega (arith, past, marks_begin all serial words begins)) in
    object_like all (set words place word) words (read_before words place word 0 (omega (arith, past))) (read_before words place word 2 (omega (arith, past)))
    (ap (λ spot. contents_in (marks_in all words) (drop 3 (set words spot word))) (sym behind.1)
    ∙ ap (contents_in (marks_in all words)) (drop-set-add 3 words behind.0 word)
    ∙ contents_past (marks_in all words) (drop 3 words) behind.0 word behind.2)

pub begins_set : (all : List Shape) (serial : ℕ) (words : List ℕ) (place word : ℕ) → Begins all serial words → 3 ≤ place → Begins all serial (set words place word)
begins_set all serial words place word begins past =
    begins_like all serial (set words place word) words (read_before words place word 0 (omega (arith, past))) (read_before words place word 1 (omega (arith, past))) (read_before words place word 2 (omega (arith, past)))
    (omega (arith, length-set words place word)) begins

pub object_front : (all : List Shape) (serial : ℕ) (words more : List ℕ) → Begins all serial words → object_of all (words ++ more) ≡ object_of all words
object_front all serial words more begins =
    let long : size_of words ≤ length words = begins.whole in
    object_like all (words ++ more) words (get_or_append_left words more 0 0 (omega (arith, long))) (get_or_append_left words more 0 2 (omega (arith, long)))
    (ap (contents_in (marks_in all words)) (drop-append-le 3 words more (omega (arith, long)))
    ∙ contents_front (marks_in all words) (drop 3 words) more (omega (arith, long, marks_begin all serial words begins, length-drop 3 words)))

pub begins_front : (all : List Shape) (serial : ℕ) (words more : List ℕ) → Begins all serial words → Begins all serial (words ++ more)
begins_front all serial words more begins =
    let long : size_of words ≤ length words = begins.whole in
    begins_like all serial (words ++ more) words (get_or_append_left words more 0 0 (omega (arith, long))) (get_or_append_left words more 0 1 (omega (arith, long))) (get_or_append_left words more 0 2 (omega (arith, long)))
    (omega (arith, length-append words more)) begins

-- it has other contents when one of their words changes
pub object_set : (all : List Shape) (serial : ℕ) (words : List ℕ) (i word : ℕ) (mark : Bool) → Begins all serial words → i < length_of words →
    object_of all (set words (3 + i) word) ≡ record { site = site_of words; kind = kind_of words; contents = set (contents_in (marks_in all words) (drop 3 words)) i (content_of (get_or (marks_in all words) i mark) word) }
object_set all serial words i word mark begins below =
    let same = ap (contents_in (marks_in all words)) (drop-set-add 3 words i word) ∙ contents_set (marks_in all words) (drop 3 words) i word mark (omega (arith, below, marks_begin all serial words begins)) in
    rw (read_before words (3 + i) word 0 (omega arith), read_before words (3 + i) word 2 (omega arith)) (ap (λ contents. record { site = site_of words; kind = kind_of words; contents = contents }) same)

-- a new object
pub blank_kind : (serial site kind size : ℕ) → kind < 2 ^ 32 → kind_of (blank_words serial site kind size) ≡ kind
blank_kind serial site kind size below = omega (arith, below)

pub blank_length : (serial site kind size : ℕ) → kind < 2 ^ 32 → length_of (blank_words serial site kind size) ≡ size
blank_length serial site kind size below = omega (arith, below)

pub blank_size : (serial site kind size : ℕ) → length (blank_words serial site kind size) ≡ 3 + size
blank_size serial site kind size = omega (arith, length-replicate {A = ℕ} size 0)

blank_contents : (all : List Shape) (site kind size : ℕ) (shape : Option Shape) → slice_get all kind ≡ shape → IsTrue (has_size all kind size) →
    contents_in (marks_of size shape) (replicate size 0) ≡ (new_object all site kind size).contents
blank_contents all site kind size None is shaped = rw is refl
blank_contents all site kind size (Some (shapes.Fields marks)) is shaped =
    let same : length marks ≡ size = eqb-true (length marks) size (rw is at shaped) in
    rw is (ap (λ count. contents_in marks (replicate count 0)) (sym same) ∙ contents_blank marks)
blank_contents all site kind size (Some (shapes.Elements mark)) is shaped = rw is (elements_blank size mark)

pub object_new : (all : List Shape) (serial site kind size : ℕ) → kind < 2 ^ 32 → IsTrue (has_size all kind size) →
    object_of all (blank_words serial site kind size) ≡ new_object all site kind size
object_new all serial site kind size below shaped =
    rw (blank_kind serial site kind size below, blank_length serial site kind size below)
    (ap (λ contents. record { site = site; kind = kind; contents = contents }) (blank_contents all site kind size (slice_get all kind) refl shaped))

pub begins_new : (all : List Shape) (serial site kind size : ℕ) → kind < 2 ^ 32 → site < 2 ^ 32 → IsTrue (has_size all kind size) → Begins all serial (blank_words serial site kind size)
begins_new all serial site kind size below site_below shaped = record {
  shaped = rw (blank_kind serial site kind size below, blank_length serial site kind size below) shaped;
  whole = omega (arith, blank_length serial site kind size below, blank_size serial site kind size);
  numbered = refl;
  site = site_below;
}
