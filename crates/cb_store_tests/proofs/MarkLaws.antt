-- What is marked is what is reached.
use Rattle.std.proofs.Common.{◌≡◌, ◌∙◌, ap, sym, refl, subst, arith, ℕ, ◌+◌, ◌<◌, ◌≤◌, ◌⊎◌, inl, inr, eq-or-lt_of_le, ◌&&◌, Bool, true, false, List, [], ◌∷◌, Option, Some, None, is_some, length, pred, get_or, slice_get, slice_set, zero, suc, IsTrue, if◌then◌else◌}
use Rattle.std.specs.List.{Contains}
use Rattle.std.proofs.lemmas.Bool.{false≢true}
use Rattle.std.proofs.lemmas.Option.{get_or_from_slice_get, none-some, same_Some, slice_get-get_or, slice_get_within}
use Rattle.cb_plain.specs.Reach.{AtRoot, Behind, IsReached, Points, root_references}
use Rattle.cb_plain.specs.State.{Object, Reference, Roots}
use Rattle.cb_plain.specs.Updates.{kept as kept_entry, object_in}
use Rattle.cb_frames.specs.Entries.{entries}
use Rattle.cb_frames.proofs.Laws.{entries_are_roots}
use Rattle.cb_heap.specs.Closed.{Collects, IsClosed}
use Rattle.cb_heap.specs.Kept.{is_held, is_kept, keep, residents}
use Rattle.cb_heap.specs.Reading.{View, seen}
use Rattle.cb_heap.specs.Store.{may_point}
use Rattle.cb_heap.specs.Taking.{IsTaken}
use Rattle.cb_heap.proofs.Laws as laws
use Rattle.cb_store_tests.specs.FourCells.{entry_of, every_site, object_of, word_of}
use Rattle.cb_store_tests.specs.Marks.{IsAny, IsBehind, IsMarked, IsNamed, IsNext, IsUnmarked, referent_of}
use Rattle.cb_store_tests.specs.declared.cell.Cell.{Cell}
use Rattle.cb_store_tests.proofs.CellLaws.{roots_same, same_collects}

-- ---- what a cell refers to

word_refers : (linked : Bool) (word at other : ℕ) → slice_get (word_of linked word ∷ []) at ≡ Some (Reference other) → (if linked then word else 0) ≡ other
word_refers true word zero other holds = cc holds
word_refers false word zero other holds = absurd (cc holds)
word_refers linked word (suc at) other holds = absurd (none-some (Reference other) holds)

entry_refers : (kept linked : Bool) (site kind word at other : ℕ) (object : Object) →
    (if kept then Some (record { site = site; kind = kind; contents = word_of linked word ∷ [] }) else None) ≡ Some object →
    slice_get object.contents at ≡ Some (Reference other) → (if kept && linked then word else 0) ≡ other
entry_refers true linked site kind word at other object is holds =
    word_refers linked word at other (ap (λ each. slice_get each.contents at) (same_Some (record { site = site; kind = kind; contents = word_of linked word ∷ [] }) object is) ∙ holds)
entry_refers false linked site kind word at other object is holds = absurd (none-some object is)

pub refers : (cell : Cell) (objects : List (Option Object)) (one other : ℕ) → slice_get objects one ≡ Some (entry_of cell) → Points objects (suc one) other → referent_of cell ≡ other
refers cell objects one other is points =
    entry_refers cell.kept cell.linked cell.site (object_of cell).kind cell.word points.holds.0 other points.object
    (ap kept_entry (sym is) ∙ points.there) (slice_get-get_or points.object.contents points.holds.0 (Reference other) points.holds.1 ∙ ap Some points.holds.2)

entry_points : (kept linked : Bool) (site kind word one place : ℕ) (objects : List (Option Object)) →
    slice_get objects one ≡ Some (if kept then Some (record { site = site; kind = kind; contents = word_of linked word ∷ [] }) else None) →
    (if kept && linked then word else 0) ≡ suc place → Points objects (suc one) (suc place)
entry_points true true site kind word one place objects is to = record {
  object = record { site = site; kind = kind; contents = Reference word ∷ [] };
  there = ap kept_entry is;
  holds = (zero, omega arith, ap Reference to);
  is_some = omega arith;
}
entry_points true false site kind word one place objects is to = absurd (omega (arith, to))
entry_points false linked site kind word one place objects is to = absurd (omega (arith, to))

pub points_to : (cell : Cell) (objects : List (Option Object)) (one place : ℕ) → slice_get objects one ≡ Some (entry_of cell) → referent_of cell ≡ suc place → Points objects (suc one) (suc place)
points_to cell objects one place is to = entry_points cell.kept cell.linked cell.site (object_of cell).kind cell.word one place objects is to

-- a cell that refers to no object without a mark, or has none itself, has none behind it
pub none_behind : (cell : Cell) (objects : List (Option Object)) (marked : List Bool) (one place : ℕ) → slice_get objects one ≡ Some (entry_of cell) →
    ((other : ℕ) → ¬ IsUnmarked marked (referent_of cell) other) → (it : IsBehind objects marked place) → one ≡ it.one → ⊥
none_behind cell objects marked one place is none it same =
    none place (record { is = refers cell objects one (suc place) is (subst (λ each. Points objects (suc each) (suc place)) (sym same) it.points); unmarked = it.unmarked })

pub none_before : (objects : List (Option Object)) (marked : List Bool) (one place : ℕ) → get_or marked one false ≡ false → (it : IsBehind objects marked place) → one ≡ it.one → ⊥
none_before objects marked one place is it same =
    false≢true (sym is ∙ ap (λ each. get_or marked each false) same ∙ get_or_from_slice_get marked it.one true false it.from)

pub later : (i one : ℕ) → i ≤ one → (i ≡ one → ⊥) → i + 1 ≤ one
later i one before never = elim (eq-or-lt_of_le before) [
  | inl same ↦ absurd (never same)
  | inr less ↦ omega (arith, less)
]

-- ---- what is next

pub is_root : (held : Roots) (i to place : ℕ) → slice_get (entries held) i ≡ Some to → to ≡ suc place → Contains (root_references held) (suc place)
is_root held i to place is named =
    (entries_are_roots held (suc place)).1 (omega arith, (i, slice_get_within (entries held) i to is, get_or_from_slice_get (entries held) i to (suc place) is ∙ named))

pub root_at : (held : Roots) (place : ℕ) → Contains (root_references held) (suc place) → (i : ℕ) × (i < length (entries held)) × (slice_get (entries held) i ≡ Some (suc place))
root_at held place root =
    let there : Contains (entries held) (suc place) = ((entries_are_roots held (suc place)).0 root).1 in
    (there.0, there.1, slice_get-get_or (entries held) there.0 (suc place) there.1 ∙ ap Some there.2)

pub named_next : (objects : List (Option Object)) (held : Roots) (marked : List Bool) (place : ℕ) → IsNamed held marked place → IsNext (seen pred objects held) marked place
named_next objects held marked place named = inl (subst (λ each. IsNamed each marked place) (sym (roots_same held)) named)

pub behind_next : (objects : List (Option Object)) (held : Roots) (marked : List Bool) (found : Option ℕ) → ((place : ℕ) → ¬ IsNamed held marked place) →
    IsAny (IsBehind objects marked) found → IsAny (IsNext (seen pred objects held) marked) found
behind_next objects held marked (Some place) unnamed behind = inr behind
behind_next objects held marked None unnamed behind = λ place next. elim next [
  | inl named ↦ unnamed place (subst (λ each. IsNamed each marked place) (roots_same held) named)
  | inr after ↦ behind place after
]

-- ---- marks

pub marked_now : (marked : List Bool) (place other : ℕ) → slice_get (slice_set marked place true) other ≡ Some true → (other ≡ place) ⊎ (slice_get marked other ≡ Some true)
marked_now [] place other is = inr is
marked_now (mark ∷ marked) zero zero is = inl refl
marked_now (mark ∷ marked) zero (suc other) is = inr is
marked_now (mark ∷ marked) (suc place) zero is = inr is
marked_now (mark ∷ marked) (suc place) (suc other) is = elim (marked_now marked place other is) [
  | inl same ↦ inl (ap suc same)
  | inr before ↦ inr before
]

-- how many aren't marked
abbrev pub unmarked_in : List Bool → ℕ
unmarked_in [] = 0
unmarked_in (true ∷ marked) = unmarked_in marked
unmarked_in (false ∷ marked) = suc (unmarked_in marked)

pub fewer : (marked : List Bool) (place : ℕ) → slice_get marked place ≡ Some false → unmarked_in (slice_set marked place true) < unmarked_in marked
fewer [] place is = absurd (none-some false is)
fewer (true ∷ marked) zero is = absurd (false≢true (sym (same_Some true false is)))
fewer (false ∷ marked) zero is = omega arith
fewer (true ∷ marked) (suc place) is = fewer marked place is
fewer (false ∷ marked) (suc place) is = omega (arith, fewer marked place is)

pub next_unmarked : (view : View) (marked : List Bool) (place : ℕ) → IsNext view marked place → slice_get marked place ≡ Some false
next_unmarked view marked place next = elim next [
  | inl named ↦ named.unmarked
  | inr behind ↦ behind.unmarked
]

pub reached_now : (view : View) (marked : List Bool) (place : ℕ) → IsNext view marked place →
    ((other : ℕ) → slice_get marked other ≡ Some true → IsReached view.roots view.objects (suc other)) →
    (other : ℕ) → slice_get (slice_set marked place true) other ≡ Some true → IsReached view.roots view.objects (suc other)
reached_now view marked place next before other is = elim (marked_now marked place other is) [
  | inl same ↦ subst (λ each. IsReached view.roots view.objects (suc each)) (sym same) (reached_next next)
  | inr there ↦ before other there
] where
  reached_next : IsNext view marked place → IsReached view.roots view.objects (suc place)
  reached_next (inl named) = AtRoot (suc place) named.root
  reached_next (inr behind) = Behind (suc behind.one) (suc place) (before behind.one behind.from) behind.points

-- ---- what is reached is marked

entry_below : (objects : List (Option Object)) (place : ℕ) → IsTrue (is_kept objects (suc place)) → place < length objects
entry_below [] place there = absurd (false≢true there)
entry_below (entry ∷ objects) zero there = omega arith
entry_below (entry ∷ objects) (suc place) there = omega (arith, entry_below objects place there)

pub reached_below : (view : View) (place : ℕ) → IsClosed view → IsReached view.roots view.objects (suc place) → place < length view.objects
reached_below view place closed reached = entry_below view.objects place (laws.keeps_reached view view closed (same_collects view closed) (suc place) reached)

mark_there : (marked : List Bool) (place : ℕ) → place < length marked → (slice_get marked place ≡ Some true) ⊎ (slice_get marked place ≡ Some false)
mark_there [] place below = absurd (omega (arith, below))
mark_there (true ∷ marked) zero below = inl refl
mark_there (false ∷ marked) zero below = inr refl
mark_there (mark ∷ marked) (suc place) below = mark_there marked place (omega (arith, below))

module _ (view : View) (marked : List Bool) (closed : IsClosed view) (few : length view.objects ≤ length marked) (is : IsMarked view marked) where
  marked_unless : (place : ℕ) → IsReached view.roots view.objects (suc place) → (slice_get marked place ≡ Some false → ⊥) → slice_get marked place ≡ Some true
  marked_unless place reached never = elim (mark_there marked place (omega (arith, reached_below view place closed reached, few))) [
    | inl there ↦ there
    | inr not ↦ absurd (never not)
  ]

  marked_serial : (serial place : ℕ) → serial ≡ suc place → IsReached view.roots view.objects serial → slice_get marked place ≡ Some true
  marked_serial serial place same (AtRoot root there) =
      let named : Contains (root_references view.roots) (suc place) = subst (Contains (root_references view.roots)) same there in
      marked_unless place (AtRoot (suc place) named) (λ unmarked. is.all place (inl (record { root = named; unmarked = unmarked })))
  marked_serial serial place same (Behind zero other reached points) = absurd (none-some points.object points.there)
  marked_serial serial place same (Behind (suc one) other reached points) =
      let now : Points view.objects (suc one) (suc place) = subst (Points view.objects (suc one)) same points in
      marked_unless place (Behind (suc one) (suc place) reached now)
      (λ unmarked. is.all place (inr (record { one = one; from = marked_serial (suc one) one refl reached; points = now; unmarked = unmarked })))

-- ---- what is kept

mark_kept : (marked : List Bool) (objects : List (Option Object)) (place : ℕ) (object : Object) → slice_get objects place ≡ Some (Some object) →
    slice_get (residents (keep marked objects)) place ≡ slice_get marked place
mark_kept [] objects place object is = refl
mark_kept (mark ∷ marked) [] place object is = absurd (none-some (Some object) is)
mark_kept (true ∷ marked) (entry ∷ objects) zero object is = ap (λ each. Some (is_some each)) (same_Some entry (Some object) is)
mark_kept (false ∷ marked) (entry ∷ objects) zero object is = refl
mark_kept (true ∷ marked) (entry ∷ objects) (suc place) object is = mark_kept marked objects place object is
mark_kept (false ∷ marked) (entry ∷ objects) (suc place) object is = mark_kept marked objects place object is

gone_kept : (marked : List Bool) (objects : List (Option Object)) (place : ℕ) → length objects ≤ length marked → slice_get objects place ≡ Some None →
    slice_get (residents (keep marked objects)) place ≡ Some false
gone_kept [] [] place few is = absurd (none-some None is)
gone_kept [] (entry ∷ objects) place few is = absurd (omega (arith, few))
gone_kept (mark ∷ marked) [] place few is = absurd (none-some None is)
gone_kept (true ∷ marked) (entry ∷ objects) zero few is = ap (λ each. Some (is_some each)) (same_Some entry None is)
gone_kept (false ∷ marked) (entry ∷ objects) zero few is = refl
gone_kept (true ∷ marked) (entry ∷ objects) (suc place) few is = gone_kept marked objects place (omega (arith, few)) is
gone_kept (false ∷ marked) (entry ∷ objects) (suc place) few is = gone_kept marked objects place (omega (arith, few)) is

count_kept : (marked : List Bool) (objects : List (Option Object)) → length objects ≤ length marked → length (residents (keep marked objects)) ≡ length objects
count_kept [] [] few = refl
count_kept [] (entry ∷ objects) few = absurd (omega (arith, few))
count_kept (mark ∷ marked) [] few = refl
count_kept (true ∷ marked) (entry ∷ objects) few = ap suc (count_kept marked objects (omega (arith, few)))
count_kept (false ∷ marked) (entry ∷ objects) few = ap suc (count_kept marked objects (omega (arith, few)))

keep_again : (marked : List Bool) (objects : List (Option Object)) → keep (residents (keep marked objects)) objects ≡ keep marked objects
keep_again [] objects = refl
keep_again (mark ∷ marked) [] = refl
keep_again (true ∷ marked) (Some object ∷ objects) = ap (λ rest. Some object ∷ rest) (keep_again marked objects)
keep_again (true ∷ marked) (None ∷ objects) = ap (λ rest. None ∷ rest) (keep_again marked objects)
keep_again (false ∷ marked) (entry ∷ objects) = ap (λ rest. None ∷ rest) (keep_again marked objects)

pub marked_taken : (view : View) (marked : List Bool) → IsClosed view → length view.objects ≤ length marked → IsMarked view marked →
    IsTaken every_site view (residents (keep marked view.objects))
marked_taken view marked closed few is = record {
  count = count_kept marked view.objects few;
  stays = λ place object there. (
    λ stays. inr (is.reached place (sym (mark_kept marked view.objects place object there) ∙ stays)),
    λ why. elim why [
      | inl free ↦ absurd (false≢true (sym free))
      | inr reached ↦ mark_kept marked view.objects place object there ∙ marked_serial view marked closed few is (suc place) place refl reached
    ],
  );
  gone = λ place there. gone_kept marked view.objects place few there;
}

-- ---- and that is a collection

pointed_held : (view : View) → IsClosed view → (one other : ℕ) → Points view.objects one other → IsTrue (is_held view.objects other)
pointed_held view closed zero other points = absurd (none-some points.object points.there)
pointed_held view closed (suc one) other points =
    let word : slice_get points.object.contents points.holds.0 ≡ Some (Reference other) = slice_get-get_or points.object.contents points.holds.0 (Reference other) points.holds.1 ∙ ap Some points.holds.2 in
    laws.reference_held view closed (suc one) points.holds.0 other (laws.content_of_object view.objects (suc one) points.holds.0 points.object points.there ∙ word)

sites_pair : (objects : List (Option Object)) (one place : ℕ) (first : Object) (entry : Option Object) → object_in objects one ≡ Some first → object_in objects (suc place) ≡ entry →
    IsTrue (is_some entry) → IsTrue (may_point (λ first second. true) objects one (suc place))
sites_pair objects one place first (Some second) is also there = rw (is, also) refl
sites_pair objects one place first None is also there = absurd (false≢true there)

any_points : (objects : List (Option Object)) (one other : ℕ) (first : Object) → object_in objects one ≡ Some first → IsTrue (is_held objects other) →
    IsTrue (may_point (λ first second. true) objects one other)
any_points objects one zero first is held = refl
any_points objects one (suc place) first is held = sites_pair objects one place first (object_in objects (suc place)) is refl held

pub marked_collects : (view : View) (marked : List Bool) → IsClosed view → length view.objects ≤ length marked → IsMarked view marked →
    Collects view (record { roots = view.roots; objects = keep marked view.objects })
marked_collects view marked closed few is =
    subst (λ objects. Collects view (record { roots = view.roots; objects = objects })) (keep_again marked view.objects)
    (laws.takes_collect (λ one other. true) every_site view (residents (keep marked view.objects)) closed
    (record { each = λ one other points. any_points view.objects one other points.object points.there (pointed_held view closed one other points) })
    (record { each = λ one other allowed taken. refl })
    (marked_taken view marked closed few is)).0
