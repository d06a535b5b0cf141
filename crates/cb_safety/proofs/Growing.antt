-- Objects that are placed behind the others: the heap stays typed.
use Rattle.std.proofs.Common.{◌≡◌, ◌∙◌, ap, arith, refl, sym, subst, ℕ, zero, suc, ◌+◌, List, [], ◌∷◌, ◌++◌, map, length, Option, Some, option_map, slice_get}
use Rattle.std.specs.List.{AllByRecursion}
use Rattle.std.proofs.lemmas.List.{map-append}
use Rattle.cb_link.specs.Program.{Linked}
use Rattle.cb_plain.specs.State.{Object}
use Rattle.cb_plain.specs.Updates.{kept, object_in}
use Rattle.cb_safety.specs.Heap.{IsHeap, IsObject}
use Rattle.cb_safety.specs.Kinds.{Kinds, kind_in, kinds_of, known}
use Rattle.cb_safety.proofs.Extended.{is_object_more}

-- ---- the kinds of more objects

abbrev pub kinds_placed : List Object → Kinds
kinds_placed more = kinds_of (map Some more)

pub kinds_grown : (objects : List (Option Object)) (more : List Object) → kinds_of (objects ++ map Some more) ≡ kinds_of objects ++ kinds_placed more
kinds_grown objects more = map-append (option_map (λ (object : Object). object.kind)) objects (map Some more)

-- the first of them has the serial behind the last
known_behind : (objects : List (Option Object)) (own : ℕ) (kinds : Kinds) → known (slice_get (kinds_of objects ++ Some own ∷ kinds) (length objects)) ≡ Some own
known_behind [] own kinds = refl
known_behind (entry ∷ objects) own kinds = known_behind objects own kinds

pub kind_behind : (objects : List (Option Object)) (own : ℕ) (kinds : Kinds) → kind_in (kinds_of objects ++ Some own ∷ kinds) (length objects + 1) ≡ Some own
kind_behind objects own kinds =
    ap (kind_in (kinds_of objects ++ Some own ∷ kinds)) (let same : length objects + 1 ≡ suc (length objects) = omega arith in same)
    ∙ known_behind objects own kinds

-- ---- the heap

-- what is so of each object that was there, and of each that is placed, is so of each that is there now
kept_placed : (P : Object → Type 0) (more : List Object) (place : ℕ) (object : Object) → AllByRecursion P more → kept (slice_get (map Some more) place) ≡ Some object → P object
kept_placed P [] place object all is = absurd (cc is)
kept_placed P (first ∷ more) zero object all is = let same : first ≡ object = cc in subst P same all.0
kept_placed P (first ∷ more) (suc place) object all is = kept_placed P more place object all.1 is

kept_grown : (P : Object → Type 0) (objects : List (Option Object)) (more : List Object) (place : ℕ) (object : Object)
    → ((place : ℕ) → kept (slice_get objects place) ≡ Some object → P object) → AllByRecursion P more → kept (slice_get (objects ++ map Some more) place) ≡ Some object → P object
kept_grown P [] more place object old all is = kept_placed P more place object all is
kept_grown P (entry ∷ objects) more zero object old all is = old zero is
kept_grown P (entry ∷ objects) more (suc place) object old all is = kept_grown P objects more place object (λ place. old (suc place)) all is

pub heap_grown : (program : Linked) (objects : List (Option Object)) (more : List Object) → IsHeap program objects
    → AllByRecursion (IsObject program (kinds_of objects ++ kinds_placed more)) more → IsHeap program (objects ++ map Some more)
heap_grown program objects more heap all = record {
  each = λ serial object is. subst (λ (kinds : Kinds). IsObject program kinds object) (sym (kinds_grown objects more)) (by serial object is);
}
  where
    by : (serial : ℕ) (object : Object) → object_in (objects ++ map Some more) serial ≡ Some object → IsObject program (kinds_of objects ++ kinds_placed more) object
    by zero object is = absurd (cc is)
    by (suc place) object is =
        kept_grown (IsObject program (kinds_of objects ++ kinds_placed more)) objects more place object
        (λ place there. is_object_more program (kinds_of objects) (kinds_placed more) object (heap.each (suc place) object there)) all is
