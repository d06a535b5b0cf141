-- That the entries of roots name what the roots do.
use Rattle.std.proofs.Common.{◌≡◌, ◌∙◌, sym, refl, ap, subst, arith, ℕ, zero, suc, ◌<◌, ◌⊎◌, inl, inr, List, [], ◌∷◌, ◌++◌, map, replicate, reverse, append_assoc}
use Rattle.std.specs.List.{Contains, flat_map}
use Rattle.std.proofs.lemmas.Grind.{flat_map-append, reverse_onto}
use Rattle.std.proofs.lemmas.List.{append-nil, reverse-reverse}
use Rattle.std.proofs.lemmas.List.Elements.{All-contains, All-replicate, Contains-append_cases, Contains-append_left, Contains-append_right}
use Rattle.cb_plain.specs.declared.value.Value.{Value}
use Rattle.cb_plain.specs.declared.value.Value.TheVariants as values
use Rattle.cb_plain.specs.Reach.{frame_references, reference_in, references_in, root_references, table_references, unless_null}
use Rattle.cb_plain.specs.State.{Frame, Initialising, OfMethod, Roots}
use Rattle.cb_frames.specs.Entries.{entries, frame_entries, free_slots, referent, table_entries}
use Rattle.cb_frames.specs.Named.{EntriesAreRoots}

-- where some entries name just these references
record Names (references entries : List ℕ) : Type 0 where
  pub some : (serial : ℕ) → Contains references serial → 0 < serial
  pub there : (serial : ℕ) → Contains references serial → Contains entries serial
  pub all : (serial : ℕ) → 0 < serial → Contains entries serial → Contains references serial

-- nothing is in no list, and the first item or one of the rest in any other
in_none : {X : Type 0} (x : X) → Contains [] x → ⊥
in_none x is = omega (arith, is.1)

in_first : {X : Type 0} (y : X) (x : X) → Contains (y ∷ []) x → y ≡ x
in_first y x (zero, few, is) = is
in_first y x (suc k, few, is) = absurd (omega (arith, few))

first_in : {X : Type 0} (x : X) (xs : List X) → Contains (x ∷ xs) x
first_in x xs = (zero, omega arith, refl)

rest_in : {X : Type 0} (y : X) (xs : List X) (x : X) → Contains xs x → Contains (y ∷ xs) x
rest_in y xs x is = Contains-append_right (y ∷ []) xs x is

cons_cases : {X : Type 0} (y : X) (xs : List X) (x : X) → Contains (y ∷ xs) x → (y ≡ x) ⊎ Contains xs x
cons_cases y xs x is = elim (Contains-append_cases (y ∷ []) xs x is) [ inl here ↦ inl (in_first y x here) | inr behind ↦ inr behind ]

-- lists that are joined, in either order
names_joined : (a b c d : List ℕ) → Names a c → Names b d → Names (a ++ b) (c ++ d)
names_joined a b c d one other = record {
  some = λ serial is. elim (Contains-append_cases a b serial is) [ inl first ↦ one.some serial first | inr behind ↦ other.some serial behind ];
  there = λ serial is. elim (Contains-append_cases a b serial is) [ inl first ↦ Contains-append_left c d serial (one.there serial first) | inr behind ↦ Contains-append_right c d serial (other.there serial behind) ];
  all = λ serial some is. elim (Contains-append_cases c d serial is) [ inl first ↦ Contains-append_left a b serial (one.all serial some first) | inr behind ↦ Contains-append_right a b serial (other.all serial some behind) ];
}

names_turned : (a b c d : List ℕ) → Names a c → Names b d → Names (a ++ b) (d ++ c)
names_turned a b c d one other = record {
  some = λ serial is. elim (Contains-append_cases a b serial is) [ inl first ↦ one.some serial first | inr behind ↦ other.some serial behind ];
  there = λ serial is. elim (Contains-append_cases a b serial is) [ inl first ↦ Contains-append_right d c serial (one.there serial first) | inr behind ↦ Contains-append_left d c serial (other.there serial behind) ];
  all = λ serial some is. elim (Contains-append_cases d c serial is) [ inl first ↦ Contains-append_right a b serial (other.all serial some first) | inr behind ↦ Contains-append_left a b serial (one.all serial some behind) ];
}

-- a list that is turned round has the same items
pub contains_reversed : {X : Type 0} (xs : List X) (x : X) → Contains xs x → Contains (reverse xs) x
contains_reversed [] x is = absurd (in_none x is)
contains_reversed (y ∷ xs) x is =
    subst (λ all. Contains all x) (sym (reverse_onto xs y []))
    (elim (cons_cases y xs x is) [ inl first ↦ Contains-append_right (reverse xs) (y ∷ []) x (subst (λ item. Contains (item ∷ []) x) (sym first) (first_in x [])) | inr behind ↦ Contains-append_left (reverse xs) (y ∷ []) x (contains_reversed xs x behind) ])

names_reversed : (a c : List ℕ) → Names a c → Names a (reverse c)
names_reversed a c names = record {
  some = names.some;
  there = λ serial is. contains_reversed c serial (names.there serial is);
  all = λ serial some is. names.all serial some (subst (λ all. Contains all serial) (reverse-reverse c) (contains_reversed (reverse c) serial is));
}

-- entries of 0 name nothing
names_none : Names [] []
names_none = record {
  some = λ serial is. absurd (in_none serial is);
  there = λ serial is. absurd (in_none serial is);
  all = λ serial some is. absurd (in_none serial is);
}

names_zeros : (n : ℕ) → Names [] (replicate n 0)
names_zeros n = record {
  some = λ serial is. absurd (in_none serial is);
  there = λ serial is. absurd (in_none serial is);
  all = λ serial some is. absurd (not_zero serial some (All-contains (λ entry. entry ≡ 0) (replicate n 0) serial (All-replicate (λ entry. entry ≡ 0) n 0 refl) is));
}
  where
    not_zero : (serial : ℕ) → 0 < serial → serial ≡ 0 → ⊥
    not_zero serial some none = omega (arith, some, none)

names_nonzero : (given : List ℕ) → Names (flat_map unless_null given) given
names_nonzero [] = names_none
names_nonzero (zero ∷ given) = record {
  some = (names_nonzero given).some;
  there = λ serial is. rest_in zero given serial ((names_nonzero given).there serial is);
  all = λ serial some is. elim (cons_cases zero given serial is) [ inl first ↦ absurd (let none : ⊥ = omega (arith, some, first) in none) | inr behind ↦ (names_nonzero given).all serial some behind ];
}
names_nonzero (suc entry ∷ given) = names_joined (suc entry ∷ []) (flat_map unless_null given) (suc entry ∷ []) given (names_one entry) (names_nonzero given)
  where
    names_one : (entry : ℕ) → Names (suc entry ∷ []) (suc entry ∷ [])
    names_one entry = record {
      some = λ serial is. omega (arith, in_first (suc entry) serial is);
      there = λ serial is. is;
      all = λ serial some is. is;
    }

names_entry : (entry : ℕ) → Names (unless_null entry) (entry ∷ [])
names_entry entry = subst (λ references. Names references (entry ∷ [])) (append-nil (unless_null entry)) (names_nonzero (entry ∷ []))

-- values, frames and all roots
reference_of : (value : Value) → reference_in value ≡ unless_null (referent value)
reference_of (values.Int number) = refl
reference_of (values.Long number) = refl
reference_of (values.Ref to) = refl

references_of : (held : List Value) → references_in held ≡ flat_map unless_null (map referent held)
references_of [] = refl
references_of (value ∷ held) =
    ap (λ first. first ++ references_in held) (reference_of value) ∙ ap (λ rest. unless_null (referent value) ++ rest) (references_of held)

names_values : (held : List Value) → Names (references_in held) (map referent held)
names_values held = subst (λ references. Names references (map referent held)) (sym (references_of held)) (names_nonzero (map referent held))

names_frame : (frame : Frame) → Names (frame_references frame) (frame_entries frame)
names_frame (OfMethod frame) =
    subst (λ references. Names references (frame_entries (OfMethod frame))) (append-nil (references_in frame.locals ++ references_in frame.stack))
    (names_joined (references_in frame.locals ++ references_in frame.stack) [] (map referent frame.locals ++ reverse (map referent frame.stack)) (replicate (free_slots frame) 0)
    (names_joined (references_in frame.locals) (references_in frame.stack) (map referent frame.locals) (reverse (map referent frame.stack))
    (names_values frame.locals) (names_reversed (references_in frame.stack) (map referent frame.stack) (names_values frame.stack)))
    (names_zeros (free_slots frame)))
names_frame (Initialising class place) = names_none

names_frames : (frames : List Frame) → Names (flat_map frame_references frames) (flat_map frame_entries (reverse frames))
names_frames [] = names_none
names_frames (frame ∷ frames) =
    subst (Names (frame_references frame ++ flat_map frame_references frames))
    (sym (ap (flat_map frame_entries) (reverse_onto frames frame []) ∙ flat_map-append frame_entries (reverse frames) (frame ∷ []) ∙ ap (λ rest. flat_map frame_entries (reverse frames) ++ rest) (append-nil (frame_entries frame))))
    (names_turned (frame_references frame) (flat_map frame_references frames) (frame_entries frame) (flat_map frame_entries (reverse frames)) (names_frame frame) (names_frames frames))

abbrev front : Roots → List ℕ
front roots = flat_map frame_entries (reverse roots.frames) ++ map referent roots.statics ++ table_entries roots.tables

names_roots : (roots : Roots) → Names (root_references roots) (entries roots)
names_roots roots =
    subst (Names (root_references roots)) (append_assoc (front roots) (roots.pending ∷ []) (roots.argument ∷ []))
    (names_joined _ (unless_null roots.argument) (front roots ++ roots.pending ∷ []) (roots.argument ∷ [])
    (names_joined _ (unless_null roots.pending) (front roots) (roots.pending ∷ [])
    (names_joined _ (table_references roots.tables) (flat_map frame_entries (reverse roots.frames) ++ map referent roots.statics) (table_entries roots.tables)
    (names_joined (flat_map frame_references roots.frames) (references_in roots.statics) (flat_map frame_entries (reverse roots.frames)) (map referent roots.statics)
    (names_frames roots.frames) (names_values roots.statics))
    (names_nonzero (table_entries roots.tables)))
    (names_entry roots.pending))
    (names_entry roots.argument))

pub are_roots : EntriesAreRoots
are_roots roots serial =
    (λ is. ((names_roots roots).some serial is, (names_roots roots).there serial is), λ both. (names_roots roots).all serial both.0 both.1)
