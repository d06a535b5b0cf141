-- The items of a list, one after the other.
use Rattle.std.proofs.Common.{◌≡◌, ◌∙◌, ap, sym, refl, subst, arith, ℕ, zero, suc, ◌+◌, ◌<◌, ◌≤◌, List, [], ◌∷◌, ◌++◌, length, map, take, drop, get_or, append-nil}
use Rattle.std.specs.List.{AllByRecursion, flat_map}
use Rattle.std.proofs.lemmas.Grind.{flat_map-append}
use Rattle.std.proofs.lemmas.List.{map-append, take-append-drop, take_more}
use Rattle.cb_asm_record.specs.declared.key.Key.{Key}
use Rattle.cb_asm_record.specs.declared.stop.Stop.{Stop}
use Rattle.cb_text.specs.Pool.{IsPool}
use Rattle.cb_asm_record.specs.Constants.{firsts, pool_of}
use Rattle.cb_asm_record.specs.Entries.{Entry, with_parts}
use Rattle.cb_asm_record.specs.Inner.{Gives, IsHopeless, Refuses, key_entry}
use Rattle.cb_asm_record.proofs.Alls.{all_both}
use Rattle.cb_asm_record.proofs.Holding.{hopeless_more}

pub at_turn : {Item : Type 0} (items : List Item) (i : ℕ) (d : Item) → i < length items → items ≡ (take i items ++ get_or items i d ∷ []) ++ drop (i + 1) items
at_turn items i d below = sym (take-append-drop (i + 1) items) ∙ ap (λ front. front ++ drop (i + 1) items) (take_more items i d below)

pub map_more : {Item Other : Type 0} (f : Item → Other) (items : List Item) (i : ℕ) (d : Item) → i < length items → map f (take (i + 1) items) ≡ map f (take i items) ++ f (get_or items i d) ∷ []
map_more f items i d below = ap (map f) (take_more items i d below) ∙ map-append f (take i items) (get_or items i d ∷ [])

-- all items
pub take_past : {Item : Type 0} (items : List Item) (i : ℕ) → length items ≤ i → take i items ≡ items
take_past [] zero past = refl
take_past [] (suc i) past = refl
take_past (item ∷ items) zero past = absurd (omega (arith, past))
take_past (item ∷ items) (suc i) past = ap (λ rest. item ∷ rest) (take_past items i (omega (arith, past)))

-- what holds of each
pub all_more : {Item : Type 0} (P : Item → Type 0) (items : List Item) (i : ℕ) (d : Item) → i < length items → AllByRecursion P (take i items) → P (get_or items i d) → AllByRecursion P (take (i + 1) items)
all_more P items i d below all here = subst (AllByRecursion P) (sym (take_more items i d below)) (all_both P (take i items) (get_or items i d ∷ []) all (here, tt))

pub all_at : {Item : Type 0} (P : Item → Type 0) (items : List Item) (i : ℕ) (d : Item) → i < length items → AllByRecursion P items → P (get_or items i d)
all_at P [] i d below all = absurd (omega arith)
all_at P (item ∷ items) zero d below all = all.0
all_at P (item ∷ items) (suc i) d below all = all_at P items i d (omega arith) all.1

used_of : List Key → List Entry
used_of keys = flat_map with_parts (map key_entry keys)

used_both : (one other : List Key) → used_of (one ++ other) ≡ used_of one ++ used_of other
unfolding used_of
used_both one other = ap (flat_map with_parts) (map-append key_entry one other) ∙ flat_map-append with_parts (map key_entry one) (map key_entry other)

-- constants that are used, as far as one of them
pub hopeless_turn : (keys : List Key) (i : ℕ) (d : Key) (stop : Stop) → i < length keys
    → IsHopeless (flat_map with_parts (map key_entry (take i keys)) ++ with_parts (key_entry (get_or keys i d))) stop
    → IsHopeless (flat_map with_parts (map key_entry keys)) stop
unfolding used_of
hopeless_turn keys i d stop below is =
    let all : used_of keys ≡ (used_of (take i keys) ++ with_parts (key_entry (get_or keys i d))) ++ used_of (drop (i + 1) keys) =
    ap used_of (at_turn keys i d below)
    ∙ used_both (take i keys ++ get_or keys i d ∷ []) (drop (i + 1) keys)
    ∙ ap (λ front. front ++ used_of (drop (i + 1) keys)) (used_both (take i keys) (get_or keys i d ∷ []) ∙ ap (λ last. used_of (take i keys) ++ last) (append-nil (with_parts (key_entry (get_or keys i d))))) in
    subst (λ used. IsHopeless used stop) (sym all) (hopeless_more (used_of (take i keys) ++ with_parts (key_entry (get_or keys i d))) (used_of (drop (i + 1) keys)) stop is)

-- where there is no hope for all, they make no pool
pub no_pool : (used : List Entry) (stop : Stop) → IsHopeless used stop → Refuses (IsPool (pool_of (firsts used))) stop
no_pool used stop is = λ stopped made. is stopped [] (subst (λ all. IsPool (pool_of (firsts all))) (sym (append-nil used)) made)

-- what is made of the items so far, and what is asked of them
pub gives_more : {Item Made : Type 0} (f : Item → Made) (P : Item → Type 0) (items : List Item) (i : ℕ) (item : Item) (made : List Made) (one : Made)
    → i < length items → item ≡ get_or items i item → Gives (map f (take i items)) (AllByRecursion P (take i items)) made → Gives (f item) (P item) one
    → Gives (map f (take (i + 1) items)) (AllByRecursion P (take (i + 1) items)) (made ++ one ∷ [])
gives_more f P items i item made one below is before here = record {
  is = ap (λ front. front ++ one ∷ []) before.is ∙ ap (λ last. map f (take i items) ++ last ∷ []) (here.is ∙ ap f is) ∙ sym (map_more f items i item below);
  asked = all_more P items i item below before.asked (subst P is here.asked);
}

pub gives_all : {Item Made : Type 0} (f : Item → Made) (P : Item → Type 0) (items : List Item) (i : ℕ) (made : List Made)
    → length items ≤ i → Gives (map f (take i items)) (AllByRecursion P (take i items)) made → Gives (map f items) (AllByRecursion P items) made
gives_all f P items i made past before = subst (λ all. Gives (map f all) (AllByRecursion P all) made) (take_past items i past) before

pub refuses_turn : {Item : Type 0} (P : Item → Type 0) (items : List Item) (i : ℕ) (item : Item) (stop : Stop) → i < length items → item ≡ get_or items i item
    → Refuses (P item) stop → Refuses (AllByRecursion P items) stop
refuses_turn P items i item stop below is refused = λ stopped all. refused stopped (subst P (sym is) (all_at P items i item below all))

-- what isn't there for a part isn't there for the whole
pub refuses_whole : (Part Whole : Type 0) (stop : Stop) → (Whole → Part) → Refuses Part stop → Refuses Whole stop
refuses_whole Part Whole stop gives refused = λ stopped whole. refused stopped (gives whole)

-- the same of what the items are told by
all_told : {Item Told : Type 0} (f : Item → Told) (P : Told → Type 0) (items : List Item) → AllByRecursion P (map f items) → AllByRecursion (λ item. P (f item)) items
all_told f P [] all = tt
all_told f P (item ∷ items) all = (all.0, all_told f P items all.1)

pub refuses_told : {Item Told : Type 0} (f : Item → Told) (P : Told → Type 0) (items : List Item) (i : ℕ) (item : Item) (stop : Stop) → i < length items → item ≡ get_or items i item
    → Refuses (P (f item)) stop → Refuses (AllByRecursion P (map f items)) stop
refuses_told f P items i item stop below is refused = λ stopped all. refuses_turn (λ one. P (f one)) items i item stop below is refused stopped (all_told f P items all)
