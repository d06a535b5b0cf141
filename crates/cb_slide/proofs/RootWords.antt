-- The references of roots are rewritten, one by one.
use Rattle.std.proofs.Common.{◌≡◌, ◌∙◌, ℕ, ◌+◌, ◌<◌, ◌≤◌, Bool, Some, List, length, get_or, map, option_map, set as put_at, slice_get, sym, ap, arith, subst, inl, inr, length-set, get_or-set_same, get_or-set_other}
use Rattle.std.proofs.lemmas.Bool.{cases_eq}
use Rattle.std.proofs.lemmas.List.{get_or_default, length-map, same_lists}
use Rattle.std.proofs.lemmas.Option.{get_or_from_slice_get, slice_get-get_or, slice_get-map, slice_get_within}
use Rattle.cb_plain.specs.State.{Roots}
use Rattle.cb_frames.specs.Entries.{entries}
use Rattle.cb_blocks.specs.Parted.{Parted}
use Rattle.cb_slide.specs.Slid.{place_after}
use Rattle.cb_slide.specs.Sliding.{Given, IsForwarded, RootsTo}
use Rattle.cb_slide.proofs.Carried.{MayFollow, after_null, root_follows}
use Rattle.cb_slide.proofs.Rewriting.{FoundRead, NullRead, new_is}

pub roots_begin : (given : Given) (roots : Roots) → roots ≡ given.roots → RootsTo given roots 0
roots_begin given roots same =
    record { done = λ k below. absurd (omega (arith, below)); rest = λ k past. ap (λ (r : Roots). get_or (entries r) k 0) same; long = ap (λ (r : Roots). length (entries r)) same }

module _ {given : Given} {now : Roots} {i : ℕ} (r : RootsTo given now i) (at : ℕ) (read : slice_get (entries now) i ≡ Some at) where
  below : i < length (entries given.roots)
  below = omega (arith, slice_get_within (entries now) i at read, r.long)

  pub entry_was : get_or (entries given.roots) i 0 ≡ at
  entry_was = sym (r.rest i (omega arith)) ∙ get_or_from_slice_get (entries now) i at 0 read

  pub entry_follows : {memory : Parted} → IsForwarded given memory → MayFollow given at
  entry_follows f = root_follows given i at f.given_is (slice_get-get_or (entries given.roots) i 0 below ∙ ap Some entry_was)

  pub entry_some : (at ≡ 0 → ⊥) → 0 < get_or (entries now) i 0
  entry_some some = omega (arith, some, get_or_from_slice_get (entries now) i at 0 read)

  pub root_null : at ≡ 0 → RootsTo given now (i + 1)
  root_null null =
      record {
        done = λ k low. elim (cases_eq k i) [
          | inr differs ↦ r.done k (omega (arith, low, differs))
          | inl same ↦
              ap (λ n. get_or (entries now) n 0) same ∙ get_or_from_slice_get (entries now) i at 0 read ∙ null ∙ sym (after_null given)
              ∙ ap (place_after given.set given.heap.memory) (sym null ∙ sym entry_was ∙ ap (λ n. get_or (entries given.roots) n 0) (sym same))
        ];
        rest = λ k past. r.rest k (omega (arith, past));
        long = r.long;
      }

  pub root_set : {memory : Parted} (set : List Bool) (to : ℕ) (next : Roots) → IsForwarded given memory → set ≡ given.set → NullRead at to → FoundRead memory set at to → entries next ≡ put_at (entries now) i to → RootsTo given next (i + 1)
  root_set {memory} set to next f same null found written =
      let after : to ≡ place_after given.set given.heap.memory at = new_is set at to f same (entry_follows f) null found in
      record {
        done = λ k low. ap (λ xs. get_or xs k 0) written ∙ elim (cases_eq k i) [
          | inr differs ↦ get_or-set_other (entries now) i k to 0 differs ∙ r.done k (omega (arith, low, differs))
          | inl equal ↦
              ap (λ n. get_or (put_at (entries now) i to) n 0) equal ∙ get_or-set_same (entries now) i to 0 (omega (arith, below, r.long)) ∙ after
              ∙ ap (place_after given.set given.heap.memory) (sym entry_was ∙ ap (λ n. get_or (entries given.roots) n 0) (sym equal))
        ];
        rest = λ k past. ap (λ xs. get_or xs k 0) written ∙ get_or-set_other (entries now) i k to 0 (λ equal. absurd (omega (arith, past, equal))) ∙ r.rest k (omega (arith, past));
        long = ap length written ∙ length-set (entries now) i to ∙ r.long;
      }

pub roots_all : {given : Given} {now : Roots} (count : ℕ) → RootsTo given now count → length (entries given.roots) ≤ count → entries now ≡ map (place_after given.set given.heap.memory) (entries given.roots)
roots_all {given} {now} count r all =
    let after : ℕ → ℕ = place_after given.set given.heap.memory in
    same_lists (entries now) (map after (entries given.roots)) (r.long ∙ sym (length-map (entries given.roots) after)) (λ k d below.
    let inside : k < length (entries given.roots) = omega (arith, below, r.long) in
    let there : slice_get (map after (entries given.roots)) k ≡ Some (after (get_or (entries given.roots) k 0)) = slice_get-map after (entries given.roots) k ∙ ap (option_map after) (slice_get-get_or (entries given.roots) k 0 inside) in
    get_or_default (entries now) k d 0 below ∙ r.done k (omega (arith, inside, all)) ∙ sym (get_or_from_slice_get (map after (entries given.roots)) k (after (get_or (entries given.roots) k 0)) d there))

pub same_roots : {given : Given} {count : ℕ} (now now' : Roots) → now' ≡ now → RootsTo given now count → RootsTo given now' count
same_roots {given} {count} now now' same r = subst (λ (roots : Roots). RootsTo given roots count) (sym same) r
