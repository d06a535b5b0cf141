-- A piece that is written in several calls.
use Rattle.std.proofs.Common.{◌≡◌, ℕ, ◌-◌, ◌^◌, ◌<◌, ◌≤◌, List, [], ◌++◌, take, drop, Option, Some, None, sym, ◌∙◌, ap, subst, arith, append_assoc, append-nil, length-append, take-append-drop}
use Rattle.std.specs.Io.KnownBytes.{Appends}
use Rattle.cb_io.specs.Sink.{AppendsProperPrefix}

-- so far `done` of the bytes was taken, `rest` is left, and no call has failed
pub record Written (old new : Option (List ℕ)) (before now : ℕ) (bytes rest : List ℕ) : Type 0 where
  pub done : List ℕ
  pub whole : bytes ≡ done ++ rest
  pub taken : Appends old new done
  pub never_falls : before ≤ now
  pub unfailed : before < 2 ^ 64 - 1 → now ≤ before

-- what was taken in two calls
pub Appends-Appends : (old mid new : Option (List ℕ)) (xs ys : List ℕ) → Appends old mid xs → Appends mid new ys → Appends old new (xs ++ ys)
Appends-Appends None mid new xs ys first second = tt
Appends-Appends (Some old) None new xs ys first second = absurd first
Appends-Appends (Some old) (Some mid) None xs ys first second = absurd second
Appends-Appends (Some old) (Some mid) (Some new) xs ys first second = second ∙ ap (λ m. m ++ ys) first ∙ append_assoc old xs ys

-- one more call took `count` bytes of the rest, and left is left
pub written_more : (old mid new : Option (List ℕ)) (before now later count : ℕ) (bytes rest left : List ℕ) → Written old mid before now bytes rest → Appends mid new (take count rest) → left ≡ drop count rest → now ≤ later → (now < 2 ^ 64 - 1 → now < later → ⊥) → Written old new before later bytes left
written_more old mid new before now later count bytes rest left so_far more is rises none = record {
  done = so_far.done ++ take count rest;
  whole = so_far.whole ∙ ap (λ r. so_far.done ++ r) (sym (take-append-drop count rest) ∙ ap (λ r. take count rest ++ r) (sym is)) ∙ sym (append_assoc so_far.done (take count rest) left);
  taken = Appends-Appends old mid new so_far.done (take count rest) so_far.taken more;
  never_falls = omega (arith, so_far.never_falls);
  unfailed = λ below. still below;
} where
  still : before < 2 ^ 64 - 1 → later ≤ before
  still below = let same : now ≤ before = so_far.unfailed below in omega (arith, none (omega arith))

-- a whole piece at the front of the rest was taken, and left is left
pub written_piece : (old mid new : Option (List ℕ)) (before now later : ℕ) (bytes rest piece left : List ℕ) → Written old mid before now bytes rest → rest ≡ piece ++ left → Appends mid new piece → now ≤ later → (now < 2 ^ 64 - 1 → now < later → ⊥) → Written old new before later bytes left
written_piece old mid new before now later bytes rest piece left so_far is more rises none = record {
  done = so_far.done ++ piece;
  whole = so_far.whole ∙ ap (λ r. so_far.done ++ r) is ∙ sym (append_assoc so_far.done piece left);
  taken = Appends-Appends old mid new so_far.done piece so_far.taken more;
  never_falls = omega (arith, so_far.never_falls);
  unfailed = λ below. still below;
} where
  still : before < 2 ^ 64 - 1 → later ≤ before
  still below = let same : now ≤ before = so_far.unfailed below in omega (arith, none (omega arith))

-- of the piece at the front of the rest just a part was taken
pub written_part : (old mid new : Option (List ℕ)) (before now : ℕ) (bytes rest piece left : List ℕ) → Written old mid before now bytes rest → rest ≡ piece ++ left → AppendsProperPrefix mid new piece → AppendsProperPrefix old new bytes
written_part old mid new before now bytes rest piece left so_far is (front, more, prefix) = (
  so_far.done ++ front,
  Appends-Appends old mid new so_far.done front so_far.taken more,
  record {
    rest = prefix.rest ++ left;
    whole = so_far.whole ∙ ap (λ r. so_far.done ++ r) (is ∙ ap (λ p. p ++ left) prefix.whole ∙ append_assoc front prefix.rest left) ∙ sym (append_assoc so_far.done front (prefix.rest ++ left));
    proper = omega (arith, prefix.proper, length-append prefix.rest left);
  },
)

-- nothing is left
pub written_all : (old new : Option (List ℕ)) (before now : ℕ) (bytes rest : List ℕ) → Written old new before now bytes rest → rest ≡ [] → Appends old new bytes
written_all old new before now bytes rest so_far none =
    subst (λ bytes. Appends old new bytes) (sym (so_far.whole ∙ ap (λ r. so_far.done ++ r) none ∙ append-nil so_far.done)) so_far.taken
