-- Three words in front of the zeros by which a part grew.
use Rattle.std.proofs.Common.{◌≡◌, ◌∙◌, ℕ, suc, ◌+◌, ◌-◌, ◌*◌, ◌<◌, ◌≤◌, ◌↔◌, Result, Ok, Err, List, ◌∷◌, ◌++◌, length, set, replicate, refl, sym, ap, subst, arith, lit<, length-append, length-set}
use Rattle.std.specs.Prelude.{IsErr, OnOk}
use Rattle.std.proofs.lemmas.List.{length-replicate, set-append_right, set-set}
use Rattle.cb_blocks.specs.Parted.{IsAt, IsEnd, IsGrown, IsGrownBy, IsParted, Parted, blocks_for, index_of, room_behind, with_words}
use Rattle.cb_blocks.specs.Rows.{IsExtended, place_in, row}
use Rattle.cb_blocks.proofs.Changed.{stays}
use Rattle.cb_blocks.proofs.Ends.{end_further, end_place, same_blocks}
use Rattle.cb_blocks.proofs.Laid.{room_for}
use Rattle.cb_blocks.proofs.Rowed.{row_set_same}

-- what was asked for and wasn't too much was granted
pub granted : {T E : Type 0} (result : Result T E) (P Q : Type 0) → OnOk result P → IsErr result ↔ Q → (Q → ⊥) → P
granted {T} {E} (Ok done) P Q ok room not = ok
granted {T} {E} (Err reason) P Q ok room not = absurd (not (room.0 refl))

-- the words of a part with three behind them and zeros behind these
abbrev pub with_head : Parted → (part first second third rest : ℕ) → List ℕ
with_head old part first second third rest = row old.words part ++ (first ∷ second ∷ third ∷ replicate rest 0)

-- the part that grew has these words now
pub record IsHeaded (old mid now : Parted) (part first second third rest : ℕ) : Type 0 where
  pub below : part < length old.words
  pub grown : IsGrown old mid part (3 + rest)
  pub blocks : now.blocks ≡ mid.blocks
  pub rows : now.rows ≡ mid.rows
  pub words_are : now.words ≡ set old.words part (with_head old part first second third rest)

pub headed : (old mid : Parted) (part rest : ℕ) → part < length old.words → IsGrown old mid part (3 + rest) → IsHeaded old mid mid part 0 0 0 rest
headed old mid part rest below grown =
    let three : 3 + rest ≡ suc (suc (suc rest)) = omega arith in
    record { below = below; grown = grown; blocks = refl; rows = refl; words_are = grown.words_are ∙ ap (λ n. set old.words part (row old.words part ++ replicate n 0)) three }

headed_row : (old mid now : Parted) (part first second third rest : ℕ) → IsHeaded old mid now part first second third rest → row now.words part ≡ with_head old part first second third rest
headed_row old mid now part first second third rest is = ap (λ rows. row rows part) is.words_are ∙ row_set_same old.words part _ is.below

length_head : (old : Parted) (part first second third rest : ℕ) → length (with_head old part first second third rest) ≡ length (row old.words part) + (3 + rest)
length_head old part first second third rest = omega (arith, length-append (row old.words part) (first ∷ second ∷ third ∷ replicate rest 0), length-replicate {A = ℕ} rest 0)

-- the words that come stand there
pub head_inside : (old mid now : Parted) (part first second third rest k : ℕ) → IsHeaded old mid now part first second third rest → k < 3 + rest
    → (part < length now.words) × (length (row old.words part) + k < length (row now.words part))
head_inside old mid now part first second third rest k is few = (
  omega (arith, is.below, ap length is.words_are, length-set old.words part (with_head old part first second third rest)),
  omega (arith, few, ap length (headed_row old mid now part first second third rest is), length_head old part first second third rest),
)

pub head_at : (old mid now : Parted) (part first second third rest k index : ℕ) → IsHeaded old mid now part first second third rest → k < 3 + rest → index_of mid part (length (row old.words part) + k) ≡ index
    → IsAt now part (length (row old.words part) + k) index
head_at old mid now part first second third rest k index is few place =
    let there = head_inside old mid now part first second third rest k is few in
    (there.0, there.1, sym (ap (λ rows. place_in 256 (row rows part) (length (row old.words part) + k)) is.rows ∙ place))

-- one of them is written
written_next : (old mid now new : Parted) (part first second third first' second' third' rest k word : ℕ) → IsHeaded old mid now part first second third rest
    → new ≡ with_words now part (set (row now.words part) (length (row old.words part) + k) word)
    → set (first ∷ second ∷ third ∷ replicate rest 0) k word ≡ first' ∷ second' ∷ third' ∷ replicate rest 0 → IsHeaded old mid new part first' second' third' rest
written_next old mid now new part first second third first' second' third' rest k word is then same =
    let start : ℕ = length (row old.words part) in
    let back : start + k - start ≡ k = omega arith in
    let words : set (with_head old part first second third rest) (start + k) word ≡ with_head old part first' second' third' rest =
    set-append_right (row old.words part) (first ∷ second ∷ third ∷ replicate rest 0) start (start + k) word refl (omega arith)
    ∙ ap (λ n. row old.words part ++ set (first ∷ second ∷ third ∷ replicate rest 0) n word) back ∙ ap (λ xs. row old.words part ++ xs) same in
    record {
      below = is.below;
      grown = is.grown;
      blocks = ap (λ (p : Parted). p.blocks) then ∙ is.blocks;
      rows = ap (λ (p : Parted). p.rows) then ∙ is.rows;
      words_are = ap (λ (p : Parted). p.words) then ∙ ap (λ xs. set now.words part (set xs (start + k) word)) (headed_row old mid now part first second third rest is) ∙ ap (λ xs. set now.words part xs) words
          ∙ ap (λ rows. set rows part (with_head old part first' second' third' rest)) is.words_are ∙ set-set old.words part _ _;
    }

pub first_written : (old mid now new : Parted) (part second third rest word : ℕ) → IsHeaded old mid now part 0 second third rest
    → new ≡ with_words now part (set (row now.words part) (length (row old.words part) + 0) word) → IsHeaded old mid new part word second third rest
first_written old mid now new part second third rest word is then = written_next old mid now new part 0 second third word second third rest 0 word is then refl

pub second_written : (old mid now new : Parted) (part first third rest word : ℕ) → IsHeaded old mid now part first 0 third rest
    → new ≡ with_words now part (set (row now.words part) (length (row old.words part) + 1) word) → IsHeaded old mid new part first word third rest
second_written old mid now new part first third rest word is then = written_next old mid now new part first 0 third first word third rest 1 word is then refl

pub third_written : (old mid now new : Parted) (part first second rest word : ℕ) → IsHeaded old mid now part first second 0 rest
    → new ≡ with_words now part (set (row now.words part) (length (row old.words part) + 2) word) → IsHeaded old mid new part first second word rest
third_written old mid now new part first second rest word is then = written_next old mid now new part first second 0 first second word rest 2 word is then refl

pub grown_by : (old mid now : Parted) (part first second third rest : ℕ) → IsHeaded old mid now part first second third rest → IsGrownBy old now part (first ∷ second ∷ third ∷ replicate rest 0)
grown_by old mid now part first second third rest is =
    let three : 3 + rest ≡ length (first ∷ second ∷ third ∷ replicate rest 0) = omega (arith, length-replicate {A = ℕ} rest 0) in
    let start : ℕ = length (row old.words part) in
    record {
      blocks = is.blocks ∙ is.grown.blocks;
      rows = subst (λ r. IsExtended old.rows r part (blocks_for (start + length (first ∷ second ∷ third ∷ replicate rest 0)) - blocks_for start)) (sym is.rows)
          (subst (λ n. IsExtended old.rows mid.rows part (blocks_for (start + n) - blocks_for start)) three is.grown.rows);
      words_are = is.words_are;
    }

-- where the words that fit into the last block of a part come to stand
pub head_there : (old mid : Parted) (part end words k : ℕ) → IsParted old → part < length old.words → IsEnd (row old.rows part) (length (row old.words part)) end → words ≤ room_behind end → k < words → IsGrown old mid part words
    → index_of mid part (length (row old.words part) + k) ≡ end + k
head_there old mid part end words k sound below is fits few grown =
    let used : ℕ = length (row old.words part) in
    let inside : used + k < length (row old.rows part) * 256 =
    omega (arith, few, sound.exact part below, same_blocks (row old.rows part) used end words is fits, room_for 256 (used + words) (lit< tt)) in
    stays old.rows mid.rows part _ part (used + k) (omega (arith, below, sound.same)) grown.rows inside
    ∙ end_place (row old.rows part) (used + k) (end + k) (words - k) (end_further (row old.rows part) used end k is (omega (arith, few, fits))) (omega (arith, few, fits)) (omega (arith, few))
