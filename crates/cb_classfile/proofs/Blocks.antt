-- Bytes behind their number.
use Rattle.std.proofs.Common.{◌≡◌, ℕ, ◌<◌, ◌≤◌, List, ◌++◌, length, length-append, take, drop, refl, sym, ◌∙◌, ap, arith, append_assoc}
use Rattle.std.proofs.lemmas.List.{take-append-drop, length-take-le}
use Rattle.cb_classfile.specs.Reading.{IsFront}
use Rattle.cb_classfile.specs.Tables.{u4, BeginsWith, SpellsBlock, SpellsU4}
use Rattle.cb_classfile.proofs.OneItem.{exact_block, front}

-- the number at the front of a block
pub length_stands : {bytes block rest : List ℕ} → BeginsWith SpellsBlock bytes block rest → BeginsWith SpellsU4 bytes (length block) (block ++ rest)
length_stands {bytes} {block} {rest} (first, (fits, spelled), split) =
    (u4 (length block), (fits, refl), split ∙ ap (λ bytes. bytes ++ rest) spelled ∙ append_assoc (u4 (length block)) block rest)

-- where fewer bytes stand behind the number, there is no block
pub block_cut : {P : Type 0} {bytes behind : List ℕ} {number : ℕ} → IsFront SpellsU4 bytes number behind → length behind < number → (block rest : List ℕ) → BeginsWith SpellsBlock bytes block rest → P
block_cut {P} {bytes} {behind} {number} here short block rest begins =
    let same = here.only (length block) (block ++ rest) (length_stands begins) in
    absurd (omega (arith, short, same.0, ap length same.1, length-append block rest))

-- and where so many stand there, they are the block
pub block_found : {bytes behind block rest : List ℕ} {number : ℕ} → IsFront SpellsU4 bytes number behind → number ≤ length behind → block ≡ take number behind → rest ≡ drop number behind → IsFront SpellsBlock bytes block rest
block_found {bytes} {behind} {block} {rest} {number} here room is_block is_rest = front exact_block (go here.found) where
  long : length block ≡ number
  long = ap length is_block ∙ length-take-le number behind room

  split : behind ≡ block ++ rest
  split = sym (take-append-drop number behind) ∙ (λ i. sym is_block i ++ sym is_rest i)

  go : BeginsWith SpellsU4 bytes number behind → BeginsWith SpellsBlock bytes block rest
  go (first, (fits, is), split_too) = (
    u4 (length block) ++ block,
    (omega (arith, long, fits), refl),
    split_too ∙ ap (λ first. first ++ behind) (is ∙ ap u4 (sym long)) ∙ ap (λ behind. u4 (length block) ++ behind) split ∙ sym (append_assoc (u4 (length block)) block rest),
  )
