-- Blocks whose number is written when they are.
use Rattle.std.proofs.Common.{◌≡◌, ℕ, ◌-◌, ◌^◌, ◌<◌, List, [], ◌∷◌, ◌++◌, length, length-append, take, drop, sym, ◌∙◌, ap, arith, append_assoc}
use Rattle.std.proofs.lemmas.List.{append-nil, drop_at, take_at}
use Rattle.cb_classfile.specs.Attributes.{attributes_bytes}
use Rattle.cb_classfile.specs.Tables.{block_bytes, u2, u4}

-- what stands behind the room for the number
behind : (before contents bytes : List ℕ) (begin : ℕ) → bytes ≡ before ++ contents → begin ≡ length before → drop begin bytes ≡ contents
behind before contents bytes begin are at = ap (drop begin) are ∙ drop_at before contents begin (sym at)

-- it is as long as the contents
pub short : (before contents bytes : List ℕ) (begin : ℕ) → bytes ≡ before ++ contents → begin ≡ length before → length contents < 2 ^ 32 → length (drop begin bytes) < 2 ^ 32
short before contents bytes begin are at fits = omega (arith, ap length (behind before contents bytes begin are at), fits)

-- what stands before it
front : (before contents bytes : List ℕ) (begin : ℕ) → bytes ≡ before ++ u4 0 ++ contents → begin ≡ length (before ++ u4 0) → take (begin - 4) bytes ≡ before
front before contents bytes begin are at =
    ap (take (begin - 4)) (are ∙ append_assoc before (u4 0) contents) ∙ take_at before (u4 0 ++ contents) (begin - 4) (omega (arith, at, length-append before (u4 0)))

-- a block has been written
pub ended : (before contents begun bytes after : List ℕ) (begin : ℕ) → begun ≡ before ++ u4 0 → begin ≡ length begun → bytes ≡ begun ++ contents → after ≡ take (begin - 4) bytes ++ block_bytes (drop begin bytes) → after ≡ before ++ block_bytes contents
ended before contents begun bytes after begin is_begun at are written =
    written ∙ ap (λ front. front ++ block_bytes (drop begin bytes)) (front before contents bytes begin (are ∙ ap (λ begun. begun ++ contents) is_begun) (at ∙ ap length is_begun)) ∙ ap (λ block. before ++ block_bytes block) (behind begun contents bytes begin are at)

-- and with it the only attribute of a table
alone : (old block : List ℕ) (index : ℕ) → old ++ u2 1 ++ u2 index ++ block ≡ old ++ (u2 1 ++ ((u2 index ++ block) ++ []))
alone old block index = simp (append_assoc, append-nil)

pub attribute_ended : (old contents begun bytes after : List ℕ) (index begin : ℕ) → begun ≡ old ++ u2 1 ++ u2 index ++ u4 0 → begin ≡ length begun → bytes ≡ begun ++ contents → after ≡ take (begin - 4) bytes ++ block_bytes (drop begin bytes) → after ≡ old ++ attributes_bytes ((index, contents) ∷ [])
attribute_ended old contents begun bytes after index begin is_begun at are written =
    ended (old ++ u2 1 ++ u2 index) contents begun bytes after begin is_begun at are written ∙ alone old (block_bytes contents) index

-- what is written behind what was written
pub joined : (old one other between new : List ℕ) → between ≡ old ++ one → new ≡ between ++ other → new ≡ old ++ (one ++ other)
joined old one other between new first second = second ∙ ap (λ between. between ++ other) first ∙ append_assoc old one other
