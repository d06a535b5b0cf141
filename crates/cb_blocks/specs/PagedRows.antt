-- Rows of numbers in pages from a stock.
use Rattle.std.specs.Prelude.{◌≡◌, ℕ, ◌+◌, ◌*◌, ◌<◌, ◌≤◌, ◌^◌, get_or, length, List}
use Rattle.cb_blocks.specs.Holdings.{Held, IsHeld}
use Rattle.cb_blocks.specs.Rows.{pages_for, row}

-- rows, how many numbers they may have in all, and how many each may have
pub record Roomy : Type 0 where
  pub rows : List (List ℕ)
  pub most : ℕ
  pub longest : ℕ

-- a store has room for all pages of a stock, and each part holds as many of these as its items need
pub record IsLaid (size : ℕ) (pages : Held) (store counts : List ℕ) : Type 0 where
  pub sound : IsHeld pages
  pub whole : length store ≡ pages.count * size
  pub parts : length pages.rows ≡ length counts
  pub exact : (part : ℕ) → part < length counts → length (row pages.rows part) ≡ pages_for size (get_or counts part 0)

-- and there are pages for as many items as may come
pub record IsRoomy (pages : Held) (numbers lens : List ℕ) (most longest : ℕ) : Type 0 where
  pub laid : IsLaid 128 pages numbers lens
  pub room : most + 127 * length lens ≤ pages.count * 128
  pub wide : longest ≤ pages.longest * 128
  pub bound : most ≤ 2 ^ 20
