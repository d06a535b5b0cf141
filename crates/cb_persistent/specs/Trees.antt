-- The items of a tree, and how it is balanced.
use Rattle.std.specs.Prelude.{◌≡◌, ℕ, ◌-◌, ◌/◌, ◌≤◌, List, [], ◌∷◌, ◌++◌, length}
use Rattle.cb_persistent.specs.declared.tree.Tree.{Tree}
use Rattle.cb_persistent.specs.declared.tree.Tree.TheVariants.{Empty, One, Both'}

-- the items in order
abbrev pub items : {T : Type 0} → Tree T → List T
items Empty = []
items (One item) = item ∷ []
items (Both' shared left right) = items left ++ items right

-- a tree of so many items has half of them, rounded down, in its left half, and so on down to single items
abbrev pub IsBalanced : {T : Type 0} → ℕ → Tree T → Type 0
IsBalanced len Empty = len ≡ 0
IsBalanced len (One item) = len ≡ 1
IsBalanced len (Both' shared left right) = (2 ≤ len) × IsBalanced (len / 2) left × IsBalanced (len - len / 2) right

-- a balanced tree of these items
pub record IsTreeOf {T : Type 0} (all : List T) (tree : Tree T) : Type 0 where
  pub balanced : IsBalanced (length all) tree
  pub same : items tree ≡ all
