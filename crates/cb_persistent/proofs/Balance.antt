-- Balanced trees: how many items they have, and those that are put together of equal items.
use Rattle.std.proofs.Common.{◌≡◌, ◌∙◌, ap, sym, subst, arith, ℕ, ◌+◌, ◌-◌, ◌/◌, ◌≤◌, List, ◌++◌, length, replicate, length-append}
use Rattle.std.proofs.lemmas.List.{length-replicate, replicate-append-replicate}
use Rattle.cb_persistent.specs.declared.tree.Tree.{Tree}
use Rattle.cb_persistent.specs.declared.tree.Tree.TheVariants.{Empty, One, Both'}
use Rattle.cb_persistent.specs.Trees.{items, IsBalanced, IsTreeOf}

pub items_counted : {T : Type 0} (tree : Tree T) (len : ℕ) → IsBalanced len tree → length (items tree) ≡ len
items_counted Empty len balanced = omega arith
items_counted (One item) len balanced = omega arith
items_counted (Both' shared left right) len balanced =
    omega (arith, length-append (items left) (items right), items_counted left _ balanced.1, items_counted right _ balanced.2)

pub shared_tree : {T : Type 0} (all : List T) (tree copy : Tree T) → IsTreeOf all tree → items copy ≡ items tree
    → ((len : ℕ) → IsBalanced len tree → IsBalanced len copy) → IsTreeOf all copy
shared_tree all tree copy is same keeps = record { balanced = keys; same = same ∙ is.same }
  where
    keys : IsBalanced (length all) copy
    keys = keeps (length all) is.balanced

-- halves of one item over and over
pub filled_halves : {T : Type 0} (len left-len right-len : ℕ) (item : T) (left right tree : Tree T) → 2 ≤ len → len / 2 ≡ left-len → left-len + right-len ≡ len
    → IsTreeOf (replicate left-len item) left → IsTreeOf (replicate right-len item) right → items tree ≡ items left ++ items right
    → ((all : ℕ) → 2 ≤ all → IsBalanced (all / 2) left → IsBalanced (all - all / 2) right → IsBalanced all tree)
    → IsTreeOf (replicate len item) tree
filled_halves {T} len left-len right-len item left right tree several half sum in-left in-right same balances = record { balanced = whole; same = joined }
  where
    rest : right-len ≡ len - len / 2
    rest = omega arith

    of-left : IsBalanced (len / 2) left
    of-left = subst (λ n. IsBalanced n left) (length-replicate left-len item ∙ sym half) in-left.balanced

    of-right : IsBalanced (len - len / 2) right
    of-right = subst (λ n. IsBalanced n right) (length-replicate right-len item ∙ rest) in-right.balanced

    whole : IsBalanced (length (replicate len item)) tree
    whole = subst (λ n. IsBalanced n tree) (sym (length-replicate len item)) (balances len several of-left of-right)

    joined : items tree ≡ replicate len item
    joined =
        same
        ∙ ap (λ front. front ++ items right) in-left.same
        ∙ ap (λ back. replicate left-len item ++ back) in-right.same
        ∙ replicate-append-replicate left-len right-len item
        ∙ ap (λ n. replicate n item) sum

-- the number that a tree is balanced by is that of the items it is seen as
pub length-seen : {T : Type 0} (tree : Tree T) (len : ℕ) (all : List T) → IsBalanced len tree → items tree ≡ all → length all ≡ len
length-seen tree len all balanced is = ap length (sym is) ∙ items_counted tree len balanced
