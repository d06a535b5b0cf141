-- What holds of each item of lists that stand one behind the other.
use Rattle.std.proofs.Common.{List, [], ◌∷◌, ◌++◌}
use Rattle.std.specs.List.{AllByRecursion}

pub all_both : {Item : Type 0} (P : Item → Type 0) (front back : List Item) → AllByRecursion P front → AllByRecursion P back → AllByRecursion P (front ++ back)
all_both P [] back first second = second
all_both P (item ∷ front) back first second = (first.0, all_both P front back first.1 second)

pub all_front : {Item : Type 0} (P : Item → Type 0) (front back : List Item) → AllByRecursion P (front ++ back) → AllByRecursion P front
all_front P [] back all = tt
all_front P (item ∷ front) back all = (all.0, all_front P front back all.1)

pub all_back : {Item : Type 0} (P : Item → Type 0) (front back : List Item) → AllByRecursion P (front ++ back) → AllByRecursion P back
all_back P [] back all = all
all_back P (item ∷ front) back all = all_back P front back all.1

pub all_weaker : {Item : Type 0} (P Q : Item → Type 0) → ((item : Item) → P item → Q item) → (items : List Item) → AllByRecursion P items → AllByRecursion Q items
all_weaker P Q gives [] all = tt
all_weaker P Q gives (item ∷ items) all = (gives item all.0, all_weaker P Q gives items all.1)
