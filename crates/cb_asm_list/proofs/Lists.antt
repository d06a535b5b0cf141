-- Lists that are made of lists.
use Rattle.std.proofs.Common.{◌≡◌, ap, refl, List, [], ◌∷◌, map}

pub map_twice : {A B C : Type 0} (f : B → C) (g : A → B) (items : List A) → map f (map g items) ≡ map (λ item. f (g item)) items
map_twice f g [] = refl
map_twice f g (item ∷ items) = ap (λ rest. f (g item) ∷ rest) (map_twice f g items)
