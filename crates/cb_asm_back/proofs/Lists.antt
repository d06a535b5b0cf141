-- Lists, and what holds of each of their items.
use Rattle.std.proofs.Common.{◌≡◌, ◌∙◌, ap, refl, List, [], ◌∷◌, ◌++◌, map}
use Rattle.std.specs.List.{AllByRecursion, flat_map}

pub map_twice : {X Y Z : Type 0} (g : Y → Z) (f : X → Y) (xs : List X) → map g (map f xs) ≡ map (λ x. g (f x)) xs
map_twice g f [] = refl
map_twice g f (x ∷ xs) = ap (λ rest. g (f x) ∷ rest) (map_twice g f xs)

-- two that agree at each item of which something holds
pub map_agree : {X Y : Type 0} (f g : X → Y) (P : X → Type 0) → ((x : X) → P x → f x ≡ g x) → (xs : List X) → AllByRecursion P xs → map f xs ≡ map g xs
map_agree f g P agree [] each = refl
map_agree f g P agree (x ∷ xs) each = ap (λ first. first ∷ map f xs) (agree x each.0) ∙ ap (λ rest. g x ∷ rest) (map_agree f g P agree xs each.1)

pub flat_agree : {X Y : Type 0} (f g : X → List Y) (P : X → Type 0) → ((x : X) → P x → f x ≡ g x) → (xs : List X) → AllByRecursion P xs → flat_map f xs ≡ flat_map g xs
flat_agree f g P agree [] each = refl
flat_agree f g P agree (x ∷ xs) each = ap (λ first. first ++ flat_map f xs) (agree x each.0) ∙ ap (λ rest. g x ++ rest) (flat_agree f g P agree xs each.1)

pub map_back : {X Y : Type 0} (g : Y → X) (f : X → Y) (P : X → Type 0) → ((x : X) → P x → g (f x) ≡ x) → (xs : List X) → AllByRecursion P xs → map g (map f xs) ≡ xs
map_back g f P back [] each = refl
map_back g f P back (x ∷ xs) each = ap (λ first. first ∷ map g (map f xs)) (back x each.0) ∙ ap (λ rest. x ∷ rest) (map_back g f P back xs each.1)

pub flat_of_map : {X Y Z : Type 0} (g : Y → List Z) (f : X → Y) (xs : List X) → flat_map g (map f xs) ≡ flat_map (λ x. g (f x)) xs
flat_of_map g f [] = refl
flat_of_map g f (x ∷ xs) = ap (λ rest. g (f x) ++ rest) (flat_of_map g f xs)

pub map_append : {X Y : Type 0} (f : X → Y) (one other : List X) → map f (one ++ other) ≡ map f one ++ map f other
map_append f [] other = refl
map_append f (x ∷ one) other = ap (λ rest. f x ∷ rest) (map_append f one other)

pub map_of_flat : {X Y Z : Type 0} (g : Y → Z) (f : X → List Y) (xs : List X) → map g (flat_map f xs) ≡ flat_map (λ x. map g (f x)) xs
map_of_flat g f [] = refl
map_of_flat g f (x ∷ xs) = map_append g (f x) (flat_map f xs) ∙ ap (λ rest. map g (f x) ++ rest) (map_of_flat g f xs)

-- what holds of each
pub each_map : {X Y : Type 0} (P : Y → Type 0) (f : X → Y) (xs : List X) → AllByRecursion (λ x. P (f x)) xs → AllByRecursion P (map f xs)
each_map P f [] each = tt
each_map P f (x ∷ xs) each = (each.0, each_map P f xs each.1)

pub of_map : {X Y : Type 0} (P : Y → Type 0) (f : X → Y) (xs : List X) → AllByRecursion P (map f xs) → AllByRecursion (λ x. P (f x)) xs
of_map P f [] each = tt
of_map P f (x ∷ xs) each = (each.0, of_map P f xs each.1)

pub both : {X : Type 0} (P : X → Type 0) (one other : List X) → AllByRecursion P one → AllByRecursion P other → AllByRecursion P (one ++ other)
both P [] other each all = all
both P (x ∷ one) other each all = (each.0, both P one other each.1 all)

pub parts : {X : Type 0} (P : X → Type 0) (one other : List X) → AllByRecursion P (one ++ other) → AllByRecursion P one × AllByRecursion P other
parts P [] other each = (tt, each)
parts P (x ∷ one) other each = let rest = parts P one other each.1 in ((each.0, rest.0), rest.1)

pub each_flat : {X Y : Type 0} (P : Y → Type 0) (f : X → List Y) (xs : List X) → AllByRecursion (λ x. AllByRecursion P (f x)) xs → AllByRecursion P (flat_map f xs)
each_flat P f [] each = tt
each_flat P f (x ∷ xs) each = both P (f x) (flat_map f xs) each.0 (each_flat P f xs each.1)

pub of_flat : {X Y : Type 0} (P : Y → Type 0) (f : X → List Y) (xs : List X) → AllByRecursion P (flat_map f xs) → AllByRecursion (λ x. AllByRecursion P (f x)) xs
of_flat P f [] each = tt
of_flat P f (x ∷ xs) each = let all = parts P (f x) (flat_map f xs) each in (all.0, of_flat P f xs all.1)

pub weaker : {X : Type 0} (P Q : X → Type 0) → ((x : X) → P x → Q x) → (xs : List X) → AllByRecursion P xs → AllByRecursion Q xs
weaker P Q so [] each = tt
weaker P Q so (x ∷ xs) each = (so x each.0, weaker P Q so xs each.1)

pub joined : {X : Type 0} (P Q : X → Type 0) (xs : List X) → AllByRecursion P xs → AllByRecursion Q xs → AllByRecursion (λ x. P x × Q x) xs
joined P Q [] each all = tt
joined P Q (x ∷ xs) each all = ((each.0, all.0), joined P Q xs each.1 all.1)

pub always : {X : Type 0} (P : X → Type 0) → ((x : X) → P x) → (xs : List X) → AllByRecursion P xs
always P so [] = tt
always P so (x ∷ xs) = (so x, always P so xs)
