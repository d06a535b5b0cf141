-- The types that a file declares, one after the other.
use Rattle.std.proofs.Common.{◌≡◌, ◌∙◌, ap, sym, refl, ℕ, ◌+◌, ◌<◌, List, [], ◌∷◌, ◌++◌, length, drop, get_or, map, append_assoc, Option, Some, None, option_map}
use Rattle.std.proofs.lemmas.List.{drop_more}
use Rattle.cb_classfile.specs.declared.map_type.MapType.{MapType}
use Rattle.cb_verify.specs.declared.verification_type.VerificationType.{VerificationType}
use Rattle.cb_classfile.specs.Expansion.{all_of}
use Rattle.cb_verify.specs.Expansion.{type_in, types_in}
use Rattle.cb_verify.specs.Within.{Within}

-- known types in front of those of the rest
abbrev pub behind_known : Within → List VerificationType → List MapType → Option (List VerificationType)
behind_known method known kinds = option_map (λ rest. known ++ rest) (types_in method kinds)

one_more : {Item : Type 0} (known : List Item) (item : Item) (items : List (Option Item))
    → option_map (λ rest. known ++ rest) (all_of (Some item ∷ items)) ≡ option_map (λ rest. (known ++ item ∷ []) ++ rest) (all_of items)
one_more {Item} known item items = go (all_of items)
  where
    go : (rest : Option (List Item)) → option_map (λ more. known ++ more) (option_map (λ more. item ∷ more) rest) ≡ option_map (λ more. (known ++ item ∷ []) ++ more) rest
    go None = refl
    go (Some rest) = ap Some (sym (append_assoc known (item ∷ []) rest))

pub known_more : (method : Within) (known : List VerificationType) (kinds : List MapType) (i : ℕ) (kind : MapType) (type : VerificationType)
    → i < length kinds → kind ≡ get_or kinds i kind → type_in method kind ≡ Some type → behind_known method known (drop i kinds) ≡ behind_known method (known ++ type ∷ []) (drop (i + 1) kinds)
known_more method known kinds i kind type within is says =
    ap (behind_known method known) (drop_more kinds i kind within ∙ ap (λ first. first ∷ drop (i + 1) kinds) (sym is))
    ∙ ap (λ first. option_map (λ (rest : List VerificationType). known ++ rest) (all_of (first ∷ map (type_in method) (drop (i + 1) kinds)))) says
    ∙ one_more known type (map (type_in method) (drop (i + 1) kinds))
