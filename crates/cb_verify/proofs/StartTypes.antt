-- The types of the values with which a method begins, one after the other.
use Rattle.std.proofs.Common.{◌≡◌, ◌∙◌, ap, sym, ℕ, ◌+◌, List, [], ◌∷◌, ◌++◌, append_assoc, map, take, Some, slice_get}
use Rattle.std.proofs.lemmas.List.{map_more}
use Rattle.std.proofs.lemmas.Option.{get_or_from_slice_get, slice_get_within}
use Rattle.cb_kinds.specs.declared.basic.Basic.{Basic}
use Rattle.cb_verify.specs.declared.verification_type.VerificationType.{VerificationType}
use Rattle.cb_verify.specs.Types.{type_of}

pub one_type_more : (own done more : List VerificationType) (basics : List Basic) (i : ℕ) (basic : Basic) (type : VerificationType) → done ≡ own ++ map type_of (take i basics) → slice_get basics i ≡ Some basic
    → type ≡ type_of basic → more ≡ done ++ type ∷ [] → more ≡ own ++ map type_of (take (i + 1) basics)
one_type_more own done more basics i basic type before read is grown =
    grown
    ∙ ap (λ (all : List VerificationType). all ++ type ∷ []) before
    ∙ append_assoc own (map type_of (take i basics)) (type ∷ [])
    ∙ ap (λ (last : VerificationType). own ++ (map type_of (take i basics) ++ last ∷ [])) (is ∙ ap type_of (sym (get_or_from_slice_get basics i basic basic read)))
    ∙ ap (λ (all : List VerificationType). own ++ all) (sym (map_more type_of basics i basic (slice_get_within basics i basic read)))
