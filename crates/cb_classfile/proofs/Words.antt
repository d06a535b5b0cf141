-- The words of a method's parameters.
use Rattle.std.proofs.Common.{◌≡◌, ◌⊎◌, ℕ, ◌+◌, ◌≤◌, List, Option, Some, None, sym, subst}
use Rattle.std.specs.Prelude.{IsSomeAnd}
use Rattle.std.proofs.lemmas.Option.{same_Some}
use Rattle.cb_names.specs.Descriptors.{IsMethodDescriptor}
use Rattle.cb_classfile.specs.Flags.{acc_static, HasFlag}
use Rattle.cb_classfile.specs.Members.{HasFewWords}

-- few words make few words, and no others
pub are_few : (text : Option (List ℕ)) (flags words : ℕ) → IsSomeAnd text (λ text. IsMethodDescriptor text words) → HasFlag flags acc_static ⊎ (words + 1 ≤ 255) → IsSomeAnd text (HasFewWords flags)
are_few None flags words typed few = absurd typed
are_few (Some text) flags words typed few = (words, typed, few)

pub few_are : (text : Option (List ℕ)) (flags words : ℕ) → ((other : ℕ) → IsSomeAnd text (λ text. IsMethodDescriptor text other) → Some words ≡ Some other) → IsSomeAnd text (HasFewWords flags) → HasFlag flags acc_static ⊎ (words + 1 ≤ 255)
few_are None flags words exact few = absurd few
few_are (Some text) flags words exact (other, typed, few) =
    subst (λ words. HasFlag flags acc_static ⊎ (words + 1 ≤ 255)) (sym (same_Some words other (exact other typed))) few

-- what is no method descriptor has none
pub none_few : (text : Option (List ℕ)) (flags : ℕ) → ((words : ℕ) → IsSomeAnd text (λ text. IsMethodDescriptor text words) → ⊥) → IsSomeAnd text (HasFewWords flags) → ⊥
none_few None flags none few = few
none_few (Some text) flags none (words, typed, few) = none words typed
