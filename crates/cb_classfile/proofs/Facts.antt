-- The facts of the texts of a pool.
use Rattle.std.proofs.Common.{◌≡◌, ◌↔◌, ℕ, zero, suc, ◌+◌, List, [], ◌∷◌, ◌++◌, length, Option, Some, None, IsTrue, IfSome, is_some, IsSomeAnd, MatchOption, refl}
use Rattle.std.specs.List.{slice_get}
use Rattle.cb_text.specs.declared.constant.Constant.{Constant}
use Rattle.cb_names.specs.Descriptors.{IsMethodDescriptor}
use Rattle.cb_classfile.specs.declared.texts.TextFacts.{TextFacts}
use Rattle.cb_classfile.specs.Pool.{text_at, IsAnyMethodDescriptor}
use Rattle.cb_classfile.specs.Texts.{AreFacts, Describe}

-- there are words of the parameters exactly where a text is a method descriptor
pub some_words : (text : Option (List ℕ)) (found : Option ℕ) → MatchOption found ((words : ℕ) → IsSomeAnd text (λ t. IsMethodDescriptor t words) → ⊥) (λ words. IsSomeAnd text (λ t. IsMethodDescriptor t words)) → IsTrue (is_some found) ↔ IsSomeAnd text IsAnyMethodDescriptor
some_words None None no_words = (λ is. cc, λ is. absurd is)
some_words None (Some words) words_are = absurd words_are
some_words (Some text) None no_words = (λ is. cc, λ (words, is). absurd (no_words words is))
some_words (Some text) (Some words) words_are = (λ is. (words, words_are), λ is. refl)

-- what holds of each element at its place holds with one more
slice_more : {X : Type 0} (P : ℕ → X → Type 0) (items : List X) (more : X) → ((k : ℕ) → IfSome (slice_get items k) (P k)) → P (length items) more → (k : ℕ) → IfSome (slice_get (items ++ more ∷ []) k) (P k)
slice_more P [] more all here zero = here
slice_more P [] more all here (suc k) = tt
slice_more P (first ∷ items) more all here zero = all zero
slice_more P (first ∷ items) more all here (suc k) = slice_more (λ k. P (suc k)) items more (λ k. all (suc k)) here k

-- so facts of one more text are facts of the texts too
pub described_more : (pool : List Constant) (index : ℕ) (facts : List (Option TextFacts)) (more : Option TextFacts) → length facts + 1 ≡ index → Describe pool facts → IfSome more (λ known. (text : List ℕ) → text_at pool index ≡ Some text → AreFacts text known) → Describe pool (facts ++ more ∷ [])
described_more pool index facts more long describe here =
    slice_more (λ before told. IfSome told (λ known. (text : List ℕ) → text_at pool (before + 1) ≡ Some text → AreFacts text known)) facts more describe (rw long here)
