-- What of a stack is kept when an object on it is initialised.
use Rattle.std.proofs.Common.{◌≡◌, ◌∙◌, ap, ap₂, refl, sym, ℕ, ◌+◌, Bool, true, false, ◌||◌, cond, List, [], ◌∷◌}
use Rattle.std.specs.List.{list_any}
use Rattle.std.proofs.lemmas.Bool.{false≢true}
use Rattle.cb_verify.specs.declared.verification_type.VerificationType.{VerificationType}
use Rattle.cb_verify.specs.declared.verification_type.VerificationType.TheVariants.{Top, Int, Long, Null, This, Object, New}
use Rattle.cb_verify.specs.Frames.{height, is_same, replaced}
use Rattle.cb_verify.specs.Types.{words}

-- what isn't initialised takes one word
is_not_long : (old : VerificationType) → is_same old Long ≡ false
is_not_long Top = refl
is_not_long Int = refl
is_not_long Long = refl
is_not_long Null = refl
is_not_long This = refl
is_not_long (Object kind) = refl
is_not_long (New place) = refl

pub one_word : (old own : VerificationType) → is_same old own ≡ true → words own ≡ 1
one_word old Top same = refl
one_word old Int same = refl
one_word old Long same = absurd (false≢true (sym (is_not_long old) ∙ same))
one_word old Null same = refl
one_word old This same = refl
one_word old (Object kind) same = refl
one_word old (New place) same = refl

words_replaced : (kind : ℕ) (own : VerificationType) (same : Bool) → (same ≡ true → words own ≡ 1) → words (cond same (Object kind) own) ≡ words own
words_replaced kind own true one = sym (one refl)
words_replaced kind own false one = refl

pub height_replaced : (old : VerificationType) (kind : ℕ) (types : List VerificationType) → height (replaced old (Object kind) types) ≡ height types
height_replaced old kind [] = refl
height_replaced old kind (own ∷ types) =
    ap₂ (λ first rest. first + rest) (words_replaced kind own (is_same old own) (one_word old own)) (height_replaced old kind types)

-- nothing is replaced where it isn't
nothing_next : (new own : VerificationType) (types changed : List VerificationType) (same any : Bool) → (any ≡ false → types ≡ changed) → (same || any) ≡ false
    → own ∷ types ≡ cond same new own ∷ changed
nothing_next new own types changed true any rest none = absurd (false≢true (sym none))
nothing_next new own types changed false any rest none = ap (λ types. own ∷ types) (rest none)

pub replaced_nothing : (old new : VerificationType) (types : List VerificationType) → list_any (is_same old) types ≡ false → types ≡ replaced old new types
replaced_nothing old new [] none = refl
replaced_nothing old new (own ∷ types) none =
    nothing_next new own types (replaced old new types) (is_same old own) (list_any (is_same old) types) (replaced_nothing old new types) none
