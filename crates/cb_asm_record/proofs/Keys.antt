-- The order of keys tells constants apart.
use Rattle.std.proofs.Common.{◌≡◌, ◌∙◌, ap, refl, ℕ, ℤ, Bool, true, false, ◌&&◌, List}
use Rattle.std.specs.Cmp.Lexicographic.{slice_cmp}
use Rattle.std.proofs.lemmas.Map.Text.{is_eq-slice_cmp}
use Rattle.std.specs.Ordering.{is_eq, nat_cmp, int_cmp, ordering_then, int_eq}
use Rattle.std.specs.declared.cmp.Ordering.{Ordering}
use Rattle.std.specs.declared.cmp.Ordering.TheVariants.{Less, Equal, Greater}
use Rattle.cb_asm_line.specs.Lines.{same_text}
use Rattle.cb_asm_record.specs.declared.key.Key.{Key}
use Rattle.cb_asm_record.specs.declared.key.Key.TheVariants as keys
use Rattle.cb_asm_record.specs.Entries.{same}
use Rattle.cb_asm_record.specs.Inner.{key_cmp, key_entry}

texts_same : (one other : List ℕ) → is_eq (slice_cmp nat_cmp one other) ≡ same_text one other
texts_same one other = is_eq-slice_cmp one other

numbers_same : (one other : ℤ) → is_eq (int_cmp one other) ≡ int_eq one other
numbers_same one other = refl

then_same : (one other : Ordering) (first second : Bool) → is_eq one ≡ first → is_eq other ≡ second → is_eq (ordering_then one other) ≡ (first && second)
then_same Less other first second is are = ap (λ test. test && second) is
then_same Equal other first second is are = are ∙ ap (λ test. test && second) is
then_same Greater other first second is are = ap (λ test. test && second) is

members_same : (class name descriptor holder member type : List ℕ)
    → is_eq (ordering_then (slice_cmp nat_cmp class holder) (ordering_then (slice_cmp nat_cmp name member) (slice_cmp nat_cmp descriptor type)))
    ≡ ((same_text class holder && same_text name member) && same_text descriptor type)
members_same class name descriptor holder member type =
    then_same _ _ _ _ (texts_same class holder) (then_same _ _ _ _ (texts_same name member) (texts_same descriptor type))
    ∙ joined (same_text class holder) (same_text name member) (same_text descriptor type)
  where
    joined : (a b c : Bool) → (a && (b && c)) ≡ ((a && b) && c)
    joined true b c = refl
    joined false b c = refl

pub keys_same : (one other : Key) → is_eq (key_cmp one other) ≡ same (key_entry one) (key_entry other)
keys_same (keys.Text one) (keys.Text other) = texts_same one.now other.now
keys_same (keys.Int one) (keys.Int other) = numbers_same one other
keys_same (keys.Long one) (keys.Long other) = numbers_same one other
keys_same (keys.Class one) (keys.Class other) = texts_same one.now other.now
keys_same (keys.String one) (keys.String other) = texts_same one.now other.now
keys_same (keys.NameAndType one type) (keys.NameAndType other kind) = then_same _ _ _ _ (texts_same one.now other.now) (texts_same type.now kind.now)
keys_same (keys.Field class name descriptor) (keys.Field holder member type) = members_same class.now name.now descriptor.now holder.now member.now type.now
keys_same (keys.Method class name descriptor) (keys.Method holder member type) = members_same class.now name.now descriptor.now holder.now member.now type.now
keys_same (keys.InterfaceMethod class name descriptor) (keys.InterfaceMethod holder member type) = members_same class.now name.now descriptor.now holder.now member.now type.now
keys_same one other = refl
