-- The numbers of classes and members are below their counts.
use Rattle.std.proofs.Common.{◌≡◌, ◌∙◌, ◌<◌, ◌+◌, ◌^◌, ap, refl, sym, subst, arith, ℕ, Bool, true, false, List, [], ◌∷◌, ◌++◌, map, length, cond, not, ◌||◌, ◌&&◌, append_assoc}
use Rattle.std.specs.List.{AllByRecursion, list_any, position_or_len}
use Rattle.std.specs.Cmp.Lexicographic.{bytes_decides}
use Rattle.std.proofs.lemmas.Bool.{false≢true}
use Rattle.std.proofs.lemmas.List.{length-map}
use Rattle.std.proofs.lemmas.Simd.{map-map}
use Rattle.std.proofs.lemmas.List.Folds.{list_any-append}
use Rattle.cb_classfile.specs.declared.class.ClassFile.{ClassFile}
use Rattle.cb_classfile.specs.declared.field.Field.{Field}
use Rattle.cb_classfile.specs.declared.method.Method.{Method}
use Rattle.cb_hierarchy.specs.declared.member.Declared.{Declared}
use Rattle.cb_hierarchy.specs.declared.member.Field.{Field as RankedField}
use Rattle.cb_hierarchy.specs.declared.member.Method.{Method as RankedMethod}
use Rattle.cb_hierarchy.specs.Members.{AreMembers}
use Rattle.cb_kinds.specs.Texts.{own_number, same_text, same_texts}
use Rattle.cb_link.specs.Numbers.{Numbered, field_texts, fields_of, method_texts, methods_of, ranked_field, ranked_fields, ranked_method, ranked_methods, texts_in}

-- what is there is found below the length
found_low : {X : Type 0} (p : X → Bool) (xs : List X) → list_any p xs ≡ true → position_or_len p xs < length xs
found_low p [] any = absurd (false≢true any)
found_low p (x ∷ xs) any = go (p x) refl (found_low p xs) where
  go : (test : Bool) → p x ≡ test → (list_any p xs ≡ true → position_or_len p xs < length xs) → position_or_len p (x ∷ xs) < length (x ∷ xs)
  go true is rest =
      let first : position_or_len p (x ∷ xs) ≡ 0 = ap (λ test. cond (not test) (1 + position_or_len p xs) 0) is in
      omega (arith, first)
  go false is rest =
      let next : position_or_len p (x ∷ xs) ≡ 1 + position_or_len p xs = ap (λ test. cond (not test) (1 + position_or_len p xs) 0) is in
      let low = rest (sym (ap (λ test. test || list_any p xs) is) ∙ any) in
      omega (arith, next, low)

or_true : (one : Bool) → (one || true) ≡ true
or_true true = refl
or_true false = refl

same_self : (texts : List ℕ × List ℕ) → same_texts texts texts ≡ true
same_self (name, descriptor) = ap (λ test. test && same_text descriptor descriptor) ((bytes_decides name name).1 refl) ∙ (bytes_decides descriptor descriptor).1 refl

any_at : (front rest : List (List ℕ × List ℕ)) (one : List ℕ × List ℕ) → list_any (same_texts one) (front ++ one ∷ rest) ≡ true
any_at front rest one =
    list_any-append (same_texts one) front (one ∷ rest) ∙ ap (λ test. list_any (same_texts one) front || (test || list_any (same_texts one) rest)) (same_self one)
    ∙ or_true (list_any (same_texts one) front)

abbrev Low : List (List ℕ × List ℕ) → List ℕ × List ℕ → Type 0
Low all own = own_number all own < length all

lows : (front rest : List (List ℕ × List ℕ)) → AllByRecursion (Low (front ++ rest)) rest
lows front [] = tt
lows front (one ∷ rest) = (
  found_low (same_texts one) (front ++ one ∷ rest) (any_at front rest one),
  subst (λ all. AllByRecursion (Low all) rest) (append_assoc front (one ∷ []) rest) (lows (front ++ one ∷ []) rest),
)

all_of_map : {X Y : Type 0} (P : Y → Type 0) (f : X → Y) (xs : List X) → AllByRecursion P (map f xs) → AllByRecursion (λ x. P (f x)) xs
all_of_map P f [] all = tt
all_of_map P f (x ∷ xs) (this, rest) = (this, all_of_map P f xs rest)

all_to_map : {X Y : Type 0} (P : Y → Type 0) (f : X → Y) (xs : List X) → AllByRecursion (λ x. P (f x)) xs → AllByRecursion P (map f xs)
all_to_map P f [] all = tt
all_to_map P f (x ∷ xs) (this, rest) = (this, all_to_map P f xs rest)

-- members whose signatures are the numbers of their texts
pub members : {Member : Type 0} (texts : Member → List ℕ × List ℕ) (declared : Member → Declared) (all : List Member)
    → ((member : Member) → (declared member).signature ≡ own_number (map texts all) (texts member)) → length (map texts all) < 2 ^ 32 → AreMembers (map declared all)
members {Member} texts declared all signed few = record { few = subst (λ count. count < 2 ^ 32) (sym same) few; signatures = all_to_map (λ own. own.signature < length (map declared all)) declared all (signatures all (all_of_map (Low (map texts all)) texts all (lows [] (map texts all)))) } where
  same : length (map declared all) ≡ length (map texts all)
  same = length-map all declared ∙ sym (length-map all texts)

  signatures : (some : List Member) → AllByRecursion (λ member. Low (map texts all) (texts member)) some → AllByRecursion (λ member. (declared member).signature < length (map declared all)) some
  signatures [] low = tt
  signatures (member ∷ more) (low, rest) = (subst (λ count. (declared member).signature < count) (sym same) (subst (λ number. number < length (map texts all)) (sym (signed member)) low), signatures more rest)

pub field_members : (classes : List ClassFile) → length (field_texts classes) < 2 ^ 32 → AreMembers (map (λ field. field.declared) (ranked_fields classes))
field_members classes few =
    subst AreMembers (sym (map-map (λ (field : RankedField). field.declared) (ranked_field classes) (fields_of classes)))
    (members (λ (field : Numbered Field). texts_in field.pool field.member.name field.member.descriptor) (λ field. (ranked_field classes field).declared) (fields_of classes) (λ field. refl) few)

pub method_members : (classes : List ClassFile) → length (method_texts classes) < 2 ^ 32 → AreMembers (map (λ method. method.declared) (ranked_methods classes))
method_members classes few =
    subst AreMembers (sym (map-map (λ (method : RankedMethod). method.declared) (ranked_method classes) (methods_of classes)))
    (members (λ (method : Numbered Method). texts_in method.pool method.member.name method.member.descriptor) (λ method. (ranked_method classes method).declared) (methods_of classes) (λ method. refl) few)
