-- Classes are a program, or are none for one reason.
use Rattle.std.proofs.Common.{◌≡◌, ◌≤◌, ◌<◌, ◌∙◌, ◌⊎◌, ℕ, List, Option, Some, None, inl, inr, ap, sym, refl, slice_get, arith, option_map}
use Rattle.std.proofs.lemmas.Bool.{cases_order}
use Rattle.cb_classfile.specs.declared.class.ClassFile.{ClassFile}
use Rattle.cb_hierarchy.specs.declared.class.Class.{Class as Ranked}
use Rattle.cb_hierarchy.specs.declared.member.Method.{Method as RankedMethod}
use Rattle.cb_hierarchy.specs.Bad.{AreGood, IsFirstBad}
use Rattle.cb_link.specs.declared.refusal.Refusal.{Refusal}
use Rattle.cb_link.specs.declared.refusal.Refusal.TheVariants.{BadHierarchy, MissingMember}
use Rattle.cb_link.specs.Judging.{HasManyMethods, HasManySites, HasNoMain, IsBadAt, IsNoProgram, IsProgram, Lacks}
use Rattle.cb_link.specs.Numbers.{name_of}

-- a class that is bad isn't good
not_good : (classes : List Ranked) (methods : List RankedMethod) (number : ℕ) → IsFirstBad classes methods (Some number) → AreGood classes methods → ⊥
not_good classes methods number (low, bad, first) good = good number low bad

some_none : {X : Type 0} (item : X) (option : Option X) → option ≡ Some item → option ≡ None → ⊥
some_none item option some none = cc

more_few : (number limit : ℕ) → number ≤ limit → limit < number → ⊥
more_few number limit few many = omega (arith, few, many)

pub no_program : (classes : List ClassFile) (main : List ℕ) (method : ℕ) (refusal : Refusal) → IsProgram classes main method → IsNoProgram classes main refusal → ⊥
no_program classes main method refusal is (IsBadAt number class first at) = not_good _ _ number first is.good
no_program classes main method refusal is (Lacks number class member good lacking at) = some_none (number, member) _ lacking is.whole
no_program classes main method refusal is (HasNoMain good whole none) = some_none method _ is.begins none
no_program classes main method refusal is (HasManyMethods other good whole begins many) = more_few _ _ is.methods many
no_program classes main method refusal is (HasManySites other good whole begins few many) = more_few _ _ is.sites many

-- of two first bad classes neither is before the other
one_first : (classes : List Ranked) (methods : List RankedMethod) (one other : ℕ) → IsFirstBad classes methods (Some one) → IsFirstBad classes methods (Some other) → one ≡ other
one_first classes methods one other (low, bad, first) (low_too, bad_too, first_too) = by_order (cases_order one other) where
  by_order : (one ≡ other) ⊎ ((one < other) ⊎ (other < one)) → one ≡ other
  by_order (inl same) = same
  by_order (inr (inl less)) = absurd (first_too one less bad)
  by_order (inr (inr more)) = absurd (first other more bad_too)

same_class : (classes : List ClassFile) (one other : ℕ) (class found : ClassFile) → one ≡ other → slice_get classes one ≡ Some class → slice_get classes other ≡ Some found → class ≡ found
same_class classes one other class found same at at_too = cc

same_lack : (classes : List ClassFile) (one other : ℕ) (member member_too : List ℕ) (class found : ClassFile) {lacking : Option (ℕ × List ℕ)} → lacking ≡ Some (one, member) → lacking ≡ Some (other, member_too) → slice_get classes one ≡ Some class → slice_get classes other ≡ Some found → MissingMember (name_of class) member ≡ MissingMember (name_of found) member_too
same_lack classes one other member member_too class found lacking lacking_too at at_too =
    let pairs = sym lacking ∙ lacking_too in
    let numbers : Some one ≡ Some other = ap (option_map (λ pair. pair.0)) pairs in
    let members : Some member ≡ Some member_too = ap (option_map (λ pair. pair.1)) pairs in
    let same : one ≡ other = cc in
    let same_member : member ≡ member_too = cc in
    let alike : class ≡ found = same_class classes one other class found same at at_too in
    ap (λ class. MissingMember (name_of class) member) alike ∙ ap (λ member. MissingMember (name_of found) member) same_member

pub one_reason : (classes : List ClassFile) (main : List ℕ) (one other : Refusal) → IsNoProgram classes main one → IsNoProgram classes main other → one ≡ other
one_reason classes main one other (IsBadAt number_a class_a first_a at_a) (IsBadAt number_b class_b first_b at_b) = ap (λ class. BadHierarchy (name_of class)) (same_class classes number_a number_b class_a class_b (one_first _ _ number_a number_b first_a first_b) at_a at_b)
one_reason classes main one other (IsBadAt number_a class_a first_a at_a) (Lacks number_b class_b member_b good_b lacking_b at_b) = absurd (not_good _ _ number_a first_a good_b)
one_reason classes main one other (IsBadAt number_a class_a first_a at_a) (HasNoMain good_b whole_b none_b) = absurd (not_good _ _ number_a first_a good_b)
one_reason classes main one other (IsBadAt number_a class_a first_a at_a) (HasManyMethods method_b good_b whole_b begins_b many_b) = absurd (not_good _ _ number_a first_a good_b)
one_reason classes main one other (IsBadAt number_a class_a first_a at_a) (HasManySites method_b good_b whole_b begins_b few_b many_b) = absurd (not_good _ _ number_a first_a good_b)
one_reason classes main one other (Lacks number_a class_a member_a good_a lacking_a at_a) (IsBadAt number_b class_b first_b at_b) = absurd (not_good _ _ number_b first_b good_a)
one_reason classes main one other (Lacks number_a class_a member_a good_a lacking_a at_a) (Lacks number_b class_b member_b good_b lacking_b at_b) = same_lack classes number_a number_b member_a member_b class_a class_b lacking_a lacking_b at_a at_b
one_reason classes main one other (Lacks number_a class_a member_a good_a lacking_a at_a) (HasNoMain good_b whole_b none_b) = absurd (some_none (number_a, member_a) _ lacking_a whole_b)
one_reason classes main one other (Lacks number_a class_a member_a good_a lacking_a at_a) (HasManyMethods method_b good_b whole_b begins_b many_b) = absurd (some_none (number_a, member_a) _ lacking_a whole_b)
one_reason classes main one other (Lacks number_a class_a member_a good_a lacking_a at_a) (HasManySites method_b good_b whole_b begins_b few_b many_b) = absurd (some_none (number_a, member_a) _ lacking_a whole_b)
one_reason classes main one other (HasNoMain good_a whole_a none_a) (IsBadAt number_b class_b first_b at_b) = absurd (not_good _ _ number_b first_b good_a)
one_reason classes main one other (HasNoMain good_a whole_a none_a) (Lacks number_b class_b member_b good_b lacking_b at_b) = absurd (some_none (number_b, member_b) _ lacking_b whole_a)
one_reason classes main one other (HasNoMain good_a whole_a none_a) (HasNoMain good_b whole_b none_b) = refl
one_reason classes main one other (HasNoMain good_a whole_a none_a) (HasManyMethods method_b good_b whole_b begins_b many_b) = absurd (some_none method_b _ begins_b none_a)
one_reason classes main one other (HasNoMain good_a whole_a none_a) (HasManySites method_b good_b whole_b begins_b few_b many_b) = absurd (some_none method_b _ begins_b none_a)
one_reason classes main one other (HasManyMethods method_a good_a whole_a begins_a many_a) (IsBadAt number_b class_b first_b at_b) = absurd (not_good _ _ number_b first_b good_a)
one_reason classes main one other (HasManyMethods method_a good_a whole_a begins_a many_a) (Lacks number_b class_b member_b good_b lacking_b at_b) = absurd (some_none (number_b, member_b) _ lacking_b whole_a)
one_reason classes main one other (HasManyMethods method_a good_a whole_a begins_a many_a) (HasNoMain good_b whole_b none_b) = absurd (some_none method_a _ begins_a none_b)
one_reason classes main one other (HasManyMethods method_a good_a whole_a begins_a many_a) (HasManyMethods method_b good_b whole_b begins_b many_b) = refl
one_reason classes main one other (HasManyMethods method_a good_a whole_a begins_a many_a) (HasManySites method_b good_b whole_b begins_b few_b many_b) = absurd (more_few _ _ few_b many_a)
one_reason classes main one other (HasManySites method_a good_a whole_a begins_a few_a many_a) (IsBadAt number_b class_b first_b at_b) = absurd (not_good _ _ number_b first_b good_a)
one_reason classes main one other (HasManySites method_a good_a whole_a begins_a few_a many_a) (Lacks number_b class_b member_b good_b lacking_b at_b) = absurd (some_none (number_b, member_b) _ lacking_b whole_a)
one_reason classes main one other (HasManySites method_a good_a whole_a begins_a few_a many_a) (HasNoMain good_b whole_b none_b) = absurd (some_none method_a _ begins_a none_b)
one_reason classes main one other (HasManySites method_a good_a whole_a begins_a few_a many_a) (HasManyMethods method_b good_b whole_b begins_b many_b) = absurd (more_few _ _ few_a many_b)
one_reason classes main one other (HasManySites method_a good_a whole_a begins_a few_a many_a) (HasManySites method_b good_b whole_b begins_b few_b many_b) = refl
