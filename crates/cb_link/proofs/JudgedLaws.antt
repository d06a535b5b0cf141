-- What is known of classes that are judged.
use Rattle.std.proofs.Common.{◌≡◌, ap, arith, subst, sym, true≢false, ℕ, ◌+◌, ◌<◌, ◌≤◌, List, [], ◌∷◌, ◌++◌, Option, Some, None, length, map, option_map}
use Rattle.std.specs.Prelude.{is_some, unwrap_or}
use Rattle.std.specs.List.{AllByRecursion, enumerate_from, flat_map}
use Rattle.cb_text.specs.declared.constant.Constant.{Constant}
use Rattle.cb_classfile.specs.declared.body.Body.{Body}
use Rattle.cb_classfile.specs.declared.class.ClassFile.{ClassFile}
use Rattle.cb_hierarchy.specs.Resolution.{first_some}
use Rattle.cb_hierarchy.specs.Bad.{AreGood}
use Rattle.cb_link.specs.declared.refusal.Quantity.TheVariants.{Sites}
use Rattle.cb_link.specs.declared.refusal.Refusal.{Refusal}
use Rattle.cb_link.specs.declared.refusal.Refusal.TheVariants as refusals
use Rattle.cb_link.specs.Judging.{HasManySites, HindersProgram, site_count, site_limit}
use Rattle.cb_link.specs.Inner.{IsTooMany}
use Rattle.cb_link.specs.InnerJudged.{IsBegun}
use Rattle.cb_link.specs.Lacking.{first_lacking, lacks, lacks_in}
use Rattle.cb_link.specs.Numbers.{hierarchy, ranked_methods}

abbrev Below : ℕ → Option (ℕ × List ℕ) → Type 0
Below limit None = Unit {0}
Below limit (Some found) = found.0 < limit

all_append : {X : Type 0} (P : X → Type 0) (xs ys : List X) → AllByRecursion P xs → AllByRecursion P ys → AllByRecursion P (xs ++ ys)
all_append P [] ys first second = second
all_append P (x ∷ xs) ys first second = (first.0, all_append P xs ys first.1 second)

all_flat : {X Y : Type 0} (P : Y → Type 0) (f : X → List Y) (xs : List X) → ((x : X) → AllByRecursion P (f x)) → AllByRecursion P (flat_map f xs)
all_flat P f [] each = tt
all_flat P f (x ∷ xs) each = all_append P (f x) (flat_map f xs) (each x) (all_flat P f xs each)

all_map : {X Y : Type 0} (P : Y → Type 0) (f : X → Y) (xs : List X) → ((x : X) → P (f x)) → AllByRecursion P (map f xs)
all_map P f [] each = tt
all_map P f (x ∷ xs) each = (each x, all_map P f xs each)

first_below : (limit : ℕ) (found : List (Option (ℕ × List ℕ))) (number : ℕ) (member : List ℕ) → AllByRecursion (Below limit) found → first_some found ≡ Some (number, member) → number < limit
first_below limit [] number member all is = absurd (true≢false (sym (ap is_some is)))
first_below limit (None ∷ found) number member all is = first_below limit found number member all.1 is
first_below limit (Some one ∷ found) number member all is = subst (λ other. other < limit) (ap (λ found. (unwrap_or found one).0) is) all.0

-- each class that is looked at is one
lacking_in : (classes : List ClassFile) (limit number : ℕ) (pool : List Constant) (body : Option Body) → number < limit → AllByRecursion (Below limit) (lacks_in classes number pool body)
lacking_in classes limit number pool None below = tt
lacking_in classes limit number pool (Some body) below =
    all_map (Below limit) (λ placed. option_map (λ member. (number, member)) (lacks classes number pool placed.1)) body.code (λ placed. go (lacks classes number pool placed.1))
  where
    go : (found : Option (List ℕ)) → Below limit (option_map (λ member. (number, member)) found)
    go None = tt
    go (Some member) = below

lacking_from : (classes rest : List ClassFile) (start : ℕ) → start + length rest ≤ length classes
    → AllByRecursion (Below (length classes)) (flat_map (λ entry. flat_map (λ method. lacks_in classes entry.0 entry.1.pool method.body) entry.1.methods) (enumerate_from start rest))
lacking_from classes [] start within = tt
lacking_from classes (class ∷ rest) start within =
    all_append (Below (length classes)) (flat_map (λ method. lacks_in classes start class.pool method.body) class.methods)
    (flat_map (λ entry. flat_map (λ method. lacks_in classes entry.0 entry.1.pool method.body) entry.1.methods) (enumerate_from (start + 1) rest))
    (all_flat (Below (length classes)) (λ method. lacks_in classes start class.pool method.body) class.methods (λ method. lacking_in classes (length classes) start class.pool method.body (omega (arith, within))))
    (lacking_from classes rest (start + 1) (omega (arith, within)))

pub lacking_within : (classes : List ClassFile) (number : ℕ) (member : List ℕ) → first_lacking classes ≡ Some (number, member) → number < length classes
lacking_within classes number member is = first_below (length classes) _ number member (lacking_from classes classes 0 (omega arith)) is

-- too many sites hinder a program that is one but for them
hinders : (classes : List ClassFile) (main : List ℕ) (method : ℕ) (refusal : Refusal) → AreGood (hierarchy classes) (ranked_methods classes) → IsBegun classes main method
    → (refusal ≡ refusals.TooLarge Sites (site_limit + 1) site_limit) × (site_limit < site_count classes) → HindersProgram classes main refusal
hinders classes main method refusal good begun told =
    subst (HindersProgram classes main) (sym told.0) (HasManySites method good begun.whole begun.begins begun.methods told.1)

pub many_sites : (classes : List ClassFile) (main : List ℕ) (method : ℕ) (refusal : Refusal) → AreGood (hierarchy classes) (ranked_methods classes) → IsBegun classes main method
    → IsTooMany (site_limit < site_count classes) refusal → HindersProgram classes main refusal
many_sites classes main method refusals.OutOfMemory good begun told = tt
many_sites classes main method (refusals.MissingClass name) good begun told = hinders classes main method (refusals.MissingClass name) good begun told
many_sites classes main method (refusals.TooLarge what count limit) good begun told = hinders classes main method (refusals.TooLarge what count limit) good begun told
many_sites classes main method (refusals.Malformed class) good begun told = hinders classes main method (refusals.Malformed class) good begun told
many_sites classes main method (refusals.BadVersion class major) good begun told = hinders classes main method (refusals.BadVersion class major) good begun told
many_sites classes main method (refusals.Unsupported class item) good begun told = hinders classes main method (refusals.Unsupported class item) good begun told
many_sites classes main method (refusals.BadHierarchy class) good begun told = hinders classes main method (refusals.BadHierarchy class) good begun told
many_sites classes main method (refusals.MissingMember class member) good begun told = hinders classes main method (refusals.MissingMember class member) good begun told
many_sites classes main method (refusals.NoMain class) good begun told = hinders classes main method (refusals.NoMain class) good begun told
many_sites classes main method refusals.FolderFault good begun told = hinders classes main method refusals.FolderFault good begun told
