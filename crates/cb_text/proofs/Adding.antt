-- Adding a constant to a pool.
use Rattle.std.proofs.Common.{◌≢◌, ◌≤◌, ℕ, zero, suc, ◌+◌, ◌^◌, ◌<◌, List, [], ◌∷◌, ◌++◌, length, refl, arith, length-append}
use Rattle.std.specs.Prelude.{IsSome, IsSomeAnd, slice_get}
use Rattle.std.specs.List.{AllByRecursion}
use Rattle.std.proofs.lemmas.Bool.{false≢true}
use Rattle.cb_text.specs.declared.constant.Constant.{Constant}
use Rattle.cb_text.specs.declared.constant.Constant.TheVariants.{Long, Double, Class, String, Fieldref, Methodref, InterfaceMethodref, NameAndType, MethodHandle, MethodType, InvokeDynamic, Gap}
use Rattle.cb_text.specs.Pool.{Fits, AreLaidOut, IsPool, IsText, IsClass, IsMember, Names, HasIndices, constant_at, with_gap}
use Rattle.cb_text.specs.Reading.{HasBytes}
use Rattle.cb_text.proofs.Lists.{all-append, all-back, all-all}
use Rattle.cb_text.proofs.Places.{laid_out-append, laid_out-back, takes_places}

-- what stands at a place still stands there where more is added, and what more may stand there is of what is added
get_more : {X : Type 0} (P : X → Type 0) (front back : List X) (i : ℕ) → IsSomeAnd (slice_get front i) P → IsSomeAnd (slice_get (front ++ back) i) P
get_more P [] back i here = absurd here
get_more P (first ∷ front) back zero here = here
get_more P (first ∷ front) back (suc i) here = get_more P front back i here

get_front : {X : Type 0} (P : X → Type 0) (front back : List X) (i : ℕ) → AllByRecursion (λ x. ¬ P x) back → IsSomeAnd (slice_get (front ++ back) i) P → IsSomeAnd (slice_get front i) P
get_front P [] [] i none here = here
get_front P [] (first ∷ back) zero none here = absurd (none.0 here)
get_front P [] (first ∷ back) (suc i) none here = get_front P [] back i none.1 here
get_front P (first ∷ front) back zero none here = here
get_front P (first ∷ front) back (suc i) none here = get_front P front back i none here

some_more : {X : Type 0} (front back : List X) (i : ℕ) → IsSome (slice_get front i) → IsSome (slice_get (front ++ back) i)
some_more [] back i here = absurd (false≢true here)
some_more (first ∷ front) back zero here = here
some_more (first ∷ front) back (suc i) here = some_more front back i here

names_more : (front back : List Constant) (index : ℕ) (IsKind : Constant → Type 0) → Names front index IsKind → Names (front ++ back) index IsKind
names_more front back zero IsKind names = absurd names
names_more front back (suc before) IsKind names = get_more IsKind front back before names

names_front : (front back : List Constant) (index : ℕ) (IsKind : Constant → Type 0) → AllByRecursion (λ c. ¬ IsKind c) back → Names (front ++ back) index IsKind → Names front index IsKind
names_front front back zero IsKind none names = absurd names
names_front front back (suc before) IsKind none names = get_front IsKind front back before none names

at_more : (front back : List Constant) (index : ℕ) → IsSome (constant_at front index) → IsSome (constant_at (front ++ back) index)
at_more front back zero here = absurd (false≢true here)
at_more front back (suc before) here = some_more front back before here

-- a constant's indices name what they named
pub indices_more : (front back : List Constant) (constant : Constant) → HasIndices front constant → HasIndices (front ++ back) constant
indices_more front back (Class name) has = names_more front back name IsText has
indices_more front back (String text) has = names_more front back text IsText has
indices_more front back (Fieldref holder member) has = (names_more front back holder IsClass has.0, names_more front back member IsMember has.1)
indices_more front back (Methodref holder member) has = (names_more front back holder IsClass has.0, names_more front back member IsMember has.1)
indices_more front back (InterfaceMethodref holder member) has = (names_more front back holder IsClass has.0, names_more front back member IsMember has.1)
indices_more front back (NameAndType name descriptor) has = (names_more front back name IsText has.0, names_more front back descriptor IsText has.1)
indices_more front back (MethodHandle kind reference) has = (has.0, has.1, at_more front back reference has.2)
indices_more front back (MethodType descriptor) has = names_more front back descriptor IsText has
indices_more front back (InvokeDynamic bootstrap member) has = names_more front back member IsMember has
indices_more front back constant has = has

-- a constant that isn't a method handle can't name itself
abbrev pub IsHandle : Constant → Type 0
IsHandle (MethodHandle kind reference) = Unit {0}
IsHandle other = ⊥

pub indices_front : (front : List Constant) (constant : Constant) → ¬ IsHandle constant → HasIndices (front ++ with_gap constant) constant → HasIndices front constant
indices_front front (Class name) other has = names_front front _ name IsText ((λ is. is), tt) has
indices_front front (String text) other has = names_front front _ text IsText ((λ is. is), tt) has
indices_front front (Fieldref holder member) other has = (names_front front _ holder IsClass ((λ is. is), tt) has.0, names_front front _ member IsMember ((λ is. is), tt) has.1)
indices_front front (Methodref holder member) other has = (names_front front _ holder IsClass ((λ is. is), tt) has.0, names_front front _ member IsMember ((λ is. is), tt) has.1)
indices_front front (InterfaceMethodref holder member) other has = (names_front front _ holder IsClass ((λ is. is), tt) has.0, names_front front _ member IsMember ((λ is. is), tt) has.1)
indices_front front (NameAndType name descriptor) other has = (names_front front _ name IsText ((λ is. is), tt) has.0, names_front front _ descriptor IsText ((λ is. is), tt) has.1)
indices_front front (MethodHandle kind reference) other has = absurd (other tt)
indices_front front (MethodType descriptor) other has = names_front front _ descriptor IsText ((λ is. is), tt) has
indices_front front (InvokeDynamic bootstrap member) other has = names_front front _ member IsMember ((λ is. is), tt) has
indices_front front constant other has = has

pub no_handle : (constant : Constant) → ((kind reference : ℕ) → constant ≢ MethodHandle kind reference) → ¬ IsHandle constant
no_handle (MethodHandle kind reference) other is = other kind reference refl
no_handle constant other is = is

-- a number is an index where it is from 1 to how many constants there are
some_within : {X : Type 0} (items : List X) (i : ℕ) → i < length items → IsSome (slice_get items i)
some_within [] i within = absurd (omega (arith, within))
some_within (first ∷ items) zero within = refl
some_within (first ∷ items) (suc i) within = some_within items i (omega (arith, within))

within_some : {X : Type 0} (items : List X) (i : ℕ) → IsSome (slice_get items i) → i < length items
within_some [] i here = absurd (false≢true here)
within_some (first ∷ items) zero here = omega arith
within_some (first ∷ items) (suc i) here = omega (arith, within_some items i here)

pub at_within : (pool : List Constant) (index : ℕ) → 1 ≤ index → index ≤ length pool → IsSome (constant_at pool index)
at_within pool zero some within = absurd (omega (arith, some))
at_within pool (suc before) some within = some_within pool before (omega (arith, within))

pub within_at : (pool : List Constant) (index : ℕ) → IsSome (constant_at pool index) → (1 ≤ index) × (index ≤ length pool)
within_at pool zero here = absurd (false≢true here)
within_at pool (suc before) here = (omega arith, omega (arith, within_some pool before here))

-- the gap has no index
places_indexed : (pool : List Constant) (constant : Constant) → HasIndices pool constant → AllByRecursion (HasIndices pool) (with_gap constant)
places_indexed pool (Long number) has = (tt, (tt, tt))
places_indexed pool (Double bits) has = (tt, (tt, tt))
places_indexed pool constant has = (has, tt)

-- what it takes to add a constant
pub record MayBeAdded (front : List Constant) (constant : Constant) : Type 0 where
  pub room : length front + length (with_gap constant) + 1 < 2 ^ 16
  pub has : HasBytes constant
  pub fits : Fits constant
  pub indexed : HasIndices (front ++ with_gap constant) constant

pub added : (front : List Constant) (constant : Constant) → IsPool front → MayBeAdded front constant → IsPool (front ++ with_gap constant)
added front constant pool may =
    let places = takes_places constant may.has in
    record {
      spelled = refl;
      counted = omega (arith, may.room, length-append front (with_gap constant));
      fit = all-append Fits front (with_gap constant) pool.fit (places.fit may.fits);
      laid_out = laid_out-append front (with_gap constant) pool.laid_out places.laid_out;
      indexed = all-append (HasIndices (front ++ with_gap constant)) front (with_gap constant)
          (all-all (HasIndices front) (HasIndices (front ++ with_gap constant)) front (indices_more front (with_gap constant)) pool.indexed)
          (places_indexed (front ++ with_gap constant) constant may.indexed);
    }

first_of_places : (P : Constant → Type 0) (constant : Constant) → AllByRecursion P (with_gap constant) → P constant
first_of_places P (Long number) all = all.0
first_of_places P (Double bits) all = all.0
first_of_places P constant all = all.0

places_have_bytes : (constant : Constant) → AreLaidOut (with_gap constant) → HasBytes constant
places_have_bytes Gap laid = absurd laid
places_have_bytes constant laid = tt

pub may_be_added : (front : List Constant) (constant : Constant) → IsPool front → IsPool (front ++ with_gap constant) → MayBeAdded front constant
may_be_added front constant pool both = record {
  room = omega (arith, both.counted, length-append front (with_gap constant));
  has = places_have_bytes constant (laid_out-back front (with_gap constant) pool.laid_out both.laid_out);
  fits = first_of_places Fits constant (all-back Fits front (with_gap constant) both.fit);
  indexed = first_of_places (HasIndices (front ++ with_gap constant)) constant (all-back (HasIndices (front ++ with_gap constant)) front (with_gap constant) both.indexed);
}
