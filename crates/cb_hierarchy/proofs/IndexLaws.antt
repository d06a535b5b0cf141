-- The index of one more member.
use Rattle.std.proofs.Common.{◌≡◌, ◌∙◌, ap, refl, sym, arith, true≢false, ℕ, Bool, true, false, cond, ◌&&◌, ◌==◌, ◌+◌, ◌<◌, List, [], ◌∷◌, ◌++◌, Option, Some, None, length, map, take, get_or}
use Rattle.std.specs.List.{position_from}
use Rattle.std.specs.Option.{option_or, is_some}
use Rattle.std.proofs.lemmas.Iterator.Adapters.{position_from-zero}
use Rattle.std.proofs.lemmas.List.{length-map, length-take-le, take_more, map-append}
use Rattle.std.proofs.lemmas.Bool.{eqb-true}
use Rattle.std.specs.Cmp.{first_so, second_so}
use Rattle.cb_hierarchy.specs.declared.member.Declared.{Declared}
use Rattle.cb_hierarchy.specs.InnerIndex.{IsIndexOf, same_member}
use Rattle.cb_hierarchy.specs.Members.{place_of}

-- the first place in a list with one item more
pub position_from-push : {K : Type 0} (test : K → Bool) (i n : ℕ) (items : List K) (item : K) → n ≡ i + length items
    → position_from test i (items ++ item ∷ []) ≡ option_or (position_from test i items) (cond (test item) (Some n) None)
position_from-push test i n [] item is = ap (λ n. cond (test item) (Some n) None) (let same : i ≡ n = omega (arith, is) in same)
position_from-push test i n (first ∷ items) item is =
    ap (cond (test first) (Some i)) (position_from-push test (i + 1) n items item (omega (arith, is)))
    ∙ go (test first)
  where
    go : (here : Bool) → cond here (Some i) (option_or (position_from test (i + 1) items) (cond (test item) (Some n) None))
        ≡ option_or (cond here (Some i) (position_from test (i + 1) items)) (cond (test item) (Some n) None)
    go true = refl
    go false = refl

pub place_of-push : (members : List Declared) (member : Declared) (class signature n : ℕ) → n ≡ length members
    → place_of (members ++ member ∷ []) class signature
    ≡ option_or (place_of members class signature) (cond ((member.class == class) && (member.signature == signature)) (Some n) None)
place_of-push members member class signature n is =
    position_from-zero test (members ++ member ∷ [])
    ∙ position_from-push test 0 n members member (omega (arith, is))
    ∙ ap (λ found. option_or found (cond (test member) (Some n) None)) (sym (position_from-zero test members))
  where
    test : Declared → Bool
    test member = (member.class == class) && (member.signature == signature)

same : (one other : Declared) → same_member one other ≡ true → one ≡ other
same one other is = λ i. record { class = eqb-true one.class other.class (first_so _ _ is) i; signature = eqb-true one.signature other.signature (second_so _ _ is) i }

pub or_none : {X : Type 0} (found : Option X) → option_or found None ≡ found
or_none None = refl
or_none (Some item) = refl

pub or_some : {X : Type 0} (found other : Option X) → is_some found ≡ true → option_or found other ≡ found
or_some None other is = absurd (true≢false (sym is))
or_some (Some item) other is = refl

-- a member that isn't there yet
pub inserted : (members : List Declared) (member : Declared) (n : ℕ) (found now : Declared → Option ℕ) → n ≡ length members → IsIndexOf members found
    → is_some (found member) ≡ false → ((other : Declared) → now other ≡ cond (same_member member other) (Some n) (found other)) → IsIndexOf (members ++ member ∷ []) now
inserted members member n found now is before absent then other =
    then other ∙ go (same_member member other) refl ∙ sym (place_of-push members member other.class other.signature n is)
  where
    none : (option : Option ℕ) → is_some option ≡ false → option ≡ None
    none None is = refl
    none (Some number) is = absurd (true≢false is)

    go : (test : Bool) → same_member member other ≡ test → cond test (Some n) (found other)
        ≡ option_or (place_of members other.class other.signature) (cond test (Some n) None)
    go true equal = ap (λ found. option_or found (Some n)) (sym (none (found member) absent) ∙ ap found (same member other equal) ∙ before other)
    go false apart = before other ∙ sym (or_none (place_of members other.class other.signature))

-- a member that is there
pub kept : (members : List Declared) (member : Declared) (found : Declared → Option ℕ) → IsIndexOf members found → is_some (found member) ≡ true
    → IsIndexOf (members ++ member ∷ []) found
kept members member found before there other =
    go (same_member member other) refl ∙ sym (place_of-push members member other.class other.signature (length members) refl)
  where
    go : (test : Bool) → same_member member other ≡ test → found other
        ≡ option_or (place_of members other.class other.signature) (cond test (Some (length members)) None)
    go true equal = before other ∙ sym (or_some (place_of members other.class other.signature) (Some (length members))
        (ap is_some (sym (before other)) ∙ ap (λ member. is_some (found member)) (sym (same member other equal)) ∙ there))
    go false apart = before other ∙ sym (or_none (place_of members other.class other.signature))

-- one item more of a list
pub one_more : {X : Type 0} (declared : X → Declared) (items : List X) (i : ℕ) (item : X) → i < length items → item ≡ get_or items i item
    → map declared (take (i + 1) items) ≡ map declared (take i items) ++ declared item ∷ []
one_more declared items i item within is =
    ap (map declared) (take_more items i item within) ∙ map-append declared (take i items) (get_or items i item ∷ [])
    ∙ ap (λ item. map declared (take i items) ++ declared item ∷ []) (sym is)

pub taken : {X : Type 0} (declared : X → Declared) (items : List X) (i : ℕ) → i < length items → i ≡ length (map declared (take i items))
taken declared items i within = sym (length-map (take i items) declared ∙ length-take-le i items (omega arith))
