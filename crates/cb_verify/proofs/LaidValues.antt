-- Values in local variables, when one is added at the end or taken off.
use Rattle.std.proofs.Common.{◌≡◌, ◌∙◌, ap, sym, refl, arith, ℕ, suc, ◌+◌, ◌-◌, ◌<◌, ◌≤◌, Bool, true, false, List, [], ◌∷◌, ◌++◌, length, slice_set, replicate, append_assoc, length-append, Some, None, nat_le, nat_lt, cond, ◌||◌}
use Rattle.std.specs.List.{flat_map}
use Rattle.std.proofs.lemmas.Bool.{cond-true, cond-false, le-leb, leb-false, leb-true, lt-leb, lt-ltb}
use Rattle.std.proofs.lemmas.List.{append-nil, length-replicate, set_at}
use Rattle.std.proofs.lemmas.Option.{cond_some}
use Rattle.cb_verify.specs.declared.verification_type.VerificationType.{VerificationType}
use Rattle.cb_verify.specs.declared.verification_type.VerificationType.TheVariants.{Top, Long, This}
use Rattle.cb_verify.specs.Frames.{has_this, height, in_words, is_this, laid}
use Rattle.cb_verify.specs.InnerLaid.{this_count}
use Rattle.cb_verify.specs.Types.{words}

abbrev flat : List VerificationType → List VerificationType
flat values = flat_map in_words values

length-words : (value : VerificationType) → length (in_words value) ≡ words value
length-words Long = refl
length-words value = refl

pub length-flat : (values : List VerificationType) → length (flat values) ≡ height values
length-flat [] = refl
length-flat (value ∷ values) = omega (arith, length-append (in_words value) (flat values), length-words value, length-flat values)

flat-append : (values more : List VerificationType) → flat (values ++ more) ≡ flat values ++ flat more
flat-append [] more = refl
flat-append (value ∷ values) more = ap (λ rest. in_words value ++ rest) (flat-append values more) ∙ sym (append_assoc (in_words value) (flat values) (flat more))

pub height-append : (values more : List VerificationType) → height (values ++ more) ≡ height values + height more
height-append [] more = omega arith
height-append (value ∷ values) more = omega (arith, height-append values more)

-- where values lie
pub lies : (most : ℕ) (values : List VerificationType) → height values ≤ most → laid most values ≡ Some (flat values ++ replicate (most - height values) Top)
lies most values within =
    cond-true _ (Some (flat values ++ replicate (most - length (flat values)) Top)) None (le-leb (length (flat values)) most (omega (arith, length-flat values)))
    ∙ ap (λ n. Some (flat values ++ replicate (most - n) Top)) (length-flat values)

pub lies_not : (most : ℕ) (values : List VerificationType) → most < height values → laid most values ≡ None
lies_not most values past =
    cond-false _ (Some (flat values ++ replicate (most - length (flat values)) Top)) None (lt-leb (length (flat values)) most (omega (arith, length-flat values)))

pub lies_within : (most : ℕ) (values locals : List VerificationType) → laid most values ≡ Some locals → height values ≤ most
lies_within most values locals is =
    let test = cond_some (nat_le (length (flat values)) most) (flat values ++ replicate (most - length (flat values)) Top) locals is in
    omega (arith, leb-true (length (flat values)) most test.0, length-flat values)

pub lies_where : (most : ℕ) (values locals : List VerificationType) → laid most values ≡ Some locals → locals ≡ flat values ++ replicate (most - height values) Top
lies_where most values locals is =
    let at : Some locals ≡ Some (flat values ++ replicate (most - height values) Top) = sym is ∙ lies most values (lies_within most values locals is) in
    cc

pub length-laid : (most : ℕ) (values locals : List VerificationType) → laid most values ≡ Some locals → length locals ≡ most
length-laid most values locals is =
    omega (
      arith,
      ap length (lies_where most values locals is),
      length-append (flat values) (replicate (most - height values) Top),
      length-flat values,
      length-replicate (most - height values) Top,
      lies_within most values locals is,
    )

-- one place is written when a value is added or taken off: the second one of a long has nothing before and after
written : (front : List VerificationType) (rest : ℕ) (value : VerificationType)
    → slice_set (front ++ replicate (words value + rest) Top) (length front) value ≡ (front ++ in_words value) ++ replicate rest Top
written front rest Long =
    ap (λ n. slice_set (front ++ replicate n Top) (length front) Long) (let two : 2 + rest ≡ suc (suc rest) = omega arith in two)
    ∙ set_at front Top (replicate (suc rest) Top) Long (length front) refl
    ∙ sym (append_assoc front (Long ∷ Top ∷ []) (replicate rest Top))
written front rest value =
    ap (λ n. slice_set (front ++ replicate n Top) (length front) value) (let one : 1 + rest ≡ suc rest = omega arith in one)
    ∙ set_at front Top (replicate rest Top) value (length front) refl
    ∙ sym (append_assoc front (value ∷ []) (replicate rest Top))

unwritten : (front : List VerificationType) (n : ℕ) (value : VerificationType)
    → slice_set ((front ++ in_words value) ++ replicate n Top) (length front) Top ≡ front ++ replicate (n + words value) Top
unwritten front n Long =
    ap (λ all. slice_set all (length front) Top) (append_assoc front (Long ∷ Top ∷ []) (replicate n Top))
    ∙ set_at front Long (Top ∷ replicate n Top) Top (length front) refl
    ∙ ap (λ m. front ++ replicate m Top) (let two : suc (suc n) ≡ n + 2 = omega arith in two)
unwritten front n value =
    ap (λ all. slice_set all (length front) Top) (append_assoc front (value ∷ []) (replicate n Top))
    ∙ set_at front value (replicate n Top) Top (length front) refl
    ∙ ap (λ m. front ++ replicate m Top) (let one : suc n ≡ n + 1 = omega arith in one)

flat-push : (values : List VerificationType) (value : VerificationType) → flat (values ++ value ∷ []) ≡ flat values ++ in_words value
flat-push values value = flat-append values (value ∷ []) ∙ ap (λ last. flat values ++ last) (append-nil (in_words value))

pub height-push : (values : List VerificationType) (value : VerificationType) → height (values ++ value ∷ []) ≡ height values + words value
height-push values value = omega (arith, height-append values (value ∷ []))

pub laid_more : (most : ℕ) (values locals : List VerificationType) (value : VerificationType) → laid most values ≡ Some locals → height values + words value ≤ most
    → laid most (values ++ value ∷ []) ≡ Some (slice_set locals (height values) value)
laid_more most values locals value is room =
    let rest : ℕ = most - height (values ++ value ∷ []) in
    lies most (values ++ value ∷ []) (omega (arith, height-push values value))
    ∙ ap (λ all. Some (all ++ replicate rest Top)) (flat-push values value)
    ∙ ap Some (sym (written (flat values) rest value))
    ∙ ap (λ n. Some (slice_set (flat values ++ replicate n Top) (length (flat values)) value)) (let all : words value + rest ≡ most - height values = omega (arith, height-push values value) in all)
    ∙ ap (λ n. Some (slice_set (flat values ++ replicate (most - height values) Top) n value)) (length-flat values)
    ∙ ap (λ all. Some (slice_set all (height values) value)) (sym (lies_where most values locals is))

pub laid_less : (most : ℕ) (values locals : List VerificationType) (value : VerificationType) → laid most (values ++ value ∷ []) ≡ Some locals
    → laid most values ≡ Some (slice_set locals (height values) Top)
laid_less most values locals value is =
    let high : height (values ++ value ∷ []) ≤ most = lies_within most (values ++ value ∷ []) locals is in
    let n : ℕ = most - height (values ++ value ∷ []) in
    lies most values (omega (arith, height-push values value))
    ∙ ap (λ m. Some (flat values ++ replicate m Top)) (let all : most - height values ≡ n + words value = omega (arith, height-push values value) in all)
    ∙ ap Some (sym (unwritten (flat values) n value))
    ∙ ap (λ all. Some (slice_set (all ++ replicate n Top) (length (flat values)) Top)) (sym (flat-push values value))
    ∙ ap (λ m. Some (slice_set (flat (values ++ value ∷ []) ++ replicate n Top) m Top)) (length-flat values)
    ∙ ap (λ all. Some (slice_set all (height values) Top)) (sym (lies_where most (values ++ value ∷ []) locals is))

-- values of which there is no room for the first ones
pub laid_never : (most : ℕ) (values more : List VerificationType) → laid most values ≡ None → laid most (values ++ more) ≡ None
laid_never most values more is = lies_not most (values ++ more) (omega (arith, past, height-append values more))
  where
    go : (within : Bool) → nat_le (height values) most ≡ within → most < height values
    go true test =
        let some : laid most values ≡ Some (flat values ++ replicate (most - height values) Top) = lies most values (leb-true (height values) most test) in
        cc
    go false test = leb-false (height values) most test

    past : most < height values
    past = go (nat_le (height values) most) refl

-- whether this is among values, by their number
this_more : (value : VerificationType) (values : List VerificationType) (is : Bool) → is_this value ≡ is → has_this values ≡ nat_lt 0 (this_count values)
    → has_this (value ∷ values) ≡ nat_lt 0 (this_count (value ∷ values))
this_more value values true is below =
    ap (λ b. b || has_this values) is
    ∙ sym (lt-ltb 0 (1 + this_count values) (omega arith))
    ∙ ap (λ b. nat_lt 0 (cond b 1 0 + this_count values)) (sym is)
this_more value values false is below =
    ap (λ b. b || has_this values) is
    ∙ below
    ∙ ap (nat_lt 0) (let none : this_count values ≡ 0 + this_count values = omega arith in none)
    ∙ ap (λ b. nat_lt 0 (cond b 1 0 + this_count values)) (sym is)

pub some_this : (values : List VerificationType) → has_this values ≡ nat_lt 0 (this_count values)
some_this [] = refl
some_this (value ∷ values) = this_more value values (is_this value) refl (some_this values)

pub count_push : (values : List VerificationType) (value : VerificationType) → this_count (values ++ value ∷ []) ≡ this_count values + this_count (value ∷ [])
count_push [] value = omega arith
count_push (first ∷ values) value = omega (arith, count_push values value)

pub few_this : (values : List VerificationType) → this_count values ≤ height values
few_this [] = omega arith
few_this (This ∷ values) = omega (arith, few_this values)
few_this (value ∷ values) = omega (arith, few_this values)
