-- Places among places, and under which number each is found.
use Rattle.std.proofs.Common.{◌≡◌, ◌⊎◌, ◌∙◌, inl, inr, ap, sym, refl, arith, ℕ, suc, ◌+◌, ◌-◌, ◌<◌, ◌≤◌, Bool, true, false, ◌||◌, List, [], ◌∷◌, ◌++◌, length, replicate, get_or, Option, Some, None, option_map, is_some, ◌==◌, if◌then◌else◌}
use Rattle.std.specs.Option.{unwrap_or}
use Rattle.std.proofs.lemmas.Bool.{cases_lt, eqb-true, eqb-false}
use Rattle.std.proofs.lemmas.Grind.{get_or-set_at}
use Rattle.std.proofs.lemmas.List.{get_or_default, get_or-append_right, get_or-replicate, get_or-set_other, get_or_append_left, get_or_past, length-append, length-replicate}
use Rattle.std.proofs.Math.ListN.{set}
use Rattle.cb_asm_list.specs.Inner.{index_of, lengthened}
use Rattle.cb_asm_list.specs.Listing.{among, number_of}

some_more : (found : Option ℕ) → is_some (option_map suc found) ≡ is_some found
some_more None = refl
some_more (Some number) = refl

-- whether a place is among some, by its number
pub among_found : (places : List ℕ) (place : ℕ) → is_some (index_of places place) ≡ among places place
among_found [] place = refl
among_found (first ∷ places) place = by_test (first == place) (among_found places place)
  where
    by_test : (test : Bool) → is_some (index_of places place) ≡ among places place
        → is_some (if test then Some 0 else option_map suc (index_of places place)) ≡ (test || among places place)
    by_test true next = refl
    by_test false next = some_more (index_of places place) ∙ next

number_more : (found : Option ℕ) (count : ℕ) → unwrap_or (option_map suc found) (suc count) ≡ suc (unwrap_or found count)
number_more None count = refl
number_more (Some number) count = refl

-- the number of a place, and that of one that isn't there
pub number_found : (places : List ℕ) (place : ℕ) → unwrap_or (index_of places place) (length places) ≡ number_of places place
number_found [] place = refl
number_found (first ∷ places) place = by_test (first == place) (number_found places place)
  where
    by_test : (test : Bool) → unwrap_or (index_of places place) (length places) ≡ number_of places place
        → unwrap_or (if test then Some 0 else option_map suc (index_of places place)) (suc (length places)) ≡ (if test then 0 else suc (number_of places place))
    by_test true next = refl
    by_test false next = number_more (index_of places place) (length places) ∙ ap suc next

pub found_at : (places : List ℕ) (place number : ℕ) → index_of places place ≡ Some number → number ≡ number_of places place
found_at places place number is = ap (λ found. unwrap_or found (length places)) (sym is) ∙ number_found places place

pub found_nowhere : (places : List ℕ) (place : ℕ) → index_of places place ≡ None → length places ≡ number_of places place
found_nowhere places place is = ap (λ found. unwrap_or found (length places)) (sym is) ∙ number_found places place

-- where a place is found when another is added
abbrev found_or : Option ℕ → Option ℕ → Option ℕ
found_or None other = other
found_or (Some number) other = Some number

abbrev added_number : List ℕ → ℕ → ℕ → Option ℕ
added_number places added place = if added == place then Some (length places) else None

found_or_more : (found : Option ℕ) (test : Bool) (count : ℕ)
    → option_map suc (found_or found (if test then Some count else None)) ≡ found_or (option_map suc found) (if test then Some (suc count) else None)
found_or_more None true count = refl
found_or_more None false count = refl
found_or_more (Some number) test count = refl

found_behind : (places : List ℕ) (added place : ℕ) → index_of (places ++ added ∷ []) place ≡ found_or (index_of places place) (added_number places added place)
found_behind [] added place = refl
found_behind (first ∷ places) added place = by_test (first == place) (found_behind places added place)
  where
    by_test : (test : Bool) → index_of (places ++ added ∷ []) place ≡ found_or (index_of places place) (added_number places added place)
        → (if test then Some 0 else option_map suc (index_of (places ++ added ∷ []) place))
        ≡ found_or (if test then Some 0 else option_map suc (index_of places place)) (if added == place then Some (suc (length places)) else None)
    by_test true next = refl
    by_test false next = ap (option_map suc) next ∙ found_or_more (index_of places place) (added == place) (length places)

-- nothing stands in what a table is lengthened by
nothing_there : (count place : ℕ) → get_or (replicate {A = Option ℕ} count None) place None ≡ None
nothing_there count place = by_order (cases_lt place count)
  where
    by_order : (place < count) ⊎ (count ≤ place) → get_or (replicate {A = Option ℕ} count None) place None ≡ None
    by_order (inl below) = get_or-replicate count place None None below
    by_order (inr above) = get_or_past (replicate count None) place None (omega (arith, length-replicate {A = Option ℕ} count None))

pub none_added : (table : List (Option ℕ)) (count place : ℕ) → get_or (lengthened table count) place None ≡ get_or table place None
none_added table count place = by_order (cases_lt place (length table))
  where
    by_order : (place < length table) ⊎ (length table ≤ place) → get_or (lengthened table count) place None ≡ get_or table place None
    by_order (inl below) = get_or_append_left table (replicate (count - length table) None) None place below
    by_order (inr above) =
        get_or-append_right table (replicate (count - length table) None) (length table) place None refl above
        ∙ nothing_there (count - length table) (place - length table) ∙ sym (get_or_past table place None above)

pub reaches : (table : List (Option ℕ)) (count : ℕ) → count ≤ length (lengthened table count)
reaches table count = omega (arith, length-append table (replicate (count - length table) None), length-replicate {A = Option ℕ} (count - length table) None)

-- a table with the numbers of places
abbrev pub Tells : List (Option ℕ) → List ℕ → Type 0
Tells table places = (place : ℕ) → get_or table place None ≡ index_of places place

found_or_none : (found : Option ℕ) → found_or found None ≡ found
found_or_none None = refl
found_or_none (Some number) = refl

-- a place that is added, where it stood nowhere and where it stood somewhere
pub first_told : (table : List (Option ℕ)) (places : List ℕ) (added : ℕ) → Tells table places → index_of places added ≡ None → added < length table
    → Tells (set table added (Some (length places))) (places ++ added ∷ [])
first_told table places added tells none within place = by_test (added == place) refl
  where
    by_test : (test : Bool) → (added == place) ≡ test → get_or (set table added (Some (length places))) place None ≡ index_of (places ++ added ∷ []) place
    by_test true told =
        let same : place ≡ added = sym (eqb-true added place told) in
        get_or-set_at table added place (Some (length places)) None same within
        ∙ sym (found_behind places added place ∙ ap (λ test. found_or (index_of places place) (if test then Some (length places) else None)) told ∙ ap (λ found. found_or found (Some (length places))) (ap (index_of places) same ∙ none))
    by_test false told =
        get_or-set_other table added place (Some (length places)) None (λ same. eqb-false added place told (sym same)) ∙ tells place
        ∙ sym (found_behind places added place ∙ ap (λ test. found_or (index_of places place) (if test then Some (length places) else None)) told ∙ found_or_none (index_of places place))

again_found : (found : Option ℕ) (number count : ℕ) (test : Bool) → (test ≡ true → found ≡ Some number) → found_or found (if test then Some count else None) ≡ found
again_found None number count true is = absurd (cc (is refl))
again_found None number count false is = refl
again_found (Some other) number count test is = refl

pub again_told : (table : List (Option ℕ)) (places : List ℕ) (added number : ℕ) → Tells table places → index_of places added ≡ Some number
    → Tells table (places ++ added ∷ [])
again_told table places added number tells some place =
    tells place ∙ sym (found_behind places added place ∙ again_found (index_of places place) number (length places) (added == place) (λ same. ap (index_of places) (sym (eqb-true added place same)) ∙ some))

-- the same of a table that was lengthened before, by what stood at the place that is added
pub pushed_first : (old : List (Option ℕ)) (places : List ℕ) (added : ℕ) (read : Option ℕ) → Tells old places → read ≡ get_or (lengthened old (added + 1)) added read → is_some read ≡ false
    → Tells (set (lengthened old (added + 1)) added (Some (length places))) (places ++ added ∷ [])
pushed_first old places added (Some number) tells is none = absurd (cc none)
pushed_first old places added None tells is none =
    first_told (lengthened old (added + 1)) places added (λ place. none_added old (added + 1) place ∙ tells place) (sym (tells added) ∙ sym (none_added old (added + 1) added) ∙ sym is) (omega (arith, reaches old (added + 1)))

pub pushed_again : (old : List (Option ℕ)) (places : List ℕ) (added : ℕ) (read : Option ℕ) → Tells old places → read ≡ get_or (lengthened old (added + 1)) added read → is_some read ≡ true
    → Tells (lengthened old (added + 1)) (places ++ added ∷ [])
pushed_again old places added None tells is some = absurd (cc some)
pushed_again old places added (Some number) tells is some =
    let within : added < length (lengthened old (added + 1)) = omega (arith, reaches old (added + 1)) in
    again_told (lengthened old (added + 1)) places added number (λ place. none_added old (added + 1) place ∙ tells place)
    (sym (tells added) ∙ sym (none_added old (added + 1) added) ∙ get_or_default (lengthened old (added + 1)) added None (Some number) within ∙ sym is)
