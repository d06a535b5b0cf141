-- The name of a class from left to right.
use Rattle.std.proofs.Common.{◌≡◌, ◌≢◌, ◌↔◌, ◌⊎◌, inl, inr, ℕ, ◌+◌, ◌-◌, ◌<◌, ◌≤◌, Bool, true, false, List, [], ◌∷◌, ◌++◌, length, get_or, take, drop, IsTrue, refl, sym, ◌∙◌, ap, subst, append_assoc, arith, ◌==◌}
use Rattle.std.specs.List.{AllByRecursion, join_with_byte}
use Rattle.std.proofs.lemmas.Bool.{false≢true}
use Rattle.std.proofs.lemmas.Bool.Decides.{nat_tests}
use Rattle.std.proofs.lemmas.List.{append-nil, take_all, take_more, take_rest}
use Rattle.cb_names.specs.Signs.{slash, semicolon, less, bracket}
use Rattle.cb_names.specs.Names.{MayStandInName, IsUnqualifiedName, IsClassName}
use Rattle.cb_names.specs.Fronts.{IsRest, BeginsWithName}
use Rattle.cb_names.proofs.Lists.{all-append, all-weaker, all_back, all_front}
use Rattle.cb_names.proofs.Places.{split_at}

-- a whole name is the rest of one of which nothing has been seen
whole : (text : List ℕ) → IsClassName text ↔ IsRest false text
whole text = (from, λ rest. (rest.first ∷ rest.others, omega arith, ((rest.some refl, rest.stand), rest.named), rest.spelled)) where
  from : IsClassName text → IsRest false text
  from ([], some, named, spelled) = absurd (omega arith)
  from (first ∷ others, some, named, spelled) = record {
    first = first;
    others = others;
    stand = named.0.1;
    some = λ _. named.0.0;
    named = named.1;
    spelled = spelled;
  }

join-cons : (unit : ℕ) (first : List ℕ) (others : List (List ℕ)) → join_with_byte slash ((unit ∷ first) ∷ others) ≡ unit ∷ join_with_byte slash (first ∷ others)
join-cons unit first [] = refl
join-cons unit first (next ∷ others) = refl

some_unit : (unit : ℕ) (text : List ℕ) → [] ≢ unit ∷ text
some_unit unit text same = cc

-- a name may end behind a unit of a part
ends : (begun : Bool) → IsRest begun [] ↔ (begun ≡ true)
ends begun = (
  λ rest. from begun rest.first rest.others rest.some rest.spelled,
  λ is. record {
    first = [];
    others = [];
    stand = tt;
    some = λ is_not. absurd (false≢true (sym is_not ∙ is));
    named = tt;
    spelled = refl;
  },
) where
  from : (begun : Bool) (first : List ℕ) (others : List (List ℕ)) → (begun ≡ false → 0 < length first) → [] ≡ join_with_byte slash (first ∷ others) → begun ≡ true
  from true first others some spelled = refl
  from false [] others some spelled = let more = some refl in absurd (omega arith)
  from false (unit ∷ first) others some spelled = absurd (some_unit _ _ (spelled ∙ join-cons unit first others))

-- the unit at the front is a `/` behind a part that has a unit, or one of a part
front : (begun : Bool) (unit : ℕ) (after : List ℕ) → IsRest begun (unit ∷ after) → ((unit ≡ slash) × (begun ≡ true) × IsRest false after) ⊎ (MayStandInName unit × IsRest true after)
front begun unit after rest = go rest.first rest.others rest.stand rest.some rest.named rest.spelled where
  has_begun : (begun : Bool) → (begun ≡ false → 0 < 0) → begun ≡ true
  has_begun true some = refl
  has_begun false some = let more = some refl in absurd (omega arith)

  go : (first : List ℕ) (others : List (List ℕ)) → AllByRecursion MayStandInName first → (begun ≡ false → 0 < length first) → AllByRecursion IsUnqualifiedName others → unit ∷ after ≡ join_with_byte slash (first ∷ others) → ((unit ≡ slash) × (begun ≡ true) × IsRest false after) ⊎ (MayStandInName unit × IsRest true after)
  go [] [] stand some named spelled = absurd (some_unit _ _ (sym spelled))
  go [] (next ∷ others) stand some named spelled = inl (
    cc,
    has_begun begun some,
    record {
      first = next;
      others = others;
      stand = named.0.1;
      some = λ _. named.0.0;
      named = named.1;
      spelled = cc;
    },
  )
  go (first ∷ more) others stand some named spelled =
      let same = spelled ∙ join-cons first more others in
      let is : first ≡ unit = cc in
      inr (
        subst MayStandInName is stand.0,
        record {
          first = more;
          others = others;
          stand = stand.1;
          some = λ is_not. absurd (false≢true (sym is_not));
          named = named;
          spelled = cc;
        },
      )

-- behind a `/` the next part begins
pub behind_slash : (begun : Bool) (after : List ℕ) → begun ≡ true → IsRest begun (slash ∷ after) ↔ IsRest false after
behind_slash begun after is = (
  λ rest. elim (front begun slash after rest) [ inl slashed ↦ slashed.2 | inr of_part ↦ absurd (of_part.0.3 refl) ],
  λ rest. record {
    first = [];
    others = rest.first ∷ rest.others;
    stand = tt;
    some = λ is_not. absurd (false≢true (sym is_not ∙ is));
    named = ((rest.some refl, rest.stand), rest.named);
    spelled = ap (λ text. slash ∷ text) rest.spelled;
  },
)

-- behind any other unit the part has begun
pub behind_unit : (begun : Bool) (unit : ℕ) (after : List ℕ) → MayStandInName unit → IsRest begun (unit ∷ after) ↔ IsRest true after
behind_unit begun unit after may = (
  λ rest. elim (front begun unit after rest) [ inl slashed ↦ absurd (may.3 slashed.0) | inr of_part ↦ of_part.1 ],
  λ rest. record {
    first = unit ∷ rest.first;
    others = rest.others;
    stand = (may, rest.stand);
    some = λ _. omega arith;
    named = rest.named;
    spelled = ap (λ text. unit ∷ text) rest.spelled ∙ sym (join-cons unit rest.first rest.others);
  },
)

-- a unit greater than all that have a meaning in names
pub may_stand_beyond : (unit : ℕ) → bracket < unit → MayStandInName unit
may_stand_beyond unit beyond = (λ is. omega arith, λ is. omega arith, λ is. omega arith, λ is. omega arith)

-- so the part has begun behind it
pub behind_beyond : (begun : Bool) (unit : ℕ) → bracket < unit → (after : List ℕ) → IsRest begun (unit ∷ after) ↔ IsRest true after
behind_beyond begun unit beyond after = behind_unit begun unit after (may_stand_beyond unit beyond)

-- no name goes on with a unit that may not stand there
pub no_rest : (begun : Bool) (unit : ℕ) (after : List ℕ) → (unit ≡ slash → begun ≡ true → ⊥) → (MayStandInName unit → ⊥) → IsRest begun (unit ∷ after) → ⊥
no_rest begun unit after no_slash may_not rest =
    elim (front begun unit after rest) [ inl slashed ↦ no_slash slashed.0 slashed.1 | inr of_part ↦ may_not of_part.0 ]

-- nor does one begin with a bracket
pub no_bracket_name : (after : List ℕ) → IsClassName (bracket ∷ after) → ⊥
no_bracket_name after named =
    no_rest false bracket after (λ is _. omega arith) (λ may. may.2 refl) ((whole (bracket ∷ after)).0 named)

-- a front of a text has been seen: what makes the name of a class behind it is the rest of one
abbrev pub IsSeen : List ℕ → Bool → Type 0
IsSeen seen begun = (back : List ℕ) → IsClassName (seen ++ back) ↔ IsRest begun back

pub seen_none : IsSeen [] false
seen_none back = whole back

both : {P Q R : Type 0} → P ↔ Q → Q ↔ R → P ↔ R
both one other = (λ p. other.0 (one.0 p), λ r. one.1 (other.1 r))

pub seen_more : (text : List ℕ) (begun after : Bool) (index : ℕ) → IsSeen (take index text) begun → index < length text → ((rest : List ℕ) → IsRest begun (get_or text index 0 ∷ rest) ↔ IsRest after rest) → IsSeen (take (index + 1) text) after
seen_more text begun after index seen within goes_on back =
    let more : take (index + 1) text ++ back ≡ take index text ++ (get_or text index 0 ∷ back) = ap (λ front. front ++ back) (take_more text index 0 within) ∙ append_assoc (take index text) (get_or text index 0 ∷ []) back in
    both (subst (λ name. IsClassName name ↔ IsRest begun (get_or text index 0 ∷ back)) (sym more) (seen (get_or text index 0 ∷ back))) (goes_on back)

-- what has been seen is a name where its last part has begun
pub seen_name : (seen : List ℕ) (begun : Bool) → IsSeen seen begun → IsTrue begun ↔ IsClassName seen
seen_name seen begun is_seen =
    let alone = subst (λ text. IsClassName text ↔ IsRest begun []) (append-nil seen) (is_seen []) in
    let done = both alone (ends begun) in
    (done.1, done.0)

pub seen_whole : (text : List ℕ) (begun : Bool) (index : ℕ) → IsSeen (take index text) begun → length text ≤ index → IsTrue begun ↔ IsClassName text
seen_whole text begun index seen past = seen_name text begun (subst (λ front. IsSeen front begun) (take_all index text past) seen)

-- a text is no name where none goes on with the next unit
pub seen_wrong : (text : List ℕ) (begun : Bool) (index : ℕ) → IsSeen (take index text) begun → index < length text → ((rest : List ℕ) → IsRest begun (get_or text index 0 ∷ rest) → ⊥) → IsClassName text → ⊥
seen_wrong text begun index seen within wrong named =
    wrong _ ((seen (get_or text index 0 ∷ drop (index + 1) text)).0 (subst IsClassName (split_at text index within) named))

-- where the name of a class ends
abbrev pub is_end : ℕ → Bool
is_end unit = unit == semicolon

-- it goes on
abbrev pub GoesOn : ℕ → Type 0
GoesOn unit = is_end unit ≡ false

goes_on : (unit : ℕ) → MayStandInName unit → GoesOn unit
goes_on unit may = let is_not = may.1 in grind (arith, nat_tests)

name_goes_on : (parts : List (List ℕ)) → AllByRecursion IsUnqualifiedName parts → AllByRecursion GoesOn (join_with_byte slash parts)
name_goes_on [] named = tt
name_goes_on (part ∷ []) named = all-weaker MayStandInName GoesOn goes_on part named.0.1
name_goes_on (part ∷ next ∷ parts) named =
    all-append GoesOn part (slash ∷ join_with_byte slash (next ∷ parts)) (all-weaker MayStandInName GoesOn goes_on part named.0.1) (refl, name_goes_on (next ∷ parts) named.1)

pub class_goes_on : (name : List ℕ) → IsClassName name → AllByRecursion GoesOn name
class_goes_on name (parts, some, named, is) = subst (AllByRecursion GoesOn) (sym is) (name_goes_on parts named)

-- what has been seen goes on, since some name begins with it
seen_goes_on : (seen : List ℕ) (begun : Bool) → IsSeen seen begun → AllByRecursion GoesOn seen
seen_goes_on seen begun is_seen = all_front GoesOn seen (less ∷ []) (class_goes_on _ ((is_seen (less ∷ [])).1 (record {
  first = less ∷ [];
  others = [];
  stand = ((λ is. omega arith, λ is. omega arith, λ is. omega arith, λ is. omega arith), tt);
  some = λ _. omega arith;
  named = tt;
  spelled = refl;
})))

ended : (unit : ℕ) → GoesOn unit → unit ≢ semicolon
ended unit goes is = false≢true (sym goes ∙ ap is_end is)

-- no name has a `;`
pub no_semicolon : (name : List ℕ) (index : ℕ) → index < length name → get_or name index 0 ≡ semicolon → IsClassName name → ⊥
no_semicolon name index within is named =
    let all = subst (AllByRecursion GoesOn) (split_at name index within) (class_goes_on name named) in
    ended _ (all_back GoesOn (take index name) _ all).0 is

-- two names in front of a `;` are one
pub same_name : (one other rest behind : List ℕ) → AllByRecursion GoesOn one → AllByRecursion GoesOn other → one ++ semicolon ∷ rest ≡ other ++ semicolon ∷ behind → (one ≡ other) × (rest ≡ behind)
same_name [] [] rest behind of_one of_other same = (refl, cc)
same_name [] (unit ∷ other) rest behind of_one of_other same = absurd (ended unit of_other.0 cc)
same_name (unit ∷ one) [] rest behind of_one of_other same = absurd (ended unit of_one.0 cc)
same_name (unit ∷ one) (last ∷ other) rest behind of_one of_other same =
    let more : (one ≡ other) × (rest ≡ behind) = same_name one other rest behind of_one.1 of_other.1 cc in
    let more_name = more.0 in
    (cc, more.1)

-- a name goes on behind a front without `;`
longer : (seen name rest after : List ℕ) (unit : ℕ) → AllByRecursion GoesOn seen → unit ≢ semicolon → seen ++ unit ∷ after ≡ name ++ semicolon ∷ rest → (more : List ℕ) × (name ≡ seen ++ unit ∷ more)
longer [] [] rest after unit goes no_end same = absurd (no_end cc)
longer [] (first ∷ name) rest after unit goes no_end same = (name, cc)
longer (first ∷ seen) [] rest after unit goes no_end same = absurd (ended first goes.0 cc)
longer (first ∷ seen) (next ∷ name) rest after unit goes no_end same =
    let more : (more : List ℕ) × (name ≡ seen ++ unit ∷ more) = longer seen name rest after unit goes.1 no_end cc in
    let is = more.1 in
    (more.0, cc)

no_end : (name rest : List ℕ) → AllByRecursion GoesOn (name ++ semicolon ∷ rest) → ⊥
no_end [] rest goes = ended semicolon goes.0 refl
no_end (unit ∷ name) rest goes = no_end name rest goes.1

-- at a `;` what has been seen is the name
pub name_seen : (text : List ℕ) (begun : Bool) (index : ℕ) → IsSeen (take index text) begun → index < length text → get_or text index 0 ≡ semicolon → begun ≡ true → BeginsWithName text (take index text) (take (length text - (index + 1)) (drop (index + 1) text))
name_seen text begun index seen within is has_begun = record {
  is = (seen_name _ _ seen).0 has_begun;
  spelled = split_at text index within ∙ ap (λ unit. take index text ++ unit ∷ drop (index + 1) text) is ∙ ap (λ rest. take index text ++ semicolon ∷ rest) (sym (take_rest text (index + 1)));
}

-- or there is none
pub no_name_seen : (text : List ℕ) (begun : Bool) (index : ℕ) (name rest : List ℕ) → IsSeen (take index text) begun → index < length text → get_or text index 0 ≡ semicolon → begun ≡ false → BeginsWithName text name rest → ⊥
no_name_seen text begun index name rest seen within is has_not named =
    let split : text ≡ take index text ++ semicolon ∷ drop (index + 1) text = split_at text index within ∙ ap (λ unit. take index text ++ unit ∷ drop (index + 1) text) is in
    let same = same_name (take index text) name (drop (index + 1) text) rest (seen_goes_on _ _ seen) (class_goes_on name named.is) (sym split ∙ named.spelled) in
    false≢true (sym has_not ∙ (seen_name _ _ seen).1 (subst IsClassName (sym same.0) named.is))

pub no_name_on : (text : List ℕ) (begun : Bool) (index : ℕ) (name rest : List ℕ) → IsSeen (take index text) begun → index < length text → get_or text index 0 ≢ semicolon → ((rest : List ℕ) → IsRest begun (get_or text index 0 ∷ rest) → ⊥) → BeginsWithName text name rest → ⊥
no_name_on text begun index name rest seen within is_not wrong named =
    let more = longer (take index text) name rest (drop (index + 1) text) (get_or text index 0) (seen_goes_on _ _ seen) is_not (sym (split_at text index within) ∙ named.spelled) in
    wrong more.0 ((seen _).0 (subst IsClassName more.1 named.is))

pub no_name_left : (text : List ℕ) (begun : Bool) (index : ℕ) (name rest : List ℕ) → IsSeen (take index text) begun → length text ≤ index → BeginsWithName text name rest → ⊥
no_name_left text begun index name rest seen past named =
    no_end name rest (subst (AllByRecursion GoesOn) (take_all index text past ∙ named.spelled) (seen_goes_on _ _ seen))
