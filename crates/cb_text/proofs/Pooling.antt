-- Constants that stand one behind the other at the front of some bytes.
use Rattle.std.proofs.Common.{◌≡◌, ℕ, zero, suc, ◌+◌, ◌<◌, ◌≤◌, List, [], ◌∷◌, ◌++◌, length, refl, sym, ◌∙◌, ap, subst, arith, append_assoc, length-append}
use Rattle.std.specs.List.{AllByRecursion, flat_map}
use Rattle.std.proofs.lemmas.List.{append-nil, nil_from_length}
use Rattle.std.proofs.lemmas.List.Concat.{flat_map-append}
use Rattle.cb_text.specs.declared.constant.Constant.{Constant}
use Rattle.cb_text.specs.Fronts.{BeginsWith, IsFront}
use Rattle.cb_text.specs.Pool.{Fits, constant_bytes, AreLaidOut, with_gap}
use Rattle.cb_text.specs.Reading.{SpellsConstant, SpellsConstants}
use Rattle.cb_text.proofs.Lists.{all-append, all-back}
use Rattle.cb_text.proofs.OneConstant.{front_constant}
use Rattle.cb_text.proofs.Places.{laid_out-append, first_has_bytes, takes_places, behind_spelled}

-- these constants stand at the front of the bytes, with their gaps, and this behind them
pub record Stand (bytes : List ℕ) (constants : List Constant) (rest : List ℕ) : Type 0 where
  pub fit : AllByRecursion Fits constants
  pub laid_out : AreLaidOut constants
  pub spelled : bytes ≡ flat_map constant_bytes constants ++ rest

-- so does the first of them
abbrev pub first_stands : {bytes rest : List ℕ} {first : Constant} {others : List Constant} → Stand bytes (first ∷ others) rest → BeginsWith SpellsConstant bytes first (flat_map constant_bytes others ++ rest)
first_stands {bytes} {rest} {first} {others} all =
    (constant_bytes first, (first_has_bytes first others all.laid_out, all.fit.0, refl), all.spelled ∙ append_assoc (constant_bytes first) (flat_map constant_bytes others) rest)

-- and behind it, and its gap, the others
pub others_stand : {bytes rest : List ℕ} {first : Constant} {others : List Constant} → Stand bytes (first ∷ others) rest → (more : List Constant) × (first ∷ others ≡ with_gap first ++ more) × Stand (flat_map constant_bytes others ++ rest) more rest
others_stand {bytes} {rest} {first} {others} all =
    let takes = takes_places first (first_has_bytes first others all.laid_out) in
    let behind = takes.behind others all.laid_out in (
      behind.0,
      behind.2,
      record {
        fit = all-back Fits (with_gap first) behind.0 (subst (AllByRecursion Fits) behind.2 all.fit);
        laid_out = behind.1;
        spelled = ap (λ bytes. bytes ++ rest) (behind_spelled first (with_gap first) others behind.0 takes behind.2);
      },
    )

-- a constant that stands behind them stands with them
pub one_more : {bytes rest : List ℕ} {front : List Constant} (constant : Constant) (after : List ℕ) → Stand bytes front rest → BeginsWith SpellsConstant rest constant after → Stand bytes (front ++ with_gap constant) after
one_more {bytes} {rest} {front} constant after so_far (first, spelled, split) =
    let takes = takes_places constant spelled.0 in
    let one : flat_map constant_bytes (with_gap constant) ≡ first = takes.spelled ∙ append-nil (constant_bytes constant) ∙ sym spelled.2 in
    let both : flat_map constant_bytes (front ++ with_gap constant) ≡ flat_map constant_bytes front ++ first = flat_map-append constant_bytes front (with_gap constant) ∙ ap (λ back. flat_map constant_bytes front ++ back) one in
    record {
      fit = all-append Fits front (with_gap constant) so_far.fit (takes.fit spelled.1);
      laid_out = laid_out-append front (with_gap constant) so_far.laid_out takes.laid_out;
      spelled = so_far.spelled ∙ ap (λ back. flat_map constant_bytes front ++ back) split ∙ sym (append_assoc (flat_map constant_bytes front) first after) ∙ ap (λ front. front ++ after) (sym both);
    }

-- where no more stand than others do, the others are these and what stands behind them
tail_upto : (n : ℕ) (front all : List Constant) (bytes rest after : List ℕ) → length front ≤ n → length front ≤ length all → Stand bytes front rest → Stand bytes all after → (tail : List Constant) × (all ≡ front ++ tail) × Stand rest tail after
tail_upto n [] all bytes rest after few long here there = (all, refl, subst (λ bytes. Stand bytes all after) here.spelled there)
tail_upto n (first ∷ front) [] bytes rest after few long here there = absurd (omega (arith, long))
tail_upto zero (first ∷ front) (next ∷ all) bytes rest after few long here there = absurd (omega (arith, few))
tail_upto (suc n) (first ∷ front) (next ∷ all) bytes rest after few long here there =
    let begins = first_stands here in
    let head = (front_constant first bytes _ begins.1.0 begins.1.1 begins.2).only next _ (first_stands there) in
    let here_behind = others_stand here in
    let there_behind = others_stand (subst (λ c. Stand bytes (c ∷ all) after) (sym head.0) there) in
    let some = (takes_places first begins.1.0).some in
    let few_behind = ap length here_behind.1 ∙ length-append (with_gap first) here_behind.0 in
    let long_behind = ap length there_behind.1 ∙ length-append (with_gap first) there_behind.0 in
    let tail = tail_upto n here_behind.0 there_behind.0 _ rest after (omega (arith, few, few_behind, some)) (omega (arith, long, few_behind, long_behind)) here_behind.2 (subst (λ bytes. Stand bytes there_behind.0 after) (sym head.1) there_behind.2) in
    (tail.0, ap (λ c. c ∷ all) (sym head.0) ∙ there_behind.1 ∙ ap (λ more. with_gap first ++ more) tail.1 ∙ sym (append_assoc (with_gap first) here_behind.0 tail.0) ∙ ap (λ front. front ++ tail.0) (sym here_behind.1), tail.2)

tail_stands : {bytes rest after : List ℕ} {front all : List Constant} → length front ≤ length all → Stand bytes front rest → Stand bytes all after → (tail : List Constant) × (all ≡ front ++ tail) × Stand rest tail after
tail_stands {bytes} {rest} {after} {front} {all} long here there = tail_upto (length front) front all bytes rest after (omega arith) long here there

-- what is said of so many constants is said of what stands there
stand : {count : ℕ} {bytes after : List ℕ} {all : List Constant} → BeginsWith (SpellsConstants count) bytes all after → Stand bytes all after
stand {count} {bytes} {after} {all} (first, spelled, split) = record { fit = spelled.fit; laid_out = spelled.laid_out; spelled = split ∙ ap (λ bytes. bytes ++ after) spelled.spelled }

-- as many others that stand there are the same
pub one_way : {bytes rest behind : List ℕ} {one other : List Constant} → length one ≡ length other → Stand bytes one rest → Stand bytes other behind → (one ≡ other) × (rest ≡ behind)
one_way {bytes} {rest} {behind} {one} {other} long here there =
    let tail = tail_stands (omega (arith, long)) here there in
    let none : tail.0 ≡ [] = nil_from_length tail.0 (omega (arith, ap length tail.1, length-append one tail.0, long)) in
    (sym (tail.1 ∙ ap (λ tail. one ++ tail) none ∙ append-nil one), tail.2.spelled ∙ ap (λ tail. flat_map constant_bytes tail ++ behind) none)

pub front_constants : {count : ℕ} {bytes rest : List ℕ} {constants : List Constant} → length constants ≡ count → Stand bytes constants rest → IsFront (SpellsConstants count) bytes constants rest
front_constants {count} {bytes} {rest} {constants} counted here = record {
  found = (flat_map constant_bytes constants, record { counted = counted; fit = here.fit; laid_out = here.laid_out; spelled = refl }, here.spelled);
  only = λ other behind there. one_way (counted ∙ sym there.1.counted) here (stand there);
}

-- where fewer are found than stand there, one more stands behind them, and there is room for it
pub next_stands : {count : ℕ} {bytes rest after : List ℕ} {front all : List Constant} → length front < count → Stand bytes front rest → BeginsWith (SpellsConstants count) bytes all after → (next : Constant) × (behind : List ℕ) × BeginsWith SpellsConstant rest next behind × (length front + length (with_gap next) ≤ count)
next_stands {count} {bytes} {rest} {after} {front} {all} few here there =
    let tail = tail_stands (omega (arith, there.1.counted, few)) here (stand there) in
    go tail.0 tail.1 tail.2
  where
    go : (tail : List Constant) → all ≡ front ++ tail → Stand rest tail after → (next : Constant) × (behind : List ℕ) × BeginsWith SpellsConstant rest next behind × (length front + length (with_gap next) ≤ count)
    go [] is left = absurd (omega (arith, ap length (is ∙ append-nil front), there.1.counted, few))
    go (next ∷ others) is left =
        let more = others_stand left in
        (next, _, first_stands left, omega (arith, ap length is, length-append front (next ∷ others), ap length more.1, length-append (with_gap next) more.0, there.1.counted))
