-- A pool and its indices, where one more constant is used.
use Rattle.std.proofs.Common.{◌≡◌, ◌∙◌, ap, sym, refl, subst, arith, ℕ, ◌+◌, Bool, true, false, cond, List, [], ◌∷◌, ◌++◌, length, Some, None, if◌then◌else◌, append_assoc}
use Rattle.std.specs.Prelude.{is_some, Result, Ok, Err, MatchResult}
use Rattle.std.specs.BTreeMap.{BTreeMap, get_by, is_at}
use Rattle.cb_text.specs.declared.constant.Constant.{Constant}
use Rattle.cb_text.specs.Pool.{IsPool, with_gap}
use Rattle.cb_asm_record.specs.declared.key.Key.{Key}
use Rattle.cb_asm_record.specs.declared.stop.Stop.{Stop}
use Rattle.cb_asm_record.specs.Constants.{constant_of, firsts, index_of, pool_of}
use Rattle.cb_asm_record.specs.Entries.{Entry, Text, Int, Long, Class, String, NameAndType, Member, same, with_parts}
use Rattle.cb_asm_record.specs.Inner.{ArePartsOf, Holds, IsHopeless, has, index_in, key_cmp, key_entry, parts_of}
use Rattle.cb_asm_record.proofs.Having.{has_append, right}
use Rattle.cb_asm_record.proofs.Keys.{keys_same}
use Rattle.cb_asm_record.proofs.Numbered.{closed_more, firsts_new, firsts_old, index_in_more, index_missing, pool_before, pool_kept, pool_more}

-- the index that was found, or that of the next
pub index_found : (used : List Entry) (pool : List Constant) (indices : BTreeMap Key ℕ) (key : Key) (index : ℕ) → Holds used pool indices
    → Some index ≡ get_by (key_cmp key) indices → index ≡ index_of (firsts used) (key_entry key)
index_found used pool indices key index holds is = go (has (firsts used) (key_entry key)) (is ∙ holds.found key)
  where
    go : (there : Bool) → Some index ≡ (if there then Some (index_of (firsts used) (key_entry key)) else None) → index ≡ index_of (firsts used) (key_entry key)
    go true found = cc
    go false found = absurd cc

pub index_next : (used : List Entry) (pool : List Constant) (indices : BTreeMap Key ℕ) (key : Key) (next : ℕ) → Holds used pool indices
    → None ≡ get_by (key_cmp key) indices → next ≡ length pool + 1 → next ≡ index_of (firsts used) (key_entry key)
index_next used pool indices key next holds is counted = go (has (firsts used) (key_entry key)) refl (is ∙ holds.found key)
  where
    go : (there : Bool) → has (firsts used) (key_entry key) ≡ there → None ≡ (if there then Some (index_of (firsts used) (key_entry key)) else None) → next ≡ index_of (firsts used) (key_entry key)
    go true told found = absurd cc
    go false told found = counted ∙ ap (λ constants. length constants + 1) holds.pooled ∙ sym (index_missing (firsts used) (key_entry key) told)

-- whether a constant is there
pub there_is : (used : List Entry) (pool : List Constant) (indices : BTreeMap Key ℕ) (key : Key) → Holds used pool indices
    → is_some (get_by (key_cmp key) indices) ≡ has (firsts used) (key_entry key)
there_is used pool indices key holds = ap is_some (holds.found key) ∙ go (has (firsts used) (key_entry key))
  where
    go : (there : Bool) → is_some (if there then Some (index_of (firsts used) (key_entry key)) else None) ≡ there
    go true = refl
    go false = refl

-- one that is there changes nothing
pub holds_old : (used : List Entry) (pool : List Constant) (indices : BTreeMap Key ℕ) (entry : Entry) → Holds used pool indices → ArePartsOf used entry
    → has (firsts used) entry ≡ true → Holds (used ++ entry ∷ []) pool indices
holds_old used pool indices entry holds parts there = record {
  pooled = holds.pooled ∙ ap pool_of (sym (firsts_old used entry there));
  found = λ key. holds.found key ∙ ap (λ entries. index_in entries (key_entry key)) (sym (firsts_old used entry there));
  closed = closed_more used entry holds.closed parts;
  made = holds.made;
}

-- and one that isn't stands last
pub holds_new : (used : List Entry) (pool after : List Constant) (indices later : BTreeMap Key ℕ) (key : Key) (constant : Constant) (index : ℕ)
    → Holds used pool indices → ArePartsOf used (key_entry key) → has (firsts used) (key_entry key) ≡ false → IsPool (pool ++ with_gap constant)
    → constant ≡ constant_of (firsts used) (key_entry key) → after ≡ pool ++ with_gap constant → index ≡ length pool + 1
    → ((other : Key) → get_by (key_cmp other) later ≡ cond (is_at (key_cmp key) other) (Some index) (get_by (key_cmp other) indices))
    → Holds (used ++ key_entry key ∷ []) after later
holds_new used pool after indices later key constant index holds parts new admitted is pushed counted updates = record {
  pooled =
      pushed
      ∙ ap (λ one. one ++ with_gap constant) holds.pooled
      ∙ ap (λ one. pool_of (firsts used) ++ with_gap one) is
      ∙ sym (pool_more used (key_entry key) holds.closed parts new);
  found = λ other.
      updates other
      ∙ ap (λ test. cond test (Some index) (get_by (key_cmp other) indices)) (keys_same key other)
      ∙ ap (λ rest. cond (same (key_entry key) (key_entry other)) (Some index) rest) (holds.found other)
      ∙ ap (λ one. cond (same (key_entry key) (key_entry other)) (Some one) (index_in (firsts used) (key_entry other))) (counted ∙ ap (λ constants. length constants + 1) holds.pooled)
      ∙ sym (index_in_more (firsts used) (key_entry key) (key_entry other) new)
      ∙ ap (λ entries. index_in entries (key_entry other)) (sym (firsts_new used (key_entry key) new));
  closed = closed_more used (key_entry key) holds.closed parts;
  made = subst IsPool (sym pushed) admitted;
}

-- one that the pool doesn't admit
pub hopeless : (used : List Entry) (pool : List Constant) (indices : BTreeMap Key ℕ) (entry : Entry) (constant : Constant) (stop : Stop)
    → Holds used pool indices → ArePartsOf used entry → has (firsts used) entry ≡ false → constant ≡ constant_of (firsts used) entry
    → ¬ IsPool (pool ++ with_gap constant) → IsHopeless (used ++ entry ∷ []) stop
hopeless used pool indices entry constant stop holds parts new is refused = λ _ more made.
    let closed = closed_more used entry holds.closed parts in
    let before = pool_before (used ++ entry ∷ []) _ closed (subst IsPool (pool_kept (used ++ entry ∷ []) more closed) made) in
    let same_pool : pool_of (firsts (used ++ entry ∷ [])) ≡ pool ++ with_gap constant =
    pool_more used entry holds.closed parts new
    ∙ ap (λ one. pool_of (firsts used) ++ with_gap one) (sym is)
    ∙ ap (λ one. one ++ with_gap constant) (sym holds.pooled) in
    refused (subst IsPool same_pool before)

pub hopeless_more : (used more : List Entry) (stop : Stop) → IsHopeless used stop → IsHopeless (used ++ more) stop
hopeless_more used more stop is = λ stopped rest made. is stopped (more ++ rest) (subst (λ all. IsPool (pool_of (firsts all))) (append_assoc used more rest) made)

pub hopeless_first : (used one other : List Entry) (stop : Stop) → IsHopeless (used ++ one) stop → IsHopeless (used ++ (one ++ other)) stop
hopeless_first used one other stop is = subst (λ all. IsHopeless all stop) (append_assoc used one other) (hopeless_more (used ++ one) other stop is)

-- one after the other
pub then_used : {Done : Type 0} (used one other : List Entry) (pool : List Constant) (indices : BTreeMap Key ℕ) (result : Result Done Stop)
    → MatchResult result (λ _. Holds ((used ++ one) ++ other) pool indices) (IsHopeless ((used ++ one) ++ other))
    → MatchResult result (λ _. Holds (used ++ (one ++ other)) pool indices) (IsHopeless (used ++ (one ++ other)))
then_used used one other pool indices (Ok done) is = subst (λ all. Holds all pool indices) (append_assoc used one other) is
then_used used one other pool indices (Err stop) is = subst (λ all. IsHopeless all stop) (append_assoc used one other) is

pub parts_before : (entry : Entry) → with_parts entry ≡ parts_of entry ++ entry ∷ []
parts_before (Text text) = refl
parts_before (Int number) = refl
parts_before (Long number) = refl
parts_before (Class name) = refl
parts_before (String text) = refl
parts_before (NameAndType name descriptor) = refl
parts_before (Member member) = refl

-- the parts of the constants of a field or method are there
pub no_parts : (used : List Entry) (text : List ℕ) → ArePartsOf used (Text text)
no_parts used text = λ part is. absurd (grind (arith, is))

pub class_part : (used : List Entry) (name : List ℕ) → ArePartsOf (used ++ Text name ∷ []) (Class name)
class_part used name = λ part is. has_append used (Text name ∷ []) part ∙ right (has used part) _ is

pub type_parts : (used : List Entry) (name descriptor : List ℕ) → ArePartsOf (used ++ Text name ∷ Text descriptor ∷ []) (NameAndType name descriptor)
type_parts used name descriptor = λ part is. has_append used (Text name ∷ Text descriptor ∷ []) part ∙ right (has used part) _ is

pub parts_there : (used : List Entry) (entry : Entry) → ArePartsOf (used ++ parts_of entry) entry
parts_there used entry = λ part is. has_append used (parts_of entry) part ∙ right (has used part) _ is
