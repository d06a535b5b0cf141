-- Entries that are entered one after the other are the first ones.
use Rattle.std.proofs.Common.{◌≡◌, ◌∙◌, ap, refl, sym, true≢false, append_assoc, Bool, true, false, cond, ◌&&◌, ◌||◌, not, List, [], ◌∷◌, ◌++◌, filter}
use Rattle.std.specs.List.{list_any}
use Rattle.std.specs.Cmp.{first_so, second_so}
use Rattle.std.specs.Cmp.Lexicographic.{bytes_decides}
use Rattle.std.proofs.lemmas.List.{append-nil}
use Rattle.std.proofs.lemmas.List.Folds.{list_any-append}
use Rattle.cb_link.specs.Numbers.{same_name}
use Rattle.cb_load.specs.Names.{Entry}
use Rattle.cb_load.specs.Closure.{covers, firsts}
use Rattle.cb_load.specs.Inner.{entered, entered_all}

-- to enter the entries of two lists is to enter those of one, and then those of the other
pub entered_append : (entries one other : List Entry) → entered_all entries (one ++ other) ≡ entered_all (entered_all entries one) other
entered_append entries [] other = refl
entered_append entries (entry ∷ one) other = entered_append (entered entries entry) one other

-- one of the entries makes this one superfluous
abbrev pub hidden : List Entry → Entry → Bool
hidden entries entry = list_any (λ before. covers before entry) entries

both : (a b c d : Bool) → (a && (b || not c)) ≡ true → (c || not d) ≡ true → (a && (b || not d)) ≡ true
both true true c d one other = refl
both true false true d one other = absurd (true≢false (sym one))
both true false false d one other = other
both false b c d one other = one

-- what covers an entry covers what the entry covers
covers_more : (before entry later : Entry) → covers before entry ≡ true → covers entry later ≡ true → covers before later ≡ true
covers_more before entry later one other =
    let names : entry.name ≡ later.name = (bytes_decides entry.name later.name).0 (first_so (same_name entry.name later.name) (entry.needed || not later.needed) other) in
    both (same_name before.name later.name) before.needed entry.needed later.needed
    (ap (λ name. same_name before.name name && (before.needed || not entry.needed)) (sym names) ∙ one)
    (second_so (same_name entry.name later.name) (entry.needed || not later.needed) other)

hidden_more : (entries : List Entry) (entry later : Entry) → hidden entries entry ≡ true → covers entry later ≡ true → hidden entries later ≡ true
hidden_more [] entry later is covered = is
hidden_more (before ∷ entries) entry later is covered = go (covers before entry) refl is (λ is. hidden_more entries entry later is covered)
  where
    last : (test : Bool) → hidden entries later ≡ true → (test || hidden entries later) ≡ true
    last true is = refl
    last false is = is

    go : (test : Bool) → covers before entry ≡ test → (test || hidden entries entry) ≡ true → (hidden entries entry ≡ true → hidden entries later ≡ true)
        → (covers before later || hidden entries later) ≡ true
    go true told is next = ap (λ test. test || hidden entries later) (covers_more before entry later told covered)
    go false told is next = last (covers before later) (next is)

-- two filters are one
filter_both : (p q r : Entry → Bool) → ((entry : Entry) → (q entry && p entry) ≡ r entry) → (entries : List Entry)
    → filter p (filter q entries) ≡ filter r entries
filter_both p q r same [] = refl
filter_both p q r same (entry ∷ entries) = go (q entry) (same entry) (filter_both p q r same entries)
  where
    go : (test : Bool) → (test && p entry) ≡ r entry → filter p (filter q entries) ≡ filter r entries
        → filter p (cond test (entry ∷ filter q entries) (filter q entries)) ≡ cond (r entry) (entry ∷ filter r entries) (filter r entries)
    go true is rest = λ i. cond (is i) (entry ∷ rest i) (rest i)
    go false is rest = rest ∙ ap (λ test. cond test (entry ∷ filter r entries) (filter r entries)) is

-- those that none of the entries makes superfluous
abbrev kept : List Entry → List Entry → List Entry
kept entries more = filter (λ later. not (hidden entries later)) more

-- an entry that is superfluous leaves out nothing more
kept_old : (entries : List Entry) (entry : Entry) → hidden entries entry ≡ true → (more : List Entry)
    → kept entries (filter (λ later. not (covers entry later)) more) ≡ kept entries more
kept_old entries entry is more = filter_both _ _ _ (λ later. go later (covers entry later) refl) more
  where
    go : (later : Entry) (test : Bool) → covers entry later ≡ test → (not test && not (hidden entries later)) ≡ not (hidden entries later)
    go later true told = ap not (sym (hidden_more entries entry later is told))
    go later false told = refl

-- one that isn't leaves out what it covers
kept_new : (entries : List Entry) (entry : Entry) (more : List Entry)
    → kept entries (filter (λ later. not (covers entry later)) more) ≡ kept (entries ++ entry ∷ []) more
kept_new entries entry more = filter_both _ _ _ told more
  where
    neither : (covered hides : Bool) → (not covered && not hides) ≡ not (hides || (covered || false))
    neither true true = refl
    neither true false = refl
    neither false true = refl
    neither false false = refl

    told : (later : Entry) → (not (covers entry later) && not (hidden entries later)) ≡ not (hidden (entries ++ entry ∷ []) later)
    told later = neither (covers entry later) (hidden entries later) ∙ ap not (sym (list_any-append (λ before. covers before later) entries (entry ∷ [])))

all : (entries : List Entry) → filter (λ entry. true) entries ≡ entries
all [] = refl
all (entry ∷ entries) = ap (λ rest. entry ∷ rest) (all entries)

-- the first entries, without those that this one makes superfluous
abbrev fewer : Entry → List Entry → List Entry
fewer entry more = filter (λ later. not (covers entry later)) (firsts more)

-- entering adds the first entries, without those that are superfluous
entered_kept : (entries more : List Entry) → entered_all entries more ≡ entries ++ kept entries (firsts more)
entered_kept entries [] = sym (append-nil entries)
entered_kept entries (entry ∷ more) = go (hidden entries entry) refl (entered_kept entries more) (entered_kept (entries ++ entry ∷ []) more)
  where
    go : (test : Bool) → hidden entries entry ≡ test → entered_all entries more ≡ entries ++ kept entries (firsts more)
        → entered_all (entries ++ entry ∷ []) more ≡ (entries ++ entry ∷ []) ++ kept (entries ++ entry ∷ []) (firsts more)
        → entered_all (cond test entries (entries ++ entry ∷ [])) more ≡ entries ++ cond (not test) (entry ∷ kept entries (fewer entry more)) (kept entries (fewer entry more))
    go true told old new = old ∙ ap (λ rest. entries ++ rest) (sym (kept_old entries entry told (firsts more)))
    go false told old new =
        new ∙ append_assoc entries (entry ∷ []) (kept (entries ++ entry ∷ []) (firsts more))
        ∙ ap (λ rest. entries ++ (entry ∷ rest)) (sym (kept_new entries entry (firsts more)))

-- the first entries of a list are those that are entered
pub firsts_all : (entries : List Entry) → firsts entries ≡ entered_all [] entries
firsts_all entries = sym (entered_kept [] entries ∙ all (firsts entries))

pub entries_grow : (one other : List Entry) → firsts (one ++ other) ≡ entered_all (firsts one) other
entries_grow one other = firsts_all (one ++ other) ∙ entered_append [] one other ∙ ap (λ entries. entered_all entries other) (sym (firsts_all one))
