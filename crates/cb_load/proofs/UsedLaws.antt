-- Names that have been entered need not be entered again.
use Rattle.std.proofs.Common.{◌≡◌, ◌∙◌, ap, refl, sym, subst, true≢false, ◌==◌, Bool, true, false, cond, ◌&&◌, ◌||◌, not, List, [], ◌∷◌, ◌++◌}
use Rattle.std.specs.Bool.{beq}
use Rattle.std.specs.Cmp.{booleans_Decides, first_so, second_so}
use Rattle.std.specs.List.{list_any}
use Rattle.std.proofs.lemmas.Bool.{eqb-true}
use Rattle.std.proofs.lemmas.Cmp.{nat_list_eq_equiv}
use Rattle.std.proofs.lemmas.List.Folds.{list_any-append}
use Rattle.indexmap.specs.IndexSet.{insert_key}
use Rattle.cb_text.specs.declared.constant.Constant.{Constant}
use Rattle.cb_load.specs.declared.uses.Use.{Use}
use Rattle.cb_load.specs.Names.{Entry}
use Rattle.cb_load.specs.Closure.{covers}
use Rattle.cb_load.specs.Inner.{entered, entered_all}
use Rattle.cb_load.specs.InnerUses.{AreCovered, AreEntered, Enters, is_use, use_names}
use Rattle.cb_load.proofs.EnteredLaws.{hidden}

either : (a b : Bool) → a ≡ true → (a || b) ≡ true
either a b is = ap (λ test. test || b) is

-- what is covered stays so
one_more : (entries : List Entry) (new entry : Entry) → hidden entries entry ≡ true → hidden (entered entries new) entry ≡ true
one_more entries new entry is = go (hidden entries new)
  where
    go : (test : Bool) → hidden (cond test entries (entries ++ new ∷ [])) entry ≡ true
    go true = is
    go false = list_any-append (λ before. covers before entry) entries (new ∷ []) ∙ either (hidden entries entry) (covers new entry || false) is

stays : (entries more : List Entry) (entry : Entry) → hidden entries entry ≡ true → hidden (entered_all entries more) entry ≡ true
stays entries [] entry is = is
stays entries (new ∷ more) entry is = stays (entered entries new) more entry (one_more entries new entry is)

all_stay : (entries more names : List Entry) → AreCovered entries names → AreCovered (entered_all entries more) names
all_stay entries more [] are = are
all_stay entries more (entry ∷ names) are = (stays entries more entry are.0, all_stay entries more names are.1)

pub uses_stay : (pool : List Constant) (uses : List Use) (entries more new : List Entry) → new ≡ entered_all entries more → AreEntered pool uses entries → AreEntered pool uses new
uses_stay pool uses entries more new is are = subst (AreEntered pool uses) (sym is) (go uses are)
  where
    go : (uses : List Use) → AreEntered pool uses entries → AreEntered pool uses (entered_all entries more)
    go [] are = are
    go (usage ∷ uses) are = (all_stay entries more (use_names pool usage) are.0, go uses are.1)

-- an entry covers itself
itself : (entry : Entry) → covers entry entry ≡ true
itself entry = ap (λ test. test && (entry.needed || not entry.needed)) (nat_list_eq_equiv.refl entry.name) ∙ go entry.needed
  where
    go : (test : Bool) → (test || not test) ≡ true
    go true = refl
    go false = refl

is_hidden : (entries : List Entry) (entry : Entry) → hidden (entered entries entry) entry ≡ true
is_hidden entries entry = go (hidden entries entry) refl
  where
    last : (a b : Bool) → b ≡ true → (a || (b || false)) ≡ true
    last true b is = refl
    last false true is = refl
    last false false is = is

    go : (test : Bool) → hidden entries entry ≡ test → hidden (cond test entries (entries ++ entry ∷ [])) entry ≡ true
    go true told = told
    go false told = list_any-append (λ before. covers before entry) entries (entry ∷ []) ∙ last (hidden entries entry) (covers entry entry) (itself entry)

-- what was entered is covered
pub all_hidden : (entries names : List Entry) → AreCovered (entered_all entries names) names
all_hidden entries [] = tt
all_hidden entries (entry ∷ names) = (stays (entered entries entry) names entry (is_hidden entries entry), all_hidden (entered entries entry) names)

-- entering what is covered changes nothing
nothing_new : (entries names : List Entry) → AreCovered entries names → entered_all entries names ≡ entries
nothing_new entries [] are = refl
nothing_new entries (entry ∷ names) are =
    ap (λ test. entered_all (cond test entries (entries ++ entry ∷ [])) names) are.0 ∙ nothing_new entries names are.1

-- a use that isn't there goes last
pub added : (uses : List Use) (usage : Use) → list_any (is_use usage) uses ≡ false → insert_key is_use uses usage ≡ uses ++ usage ∷ []
added uses usage apart = ap (λ test. cond test uses (uses ++ usage ∷ [])) apart

same : (usage other : Use) → is_use usage other ≡ true → usage ≡ other
same usage other is =
    let back = second_so (usage.text == other.text) (beq usage.is_name other.is_name && beq usage.needed other.needed) is in
    let texts = eqb-true usage.text other.text (first_so (usage.text == other.text) (beq usage.is_name other.is_name && beq usage.needed other.needed) is) in
    let forms = (booleans_Decides usage.is_name other.is_name).0 (first_so (beq usage.is_name other.is_name) (beq usage.needed other.needed) back) in
    let flags = (booleans_Decides usage.needed other.needed).0 (second_so (beq usage.is_name other.is_name) (beq usage.needed other.needed) back) in
    λ i. record { text = texts i; is_name = forms i; needed = flags i }

-- the names of a use that is there are covered
there : (pool : List Constant) (usage : Use) (uses : List Use) (entries : List Entry) → list_any (is_use usage) uses ≡ true → AreEntered pool uses entries
    → AreCovered entries (use_names pool usage)
there pool usage [] entries is are = absurd (true≢false (sym is))
there pool usage (other ∷ uses) entries is are = go (is_use usage other) refl is (λ is. there pool usage uses entries is are.1)
  where
    go : (test : Bool) → is_use usage other ≡ test → (test || list_any (is_use usage) uses) ≡ true
        → (list_any (is_use usage) uses ≡ true → AreCovered entries (use_names pool usage)) → AreCovered entries (use_names pool usage)
    go true told is next = subst (λ usage. AreCovered entries (use_names pool usage)) (sym (same usage other told)) are.0
    go false told is next = next is

pub enters_old : (pool : List Constant) (usage : Use) (uses : List Use) (entries : List Entry) → list_any (is_use usage) uses ≡ true → AreEntered pool uses entries
    → Enters pool (use_names pool usage) entries uses entries
enters_old pool usage uses entries is are = record {
  entries = sym (nothing_new entries (use_names pool usage) (there pool usage uses entries is are));
  uses = are;
}

pub enters_new : (pool : List Constant) (usage : Use) (uses more : List Use) (old new : List Entry) → new ≡ entered_all old (use_names pool usage) → AreEntered pool uses old
    → more ≡ uses ++ usage ∷ [] → Enters pool (use_names pool usage) old more new
enters_new pool usage uses more old new is are grown = record {
  entries = is;
  uses = subst (λ uses. AreEntered pool uses new) (sym grown) (both uses (uses_stay pool uses old (use_names pool usage) new is are));
}
  where
    covered : AreCovered new (use_names pool usage)
    covered = subst (λ entries. AreCovered entries (use_names pool usage)) (sym is) (all_hidden old (use_names pool usage))

    both : (uses : List Use) → AreEntered pool uses new → AreEntered pool (uses ++ usage ∷ []) new
    both [] are = (covered, tt)
    both (other ∷ uses) are = (are.0, both uses are.1)
