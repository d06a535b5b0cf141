-- What the keys of the entries tell of them.
use Rattle.std.proofs.Common.{◌≡◌, ◌∙◌, ap, ap₂, refl, sym, true≢false, ℕ, Bool, true, false, cond, ◌&&◌, ◌||◌, not, List, [], ◌∷◌, ◌++◌, map, nat_eq}
use Rattle.std.specs.Bool.{beq}
use Rattle.std.specs.List.{list_any}
use Rattle.std.specs.Cmp.Lexicographic.{pointwise}
use Rattle.std.proofs.lemmas.Cmp.{nat_list_eq_equiv}
use Rattle.std.proofs.lemmas.List.{map-append}
use Rattle.indexmap.specs.IndexSet.{insert_key}
use Rattle.cb_link.specs.Numbers.{same_name}
use Rattle.cb_load.specs.declared.entries.Key.{Key}
use Rattle.cb_load.specs.Names.{Entry}
use Rattle.cb_load.specs.Closure.{covers}
use Rattle.cb_load.specs.Inner.{entered}
use Rattle.cb_load.specs.InnerEntering.{is_same, key_entry}

-- an entry is found by its key
pub found : (entry : Entry) (keys : List Key) → list_any (λ key. same_name entry.name key.name.items && beq entry.needed key.needed) keys ≡ list_any (is_same entry) (map key_entry keys)
found entry [] = refl
found entry (key ∷ keys) = ap (λ test. (same_name entry.name key.name.items && beq entry.needed key.needed) || test) (found entry keys)

told : (same here needed some none : Bool)
    → ((same && (here || not needed)) || (some || (not needed && none))) ≡ (((same && beq true here) || some) || (not needed && ((same && beq false here) || none)))
told false here needed some none = refl
told true true needed some none = refl
told true false true some none = refl
told true false false true none = refl
told true false false false none = refl

-- an entry is covered by the same as needed, and one that isn't needed by the same too
pub covered : (name : List ℕ) (needed : Bool) (entries : List Entry)
    → list_any (λ before. covers before (record { name = name; needed = needed })) entries
    ≡ (list_any (is_same (record { name = name; needed = true })) entries || (not needed && list_any (is_same (record { name = name; needed = false })) entries))
covered name true [] = refl
covered name false [] = refl
covered name needed (entry ∷ entries) =
    ap (λ test. (same_name entry.name name && (entry.needed || not needed)) || test) (covered name needed entries)
    ∙ ap (λ test. (test && (entry.needed || not needed)) || (some || (not needed && none))) (nat_list_eq_equiv.symm entry.name name)
    ∙ told (same_name name entry.name) entry.needed needed some none
  where
    some : Bool
    some = list_any (is_same (record { name = name; needed = true })) entries

    none : Bool
    none = list_any (is_same (record { name = name; needed = false })) entries

-- an entry that isn't covered isn't there
absent : (name : List ℕ) (needed : Bool) (entries : List Entry) → list_any (λ before. covers before (record { name = name; needed = needed })) entries ≡ false
    → list_any (is_same (record { name = name; needed = needed })) entries ≡ false
absent name needed entries apart = go needed (sym (covered name needed entries) ∙ apart)
  where
    some : Bool
    some = list_any (is_same (record { name = name; needed = true })) entries

    none : Bool
    none = list_any (is_same (record { name = name; needed = false })) entries

    one : (a b : Bool) → (a || (false && b)) ≡ false → a ≡ false
    one true b is = is
    one false b is = refl

    other : (a b : Bool) → (a || (true && b)) ≡ false → b ≡ false
    other true b is = absurd (true≢false is)
    other false b is = is

    go : (needed : Bool) → (some || (not needed && none)) ≡ false → list_any (is_same (record { name = name; needed = needed })) entries ≡ false
    go true is = one some none is
    go false is = other some none is

-- a key that isn't covered goes last, and so does its entry
pub inserted : (keys : List Key) (key : Key) → list_any (λ before. covers before (key_entry key)) (map key_entry keys) ≡ false
    → map key_entry (insert_key (λ one other. pointwise nat_eq one.name.items other.name.items && beq one.needed other.needed) keys key)
    ≡ entered (map key_entry keys) (key_entry key)
inserted keys key apart =
    ap (λ test. map key_entry (cond test keys (keys ++ key ∷ []))) (found (key_entry key) keys ∙ absent key.name.items key.needed (map key_entry keys) apart)
    ∙ map-append key_entry keys (key ∷ [])
    ∙ ap (λ test. cond test (map key_entry keys) (map key_entry keys ++ key_entry key ∷ [])) (sym apart)

-- the same by the two keys that are looked for
pub covered_by_keys : (name : List ℕ) (needed : Bool) (entries : List Entry)
    → list_any (λ before. covers before (record { name = name; needed = needed })) entries
    ≡ (list_any (is_same (record { name = name; needed = true })) entries || list_any (is_same (record { name = name; needed = needed })) entries)
covered_by_keys name needed entries = covered name needed entries ∙ by_needed needed
  where
    some : Bool
    some = list_any (is_same (record { name = name; needed = true })) entries

    both : (a b : Bool) → (a || (false && b)) ≡ (a || a)
    both true b = refl
    both false b = refl

    by_needed : (needed : Bool) → (some || (not needed && list_any (is_same (record { name = name; needed = false })) entries)) ≡ (some || list_any (is_same (record { name = name; needed = needed })) entries)
    by_needed true = both some (list_any (is_same (record { name = name; needed = false })) entries)
    by_needed false = refl

-- an entry that is there by either key changes nothing, and one that is there by neither isn't covered
pub kept_by : (name : List ℕ) (needed : Bool) (entries : List Entry) (first second : Bool) → first ≡ list_any (is_same (record { name = name; needed = true })) entries
    → second ≡ list_any (is_same (record { name = name; needed = needed })) entries → (first || second) ≡ true → entries ≡ entered entries (record { name = name; needed = needed })
kept_by name needed entries first second is also there =
    sym (ap (λ test. cond test entries (entries ++ record { name = name; needed = needed } ∷ [])) (covered_by_keys name needed entries ∙ sym (ap₂ (λ a b. a || b) is also) ∙ there))

pub free_of : (name : List ℕ) (needed : Bool) (entries : List Entry) → list_any (is_same (record { name = name; needed = true })) entries ≡ false
    → list_any (is_same (record { name = name; needed = needed })) entries ≡ false → list_any (λ before. covers before (record { name = name; needed = needed })) entries ≡ false
free_of name needed entries one other = covered_by_keys name needed entries ∙ ap₂ (λ a b. a || b) one other
