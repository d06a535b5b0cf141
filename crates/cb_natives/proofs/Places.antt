-- Where the library's table has no native: behind those of a class, and in classes without any.
use Rattle.std.proofs.Common.{◌≡◌, ◌∙◌, ap, arith, refl, subst, sym, ℕ, zero, suc, ◌+◌, ◌-◌, ◌≤◌, ◌==◌, ◌&&◌, ◌||◌, Bool, true, false, List, [], ◌∷◌, Option, None, option_and_then, slice_get}
use Rattle.std.proofs.lemmas.Bool.{false≢true}
use Rattle.std.specs.List.{list_all, list_any}
use Rattle.cb_library.specs.CoreClasses.{core_classes}
use Rattle.cb_library.specs.Rows.{CoreClass, Kind, Method, Performed}
use Rattle.cb_library.specs.declared.native.Native.{Native}
use Rattle.cb_machine.specs.Natives.{native_at, native_in}

-- ---- behind the natives of String

strings_from : (more : ℕ) → native_at 8 (suc (suc (suc (suc (suc (suc (suc (suc (suc (suc (suc (suc (suc (suc (suc (suc (suc (suc (suc (suc (suc (suc (suc more))))))))))))))))))))))) ≡ None
strings_from zero = refl
strings_from (suc zero) = refl
strings_from (suc (suc zero)) = refl
strings_from (suc (suc (suc more))) = refl

pub past_strings : (place : ℕ) → 23 ≤ place → native_at 8 place ≡ None
past_strings place far =
    let same : suc (suc (suc (suc (suc (suc (suc (suc (suc (suc (suc (suc (suc (suc (suc (suc (suc (suc (suc (suc (suc (suc (suc (place - 23))))))))))))))))))))))) ≡ place = omega (arith, far) in
    subst (λ (place : ℕ). native_at 8 place ≡ None) same (strings_from (place - 23))

-- ---- classes without natives

abbrev is_quiet : Kind → Bool
is_quiet (Performed native) = false
is_quiet other = true

abbrev pub listed : List ℕ
listed = 0 ∷ 8 ∷ 9 ∷ 10 ∷ 11 ∷ 12 ∷ 13 ∷ 15 ∷ 16 ∷ 17 ∷ 18 ∷ 19 ∷ 20 ∷ 22 ∷ []

abbrev pub is_listed : ℕ → Bool
is_listed class = list_any (λ number. class == number) listed

abbrev row_quiet : CoreClass → Bool
row_quiet row = list_all (λ (method : Method). is_quiet method.kind) row.methods

abbrev rows_quiet : ℕ → List CoreClass → Bool
rows_quiet number [] = true
rows_quiet number (row ∷ rows) = (is_listed number || row_quiet row) && rows_quiet (suc number) rows

all_quiet : rows_quiet 0 core_classes ≡ true
all_quiet = refl

both : (one other : Bool) → (one && other) ≡ true → (one ≡ true) × (other ≡ true)
both true other is = (refl, is)
both false other is = absurd (false≢true is)

either : (one other : Bool) → (one || other) ≡ true → one ≡ false → other ≡ true
either true other is none = absurd (false≢true (sym none))
either false other is none = is

abbrev native_of_row : ℕ → CoreClass → Option Native
native_of_row place row = option_and_then (λ method. native_in method.kind) (slice_get row.methods place)

kind_none : (kind : Kind) → is_quiet kind ≡ true → native_in kind ≡ None
kind_none (Performed native) is = absurd (false≢true is)
kind_none other is = refl

methods_none : (methods : List Method) (place : ℕ) → list_all (λ (method : Method). is_quiet method.kind) methods ≡ true
    → option_and_then (λ (method : Method). native_in method.kind) (slice_get methods place) ≡ None
methods_none [] place quiet = refl
methods_none (method ∷ methods) zero quiet = kind_none method.kind (both (is_quiet method.kind) _ quiet).0
methods_none (method ∷ methods) (suc place) quiet = methods_none methods place (both (is_quiet method.kind) _ quiet).1

rows_none : (rows : List CoreClass) (number class place : ℕ) → rows_quiet number rows ≡ true → is_listed (number + class) ≡ false
    → option_and_then (native_of_row place) (slice_get rows class) ≡ None
rows_none [] number class place quiet none = refl
rows_none (row ∷ rows) number zero place quiet none =
    let same : number + zero ≡ number = omega arith in
    methods_none row.methods place
    (either (is_listed number) (row_quiet row) (both (is_listed number || row_quiet row) (rows_quiet (suc number) rows) quiet).0 (sym (ap is_listed same) ∙ none))
rows_none (row ∷ rows) number (suc class) place quiet none =
    let same : number + suc class ≡ suc number + class = omega arith in
    rows_none rows (suc number) class place (both (is_listed number || row_quiet row) (rows_quiet (suc number) rows) quiet).1 (sym (ap is_listed same) ∙ none)

pub none_elsewhere : (class place : ℕ) → is_listed class ≡ false → native_at class place ≡ None
none_elsewhere class place none =
    let same : 0 + class ≡ class = omega arith in rows_none core_classes 0 class place all_quiet (ap is_listed same ∙ none)
