-- Names in a set.
use Rattle.std.proofs.Common.{◌≡◌, ℕ, Bool, true, false, ◌||◌, ◌+◌, ◌<◌, List, [], ◌∷◌, ◌++◌, length, take, get_or, map, Vec, refl, sym, ap, ◌∙◌}
use Rattle.std.specs.BTreeMap.{is_at}
use Rattle.std.specs.BTreeSet.{insert_key}
use Rattle.std.specs.Cmp.Lexicographic.{slice_cmp}
use Rattle.std.specs.List.{AllZip, list_any}
use Rattle.std.specs.Ordering.{is_eq, match_ordering, nat_cmp}
use Rattle.std.specs.Str.{bytes_eq}
use Rattle.std.specs.declared.alloc.Global.{Global}
use Rattle.std.specs.declared.cmp.Ordering.{Ordering}
use Rattle.std.specs.declared.cmp.Ordering.TheVariants.{Less, Equal, Greater}
use Rattle.std.proofs.lemmas.List.{take_more}
use Rattle.std.proofs.lemmas.List.Folds.{list_any-append}
use Rattle.std.proofs.lemmas.Map.Text.{is_eq-slice_cmp}
use Rattle.std.proofs.lemmas.Slice.Eq.{bytes_eq-Decides}
use Rattle.cb_classfile.specs.declared.class.ClassFile.{ClassFile}
use Rattle.cb_classfile.specs.Library.{IsRecordOf}
use Rattle.cb_library.specs.Rows.{CoreClass}
use Rattle.cb_link.specs.Numbers.{same_name, is_named, is_own}

-- a set finds a name among its keys
pub found_at : (name : List ℕ) (keys : List (Vec ℕ Global)) → list_any (is_at (λ key. slice_cmp nat_cmp name key.items)) keys ≡ list_any (same_name name) (map (λ key. key.items) keys)
found_at name [] = refl
found_at name (key ∷ keys) = λ i. is_eq-slice_cmp name key.items i || found_at name keys i

or_swap : (one other rest : Bool) → (one || (other || rest)) ≡ (other || (one || rest))
or_swap true true rest = refl
or_swap true false rest = refl
or_swap false true rest = refl
or_swap false false rest = refl

or_twice : (one rest : Bool) → (one || rest) ≡ (one || (one || rest))
or_twice true rest = refl
or_twice false rest = refl

or_end : (one rest : Bool) → (one || rest) ≡ (rest || (one || false))
or_end true true = refl
or_end true false = refl
or_end false true = refl
or_end false false = refl

-- a key goes in at its place
placed : (name : List ℕ) (key first : Vec ℕ Global) (keys more : List (Vec ℕ Global)) (order : Ordering) → slice_cmp nat_cmp key.items first.items ≡ order
    → list_any (same_name name) (map (λ key. key.items) more) ≡ (same_name name key.items || list_any (same_name name) (map (λ key. key.items) keys))
    → list_any (same_name name) (map (λ key. key.items) (match_ordering order (key ∷ first ∷ keys) (first ∷ keys) (first ∷ more))) ≡ (same_name name key.items || list_any (same_name name) (map (λ key. key.items) (first ∷ keys)))
placed name key first keys more Less is below = refl
placed name key first keys more Equal is below =
    let equal : bytes_eq key.items first.items ≡ true = sym (is_eq-slice_cmp key.items first.items) ∙ ap is_eq is in
    let same : key.items ≡ first.items = (bytes_eq-Decides key.items first.items).0 equal in
    or_twice (same_name name first.items) (list_any (same_name name) (map (λ key. key.items) keys)) ∙ ap (λ (items : List ℕ). same_name name items || (same_name name first.items || list_any (same_name name) (map (λ key. key.items) keys))) (sym same)
placed name key first keys more Greater is below =
    ap (λ (b : Bool). same_name name first.items || b) below ∙ or_swap (same_name name first.items) (same_name name key.items) (list_any (same_name name) (map (λ key. key.items) keys))

pub inserted : (name : List ℕ) (key : Vec ℕ Global) (keys : List (Vec ℕ Global)) → list_any (same_name name) (map (λ key. key.items) (insert_key (λ one other. slice_cmp nat_cmp one.items other.items) keys key)) ≡ (same_name name key.items || list_any (same_name name) (map (λ key. key.items) keys))
inserted name key [] = refl
inserted name key (first ∷ keys) = placed name key first keys (insert_key (λ one other. slice_cmp nat_cmp one.items other.items) keys key) _ refl (inserted name key keys)

-- the records of rows have the names of the rows
pub names_of_rows : (name : List ℕ) (rows : List CoreClass) (classes : List ClassFile) → AllZip IsRecordOf rows classes → list_any (is_named name) classes ≡ list_any (λ row. same_name name row.name) rows
names_of_rows name [] [] are = refl
names_of_rows name [] (class ∷ classes) are = absurd are
names_of_rows name (row ∷ rows) [] are = absurd are
names_of_rows name (row ∷ rows) (class ∷ classes) are = λ i. is_own name (are.0.name i) || names_of_rows name rows classes are.1 i

-- the names of one class more
pub named_more : (classes : List ClassFile) (index : ℕ) (class : ClassFile) (has more : List (List ℕ)) → index < length classes → class ≡ get_or classes index class
    → ((name : List ℕ) → list_any (same_name name) has ≡ list_any (is_named name) (take index classes)) → ((name : List ℕ) → list_any (same_name name) more ≡ (is_named name class || list_any (same_name name) has))
    → (name : List ℕ) → list_any (same_name name) more ≡ list_any (is_named name) (take (index + 1) classes)
named_more classes index class has more within at so grown name =
    grown name ∙ ap (λ b. is_named name class || b) (so name) ∙ or_end (is_named name class) (list_any (is_named name) (take index classes))
    ∙ sym (ap (list_any (is_named name)) (take_more classes index class within ∙ ap (λ next. take index classes ++ next ∷ []) (sym at)) ∙ list_any-append (is_named name) (take index classes) (class ∷ []))
