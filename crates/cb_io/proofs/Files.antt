-- What the files of a map from paths are at a path.
use Rattle.std.proofs.Common.{◌≡◌, ℕ, Bool, true, false, cond, List, [], ◌∷◌, map, Option, None, Some, refl, sym, ◌∙◌, ap, String, Vec, Bor}
use Rattle.std.specs.Option.{option_map, option_copied}
use Rattle.std.specs.Ordering.{nat_cmp}
use Rattle.std.specs.Cmp.{eq_by_cmp_equiv}
use Rattle.std.specs.Cmp.Lexicographic.{slice_cmp}
use Rattle.std.specs.FinMap.{find, get, insert, get-from_entries, get-insert, same_map, slice_cmp-IsAntisymmetric, nat_cmp-IsAntisymmetric}
use Rattle.std.specs.Map.{lookup, update}
use Rattle.std.specs.Str.{bytes_eq}
use Rattle.std.specs.BTreeMap.{BTreeMap, is_at, get_by_text}
use Rattle.std.specs.String.{string_bytes}
use Rattle.std.specs.declared.alloc.Global.{Global}
use Rattle.std.proofs.lemmas.Cmp.{nat_list_cmp_total}
use Rattle.std.proofs.lemmas.Map.Text.{text_cmp, is_eq-slice_cmp}
use Rattle.cb_io.specs.Folder.{Files, files_of}

-- a path is found among the files as it is among the entries
find_path : (es : List (String Global × Vec ℕ Global)) (path : List ℕ) → find (slice_cmp nat_cmp) path (map (λ e. (string_bytes e.0, e.1.items)) es) ≡ option_map (λ v. v.items) (lookup (is_at (text_cmp path)) es)
find_path [] path = refl
find_path (e ∷ es) path =
    elim (is_at (text_cmp path) e.0) as (λ b. cond b (Some e.1.items) (find (slice_cmp nat_cmp) path (map (λ e. (string_bytes e.0, e.1.items)) es)) ≡ option_map (λ v. v.items) (cond b (Some e.1) (lookup (is_at (text_cmp path)) es))) [ true ↦ refl | false ↦ find_path es path ]

-- the file at a path
pub get_file : (kept : BTreeMap (String Global) (Vec ℕ Global)) (path : List ℕ) → get (files_of kept) path ≡ option_map (λ v. v.items) (get_by_text kept path)
get_file kept path = get-from_entries nat_list_cmp_total _ path ∙ find_path kept.entries path

-- maps that differ at one path have files that differ there
pub one_put : (old new : BTreeMap (String Global) (Vec ℕ Global)) (path : List ℕ) (bytes : Vec ℕ Global) → ((q : List ℕ) → get_by_text new q ≡ update bytes_eq (get_by_text old) path (Some bytes) q) → files_of new ≡ insert (files_of old) path bytes.items
one_put old new path bytes h = same_map nat_list_cmp_total (slice_cmp-IsAntisymmetric nat_cmp-IsAntisymmetric) _ _ (λ q.
    get_file new q ∙ ap (option_map (λ v. v.items)) (h q) ∙ picked q
    ∙ sym (get-insert nat_list_cmp_total (files_of old) path bytes.items q ∙ ap (cond (is_at (slice_cmp nat_cmp q) path) (Some bytes.items)) (get_file old q))) where
      same : (q : List ℕ) → bytes_eq path q ≡ is_at (slice_cmp nat_cmp q) path
      same q = sym (is_eq-slice_cmp path q) ∙ (eq_by_cmp_equiv nat_list_cmp_total).symm path q

      mapped : (b : Bool) (q : List ℕ) → option_map (λ v. v.items) (cond b (Some bytes) (get_by_text old q)) ≡ cond b (Some bytes.items) (option_map (λ v. v.items) (get_by_text old q))
      mapped true q = refl
      mapped false q = refl

      picked : (q : List ℕ) → option_map (λ v. v.items) (update bytes_eq (get_by_text old) path (Some bytes) q) ≡ cond (is_at (slice_cmp nat_cmp q) path) (Some bytes.items) (option_map (λ v. v.items) (get_by_text old q))
      picked q = mapped (bytes_eq path q) q ∙ ap (λ b. cond b (Some bytes.items) (option_map (λ v. v.items) (get_by_text old q))) (same q)

-- what a look-up by path finds is the file there
pub file_read : (kept : BTreeMap (String Global) (Vec ℕ Global)) (files : Files) (path : List ℕ) (result found : Option (Bor (Vec ℕ Global))) → files_of kept ≡ files → option_copied result ≡ get_by_text kept path → result ≡ found → get files path ≡ option_map (λ bytes. bytes.now.items) found
file_read kept files path result found view value is =
    ap (λ m. get m path) (sym view) ∙ get_file kept path ∙ ap (option_map (λ v. v.items)) (sym value ∙ ap option_copied is) ∙ behind found where
      behind : (found : Option (Bor (Vec ℕ Global))) → option_map (λ v. v.items) (option_copied found) ≡ option_map (λ bytes. bytes.now.items) found
      behind None = refl
      behind (Some bytes) = refl
