-- UTF-16 that is written piece by piece, and the units of strings.
use Rattle.std.proofs.Common.{◌≡◌, ◌∙◌, ap, ap₂, arith, refl, sym, subst, ℕ, ◌-◌, ◌+◌, ◌<◌, ◌≤◌, ◌^◌, Bool, true, false, ◌&&◌, List, [], ◌∷◌, ◌++◌, drop, get_or, length, length-drop, take, Option, Some, suc, zero, append_assoc, append-nil, length-append}
use Rattle.std.proofs.KnownBytes.{Appends-nil}
use Rattle.std.proofs.Math.ListN.{set}
use Rattle.std.proofs.lemmas.Bool.Decides.{nat_tests}
use Rattle.std.proofs.lemmas.Grind.{flat_map-append}
use Rattle.std.proofs.lemmas.List.{drop-append-le, drop-drop, drop_all, get_or-drop, length-take-le, take-append-drop, take-take, take_all, take_more, take_more_set}
use Rattle.std.proofs.lemmas.Option.{get_or_from_slice_get, slice_get_within}
use Rattle.std.proofs.lemmas.Str.{utf16_chars-nil, utf16_chars_lone}
use Rattle.std.specs.Char.Utf16.{is_high_surrogate, is_low_surrogate, lone_unit_char, surrogate_pair_char, utf16_chars}
use Rattle.std.specs.Io.KnownBytes.{Appends}
use Rattle.std.specs.List.{flat_map}
use Rattle.std.specs.Prelude.{slice_get}
use Rattle.cb_io.proofs.Laws.{Appends-Appends}
use Rattle.cb_io.specs.Sink.{AppendsProperPrefix}
use Rattle.cb_io.specs.Utf8.{character_bytes, utf8}

-- ---- no pair of surrogates stands across

abbrev pub Pair : ℕ → ℕ → Type 0
Pair high low = (0xD800 ≤ high) × (high < 0xDC00) × (0xDC00 ≤ low) × (low < 0xE000)

abbrev pub Apart : List ℕ → List ℕ → Type 0
Apart front back = (last : ℕ) → length front ≡ last + 1 → Pair (get_or front last 0) (get_or back 0 0) → ⊥

behind : (unit : ℕ) (front back : List ℕ) → Apart (unit ∷ front) back → Apart front back
behind unit front back apart last size pair = apart (suc last) (omega (arith, size)) pair

joined : (front back : List ℕ) → Apart front back → utf16_chars (front ++ back) ≡ utf16_chars front ++ utf16_chars back
unfolding utf16_chars
joined [] back apart = refl
joined (unit ∷ []) back apart = utf16_chars_lone unit back (apart 0 (omega arith))
joined (high ∷ low ∷ front) back apart =
    go (is_high_surrogate high && is_low_surrogate low) refl (joined front back (behind low front back (behind high (low ∷ front) back apart)))
    (joined (low ∷ front) back (behind high (low ∷ front) back apart)) where
      go : (pair : Bool) → (is_high_surrogate high && is_low_surrogate low) ≡ pair → utf16_chars (front ++ back) ≡ utf16_chars front ++ utf16_chars back
          → utf16_chars (low ∷ (front ++ back)) ≡ utf16_chars (low ∷ front) ++ utf16_chars back
          → utf16_chars (high ∷ low ∷ (front ++ back)) ≡ utf16_chars (high ∷ low ∷ front) ++ utf16_chars back
      go true is further next = rw is (ap (λ (rest : List (Option ℕ)). Some (surrogate_pair_char high low) ∷ rest) further)
      go false is further next = rw is (ap (λ (rest : List (Option ℕ)). lone_unit_char high ∷ rest) next)

pub utf8_joined : (front back : List ℕ) → Apart front back → utf8 (front ++ back) ≡ utf8 front ++ utf8 back
utf8_joined front back apart = ap (flat_map character_bytes) (joined front back apart) ∙ flat_map-append character_bytes (utf16_chars front) (utf16_chars back)

-- ---- the front of a piece

head_of : (units rest : List ℕ) (place : ℕ) → place < length units → get_or (drop place units ++ rest) 0 0 ≡ get_or units place 0
head_of [] rest place low = absurd (omega (arith, low))
head_of (unit ∷ units) rest zero low = refl
head_of (unit ∷ units) rest (suc place) low = head_of units rest place (omega (arith, low))

high_below : (unit : ℕ) → is_high_surrogate unit ≡ true → unit < 0xDC00
high_below unit high = grind (arith, nat_tests, high)

not_high : (unit : ℕ) → is_high_surrogate unit ≡ false → 0xD800 ≤ unit → unit < 0xDC00 → ⊥
not_high unit low from below = grind (arith, nat_tests, low, from, below)

-- the first unit of a pair is left for the next piece
pub cut_high : (units : List ℕ) (place : ℕ) → place < length units → is_high_surrogate (get_or units place 0) ≡ true → (rest : List ℕ)
    → utf8 (units ++ rest) ≡ utf8 (take place units) ++ utf8 (drop place units ++ rest)
cut_high units place low high rest =
    ap (λ (front : List ℕ). utf8 (front ++ rest)) (sym (take-append-drop place units))
    ∙ ap utf8 (append_assoc (take place units) (drop place units) rest)
    ∙ utf8_joined (take place units) (drop place units ++ rest)
    (λ last size pair.
    let below : get_or units place 0 < 0xDC00 = high_below (get_or units place 0) high in
    let same : get_or (drop place units ++ rest) 0 0 ≡ get_or units place 0 = head_of units rest place low in
    omega (arith, pair.2, below, same))

-- or all is taken
whole_cut : (units rest : List ℕ) → utf8 (units ++ rest) ≡ utf8 units ++ utf8 rest
    → utf8 (units ++ rest) ≡ utf8 (take (length units) units) ++ utf8 (drop (length units) units ++ rest)
whole_cut units rest is =
    is ∙ ap₂ (λ (front back : List ℕ). utf8 front ++ utf8 (back ++ rest)) (sym (take_all (length units) units (omega arith))) (sym (drop_all (length units) units (omega arith)))

pub cut_whole : (units : List ℕ) (last : ℕ) → length units ≡ last + 1 → is_high_surrogate (get_or units last 0) ≡ false → (rest : List ℕ)
    → utf8 (units ++ rest) ≡ utf8 (take (length units) units) ++ utf8 (drop (length units) units ++ rest)
cut_whole units last size low rest =
    whole_cut units rest
    (utf8_joined units rest
    (λ place same pair.
    let own : place ≡ last = omega (arith, size, same) in
    let is : is_high_surrogate (get_or units place 0) ≡ false = ap (λ place. is_high_surrogate (get_or units place 0)) own ∙ low in
    not_high (get_or units place 0) is pair.0 pair.1))

pub cut_end : (units rest : List ℕ) → rest ≡ [] → utf8 (units ++ rest) ≡ utf8 (take (length units) units) ++ utf8 (drop (length units) units ++ rest)
cut_end units rest none =
    whole_cut units rest
    (ap (λ (rest : List ℕ). utf8 (units ++ rest)) none ∙ ap utf8 (append-nil units) ∙ sym (append-nil (utf8 units))
    ∙ ap (λ (rest : List ℕ). utf8 units ++ rest) (sym (ap (flat_map character_bytes) utf16_chars-nil)) ∙ ap (λ (rest : List ℕ). utf8 units ++ utf8 rest) (sym none))

-- one unit more of a text is copied
pub more_copied : (all piece : List ℕ) (from index unit : ℕ) → index < length piece → slice_get all (from + index) ≡ Some unit
    → take index piece ≡ take index (drop from all) → take (index + 1) (set piece index unit) ≡ take (index + 1) (drop from all)
more_copied all piece from index unit low at so_far =
    let within : from + index < length all = slice_get_within all (from + index) unit at in
    let fits : index < length (drop from all) = omega (arith, within, length-drop from all) in
    take_more_set piece index unit low
    ∙ ap (λ (front : List ℕ). front ++ unit ∷ []) so_far
    ∙ ap (λ (own : ℕ). take index (drop from all) ++ own ∷ []) (sym (get_or-drop from all index 0 ∙ get_or_from_slice_get all (from + index) unit 0 at))
    ∙ sym (take_more (drop from all) index 0 fits)

-- a text from a place on is its piece, and the text behind it
pub piece_so : (all piece : List ℕ) (from copied filled : ℕ) → take copied piece ≡ take copied (drop from all) → copied ≤ length piece → from + copied ≤ length all
    → filled ≤ length (take copied piece)
    → utf8 (take copied piece ++ drop (from + copied) all) ≡ utf8 (take filled (take copied piece)) ++ utf8 (drop filled (take copied piece) ++ drop (from + copied) all)
    → utf8 (drop from all) ≡ utf8 (take filled piece) ++ utf8 (drop (from + filled) all)
piece_so all piece from copied filled same fits within few cut =
    let size : length (take copied piece) ≡ copied = length-take-le copied piece fits in
    let whole : drop from all ≡ take copied piece ++ drop (from + copied) all =
    sym (take-append-drop copied (drop from all)) ∙ ap₂ (λ (front back : List ℕ). front ++ back) (sym same) (drop-drop copied from all) in
    ap utf8 whole ∙ cut
    ∙ ap₂ (λ (front back : List ℕ). utf8 front ++ utf8 back) (take-take filled copied piece (omega (arith, few, size)))
    (sym (drop-append-le filled (take copied piece) (drop (from + copied) all) few) ∙ ap (drop filled) (sym whole) ∙ drop-drop filled from all)

-- ---- a text that is written piece by piece

-- so far `done` of the bytes was taken, `rest` is left, and no call has failed
pub record Written (old new : Option (List ℕ)) (before now : ℕ) (bytes rest : List ℕ) : Type 0 where
  pub done : List ℕ
  pub whole : bytes ≡ done ++ rest
  pub taken : Appends old new done
  pub never_falls : before ≤ now
  pub unfailed : before < 2 ^ 64 - 1 → now ≤ before

pub written_none : (old : Option (List ℕ)) (before : ℕ) (bytes : List ℕ) → Written old old before before bytes bytes
written_none old before bytes = record { done = []; whole = refl; taken = Appends-nil old; never_falls = omega arith; unfailed = λ below. omega arith }

-- a whole piece at the front of the rest was taken, and left is left
pub written_piece : (old mid new : Option (List ℕ)) (before now later : ℕ) (bytes rest piece left : List ℕ) → Written old mid before now bytes rest → rest ≡ piece ++ left
    → Appends mid new piece → now ≤ later → (now < 2 ^ 64 - 1 → now < later → ⊥) → Written old new before later bytes left
written_piece old mid new before now later bytes rest piece left so_far is more rises none = record {
  done = so_far.done ++ piece;
  whole = so_far.whole ∙ ap (λ r. so_far.done ++ r) is ∙ sym (append_assoc so_far.done piece left);
  taken = Appends-Appends old mid new so_far.done piece so_far.taken more;
  never_falls = omega (arith, so_far.never_falls);
  unfailed = λ below. still below;
} where
  still : before < 2 ^ 64 - 1 → later ≤ before
  still below = let same : now ≤ before = so_far.unfailed below in omega (arith, none (omega arith))

-- of the piece at the front of the rest just a part was taken
pub written_part : (old mid new : Option (List ℕ)) (before now : ℕ) (bytes rest piece left : List ℕ) → Written old mid before now bytes rest → rest ≡ piece ++ left
    → AppendsProperPrefix mid new piece → AppendsProperPrefix old new bytes
written_part old mid new before now bytes rest piece left so_far is (front, more, prefix) = (
  so_far.done ++ front,
  Appends-Appends old mid new so_far.done front so_far.taken more,
  record {
    rest = prefix.rest ++ left;
    whole = so_far.whole ∙ ap (λ r. so_far.done ++ r) (is ∙ ap (λ p. p ++ left) prefix.whole ∙ append_assoc front prefix.rest left) ∙ sym (append_assoc so_far.done front (prefix.rest ++ left));
    proper = omega (arith, prefix.proper, length-append prefix.rest left);
  },
)

-- nothing is left
pub written_all : (old new : Option (List ℕ)) (before now : ℕ) (bytes rest : List ℕ) → Written old new before now bytes rest → rest ≡ [] → Appends old new bytes
written_all old new before now bytes rest so_far none =
    subst (λ bytes. Appends old new bytes) (sym (so_far.whole ∙ ap (λ r. so_far.done ++ r) none ∙ append-nil so_far.done)) so_far.taken

pub nothing_left : (units : List ℕ) (from : ℕ) → length units ≤ from → utf8 (drop from units) ≡ []
nothing_left units from past = ap utf8 (drop_all from units past) ∙ ap (flat_map character_bytes) utf16_chars-nil
