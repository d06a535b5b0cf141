-- The instructions from dup to dup2_x2, pop, pop2 and swap, by the blocks that they move, over any items; and what they leave of a stack that is typed.
use Rattle.std.proofs.Common.{◌≡◌, ◌∙◌, ◌⊎◌, inl, inr, arith, sym, refl, subst, subst₂, List, [], ◌∷◌, ◌++◌, Option, Some, None, option_and_then, option_map}
use Rattle.std.proofs.lemmas.Option.{option_and_then_some, some_pair_parts}
use Rattle.cb_machine.specs.Values.{category_of_value}
use Rattle.cb_plain.specs.declared.value.Value.{Value}
use Rattle.cb_shapes.specs.Shuffles.{shuffled}
use Rattle.cb_shapes.specs.declared.shuffle.Shuffle.{Shuffle}
use Rattle.cb_shapes.specs.declared.shuffle.Shuffle.TheVariants.{Pop, Pop2, DupX1, DupX2, Dup2, Dup2X1, Dup2X2, Swap}
use Rattle.cb_shapes.specs.declared.sort.Category.{Category}
use Rattle.cb_shapes.specs.declared.sort.Category.TheVariants.{One, Two}
use Rattle.cb_verify.specs.declared.verification_type.VerificationType.{VerificationType}
use Rattle.cb_verify.specs.declared.verification_type.VerificationType.TheVariants.{Top}
use Rattle.cb_verify.specs.Types.{category as category_of_type, words}
use Rattle.cb_verify.specs.Within.{Within}
use Rattle.cb_safety.specs.Held.{HasType, IsStack, words_in}
use Rattle.cb_safety.specs.Kinds.{Kinds}
use Rattle.cb_safety.proofs.Assigned.{mapped, never}

-- ---- blocks

-- a block takes one word or two: one item of category two, or two of category one. Each instruction takes one of a size off a stack, and
-- then, but for four of them, another one below it, and puts back what is arranged of the two
abbrev wanted : Shuffle → Category
wanted Pop2 = Two
wanted Dup2 = Two
wanted Dup2X1 = Two
wanted Dup2X2 = Two
wanted shuffle = One

abbrev under : Shuffle → Option Category
under Swap = Some One
under DupX1 = Some One
under DupX2 = Some Two
under Dup2X1 = Some One
under Dup2X2 = Some Two
under shuffle = None

abbrev arranged : {Item : Type 0} → Shuffle → List Item → List Item → List Item
arranged Pop top low = []
arranged Pop2 top low = []
arranged Swap top low = low ++ top
arranged shuffle top low = top ++ low ++ top

cases : (found : Option Category) → ((found ≡ None) ⊎ (found ≡ Some One)) ⊎ (found ≡ Some Two)
cases None = inl (inl refl)
cases (Some One) = inl (inr refl)
cases (Some Two) = inr refl

module _ {Item : Type 0} (category : Item → Option Category) where
  abbrev two_of : Option Category → Item → Item → List Item → Option (List Item × List Item)
  two_of (Some One) one two rest = Some (one ∷ two ∷ [], rest)
  two_of found one two rest = None

  abbrev with_next : Item → List Item → Option (List Item × List Item)
  with_next item [] = None
  with_next item (next ∷ rest) = two_of (category next) item next rest

  abbrev block_of : Category → Option Category → Item → List Item → Option (List Item × List Item)
  block_of One (Some One) item rest = Some (item ∷ [], rest)
  block_of Two (Some Two) item rest = Some (item ∷ [], rest)
  block_of Two (Some One) item rest = with_next item rest
  block_of size found item rest = None

  abbrev block : Category → List Item → Option (List Item × List Item)
  block size [] = None
  block size (item ∷ rest) = block_of size (category item) item rest

  abbrev block_under : Option Category → List Item → Option (List Item × List Item)
  block_under None items = Some ([], items)
  block_under (Some size) items = block size items

  abbrev by_blocks : Shuffle → List Item → Option (List Item)
  by_blocks shuffle items =
      option_and_then (λ top. option_map (λ low. arranged shuffle top.0 low.0 ++ low.1) (block_under (under shuffle) top.1)) (block (wanted shuffle) items)

  -- what they do is what is done by blocks
  whole : (shuffle : Shuffle) (items : List Item) → shuffled category shuffle items ≡ by_blocks shuffle items
  whole shuffle [] = refl
  whole Pop (a ∷ []) = grind (arith, cases (category a))
  whole shuffle (a ∷ []) = grind (arith, cases (category a))
  whole Pop (a ∷ b ∷ []) = grind (arith, cases (category a), cases (category b))
  whole shuffle (a ∷ b ∷ []) = grind (arith, cases (category a), cases (category b))
  whole Pop (a ∷ b ∷ c ∷ []) = grind (arith, cases (category a), cases (category b), cases (category c))
  whole shuffle (a ∷ b ∷ c ∷ []) = grind (arith, cases (category a), cases (category b), cases (category c))
  whole Pop (a ∷ b ∷ c ∷ d ∷ rest) = grind (arith, cases (category a), cases (category b), cases (category c), cases (category d))
  whole shuffle (a ∷ b ∷ c ∷ d ∷ rest) = grind (arith, cases (category a), cases (category b), cases (category c), cases (category d))

  block_single : (size : Category) (item : Item) (rest : List Item) → category item ≡ Some size → block size (item ∷ rest) ≡ Some (item ∷ [], rest)
  block_single One item rest is = rw is refl
  block_single Two item rest is = rw is refl

  block_double : (one two : Item) (rest : List Item) → category one ≡ Some One → category two ≡ Some One → block Two (one ∷ two ∷ rest) ≡ Some (one ∷ two ∷ [], rest)
  block_double one two rest is also = rw (is, also) refl

  blocks_made : (shuffle : Shuffle) (items top rest low more : List Item) → block (wanted shuffle) items ≡ Some (top, rest)
      → block_under (under shuffle) rest ≡ Some (low, more) → by_blocks shuffle items ≡ Some (arranged shuffle top low ++ more)
  blocks_made shuffle items top rest low more is also = rw (is, also) refl

  blocks_parts : {P : Type 0} (shuffle : Shuffle) (items result : List Item) → by_blocks shuffle items ≡ Some result
      → ((top rest low more : List Item) → block (wanted shuffle) items ≡ Some (top, rest) → block_under (under shuffle) rest ≡ Some (low, more)
      → (arranged shuffle top low ++ more) ≡ result → P) → P
  blocks_parts shuffle items result is follows =
      option_and_then_some (λ (top : List Item × List Item). option_map (λ (low : List Item × List Item). arranged shuffle top.0 low.0 ++ low.1) (block_under (under shuffle) top.1))
      (block (wanted shuffle) items) result is
      (λ top found more. mapped (λ (low : List Item × List Item). arranged shuffle top.0 low.0 ++ low.1) (block_under (under shuffle) top.1) result more
      (λ low also done. follows top.0 top.1 low.0 low.1 found also done))

-- ---- typed stacks

-- items of a stack that are typed, of which each is known
data Piece (method : Within) (kinds : Kinds) : List VerificationType → List Value → Type 0 where
  Ends : Piece method kinds [] []
  More : (type : VerificationType) → (value : Value) → (types : List VerificationType) → (held : List Value) →
      HasType method kinds type value → words type ≡ words_in value → Piece method kinds types held → Piece method kinds (type ∷ types) (value ∷ held)

piece_append : (method : Within) (kinds : Kinds) (types others : List VerificationType) (held more : List Value)
    → Piece method kinds types held → Piece method kinds others more → Piece method kinds (types ++ others) (held ++ more)
piece_append method kinds types others held more Piece.Ends also = also
piece_append method kinds types others held more (Piece.More type value rest values has same piece) also =
    Piece.More type value (rest ++ others) (values ++ more) has same (piece_append method kinds rest others values more piece also)

piece_upon : (method : Within) (kinds : Kinds) (types others : List VerificationType) (held stack : List Value)
    → Piece method kinds types held → IsStack method kinds others stack → IsStack method kinds (types ++ others) (held ++ stack)
piece_upon method kinds types others held stack Piece.Ends is = is
piece_upon method kinds types others held stack (Piece.More type value rest values has same piece) is =
    IsStack.Upon type value (rest ++ others) (values ++ stack) has same (piece_upon method kinds rest others values stack piece is)

piece_arranged : (method : Within) (kinds : Kinds) (shuffle : Shuffle) (top low : List VerificationType) (held kept : List Value)
    → Piece method kinds top held → Piece method kinds low kept → Piece method kinds (arranged shuffle top low) (arranged shuffle held kept)
piece_arranged method kinds Pop top low held kept piece also = Piece.Ends
piece_arranged method kinds Pop2 top low held kept piece also = Piece.Ends
piece_arranged method kinds Swap top low held kept piece also = piece_append method kinds low top kept held also piece
piece_arranged method kinds shuffle top low held kept piece also =
    piece_append method kinds (top ++ low) top (held ++ kept) held (piece_append method kinds top low held kept piece also) piece

-- a value of a type that has a category is of the category
categorised : (method : Within) (kinds : Kinds) (type : VerificationType) (value : Value) (size : Category) → HasType method kinds type value
    → category_of_type type ≡ Some size → category_of_value value ≡ Some size
categorised method kinds type value size (HasType.Unknown own known) is = never is
categorised method kinds type value size has is = is

-- a block of types lies over one of values
record Block (method : Within) (kinds : Kinds) (found : Option (List Value × List Value)) (top rest : List VerificationType) : Type 0 where
  pub values : List Value
  pub left : List Value
  pub lies : found ≡ Some (values, left)
  pub piece : Piece method kinds top values
  pub below : IsStack method kinds rest left

moved : (method : Within) (kinds : Kinds) (found : Option (List Value × List Value)) (one two top rest : List VerificationType)
    → ◌≡◌ {A = Option (List VerificationType × List VerificationType)} (Some (one, two)) (Some (top, rest)) → Block method kinds found one two → Block method kinds found top rest
moved method kinds found one two top rest is lies =
    let parts = some_pair_parts one top two rest is in subst₂ (λ (own more : List VerificationType). Block method kinds found own more) parts.0 parts.1 lies

single : (method : Within) (kinds : Kinds) (size : Category) (type : VerificationType) (value : Value) (types : List VerificationType) (stack : List Value)
    → HasType method kinds type value → words type ≡ words_in value → category_of_type type ≡ Some size → IsStack method kinds types stack
    → Block method kinds (block category_of_value size (value ∷ stack)) (type ∷ []) types
single method kinds size type value types stack has same is typed = record {
  values = value ∷ [];
  left = stack;
  lies = block_single category_of_value size value stack (categorised method kinds type value size has is);
  piece = Piece.More type value [] [] has same Piece.Ends;
  below = typed;
}

double : (method : Within) (kinds : Kinds) (type next : VerificationType) (value held : Value) (types : List VerificationType) (stack : List Value) (top rest : List VerificationType)
    → HasType method kinds type value → words type ≡ words_in value → category_of_type type ≡ Some One
    → HasType method kinds next held → words next ≡ words_in held → IsStack method kinds types stack
    → (found : Option Category) → category_of_type next ≡ found → two_of category_of_type found type next types ≡ Some (top, rest)
    → Block method kinds (block category_of_value Two (value ∷ held ∷ stack)) top rest
double method kinds type next value held types stack top rest has same is own fits typed (Some One) also some =
    moved method kinds (block category_of_value Two (value ∷ held ∷ stack)) (type ∷ next ∷ []) types top rest some (record {
      values = value ∷ held ∷ [];
      left = stack;
      lies = block_double category_of_value value held stack (categorised method kinds type value One has is) (categorised method kinds next held One own also);
      piece = Piece.More type value (next ∷ []) (held ∷ []) has same (Piece.More next held [] [] own fits Piece.Ends);
      below = typed;
    })
double method kinds type next value held types stack top rest has same is own fits typed found also some = never some

next_lies : (method : Within) (kinds : Kinds) (type : VerificationType) (value : Value) (types : List VerificationType) (stack : List Value) (top rest : List VerificationType)
    → HasType method kinds type value → words type ≡ words_in value → category_of_type type ≡ Some One → IsStack method kinds types stack
    → with_next category_of_type type types ≡ Some (top, rest) → Block method kinds (block category_of_value Two (value ∷ stack)) top rest
next_lies method kinds type value types stack top rest has same is IsStack.Empty some = never some
next_lies method kinds type value types stack top rest has same is (IsStack.Upon next held others below own fits typed) some =
    double method kinds type next value held others below top rest has same is own fits typed (category_of_type next) refl some
next_lies method kinds type value types stack top rest has same is (IsStack.Halves number others below typed) some = never some

block_lies : (method : Within) (kinds : Kinds) (size : Category) (type : VerificationType) (value : Value) (types : List VerificationType) (stack : List Value) (top rest : List VerificationType)
    → HasType method kinds type value → words type ≡ words_in value → IsStack method kinds types stack
    → (found : Option Category) → category_of_type type ≡ found → block_of category_of_type size found type types ≡ Some (top, rest)
    → Block method kinds (block category_of_value size (value ∷ stack)) top rest
block_lies method kinds One type value types stack top rest has same typed (Some One) is some =
    moved method kinds _ (type ∷ []) types top rest some (single method kinds One type value types stack has same is typed)
block_lies method kinds Two type value types stack top rest has same typed (Some Two) is some =
    moved method kinds _ (type ∷ []) types top rest some (single method kinds Two type value types stack has same is typed)
block_lies method kinds Two type value types stack top rest has same typed (Some One) is some = next_lies method kinds type value types stack top rest has same is typed some
block_lies method kinds size type value types stack top rest has same typed found is some = never some

no_block : {P : Type 0} (size : Category) (types top rest : List VerificationType) → block category_of_type size (Top ∷ types) ≡ Some (top, rest) → P
no_block One types top rest some = never some
no_block Two types top rest some = never some

block_typed : (method : Within) (kinds : Kinds) (size : Category) (types : List VerificationType) (stack : List Value) (top rest : List VerificationType)
    → IsStack method kinds types stack → block category_of_type size types ≡ Some (top, rest) → Block method kinds (block category_of_value size stack) top rest
block_typed method kinds size types stack top rest IsStack.Empty some = never some
block_typed method kinds size types stack top rest (IsStack.Upon type value others below has same is) some =
    block_lies method kinds size type value others below top rest has same is (category_of_type type) refl some
block_typed method kinds size types stack top rest (IsStack.Halves number others below is) some = no_block size (Top ∷ others) top rest some

under_typed : (method : Within) (kinds : Kinds) (size : Option Category) (types : List VerificationType) (stack : List Value) (low rest : List VerificationType)
    → IsStack method kinds types stack → block_under category_of_type size types ≡ Some (low, rest) → Block method kinds (block_under category_of_value size stack) low rest
under_typed method kinds None types stack low rest is some =
    moved method kinds (Some ([], stack)) [] types low rest some (record { values = []; left = stack; lies = refl; piece = Piece.Ends; below = is })
under_typed method kinds (Some size) types stack low rest is some = block_typed method kinds size types stack low rest is some

-- what is moved of a stack that is typed
pub record Shuffled (method : Within) (kinds : Kinds) (shuffle : Shuffle) (stack : List Value) (types : List VerificationType) : Type 0 where
  pub left : List Value
  pub there : shuffled category_of_value shuffle stack ≡ Some left
  pub typed : IsStack method kinds types left

pub shuffled_typed : (method : Within) (kinds : Kinds) (shuffle : Shuffle) (types : List VerificationType) (stack : List Value) (after : List VerificationType)
    → IsStack method kinds types stack → shuffled category_of_type shuffle types ≡ Some after → Shuffled method kinds shuffle stack after
shuffled_typed method kinds shuffle types stack after is some =
    blocks_parts category_of_type shuffle types after (sym (whole category_of_type shuffle types) ∙ some) by
  where
    by : (top rest low more : List VerificationType) → block category_of_type (wanted shuffle) types ≡ Some (top, rest)
        → block_under category_of_type (under shuffle) rest ≡ Some (low, more) → (arranged shuffle top low ++ more) ≡ after → Shuffled method kinds shuffle stack after
    by top rest low more one two same =
        let first = block_typed method kinds (wanted shuffle) types stack top rest is one in
        let second = under_typed method kinds (under shuffle) rest first.left low more first.below two in
        record {
          left = arranged shuffle first.values second.values ++ second.left;
          there = whole category_of_value shuffle stack
              ∙ blocks_made category_of_value shuffle stack first.values first.left second.values second.left first.lies second.lies;
          typed = subst (λ (types : List VerificationType). IsStack method kinds types (arranged shuffle first.values second.values ++ second.left)) same
              (piece_upon method kinds (arranged shuffle top low) more (arranged shuffle first.values second.values) second.left
              (piece_arranged method kinds shuffle top low first.values second.values first.piece second.piece) second.below);
        }
