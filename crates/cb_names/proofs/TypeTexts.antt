-- The text of a type at the front of another text.
use Rattle.std.proofs.Common.{◌≡◌, ◌≢◌, ℕ, zero, suc, ◌-◌, ◌≤◌, Bool, true, false, not, List, [], ◌∷◌, ◌++◌, length, take, drop, replicate, Option, Some, None, Result, Ok, Err, ◌<◌, refl, sym, ◌∙◌, ap, subst, arith, append_assoc, ◌==◌, if◌then◌else◌}
use Rattle.std.specs.List.{AllByRecursion, position}
use Rattle.std.proofs.lemmas.List.Quantifiers.{position-Some}
use Rattle.std.proofs.lemmas.List.{append-nil, nil_from_length, drop_at, take_rest}
use Rattle.std.proofs.lemmas.Bool.{false≢true}
use Rattle.std.proofs.lemmas.Bool.Decides.{nat_tests}
use Rattle.std.specs.Result.{OkIff, result_ok}
use Rattle.std.proofs.lemmas.Option.{none-some, same_Some}
use Rattle.std.proofs.Math.ListN.{length-replicate}
use Rattle.cb_names.specs.declared.base.BaseType.{BaseType}
use Rattle.cb_names.specs.declared.base.BaseType.TheVariants as base
use Rattle.cb_names.specs.Signs.{semicolon, bracket, right_parenthesis, letter_byte, letter_char, letter_double, letter_float, letter_int, letter_long, letter_class, letter_short, letter_void}
use Rattle.cb_names.specs.Names.{IsClassName}
use Rattle.cb_names.specs.Types.{Element, Primitive, Named, JavaType, IsElement, IsType, SpellsType, letter_of, element_text, type_text}
use Rattle.cb_names.specs.Fronts.{BeginsWithElement, BeginsWithType}
use Rattle.cb_names.proofs.ClassNames.{class_goes_on, no_bracket_name, same_name}
use Rattle.cb_names.proofs.Places.{first_place, repeated}

-- each base type has a letter of its own
base_at : ℕ → Option BaseType
base_at unit =
    if unit == letter_byte then Some base.Byte
    else if unit == letter_char then Some base.Char
    else if unit == letter_double then Some base.Double
    else if unit == letter_float then Some base.Float
    else if unit == letter_int then Some base.Int
    else if unit == letter_long then Some base.Long
    else if unit == letter_short then Some base.Short
    else Some base.Boolean

base_back : (base : BaseType) → base_at (letter_of base) ≡ Some base
unfolding base_at
base_back base.Byte = refl
base_back other = refl

same_base : (one other : BaseType) → letter_of one ≡ letter_of other → one ≡ other
same_base one other same = same_Some one other (sym (base_back one) ∙ ap base_at same ∙ base_back other)

-- which units are no dimensions
abbrev pub is_other : ℕ → Bool
is_other unit = not (unit == bracket)

letter_other : (base : BaseType) → is_other (letter_of base) ≡ true
letter_other base.Byte = refl
letter_other other = refl

letter_within : (base : BaseType) → (letter_of base ≢ right_parenthesis) × (letter_of base ≢ letter_void)
letter_within base.Byte = (λ same. omega arith, λ same. omega arith)
letter_within other = (λ same. omega arith, λ same. omega arith)

letter_no_class : (base : BaseType) → letter_of base ≢ letter_class
letter_no_class base.Byte = λ same. omega arith
letter_no_class other = λ same. omega arith

-- an element begins with a letter, and so no type with a `)` or with what says that nothing is given
record Begins (text : List ℕ) : Type 0 where
  pub unit : ℕ
  pub more : List ℕ
  pub other : is_other unit ≡ true
  pub within : (unit ≢ right_parenthesis) × (unit ≢ letter_void)
  pub spelled : text ≡ unit ∷ more

element_begins : (element : Element) (rest : List ℕ) → Begins (element_text element ++ rest)
element_begins (Primitive base) rest = record {
  unit = letter_of base;
  more = rest;
  other = letter_other base;
  within = letter_within base;
  spelled = refl;
}
element_begins (Named name) rest = record {
  unit = letter_class;
  more = (name ++ semicolon ∷ []) ++ rest;
  other = refl;
  within = (λ same. omega arith, λ same. omega arith);
  spelled = refl;
}

head_is : (one other : ℕ) (rest behind : List ℕ) → one ∷ rest ≡ other ∷ behind → one ≡ other
head_is one other rest behind same = cc

pub tail_is : (one other : ℕ) (rest behind : List ℕ) → one ∷ rest ≡ other ∷ behind → rest ≡ behind
tail_is one other rest behind same = cc

-- two elements at the front of one text are one
pub same_element : (one other : Element) (rest behind : List ℕ) → IsElement one → IsElement other → element_text one ++ rest ≡ element_text other ++ behind → (one ≡ other) × (rest ≡ behind)
same_element (Primitive one) (Primitive other) rest behind is_one is_other same =
    (ap Primitive (same_base one other (head_is _ _ _ _ same)), tail_is _ _ _ _ same)
same_element (Primitive one) (Named other) rest behind is_one is_other same =
    absurd (letter_no_class one (head_is _ _ _ _ same))
same_element (Named one) (Primitive other) rest behind is_one is_other same =
    absurd (letter_no_class other (sym (head_is _ _ _ _ same)))
same_element (Named one) (Named other) rest behind is_one is_other same =
    let names = same_name one other rest behind (class_goes_on one is_one) (class_goes_on other is_other) (sym (append_assoc one (semicolon ∷ []) rest) ∙ tail_is _ _ _ _ same ∙ append_assoc other (semicolon ∷ []) behind) in
    (ap Named names.0, names.1)

-- no element begins with a bracket
no_bracket : (element : Element) (rest behind : List ℕ) → element_text element ++ rest ≡ bracket ∷ behind → ⊥
no_bracket element rest behind same =
    let begins = element_begins element rest in
    false≢true (sym (ap is_other (head_is _ _ _ _ (sym begins.spelled ∙ same))) ∙ begins.other)

same_parts : (m n : ℕ) (one other : Element) (rest behind : List ℕ) → IsElement one → IsElement other → (replicate m bracket ++ element_text one) ++ rest ≡ (replicate n bracket ++ element_text other) ++ behind → (m ≡ n) × (one ≡ other) × (rest ≡ behind)
same_parts zero zero one other rest behind is_one is_other same =
    let parts = same_element one other rest behind is_one is_other same in
    (refl, parts.0, parts.1)
same_parts zero (suc n) one other rest behind is_one is_other same = absurd (no_bracket one rest _ same)
same_parts (suc m) zero one other rest behind is_one is_other same = absurd (no_bracket other behind _ (sym same))
same_parts (suc m) (suc n) one other rest behind is_one is_other same =
    let parts = same_parts m n one other rest behind is_one is_other (tail_is _ _ _ _ same) in
    (ap suc parts.0, parts.1, parts.2)

-- two types at the front of one text are one
pub same_type : (one other : JavaType) (rest behind : List ℕ) → IsType one → IsType other → type_text one ++ rest ≡ type_text other ++ behind → (one ≡ other) × (rest ≡ behind)
same_type one other rest behind is_one is_other same =
    let parts = same_parts one.dimensions other.dimensions one.element other.element rest behind is_one.element is_other.element same in
    let dimensions : one ≡ record { dimensions = other.dimensions; element = one.element } = ap (λ (n : ℕ). record { dimensions = n; element = one.element }) parts.0 in
    let element : record { dimensions = other.dimensions; element = one.element } ≡ other = ap (λ (e : Element). record { dimensions = other.dimensions; element = e }) parts.1 in
    (dimensions ∙ element, parts.2)

-- a whole text is that of one type
pub whole_type : (text : List ℕ) (one other : JavaType) → SpellsType text one → SpellsType text other → one ≡ other
whole_type text one other of_one of_other = (same_type one other [] [] of_one.is of_other.is (ap (λ front. front ++ []) (sym of_one.spelled ∙ of_other.spelled))).0

type_begins : (type : JavaType) (rest behind : List ℕ) (unit : ℕ) → type_text type ++ rest ≡ unit ∷ behind → (unit ≢ right_parenthesis) × (unit ≢ letter_void)
type_begins type rest behind unit = go type.dimensions where
  go : (n : ℕ) → (replicate n bracket ++ element_text type.element) ++ rest ≡ unit ∷ behind → (unit ≢ right_parenthesis) × (unit ≢ letter_void)
  go zero same =
      let begins = element_begins type.element rest in
      subst (λ unit. (unit ≢ right_parenthesis) × (unit ≢ letter_void)) (head_is _ _ _ _ (sym begins.spelled ∙ same)) begins.within
  go (suc n) same =
      let unit : bracket ≡ unit = head_is _ _ _ _ same in (λ is. omega arith, λ is. omega arith)

pub no_parenthesis : (type : JavaType) (rest behind : List ℕ) → type_text type ++ rest ≡ right_parenthesis ∷ behind → ⊥
no_parenthesis type rest behind same = (type_begins type rest behind right_parenthesis same).0 refl

pub no_void : (type : JavaType) → letter_void ∷ [] ≡ type_text type → ⊥
no_void type same = (type_begins type [] [] letter_void (append-nil (type_text type) ∙ sym same)).1 refl

no_other : (n : ℕ) → AllByRecursion (λ unit. is_other unit ≡ false) (replicate n bracket)
no_other zero = tt
no_other (suc n) = (refl, no_other n)

-- the brackets of the type at the front are all those that stand there
pub type_place : (text : List ℕ) (type : JavaType) (rest : List ℕ) → BeginsWithType text type rest → position is_other text ≡ Some type.dimensions
type_place text type rest typed =
    let begins = element_begins type.element rest in
    let spelled : text ≡ replicate type.dimensions bracket ++ begins.unit ∷ begins.more = typed.spelled ∙ append_assoc (replicate type.dimensions bracket) (element_text type.element) rest ∙ ap (λ back. replicate type.dimensions bracket ++ back) begins.spelled in
    first_place is_other text (replicate type.dimensions bracket) begins.unit begins.more (no_other type.dimensions) begins.other spelled ∙ ap Some (length-replicate type.dimensions bracket)

-- behind them stands the element
pub element_behind : (text : List ℕ) (type : JavaType) (rest : List ℕ) (place : ℕ) → position is_other text ≡ Some place → BeginsWithType text type rest → (place ≤ 255) × BeginsWithElement (take (length text - place) (drop place text)) type.element rest
element_behind text type rest place found typed =
    let same : type.dimensions ≡ place = same_Some _ _ (sym (type_place text type rest typed) ∙ found) in
    let long : length (replicate type.dimensions bracket) ≡ place = length-replicate type.dimensions bracket ∙ same in
    let spelled : text ≡ replicate type.dimensions bracket ++ (element_text type.element ++ rest) = typed.spelled ∙ append_assoc (replicate type.dimensions bracket) (element_text type.element) rest in (
      omega (arith, typed.is.few),
      record {
        is = typed.is.element;
        spelled = take_rest text place ∙ ap (drop place) spelled ∙ drop_at (replicate type.dimensions bracket) (element_text type.element ++ rest) place long;
      },
    )

-- brackets and an element make a type
pub type_front : (text : List ℕ) (place dimensions : ℕ) (element : Element) (rest : List ℕ) → position is_other text ≡ Some place → dimensions ≡ place → dimensions ≤ 255 → BeginsWithElement (take (length text - place) (drop place text)) element rest → BeginsWithType text (record { dimensions = dimensions; element = element }) rest
type_front text place dimensions element rest found is few behind =
    let first = position-Some is_other text place 0 found in
    let brackets : text ≡ replicate place bracket ++ drop place text = repeated bracket place text (omega (arith, first.0)) (λ k below. let fails = first.2 k below in grind (arith, nat_tests)) in
    record {
      is = record { few = few; element = behind.is };
      spelled = brackets ∙ ap (λ back. replicate place bracket ++ back) (sym (take_rest text place) ∙ behind.spelled) ∙ sym (append_assoc (replicate place bracket) (element_text element) rest) ∙ ap (λ n. (replicate n bracket ++ element_text element) ++ rest) (sym is);
    }

-- a type at the front is that of the whole text where nothing stands behind it
pub whole_front : (text : List ℕ) (type : JavaType) → SpellsType text type → BeginsWithType text type []
whole_front text type spells = record { is = spells.is; spelled = spells.spelled ∙ sym (append-nil (type_text type)) }

pub front_whole : (text : List ℕ) (type : JavaType) (rest : List ℕ) → BeginsWithType text type rest → length rest ≡ 0 → SpellsType text type
front_whole text type rest typed empty = record {
  is = typed.is;
  spelled = typed.spelled ∙ ap (λ rest. type_text type ++ rest) (nil_from_length rest empty) ∙ append-nil (type_text type);
}

-- where something does, it is of no type
pub front_only : (text : List ℕ) (found type : JavaType) (rest : List ℕ) → BeginsWithType text found rest → SpellsType text type → (found ≡ type) × (rest ≡ [])
front_only text found type rest typed spells =
    let other = whole_front text type spells in
    same_type found type rest [] typed.is spells.is (sym typed.spelled ∙ other.spelled)

-- a number that was made a byte is one, and what was made none is too large
pub made_byte : {E : Type 0} (result : Result ℕ E) (number made : ℕ) → OkIff result (number < 256) number → Some made ≡ result_ok result → (made ≡ number) × (made ≤ 255)
made_byte (Ok value) number made ok is =
    let fits : number < 256 = ok.0 in
    let same : made ≡ number = same_Some _ _ is ∙ ok.1 in
    (same, omega arith)
made_byte (Err error) number made ok is = absurd (none-some _ (sym is))

pub no_byte : {E : Type 0} (result : Result ℕ E) (number : ℕ) → OkIff result (number < 256) number → None ≡ result_ok result → number ≤ 255 → ⊥
no_byte (Ok value) number ok is few = none-some _ is
no_byte (Err error) number ok is few = ok (omega arith)

-- the descriptor of an array is the name of no class
pub array_no_class : (name : List ℕ) (type : JavaType) → SpellsType name type → 0 < type.dimensions → IsClassName name → ⊥
array_no_class name type spells some named = go type.dimensions some spells.spelled where
  go : (n : ℕ) → 0 < n → name ≡ replicate n bracket ++ element_text type.element → ⊥
  go zero some is = omega arith
  go (suc n) some is = no_bracket_name _ (subst IsClassName is named)
