-- The parameters of a method descriptor from left to right.
use Rattle.std.proofs.Common.{◌≡◌, ℕ, ◌+◌, ◌≤◌, List, [], ◌∷◌, ◌++◌, map, Option, Some, None, refl, sym, ◌∙◌, ap, arith, append_assoc}
use Rattle.std.specs.List.{AllByRecursion, concat}
use Rattle.std.proofs.lemmas.List.{append-nil}
use Rattle.std.proofs.lemmas.List.Sums.{sum_by-cons}
use Rattle.cb_names.specs.Signs.{left_parenthesis, right_parenthesis}
use Rattle.cb_names.specs.Types.{JavaType, JavaMethodType, IsType, SpellsResult, SpellsMethodType, type_text, type_words, parameters_words, result_text}
use Rattle.cb_names.specs.Descriptors.{IsReturnDescriptor}
use Rattle.cb_names.specs.Fronts.{BeginsWithType, BeginsWithParameters}
use Rattle.cb_names.proofs.Lists.{all-append}
use Rattle.cb_names.proofs.TypeTexts.{same_type, no_parenthesis, no_void, tail_is}

-- the texts of some types, one behind the other
abbrev pub texts : List JavaType → List ℕ
texts types = concat (map type_text types)

texts-append : (read : List JavaType) (last : JavaType) (rest : List ℕ) → texts (read ++ last ∷ []) ++ rest ≡ texts read ++ (type_text last ++ rest)
texts-append [] last rest = ap (λ front. front ++ rest) (append-nil (type_text last))
texts-append (first ∷ read) last rest =
    append_assoc (type_text first) (texts (read ++ last ∷ [])) rest ∙ ap (λ back. type_text first ++ back) (texts-append read last rest) ∙ sym (append_assoc (type_text first) (texts read) (type_text last ++ rest))

words-cons : (first : JavaType) (others : List JavaType) → parameters_words (first ∷ others) ≡ type_words first + parameters_words others
words-cons first others = sum_by-cons (λ n. n) (type_words first) (map type_words others)

words-append : (front back : List JavaType) → parameters_words (front ++ back) ≡ parameters_words front + parameters_words back
words-append [] back = omega arith
words-append (first ∷ front) back =
    omega (arith, words-cons first (front ++ back), words-cons first front, words-append front back)

-- one more
pub words_more : (front : List JavaType) (last : JavaType) → parameters_words (front ++ last ∷ []) ≡ parameters_words front + type_words last
words_more front last = omega (arith, words-append front (last ∷ []), words-cons last [])

-- the walk over the parameters has read some, and has come to the rest
pub record IsRead (text : List ℕ) (read : List JavaType) (rest : List ℕ) : Type 0 where
  pub are : AllByRecursion IsType read
  pub spelled : text ≡ texts read ++ rest

pub read_none : (text : List ℕ) → IsRead text [] text
read_none text = record { are = tt; spelled = refl }

pub read_more : (text : List ℕ) (read : List JavaType) (type : JavaType) (rest after : List ℕ) → IsRead text read rest → BeginsWithType rest type after → IsRead text (read ++ type ∷ []) after
read_more text read type rest after so_far typed = record {
  are = all-append IsType read (type ∷ []) so_far.are (typed.is, tt);
  spelled = so_far.spelled ∙ ap (λ back. texts read ++ back) typed.spelled ∙ sym (texts-append read type after);
}

pub read_whole : (text : List ℕ) (read : List JavaType) (rest behind : List ℕ) → IsRead text read rest → rest ≡ right_parenthesis ∷ behind → BeginsWithParameters text read behind
read_whole text read rest behind so_far is = record {
  are = so_far.are;
  spelled = so_far.spelled ∙ ap (λ rest. texts read ++ rest) is;
}

-- those that were read are the first of all
others : (read all : List JavaType) (rest behind : List ℕ) → AllByRecursion IsType read → AllByRecursion IsType all → texts read ++ rest ≡ texts all ++ right_parenthesis ∷ behind → (more : List JavaType) × (all ≡ read ++ more) × BeginsWithParameters rest more behind
others [] all rest behind are_read are same = (all, refl, record { are = are; spelled = same })
others (first ∷ read) [] rest behind are_read are same =
    absurd (no_parenthesis first (texts read ++ rest) behind (sym (append_assoc (type_text first) (texts read) rest) ∙ same))
others (first ∷ read) (one ∷ all) rest behind are_read are same =
    let types = same_type first one (texts read ++ rest) (texts all ++ right_parenthesis ∷ behind) are_read.0 are.0 (sym (append_assoc (type_text first) (texts read) rest) ∙ same ∙ append_assoc (type_text one) (texts all) (right_parenthesis ∷ behind)) in
    let left = others read all rest behind are_read.1 are.1 types.1 in
    let first_is : first ≡ one = types.0 in
    let all_is : all ≡ read ++ left.0 = left.1 in
    (left.0, cc, left.2)

others_of : (text : List ℕ) (read all : List JavaType) (rest behind : List ℕ) → IsRead text read rest → BeginsWithParameters text all behind → (more : List JavaType) × (all ≡ read ++ more) × BeginsWithParameters rest more behind
others_of text read all rest behind so_far whole =
    others read all rest behind so_far.are whole.are (sym so_far.spelled ∙ whole.spelled)

-- all parameters take at least the words of those that were read
words_read : (text : List ℕ) (read all : List JavaType) (rest behind : List ℕ) → IsRead text read rest → BeginsWithParameters text all behind → parameters_words read ≤ parameters_words all
words_read text read all rest behind so_far whole =
    let left = others_of text read all rest behind so_far whole in
    let total : parameters_words all ≡ parameters_words (read ++ left.0) = ap parameters_words left.1 in
    omega (arith, total, words-append read left.0)

pub words_left : (text : List ℕ) (read all : List JavaType) (type : JavaType) (rest after behind : List ℕ) → IsRead text read rest → BeginsWithType rest type after → BeginsWithParameters text all behind → parameters_words read + type_words type ≤ parameters_words all
words_left text read all type rest after behind so_far typed whole =
    omega (arith, words_more read type, words_read text (read ++ type ∷ []) all after behind (read_more text read type rest after so_far typed) whole)

-- where no type stands in front of the rest, none is left
pub none_left : (text : List ℕ) (read all : List JavaType) (rest behind : List ℕ) → IsRead text read rest → ((type : JavaType) (after : List ℕ) → BeginsWithType rest type after → ⊥) → BeginsWithParameters text all behind → rest ≡ right_parenthesis ∷ behind
none_left text read all rest behind so_far none whole =
    let left = others_of text read all rest behind so_far whole in go left.0 left.2.are left.2.spelled
  where
    go : (more : List JavaType) → AllByRecursion IsType more → rest ≡ texts more ++ right_parenthesis ∷ behind → rest ≡ right_parenthesis ∷ behind
    go [] are spelled = spelled
    go (first ∷ more) are spelled = absurd (none first _ (record {
      is = are.0;
      spelled = spelled ∙ append_assoc (type_text first) (texts more) (right_parenthesis ∷ behind);
    }))

-- parameters at the front of one text are the same
pub same_parameters : (text : List ℕ) (one other : List JavaType) (rest behind : List ℕ) → BeginsWithParameters text one rest → BeginsWithParameters text other behind → (one ≡ other) × (rest ≡ behind)
same_parameters text one other rest behind of_one of_other =
    let left = others one other (right_parenthesis ∷ rest) behind of_one.are of_other.are (sym of_one.spelled ∙ of_other.spelled) in
    go left.0 left.1 left.2.spelled
  where
    go : (more : List JavaType) → other ≡ one ++ more → right_parenthesis ∷ rest ≡ texts more ++ right_parenthesis ∷ behind → (one ≡ other) × (rest ≡ behind)
    go [] is spelled = (sym (is ∙ append-nil one), tail_is _ _ _ _ spelled)
    go (first ∷ more) is spelled =
        absurd (no_parenthesis first _ rest (sym (spelled ∙ append_assoc (type_text first) (texts more) (right_parenthesis ∷ behind))))

-- and so is what a method gives
pub same_result : (text : List ℕ) (one other : Option JavaType) → SpellsResult text one → SpellsResult text other → one ≡ other
same_result text None None of_one of_other = refl
same_result text None (Some type) of_one of_other = absurd (no_void type (sym of_one.spelled ∙ of_other.spelled))
same_result text (Some type) None of_one of_other = absurd (no_void type (sym of_other.spelled ∙ of_one.spelled))
same_result text (Some one) (Some other) of_one of_other =
    ap Some (same_type one other [] [] of_one.is of_other.is (ap (λ front. front ++ []) (sym of_one.spelled ∙ of_other.spelled))).0

-- a method descriptor is a `(`, parameters and what the method gives
pub whole_parameters : (text behind : List ℕ) (type : JavaMethodType) → text ≡ left_parenthesis ∷ behind → SpellsMethodType text type → BeginsWithParameters behind type.parameters (result_text type.result)
whole_parameters text behind type opened spells = record {
  are = spells.parameters;
  spelled = tail_is _ _ _ _ (sym opened ∙ spells.spelled);
}

pub whole_result : (text returned : List ℕ) (type : JavaMethodType) → SpellsMethodType text type → returned ≡ result_text type.result → SpellsResult returned type.result
whole_result text returned type spells is = record { is = spells.result; spelled = is }

pub whole_method : (text behind returned : List ℕ) (parameters : List JavaType) (result : Option JavaType) → text ≡ left_parenthesis ∷ behind → BeginsWithParameters behind parameters returned → parameters_words parameters ≤ 255 → SpellsResult returned result → SpellsMethodType text (record { parameters = parameters; result = result })
whole_method text behind returned parameters result opened front few given = record {
  parameters = front.are;
  result = given.is;
  few = few;
  spelled = opened ∙ ap (λ rest. left_parenthesis ∷ rest) front.spelled ∙ ap (λ rest. left_parenthesis ∷ (texts parameters ++ right_parenthesis ∷ rest)) given.spelled;
}

-- where its end says nothing that a method may give, it is none
pub no_method : (text behind returned : List ℕ) (parameters : List JavaType) (type : JavaMethodType) → text ≡ left_parenthesis ∷ behind → BeginsWithParameters behind parameters returned → (IsReturnDescriptor returned → ⊥) → SpellsMethodType text type → ⊥
no_method text behind returned parameters type opened front none spells =
    let same = same_parameters behind parameters type.parameters returned (result_text type.result) front (whole_parameters text behind type opened spells) in
    none (type.result, whole_result text returned type spells same.1)

-- the type that was read is the only one
pub method_is : (text behind returned : List ℕ) (parameters : List JavaType) (result : Option JavaType) (type : JavaMethodType) → text ≡ left_parenthesis ∷ behind → BeginsWithParameters behind parameters returned → SpellsResult returned result → SpellsMethodType text type → record { parameters = parameters; result = result } ≡ type
method_is text behind returned parameters result type opened front given spells =
    let same = same_parameters behind parameters type.parameters returned (result_text type.result) front (whole_parameters text behind type opened spells) in
    let given_is = same_result returned result type.result given (whole_result text returned type spells same.1) in
    let one : record { parameters = parameters; result = result } ≡ record { parameters = type.parameters; result = result } = ap (λ (types : List JavaType). record { parameters = types; result = result }) same.0 in
    let other : record { parameters = type.parameters; result = result } ≡ type = ap (λ (given : Option JavaType). record { parameters = type.parameters; result = given }) given_is in
    one ∙ other

pub same_method : (text : List ℕ) (one other : JavaMethodType) → SpellsMethodType text one → SpellsMethodType text other → one ≡ other
same_method text one other of_one of_other =
    method_is text (texts one.parameters ++ right_parenthesis ∷ result_text one.result) (result_text one.result) one.parameters one.result other of_one.spelled (record { are = of_one.parameters; spelled = refl }) (record { is = of_one.result; spelled = refl }) of_other
