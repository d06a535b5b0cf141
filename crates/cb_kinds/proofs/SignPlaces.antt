-- Where the signs of a descriptor stand.
use Rattle.std.proofs.Common.{◌≡◌, ◌≢◌, ◌∙◌, ap, ap₂, refl, sym, subst, arith, ℕ, suc, ◌+◌, ◌-◌, ◌<◌, ◌≤◌, ◌==◌, Bool, true, false, cond, ◌||◌, not, List, [], ◌∷◌, ◌++◌, length, get_or, take, drop, Some, None, true≢false, append_assoc}
use Rattle.std.specs.List.{list_any, prefix_len}
use Rattle.std.proofs.Math.Seq.{take-add}
use Rattle.std.proofs.lemmas.Bool.{ne_eqb}
use Rattle.std.proofs.lemmas.List.{drop-drop, drop_all, drop_more, get_or-drop, length-drop, take_more}
use Rattle.cb_names.specs.Signs.{bracket, letter_class, right_parenthesis, semicolon}
use Rattle.cb_kinds.specs.Descriptors.{is_base, signs, signs_behind, signs_in_name}

-- the units from one place to another
abbrev pub between : List ℕ → ℕ → ℕ → List ℕ
between text start end = take (end - start) (drop start text)

-- a bracket belongs to the type that is read
pub at_bracket : (read rest : List ℕ) (unit : ℕ) → unit ≡ bracket → signs_behind read (unit ∷ rest) ≡ signs_behind (read ++ unit ∷ []) rest
at_bracket read rest unit is = subst (λ unit. signs_behind read (unit ∷ rest) ≡ signs_behind (read ++ unit ∷ []) rest) (sym is) refl

-- an L begins a name
pub at_class : (read rest : List ℕ) (unit : ℕ) → unit ≡ letter_class → signs_behind read (unit ∷ rest) ≡ signs_in_name (read ++ unit ∷ []) rest
at_class read rest unit is = subst (λ unit. signs_behind read (unit ∷ rest) ≡ signs_in_name (read ++ unit ∷ []) rest) (sym is) refl

-- a parenthesis is a sign
pub at_parenthesis : (read rest : List ℕ) (unit : ℕ) → unit ≡ right_parenthesis → signs_behind read (unit ∷ rest) ≡ None ∷ signs rest
at_parenthesis read rest unit is = ap (λ unit. signs_behind read (unit ∷ rest)) is

-- any other unit ends a type, or what was read is none
at_letter : (read rest : List ℕ) (unit : ℕ) → unit ≢ bracket → unit ≢ letter_class → unit ≢ right_parenthesis → (base : Bool) → is_base unit ≡ base
    → signs_behind read (unit ∷ rest) ≡ cond base (Some (read ++ unit ∷ []) ∷ signs rest) (signs rest)
at_letter read rest unit no_bracket no_class no_end base is = λ i.
    cond (ne_eqb unit bracket no_bracket i) (signs_behind (read ++ unit ∷ []) rest)
    (cond (ne_eqb unit letter_class no_class i) (signs_in_name (read ++ unit ∷ []) rest)
    (cond (ne_eqb unit right_parenthesis no_end i) (None ∷ signs rest)
    (cond (is i) (Some (read ++ unit ∷ []) ∷ signs rest) (signs rest))))

pub at_base : (read rest : List ℕ) (unit : ℕ) → unit ≢ bracket → unit ≢ letter_class → unit ≢ right_parenthesis → is_base unit ≡ true
    → signs_behind read (unit ∷ rest) ≡ Some (read ++ unit ∷ []) ∷ signs rest
at_base read rest unit no_bracket no_class no_end is = at_letter read rest unit no_bracket no_class no_end true is

pub at_other : (read rest : List ℕ) (unit : ℕ) → unit ≢ bracket → unit ≢ letter_class → unit ≢ right_parenthesis → is_base unit ≡ false
    → signs_behind read (unit ∷ rest) ≡ signs rest
at_other read rest unit no_bracket no_class no_end is = at_letter read rest unit no_bracket no_class no_end false is

-- how many units stand in front of the first semicolon
abbrev pub name_len : List ℕ → ℕ
name_len text = prefix_len (λ other. not (other == semicolon)) text

-- a name that no semicolon ends is none
pub no_end : (read rest : List ℕ) → list_any (λ other. other == semicolon) rest ≡ false → signs_in_name read rest ≡ []
no_end read [] free = refl
no_end read (unit ∷ rest) free = go (unit == semicolon) free (no_end (read ++ unit ∷ []) rest)
  where
    go : (test : Bool) → (test || list_any (λ other. other == semicolon) rest) ≡ false
        → (list_any (λ other. other == semicolon) rest ≡ false → signs_in_name (read ++ unit ∷ []) rest ≡ [])
        → cond test (Some (read ++ unit ∷ []) ∷ signs rest) (signs_in_name (read ++ unit ∷ []) rest) ≡ []
    go true free next = absurd (true≢false free)
    go false free next = next free

-- no semicolon stands where all units are in front of it
pub none_in : (text : List ℕ) → length text ≤ name_len text → list_any (λ other. other == semicolon) text ≡ false
none_in [] long = refl
none_in (unit ∷ text) long = go (unit == semicolon) long (none_in text)
  where
    go : (test : Bool) → length (unit ∷ text) ≤ cond (not test) (1 + name_len text) 0
        → (length text ≤ name_len text → list_any (λ other. other == semicolon) text ≡ false) → (test || list_any (λ other. other == semicolon) text) ≡ false
    go true long rest = absurd (omega arith)
    go false long rest = rest (omega arith)

-- a name goes up to the first semicolon
pub to_end : (read rest : List ℕ) (end : ℕ) → end ≡ name_len rest + 1 → end ≤ length rest
    → signs_in_name read rest ≡ Some (read ++ take end rest) ∷ signs (drop end rest)
to_end read [] end is few = absurd (omega arith)
to_end read (unit ∷ rest) end is few = go (unit == semicolon) is (to_end (read ++ unit ∷ []) rest)
  where
    go : (test : Bool) → end ≡ cond (not test) (1 + name_len rest) 0 + 1
        → ((end : ℕ) → end ≡ name_len rest + 1 → end ≤ length rest → signs_in_name (read ++ unit ∷ []) rest ≡ Some ((read ++ unit ∷ []) ++ take end rest) ∷ signs (drop end rest))
        → cond test (Some (read ++ unit ∷ []) ∷ signs rest) (signs_in_name (read ++ unit ∷ []) rest) ≡ Some (read ++ take end (unit ∷ rest)) ∷ signs (drop end (unit ∷ rest))
    go true is next = ap (λ end. Some (read ++ take end (unit ∷ rest)) ∷ signs (drop end (unit ∷ rest))) (sym is)
    go false is next =
        let more : end ≡ suc (name_len rest + 1) = omega arith in
        next (name_len rest + 1) refl (omega (arith, few))
        ∙ ap (λ text. Some text ∷ signs (drop (name_len rest + 1) rest)) (append_assoc read (unit ∷ []) (take (name_len rest + 1) rest))
        ∙ ap (λ end. Some (read ++ take end (unit ∷ rest)) ∷ signs (drop end (unit ∷ rest))) (sym more)

-- a unit more, and a name more
pub between_more : (text : List ℕ) (start index : ℕ) → start ≤ index → index < length text
    → between text start index ++ get_or text index 0 ∷ [] ≡ between text start (index + 1)
between_more text start index begun within =
    let front : start + (index - start) ≡ index = omega arith in
    let longer : index + 1 - start ≡ index - start + 1 = omega arith in
    let some : index - start < length (drop start text) = omega (arith, length-drop start text) in
    ap (λ unit. between text start index ++ unit ∷ []) (ap (λ place. get_or text place 0) (sym front) ∙ sym (get_or-drop start text (index - start) 0))
    ∙ sym (take_more (drop start text) (index - start) 0 some)
    ∙ ap (λ many. take many (drop start text)) (sym longer)

pub between_add : (text : List ℕ) (start middle more : ℕ) → start ≤ middle
    → between text start middle ++ take more (drop middle text) ≡ between text start (middle + more)
between_add text start middle more begun =
    let front : start + (middle - start) ≡ middle = omega arith in
    let longer : middle + more - start ≡ middle - start + more = omega arith in
    ap (λ rest. between text start middle ++ take more rest) (ap (λ place. drop place text) (sym front) ∙ sym (drop-drop (middle - start) start text))
    ∙ sym (take-add (middle - start) more (drop start text))
    ∙ ap (λ many. take many (drop start text)) (sym longer)

-- up to a place no sign stands but what may be read there
pub record IsPast (text : List ℕ) (start index : ℕ) : Type 0 where
  pub begun : start ≤ index
  pub same : signs text ≡ signs_behind (between text start index) (drop index text)

pub past_none : (text : List ℕ) → IsPast text 0 0
past_none text = record { begun = omega arith; same = refl }

-- one unit more
module _ (text : List ℕ) (start index : ℕ) (past : IsPast text start index) (within : index < length text) where
  abbrev front : List ℕ
  front = between text start index

  abbrev rest : List ℕ
  rest = drop (index + 1) text

  abbrev unit : ℕ
  unit = get_or text index 0

  at_unit : signs text ≡ signs_behind front (unit ∷ rest)
  at_unit = past.same ∙ ap (signs_behind front) (drop_more text index 0 within)

  longer : front ++ unit ∷ [] ≡ between text start (index + 1)
  longer = between_more text start index past.begun within

  pub past_bracket : unit ≡ bracket → IsPast text start (index + 1)
  past_bracket is = record {
    begun = omega (arith, past.begun);
    same = at_unit ∙ at_bracket front rest unit is ∙ ap (λ read. signs_behind read rest) longer;
  }

  pub past_other : unit ≢ bracket → unit ≢ letter_class → unit ≢ right_parenthesis → is_base unit ≡ false → IsPast text (index + 1) (index + 1)
  past_other no_bracket no_class no_parenthesis is =
      let none : 0 ≡ index + 1 - (index + 1) = omega arith in
      record {
        begun = omega arith;
        same = at_unit ∙ at_other front rest unit no_bracket no_class no_parenthesis is ∙ ap (λ many. signs_behind (take many rest) rest) none;
      }

  pub past_parenthesis : unit ≡ right_parenthesis → signs text ≡ None ∷ signs rest
  past_parenthesis is = at_unit ∙ at_parenthesis front rest unit is

  pub past_base : unit ≢ bracket → unit ≢ letter_class → unit ≢ right_parenthesis → is_base unit ≡ true → signs text ≡ Some (between text start (index + 1)) ∷ signs rest
  past_base no_bracket no_class no_parenthesis is =
      at_unit ∙ at_base front rest unit no_bracket no_class no_parenthesis is ∙ ap (λ read. Some read ∷ signs rest) longer

  at_name : unit ≡ letter_class → signs text ≡ signs_in_name (between text start (index + 1)) rest
  at_name is = at_unit ∙ at_class front rest unit is ∙ ap (λ read. signs_in_name read rest) longer

  pub past_no_class : unit ≡ letter_class → list_any (λ other. other == semicolon) rest ≡ false → signs text ≡ []
  past_no_class is free = at_name is ∙ no_end (between text start (index + 1)) rest free

  pub past_class : unit ≡ letter_class → (end : ℕ) → end ≡ name_len rest + 1 → end ≤ length rest
      → signs text ≡ Some (between text start (index + 1 + end)) ∷ signs (drop (index + 1 + end) text)
  past_class is end ends few =
      let begun : start ≤ index + 1 = omega (arith, past.begun) in
      at_name is ∙ to_end (between text start (index + 1)) rest end ends few
      ∙ ap₂ (λ read rest. Some read ∷ signs rest) (between_add text start (index + 1) end begun) (drop-drop end (index + 1) text)
