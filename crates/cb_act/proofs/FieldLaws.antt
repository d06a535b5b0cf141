-- What instructions on fields leave, by what stands on the stack.
use Rattle.std.proofs.Common.{◌≡◌, ◌∙◌, ap, refl, sym, subst, ℕ, true, List, [], ◌∷◌, map, drop, Option, Some, None, zero, suc}
use Rattle.std.proofs.lemmas.Bool.{false≢true}
use Rattle.std.proofs.lemmas.Option.{slice_get-map}
use Rattle.std.specs.Prelude.{is_some, option_map, slice_get}
use Rattle.cb_frames.specs.Tops.{top_stack}
use Rattle.cb_heap.proofs.Laws.{reads_stack}
use Rattle.cb_frames.specs.Entries.{referent}
use Rattle.cb_heap.specs.Kept.{content_at, with_content}
use Rattle.cb_heap.specs.Reading.{read_roots, read_value, seen, serial_of}
use Rattle.cb_kinds.specs.declared.basic.Basic.{Basic}
use Rattle.cb_kinds.specs.declared.basic.Basic.TheVariants as basics
use Rattle.cb_machine.specs.Sites.{null_pointer}
use Rattle.cb_machine.specs.Values.{content_of, kept_value, sort_of_basic, value_in}
use Rattle.cb_plain.specs.declared.value.Value.{Value}
use Rattle.cb_plain.specs.declared.value.Value.TheVariants as values
use Rattle.cb_plain.specs.State.{Content, Number, Object, Reference, Roots}
use Rattle.cb_plain.specs.Updates.{object_in}
use Rattle.cb_act.specs.Effects.{has_sort, stacked}
use Rattle.cb_act.specs.Objects.{Goes, Left, Suits, SuitsWord, Throws, behind_get_field, behind_put_field, object_on, on_stack, put_into, put_on, read_on, referred, suits_unless_null, takes, unless_null}
use Rattle.cb_act.proofs.Read.{sorted, stacked_read}

module _ (index : ℕ → ℕ) (objects : List (Option Object)) (held : Roots) where
  -- what stands on top of the stack that is read
  pub on_top : (place : ℕ) → slice_get (top_stack held) 0 ≡ Some (values.Ref place)
      → top_stack (read_roots index held) ≡ values.Ref (serial_of index place) ∷ map (read_value index) (drop 1 (top_stack held))
  on_top place is = reads_stack index held ∙ go (top_stack held) is where
    go : (stack : List Value) → slice_get stack 0 ≡ Some (values.Ref place)
        → map (read_value index) stack ≡ values.Ref (serial_of index place) ∷ map (read_value index) (drop 1 stack)
    go [] is = absurd (cc is)
    go (value ∷ rest) is = let one : value ≡ values.Ref place = cc is in ap (λ first. read_value index first ∷ map (read_value index) rest) one

  pub object_so : (depth place : ℕ) → slice_get (top_stack held) depth ≡ Some (values.Ref place) → object_on (seen index objects held) depth ≡ serial_of index place
  object_so depth place is = rw (reads_stack index held) (go (top_stack held) depth is) where
    go : (stack : List Value) (depth : ℕ) → slice_get stack depth ≡ Some (values.Ref place) → referred (slice_get (map (read_value index) stack) depth) ≡ serial_of index place
    go stack depth is = rw (slice_get-map (read_value index) stack depth, is) refl

  -- the values on top of it, two or three
  pub on_two : (a b : Value) → slice_get (top_stack held) 0 ≡ Some a → slice_get (top_stack held) 1 ≡ Some b
      → top_stack (read_roots index held) ≡ read_value index a ∷ read_value index b ∷ map (read_value index) (drop 2 (top_stack held))
  on_two a b first second = reads_stack index held ∙ go (top_stack held) first second where
    go : (stack : List Value) → slice_get stack 0 ≡ Some a → slice_get stack 1 ≡ Some b
        → map (read_value index) stack ≡ read_value index a ∷ read_value index b ∷ map (read_value index) (drop 2 stack)
    go [] first second = absurd (cc first)
    go (one ∷ []) first second = absurd (cc second)
    go (one ∷ two ∷ rest) first second =
        let same : one ≡ a = cc first in
        let also : two ≡ b = cc second in
        ap (λ value. read_value index value ∷ read_value index two ∷ map (read_value index) rest) same
        ∙ ap (λ value. read_value index a ∷ read_value index value ∷ map (read_value index) rest) also

  pub on_three : (a b d : Value) → slice_get (top_stack held) 0 ≡ Some a → slice_get (top_stack held) 1 ≡ Some b → slice_get (top_stack held) 2 ≡ Some d
      → top_stack (read_roots index held) ≡ read_value index a ∷ read_value index b ∷ read_value index d ∷ map (read_value index) (drop 3 (top_stack held))
  on_three a b d first second third = reads_stack index held ∙ go (top_stack held) first second third where
    go : (stack : List Value) → slice_get stack 0 ≡ Some a → slice_get stack 1 ≡ Some b → slice_get stack 2 ≡ Some d
        → map (read_value index) stack ≡ read_value index a ∷ read_value index b ∷ read_value index d ∷ map (read_value index) (drop 3 stack)
    go [] first second third = absurd (cc first)
    go (one ∷ []) first second third = absurd (cc second)
    go (one ∷ two ∷ []) first second third = absurd (cc third)
    go (one ∷ two ∷ three ∷ rest) first second third =
        let same : one ≡ a = cc first in
        let also : two ≡ b = cc second in
        let last : three ≡ d = cc third in
        ap (λ value. read_value index value ∷ read_value index two ∷ read_value index three ∷ map (read_value index) rest) same
        ∙ ap (λ value. read_value index a ∷ read_value index value ∷ read_value index three ∷ map (read_value index) rest) also
        ∙ ap (λ value. read_value index a ∷ read_value index b ∷ read_value index value ∷ map (read_value index) rest) last

  -- a value that a word holds
  pub read_so : (basic : Basic) (word place : ℕ) (value : Value) (rest : List Value) → ¬ (place ≡ 0)
      → option_map (value_in basic) (content_at objects (serial_of index place) word) ≡ Some (read_value index value)
      → unless_null (serial_of index place) (read_on (seen index objects held) (map (read_value index) rest) basic (content_at objects (serial_of index place) word))
      ≡ Some (Goes (seen index objects (stacked held (value ∷ rest))))
  read_so basic word zero value rest some is = absurd (some refl)
  read_so basic word (suc place) value rest some is = go (content_at objects (serial_of index (suc place)) word) is where
    go : (content : Option Content) → option_map (value_in basic) content ≡ Some (read_value index value)
        → read_on (seen index objects held) (map (read_value index) rest) basic content ≡ Some (Goes (seen index objects (stacked held (value ∷ rest))))
    go None is = absurd (cc is)
    go (Some content) is =
        let one : value_in basic content ≡ read_value index value = cc is in
        ap (λ first. Some (Goes (on_stack (seen index objects held) (first ∷ map (read_value index) rest)))) one
        ∙ ap (λ roots. Some (Goes (record { roots = roots; objects = objects }))) (sym (stacked_read index held (value ∷ rest)))

  -- getfield
  pub got_so : (slot place : ℕ) (basic : Basic) → slice_get (top_stack held) 0 ≡ Some (values.Ref place)
      → behind_get_field slot basic (seen index objects held)
      ≡ unless_null (serial_of index place) (read_on (seen index objects held) (map (read_value index) (drop 1 (top_stack held))) basic (content_at objects (serial_of index place) slot))
  got_so slot place basic is = rw (on_top place is) refl

  pub suits_so : (basic : Basic) (depth word place : ℕ) → slice_get (top_stack held) depth ≡ Some (values.Ref place) → ¬ (place ≡ 0)
      → SuitsWord basic depth word (seen index objects held) → Suits basic (content_at objects (serial_of index place) word)
  suits_so basic depth word zero is some suits = absurd (some refl)
  suits_so basic depth word (suc place) is some suits = go (object_on (seen index objects held) depth) (object_so depth (suc place) is) suits where
    go : (object : ℕ) → object ≡ serial_of index (suc place) → suits_unless_null basic (seen index objects held) word object → Suits basic (content_at objects (serial_of index (suc place)) word)
    go zero same suits = absurd (cc same)
    go (suc object) same suits = subst (λ object. Suits basic (content_at objects object word)) same suits

  -- what a value refers to
  pub referred_so : (depth : ℕ) (value : Value) → slice_get (top_stack held) depth ≡ Some value → object_on (seen index objects held) depth ≡ serial_of index (referent value)
  referred_so depth value is = rw (reads_stack index held) (go (top_stack held) is) where
    by_value : (value : Value) → referred (Some (read_value index value)) ≡ serial_of index (referent value)
    by_value (values.Int number) = refl
    by_value (values.Long number) = refl
    by_value (values.Ref place) = refl

    go : (stack : List Value) → slice_get stack depth ≡ Some value → referred (slice_get (map (read_value index) stack) depth) ≡ serial_of index (referent value)
    go stack is = rw (slice_get-map (read_value index) stack depth, is) (by_value value)

  -- putfield
  pub put_so : (slot place : ℕ) (basic : Basic) (value : Value) → has_sort (sort_of_basic basic) (Some value) ≡ true
      → slice_get (top_stack held) 0 ≡ Some value → slice_get (top_stack held) 1 ≡ Some (values.Ref place)
      → behind_put_field slot basic (seen index objects held)
      ≡ unless_null (serial_of index place) (put_on (seen index objects held) (map (read_value index) (drop 2 (top_stack held))) (serial_of index place) slot (content_of (kept_value basic (read_value index value))))
  put_so slot place basic value sort first second = rw (on_two value (values.Ref place) first second, sorted index value, sort) refl

  -- a word that is put, into an object that is there
  pub puts_so : (place word : ℕ) (value : Value) (count : ℕ) → is_some (object_in objects (serial_of index place)) ≡ true
      → put_on (seen index objects held) (map (read_value index) (drop count (top_stack held))) (serial_of index place) word (content_of (read_value index value))
      ≡ Some (Goes (seen index (with_content objects (serial_of index place) word (content_of (read_value index value))) (stacked held (drop count (top_stack held)))))
  puts_so place word value count is = go (object_in objects (serial_of index place)) refl is where
    go : (found : Option Object) → object_in objects (serial_of index place) ≡ found → is_some found ≡ true
        → put_on (seen index objects held) (map (read_value index) (drop count (top_stack held))) (serial_of index place) word (content_of (read_value index value))
        ≡ Some (Goes (seen index (with_content objects (serial_of index place) word (content_of (read_value index value))) (stacked held (drop count (top_stack held)))))
    go None there is = absurd (false≢true is)
    go (Some object) there is =
        ap (option_map (λ (before : Object). Goes (put_into (seen index objects held) (serial_of index place) word (content_of (read_value index value)) (map (read_value index) (drop count (top_stack held)))))) there
        ∙ ap (λ roots. Some (Goes (record { roots = roots; objects = with_content objects (serial_of index place) word (content_of (read_value index value)) })))
        (sym (stacked_read index held (drop count (top_stack held))))

-- what is kept of a value reads as it is kept of what is read
pub kept_read : (index : ℕ → ℕ) (basic : Basic) (value : Value) → kept_value basic (read_value index value) ≡ read_value index (kept_value basic value)
kept_read index basic (values.Int number) = refl
kept_read index basic (values.Long number) = refl
kept_read index basic (values.Ref place) = refl

pub kept_refers : (basic : Basic) (value : Value) → referent (kept_value basic value) ≡ referent value
kept_refers basic (values.Int number) = refl
kept_refers basic (values.Long number) = refl
kept_refers basic (values.Ref place) = refl

-- a word that suits a type takes what is kept of a value of its sort
pub takes_so : (basic : Basic) (value : Value) (content : Option Content) → has_sort (sort_of_basic basic) (Some value) ≡ true → Suits basic content
    → takes (kept_value basic value) content ≡ true
takes_so basic value None sort suits = absurd suits
takes_so basics.Boolean (values.Int n) (Some (Number number)) sort suits = refl
takes_so basics.Byte (values.Int n) (Some (Number number)) sort suits = refl
takes_so basics.Char (values.Int n) (Some (Number number)) sort suits = refl
takes_so basics.Short (values.Int n) (Some (Number number)) sort suits = refl
takes_so basics.Int (values.Int n) (Some (Number number)) sort suits = refl
takes_so basics.Long (values.Long n) (Some (Number number)) sort suits = refl
takes_so (basics.Reference kind) (values.Ref place) (Some (Reference serial)) sort suits = refl
takes_so basics.Boolean value (Some (Reference serial)) sort suits = absurd suits
takes_so basics.Byte value (Some (Reference serial)) sort suits = absurd suits
takes_so basics.Char value (Some (Reference serial)) sort suits = absurd suits
takes_so basics.Short value (Some (Reference serial)) sort suits = absurd suits
takes_so basics.Int value (Some (Reference serial)) sort suits = absurd suits
takes_so basics.Long value (Some (Reference serial)) sort suits = absurd suits
takes_so (basics.Reference kind) value (Some (Number number)) sort suits = absurd suits
takes_so basics.Boolean (values.Long n) (Some (Number number)) sort suits = absurd (cc sort)
takes_so basics.Boolean (values.Ref n) (Some (Number number)) sort suits = absurd (cc sort)
takes_so basics.Byte (values.Long n) (Some (Number number)) sort suits = absurd (cc sort)
takes_so basics.Byte (values.Ref n) (Some (Number number)) sort suits = absurd (cc sort)
takes_so basics.Char (values.Long n) (Some (Number number)) sort suits = absurd (cc sort)
takes_so basics.Char (values.Ref n) (Some (Number number)) sort suits = absurd (cc sort)
takes_so basics.Short (values.Long n) (Some (Number number)) sort suits = absurd (cc sort)
takes_so basics.Short (values.Ref n) (Some (Number number)) sort suits = absurd (cc sort)
takes_so basics.Int (values.Long n) (Some (Number number)) sort suits = absurd (cc sort)
takes_so basics.Int (values.Ref n) (Some (Number number)) sort suits = absurd (cc sort)
takes_so basics.Long (values.Int n) (Some (Number number)) sort suits = absurd (cc sort)
takes_so basics.Long (values.Ref n) (Some (Number number)) sort suits = absurd (cc sort)
takes_so (basics.Reference kind) (values.Int n) (Some (Reference serial)) sort suits = absurd (cc sort)
takes_so (basics.Reference kind) (values.Long n) (Some (Reference serial)) sort suits = absurd (cc sort)

-- of null, and of what isn't
pub null_so : (index : ℕ → ℕ) (place : ℕ) (left : Option Left) → place ≡ 0 → unless_null (serial_of index place) left ≡ Some (Throws null_pointer)
null_so index zero left is = refl
null_so index (suc place) left is = absurd (cc is)

pub unless_so : (index : ℕ → ℕ) (place : ℕ) (left : Option Left) → ¬ (place ≡ 0) → unless_null (serial_of index place) left ≡ left
unless_so index zero left some = absurd (some refl)
unless_so index (suc place) left some = refl

no_word : (basic : Basic) → Suits basic None → ⊥
no_word basic suits = suits

-- an object with a word that suits a type is there
pub some_there : (objects : List (Option Object)) (serial word : ℕ) (basic : Basic) → Suits basic (content_at objects serial word) → is_some (object_in objects serial) ≡ true
some_there objects serial word basic suits = go (object_in objects serial) refl where
  go : (found : Option Object) → object_in objects serial ≡ found → is_some found ≡ true
  go None there =
      let none : content_at objects serial word ≡ None = rw there refl in
      absurd (no_word basic (subst (Suits basic) none suits))
  go (Some object) there = refl
