-- Methods of a linked program by their numbers: the class that declares one, and its constants.
use Rattle.std.proofs.Common.{◌≡◌, ◌∙◌, ap, refl, sym, arith, ℕ, suc, ◌+◌, List, [], ◌∷◌, map, Option, Some, None, option_and_then, option_map, slice_get}
use Rattle.std.specs.List.{AllByRecursion, enumerate_from}
use Rattle.std.proofs.lemmas.Option.{slice_get-map}
use Rattle.cb_classfile.specs.declared.body.Body.{Body}
use Rattle.cb_classfile.specs.declared.class.ClassFile.{ClassFile}
use Rattle.cb_classfile.specs.declared.method.Method.{Method}
use Rattle.cb_kinds.specs.Texts.{number_of}
use Rattle.cb_link.specs.Having.{IsWhole}
use Rattle.cb_link.specs.Named.{kind_at}
use Rattle.cb_link.specs.Numbers.{Numbered, methods_of}
use Rattle.cb_link.specs.Program.{Linked, linked_method}
use Rattle.cb_text.specs.Naming.{class_at}
use Rattle.cb_text.specs.declared.constant.Constant.{Constant}
use Rattle.cb_verify.specs.Within.{Within, kind_named, with_body, within}
use Rattle.cb_safety.proofs.Assigned.{never}
use Rattle.cb_safety.proofs.Lists.{all_at, all_given}

-- ---- the members of classes

all_enumerated : {Item : Type 0} (items rest : List Item) (from : ℕ) → ((place : ℕ) (item : Item) → slice_get rest place ≡ Some item → slice_get items (from + place) ≡ Some item)
    → AllByRecursion (λ (entry : ℕ × Item). slice_get items entry.0 ≡ Some entry.1) (enumerate_from from rest)
all_enumerated items [] from there = tt
all_enumerated items (item ∷ rest) from there = (
  ap (slice_get items) (let same : from ≡ from + 0 = omega arith in same) ∙ there 0 item refl,
  all_enumerated items rest (from + 1)
      (λ place own is. ap (slice_get items) (let same : from + 1 + place ≡ from + suc place = omega arith in same) ∙ there (suc place) own is),
)

numbered_all : {Item : Type 0} (items : List Item) → AllByRecursion (λ (entry : ℕ × Item). slice_get items entry.0 ≡ Some entry.1) (enumerate_from 0 items)
numbered_all items = all_enumerated items items 0 (λ place item is. ap (slice_get items) (let same : 0 + place ≡ place = omega arith in same) ∙ is)

pub record Declares (classes : List ClassFile) (own : Numbered Method) : Type 0 where
  pub declaring : ClassFile
  pub there : slice_get classes own.class ≡ Some declaring
  pub pool : own.pool ≡ declaring.pool
  pub lists : slice_get declaring.methods own.place ≡ Some own.member

all_declared : (classes : List ClassFile) (class : ℕ) (declaring : ClassFile) → slice_get classes class ≡ Some declaring → (methods : List (ℕ × Method))
    → AllByRecursion (λ (own : ℕ × Method). slice_get declaring.methods own.0 ≡ Some own.1) methods
    → AllByRecursion (Declares classes) (map (λ (own : ℕ × Method). record { class = class; place = own.0; pool = declaring.pool; member = own.1 }) methods)
all_declared classes class declaring is [] all = tt
all_declared classes class declaring is (method ∷ methods) all =
    (record { declaring = declaring; there = is; pool = refl; lists = all.0 }, all_declared classes class declaring is methods all.1)

pub declared_by : (classes : List ClassFile) (number : ℕ) (own : Numbered Method) → slice_get (methods_of classes) number ≡ Some own → Declares classes own
declared_by classes number own there =
    all_at (Declares classes) (methods_of classes) number own
    (all_given (λ (entry : ℕ × ClassFile). slice_get classes entry.0 ≡ Some entry.1) (Declares classes)
    (λ (entry : ℕ × ClassFile). map (λ (own : ℕ × Method). record { class = entry.0; place = own.0; pool = entry.1.pool; member = own.1 }) (enumerate_from 0 entry.1.methods))
    (enumerate_from 0 classes)
    (λ entry is. all_declared classes entry.0 entry.1 is (enumerate_from 0 entry.1.methods) (numbered_all entry.1.methods))
    (numbered_all classes))
    there

-- ---- the environment of a method

pub record IsOwn (program : Linked) (number : ℕ) (method : Within) (own : Numbered Method) : Type 0 where
  pub own_number : method.number ≡ number
  pub declaring : ClassFile
  pub there : slice_get program.classes method.class ≡ Some declaring
  pub pool : own.pool ≡ declaring.pool

abbrev number_in : Option Within → ℕ
number_in None = 0
number_in (Some method) = method.number

abbrev class_in : Option Within → ℕ
class_in None = 0
class_in (Some method) = method.class

bodied : (program : Linked) (number class : ℕ) (member : Method) (body : Option Body) (method : Within) → with_body program number class member body ≡ Some method
    → (number ≡ method.number) × (class ≡ method.class)
bodied program number class member None method so = never so
bodied program number class member (Some body) method so = (ap number_in so, ap class_in so)

pub is_own : (program : Linked) (number : ℕ) (method : Within) (own : Numbered Method) → IsWhole program → within program number ≡ Some method
    → slice_get (methods_of program.classes) number ≡ Some own → IsOwn program number method own
is_own program number method own whole so there =
    let linked : slice_get program.methods number ≡ Some (linked_method program.kinds own) =
    ap (λ methods. slice_get methods number) whole.methods ∙ slice_get-map (linked_method program.kinds) (methods_of program.classes) number ∙ ap (option_map (linked_method program.kinds)) there in
    let at : with_body program number own.class own.member own.member.body ≡ Some method = rw (linked, there) at so in
    let both = bodied program number own.class own.member own.member.body method at in
    let by = declared_by program.classes number own there in
    record {
      own_number = sym both.0;
      declaring = by.declaring;
      there = ap (slice_get program.classes) (sym both.1) ∙ by.there;
      pool = by.pool;
    }

-- the kind that a constant of its class names
pub kind_named_is : (program : Linked) (number : ℕ) (method : Within) (own : Numbered Method) (index : ℕ) → method.program ≡ program → IsOwn program number method own
    → kind_named method index ≡ option_and_then (number_of program.kinds) (class_at own.pool index)
kind_named_is program number method own index same is =
    (λ i. kind_at (same i) method.class index)
    ∙ ap (option_and_then (λ (declaring : ClassFile). option_and_then (number_of program.kinds) (class_at declaring.pool index))) is.there
    ∙ ap (λ (pool : List Constant). option_and_then (number_of program.kinds) (class_at pool index)) (sym is.pool)
