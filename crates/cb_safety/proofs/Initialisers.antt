-- The initialisers of the classes of a program that is linked and typed.
use Rattle.std.proofs.Common.{◌≡◌, ◌∙◌, ap, sym, subst, ℕ, Bool, true, List, [], ◌∷◌, ◌++◌, map, Some, option_and_then}
use Rattle.std.specs.Prelude.{codes, if◌then◌else◌}
use Rattle.std.proofs.lemmas.Bool.{eq-eqb}
use Rattle.std.proofs.lemmas.Option.{option_and_then_some}
use Rattle.cb_classfile.specs.Class.{IsWellFormed}
use Rattle.cb_classfile.specs.Members.{IsInitialiser as IsClassInitialiser, IsMethod}
use Rattle.cb_classfile.specs.Pool.{text_at}
use Rattle.cb_classfile.specs.declared.body.Body.{Body}
use Rattle.cb_classfile.specs.declared.method.Method.{Method}
use Rattle.cb_hierarchy.specs.Members.{method_of}
use Rattle.cb_kinds.specs.Texts.{number_of_pair}
use Rattle.cb_link.specs.Calls.{initialiser, initialiser_texts}
use Rattle.cb_link.specs.Having.{IsWhole, parameters_at}
use Rattle.cb_link.specs.Numbers.{Numbered, method_texts, or_none, ranked_methods}
use Rattle.cb_link.specs.Program.{Linked}
use Rattle.cb_text.specs.declared.constant.Constant.{Constant}
use Rattle.cb_verify.specs.declared.verification_type.VerificationType.{VerificationType}
use Rattle.cb_verify.specs.declared.verification_type.VerificationType.TheVariants.{Object, This}
use Rattle.cb_verify.specs.Expansion.{start_types}
use Rattle.cb_verify.specs.Typed.{IsTyped}
use Rattle.cb_verify.specs.Types.{type_of}
use Rattle.cb_verify.specs.Within.{parameters}
use Rattle.cb_safety.specs.Frames.{Stands}
use Rattle.cb_safety.specs.Held.{HaveTypes}
use Rattle.cb_safety.specs.Initialisers.{HasInitialisers, IsInitialiser, entry_frame}
use Rattle.cb_safety.specs.Kinds.{Kinds}
use Rattle.cb_safety.specs.Linked.{IsLinked}
use Rattle.cb_safety.proofs.Beginning.{method_begins}
use Rattle.cb_safety.proofs.Coded.{well_formed_code, well_formed_spelled}
use Rattle.cb_safety.proofs.Declared.{Declares, declared_by, is_own}
use Rattle.cb_safety.proofs.Entering.{AreTold, entry_stands}
use Rattle.cb_safety.proofs.Entries.{within_method}
use Rattle.cb_safety.proofs.Linking.{linked_formed, linked_holds, linked_whole}
use Rattle.cb_safety.proofs.Lists.{all_at}
use Rattle.cb_safety.proofs.MethodNames.{HasWithin, IsFound, class_methods, gives_by, has_within, method_found, name_there, some_body, takes_by}

initialiser_found : (program : Linked) (class method : ℕ) → initialiser program.classes class ≡ Some method → IsFound program.classes class method initialiser_texts
initialiser_found program class method is =
    option_and_then_some (λ (signature : ℕ). method_of (ranked_methods program.classes) class signature) (number_of_pair (method_texts program.classes) initialiser_texts) method is
    (λ signature signed found. method_found program.classes class signature method initialiser_texts signed found)

module _ (program : Linked) (is : IsLinked program) (typed : IsTyped program) (class number : ℕ) (initialises : initialiser program.classes class ≡ Some number) where
  whole : IsWhole program
  whole = linked_whole program is

  found : IsFound program.classes class number initialiser_texts
  found = initialiser_found program class number initialises

  declares : Declares program.classes found.own
  declares = declared_by program.classes number found.own found.there

  rules : IsMethod found.own.pool found.own.member
  rules =
      subst (λ (pool : List Constant). IsMethod pool found.own.member) (sym declares.pool)
      (all_at (IsMethod declares.declaring.pool) declares.declaring.methods found.own.place found.own.member
      (class_methods declares.declaring (all_at IsWellFormed program.classes found.own.class declares.declaring (linked_formed program is) declares.there)) declares.lists)

  asked : IsClassInitialiser found.own.pool found.own.member
  asked = rules.initialiser (name_there program.classes class number _ _ _ found)

  body : (own : Body) × (found.own.member.body ≡ Some own)
  body = some_body found.own.member.body asked.2

  has : HasWithin program number found.own body.0
  has = has_within program whole number found.own found.there body.0 body.1

  static : has.method.is_static ≡ true
  static = has.is_static ∙ eq-eqb _ _ asked.0

  descriptor : or_none (text_at found.own.pool found.own.member.descriptor) ≡ codes "()V"
  descriptor = ap (λ (texts : List ℕ × List ℕ). texts.1) found.has

  takes : parameters_at program number ≡ []
  takes = takes_by program whole number found.own found.there (codes "()V") descriptor

  own : has.method.program ≡ program
  own = (within_method program number has.method has.within).own

  own_number : has.method.number ≡ number
  own_number = (is_own program number has.method found.own whole has.within found.there).own_number

  starts : start_types has.method ≡ []
  starts =
      ap (λ (test : Bool). (if test then [] else if has.method.is_constructor then This ∷ [] else Object has.method.class ∷ []) ++ map type_of (parameters has.method)) static
      ∙ ap (λ (program : Linked). map type_of (parameters_at program has.method.number)) own
      ∙ ap (λ (number : ℕ). map type_of (parameters_at program number)) own_number
      ∙ ap (map type_of) takes

  stands : (kinds : Kinds) → Stands program kinds (entry_frame number body.0)
  stands kinds =
      subst (λ (body : Body). Stands program kinds (entry_frame number body)) has.body_is
      (entry_stands program (linked_holds program is) kinds number has.method [] has.within
      (method_begins program number has.method typed (well_formed_spelled program (linked_formed program is)) (well_formed_code program (linked_formed program is)) has.within)
      (subst (λ (types : List VerificationType). HaveTypes has.method kinds types []) (sym starts) HaveTypes.NoMore)
      (subst AreTold (sym starts) tt))

  is_initialiser : IsInitialiser program number
  is_initialiser = record {
    body = body.0;
    is = ap (option_and_then (λ (own : Numbered Method). own.member.body)) found.there ∙ body.1;
    gives = gives_by program whole number found.own found.there (codes "()V") descriptor;
    stands = stands;
  }

pub has_initialisers : (program : Linked) → IsLinked program → IsTyped program → HasInitialisers program
has_initialisers program is typed class number initialises = is_initialiser program is typed class number initialises
