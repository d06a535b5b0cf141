-- Methods of a program by their numbers.
use Rattle.std.proofs.Common.{◌≡◌, ◌∙◌, ap, refl, sym, arith, ℕ, zero, suc, ◌+◌, Bool, not, ◌&&◌, List, [], ◌∷◌, ◌++◌, Option, Some, None, map}
use Rattle.std.specs.Prelude.{option_and_then, option_map, slice_get, ◌==◌}
use Rattle.std.specs.List.{range_with_len}
use Rattle.cb_classfile.specs.declared.body.Body.{Body}
use Rattle.cb_classfile.specs.declared.method.Method.{Method}
use Rattle.cb_link.specs.declared.linked.LinkedMethod.{LinkedMethod}
use Rattle.cb_link.specs.Named.{code_at, code_in, code_of}
use Rattle.cb_classfile.specs.Flags.{acc_static}
use Rattle.cb_link.specs.Numbers.{Numbered, has_flag, methods_of}
use Rattle.cb_link.specs.Program.{Linked}
use Rattle.cb_link.specs.Resolving.{object}
use Rattle.cb_verify.specs.Within.{is_init, method_at, of_class, text_in, with_body, within}

-- one more number, and what is taken of each
range_more : (first count : ℕ) → range_with_len first (suc count) ≡ range_with_len first count ++ (first + count) ∷ []
range_more first zero = ap (λ (number : ℕ). number ∷ []) (omega arith)
range_more first (suc count) =
    ap (λ (rest : List ℕ). first ∷ rest) (range_more (first + 1) count ∙ ap (λ (number : ℕ). range_with_len (first + 1) count ++ number ∷ []) (omega arith))

map_both : {X Y : Type 0} (part : X → Y) (front back : List X) → map part (front ++ back) ≡ map part front ++ map part back
map_both part [] back = refl
map_both part (item ∷ front) back = ap (λ rest. part item ∷ rest) (map_both part front back)

pub map_more : {Y : Type 0} (part : ℕ → Y) (count : ℕ) → map part (range_with_len 0 (count + 1)) ≡ map part (range_with_len 0 count) ++ part count ∷ []
map_more part count =
    ap (λ (count : ℕ). map part (range_with_len 0 count)) (let at : count + 1 ≡ suc count = omega arith in at)
    ∙ ap (map part) (range_more 0 count) ∙ map_both part (range_with_len 0 count) ((0 + count) ∷ [])
    ∙ ap (λ (number : ℕ). map part (range_with_len 0 count) ++ part number ∷ []) (omega arith)

-- the method of a number, by what the calls of a program tell of it
by_class : (program : Linked) (number class : ℕ) (method : Method) (linked : Option LinkedMethod)
    → option_map (λ (own : LinkedMethod). own.class) linked ≡ Some class
    → option_and_then (λ (own : LinkedMethod). of_class program number own.class method) linked ≡ of_class program number class method
by_class program number class method None so = absurd (cc so)
by_class program number class method (Some linked) so =
    ap (λ own. of_class program number own method) (let same : linked.class ≡ class = cc so in same)

pub within_found : (program : Linked) (number class : ℕ) (method : Method)
    → option_map (λ (own : LinkedMethod). own.class) (slice_get program.methods number) ≡ Some class → method_at program number ≡ Some method
    → within program number ≡ of_class program number class method
within_found program number class method one two =
    ap (λ found. option_and_then (λ (own : LinkedMethod). option_and_then (of_class program number own.class) found) (slice_get program.methods number)) two
    ∙ by_class program number class method (slice_get program.methods number) one

pub within_some : (program : Linked) (number class : ℕ) (method : Method) (body : Body) (static constructor : Bool)
    → option_map (λ (own : LinkedMethod). own.class) (slice_get program.methods number) ≡ Some class → method_at program number ≡ Some method
    → method.body ≡ Some body → static ≡ has_flag acc_static method.flags.0
    → constructor ≡ (is_init (text_in program class method.name) && not (class == object))
    → Some (record { program = program; number = number; class = class; is_static = static; is_constructor = constructor; body = body }) ≡ within program number
within_some program number class method body static constructor one two is also too =
    ap (λ own. Some (record { program = program; number = number; class = class; is_static = own; is_constructor = constructor; body = body })) also
    ∙ ap (λ own. Some (record { program = program; number = number; class = class; is_static = has_flag acc_static method.flags.0; is_constructor = own; body = body })) too
    ∙ sym (within_found program number class method one two ∙ ap (with_body program number class method) is)

pub within_none : (program : Linked) (number class : ℕ) (method : Method)
    → option_map (λ (own : LinkedMethod). own.class) (slice_get program.methods number) ≡ Some class → method_at program number ≡ Some method
    → method.body ≡ None → None ≡ within program number
within_none program number class method one two is = sym (within_found program number class method one two ∙ ap (with_body program number class method) is)

pub code_is : (program : Linked) (number : ℕ) (method : Method) (body : Body) → method_at program number ≡ Some method → method.body ≡ Some body
    → code_at program number ≡ body.code
code_is program number method body found is = go (slice_get (methods_of program.classes) number) found where
  go : (numbered : Option (Numbered Method)) → option_map (λ (own : Numbered Method). own.member) numbered ≡ Some method → code_of numbered ≡ body.code
  go None so = absurd (cc so)
  go (Some own) so =
      ap (λ (method : Method). code_in method.body) (let same : own.member ≡ method = cc so in same) ∙ ap code_in is
