-- The kind of the objects of an instruction's site is that of what it makes.
use Rattle.std.proofs.Common.{◌≡◌, ap, sym, ◌∙◌, arith, ℕ, suc, ◌+◌, List, [], ◌∷◌, ◌++◌, length, map, Some, option_map}
use Rattle.std.proofs.lemmas.Option.{slice_get-map}
use Rattle.std.specs.List.{slice_get}
use Rattle.cb_kinds.specs.Basics.{kind_number}
use Rattle.cb_link.specs.declared.linked.Site.{Site}
use Rattle.cb_link.specs.Having.{site_kinds}
use Rattle.cb_link.specs.Named.{IsSite, made_at}
use Rattle.cb_link.specs.Program.{Linked}
use Rattle.cb_verify.specs.declared.verification_type.VerificationType.TheVariants.{Object}

get_behind : {X : Type 0} (front back : List X) (i : ℕ) → slice_get (front ++ back) (length front + i) ≡ slice_get back i
get_behind [] back i = ap (slice_get back) (omega arith)
get_behind (x ∷ front) back i =
    ap (slice_get (x ∷ front ++ back)) (let at : length (x ∷ front) + i ≡ suc (length front + i) = omega arith in at) ∙ get_behind front back i

pub made_kind : (program : Linked) (method pc number kind : ℕ) → IsSite program method pc 0 number → slice_get (site_kinds program) number ≡ Some kind
    → Some (Object kind) ≡ option_map (λ name. Object (kind_number program.kinds name)) (slice_get (made_at program method pc) 0)
made_kind program method pc number kind is found =
    ap (option_map Object) (sym found ∙ named) ∙ sym (ap (option_map (λ name. Object (kind_number program.kinds name))) is.makes)
  where
    own : Site → ℕ
    own site = site.kind

    named : slice_get (site_kinds program) number ≡ Some (kind_number program.kinds is.kind)
    named =
        ap (slice_get (site_kinds program)) is.behind
        ∙ get_behind program.fixed (map own program.sites) is.place
        ∙ slice_get-map own program.sites is.place
        ∙ ap (option_map own) is.there
