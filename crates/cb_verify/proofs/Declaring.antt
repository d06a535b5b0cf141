-- The frames that a method declares, one after the other.
use Rattle.std.proofs.Common.{◌≡◌, ◌∙◌, ap, sym, refl, subst, ℕ, ◌+◌, ◌<◌, ◌≤◌, List, [], ◌∷◌, ◌++◌, append_assoc, drop, get_or, length, Option, Some, None, IfSome, option_and_then, option_map}
use Rattle.std.proofs.lemmas.List.{append-nil, drop_all, drop_more}
use Rattle.cb_classfile.specs.declared.frame_map.MapFrame.{MapFrame}
use Rattle.cb_classfile.specs.FrameMap.{form_of_frame}
use Rattle.cb_verify.specs.declared.verification_type.VerificationType.{VerificationType}
use Rattle.cb_classfile.specs.Expansion.{place_behind}
use Rattle.cb_verify.specs.Expansion.{declared, declared_behind, expanded, fitting, values_in}
use Rattle.cb_verify.specs.Frames.{Frame, laid}
use Rattle.cb_verify.specs.InnerLaid.{IsLaid, Laid, laid_behind, laid_in}
use Rattle.cb_verify.specs.Within.{Within}
use Rattle.cb_verify.proofs.LaidSteps.{Holds, holds}

abbrev pub values_of : Option Laid → Option (List VerificationType)
values_of all = option_map (λ laid. laid.values) all

-- those so far, and those that are left
pub record IsDeclared (method : Within) (previous : Option ℕ) (all : Option Laid) (left : List MapFrame) (done : List (ℕ × Option Frame)) : Type 0 where
  pub said : done ++ declared_behind method previous (values_of all) left ≡ declared method
  pub lies : IfSome all (IsLaid method.body.max_locals)

values_laid : (method : Within) (values : List VerificationType) → values_of (laid_in method.body.max_locals values) ≡ fitting method values
values_laid method values = go (laid method.body.max_locals values)
  where
    go : (locals : Option (List VerificationType))
        → option_map (λ (all : Laid). all.values) (option_map {U = Laid} (λ (found : List VerificationType). record { values = values; locals = found }) locals) ≡ option_map (λ (found : List VerificationType). values) locals
    go None = refl
    go (Some locals) = refl

values_behind : (method : Within) (values : Option (List VerificationType)) → values_of (option_and_then (laid_in method.body.max_locals) values) ≡ option_and_then (fitting method) values
values_behind method None = refl
values_behind method (Some values) = values_laid method values

pub laid_lies : (most : ℕ) (values : List VerificationType) → IfSome (laid_in most values) (IsLaid most)
laid_lies most values = go (laid_in most values) refl
  where
    go : (all : Option Laid) → laid_in most values ≡ all → IfSome all (IsLaid most)
    go None is = tt
    go (Some all) is = let held : Holds most values all = holds most values all is in ap (laid_in most) held.values ∙ is

laid_lies_behind : (most : ℕ) (values : Option (List VerificationType)) → IfSome (option_and_then (laid_in most) values) (IsLaid most)
laid_lies_behind most None = tt
laid_lies_behind most (Some values) = laid_lies most values

pub lies_behind : (method : Within) (frame : MapFrame) (all next : Option Laid) → next ≡ laid_behind method frame all → IfSome next (IsLaid method.body.max_locals)
lies_behind method frame all next is =
    subst (λ (some : Option Laid). IfSome some (IsLaid method.body.max_locals)) (sym is)
    (laid_lies_behind method.body.max_locals (values_in method (form_of_frame frame.kind) frame (values_of all)))

pub declared_more : (method : Within) (previous : Option ℕ) (all next : Option Laid) (frames : List MapFrame) (i place : ℕ) (frame : MapFrame) (full : Option Frame) (done more : List (ℕ × Option Frame))
    → i < length frames → frame ≡ get_or frames i frame → IsDeclared method previous all (drop i frames) done → place ≡ place_behind previous frame.delta → next ≡ laid_behind method frame all
    → full ≡ expanded method (values_of next) frame.stack → more ≡ done ++ (place, full) ∷ [] → IsDeclared method (Some place) next (drop (i + 1) frames) more
declared_more method previous all next frames i place frame full done more within is before at behind whole grown = record { said = said; lies = lies_behind method frame all next behind }
  where
    left : List MapFrame
    left = drop (i + 1) frames

    values : Option (List VerificationType)
    values = option_and_then (fitting method) (values_in method (form_of_frame frame.kind) frame (values_of all))

    same : values_of next ≡ values
    same = ap values_of behind ∙ values_behind method (values_in method (form_of_frame frame.kind) frame (values_of all))

    entry : ◌≡◌ {A = ℕ × Option Frame} (place, full) (place_behind previous frame.delta, expanded method values frame.stack)
    entry = ap (λ (n : ℕ). (n, full)) at ∙ ap (λ (found : Option Frame). (place_behind previous frame.delta, found)) (whole ∙ ap (λ (some : Option (List VerificationType)). expanded method some frame.stack) same)

    rest : declared_behind method (Some place) (values_of next) left ≡ declared_behind method (Some (place_behind previous frame.delta)) values left
    rest = ap (λ (n : ℕ). declared_behind method (Some n) (values_of next) left) at ∙ ap (λ (some : Option (List VerificationType)). declared_behind method (Some (place_behind previous frame.delta)) some left) same

    said : more ++ declared_behind method (Some place) (values_of next) left ≡ declared method
    said =
        ap (λ (all-done : List (ℕ × Option Frame)). all-done ++ declared_behind method (Some place) (values_of next) left) grown
        ∙ append_assoc done ((place, full) ∷ []) (declared_behind method (Some place) (values_of next) left)
        ∙ ap (λ (first : ℕ × Option Frame). done ++ first ∷ declared_behind method (Some place) (values_of next) left) entry
        ∙ ap (λ (behind-it : List (ℕ × Option Frame)). done ++ (place_behind previous frame.delta, expanded method values frame.stack) ∷ behind-it) rest
        ∙ ap (λ (first : MapFrame). done ++ declared_behind method previous (values_of all) (first ∷ left)) is
        ∙ ap (λ (some : List MapFrame). done ++ declared_behind method previous (values_of all) some) (sym (drop_more frames i frame within))
        ∙ before.said

pub declared_all : (method : Within) (previous : Option ℕ) (all : Option Laid) (frames : List MapFrame) (i : ℕ) (done : List (ℕ × Option Frame)) → length frames ≤ i
    → IsDeclared method previous all (drop i frames) done → done ≡ declared method
declared_all method previous all frames i done past before =
    sym (append-nil done)
    ∙ ap (λ (some : List MapFrame). done ++ declared_behind method previous (values_of all) some) (sym (drop_all i frames past))
    ∙ before.said
