-- Uses of constants, one after the other.
use Rattle.std.proofs.Common.{◌≡◌, ◌∙◌, ap, refl, List, [], ◌∷◌, ◌++◌, Result, Ok, Err, OnOk, append_assoc, codes}
use Rattle.std.specs.List.{flat_map}
use Rattle.cb_asm_line.specs.declared.frame.FrameLine.{FrameLine}
use Rattle.cb_asm_record.specs.Entries.{Text}
use Rattle.cb_asm_record.specs.Uses.{frame_uses, frames_uses}

-- where there are frames, the name of their attribute stands before them
pub frames_named : (frames : List FrameLine) → ¬ (frames ≡ []) → frames_uses frames ≡ Text (codes "StackMapTable") ∷ flat_map frame_uses frames
frames_named [] some = absurd (some refl)
frames_named (frame ∷ frames) some = refl

-- what is added after something else is added with it
pub then_more : {Done Fault Item : Type 0} (result : Result Done Fault) (old mid new one other : List Item) → mid ≡ old ++ one → OnOk result (new ≡ mid ++ other) → OnOk result (new ≡ old ++ (one ++ other))
then_more (Ok done) old mid new one other first second = second ∙ ap (λ before. before ++ other) first ∙ append_assoc old one other
then_more (Err fault) old mid new one other first second = tt
