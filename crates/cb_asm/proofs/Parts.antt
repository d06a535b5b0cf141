-- Lines of one kind, one after the other.
use Rattle.std.proofs.Common.{◌≡◌, ◌≢◌, ◌∙◌, ap, sym, refl, subst, arith, append_assoc, ℕ, suc, ◌+◌, ◌≤◌, List, [], ◌∷◌, ◌++◌, length, map}
use Rattle.std.specs.List.{AllByRecursion}
use Rattle.std.proofs.lemmas.List.{map-append}
use Rattle.cb_asm_line.specs.declared.frame.Frame.{Frame}
use Rattle.cb_asm_line.specs.declared.frame.FrameLine.{FrameLine}
use Rattle.cb_asm_line.specs.declared.frame.FrameLine.TheVariants.{Full, Bad}
use Rattle.cb_asm_line.specs.declared.statement.Statement.{Statement}
use Rattle.cb_asm_line.specs.declared.statement.Statement.TheVariants as statements
use Rattle.cb_asm_line.specs.Label.{Label}
use Rattle.cb_asm_line.specs.Statements.{IsWhole}
use Rattle.cb_asm.specs.Inner.{BeginsWithNone, TakesParts, frame_statement}

-- the line of a frame says one that isn't bad, and no other line says one
pub frame_there : (statement : Statement) (frame : Frame Label) → statement ≡ statements.Frame frame
    → (part : FrameLine) × IsWhole part × (statement ≡ frame_statement part)
frame_there statement frame is = (Full frame, tt, is)

pub no_frame : (statement : Statement) → ((frame : Frame Label) → statement ≡ statements.Frame frame → ⊥)
    → (part : FrameLine) → IsWhole part → statement ≢ frame_statement part
no_frame statement none (Full frame) whole is = none frame is
no_frame statement none Bad whole is = absurd whole

-- one more part is taken
pub one_more : {Part : Type 0} (said : Part → Statement) (whole rest next : List Statement) (parts : List Part) (part : Part)
    → whole ≡ map said parts ++ rest → rest ≡ said part ∷ next → whole ≡ map said (parts ++ part ∷ []) ++ next
one_more said whole rest next parts part are is =
    are ∙ ap (λ lines. map said parts ++ lines) is ∙ sym (append_assoc (map said parts) (said part ∷ []) next)
    ∙ ap (λ lines. lines ++ next) (sym (map-append said parts (part ∷ [])))

pub all_more : {Item : Type 0} (Is : Item → Type 0) (items : List Item) (item : Item) → AllByRecursion Is items → Is item → AllByRecursion Is (items ++ item ∷ [])
all_more Is [] item all is = (is, tt)
all_more Is (first ∷ items) item all is = (all.0, all_more Is items item all.1 is)

pub fewer : (rest next : List Statement) (first : Statement) → rest ≡ first ∷ next → suc (length next) ≤ length rest
fewer rest next first is = let long : length rest ≡ suc (length next) = ap length is in omega (arith, long)

-- lines of one kind before others that begin with none of it are told apart from those
pub runs : {Part : Type 0} (said : Part → Statement) (Keeps : Part → Type 0)
    → ((one other : Part) → Keeps one → Keeps other → said one ≡ said other → one ≡ other)
    → (one other : List Part) (rest next : List Statement) → AllByRecursion Keeps one → AllByRecursion Keeps other
    → map said one ++ rest ≡ map said other ++ next → BeginsWithNone said Keeps rest → BeginsWithNone said Keeps next
    → (one ≡ other) × (rest ≡ next)
runs said Keeps same [] [] rest next kept too are none neither = (refl, are)
runs said Keeps same [] (part ∷ other) rest next kept too are none neither = absurd (none part (map said other ++ next) too.0 are)
runs said Keeps same (part ∷ one) [] rest next kept too are none neither = absurd (neither part (map said one ++ rest) kept.0 (sym are))
runs said Keeps same (part ∷ one) (first ∷ other) rest next kept too are none neither =
    let front : said part ≡ said first = cc are in
    let back : map said one ++ rest ≡ map said other ++ next = cc are in
    let behind = runs said Keeps same one other rest next kept.1 too.1 back none neither in
    let here = same part first kept.0 too.0 front in
    (ap (λ each. each ∷ one) here ∙ ap (λ each. first ∷ each) behind.0, behind.1)

-- no more parts stand there
pub all_taken : {Part : Type 0} (said : Part → Statement) (Keeps : Part → Type 0) (whole rest now : List Statement) (parts : List Part)
    → whole ≡ map said parts ++ rest → AllByRecursion Keeps parts → (now ≡ rest) × BeginsWithNone said Keeps rest → TakesParts said Keeps whole now parts
all_taken said Keeps whole rest now parts are kept end =
    record { stand = are ∙ ap (λ lines. map said parts ++ lines) (sym end.0); kept = kept; none = subst (BeginsWithNone said Keeps) (sym end.0) end.1 }
