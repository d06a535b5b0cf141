-- The labels of code: those that stand, those that are named, and of these the ones that don't stand.
use Rattle.std.proofs.Common.{◌≡◌, ◌≢◌, ◌↔◌, ◌⊎◌, inl, inr, ◌∙◌, ap, sym, refl, subst, arith, ℕ, zero, suc, ◌+◌, ◌-◌, ◌<◌, Bool, true, false, cond, List, [], ◌∷◌, ◌++◌, length, get_or, map, Option, Some, None, IsTrue, is_some, slice_get, take, Contains, if◌then◌else◌, Bor}
use Rattle.std.proofs.lemmas.Bool.{false≢true}
use Rattle.std.proofs.lemmas.List.{get_or_default, map_more, map_push, take_more}
use Rattle.std.proofs.lemmas.List.Elements.{Contains-append_left, Contains-push, Contains-push_cases}
use Rattle.std.proofs.lemmas.List.Quantifiers.{all_pairs_push}
use Rattle.std.proofs.lemmas.Map.Text.{is_eq-slice_cmp}
use Rattle.std.proofs.lemmas.Slice.Eq.{bytes_eq-Decides}
use Rattle.std.specs.BTreeSet.{BTreeSet, Updates, contains_by}
use Rattle.std.specs.Cmp.Lexicographic.{slice_cmp}
use Rattle.std.specs.List.{AllByRecursion, AllPairs}
use Rattle.std.specs.Ordering.{nat_cmp}
use Rattle.cb_asm_line.specs.Label.{Label}
use Rattle.cb_asm_line.specs.Lines.{same_text}
use Rattle.cb_asm_line.specs.declared.program.CodeLine.{CodeLine}
use Rattle.cb_asm_line.specs.declared.program.CodeLine.TheVariants.{Here, Do}
use Rattle.cb_asm_line.specs.declared.program.MethodText.{MethodText}
use Rattle.cb_asm_line.specs.declared.operand.Instruction.{Instruction}
use Rattle.cb_asm_prefix.specs.Closing.{AreOpen, code_lines_of, last_code, named_labels}
use Rattle.cb_asm_record.specs.Grammar.{HasLabel}
use Rattle.cb_asm_record.specs.Labels.{labels_from, place_in, size_at}
use Rattle.cb_asm.proofs.Parts.{all_more}

-- what is the same is one
label_is : (one other : Label) → same_text one other ≡ true → one ≡ other
label_is one other same = (bytes_eq-Decides one other).0 same

label_itself : (label : Label) → same_text label label ≡ true
label_itself label = (bytes_eq-Decides label label).1 refl

-- the code of the last method
last_lines : (methods : List MethodText) (method : MethodText) (place : ℕ) → place + 1 ≡ length methods → slice_get methods place ≡ Some method → code_lines_of method.code ≡ last_code methods
last_lines [] method place last is = absurd (omega (arith, last))
last_lines (first ∷ []) method zero last is = ap (λ (found : Option MethodText). code_of found) (sym is) where
  code_of : Option MethodText → List CodeLine
  code_of None = []
  code_of (Some found) = code_lines_of found.code
last_lines (first ∷ []) method (suc place) last is = absurd (omega (arith, last))
last_lines (first ∷ next ∷ methods) method zero last is = absurd (omega (arith, last))
last_lines (first ∷ next ∷ methods) method (suc place) last is = last_lines (next ∷ methods) method place (omega (arith, last)) is

pub last_found : (methods : List MethodText) (method : MethodText) → Some method ≡ slice_get methods (length methods - 1) → code_lines_of method.code ≡ last_code methods
last_found [] method is = absurd cc
last_found (first ∷ methods) method is = last_lines (first ∷ methods) method (length (first ∷ methods) - 1) (omega arith) (sym is)

-- the lines with one more
pub line_more : (lines : List CodeLine) (index : ℕ) (line : CodeLine) → index < length lines → line ≡ get_or lines index line → take (index + 1) lines ≡ take index lines ++ line ∷ []
line_more lines index line below is = take_more lines index line below ∙ ap (λ one. take index lines ++ one ∷ []) (sym is)

-- the labels that a set has, and which of them it has after one more
abbrev pub had : BTreeSet (Bor Label) → Label → Bool
had labels label = contains_by (λ key. slice_cmp nat_cmp label key.now) labels

abbrev pub Adds : (Label → Bool) → (Label → Bool) → Label → Type 0
Adds before now label = (other : Label) → now other ≡ cond (same_text label other) true (before other)

pub adds : (label : Bor Label) (before now : BTreeSet (Bor Label)) → Updates (λ one other. slice_cmp nat_cmp one.now other.now) before now label true → Adds (had before) (had now) label.now
adds label before now updates other =
    let one : Bor Label = record { ref_ptr = label.ref_ptr; now = other } in
    updates.0 one ∙ ap (λ same. cond same true (had before other)) (is_eq-slice_cmp label.now other)

-- whether a label stands among lines with one more
here_more : (pc : ℕ) (lines : List CodeLine) (more label : Label) → is_some (place_in (labels_from pc (lines ++ Here more ∷ [])) label) ≡ cond (same_text more label) true (is_some (place_in (labels_from pc lines) label))
here_more pc [] more label = of (same_text more label) where
  of : (same : Bool) → is_some (if same then Some pc else None) ≡ cond same true false
  of true = refl
  of false = refl
here_more pc (Here first ∷ lines) more label = of (same_text first label) (same_text more label) (here_more pc lines more label) where
  of : (same also : Bool) → is_some (place_in (labels_from pc (lines ++ Here more ∷ [])) label) ≡ cond also true (is_some (place_in (labels_from pc lines) label))
      → is_some (if same then Some pc else place_in (labels_from pc (lines ++ Here more ∷ [])) label) ≡ cond also true (is_some (if same then Some pc else place_in (labels_from pc lines) label))
  of true true rest = refl
  of true false rest = refl
  of false also rest = rest
here_more pc (Do instruction ∷ lines) more label = here_more (pc + size_at pc instruction) lines more label

do_more : (pc : ℕ) (lines : List CodeLine) (more : Instruction) (label : Label) → is_some (place_in (labels_from pc (lines ++ Do more ∷ [])) label) ≡ is_some (place_in (labels_from pc lines) label)
do_more pc [] more label = refl
do_more pc (Here first ∷ lines) more label = of (same_text first label) (do_more pc lines more label) where
  of : (same : Bool) → is_some (place_in (labels_from pc (lines ++ Do more ∷ [])) label) ≡ is_some (place_in (labels_from pc lines) label)
      → is_some (if same then Some pc else place_in (labels_from pc (lines ++ Do more ∷ [])) label) ≡ is_some (if same then Some pc else place_in (labels_from pc lines) label)
  of true rest = refl
  of false rest = rest
do_more pc (Do instruction ∷ lines) more label = do_more (pc + size_at pc instruction) lines more label

-- these are the labels that stand among lines
pub record Stand (lines : List CodeLine) (has : Label → Bool) : Type 0 where
  pub each : (label : Label) → has label ≡ is_some (place_in (labels_from 0 lines) label)

pub stand_label : (lines : List CodeLine) (label : Label) (before now : Label → Bool) → Stand lines before → Adds before now label → Stand (lines ++ Here label ∷ []) now
stand_label lines label before now stand more = record { each = λ other. more other ∙ ap (cond (same_text label other) true) (stand.each other) ∙ sym (here_more 0 lines label other) }

pub stand_instruction : (lines : List CodeLine) (instruction : Instruction) (has : Label → Bool) → Stand lines has → Stand (lines ++ Do instruction ∷ []) has
stand_instruction lines instruction has stand = record { each = λ other. stand.each other ∙ sym (do_more 0 lines instruction other) }

-- some labels are those of the named ones that weren't had before, each once, and now all of them are had
pub record AreTaken (before now : Label → Bool) (named labels : List Label) : Type 0 where
  pub once : AllPairs (λ one other. one ≢ other) labels
  pub new : AllByRecursion (λ label. Contains named label × (before label ≡ false)) labels
  pub all : AllByRecursion (λ label. now label ≡ true) named
  pub known : (label : Label) → now label ≡ true → (before label ≡ true) ⊎ Contains labels label
  pub kept : (label : Label) → before label ≡ true → now label ≡ true
  pub taken : (label : Label) → Contains labels label → now label ≡ true

all_each : {Item : Type 0} (P Q : Item → Type 0) → ((item : Item) → P item → Q item) → (items : List Item) → AllByRecursion P items → AllByRecursion Q items
all_each P Q each [] all = tt
all_each P Q each (item ∷ items) all = (each item all.0, all_each P Q each items all.1)

true_or_false : (test : Bool) → (test ≡ true) ⊎ (test ≡ false)
true_or_false true = inl refl
true_or_false false = inr refl

module _ (before now later : Label → Bool) (named labels : List Label) (label : Label) (taken : AreTaken before now named labels) (more : Adds now later label) where
  stays : (other : Label) → now other ≡ true → later other ≡ true
  stays other is = more other ∙ of (same_text label other) is where
    of : (same : Bool) → now other ≡ true → cond same true (now other) ≡ true
    of true is = refl
    of false is = is

  there : later label ≡ true
  there = more label ∙ ap (λ same. cond same true (now label)) (label_itself label)

  either : (other : Label) → later other ≡ true → (label ≡ other) ⊎ (now other ≡ true)
  either other is = of (same_text label other) refl (sym (more other) ∙ is) where
    of : (same : Bool) → same_text label other ≡ same → cond same true (now other) ≡ true → (label ≡ other) ⊎ (now other ≡ true)
    of true same is = inl (label_is label other same)
    of false same is = inr is

  all_later : AllByRecursion (λ other. later other ≡ true) (named ++ label ∷ [])
  all_later = all_more (λ other. later other ≡ true) named label (all_each (λ other. now other ≡ true) (λ other. later other ≡ true) stays named taken.all) there

  new_still : AllByRecursion (λ other. Contains (named ++ label ∷ []) other × (before other ≡ false)) labels
  new_still =
      all_each (λ other. Contains named other × (before other ≡ false)) (λ other. Contains (named ++ label ∷ []) other × (before other ≡ false)) (λ other is. (Contains-append_left named (label ∷ []) other is.0, is.1)) labels taken.new

  -- one that isn't had is taken
  takes : now label ≡ false → AreTaken before later (named ++ label ∷ []) (labels ++ label ∷ [])
  takes lacks = record {
    once = all_pairs_push (λ one other. one ≢ other) labels label taken.once apart;
    new = all_more (λ other. Contains (named ++ label ∷ []) other × (before other ≡ false)) labels label new_still (Contains-push named label, lacked (true_or_false (before label)));
    all = all_later;
    known = λ other is. known other (either other is);
    kept = λ other is. stays other (taken.kept other is);
    taken = λ other among. among_more other (Contains-push_cases labels label other among);
  } where
    apart : (place : ℕ) (other : Label) → place < length labels → get_or labels place other ≡ label → ⊥
    apart place other below is =
        false≢true (sym lacks ∙ taken.taken label (place, below, get_or_default labels place label other below ∙ is))

    lacked : (before label ≡ true) ⊎ (before label ≡ false) → before label ≡ false
    lacked (inl is) = absurd (false≢true (sym lacks ∙ taken.kept label is))
    lacked (inr is) = is

    known_before : (other : Label) → (before other ≡ true) ⊎ Contains labels other → (before other ≡ true) ⊎ Contains (labels ++ label ∷ []) other
    known_before other (inl is) = inl is
    known_before other (inr among) = inr (Contains-append_left labels (label ∷ []) other among)

    known : (other : Label) → (label ≡ other) ⊎ (now other ≡ true) → (before other ≡ true) ⊎ Contains (labels ++ label ∷ []) other
    known other (inl is) = inr (subst (λ one. Contains (labels ++ label ∷ []) one) is (Contains-push labels label))
    known other (inr is) = known_before other (taken.known other is)

    among_more : (other : Label) → Contains labels other ⊎ (label ≡ other) → later other ≡ true
    among_more other (inl among) = stays other (taken.taken other among)
    among_more other (inr is) = subst (λ one. later one ≡ true) is there

  -- and one that is had is left
  leaves : now label ≡ true → AreTaken before later (named ++ label ∷ []) labels
  leaves has = record {
    once = taken.once;
    new = new_still;
    all = all_later;
    known = λ other is. taken.known other (known other (either other is));
    kept = λ other is. stays other (taken.kept other is);
    taken = λ other among. stays other (taken.taken other among);
  } where
    known : (other : Label) → (label ≡ other) ⊎ (now other ≡ true) → now other ≡ true
    known other (inl is) = subst (λ one. now one ≡ true) is has
    known other (inr is) = is

-- the same of the next of the named ones
abbrev pub texts : List (Bor Label) → List Label
texts labels = map (λ label. label.now) labels

module _ (before : Label → Bool) (now later : BTreeSet (Bor Label)) (named labels : List (Bor Label)) (index : ℕ) (d : Bor Label)
    (taken : AreTaken before (had now) (texts (take index named)) (texts labels)) (below : index < length named)
    (more : Updates (λ one other. slice_cmp nat_cmp one.now other.now) now later (get_or named index d) true) where
  pub takes_next : had now (get_or named index d).now ≡ false → AreTaken before (had later) (texts (take (index + 1) named)) (texts (labels ++ get_or named index d ∷ []))
  takes_next lacks = rw (map_more (λ label. label.now) named index d below, map_push (λ label. label.now) labels (get_or named index d)) (takes before (had now) (had later) _ _ _ taken (adds (get_or named index d) now later more) lacks)

  pub leaves_next : had now (get_or named index d).now ≡ true → AreTaken before (had later) (texts (take (index + 1) named)) (texts labels)
  leaves_next has = rw (map_more (λ label. label.now) named index d below) (leaves before (had now) (had later) _ _ _ taken (adds (get_or named index d) now later more) has)

-- where those that stand were had before, those that are taken are open
pub are_open : (before now : Label → Bool) (lines : List CodeLine) (named labels : List Label) → AreTaken before now named labels → named ≡ named_labels lines
    → ((label : Label) → IsTrue (before label) ↔ HasLabel lines label) → AreOpen lines labels
are_open before now lines named labels taken are stand = record {
  once = taken.once;
  named =
      all_each (λ label. Contains named label × (before label ≡ false)) (λ label. Contains (named_labels lines) label × (HasLabel lines label → ⊥)) (λ label is. (subst (λ labels. Contains labels label) are is.0, λ stands. false≢true (sym is.1 ∙ (stand label).1 stands))) labels taken.new;
  all = subst (λ named. AllByRecursion (λ label. HasLabel lines label ⊎ Contains labels label) named) are (all_each (λ label. now label ≡ true) (λ label. HasLabel lines label ⊎ Contains labels label) (λ label is. known label (taken.known label is)) named taken.all);
} where
  known : (label : Label) → (before label ≡ true) ⊎ Contains labels label → HasLabel lines label ⊎ Contains labels label
  known label (inl is) = inl ((stand label).0 is)
  known label (inr among) = inr among
