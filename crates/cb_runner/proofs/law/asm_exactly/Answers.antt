use Rattle.std.proofs.Common.{◌≡◌, ◌↔◌, ℕ, ◌+◌, ◌<◌, ◌≤◌, List, length, IfSome, Option, Some, sym, ◌∙◌, ap, subst, arith}
use Rattle.cb_asm.specs.Answers.{StopsAt}
use Rattle.cb_asm_record.specs.Grammar.{Assembles}
use Rattle.cb_classfile.specs.declared.class.ClassFile.{ClassFile}
use Rattle.cb_classfile.specs.Class.{class_bytes}
use Rattle.cb_io.specs.Folder.{Files}
use Rattle.cb_link.specs.declared.refusal.Quantity.TheVariants.{AssemblyBytes}
use Rattle.cb_runner.specs.Answer.{Answers}
use Rattle.cb_runner.specs.Asm.{AssemblesText, TooLong, Assembled, Bad, text_limit}
use Rattle.cb_runner.specs.Ending.{Ending, refused, returned}
use Rattle.cb_runner.specs.Messages.{BadLine, TooLarge}
use Rattle.cb_runner.specs.Words.{Assemble}
use Rattle.cb_runner.proofs.Digits.{differ, digit, returns_unrefused}
use Rattle.cb_runner.proofs.law.asm_exactly.Goals as goal

-- by the text that the input tells
by_text : {In : Type 0} (left : In → Option (List ℕ)) (gave : In → ℕ → List ℕ → In → Type 0) (text : List ℕ) (files : Option Files) (first last : In) (ending : Ending) → left first ≡ Some text → Answers left gave Assemble files first last ending → AssemblesText text ending
by_text left gave text files first last ending tells (told, is, reads, assembles) =
    subst (λ text. AssemblesText text ending) (sym (subst (λ (left : Option (List ℕ)). IfSome left (λ left. left ≡ told)) tells is)) assembles

too_large : (text : List ℕ) (ending : Ending) → AssemblesText text ending → (ending ≡ refused (TooLarge AssemblyBytes (text_limit + 1) text_limit) (text_limit + 1)) ↔ (text_limit < length text)
too_large text ending (TooLong long is) = (λ again. long, λ again. is)
too_large text ending (Assembled short class text_of is) = (λ large. absurd (returns_unrefused ending (ap (λ e. e.cause) is) (ap (λ e. e.cause) large)), λ long. let none : ⊥ = omega (arith, short, long) in absurd none)
too_large text ending (Bad short line stops is) = (λ large. absurd (differ ending 97 56 (ap digit is) (ap digit large) (λ no. omega (arith, no))), λ long. let none : ⊥ = omega (arith, short, long) in absurd none)

returned_so : (text : List ℕ) (class : ClassFile) (ending : Ending) → length text ≤ text_limit → Assembles text class → AssemblesText text ending → ending ≡ returned (class_bytes class) (length text)
returned_so text class ending short assembles (TooLong long is) = let none : ⊥ = omega (arith, short, long) in absurd none
returned_so text class ending short assembles (Assembled short_too told text_of is) = is ∙ sym (ap (λ class. returned (class_bytes class) (length text)) (text_of.only class assembles))
returned_so text class ending short assembles (Bad short_too line stops is) = absurd (stops.none class assembles)

bad_line : (text : List ℕ) (ending : Ending) → length text ≤ text_limit → ((class : ClassFile) → ¬ Assembles text class) → AssemblesText text ending → (line : ℕ) × StopsAt text line × (ending ≡ refused (BadLine line) (length text))
bad_line text ending short none (TooLong long is) = let no : ⊥ = omega (arith, short, long) in absurd no
bad_line text ending short none (Assembled short_too class text_of is) = absurd (none class text_of.assembles)
bad_line text ending short none (Bad short_too line stops is) = (line, stops, is)

pub returns-clause-too_large : goal.returns-clause-too_large
returns-clause-too_large g c = λ text files first last ending tells answers. too_large text ending (by_text g.I.Source.left g.I.Source.gave text files first last ending tells answers)

pub returns-clause-returned : goal.returns-clause-returned
returns-clause-returned g c = λ text class files first last ending tells answers short assembles.
    returned_so text class ending short assembles (by_text g.I.Source.left g.I.Source.gave text files first last ending tells answers)

pub returns-clause-bad_line : goal.returns-clause-bad_line
returns-clause-bad_line g c = λ text files first last ending tells answers short none.
    bad_line text ending short none (by_text g.I.Source.left g.I.Source.gave text files first last ending tells answers)
