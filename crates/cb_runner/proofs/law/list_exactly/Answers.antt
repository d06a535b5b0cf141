use Rattle.std.proofs.Common.{◌≡◌, inl, inr, ◌↔◌, ℕ, ◌+◌, ◌<◌, ◌≤◌, List, ◌++◌, length, take, drop, Option, Some, None, refl, sym, ◌∙◌, ap, subst, arith}
use Rattle.std.specs.FinMap.{get}
use Rattle.std.specs.Int.{from_be_bytes, w16}
use Rattle.std.proofs.lemmas.Nat.{from_be_bytes-to_be_bytes_2}
use Rattle.cb_asm_list.specs.Listing.{listing}
use Rattle.cb_classfile.specs.declared.class.ClassFile.{ClassFile}
use Rattle.cb_classfile.specs.declared.feature.Feature.{Feature}
use Rattle.cb_classfile.specs.Answers.{HasNoOtherVersion, IsAcceptedClass, SpellsNone}
use Rattle.cb_classfile.specs.Class.{HasVersion, IsAccepted, SpellsClass}
use Rattle.cb_classfile.specs.Profile.{unsupported}
use Rattle.cb_io.specs.Folder.{Files}
use Rattle.cb_link.specs.declared.refusal.Quantity.TheVariants.{ClassFileBytes}
use Rattle.cb_runner.specs.Answer.{Answers}
use Rattle.cb_runner.specs.Ending.{Ending, refused, returned}
use Rattle.cb_runner.specs.List.{IsListed, LeavesOut, ListsBytes, ListsFile, OfVersion, OfNoClass, OfItem, Listed}
use Rattle.cb_runner.specs.Messages.{MissingClass, Malformed, BadVersion, Unsupported, TooLarge}
use Rattle.cb_runner.specs.Run.{file_limit}
use Rattle.cb_runner.specs.Words.{ListOf}
use Rattle.cb_runner.proofs.Digits.{differ, digit, returns_unrefused}
use Rattle.cb_runner.proofs.law.list_exactly.Goals as goal

-- by the file that the folder tells
by_file : {In : Type 0} (left : In → Option (List ℕ)) (gave : In → ℕ → List ℕ → In → Type 0) (path : List ℕ) (file : Option (List ℕ)) (files : Files) (first last : In) (ending : Ending) → Answers left gave (ListOf path) (Some files) first last ending → get files path ≡ file → ListsFile path file ending
by_file left gave path file files first last ending (told, is, lists) same = subst (λ file. ListsFile path file ending) (sym is ∙ same) lists

by_bytes : (path bytes : List ℕ) (ending : Ending) → ListsFile path (Some bytes) ending → length bytes ≤ file_limit → ListsBytes path bytes ending
by_bytes path bytes ending (inl (long, is)) short = let none : ⊥ = omega (arith, long, short) in absurd none
by_bytes path bytes ending (inr (within, lists)) short = lists

-- a file that is there isn't missing
there : (path bytes : List ℕ) (ending : Ending) → ListsBytes path bytes ending → ending ≡ refused (MissingClass path) 0 → ⊥
there path bytes ending (OfVersion major has other is) missing = differ ending 51 49 (ap digit is) (ap digit missing) (λ no. omega (arith, no))
there path bytes ending (OfNoClass versions none is) missing = differ ending 50 49 (ap digit is) (ap digit missing) (λ no. omega (arith, no))
there path bytes ending (OfItem item leaves is) missing = differ ending 52 49 (ap digit is) (ap digit missing) (λ no. omega (arith, no))
there path bytes ending (Listed class listed is) missing = returns_unrefused ending (ap (λ e. e.cause) is) (ap (λ e. e.cause) missing)

missing : (path : List ℕ) (file : Option (List ℕ)) (ending : Ending) → ListsFile path file ending → (ending ≡ refused (MissingClass path) 0) ↔ (file ≡ None)
missing path None ending is = (λ again. refl, λ none. is)
missing path (Some bytes) ending (inl (long, is)) = (λ missing. absurd (differ ending 56 49 (ap digit is) (ap digit missing) (λ no. omega (arith, no))), λ no. absurd cc)
missing path (Some bytes) ending (inr (short, lists)) = (λ missing. absurd (there path bytes ending lists missing), λ no. absurd cc)

-- nor is one too long that is judged by its bytes
judged : (path bytes : List ℕ) (ending : Ending) → ListsBytes path bytes ending → ending ≡ refused (TooLarge ClassFileBytes (file_limit + 1) file_limit) 0 → ⊥
judged path bytes ending (OfVersion major has other is) large = differ ending 51 56 (ap digit is) (ap digit large) (λ no. omega (arith, no))
judged path bytes ending (OfNoClass versions none is) large = differ ending 50 56 (ap digit is) (ap digit large) (λ no. omega (arith, no))
judged path bytes ending (OfItem item leaves is) large = differ ending 52 56 (ap digit is) (ap digit large) (λ no. omega (arith, no))
judged path bytes ending (Listed class listed is) large = returns_unrefused ending (ap (λ e. e.cause) is) (ap (λ e. e.cause) large)

too_large : (path bytes : List ℕ) (ending : Ending) → ListsFile path (Some bytes) ending → (ending ≡ refused (TooLarge ClassFileBytes (file_limit + 1) file_limit) 0) ↔ (file_limit < length bytes)
too_large path bytes ending (inl (long, is)) = (λ again. long, λ again. is)
too_large path bytes ending (inr (short, lists)) = (λ large. absurd (judged path bytes ending lists large), λ long. let none : ⊥ = omega (arith, short, long) in absurd none)

-- bytes have one version
major_of : (bytes : List ℕ) (major : ℕ) → HasVersion bytes major → from_be_bytes w16 (take 2 (drop 6 bytes)) ≡ major
major_of bytes major (minor, rest, (first, spelled, split)) =
    ap (λ all. from_be_bytes w16 (take 2 (drop 6 all))) (split ∙ ap (λ front. front ++ rest) spelled.2) ∙ from_be_bytes-to_be_bytes_2 major spelled.1

version_same : (bytes : List ℕ) (one other : ℕ) → HasVersion bytes one → HasVersion bytes other → one ≡ other
version_same bytes one other has has_too = sym (major_of bytes one has) ∙ major_of bytes other has_too

-- that of a class is accepted
class_version : (bytes : List ℕ) (class : ClassFile) → IsAcceptedClass bytes class → HasVersion bytes class.major
class_version bytes class accepted = let spelled = accepted.spelled in (class.minor, spelled.second, (spelled.first, spelled.here, spelled.spelled))

no_other : (bytes : List ℕ) (class : ClassFile) (major : ℕ) → IsAcceptedClass bytes class → HasVersion bytes major → ¬ IsAccepted major → ⊥
no_other bytes class major accepted has other = other (subst IsAccepted (version_same bytes class.major major (class_version bytes class accepted) has) accepted.accepted)

bad_version : (path bytes : List ℕ) (major : ℕ) (ending : Ending) → HasVersion bytes major → ¬ IsAccepted major → ListsBytes path bytes ending → ending ≡ refused (BadVersion path major) 0
bad_version path bytes major ending has other (OfVersion told has_too other_too is) = is ∙ ap (λ major. refused (BadVersion path major) 0) (version_same bytes told major has_too has)
bad_version path bytes major ending has other (OfNoClass versions none is) = absurd (other (versions major has))
bad_version path bytes major ending has other (OfItem item leaves is) = absurd (no_other bytes leaves.class major leaves.read has other)
bad_version path bytes major ending has other (Listed class listed is) = absurd (no_other bytes class major listed.read has other)

malformed : (path bytes : List ℕ) (ending : Ending) → HasNoOtherVersion bytes → SpellsNone bytes → ListsBytes path bytes ending → ending ≡ refused (Malformed path) 0
malformed path bytes ending versions none (OfVersion major has other is) = absurd (other (versions major has))
malformed path bytes ending versions none (OfNoClass versions_too none_too is) = is
malformed path bytes ending versions none (OfItem item leaves is) = absurd (none leaves.class leaves.read.spelled)
malformed path bytes ending versions none (Listed class listed is) = absurd (none class listed.read.spelled)

-- and they spell one class
OneClass : Type 0
OneClass = (bytes : List ℕ) (one other : ClassFile) → SpellsClass bytes one → SpellsClass bytes other → one ≡ other

unsupported_so : OneClass → (path bytes : List ℕ) (item : Feature) (ending : Ending) → LeavesOut bytes item → ListsBytes path bytes ending → ending ≡ refused (Unsupported path item) 0
unfolding OneClass
unsupported_so one path bytes item ending leaves (OfVersion major has other is) = absurd (no_other bytes leaves.class major leaves.read has other)
unsupported_so one path bytes item ending leaves (OfNoClass versions none is) = absurd (none leaves.class leaves.read.spelled)
unsupported_so one path bytes item ending leaves (OfItem told leaves_too is) =
    let same : Some told ≡ Some item = sym leaves_too.first ∙ ap unsupported (one bytes leaves_too.class leaves.class leaves_too.read.spelled leaves.read.spelled) ∙ leaves.first in
    let told_is : told ≡ item = cc in
    is ∙ ap (λ item. refused (Unsupported path item) 0) told_is
unsupported_so one path bytes item ending leaves (Listed class listed is) =
    let same : None ≡ Some item = sym listed.whole ∙ ap unsupported (one bytes class leaves.class listed.read.spelled leaves.read.spelled) ∙ leaves.first in
    absurd cc

listed_so : OneClass → (path bytes : List ℕ) (class : ClassFile) (ending : Ending) → IsListed bytes class → ListsBytes path bytes ending → ending ≡ returned (listing class) 0
unfolding OneClass
listed_so one path bytes class ending listed (OfVersion major has other is) = absurd (no_other bytes class major listed.read has other)
listed_so one path bytes class ending listed (OfNoClass versions none is) = absurd (none class listed.read.spelled)
listed_so one path bytes class ending listed (OfItem item leaves is) =
    let same : None ≡ Some item = sym listed.whole ∙ ap unsupported (one bytes class leaves.class listed.read.spelled leaves.read.spelled) ∙ leaves.first in
    absurd cc
listed_so one path bytes class ending listed (Listed told listed_too is) = is ∙ ap (λ class. returned (listing class) 0) (one bytes told class listed_too.read.spelled listed.read.spelled)

pub returns-clause-missing : goal.returns-clause-missing
returns-clause-missing g c = λ path files first last ending answers. missing path (get files path) ending (by_file g.I.Source.left g.I.Source.gave path (get files path) files first last ending answers refl)

pub returns-clause-too_large : goal.returns-clause-too_large
returns-clause-too_large g c = λ path bytes files first last ending answers is. too_large path bytes ending (by_file g.I.Source.left g.I.Source.gave path (Some bytes) files first last ending answers is)

pub returns-clause-bad_version : goal.returns-clause-bad_version
returns-clause-bad_version g c = λ path bytes major files first last ending answers is short has other.
    bad_version path bytes major ending has other (by_bytes path bytes ending (by_file g.I.Source.left g.I.Source.gave path (Some bytes) files first last ending answers is) short)

pub returns-clause-malformed : goal.returns-clause-malformed
returns-clause-malformed g c = λ path bytes files first last ending answers is short versions none.
    malformed path bytes ending versions none (by_bytes path bytes ending (by_file g.I.Source.left g.I.Source.gave path (Some bytes) files first last ending answers is) short)

pub returns-clause-unsupported : goal.returns-clause-unsupported
unfolding OneClass
returns-clause-unsupported g c = λ path bytes item files first last ending answers is short leaves.
    unsupported_so c.one_class.ensures path bytes item ending leaves (by_bytes path bytes ending (by_file g.I.Source.left g.I.Source.gave path (Some bytes) files first last ending answers is) short)

pub returns-clause-returned : goal.returns-clause-returned
unfolding OneClass
returns-clause-returned g c = λ path bytes class files first last ending answers is short listed.
    listed_so c.one_class.ensures path bytes class ending listed (by_bytes path bytes ending (by_file g.I.Source.left g.I.Source.gave path (Some bytes) files first last ending answers is) short)
