-- Pairs of sites that sites allow where references follow what they allow: of a string of the program and its characters, of an exception and its
-- message, and of one and its cause.
use Rattle.std.proofs.Common.{◌≡◌, ◌∙◌, add-one, ap, append_assoc, arith, refl, sym, subst, ℕ, zero, suc, ◌+◌, Bool, true, List, [], ◌∷◌, ◌++◌, length, Option, Some}
use Rattle.std.proofs.lemmas.List.{append-nil}
use Rattle.std.specs.List.{Contains}
use Rattle.cb_heap.specs.Follows.{Follows}
use Rattle.cb_heap.specs.Reading.{View}
use Rattle.cb_link.specs.Program.{Linked}
use Rattle.cb_machine.specs.Machine.{kind_of_site}
use Rattle.cb_machine.specs.Plans.{object_of}
use Rattle.cb_machine.specs.Sites.{constant_characters, constant_strings}
use Rattle.cb_machine.specs.Strings.{unit_contents}
use Rattle.cb_machine.specs.Throwing.{exception_contents}
use Rattle.cb_plain.specs.State.{Object, Reference}
use Rattle.cb_plain.specs.Updates.{object_in}
use Rattle.cb_unwind.specs.Strings.{new_constant, units_of}
use Rattle.cb_interp.proofs.Allowed.{pair_of}

-- ---- objects that are placed behind others

pub placed_in : (objects rest : List (Option Object)) (object : Object) → object_in (objects ++ Some object ∷ rest) (suc (length objects)) ≡ Some object
placed_in [] rest object = refl
placed_in (entry ∷ objects) rest object = placed_in objects rest object

second_in : (objects rest : List (Option Object)) (first second : Object) → object_in (objects ++ Some first ∷ Some second ∷ rest) (suc (suc (length objects))) ≡ Some second
second_in [] rest first second = refl
second_in (entry ∷ objects) rest first second = second_in objects rest first second

pub still_in : (objects rest : List (Option Object)) (serial : ℕ) (object : Object) → object_in objects serial ≡ Some object → object_in (objects ++ rest) serial ≡ Some object
still_in objects rest zero object is = absurd (cc is)
still_in [] rest (suc place) object is = absurd (cc is)
still_in (entry ∷ objects) rest (suc zero) object is = is
still_in (entry ∷ objects) rest (suc (suc place)) object is = still_in objects rest (suc place) object is

-- ---- a string and its characters

module _ (allows : ℕ → ℕ → Bool) (program : Linked) (text : ℕ) (view : View) where
  abbrev array : Object
  array = object_of constant_characters (kind_of_site program constant_characters) (unit_contents (units_of program text))

  abbrev string : ℕ → Object
  string serial = object_of constant_strings (kind_of_site program constant_strings) (Reference serial ∷ [])

  both : (rest : List (Option Object)) → Follows allows (view.objects ++ Some array ∷ Some (string (suc (length view.objects))) ∷ rest)
      → allows constant_strings constant_characters ≡ true
  both rest follows =
      pair_of allows (view.objects ++ Some array ∷ Some (string (suc (length view.objects))) ∷ rest) (suc (suc (length view.objects))) (length view.objects)
      (string (suc (length view.objects))) array follows
      (second_in view.objects rest array (string (suc (length view.objects)))) (placed_in view.objects (Some (string (suc (length view.objects))) ∷ rest) array)
      (0, omega arith, refl)

  pub text_pair : (rest objects : List (Option Object)) → objects ≡ (new_constant program text view).1.objects ++ rest → Follows allows objects
      → allows constant_strings constant_characters ≡ true
  text_pair rest objects is follows =
      both rest
      (subst (Follows allows)
      (is ∙ append_assoc view.objects (Some array ∷ Some (string (length view.objects + 1)) ∷ []) rest
      ∙ ap (λ (serial : ℕ). view.objects ++ Some array ∷ Some (string serial) ∷ rest) (add-one (length view.objects)))
      follows)

  pub text_pair_last : (objects : List (Option Object)) → objects ≡ (new_constant program text view).1.objects → Follows allows objects
      → allows constant_strings constant_characters ≡ true
  text_pair_last objects is follows = text_pair [] objects (is ∙ sym (append-nil (new_constant program text view).1.objects)) follows

-- ---- an exception, and what it refers to

abbrev thrown_at : (site kind message cause : ℕ) → List (Option Object) → List (Option Object)
thrown_at site kind message cause objects = objects ++ Some (object_of site kind (exception_contents message cause)) ∷ []

module _ (allows : ℕ → ℕ → Bool) (objects : List (Option Object)) (site kind message cause : ℕ) (follows : Follows allows (thrown_at site kind message cause objects)) where
  pair_with : (serial : ℕ) (object : Object) → object_in objects serial ≡ Some object → Contains (exception_contents message cause) (Reference serial)
      → allows site object.site ≡ true
  pair_with zero object is holds = absurd (cc is)
  pair_with (suc place) object is holds =
      pair_of allows (thrown_at site kind message cause objects) (suc (length objects)) place (object_of site kind (exception_contents message cause)) object follows
      (placed_in objects [] (object_of site kind (exception_contents message cause)))
      (still_in objects (Some (object_of site kind (exception_contents message cause)) ∷ []) (suc place) object is) holds

  pub message_pair : (object : Object) → object_in objects message ≡ Some object → allows site object.site ≡ true
  message_pair object is = pair_with message object is (0, omega arith, refl)

  pub cause_pair : (object : Object) → object_in objects cause ≡ Some object → allows site object.site ≡ true
  cause_pair object is = pair_with cause object is (1, omega arith, refl)
