-- The site of each kind of objects that an instruction makes is the one that is found by its method, place and dimension: no other stands for
-- them, since the places of code rise.
use Rattle.std.proofs.Common.{◌≡◌, ◌∙◌, ap, refl, sym, subst, arith, ℕ, zero, suc, ◌+◌, ◌<◌, ◌==◌, ◌&&◌, Bool, true, false, List, [], ◌∷◌, ◌++◌, get_or, length, map, Option, Some, None, option_map, slice_get}
use Rattle.std.proofs.lemmas.Bool.{eq-eqb, eqb-true, false≢true, ne_eqb}
use Rattle.std.proofs.lemmas.List.{length-append, length-map}
use Rattle.std.proofs.lemmas.List.Quantifiers.{position-Some}
use Rattle.std.proofs.lemmas.Option.{none-some, same_Some, slice_get-get_or, slice_get_within}
use Rattle.std.specs.List.{AllByRecursion, enumerate_from, flat_map, position}
use Rattle.cb_classfile.specs.declared.body.Body.{Body}
use Rattle.cb_classfile.specs.declared.class.ClassFile.{ClassFile}
use Rattle.cb_classfile.specs.declared.method.Method.{Method}
use Rattle.cb_insn.specs.Grammar.{SpellsCode}
use Rattle.cb_insn.specs.declared.insn.Insn.{Insn}
use Rattle.cb_link.specs.Having.{site_kinds}
use Rattle.cb_link.specs.Making.{Making, made_by, makings, makings_of}
use Rattle.cb_link.specs.Named.{IsSite, code_at, code_in, code_of, site_of}
use Rattle.cb_link.specs.Numbers.{Numbered, methods_of}
use Rattle.cb_link.specs.Program.{Linked, linked_site}
use Rattle.cb_link.specs.declared.linked.Site.{Site}
use Rattle.cb_machine.specs.Creating.{site_number}
use Rattle.cb_safety.proofs.Laws.{linked_sound}
use Rattle.cb_safety.specs.Flows.{CodeRises, Rises}
use Rattle.cb_safety.specs.Linked.{IsLinked}
use Rattle.cb_safety.specs.Making.{HasSite}
use Rattle.cb_safety.specs.Sound.{IsSound}
use Rattle.cb_text.specs.declared.constant.Constant.{Constant}
use Rattle.cb_verify.specs.Typed.{IsTyped}
use Rattle.cb_act.proofs.Laws.{all_at, all_joined}

-- ---- lists in which no item passes a test, or one at most

abbrev Nowhere : {X : Type 0} → (X → Bool) → List X → Type 0
Nowhere test items = AllByRecursion (λ item. test item ≡ false) items

abbrev pub Once : {X : Type 0} → (X → Bool) → List X → Type 0
Once test [] = Unit {0}
Once test (item ∷ items) = (test item ≡ true → Nowhere test items) × Once test items

all_of : {X : Type 0} (P : X → Type 0) → ((item : X) → P item) → (items : List X) → AllByRecursion P items
all_of P each [] = tt
all_of P each (item ∷ items) = (each item, all_of P each items)

all_by : {X : Type 0} (P Q : X → Type 0) → ((item : X) → P item → Q item) → (items : List X) → AllByRecursion P items → AllByRecursion Q items
all_by P Q each [] all = tt
all_by P Q each (item ∷ items) all = (each item all.0, all_by P Q each items all.1)

all_places : {X : Type 0} (P : X → Type 0) (items : List X) → ((place : ℕ) (item : X) → slice_get items place ≡ Some item → P item) → AllByRecursion P items
all_places P [] each = tt
all_places P (item ∷ items) each = (each 0 item refl, all_places P items (λ place own there. each (suc place) own there))

module _ {X : Type 0} (test : X → Bool) where
  once_nowhere : (items : List X) → Nowhere test items → Once test items
  once_nowhere [] fail = tt
  once_nowhere (item ∷ items) fail = ((λ is. fail.1), once_nowhere items fail.1)

  once_behind : (front back : List X) → Nowhere test front → Once test back → Once test (front ++ back)
  once_behind [] back fail once = once
  once_behind (item ∷ front) back fail once = ((λ is. absurd (false≢true (sym fail.0 ∙ is))), once_behind front back fail.1 once)

  once_before : (front back : List X) → Once test front → Nowhere test back → Once test (front ++ back)
  once_before [] back once fail = once_nowhere back fail
  once_before (item ∷ front) back once fail =
      ((λ is. all_joined (λ item. test item ≡ false) front back (once.0 is) fail), once_before front back once.1 fail)

  absent : (items : List X) (place : ℕ) (item : X) → Nowhere test items → slice_get items place ≡ Some item → test item ≡ true → ⊥
  absent items place item fail there is = false≢true (sym (all_at (λ item. test item ≡ false) items place item fail there) ∙ is)

  one_place : (items : List X) → Once test items → (one other : ℕ) (first second : X) → slice_get items one ≡ Some first → test first ≡ true
      → slice_get items other ≡ Some second → test second ≡ true → one ≡ other
  one_place [] once one other first second there is again too = absurd (none-some first there)
  one_place (item ∷ items) once zero zero first second there is again too = refl
  one_place (item ∷ items) once zero (suc other) first second there is again too =
      absurd (absent items other second (once.0 (ap test (same_Some item first there) ∙ is)) again too)
  one_place (item ∷ items) once (suc one) zero first second there is again too =
      absurd (absent items one first (once.0 (ap test (same_Some item second again) ∙ too)) there is)
  one_place (item ∷ items) once (suc one) (suc other) first second there is again too = ap suc (one_place items once.1 one other first second there is again too)

  nowhere_mapped : {Y : Type 0} (g : Y → X) (items : List Y) → Nowhere (λ item. test (g item)) items → Nowhere test (map g items)
  nowhere_mapped g [] fail = tt
  nowhere_mapped g (item ∷ items) fail = (fail.0, nowhere_mapped g items fail.1)

  once_mapped : {Y : Type 0} (g : Y → X) (items : List Y) → Once (λ item. test (g item)) items → Once test (map g items)
  once_mapped g [] once = tt
  once_mapped g (item ∷ items) once = ((λ is. nowhere_mapped g items (once.0 is)), once_mapped g items once.1)

  -- where another test that fails makes this one fail
  once_weaker : (own : X → Bool) → ((item : X) → own item ≡ false → test item ≡ false) → (items : List X) → Once own items → Once test items
  once_weaker own weaker [] once = tt
  once_weaker own weaker (item ∷ items) once =
      ((λ is. all_by (λ item. own item ≡ false) (λ item. test item ≡ false) weaker items (once.0 (passes (own item) refl is))), once_weaker own weaker items once.1)
    where
      passes : (found : Bool) → own item ≡ found → test item ≡ true → own item ≡ true
      passes true so is = so
      passes false so is = absurd (false≢true (sym (weaker item so) ∙ is))

  module _ {Y : Type 0} (f : Y → List X) where
    nowhere_flat : (items : List Y) → AllByRecursion (λ item. Nowhere test (f item)) items → Nowhere test (flat_map f items)
    nowhere_flat [] all = tt
    nowhere_flat (item ∷ items) all = all_joined (λ item. test item ≡ false) (f item) (flat_map f items) all.0 (nowhere_flat items all.1)

    once_flat : (own : Y → Bool) → ((item : Y) → own item ≡ false → Nowhere test (f item)) → (items : List Y) → Once own items
        → AllByRecursion (λ item. Once test (f item)) items → Once test (flat_map f items)
    once_flat own fails [] once each = tt
    once_flat own fails (item ∷ items) once each = go (own item) refl (once_flat own fails items once.1 each.1) where
      go : (is : Bool) → own item ≡ is → Once test (flat_map f items) → Once test (f item ++ flat_map f items)
      go false is rest = once_behind (f item) (flat_map f items) (fails item is) rest
      go true is rest =
          once_before (f item) (flat_map f items) each.0
          (nowhere_flat items (all_by (λ item. own item ≡ false) (λ item. Nowhere test (f item)) fails items (once.0 is)))

-- ---- numbered items, and code

later : {X : Type 0} (from number : ℕ) (items : List X) → number < from → Nowhere (λ (entry : ℕ × X). entry.0 == number) (enumerate_from from items)
later from number [] low = tt
later from number (item ∷ items) low = (ne_eqb from number (λ same. omega (arith, same, low)), later (from + 1) number items (omega (arith, low)))

numbered_once : {X : Type 0} (from number : ℕ) (items : List X) → Once (λ (entry : ℕ × X). entry.0 == number) (enumerate_from from items)
numbered_once from number [] = tt
numbered_once from number (item ∷ items) =
    ((λ is. let same = eqb-true from number is in later (from + 1) number items (omega (arith, same))), numbered_once (from + 1) number items)

above : (pc from : ℕ) (code : List (ℕ × Insn)) → from ≡ pc → AllByRecursion (λ own. from < own.0) code → Nowhere (λ (placed : ℕ × Insn). placed.0 == pc) code
above pc from [] same all = tt
above pc from (placed ∷ code) same all =
    (ne_eqb placed.0 pc (λ is. let low = all.0 in omega (arith, is, same, low)), above pc from code same all.1)

pub code_once : (pc : ℕ) (code : List (ℕ × Insn)) → Rises code → Once (λ (placed : ℕ × Insn). placed.0 == pc) code
code_once pc [] rises = tt
code_once pc (placed ∷ code) rises = ((λ is. above pc placed.0 code (eqb-true placed.0 pc is) rises.0), code_once pc code rises.1)

-- ---- the sites of a program

fails_first : (x y z : Bool) → x ≡ false → (x && (y && z)) ≡ false
fails_first true y z is = absurd (false≢true (sym is))
fails_first false y z is = refl

fails_second : (x y z : Bool) → y ≡ false → (x && (y && z)) ≡ false
fails_second false y z is = refl
fails_second true true z is = absurd (false≢true (sym is))
fails_second true false z is = refl

fails_third : (x y z : Bool) → z ≡ false → (x && (y && z)) ≡ false
fails_third false y z is = refl
fails_third true false z is = refl
fails_third true true z is = is

module _ (method pc dimension : ℕ) where
  -- a site of a dimension of an instruction
  abbrev of_it : Site → Bool
  of_it site = site.method == method && (site.place == pc && site.dimension == dimension)

  abbrev making_at : ℕ → ℕ → (ℕ × List ℕ) → Making
  making_at number place made = record { method = number; place = place; dimension = made.0; kind = made.1 }

  module _ (kinds : List (List ℕ)) where
    abbrev makes_it : Making → Bool
    makes_it making = of_it (linked_site kinds making)

    abbrev insn_makings : ℕ → List Constant → (ℕ × Insn) → List Making
    insn_makings number pool placed = map (making_at number placed.0) (enumerate_from 0 (made_by pool placed.1))

    insn_once : (number : ℕ) (pool : List Constant) (placed : ℕ × Insn) → Once makes_it (insn_makings number pool placed)
    insn_once number pool placed =
        once_mapped makes_it (making_at number placed.0) (enumerate_from 0 (made_by pool placed.1))
        (once_weaker (λ made. makes_it (making_at number placed.0 made)) (λ made. made.0 == dimension)
        (λ made is. fails_third (number == method) (placed.0 == pc) (made.0 == dimension) is)
        (enumerate_from 0 (made_by pool placed.1)) (numbered_once 0 dimension (made_by pool placed.1)))

    insn_elsewhere : (number : ℕ) (pool : List Constant) (placed : ℕ × Insn) → (placed.0 == pc) ≡ false → Nowhere makes_it (insn_makings number pool placed)
    insn_elsewhere number pool placed is =
        nowhere_mapped makes_it (making_at number placed.0) (enumerate_from 0 (made_by pool placed.1))
        (all_of (λ made. makes_it (making_at number placed.0 made) ≡ false) (λ made. fails_second (number == method) (placed.0 == pc) (made.0 == dimension) is)
        (enumerate_from 0 (made_by pool placed.1)))

    insn_of_other : (number : ℕ) (pool : List Constant) → (number == method) ≡ false → (placed : ℕ × Insn) → Nowhere makes_it (insn_makings number pool placed)
    insn_of_other number pool is placed =
        nowhere_mapped makes_it (making_at number placed.0) (enumerate_from 0 (made_by pool placed.1))
        (all_of (λ made. makes_it (making_at number placed.0 made) ≡ false) (λ made. fails_first (number == method) (placed.0 == pc) (made.0 == dimension) is)
        (enumerate_from 0 (made_by pool placed.1)))

    body_once : (number : ℕ) (pool : List Constant) (body : Option Body) → Rises (code_in body) → Once makes_it (makings_of number pool body)
    body_once number pool None rises = tt
    body_once number pool (Some body) rises =
        once_flat makes_it (insn_makings number pool) (λ placed. placed.0 == pc) (insn_elsewhere number pool) body.code (code_once pc body.code rises)
        (all_of (λ placed. Once makes_it (insn_makings number pool placed)) (insn_once number pool) body.code)

    body_of_other : (number : ℕ) (pool : List Constant) (body : Option Body) → (number == method) ≡ false → Nowhere makes_it (makings_of number pool body)
    body_of_other number pool None is = tt
    body_of_other number pool (Some body) is =
        nowhere_flat makes_it (insn_makings number pool) body.code
        (all_of (λ placed. Nowhere makes_it (insn_makings number pool placed)) (insn_of_other number pool is) body.code)

    abbrev entry_makings : ℕ × Numbered Method → List Making
    entry_makings entry = makings_of entry.0 entry.1.pool entry.1.member.body

    entries_once : (from : ℕ) (methods : List (Numbered Method)) → AllByRecursion (λ (own : Numbered Method). Rises (code_in own.member.body)) methods
        → AllByRecursion (λ entry. Once makes_it (entry_makings entry)) (enumerate_from from methods)
    entries_once from [] rise = tt
    entries_once from (own ∷ methods) rise = (body_once from own.pool own.member.body rise.0, entries_once (from + 1) methods rise.1)

    makings_once : (classes : List ClassFile) → AllByRecursion (λ (own : Numbered Method). Rises (code_in own.member.body)) (methods_of classes)
        → Once makes_it (makings classes)
    makings_once classes rise =
        once_flat makes_it entry_makings (λ entry. entry.0 == method) (λ entry is. body_of_other entry.0 entry.1.pool entry.1.member.body is)
        (enumerate_from 0 (methods_of classes)) (numbered_once 0 method (methods_of classes)) (entries_once 0 (methods_of classes) rise)

  sites_once : (program : Linked) → program.sites ≡ map (linked_site program.kinds) (makings program.classes) → CodeRises program → Once of_it program.sites
  sites_once program is rises =
      subst (Once of_it) (sym is)
      (once_mapped of_it (linked_site program.kinds) (makings program.classes)
      (makings_once program.kinds program.classes
      (all_places (λ (own : Numbered Method). Rises (code_in own.member.body)) (methods_of program.classes) (λ place own there. subst Rises (ap code_of there) (rises place)))))

  its_own : (kind : ℕ) → of_it (record { method = method; place = pc; dimension = dimension; kind = kind }) ≡ true
  its_own kind = rw (eq-eqb method method refl, eq-eqb pc pc refl, eq-eqb dimension dimension refl) refl

pub site_low : (program : Linked) (method pc dimension site : ℕ) → IsSite program method pc dimension site → site < length (site_kinds program)
site_low program method pc dimension site is =
    let low = slice_get_within program.sites is.place (site_of program method pc dimension is.kind) is.there in
    let both : length (site_kinds program) ≡ length program.fixed + length (map (λ (site : Site). site.kind) program.sites) =
    length-append program.fixed (map (λ (site : Site). site.kind) program.sites) in
    let same : length (map (λ (site : Site). site.kind) program.sites) ≡ length program.sites = length-map program.sites (λ (site : Site). site.kind) in
    let behind = is.behind in
    omega (arith, low, both, same, behind)

pub site_is : (program : Linked) → IsLinked program → IsTyped program → ((code : List (ℕ × Insn)) (bytes : List ℕ) → SpellsCode code bytes → Rises code)
    → (method pc dimension site : ℕ) → IsSite program method pc dimension site → site_number program method pc dimension ≡ Some site
site_is program linked fits rises method pc dimension site is = go (position (of_it method pc dimension) program.sites) refl where
  sound : IsSound program
  sound = linked_sound program linked fits

  has : HasSite program method pc dimension is.kind
  has = sound.sites method pc dimension is.kind is.makes

  sites : program.sites ≡ map (linked_site program.kinds) (makings program.classes)
  sites = subst (λ (program : Linked). program.sites ≡ map (linked_site program.kinds) (makings program.classes)) (sym linked.all) refl

  once : Once (of_it method pc dimension) program.sites
  once = sites_once method pc dimension program sites (λ number. let (bytes, spells) = sound.spelled number in rises (code_at program number) bytes spells)

  own : Site
  own = site_of program method pc dimension is.kind

  go : (found : Option ℕ) → position (of_it method pc dimension) program.sites ≡ found → site_number program method pc dimension ≡ Some site
  go None at =
      let none : site_number program method pc dimension ≡ None = ap (option_map (λ (place : ℕ). length program.fixed + place)) at in
      absurd (none-some has.number (sym none ∙ has.is))
  go (Some place) at =
      let found = position-Some (of_it method pc dimension) program.sites place own at in
      let same : place ≡ is.place =
      one_place (of_it method pc dimension) program.sites once place is.place (get_or program.sites place own) own (slice_get-get_or program.sites place own found.0) found.1
      is.there (its_own method pc dimension own.kind) in
      ap (option_map (λ (place : ℕ). length program.fixed + place)) at ∙ ap (λ (place : ℕ). Some (length program.fixed + place)) same ∙ ap {B = Option ℕ} Some (sym is.behind)
