-- The walk over the instructions of classes.
use Rattle.std.proofs.Common.{◌≡◌, ◌∙◌, ap, refl, sym, ℕ, List, [], ◌∷◌, ◌++◌, Result, Ok, Err, IfErr, drop, get_or, length, map, take, ◌+◌, ◌<◌, ◌≤◌, arith}
use Rattle.std.specs.List.{enumerate_from, flat_map}
use Rattle.std.proofs.lemmas.Grind.{flat_map-append}
use Rattle.std.proofs.lemmas.List.{append-nil, append_assoc, length-append, length-map, length-take, map-append, take-append-drop, take_more}
use Rattle.std.proofs.lemmas.List.FromFn.{length-enumerate_from}
use Rattle.cb_text.specs.declared.constant.Constant.{Constant}
use Rattle.cb_insn.specs.declared.insn.Insn.{Insn}
use Rattle.cb_classfile.specs.declared.class.ClassFile.{ClassFile}
use Rattle.cb_classfile.specs.declared.method.Method.{Method}
use Rattle.cb_link.specs.declared.linked.Site.{Site}
use Rattle.cb_link.specs.declared.refusal.Refusal.{Refusal}
use Rattle.cb_link.specs.declared.refusal.Refusal.TheVariants.{OutOfMemory}
use Rattle.cb_link.specs.Inner.{IsTooMany}
use Rattle.cb_link.specs.Making.{Making, makings}
use Rattle.cb_link.specs.Numbers.{Numbered, methods_of}
use Rattle.cb_link.specs.Places.{numbered_in}
use Rattle.cb_link.specs.Program.{linked_site}
use Rattle.cb_link.specs.InnerSites.{Exceeds, body_makings, class_makings, insn_makings, made_at}
use Rattle.cb_link.proofs.PlacesLaws.{enumerate_append, flat_more}

-- what is too many at a part is too many at the whole
too_many : (one other : Type 0) → (one → other) → (refusal : Refusal) → IsTooMany one refusal → IsTooMany other refusal
too_many one other more OutOfMemory is = tt
too_many one other more refusal is = (is.0, more is.1)

pub refused_more : {Given : Type 0} (one other : Type 0) → (one → other) → (result : Result Given Refusal) → IfErr result (IsTooMany one) → IfErr result (IsTooMany other)
refused_more one other more (Ok given) is = tt
refused_more one other more (Err refusal) is = too_many one other more refusal is

-- sites behind those of a part, and behind those of one more item
module _ (kinds : List (List ℕ)) (old middle : List Site) (before item after : List Making) (so : middle ≡ old ++ map (linked_site kinds) before) (grows : after ≡ before ++ item) where
  pub grown : (new : List Site) → new ≡ middle ++ map (linked_site kinds) item → new ≡ old ++ map (linked_site kinds) after
  grown new then =
      then ∙ ap (λ sites. sites ++ map (linked_site kinds) item) so ∙ append_assoc old (map (linked_site kinds) before) (map (linked_site kinds) item)
      ∙ ap (λ sites. old ++ sites) (sym (ap (map (linked_site kinds)) grows ∙ map-append (linked_site kinds) before item))

  pub exceeds : (whole : List Making) → length after ≤ length whole → Exceeds middle (length item) → Exceeds old (length whole)
  exceeds whole fits over =
      let long : length middle ≡ length old + length before = ap length so ∙ length-append old (map (linked_site kinds) before) ∙ ap (λ count. length old + count) (length-map before (linked_site kinds)) in
      let longer : length after ≡ length before + length item = ap length grows ∙ length-append before item in
      omega (arith, long, longer, fits, over)

-- a part has no more than the whole
fits : {X Y : Type 0} (walk : List X → List Y) (rest : List X → List X → List Y) → ((front back : List X) → walk (front ++ back) ≡ walk front ++ rest front back)
    → (items : List X) (place : ℕ) → length (walk (take place items)) ≤ length (walk items)
fits walk rest parts items place =
    let whole : length (walk items) ≡ length (walk (take place items)) + length (rest (take place items) (drop place items)) =
    ap (λ items. length (walk items)) (sym (take-append-drop place items)) ∙ ap length (parts (take place items) (drop place items))
    ∙ length-append (walk (take place items)) (rest (take place items) (drop place items)) in
    omega (arith, whole)

map_parts : {X Y : Type 0} (f : ℕ × X → Y) (start : ℕ) (front back : List X)
    → map f (enumerate_from start (front ++ back)) ≡ map f (enumerate_from start front) ++ map f (enumerate_from (start + length front) back)
map_parts f start front back = ap (map f) (enumerate_append start front back) ∙ map-append f (enumerate_from start front) (enumerate_from (start + length front) back)

flat_parts : {X Y : Type 0} (f : ℕ × X → List Y) (start : ℕ) (front back : List X)
    → flat_map f (enumerate_from start (front ++ back)) ≡ flat_map f (enumerate_from start front) ++ flat_map f (enumerate_from (start + length front) back)
flat_parts f start front back = ap (flat_map f) (enumerate_append start front back) ∙ flat_map-append f (enumerate_from start front) (enumerate_from (start + length front) back)

pub made_fits : (method place : ℕ) (made : List (List ℕ)) (index : ℕ) → length (made_at method place (take index made)) ≤ length (made_at method place made)
made_fits method place made index =
    let one : ℕ × List ℕ → Making = λ made. record { method = method; place = place; dimension = made.0; kind = made.1 } in
    fits (made_at method place) (λ front back. map one (enumerate_from (0 + length front) back)) (map_parts one 0) made index

module _ (number : ℕ) (pool : List Constant) (code : List (ℕ × Insn)) (place : ℕ) where
  pub code_fits : length (flat_map (insn_makings number pool) (take place code)) ≤ length (flat_map (insn_makings number pool) code)
  code_fits =
      fits (flat_map (insn_makings number pool)) (λ front back. flat_map (insn_makings number pool) back) (flat_map-append (insn_makings number pool)) code place

  pub code_grows : (placed : ℕ × Insn) → place < length code → placed ≡ get_or code place placed
      → flat_map (insn_makings number pool) (take (place + 1) code) ≡ flat_map (insn_makings number pool) (take place code) ++ insn_makings number pool placed
  code_grows placed short is =
      ap (flat_map (insn_makings number pool)) (take_more code place placed short)
      ∙ ap (λ placed. flat_map (insn_makings number pool) (take place code ++ placed ∷ [])) (sym is)
      ∙ flat_map-append (insn_makings number pool) (take place code) (placed ∷ [])
      ∙ ap (λ rest. flat_map (insn_makings number pool) (take place code) ++ rest) (append-nil (insn_makings number pool placed))

-- what the methods of a class make, as far as they were walked
abbrev pub methods_make : List Constant → ℕ → List Method → List Making
methods_make pool first methods = flat_map (λ own. body_makings own.0 pool own.1.body) (enumerate_from first methods)

module _ (pool : List Constant) (first : ℕ) (methods : List Method) (place : ℕ) where
  pub methods_fit : length (methods_make pool first (take place methods)) ≤ length (methods_make pool first methods)
  methods_fit =
      let one : ℕ × Method → List Making = λ own. body_makings own.0 pool own.1.body in
      fits (methods_make pool first) (λ front back. flat_map one (enumerate_from (first + length front) back)) (flat_parts one first) methods place

  pub methods_grow : (number : ℕ) (method : Method) → number ≡ first + place → place < length methods → method ≡ get_or methods place method
      → methods_make pool first (take (place + 1) methods) ≡ methods_make pool first (take place methods) ++ body_makings number pool method.body
  methods_grow number method counted short is =
      let one : ℕ × Method → List Making = λ own. body_makings own.0 pool own.1.body in
      let same : first + length (take place methods) ≡ number = omega (arith, counted, length-take place methods) in
      ap (methods_make pool first) (take_more methods place method short ∙ ap (λ method. take place methods ++ method ∷ []) (sym is))
      ∙ flat_parts one first (take place methods) (method ∷ [])
      ∙ ap (λ rest. methods_make pool first (take place methods) ++ rest) (append-nil (body_makings (first + length (take place methods)) pool method.body))
      ∙ ap (λ number. methods_make pool first (take place methods) ++ body_makings number pool method.body) same

-- the makings of numbered methods ask for neither class nor place
abbrev entry_makings : ℕ × Numbered Method → List Making
entry_makings entry = body_makings entry.0 entry.1.pool entry.1.member.body

unplaced : (pool : List Constant) (class first place : ℕ) (methods : List Method)
    → flat_map entry_makings (enumerate_from first (map (λ own. record { class = class; place = own.0; pool = pool; member = own.1 }) (enumerate_from place methods)))
    ≡ methods_make pool first methods
unplaced pool class first place [] = refl
unplaced pool class first place (method ∷ methods) = ap (λ rest. body_makings first pool method.body ++ rest) (unplaced pool class (first + 1) (place + 1) methods)

abbrev numbered_methods : ℕ × ClassFile → List (Numbered Method)
numbered_methods entry = numbered_in (λ class. class.methods) entry

abbrev makings_behind : List ClassFile → List ClassFile → List Making
makings_behind front back = flat_map entry_makings (enumerate_from (0 + length (methods_of front)) (flat_map numbered_methods (enumerate_from (0 + length front) back)))

makings_parts : (front back : List ClassFile) → makings (front ++ back) ≡ makings front ++ makings_behind front back
makings_parts front back =
    ap (λ methods. flat_map entry_makings (enumerate_from 0 methods)) (flat_parts numbered_methods 0 front back)
    ∙ flat_parts entry_makings 0 (methods_of front) (flat_map numbered_methods (enumerate_from (0 + length front) back))

module _ (classes : List ClassFile) (place : ℕ) where
  pub classes_fit : length (makings (take place classes)) ≤ length (makings classes)
  classes_fit = fits makings makings_behind makings_parts classes place

  module _ (number : ℕ) (class : ClassFile) (counted : number ≡ length (methods_of (take place classes))) (short : place < length classes) (is : class ≡ get_or classes place class) where
    pub classes_grow : makings (take (place + 1) classes) ≡ makings (take place classes) ++ class_makings number class
    classes_grow =
        let front = take place classes in
        let same : 0 + length (methods_of front) ≡ number = omega (arith, counted) in
        ap makings (take_more classes place class short ∙ ap (λ class. front ++ class ∷ []) (sym is))
        ∙ makings_parts front (class ∷ [])
        ∙ ap (λ methods. makings front ++ flat_map entry_makings (enumerate_from (0 + length (methods_of front)) methods)) (append-nil (numbered_methods (0 + length front, class)))
        ∙ ap (λ rest. makings front ++ rest) (unplaced class.pool (0 + length front) (0 + length (methods_of front)) 0 class.methods)
        ∙ ap (λ number. makings front ++ class_makings number class) same

    pub count_grows : (behind : ℕ) → behind ≡ number + length class.methods → behind ≡ length (methods_of (take (place + 1) classes))
    count_grows behind so =
        let long : length (methods_of (take (place + 1) classes)) ≡ length (methods_of (take place classes)) + length (numbered_methods (place, class)) =
        ap length (flat_more classes place class short is numbered_methods) ∙ length-append (methods_of (take place classes)) (numbered_methods (place, class)) in
        let own : length (numbered_methods (place, class)) ≡ length class.methods =
        length-map (enumerate_from 0 class.methods) (λ own. record { class = place; place = own.0; pool = class.pool; member = own.1 }) ∙ length-enumerate_from 0 class.methods in
        omega (arith, so, counted, long, own)
