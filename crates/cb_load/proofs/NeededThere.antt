-- The class of each name that a class of a program needs is there.
use Rattle.std.proofs.Common.{◌≡◌, ◌∙◌, ◌⊎◌, inl, inr, ap, ap₂, refl, sym, subst, ℕ, zero, suc, Bool, true, false, not, ◌||◌, ◌&&◌, List, [], ◌∷◌, ◌++◌, map, take, Option, Some, None, option_and_then}
use Rattle.std.specs.Prelude.{IsSomeAnd, slice_get}
use Rattle.std.specs.Cmp.Lexicographic.{bytes_decides}
use Rattle.std.specs.List.{AllByRecursion, AllZip, flat_map, list_all, list_any}
use Rattle.std.proofs.lemmas.Bool.{and_parts, false≢true, or_cases, or_left, or_right}
use Rattle.std.proofs.lemmas.List.{map-append}
use Rattle.std.proofs.lemmas.Option.{none-some, same_Some}
use Rattle.cb_io.specs.Folder.{Files}
use Rattle.cb_text.specs.declared.constant.Constant.{Constant}
use Rattle.cb_text.specs.declared.constant.Constant.TheVariants as constants
use Rattle.cb_text.specs.Naming.{MemberNames, class_at, member_at, member_from, member_of, name_of_class, string_at, text_at, text_of_string}
use Rattle.cb_text.specs.Pool.{constant_at}
use Rattle.cb_insn.specs.declared.insn.Insn.{Insn}
use Rattle.cb_insn.specs.declared.insn.Operand.TheVariants as operands
use Rattle.cb_classfile.specs.Library.{AreLibrary, IsRecordOf, SaysInsn, SaysKind, SaysMethod, SaysSuperclass, with_operand}
use Rattle.cb_classfile.specs.declared.body.Body.{Body}
use Rattle.cb_classfile.specs.declared.class.ClassFile.{ClassFile}
use Rattle.cb_classfile.specs.declared.handler.Handler.{Handler}
use Rattle.cb_classfile.specs.declared.method.Method.{Method}
use Rattle.cb_kinds.proofs.Laws.{number_among}
use Rattle.cb_kinds.specs.Basics.{kind_number}
use Rattle.cb_library.specs.CoreClasses.{core_classes}
use Rattle.cb_library.specs.Rows.{CoreClass}
use Rattle.cb_library.specs.Rows as rows
use Rattle.cb_link.specs.Numbers.{class_number, name_of, same_name}
use Rattle.cb_load.specs.Closure.{Turn, added, covers}
use Rattle.cb_load.specs.Files.{is_core}
use Rattle.cb_load.specs.Loading.{AreLoaded, IsRead, IsThere, Loads, StaysOpaque, is_loaded, loaded, loaded_name, loaded_names}
use Rattle.cb_load.specs.Names.{Entry, all_of, body_names, class_names, class_names_at, constant_names, frame_names, handler_names, insn_names, mentioned, method_names, names_at, names_in, names_of, needed}
use Rattle.cb_load.proofs.EnteredLaws.{firsts_all, hidden}
use Rattle.cb_load.proofs.NamesOnce.{among_there, is_new, named_so, names_in_rows, there}
use Rattle.cb_load.proofs.TurnStands.{turn_of}
use Rattle.cb_load.proofs.UsedLaws.{all_hidden}

-- ---- lists

pub all_at : {Item : Type 0} (P : Item → Type 0) (items : List Item) (place : ℕ) (item : Item) → AllByRecursion P items → slice_get items place ≡ Some item → P item
all_at P [] place item all is = absurd (none-some item is)
all_at P (first ∷ items) zero item all is = subst P (same_Some first item is) all.0
all_at P (first ∷ items) (suc place) item all is = all_at P items place item all.1 is

pub all_both : {Item : Type 0} (P : Item → Type 0) (front back : List Item) → AllByRecursion P front → AllByRecursion P back → AllByRecursion P (front ++ back)
all_both P [] back one other = other
all_both P (item ∷ front) back one other = (one.0, all_both P front back one.1 other)

pub all_parts : {Item : Type 0} (P : Item → Type 0) (front back : List Item) → AllByRecursion P (front ++ back) → AllByRecursion P front × AllByRecursion P back
all_parts P [] back all = (tt, all)
all_parts P (item ∷ front) back all = let (one, other) = all_parts P front back all.1 in ((all.0, one), other)

pub all_pass : {Item : Type 0} (test : Item → Bool) (items : List Item) → list_all test items ≡ true → AllByRecursion (λ item. test item ≡ true) items
all_pass test [] so = tt
all_pass test (first ∷ items) so = let (here, later) = and_parts (test first) (list_all test items) so in (here, all_pass test items later)

pub all_weaker : {Item : Type 0} (P Q : Item → Type 0) → ((item : Item) → P item → Q item) → (items : List Item) → AllByRecursion P items → AllByRecursion Q items
all_weaker P Q from [] all = tt
all_weaker P Q from (first ∷ items) all = (from first all.0, all_weaker P Q from items all.1)

-- ---- names of entries that are needed

abbrev AreNeeded : (List ℕ → Type 0) → List Entry → Type 0
AreNeeded P entries = AllByRecursion (λ entry. entry.needed ≡ true → P entry.name) entries

needed_all : (P : List ℕ → Type 0) (names : List (List ℕ)) → AllByRecursion P names → AreNeeded P (needed names)
needed_all P [] all = tt
needed_all P (name ∷ names) all = (λ is. all.0, needed_all P names all.1)

mentioned_all : (P : List ℕ → Type 0) (names : List (List ℕ)) → AreNeeded P (mentioned names)
mentioned_all P [] = tt
mentioned_all P (name ∷ names) = (λ is. absurd (false≢true is), mentioned_all P names)

-- ---- the library's classes

abbrev IsCore : List ℕ → Type 0
IsCore name = is_core name ≡ true

abbrev are_core : List (List ℕ) → Bool
are_core names = list_all is_core names

abbrev insn_core : rows.Instruction → Bool
insn_core (rows.OfClass opcode class) = are_core (class_names class)
insn_core (rows.OfField opcode class name descriptor) = are_core (class_names class)
insn_core (rows.OfMethod opcode class name descriptor) = are_core (class_names class)
insn_core other = true

abbrev kind_core : rows.Kind → Bool
kind_core (rows.Runs body) = list_all insn_core body.code
kind_core other = true

abbrev super_core : Option (List ℕ) → Bool
super_core None = true
super_core (Some name) = are_core (class_names name)

abbrev name_core : List ℕ → Bool
name_core name = are_core (class_names name)

abbrev method_core : rows.Method → Bool
method_core method = kind_core method.kind

abbrev row_core : CoreClass → Bool
row_core row = (super_core row.superclass && list_all name_core row.interfaces) && list_all method_core row.methods

all_core : list_all row_core core_classes ≡ true
all_core = refl

-- by the constant that an instruction names
abbrev pub by_member : Option (List ℕ) → Option MemberNames → List Entry
by_member class None = needed (all_of class_names class)
by_member class (Some member) = needed (class_names member.class) ++ mentioned (names_in member.descriptor)

abbrev pub names_by : List Constant → Option Constant → List Entry
names_by pool found =
    by_member (option_and_then (text_at pool) (option_and_then name_of_class found)) (option_and_then (member_from pool) (option_and_then member_of found))

module _ (pool : List Constant) (index : ℕ) where
  abbrev CoreNames : Type 0
  CoreNames = AreNeeded IsCore (constant_names pool index)

  by_constant : (found : Option Constant) → constant_at pool index ≡ found → AreNeeded IsCore (names_by pool found) → CoreNames
  by_constant found there all = subst (λ (found : Option Constant). AreNeeded IsCore (names_by pool found)) (sym there) all

  string_core : (text : List ℕ) → string_at pool index ≡ Some text → CoreNames
  string_core text is = go (constant_at pool index) refl is where
    go : (found : Option Constant) → constant_at pool index ≡ found → option_and_then (text_at pool) (option_and_then text_of_string found) ≡ Some text → CoreNames
    go None there is = absurd (none-some text is)
    go (Some (constants.String at)) there is = by_constant (Some (constants.String at)) there tt
    go (Some other) there is = absurd (none-some text is)

  class_core : (name : List ℕ) → class_at pool index ≡ Some name → name_core name ≡ true → CoreNames
  class_core name is core = go (constant_at pool index) refl is where
    go : (found : Option Constant) → constant_at pool index ≡ found → option_and_then (text_at pool) (option_and_then name_of_class found) ≡ Some name → CoreNames
    go None there is = absurd (none-some name is)
    go (Some (constants.Class at)) there is =
        by_constant (Some (constants.Class at)) there
        (subst (λ (found : Option (List ℕ)). AreNeeded IsCore (needed (all_of class_names found))) (sym is) (needed_all IsCore (class_names name) (all_pass is_core (class_names name) core)))
    go (Some other) there is = absurd (none-some name is)

  member_core : (member : MemberNames) → member_at pool index ≡ Some member → name_core member.class ≡ true → CoreNames
  member_core member is core =
      subst (λ (found : Option MemberNames). AreNeeded IsCore (by_member (class_at pool index) found)) (sym is)
      (all_both (λ (entry : Entry). entry.needed ≡ true → IsCore entry.name) (needed (class_names member.class)) (mentioned (names_in member.descriptor))
      (needed_all IsCore (class_names member.class) (all_pass is_core (class_names member.class) core)) (mentioned_all IsCore (names_in member.descriptor)))

insn_needs : (pool : List Constant) (places : List ℕ) (row : rows.Instruction) (insn : Insn) → SaysInsn pool places row insn → insn_core row ≡ true → AreNeeded IsCore (insn_names pool insn)
insn_needs pool places (rows.Plain opcode) insn says core = subst (λ (insn : Insn). AreNeeded IsCore (insn_names pool insn)) (sym says) tt
insn_needs pool places (rows.Branch opcode target) insn says core = go (slice_get places target) says where
  go : (found : Option ℕ) → IsSomeAnd found (λ place. insn ≡ with_operand opcode (operands.Branch place)) → AreNeeded IsCore (insn_names pool insn)
  go None says = absurd says
  go (Some place) says = subst (λ (insn : Insn). AreNeeded IsCore (insn_names pool insn)) (sym says) tt
insn_needs pool places (rows.LoadText text) insn (index, is, says) core =
    subst (λ (insn : Insn). AreNeeded IsCore (insn_names pool insn)) (sym is) (string_core pool index text says)
insn_needs pool places (rows.OfClass opcode class) insn (index, is, says) core =
    subst (λ (insn : Insn). AreNeeded IsCore (insn_names pool insn)) (sym is) (class_core pool index class says core)
insn_needs pool places (rows.OfField opcode class name descriptor) insn (index, is, says) core =
    subst (λ (insn : Insn). AreNeeded IsCore (insn_names pool insn)) (sym is) (member_core pool index _ says core)
insn_needs pool places (rows.OfMethod opcode class name descriptor) insn (index, is, says) core =
    subst (λ (insn : Insn). AreNeeded IsCore (insn_names pool insn)) (sym is) (member_core pool index _ says core)

abbrev NeedsCore : Entry → Type 0
NeedsCore entry = entry.needed ≡ true → IsCore entry.name

code_needs : (pool : List Constant) (places : List ℕ) (table : List rows.Instruction) (code : List (ℕ × Insn)) → AllZip (λ insn placed. SaysInsn pool places insn placed.1) table code
    → list_all insn_core table ≡ true → AllByRecursion NeedsCore (flat_map (λ placed. insn_names pool placed.1) code)
code_needs pool places [] [] says core = tt
code_needs pool places [] (placed ∷ code) says core = absurd says
code_needs pool places (row ∷ table) [] says core = absurd says
code_needs pool places (row ∷ table) (placed ∷ code) says core =
    let (here, later) = and_parts (insn_core row) (list_all insn_core table) core in
    all_both NeedsCore (insn_names pool placed.1) (flat_map (λ placed. insn_names pool placed.1) code) (insn_needs pool places row placed.1 says.0 here) (code_needs pool places table code says.1 later)

body_needs : (pool : List Constant) (kind : rows.Kind) (body : Option Body) → SaysKind pool kind body → kind_core kind ≡ true → AllByRecursion NeedsCore (body_names pool body)
body_needs pool rows.Abstract body says core = subst (λ (body : Option Body). AllByRecursion NeedsCore (body_names pool body)) (sym says) tt
body_needs pool (rows.Performed native) body says core = subst (λ (body : Option Body). AllByRecursion NeedsCore (body_names pool body)) (sym says) tt
body_needs pool (rows.Runs row) None says core = absurd says
body_needs pool (rows.Runs row) (Some body) says core =
    let code : List Entry = flat_map (λ placed. insn_names pool placed.1) body.code in
    let handlers : List Entry = needed (flat_map (handler_names pool) body.handlers) in
    let frames : List Entry = mentioned (flat_map (frame_names pool) body.frames) in
    all_both NeedsCore (code ++ handlers) frames
    (all_both NeedsCore code handlers (code_needs pool _ row.code body.code says.code core)
    (subst (λ (handlers : List Handler). AllByRecursion NeedsCore (needed (flat_map (handler_names pool) handlers))) (sym says.handlers) tt))
    (mentioned_all IsCore (flat_map (frame_names pool) body.frames))

methods_need : (pool : List Constant) (table : List rows.Method) (methods : List Method) → AllZip (SaysMethod pool) table methods → list_all method_core table ≡ true
    → AllByRecursion NeedsCore (flat_map (method_names pool) methods)
methods_need pool [] [] says core = tt
methods_need pool [] (method ∷ methods) says core = absurd says
methods_need pool (row ∷ table) [] says core = absurd says
methods_need pool (row ∷ table) (method ∷ methods) says core =
    let (here, later) = and_parts (method_core row) (list_all method_core table) core in
    all_both NeedsCore (method_names pool method) (flat_map (method_names pool) methods)
    (all_both NeedsCore (mentioned (names_at pool method.descriptor)) (body_names pool method.body) (mentioned_all IsCore (names_at pool method.descriptor))
    (body_needs pool row.kind method.body says.0.kind here))
    (methods_need pool table methods says.1 later)

found_core : (found : Option (List ℕ)) (name : List ℕ) → found ≡ Some name → name_core name ≡ true → AllByRecursion IsCore (all_of class_names found)
found_core found name is core = subst (λ (found : Option (List ℕ)). AllByRecursion IsCore (all_of class_names found)) (sym is) (all_pass is_core (class_names name) core)

super_needs : (pool : List Constant) (super : Option (List ℕ)) (index : ℕ) → SaysSuperclass pool super index → super_core super ≡ true → AllByRecursion IsCore (class_names_at pool index)
super_needs pool None index says core = subst (λ (index : ℕ). AllByRecursion IsCore (class_names_at pool index)) (sym says) tt
super_needs pool (Some name) index says core = found_core (class_at pool index) name says core

interfaces_need : (pool : List Constant) (names : List (List ℕ)) (interfaces : List ℕ) → AllZip (λ name index. class_at pool index ≡ Some name) names interfaces → list_all name_core names ≡ true
    → AllByRecursion IsCore (flat_map (class_names_at pool) interfaces)
interfaces_need pool [] [] says core = tt
interfaces_need pool [] (index ∷ interfaces) says core = absurd says
interfaces_need pool (name ∷ names) [] says core = absurd says
interfaces_need pool (name ∷ names) (index ∷ interfaces) says core =
    let (here, later) = and_parts (name_core name) (list_all name_core names) core in
    all_both IsCore (class_names_at pool index) (flat_map (class_names_at pool) interfaces) (found_core (class_at pool index) name says.0 here) (interfaces_need pool names interfaces says.1 later)

class_needs : (row : CoreClass) (class : ClassFile) → IsRecordOf row class → row_core row ≡ true → AllByRecursion NeedsCore (names_of class)
class_needs row class says core =
    let (both, methods) = and_parts (super_core row.superclass && list_all name_core row.interfaces) (list_all method_core row.methods) core in
    let (super, interfaces) = and_parts (super_core row.superclass) (list_all name_core row.interfaces) both in
    let one : List Entry = needed (class_names_at class.pool class.super_class) in
    let two : List Entry = needed (flat_map (class_names_at class.pool) class.interfaces) in
    let three : List Entry = mentioned (flat_map (λ field. names_at class.pool field.descriptor) class.fields) in
    all_both NeedsCore ((one ++ two) ++ three) (flat_map (method_names class.pool) class.methods)
    (all_both NeedsCore (one ++ two) three
    (all_both NeedsCore one two (needed_all IsCore (class_names_at class.pool class.super_class) (super_needs class.pool row.superclass class.super_class says.superclass super))
    (needed_all IsCore (flat_map (class_names_at class.pool) class.interfaces) (interfaces_need class.pool row.interfaces class.interfaces says.interfaces interfaces)))
    (mentioned_all IsCore (flat_map (λ field. names_at class.pool field.descriptor) class.fields)))
    (methods_need class.pool row.methods class.methods says.methods methods)

library_needs : (table : List CoreClass) (classes : List ClassFile) → AllZip IsRecordOf table classes → list_all row_core table ≡ true → AllByRecursion (λ class. AllByRecursion NeedsCore (names_of class)) classes
library_needs [] [] says core = tt
library_needs [] (class ∷ classes) says core = absurd says
library_needs (row ∷ table) [] says core = absurd says
library_needs (row ∷ table) (class ∷ classes) says core =
    let (here, later) = and_parts (row_core row) (list_all row_core table) core in (class_needs row class says.0 here, library_needs table classes says.1 later)

-- ---- the classes that were loaded

-- an entry that is hidden is hidden by that of a turn
record IsHiddenAt (turns : List (Turn ClassFile)) (entry : Entry) : Type 0 where
  pub place : ℕ
  pub turn : Turn ClassFile
  pub at : slice_get turns place ≡ Some turn
  pub covers : covers turn.entry entry ≡ true

hidden_at : (turns : List (Turn ClassFile)) (entry : Entry) → hidden (map (λ turn. turn.entry) turns) entry ≡ true → IsHiddenAt turns entry
hidden_at [] entry is = absurd (false≢true is)
hidden_at (turn ∷ turns) entry is = elim (or_cases (covers turn.entry entry) (hidden (map (λ turn. turn.entry) turns) entry) is) [
  | inl here ↦ record { place = 0; turn = turn; at = refl; covers = here }
  | inr later ↦ let own = hidden_at turns entry later in record { place = suc own.place; turn = own.turn; at = own.at; covers = own.covers }
]

any_both : {Item : Type 0} (test : Item → Bool) (front back : List Item) → (list_any test front ≡ true) ⊎ (list_any test back ≡ true) → list_any test (front ++ back) ≡ true
any_both test [] back (inl is) = absurd (false≢true is)
any_both test [] back (inr is) = is
any_both test (item ∷ front) back (inl is) = elim (or_cases (test item) (list_any test front) is) [
  | inl here ↦ or_left (test item) (list_any test (front ++ back)) here
  | inr later ↦ or_right (test item) (list_any test (front ++ back)) (any_both test front back (inl later))
]
any_both test (item ∷ front) back (inr is) = or_right (test item) (list_any test (front ++ back)) (any_both test front back (inr is))

any_parts : {Item : Type 0} (test : Item → Bool) (front back : List Item) → list_any test (front ++ back) ≡ true → (list_any test front ≡ true) ⊎ (list_any test back ≡ true)
any_parts test [] back is = inr is
any_parts test (item ∷ front) back is = elim (or_cases (test item) (list_any test (front ++ back)) is) [
  | inl here ↦ inl (or_left (test item) (list_any test front) here)
  | inr later ↦ elim (any_parts test front back later) [
    | inl one ↦ inl (or_right (test item) (list_any test front) one)
    | inr other ↦ inr other
  ]
]

-- what turns before a place load, all of them load
any_taken : (test : List ℕ → Bool) (turns : List (Turn ClassFile)) (place : ℕ) → list_any test (loaded_names (take place turns)) ≡ true → list_any test (loaded_names turns) ≡ true
any_taken test turns zero is = absurd (false≢true is)
any_taken test [] (suc place) is = is
any_taken test (turn ∷ turns) (suc place) is = any_both test (loaded_name turn) (loaded_names turns) (elim (any_parts test (loaded_name turn) (loaded_names (take place turns)) is) [
  | inl here ↦ inl here
  | inr later ↦ inr (any_taken test turns place later)
])

any_here : (test : List ℕ → Bool) (turns : List (Turn ClassFile)) (place : ℕ) (turn : Turn ClassFile) → slice_get turns place ≡ Some turn → list_any test (loaded_name turn) ≡ true
    → list_any test (loaded_names turns) ≡ true
any_here test [] place turn at is = absurd (none-some turn at)
any_here test (first ∷ turns) zero turn at is =
    any_both test (loaded_name first) (loaded_names turns) (inl (subst (λ (turn : Turn ClassFile). list_any test (loaded_name turn) ≡ true) (sym (same_Some first turn at)) is))
any_here test (first ∷ turns) (suc place) turn at is = any_both test (loaded_name first) (loaded_names turns) (inr (any_here test turns place turn at is))

any_loaded : (turns : List (Turn ClassFile)) (place : ℕ) (name : List ℕ) → is_loaded (take place turns) name ≡ true → is_loaded turns name ≡ true
any_loaded turns place name is = elim (or_cases (is_core name) (list_any (same_name name) (loaded_names (take place turns))) is) [
  | inl core ↦ or_left (is_core name) (list_any (same_name name) (loaded_names turns)) core
  | inr own ↦ or_right (is_core name) (list_any (same_name name) (loaded_names turns)) (any_taken (same_name name) turns place own)
]

own_name : (name : List ℕ) → list_any (same_name name) (name ∷ []) ≡ true
own_name name = or_left (same_name name name) false ((bytes_decides name name).1 refl)

module _ (files : Option Files) (root : List ℕ) (turns : List (Turn ClassFile)) where
  -- the name of an entry that is needed is that of a class
  turn_there : (place : ℕ) (entry : Entry) (loads : Option ClassFile) → slice_get turns place ≡ Some (turn_of entry loads) → entry.needed ≡ true → Loads files root (take place turns) entry loads
      → is_loaded turns entry.name ≡ true
  turn_there place entry loads at needed (IsThere there) = any_loaded turns place entry.name there
  turn_there place entry loads at needed (StaysOpaque new may unneeded) = absurd (false≢true (sym unneeded ∙ needed))
  turn_there place entry loads at needed (IsRead bytes class new may room of) =
      or_right (is_core entry.name) (list_any (same_name entry.name) (loaded_names turns))
      (any_here (same_name entry.name) turns place (turn_of entry (Some class)) at (own_name entry.name))

  entry_there : ((place : ℕ) (turn : Turn ClassFile) → slice_get turns place ≡ Some turn → Loads files root (take place turns) turn.entry turn.loads)
      → (entry : Entry) → hidden (map (λ turn. turn.entry) turns) entry ≡ true → entry.needed ≡ true → is_loaded turns entry.name ≡ true
  entry_there each entry hides needed =
      let own = hidden_at turns entry hides in
      let (named, need) = and_parts (same_name own.turn.entry.name entry.name) (own.turn.entry.needed || not entry.needed) own.covers in
      subst (λ (name : List ℕ). is_loaded turns name ≡ true) ((bytes_decides own.turn.entry.name entry.name).0 named)
      (turn_there own.place own.turn.entry own.turn.loads own.at (needed_so own.turn.entry.needed entry.needed need needed) (each own.place own.turn own.at))
    where
      needed_so : (one other : Bool) → (one || not other) ≡ true → other ≡ true → one ≡ true
      needed_so true other need needed = refl
      needed_so false true need needed = absurd (false≢true need)
      needed_so false false need needed = absurd (false≢true needed)

  abbrev NeedsLoaded : Entry → Type 0
  NeedsLoaded entry = entry.needed ≡ true → is_loaded turns entry.name ≡ true

  -- of the classes that turns load
  loaded_need : (rest : List (Turn ClassFile)) → AllByRecursion NeedsLoaded (flat_map (λ turn. added names_of turn.loads) rest) → AllByRecursion (λ class. AllByRecursion NeedsLoaded (names_of class)) (loaded rest)
  loaded_need [] all = tt
  loaded_need (turn ∷ rest) all =
      let (here, later) = all_parts NeedsLoaded (added names_of turn.loads) (flat_map (λ turn. added names_of turn.loads) rest) all in
      by turn.entry turn.loads here (loaded_need rest later)
    where
      by : (entry : Entry) (loads : Option ClassFile) → AllByRecursion NeedsLoaded (added names_of loads) → AllByRecursion (λ class. AllByRecursion NeedsLoaded (names_of class)) (loaded rest)
          → AllByRecursion (λ class. AllByRecursion NeedsLoaded (names_of class)) (loaded (turn_of entry loads ∷ rest))
      by entry None here later = later
      by entry (Some class) here later = (here, later)

-- ---- of a program

module _ (files : Option Files) (root main : List ℕ) (library classes : List ClassFile) (are : AreLibrary library) (is : AreLoaded files root main classes) where
  abbrev all_entries : List Entry
  all_entries = record { name = main; needed = true } ∷ flat_map (λ (turn : Turn ClassFile). added names_of turn.loads) is.turns

  covered : AllByRecursion (λ entry. hidden (map (λ (turn : Turn ClassFile). turn.entry) is.turns) entry ≡ true) all_entries
  covered =
      subst (λ (entries : List Entry). AllByRecursion (λ entry. hidden entries entry ≡ true) all_entries) (sym (is.closure.closed ∙ firsts_all all_entries)) (all_hidden [] all_entries)

  loaded_all : AllByRecursion (λ class. AllByRecursion (NeedsLoaded files root is.turns) (names_of class)) classes
  loaded_all =
      subst (AllByRecursion (λ class. AllByRecursion (NeedsLoaded files root is.turns) (names_of class))) (sym is.all)
      (loaded_need files root is.turns is.turns
      (all_weaker (λ (entry : Entry). hidden (map (λ (turn : Turn ClassFile). turn.entry) is.turns) entry ≡ true) (NeedsLoaded files root is.turns)
      (λ entry hides. entry_there files root is.turns is.each entry hides) (flat_map (λ (turn : Turn ClassFile). added names_of turn.loads) is.turns) covered.1))

  library_all : AllByRecursion (λ class. AllByRecursion (NeedsLoaded files root is.turns) (names_of class)) library
  library_all =
      all_weaker (λ (class : ClassFile). AllByRecursion NeedsCore (names_of class)) (λ (class : ClassFile). AllByRecursion (NeedsLoaded files root is.turns) (names_of class))
      (λ class. all_weaker NeedsCore (NeedsLoaded files root is.turns)
      (λ entry core needs. or_left (is_core entry.name) (list_any (same_name entry.name) (loaded_names is.turns)) (core needs)) (names_of class))
      library (library_needs core_classes library are all_core)

  names_are : map name_of (library ++ classes) ≡ there is.turns
  names_are =
      map-append name_of library classes
      ∙ ap₂ (λ (front back : List (List ℕ)). front ++ back) (names_in_rows core_classes library are)
      (ap (map name_of) is.all
      ∙ named_so (λ place. take place is.turns) is.turns (λ place turn at. is_new files root (take place is.turns) turn.entry turn.loads (is.each place turn at)))

  pub needed_there : (number : ℕ) (class : ClassFile) → slice_get (library ++ classes) number ≡ Some class
      → AllByRecursion (λ entry. entry.needed ≡ true → (other : ℕ) × (class_number (library ++ classes) entry.name ≡ Some other)) (names_of class)
  needed_there number class at =
      all_weaker (NeedsLoaded files root is.turns) (λ (entry : Entry). entry.needed ≡ true → (other : ℕ) × (class_number (library ++ classes) entry.name ≡ Some other))
      (λ entry loads needs. (
        kind_number (map name_of (library ++ classes)) entry.name,
        number_among (map name_of (library ++ classes)) entry.name
            (ap (list_any (same_name entry.name)) names_are ∙ among_there is.turns entry.name ∙ loads needs),
      ))
      (names_of class)
      (all_at (λ (class : ClassFile). AllByRecursion (NeedsLoaded files root is.turns) (names_of class)) (library ++ classes) number class
      (all_both (λ (class : ClassFile). AllByRecursion (NeedsLoaded files root is.turns) (names_of class)) library classes library_all loaded_all) at)
