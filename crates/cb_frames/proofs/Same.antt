-- Roots from their entries, and from what they are without references.
use Rattle.std.proofs.Common.{◌≡◌, ◌∙◌, sym, refl, ap, arith, ℕ, ◌+◌, ◌-◌, List, [], ◌∷◌, ◌++◌, length, length-append, drop, map, replicate, reverse, take}
use Rattle.std.specs.List.{flat_map}
use Rattle.std.proofs.lemmas.List.{drop_at, length-map, length-replicate, length-reverse, reverse-reverse, take_at}
use Rattle.cb_plain.specs.declared.class_state.ClassState.{ClassState}
use Rattle.cb_plain.specs.declared.value.Value.{Value}
use Rattle.cb_plain.specs.declared.value.Value.TheVariants as values
use Rattle.cb_plain.specs.State.{Frame, Initialising, MethodFrame, OfMethod, Roots, Tables}
use Rattle.cb_frames.specs.Entries.{entries, frame_entries, free_slots, nulled, nulled_frame, nulled_tables, referent, table_entries, without_references, zeros}
use Rattle.cb_frames.proofs.Laid.{map_reverse}
use Rattle.cb_frames.proofs.Parted.{entries_length}

-- how many entries there are depends on the rest alone
method_length : (frame : MethodFrame) → length (frame_entries (OfMethod frame)) ≡ length frame.locals + length frame.stack + (frame.slots - (length frame.locals + length frame.stack))
method_length frame =
    omega (
      arith,
      length-append (map referent frame.locals ++ reverse (map referent frame.stack)) (replicate (free_slots frame) 0),
      length-append (map referent frame.locals) (reverse (map referent frame.stack)),
      length-map frame.locals referent,
      length-reverse (map referent frame.stack),
      length-map frame.stack referent,
      length-replicate {A = ℕ} (free_slots frame) 0,
    )

frame_length : (frame : Frame) → length (frame_entries (nulled_frame frame)) ≡ length (frame_entries frame)
frame_length (OfMethod frame) =
    method_length (record { method = frame.method; pc = frame.pc; slots = frame.slots; locals = map nulled frame.locals; stack = map nulled frame.stack })
    ∙ ap (λ n. n + length (map nulled frame.stack) + (frame.slots - (n + length (map nulled frame.stack)))) (length-map frame.locals nulled)
    ∙ ap (λ n. length frame.locals + n + (frame.slots - (length frame.locals + n))) (length-map frame.stack nulled)
    ∙ sym (method_length frame)
frame_length (Initialising class place) = refl

frames_length : (frames : List Frame) → length (flat_map frame_entries (map nulled_frame frames)) ≡ length (flat_map frame_entries frames)
frames_length [] = refl
frames_length (frame ∷ frames) =
    omega (
      arith,
      length-append (frame_entries (nulled_frame frame)) (flat_map frame_entries (map nulled_frame frames)),
      length-append (frame_entries frame) (flat_map frame_entries frames),
      frame_length frame,
      frames_length frames,
    )

tables_length : (tables : Tables) → length (table_entries (nulled_tables tables)) ≡ length (table_entries tables)
tables_length tables =
    simp (length-append, length-replicate)

bare_length : (roots : Roots) → length (entries (without_references roots)) ≡ length (entries roots)
bare_length roots =
    let turned : length (flat_map frame_entries (reverse (map nulled_frame roots.frames))) ≡ length (flat_map frame_entries (reverse roots.frames)) =
    ap (λ frames. length (flat_map frame_entries frames)) (sym (map_reverse nulled_frame roots.frames)) ∙ frames_length (reverse roots.frames) in
    let held : length (map referent (map nulled roots.statics)) ≡ length (map referent roots.statics) =
    length-map (map nulled roots.statics) referent ∙ length-map roots.statics nulled ∙ sym (length-map roots.statics referent) in
    entries_length (flat_map frame_entries (reverse (map nulled_frame roots.frames))) (map referent (map nulled roots.statics)) (table_entries (nulled_tables roots.tables)) 0 0
    ∙ ap (λ n. n + length (map referent (map nulled roots.statics)) + length (table_entries (nulled_tables roots.tables)) + 2) turned
    ∙ ap (λ n. length (flat_map frame_entries (reverse roots.frames)) + n + length (table_entries (nulled_tables roots.tables)) + 2) held
    ∙ ap (λ n. length (flat_map frame_entries (reverse roots.frames)) + length (map referent roots.statics) + n + 2) (tables_length roots.tables)
    ∙ sym (entries_length (flat_map frame_entries (reverse roots.frames)) (map referent roots.statics) (table_entries roots.tables) roots.pending roots.argument)

pub same_length : (one other : Roots) → without_references one ≡ without_references other → length (entries one) ≡ length (entries other)
same_length one other same = sym (bare_length one) ∙ ap (λ roots. length (entries roots)) same ∙ bare_length other

-- values by what they refer to
same_value : (one other : Value) → nulled one ≡ nulled other → referent one ≡ referent other → one ≡ other
same_value (values.Int number) (values.Int other) same to = same
same_value (values.Int number) (values.Long other) same to = same
same_value (values.Int number) (values.Ref other) same to = cc
same_value (values.Long number) (values.Int other) same to = same
same_value (values.Long number) (values.Long other) same to = same
same_value (values.Long number) (values.Ref other) same to = cc
same_value (values.Ref number) (values.Int other) same to = cc
same_value (values.Ref number) (values.Long other) same to = cc
same_value (values.Ref number) (values.Ref other) same to = ap values.Ref to

same_values : (held others : List Value) → map nulled held ≡ map nulled others → map referent held ≡ map referent others → held ≡ others
same_values [] [] same to = refl
same_values [] (other ∷ others) same to = cc
same_values (value ∷ held) [] same to = cc
same_values (value ∷ held) (other ∷ others) same to =
    let kind : nulled value ≡ nulled other = cc in
    let kinds : map nulled held ≡ map nulled others = cc in
    let entry : referent value ≡ referent other = cc in
    let rest : map referent held ≡ map referent others = cc in
    ap (λ first. first ∷ held) (same_value value other kind entry) ∙ ap (λ behind. other ∷ behind) (same_values held others kinds rest)

-- lists that are joined, from their parts
same_parts : {X : Type 0} (a b c d : List X) → length a ≡ length c → a ++ b ≡ c ++ d → (a ≡ c) × (b ≡ d)
same_parts a b c d size same = (
  sym (take_at a b (length c) size) ∙ ap (take (length c)) same ∙ take_at c d (length c) refl,
  sym (drop_at a b (length c) size) ∙ ap (drop (length c)) same ∙ drop_at c d (length c) refl,
)

same_mapped : {X Y : Type 0} (f : X → Y) (xs ys : List X) → map f xs ≡ map f ys → length xs ≡ length ys
same_mapped f xs ys same = sym (length-map xs f) ∙ ap length same ∙ length-map ys f

abbrev bare_method : MethodFrame → MethodFrame
bare_method frame = record { method = frame.method; pc = frame.pc; slots = frame.slots; locals = map nulled frame.locals; stack = map nulled frame.stack }

same_method : (one other : MethodFrame) → nulled_frame (OfMethod one) ≡ nulled_frame (OfMethod other) → frame_entries (OfMethod one) ≡ frame_entries (OfMethod other)
    → OfMethod one ≡ OfMethod other
same_method one other same to =
    let bare : bare_method one ≡ bare_method other = cc in
    let method : one.method ≡ other.method = ap (λ frame. frame.method) bare in
    let pc : one.pc ≡ other.pc = ap (λ frame. frame.pc) bare in
    let slots : one.slots ≡ other.slots = ap (λ frame. frame.slots) bare in
    let locals : map nulled one.locals ≡ map nulled other.locals = ap (λ frame. frame.locals) bare in
    let stack : map nulled one.stack ≡ map nulled other.stack = ap (λ frame. frame.stack) bare in
    let few : length one.locals ≡ length other.locals = same_mapped nulled one.locals other.locals locals in
    let deep : length one.stack ≡ length other.stack = same_mapped nulled one.stack other.stack stack in
    let first : length (map referent one.locals) ≡ length (map referent other.locals) = length-map one.locals referent ∙ few ∙ sym (length-map other.locals referent) in
    let second : length (reverse (map referent one.stack)) ≡ length (reverse (map referent other.stack)) =
    length-reverse (map referent one.stack) ∙ length-map one.stack referent ∙ deep ∙ sym (length-reverse (map referent other.stack) ∙ length-map other.stack referent) in
    let both : length (map referent one.locals ++ reverse (map referent one.stack)) ≡ length (map referent other.locals ++ reverse (map referent other.stack)) =
    omega (
      arith,
      first,
      second,
      length-append (map referent one.locals) (reverse (map referent one.stack)),
      length-append (map referent other.locals) (reverse (map referent other.stack)),
    ) in
    let used = (same_parts (map referent one.locals ++ reverse (map referent one.stack)) (replicate (free_slots one) 0) (map referent other.locals ++ reverse (map referent other.stack)) (replicate (free_slots other) 0) both to).0 in
    let parts = same_parts (map referent one.locals) (reverse (map referent one.stack)) (map referent other.locals) (reverse (map referent other.stack)) first used in
    let turned : map referent one.stack ≡ map referent other.stack =
    sym (reverse-reverse (map referent one.stack)) ∙ ap reverse parts.1 ∙ reverse-reverse (map referent other.stack) in
    let same-locals : one.locals ≡ other.locals = same_values one.locals other.locals locals parts.0 in
    let same-stack : one.stack ≡ other.stack = same_values one.stack other.stack stack turned in
    ap (λ part. OfMethod (record { method = part; pc = one.pc; slots = one.slots; locals = one.locals; stack = one.stack })) method
    ∙ ap (λ part. OfMethod (record { method = other.method; pc = part; slots = one.slots; locals = one.locals; stack = one.stack })) pc
    ∙ ap (λ part. OfMethod (record { method = other.method; pc = other.pc; slots = part; locals = one.locals; stack = one.stack })) slots
    ∙ ap (λ part. OfMethod (record { method = other.method; pc = other.pc; slots = other.slots; locals = part; stack = one.stack })) same-locals
    ∙ ap (λ part. OfMethod (record { method = other.method; pc = other.pc; slots = other.slots; locals = other.locals; stack = part })) same-stack

same_frame : (one other : Frame) → nulled_frame one ≡ nulled_frame other → frame_entries one ≡ frame_entries other → one ≡ other
same_frame (OfMethod one) (OfMethod other) same to = same_method one other same to
same_frame (OfMethod one) (Initialising class place) same to = cc
same_frame (Initialising class place) (OfMethod other) same to = cc
same_frame (Initialising class place) (Initialising other behind) same to = same

same_frames : (frames others : List Frame) → map nulled_frame frames ≡ map nulled_frame others → flat_map frame_entries frames ≡ flat_map frame_entries others → frames ≡ others
same_frames [] [] same to = refl
same_frames [] (other ∷ others) same to = cc
same_frames (frame ∷ frames) [] same to = cc
same_frames (frame ∷ frames) (other ∷ others) same to =
    let kind : nulled_frame frame ≡ nulled_frame other = cc in
    let kinds : map nulled_frame frames ≡ map nulled_frame others = cc in
    let size : length (frame_entries frame) ≡ length (frame_entries other) = sym (frame_length frame) ∙ ap (λ one. length (frame_entries one)) kind ∙ frame_length other in
    let parts = same_parts (frame_entries frame) (flat_map frame_entries frames) (frame_entries other) (flat_map frame_entries others) size to in
    ap (λ first. first ∷ frames) (same_frame frame other kind parts.0) ∙ ap (λ behind. other ∷ behind) (same_frames frames others kinds parts.1)

joined_length : {X : Type 0} (a b c d : List X) → length a ≡ length c → length b ≡ length d → length (a ++ b) ≡ length (c ++ d)
joined_length a b c d one other = omega (arith, one, other, length-append a b, length-append c d)

tables_from : (a b c d e f a' b' c' d' e' f' : List ℕ) → a ≡ a' → b ≡ b' → c ≡ c' → d ≡ d' → e ≡ e' → f ≡ f'
    → ◌≡◌ {A = Tables} (record { constants = a; classes = b; integers = c; longs = d; characters = e; booleans = f })
    (record { constants = a'; classes = b'; integers = c'; longs = d'; characters = e'; booleans = f' })
tables_from a b c d e f a' b' c' d' e' f' is-a is-b is-c is-d is-e is-f = rw (is-a, is-b, is-c, is-d, is-e, is-f) refl

roots_from : (a a' : List Frame) (b b' : ℕ) (c c' : List Value) (d d' : List ClassState) (e e' : Tables) (f f' : ℕ) → a ≡ a' → b ≡ b' → c ≡ c' → d ≡ d' → e ≡ e' → f ≡ f'
    → ◌≡◌ {A = Roots} (record { frames = a; pending = b; statics = c; classes = d; tables = e; argument = f })
    (record { frames = a'; pending = b'; statics = c'; classes = d'; tables = e'; argument = f' })
roots_from a a' b b' c c' d d' e e' f f' is-a is-b is-c is-d is-e is-f = rw (is-a, is-b, is-c, is-d, is-e, is-f) refl

same_zeros : (xs ys : List ℕ) → zeros xs ≡ zeros ys → length xs ≡ length ys
same_zeros xs ys same = sym (length-replicate {A = ℕ} (length xs) 0) ∙ ap length same ∙ length-replicate {A = ℕ} (length ys) 0

same_tables : (one other : Tables) → nulled_tables one ≡ nulled_tables other → table_entries one ≡ table_entries other → one ≡ other
same_tables one other same to =
    let constants = same_zeros one.constants other.constants (ap (λ tables. tables.constants) same) in
    let classes = same_zeros one.classes other.classes (ap (λ tables. tables.classes) same) in
    let integers = same_zeros one.integers other.integers (ap (λ tables. tables.integers) same) in
    let longs = same_zeros one.longs other.longs (ap (λ tables. tables.longs) same) in
    let characters = same_zeros one.characters other.characters (ap (λ tables. tables.characters) same) in
    let two = joined_length one.constants one.classes other.constants other.classes constants classes in
    let three = joined_length (one.constants ++ one.classes) one.integers (other.constants ++ other.classes) other.integers two integers in
    let four = joined_length (one.constants ++ one.classes ++ one.integers) one.longs (other.constants ++ other.classes ++ other.integers) other.longs three longs in
    let five = joined_length (one.constants ++ one.classes ++ one.integers ++ one.longs) one.characters (other.constants ++ other.classes ++ other.integers ++ other.longs) other.characters four characters in
    let last = same_parts _ one.booleans _ other.booleans five to in
    let fifth = same_parts _ one.characters _ other.characters four last.0 in
    let fourth = same_parts _ one.longs _ other.longs three fifth.0 in
    let third = same_parts _ one.integers _ other.integers two fourth.0 in
    let second = same_parts one.constants one.classes other.constants other.classes constants third.0 in
    tables_from one.constants one.classes one.integers one.longs one.characters one.booleans other.constants other.classes other.integers other.longs other.characters other.booleans
    second.0 second.1 third.1 fourth.1 fifth.1 last.1

pub same_roots : (one other : Roots) → without_references one ≡ without_references other → entries one ≡ entries other → one ≡ other
same_roots one other same to =
    let kinds : map nulled_frame one.frames ≡ map nulled_frame other.frames = ap (λ roots. roots.frames) same in
    let turned : map nulled_frame (reverse one.frames) ≡ map nulled_frame (reverse other.frames) =
    map_reverse nulled_frame one.frames ∙ ap reverse kinds ∙ sym (map_reverse nulled_frame other.frames) in
    let held : map nulled one.statics ≡ map nulled other.statics = ap (λ roots. roots.statics) same in
    let tables : nulled_tables one.tables ≡ nulled_tables other.tables = ap (λ roots. roots.tables) same in
    let classes : one.classes ≡ other.classes = ap (λ roots. roots.classes) same in
    let first : length (flat_map frame_entries (reverse one.frames)) ≡ length (flat_map frame_entries (reverse other.frames)) =
    sym (frames_length (reverse one.frames)) ∙ ap (λ frames. length (flat_map frame_entries frames)) turned ∙ frames_length (reverse other.frames) in
    let second : length (map referent one.statics) ≡ length (map referent other.statics) =
    length-map one.statics referent ∙ same_mapped nulled one.statics other.statics held ∙ sym (length-map other.statics referent) in
    let third : length (table_entries one.tables) ≡ length (table_entries other.tables) =
    sym (tables_length one.tables) ∙ ap (λ all. length (table_entries all)) tables ∙ tables_length other.tables in
    let two = joined_length _ (map referent one.statics) _ (map referent other.statics) first second in
    let three = joined_length _ (table_entries one.tables) _ (table_entries other.tables) two third in
    let last = same_parts _ (one.pending ∷ one.argument ∷ []) _ (other.pending ∷ other.argument ∷ []) three to in
    let behind = same_parts _ (table_entries one.tables) _ (table_entries other.tables) two last.0 in
    let front = same_parts _ (map referent one.statics) _ (map referent other.statics) first behind.0 in
    let frames : one.frames ≡ other.frames =
    sym (reverse-reverse one.frames) ∙ ap reverse (same_frames (reverse one.frames) (reverse other.frames) turned front.0) ∙ reverse-reverse other.frames in
    let pending : one.pending ≡ other.pending = cc last.1 in
    let argument : one.argument ≡ other.argument = cc last.1 in
    roots_from one.frames other.frames one.pending other.pending one.statics other.statics one.classes other.classes one.tables other.tables one.argument other.argument
    frames pending (same_values one.statics other.statics held front.1) classes (same_tables one.tables other.tables tables behind.1) argument
