-- What comes of a walk over instructions.
use Rattle.std.proofs.Common.{◌≡◌, ◌∙◌, ap, ap₂, refl, sym, arith, ℕ, ◌+◌, ◌<◌, Bool, true, false, ◌||◌, not, List, [], ◌∷◌, ◌++◌, Option, Some, None, drop, get_or, length, map, min, is_none}
use Rattle.std.specs.Prelude.{filter, if◌then◌else◌, ◌==◌}
use Rattle.std.specs.List.{list_any}
use Rattle.std.proofs.lemmas.List.{append_assoc, drop_more}
use Rattle.cb_insn.specs.declared.insn.Insn.{Insn}
use Rattle.cb_verify.specs.declared.pass.Walk.{Walk}
use Rattle.cb_verify.specs.Expansion.{declared, start}
use Rattle.cb_verify.specs.Framed.{framed, framed_at}
use Rattle.cb_verify.specs.Frames.{Frame}
use Rattle.cb_verify.specs.InnerPassing.{failing_at, is_stranded, lesser, stepped, stranded, unfit, walked}
use Rattle.cb_verify.specs.Typed.{Declared, Placed, after, begins, failing_in, first_failing, first_place, fits, fits_with, frame_at, is_lost, least, least_with, onwards, placed_behind}
use Rattle.cb_verify.specs.Within.{Within}

-- the lesser of numbers, of which some aren't there
min_assoc : (a b c : ℕ) → min a (min b c) ≡ min (min a b) c
min_assoc a b c = omega arith

pub lesser_assoc : (one two three : Option ℕ) → lesser one (lesser two three) ≡ lesser (lesser one two) three
lesser_assoc None two three = refl
lesser_assoc (Some a) None three = refl
lesser_assoc (Some a) (Some b) None = refl
lesser_assoc (Some a) (Some b) (Some c) = ap Some (min_assoc a b c)

pub lesser_none : (one : Option ℕ) → lesser one None ≡ one
lesser_none None = refl
lesser_none (Some a) = refl

pub least_first : (number : ℕ) (numbers : List ℕ) → least (number ∷ numbers) ≡ lesser (Some number) (least numbers)
least_first number numbers = go (least numbers) where
  go : (other : Option ℕ) → Some (least_with number other) ≡ lesser (Some number) other
  go None = refl
  go (Some other) = refl

pub least_both : (front back : List ℕ) → least (front ++ back) ≡ lesser (least front) (least back)
least_both [] back = refl
least_both (number ∷ front) back =
    least_first number (front ++ back) ∙ ap (lesser (Some number)) (least_both front back)
    ∙ lesser_assoc (Some number) (least front) (least back) ∙ ap (λ one. lesser one (least back)) (sym (least_first number front))

-- the least place of those that fail a test, and of those that pass one
pub least_failing : {Item : Type 0} (place : Item → ℕ) (fits : Item → Bool) (item : Item) (items : List Item)
    → least (map place (filter (λ own. not (fits own)) (item ∷ items))) ≡ lesser (failing_at (place item) (fits item)) (least (map place (filter (λ own. not (fits own)) items)))
least_failing {Item} place fits item items = go (fits item) refl where
  go : (passes : Bool) → fits item ≡ passes
      → least (map place (filter (λ own. not (fits own)) (item ∷ items))) ≡ lesser (failing_at (place item) (fits item)) (least (map place (filter (λ own. not (fits own)) items)))
  go true is = rw is refl
  go false is = rw is (least_first (place item) (map place (filter (λ own. not (fits own)) items)))

-- a walk's frames, and the least place of those that don't fit
pub walked_frames : (method : Within) (frames : Declared) (walk : Walk) (code : List (ℕ × Insn))
    → (walked method frames walk code).frames ≡ walk.frames ++ framed (placed_behind method frames walk.arrived code)
walked_frames method frames walk [] = sym (append_none walk.frames) where
  append_none : {X : Type 0} (items : List X) → items ++ [] ≡ items
  append_none [] = refl
  append_none (item ∷ items) = ap (λ rest. item ∷ rest) (append_none items)
walked_frames method frames walk (placed ∷ code) =
    walked_frames method frames (stepped method frames walk placed (first_place code)) code
    ∙ append_assoc walk.frames (framed_at placed.0 (frame_at frames placed.0 walk.arrived))
    (framed (placed_behind method frames (onwards placed.1 (after method placed (frame_at frames placed.0 walk.arrived))) code))

pub walked_failing : (method : Within) (frames : Declared) (walk : Walk) (code : List (ℕ × Insn))
    → (walked method frames walk code).failing ≡ lesser walk.failing (least (unfit method frames (placed_behind method frames walk.arrived code)))
walked_failing method frames walk [] = sym (lesser_none walk.failing)
walked_failing method frames walk (placed ∷ code) =
    let before = frame_at frames placed.0 walk.arrived in
    let left = after method placed before in
    let rest = placed_behind method frames (onwards placed.1 left) code in
    let own : Placed = record { place = placed.0; insn = placed.1; next = first_place code; before = before } in
    walked_failing method frames (stepped method frames walk placed (first_place code)) code
    ∙ sym (lesser_assoc walk.failing (failing_at placed.0 (fits_with method frames placed.0 placed.1 (first_place code) before left)) (least (unfit method frames rest)))
    ∙ ap (lesser walk.failing) (sym (least_failing (λ (placed : Placed). placed.place) (fits method frames) own rest))

-- a walk's instructions stand where those of the code do
pub any_placed : (method : Within) (frames : Declared) (arrived : Option Frame) (code : List (ℕ × Insn)) (pc : ℕ)
    → list_any (λ own. own.place == pc) (placed_behind method frames arrived code) ≡ list_any (λ placed. placed.0 == pc) code
any_placed method frames arrived [] pc = refl
any_placed method frames arrived (placed ∷ code) pc =
    ap (λ rest. (placed.0 == pc) || rest)
    (any_placed method frames (onwards placed.1 (after method placed (frame_at frames placed.0 arrived))) code pc)

pub lost_stranded : (method : Within) (frames : Declared) (arrived : Option Frame) (code : List (ℕ × Insn)) (entries : List (ℕ × Option Frame))
    → filter (is_lost (placed_behind method frames arrived code)) entries ≡ filter (is_stranded code) entries
lost_stranded method frames arrived code [] = refl
lost_stranded method frames arrived code (entry ∷ entries) =
    ap₂ (λ (lost : Bool) (rest : List (ℕ × Option Frame)). if is_none entry.1 || not lost then entry ∷ rest else rest) (any_placed method frames arrived code entry.0) (lost_stranded method frames arrived code entries)

-- the first place that fails
pub first_failing_of : (method : Within) (frames : Declared) (arrived : Option Frame) (code : List (ℕ × Insn))
    → least (failing_in method frames (placed_behind method frames arrived code))
    ≡ lesser (failing_at 0 (begins method frames)) (lesser (least (unfit method frames (placed_behind method frames arrived code))) (least (stranded code frames)))
first_failing_of method frames arrived code =
    let placed : List Placed = placed_behind method frames arrived code in
    let lost : List ℕ = map (λ (entry : ℕ × Option Frame). entry.0) (filter (is_lost placed) frames) in
    let beginning : List ℕ = if begins method frames then [] else 0 ∷ [] in
    least_both (beginning ++ unfit method frames placed) lost
    ∙ ap₂ lesser (least_both beginning (unfit method frames placed) ∙ ap (λ (first : Option ℕ). lesser first (least (unfit method frames placed))) (begun (begins method frames)))
    (ap (λ (entries : List (ℕ × Option Frame)). least (map (λ (entry : ℕ × Option Frame). entry.0) entries)) (lost_stranded method frames arrived code frames))
    ∙ sym (lesser_assoc (failing_at 0 (begins method frames)) (least (unfit method frames placed)) (least (stranded code frames))) where
      begun : (begins : Bool) → least (if begins then [] else 0 ∷ []) ≡ failing_at 0 begins
      begun true = refl
      begun false = refl

-- what comes of an instruction, and of those from a number on
pub stepped_is : (method : Within) (frames : Declared) (walk : Walk) (placed : ℕ × Insn) (next : Option ℕ) (before left arrived : Option Frame) (passes : Bool)
    (list : List (ℕ × Frame)) (place failing : Option ℕ) → before ≡ frame_at frames placed.0 walk.arrived → left ≡ after method placed before
    → passes ≡ fits_with method frames placed.0 placed.1 next before left → list ≡ walk.frames ++ framed_at placed.0 before → arrived ≡ onwards placed.1 left
    → place ≡ failing_at placed.0 passes → failing ≡ lesser walk.failing place
    → record { arrived = arrived; frames = list; failing = failing } ≡ stepped method frames walk placed next
stepped_is method frames walk placed next before left arrived passes list place failing one two three four five six seven =
    let left_is : left ≡ after method placed (frame_at frames placed.0 walk.arrived) = two ∙ ap (after method placed) one in
    let fits_is : passes ≡ fits_with method frames placed.0 placed.1 next (frame_at frames placed.0 walk.arrived) (after method placed (frame_at frames placed.0 walk.arrived)) =
    three ∙ ap₂ (fits_with method frames placed.0 placed.1 next) one left_is in
    made (five ∙ ap (onwards placed.1) left_is) (four ∙ ap (λ (own : Option Frame). walk.frames ++ framed_at placed.0 own) one)
    (seven ∙ ap (lesser walk.failing) (six ∙ ap (failing_at placed.0) fits_is)) where
      made : {a b : Option Frame} {c d : List (ℕ × Frame)} {e f : Option ℕ} → a ≡ b → c ≡ d → e ≡ f
          → ◌≡◌ {A = Walk} (record { arrived = a; frames = c; failing = e }) (record { arrived = b; frames = d; failing = f })
      made is also too = cc

pub walked_next : (method : Within) (frames : Declared) (walk next whole : Walk) (code : List (ℕ × Insn)) (turn : ℕ) (placed : ℕ × Insn) (behind : Option ℕ)
    → turn < length code → placed ≡ get_or code turn placed → behind ≡ first_place (drop (turn + 1) code) → next ≡ stepped method frames walk placed behind
    → walked method frames walk (drop turn code) ≡ whole → walked method frames next (drop (turn + 1) code) ≡ whole
walked_next method frames walk next whole code turn placed behind short is there steps so =
    let rest : drop turn code ≡ placed ∷ drop (turn + 1) code = drop_more code turn placed short ∙ ap (λ (first : ℕ × Insn). first ∷ drop (turn + 1) code) (sym is) in
    ap (λ (walk : Walk). walked method frames walk (drop (turn + 1) code)) (steps ∙ ap (stepped method frames walk placed) there)
    ∙ sym (ap (walked method frames walk) rest) ∙ so

-- the least place that fails of a method that was passed over
pub passed_failing : (method : Within) (frames : Declared) (first : Option Frame) (starts : Bool) (beginning walking lost rest result : Option ℕ)
    → frames ≡ declared method → first ≡ start method → starts ≡ begins method frames → beginning ≡ failing_at 0 starts
    → walking ≡ least (unfit method frames (placed_behind method frames first method.body.code)) → lost ≡ least (stranded method.body.code frames)
    → rest ≡ lesser walking lost → result ≡ lesser beginning rest → result ≡ first_failing method
passed_failing method frames first starts beginning walking lost rest result one two three four five six seven eight =
    eight ∙ ap₂ lesser (four ∙ ap (failing_at 0) three) (seven ∙ ap₂ lesser five six) ∙ sym (first_failing_of method frames first method.body.code)
    ∙ ap₂ (λ (frames : Declared) (first : Option Frame). least (failing_in method frames (placed_behind method frames first method.body.code))) one two
