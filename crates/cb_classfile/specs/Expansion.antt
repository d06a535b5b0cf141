-- Frames in full (JVMS §4.7.4): each kind of frame says how its locals differ from those of the frame before it, and its delta how
-- far it is from there.
use Rattle.std.specs.Prelude.{ℕ, ◌+◌, ◌-◌, List, [], ◌∷◌, ◌++◌, length, map, take, Option, Some, None, option_and_then, option_map, nat_le, if◌then◌else◌}
use Rattle.cb_classfile.specs.declared.frame_form.FrameForm.{FrameForm}
use Rattle.cb_classfile.specs.declared.frame_form.FrameForm.TheVariants as forms
use Rattle.cb_classfile.specs.declared.frame_map.MapFrame.{MapFrame}
use Rattle.cb_classfile.specs.declared.map_type.MapType.{MapType}

-- each of some, or none where one is missing
abbrev pub all_of : {Item : Type 0} → List (Option Item) → Option (List Item)
all_of [] = Some []
all_of (None ∷ items) = None
all_of (Some item ∷ items) = option_map (λ rest. item ∷ rest) (all_of items)

-- the kind of a frame with the locals of the one before it, and a delta. A kind below it takes as many locals off, and one above it
-- puts as many on
abbrev pub same_extended : ℕ
same_extended = 251

-- the last ones taken off, where there are so many
abbrev pub without_last : {Item : Type 0} → ℕ → List Item → Option (List Item)
without_last count locals = if nat_le count (length locals) then Some (take (length locals - count) locals) else None

-- the locals of a frame by those before it, if both are there, where `type_in` gives what a type in the file says
abbrev pub locals_in : {Item : Type 0} → (MapType → Option Item) → FrameForm → MapFrame → Option (List Item) → Option (List Item)
locals_in type_in forms.Chop frame before = option_and_then (without_last (same_extended - frame.kind)) before
locals_in type_in forms.Append frame before =
    option_and_then (λ locals. option_map (λ added. locals ++ added) (all_of (map type_in frame.locals))) before
locals_in type_in forms.Full frame before = all_of (map type_in frame.locals)
locals_in type_in form frame before = before

-- the place of a frame: the first one's delta, and that of another counts from behind the place before it
abbrev pub place_behind : Option ℕ → ℕ → ℕ
place_behind None delta = delta
place_behind (Some previous) delta = previous + delta + 1

-- the frames behind one at a place with such locals, or behind the method's start. `locals_behind` gives the locals of a frame by those
-- before it, and `full` makes a frame of its place, of its locals, if they are there, and of the types on its stack
abbrev pub frames_behind : {Item Full : Type 0} → (MapFrame → Option (List Item) → Option (List Item)) → (ℕ → Option (List Item) → List MapType → Full)
    → Option ℕ → Option (List Item) → List MapFrame → List Full
frames_behind locals_behind full previous before [] = []
frames_behind locals_behind full previous before (frame ∷ frames) =
    let place = place_behind previous frame.delta in
    let locals = locals_behind frame before in
    full place locals frame.stack ∷ frames_behind locals_behind full (Some place) locals frames
