-- What switches, static fields and returns do is seen the same when roots are read.
use Rattle.std.proofs.Common.{◌≡◌, ◌∙◌, ap, refl, sym, ℕ, List, [], ◌∷◌, drop, map, Option, Some, None}
use Rattle.std.proofs.lemmas.List.{drop-map, map-append}
use Rattle.std.proofs.lemmas.Option.{slice_get-map}
use Rattle.std.specs.Prelude.{option_and_then, option_map, slice_get}
use Rattle.cb_frames.specs.Tops.{pushed, top_stack}
use Rattle.cb_heap.proofs.Laws.{reads_pushed, reads_stack, reads_static}
use Rattle.cb_heap.specs.Reading.{read_frame, read_roots, read_value}
use Rattle.cb_insn.specs.declared.insn.Operand.{Operand}
use Rattle.cb_kinds.specs.declared.basic.Basic.{Basic}
use Rattle.cb_link.specs.Named.{behind_in, code_at}
use Rattle.cb_link.specs.Program.{Linked}
use Rattle.cb_machine.specs.Branching.{target_for}
use Rattle.cb_machine.specs.Standing.{taken}
use Rattle.cb_machine.specs.Values.{kept_value, sort_of_basic}
use Rattle.cb_plain.specs.declared.value.Value.{Value}
use Rattle.cb_plain.specs.declared.value.Value.TheVariants as values
use Rattle.cb_plain.specs.Roots.{with_frames, with_static}
use Rattle.cb_plain.specs.State.{Frame, Initialising, MethodFrame, OfMethod, Roots}
use Rattle.cb_shapes.specs.declared.sort.Sort.{Sort}
use Rattle.cb_shapes.specs.declared.sort.Sort.TheVariants as sorts
use Rattle.cb_act.specs.Effects.{stacked}
use Rattle.cb_act.specs.Going.{asked_by, behind_get_static, behind_put_static, behind_return, behind_switch, returned, returned_to, set_static, switched}
use Rattle.cb_act.proofs.FieldLaws.{kept_read}
use Rattle.cb_act.proofs.Read.{stacked_read, taken_read}

module _ (index : ℕ → ℕ) (held : Roots) where
  abbrev both : List Value × List Value → List Value × List Value
  both taken = (map (read_value index) taken.0, map (read_value index) taken.1)

  -- what is taken from the stack that is read
  taken_so : (asked : List Sort) → taken asked (top_stack (read_roots index held)) ≡ option_map both (taken asked (top_stack held))
  taken_so asked = ap (taken asked) (reads_stack index held) ∙ taken_read index asked (top_stack held)

  pub get_static_read : (slot : ℕ) → behind_get_static slot (read_roots index held) ≡ option_map (read_roots index) (behind_get_static slot held)
  get_static_read slot = rw (slice_get-map (read_value index) held.statics slot) (go (slice_get held.statics slot)) where
    go : (found : Option Value)
        → option_map (pushed (read_roots index held)) (option_map (read_value index) found) ≡ option_map (read_roots index) (option_map (pushed held) found)
    go None = refl
    go (Some value) = ap Some (sym (reads_pushed index held value))

  pub put_static_read : (slot : ℕ) (basic : Basic) → behind_put_static slot basic (read_roots index held) ≡ option_map (read_roots index) (behind_put_static slot basic held)
  put_static_read slot basic =
      ap (option_and_then (set_static (read_roots index held) slot basic)) (taken_so (sort_of_basic basic ∷ [])) ∙ go (taken (sort_of_basic basic ∷ []) (top_stack held)) where
        go : (found : Option (List Value × List Value))
            → option_and_then (set_static (read_roots index held) slot basic) (option_map both found) ≡ option_map (read_roots index) (option_and_then (set_static held slot basic) found)
        go None = refl
        go (Some ([], rest)) = refl
        go (Some (value ∷ other ∷ others, rest)) = refl
        go (Some (value ∷ [], rest)) =
            ap (λ own. Some (stacked (with_static (read_roots index held) slot own) (map (read_value index) rest))) (kept_read index basic value)
            ∙ ap (λ before. Some (stacked before (map (read_value index) rest))) (sym (reads_static index held slot (kept_value basic value)))
            ∙ ap Some (sym (stacked_read index (with_static held slot (kept_value basic value)) rest))

  abbrev gone_read : ℕ × Roots → ℕ × Roots
  gone_read gone = (gone.0, read_roots index gone.1)

  abbrev gone_to : Roots → ℕ → ℕ × Roots
  gone_to roots target = (target, roots)

  pub switch_read : (operand : Operand) → behind_switch operand (read_roots index held) ≡ option_map gone_read (behind_switch operand held)
  switch_read operand =
      ap (option_and_then (switched (read_roots index held) operand)) (taken_so (sorts.Int ∷ [])) ∙ go (taken (sorts.Int ∷ []) (top_stack held)) where
        of_target : (rest : List Value) (target : Option ℕ)
            → option_map (gone_to (stacked (read_roots index held) (map (read_value index) rest))) target ≡ option_map gone_read (option_map (gone_to (stacked held rest)) target)
        of_target rest None = refl
        of_target rest (Some target) = ap (λ roots. Some (gone_to roots target)) (sym (stacked_read index held rest))

        go : (found : Option (List Value × List Value))
            → option_and_then (switched (read_roots index held) operand) (option_map both found)
            ≡ option_map gone_read (option_and_then (switched held operand) found)
        go None = refl
        go (Some ([], rest)) = refl
        go (Some (values.Long n ∷ others, rest)) = refl
        go (Some (values.Ref n ∷ others, rest)) = refl
        go (Some (values.Int key ∷ other ∷ others, rest)) = refl
        go (Some (values.Int key ∷ [], rest)) = of_target rest (target_for operand key)

  pub return_read : (program : Linked) (sort : Option Sort)
      → behind_return program sort (read_roots index held) ≡ option_map (read_roots index) (behind_return program sort held)
  return_read program sort =
      ap (option_and_then (returned program (read_roots index held))) (taken_so (asked_by sort)) ∙ go (taken (asked_by sort) (top_stack held)) where
        of_place : (answer : List Value) (frame : MethodFrame) (below : List Frame) (place : Option ℕ) → behind_in (code_at program frame.method) frame.pc ≡ place
            → option_map (with_frames (read_roots index held)) (returned_to program (map (read_value index) answer) (map (read_frame index) (OfMethod frame ∷ below)))
            ≡ option_map (read_roots index) (option_map (with_frames held) (returned_to program answer (OfMethod frame ∷ below)))
        of_place answer frame below None is = rw is refl
        of_place answer frame below (Some place) is =
            rw is (ap (λ stack. Some (with_frames (read_roots index held) (OfMethod (record { method = frame.method; pc = place; slots = frame.slots; locals = map (read_value index) frame.locals; stack = stack }) ∷ map (read_frame index) below)))
            (sym (map-append (read_value index) answer frame.stack)))

        of_frames : (answer : List Value) (frames : List Frame)
            → option_map (with_frames (read_roots index held)) (returned_to program (map (read_value index) answer) (map (read_frame index) frames))
            ≡ option_map (read_roots index) (option_map (with_frames held) (returned_to program answer frames))
        of_frames answer [] = refl
        of_frames answer (Initialising class place ∷ below) = refl
        of_frames answer (OfMethod frame ∷ below) = of_place answer frame below (behind_in (code_at program frame.method) frame.pc) refl

        go : (found : Option (List Value × List Value))
            → option_and_then (returned program (read_roots index held)) (option_map both found) ≡ option_map (read_roots index) (option_and_then (returned program held) found)
        go None = refl
        go (Some answer) =
            ap (λ frames. option_map (with_frames (read_roots index held)) (returned_to program (map (read_value index) answer.0) frames)) (drop-map (read_frame index) 1 held.frames)
            ∙ of_frames answer.0 (drop 1 held.frames)
