-- At most one frame stands at the front of some bytes.
use Rattle.std.proofs.Common.{◌≡◌, ℕ, ◌+◌, ◌-◌, List, [], ◌∷◌, ◌++◌, refl, sym, ◌∙◌, ap, arith}
use Rattle.cb_text.specs.declared.constant.Constant.{Constant}
use Rattle.cb_classfile.specs.declared.frame_form.FrameForm.{FrameForm}
use Rattle.cb_classfile.specs.declared.frame_form.FrameForm.TheVariants as forms
use Rattle.cb_classfile.specs.declared.frame_map.MapFrame.{MapFrame}
use Rattle.cb_classfile.specs.declared.map_type.MapType.{MapType}
use Rattle.cb_classfile.specs.declared.map_type.MapType.TheVariants.{Top, Integer, Float, Double, Long, Null, UninitializedThis, Object, Uninitialized}
use Rattle.cb_classfile.specs.FrameMap.{SpellsType, SpellsDelta, SpellsLocals, SpellsStack, SpellsFormed, SpellsFrame, SpellsFrames, form_of_frame}
use Rattle.cb_classfile.proofs.Framing.{frame_same, tag_of, behind_tag, type_spelled}
use Rattle.cb_classfile.proofs.OneItem.{IsExact, one_whole, respelled, one_u2, exact_u1, exact_u2, exact_empty, exact_count, exact_then, exact_table}

-- of two types of one tag, both are one
tagged_same : (pool : List Constant) (one other : MapType) (first second rest behind : List ℕ) → SpellsType pool first one → SpellsType pool second other → tag_of one ≡ tag_of other → behind_tag one ++ rest ≡ behind_tag other ++ behind → (one ≡ other) × (rest ≡ behind)
unfolding tag_of behind_tag
tagged_same pool Top Top first second rest behind spelled spelled_too tags same = (refl, same)
tagged_same pool Integer Integer first second rest behind spelled spelled_too tags same = (refl, same)
tagged_same pool Float Float first second rest behind spelled spelled_too tags same = (refl, same)
tagged_same pool Double Double first second rest behind spelled spelled_too tags same = (refl, same)
tagged_same pool Long Long first second rest behind spelled spelled_too tags same = (refl, same)
tagged_same pool Null Null first second rest behind spelled spelled_too tags same = (refl, same)
tagged_same pool UninitializedThis UninitializedThis first second rest behind spelled spelled_too tags same = (refl, same)
tagged_same pool (Object class) (Object other) first second rest behind spelled spelled_too tags same =
    let number = one_u2 spelled.allowed.1 spelled_too.allowed.1 same in
    (ap Object number.0, number.1)
tagged_same pool (Uninitialized place) (Uninitialized other) first second rest behind spelled spelled_too tags same =
    let number = one_u2 spelled.allowed spelled_too.allowed same in
    (ap Uninitialized number.0, number.1)
tagged_same pool one other first second rest behind spelled spelled_too tags same = absurd (omega (arith, tags))

-- at most one type stands at the front
pub exact_type : (pool : List Constant) → IsExact (SpellsType pool)
exact_type pool = record {
  same = λ one other first second rest behind spelled spelled_too same.
      let alike : tag_of one ∷ (behind_tag one ++ rest) ≡ tag_of other ∷ (behind_tag other ++ behind) = respelled rest behind (type_spelled pool first one spelled) (type_spelled pool second other spelled_too) same in
      let tags : tag_of one ≡ tag_of other = cc in
      let behinds : behind_tag one ++ rest ≡ behind_tag other ++ behind = cc in
      tagged_same pool one other first second rest behind spelled spelled_too tags behinds;
}

-- the delta of a frame of a form and kind
pub exact_delta : (form : FrameForm) (kind : ℕ) → IsExact (SpellsDelta form kind)
exact_delta forms.Same kind = exact_empty (λ delta. delta ≡ kind) (λ one other is is_too. is ∙ sym is_too)
exact_delta forms.SameOneItem kind = exact_empty (λ delta. delta + 64 ≡ kind) (λ one other is is_too. omega (arith, is, is_too))
exact_delta forms.Reserved kind = record { same = λ one other first second rest behind spelled spelled_too same. absurd spelled }
exact_delta form kind = exact_u2

-- no types
exact_none : IsExact (λ (bytes : List ℕ) (types : List MapType). (types ≡ []) × (bytes ≡ []))
exact_none = exact_empty (λ types. types ≡ []) (λ one other none none_too. none ∙ sym none_too)

-- its locals
pub exact_locals : (pool : List Constant) (form : FrameForm) (kind : ℕ) → IsExact (SpellsLocals pool form kind)
exact_locals pool forms.Append kind = exact_count (kind - 251) (exact_type pool)
exact_locals pool forms.Full kind = exact_table (exact_type pool)
exact_locals pool form kind = exact_none

-- its stack
pub exact_stack : (pool : List Constant) (form : FrameForm) → IsExact (SpellsStack pool form)
exact_stack pool forms.SameOneItem = exact_count 1 (exact_type pool)
exact_stack pool forms.SameOneItemExtended = exact_count 1 (exact_type pool)
exact_stack pool forms.Full = exact_table (exact_type pool)
exact_stack pool form = exact_none

-- at most one frame stands at the front
exact_formed : (pool : List Constant) (form : FrameForm) (kind : ℕ) → IsExact (SpellsFormed pool form kind)
exact_formed pool form kind = exact_then (exact_delta form kind) (λ delta. exact_then (exact_locals pool form kind) (λ locals. exact_stack pool form))

pub exact_frame : (pool : List Constant) → IsExact (SpellsFrame pool)
exact_frame pool = record {
  same = λ one other first second rest behind spelled spelled_too same.
      let parts = (exact_then exact_u1 (λ kind. exact_formed pool (form_of_frame kind) kind)).same _ _ _ _ _ _ spelled spelled_too same in
      (frame_same one.kind one.delta one.locals one.stack other (ap (λ p. p.0) parts.0) (ap (λ p. p.1.0) parts.0) (ap (λ p. p.1.1.0) parts.0) (ap (λ p. p.1.1.1) parts.0), parts.1);
}

-- the contents of attributes StackMapTable tell at most one list of frames
pub frames_told : (pool : List Constant) (contents : List (List ℕ)) (one other : List MapFrame) → SpellsFrames pool contents one → SpellsFrames pool contents other → one ≡ other
frames_told pool [] one other none none_too = none ∙ sym none_too
frames_told pool (contents ∷ []) one other told told_too = one_whole (exact_table (exact_frame pool)) told told_too
frames_told pool (first ∷ second ∷ contents) one other told told_too = absurd told
