-- What is entered part by part is entered as a whole.
use Rattle.std.proofs.Common.{◌≡◌, ◌∙◌, ap, refl, sym, ℕ, Bool, true, false, List, [], ◌∷◌, ◌++◌, Some, get_or, take, length, ◌+◌, ◌<◌}
use Rattle.std.specs.List.{flat_map}
use Rattle.std.proofs.lemmas.Grind.{flat_map-append}
use Rattle.std.proofs.lemmas.List.{append-nil, map-append, take_more}
use Rattle.cb_text.specs.declared.constant.Constant.{Constant}
use Rattle.cb_text.specs.Naming.{text_at}
use Rattle.cb_insn.specs.declared.insn.Insn.{Insn}
use Rattle.cb_classfile.specs.declared.body.Body.{Body}
use Rattle.cb_classfile.specs.declared.class.ClassFile.{ClassFile}
use Rattle.cb_classfile.specs.declared.field.Field.{Field}
use Rattle.cb_classfile.specs.declared.frame_map.MapFrame.{MapFrame}
use Rattle.cb_classfile.specs.declared.handler.Handler.{Handler}
use Rattle.cb_classfile.specs.declared.map_type.MapType.{MapType}
use Rattle.cb_classfile.specs.declared.method.Method.{Method}
use Rattle.cb_load.specs.Names.{Entry, all_of, body_names, class_names, class_names_at, constant_names, frame_names, handler_names, insn_names, mentioned, method_names, names_at, names_in, names_of, needed, type_names}
use Rattle.cb_load.specs.InnerEntering.{marked}
use Rattle.cb_load.specs.Inner.{entered_all}
use Rattle.cb_load.specs.InnerUses.{AreTextsOf}
use Rattle.cb_load.proofs.EnteredLaws.{entered_append}

-- two parts that are entered in turn
pub more : (old middle new one other : List Entry) → middle ≡ entered_all old one → new ≡ entered_all middle other → new ≡ entered_all old (one ++ other)
more old middle new one other first then =
    let entries : entered_all middle other ≡ entered_all (entered_all old one) other = ap (λ entries. entered_all entries other) first in
    then ∙ entries ∙ sym (entered_append old one other)

-- names of items that are all needed, or that all aren't
marked_flat : {X : Type 0} (mark : Bool) (names : X → List (List ℕ)) (items : List X) → flat_map (λ item. marked mark (names item)) items ≡ marked mark (flat_map names items)
marked_flat mark names [] = refl
marked_flat mark names (item ∷ items) =
    ap (λ rest. marked mark (names item) ++ rest) (marked_flat mark names items)
    ∙ sym (map-append (λ name. record { name = name; needed = mark }) (names item) (flat_map names items))

pub frame_entered : (pool : List Constant) (frame : MapFrame) (locals stack : List MapType) (old middle new : List Entry) → locals ≡ frame.locals → stack ≡ frame.stack
    → middle ≡ entered_all old (flat_map (λ kind. mentioned (type_names pool kind)) locals) → new ≡ entered_all middle (flat_map (λ kind. mentioned (type_names pool kind)) stack)
    → new ≡ entered_all old (mentioned (frame_names pool frame))
frame_entered pool frame locals stack old middle new one other first then =
    let whole : flat_map (λ kind. mentioned (type_names pool kind)) locals ++ flat_map (λ kind. mentioned (type_names pool kind)) stack ≡ mentioned (frame_names pool frame) =
    (λ i. flat_map (λ kind. mentioned (type_names pool kind)) (one i) ++ flat_map (λ kind. mentioned (type_names pool kind)) (other i))
    ∙ sym (flat_map-append (λ kind. mentioned (type_names pool kind)) frame.locals frame.stack)
    ∙ marked_flat false (type_names pool) (frame.locals ++ frame.stack) in
    more old middle new (flat_map (λ kind. mentioned (type_names pool kind)) locals) (flat_map (λ kind. mentioned (type_names pool kind)) stack) first then
    ∙ ap (entered_all old) whole

pub member_entered : (pool : List Constant) (index class descriptor : ℕ) (old middle new : List Entry) → AreTextsOf pool index class descriptor
    → middle ≡ entered_all old (marked true (all_of class_names (text_at pool class))) → new ≡ entered_all middle (mentioned (names_at pool descriptor))
    → new ≡ entered_all old (constant_names pool index)
member_entered pool index class descriptor old middle new texts first then =
    let named : needed (class_names texts.member.class) ++ mentioned (names_in texts.member.descriptor) ≡ constant_names pool index = rw texts.there refl in
    let whole : marked true (all_of class_names (text_at pool class)) ++ mentioned (names_at pool descriptor) ≡ constant_names pool index =
    (λ i. marked true (all_of class_names (texts.class_text i)) ++ mentioned (all_of names_in (texts.type_text i))) ∙ named in
    more old middle new (marked true (all_of class_names (text_at pool class))) (mentioned (names_at pool descriptor)) first then ∙ ap (entered_all old) whole

pub method_entered : (pool : List Constant) (method : Method) (body : Body) (old middle new : List Entry) → method.body ≡ Some body
    → middle ≡ entered_all old (mentioned (names_at pool method.descriptor)) → new ≡ entered_all middle (body_names pool (Some body))
    → new ≡ entered_all old (method_names pool method)
method_entered pool method body old middle new is first then =
    more old middle new (mentioned (names_at pool method.descriptor)) (body_names pool (Some body)) first then
    ∙ ap (λ body. entered_all old (mentioned (names_at pool method.descriptor) ++ body_names pool body)) (sym is)

pub body_entered : (pool : List Constant) (body : Body) (code : List (ℕ × Insn)) (handlers : List Handler) (frames : List MapFrame) (old middle later new : List Entry)
    → code ≡ body.code → handlers ≡ body.handlers → frames ≡ body.frames
    → middle ≡ entered_all old (flat_map (λ placed. insn_names pool placed.1) code)
    → later ≡ entered_all middle (flat_map (λ handler. needed (handler_names pool handler)) handlers)
    → new ≡ entered_all later (flat_map (λ frame. mentioned (frame_names pool frame)) frames)
    → new ≡ entered_all old (body_names pool (Some body))
body_entered pool body code handlers frames old middle later new one other last first then end =
    let named : List (ℕ × Insn) → List Entry = λ code. flat_map (λ placed. insn_names pool placed.1) code in
    let caught : List Handler → List Entry = λ handlers. flat_map (λ handler. needed (handler_names pool handler)) handlers in
    let framed : List MapFrame → List Entry = λ frames. flat_map (λ frame. mentioned (frame_names pool frame)) frames in
    let whole : (named code ++ caught handlers) ++ framed frames ≡ body_names pool (Some body) =
    (λ i. (named (one i) ++ caught (other i)) ++ framed (last i))
    ∙ (λ i. (named body.code ++ marked_flat true (handler_names pool) body.handlers i) ++ marked_flat false (frame_names pool) body.frames i) in
    more old later new (named code ++ caught handlers) (framed frames) (more old middle later (named code) (caught handlers) first then) end
    ∙ ap (entered_all old) whole

pub class_entered : (class : ClassFile) (interfaces : List ℕ) (fields : List Field) (methods : List Method) (old above below later new : List Entry)
    → interfaces ≡ class.interfaces → fields ≡ class.fields → methods ≡ class.methods
    → above ≡ entered_all old (marked true (class_names_at class.pool class.super_class))
    → below ≡ entered_all above (flat_map (λ index. needed (class_names_at class.pool index)) interfaces)
    → later ≡ entered_all below (flat_map (λ field. mentioned (names_at class.pool field.descriptor)) fields)
    → new ≡ entered_all later (flat_map (method_names class.pool) methods)
    → new ≡ entered_all old (names_of class)
class_entered class interfaces fields methods old above below later new one other last first second third fourth =
    let super : List Entry = marked true (class_names_at class.pool class.super_class) in
    let faces : List ℕ → List Entry = λ interfaces. flat_map (λ index. needed (class_names_at class.pool index)) interfaces in
    let typed : List Field → List Entry = λ fields. flat_map (λ field. mentioned (names_at class.pool field.descriptor)) fields in
    let coded : List Method → List Entry = λ methods. flat_map (method_names class.pool) methods in
    let whole : ((super ++ faces interfaces) ++ typed fields) ++ coded methods ≡ names_of class =
    (λ i. ((super ++ faces (one i)) ++ typed (other i)) ++ coded (last i))
    ∙ (λ i. ((super ++ marked_flat true (class_names_at class.pool) class.interfaces i)
    ++ marked_flat {X = Field} false (λ field. names_at class.pool field.descriptor) class.fields i) ++ coded class.methods) in
    more old later new ((super ++ faces interfaces) ++ typed fields) (coded methods)
    (more old below later (super ++ faces interfaces) (typed fields) (more old above below super (faces interfaces) first second) third)
    fourth
    ∙ ap (entered_all old) whole

-- one more item of a list
pub item_entered : {X : Type 0} (names : X → List Entry) (items : List X) (place : ℕ) (item : X) (old middle new : List Entry)
    → place < length items → item ≡ get_or items place item → middle ≡ entered_all old (flat_map names (take place items)) → new ≡ entered_all middle (names item)
    → new ≡ entered_all old (flat_map names (take (place + 1) items))
item_entered {X} names items place item old middle new short is first then =
    let whole : flat_map names (take place items) ++ names item ≡ flat_map names (take (place + 1) items) =
    ap (λ rest. flat_map names (take place items) ++ rest) (sym (append-nil (names item)))
    ∙ sym (flat_map-append names (take place items) (item ∷ []))
    ∙ ap (λ item. flat_map names (take place items ++ item ∷ [])) is
    ∙ ap (flat_map names) (sym (take_more items place item short)) in
    more old middle new (flat_map names (take place items)) (names item) first then ∙ ap (entered_all old) whole
