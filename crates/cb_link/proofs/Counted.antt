-- Members by class and place are those of the classes, class by class.
use Rattle.std.proofs.Common.{◌≡◌, ◌∙◌, ap, refl, sym, ℕ, ◌+◌, List, [], ◌∷◌, ◌++◌, map}
use Rattle.std.specs.List.{enumerate_from, flat_map}
use Rattle.std.proofs.lemmas.List.{map-append}
use Rattle.std.proofs.lemmas.Simd.{map-map}
use Rattle.std.proofs.lemmas.List.Concat.{flat_map-cons}
use Rattle.cb_text.specs.declared.constant.Constant.{Constant}
use Rattle.cb_classfile.specs.declared.class.ClassFile.{ClassFile}
use Rattle.cb_link.specs.Numbers.{Numbered, field_texts, method_texts, numbered, ranked_fields, ranked_methods, texts_in}
use Rattle.cb_link.specs.InnerRanks.{fields_of_class, methods_of_class, rank_field, rank_method, texts_of_fields, texts_of_methods}

-- what doesn't look at places is said item by item
by_item : {X Y : Type 0} (f : X → Y) (n : ℕ) (xs : List X) → map (λ own. f own.1) (enumerate_from n xs) ≡ map f xs
by_item f n [] = refl
by_item f n (x ∷ xs) = ap (λ rest. f x ∷ rest) (by_item f (n + 1) xs)

lists_by_item : {X Y : Type 0} (f : X → List Y) (n : ℕ) (xs : List X) → flat_map (λ own. f own.1) (enumerate_from n xs) ≡ flat_map f xs
lists_by_item f n [] = refl
lists_by_item f n (x ∷ xs) =
    flat_map-cons (λ own. f own.1) (n, x) (enumerate_from (n + 1) xs) ∙ ap (λ rest. f x ++ rest) (lists_by_item f (n + 1) xs) ∙ sym (flat_map-cons f x xs)

mapped_lists : {X Y Z : Type 0} (g : Y → Z) (f : X → List Y) (xs : List X) → map g (flat_map f xs) ≡ flat_map (λ x. map g (f x)) xs
mapped_lists g f [] = refl
mapped_lists g f (x ∷ xs) =
    ap (map g) (flat_map-cons f x xs) ∙ map-append g (f x) (flat_map f xs) ∙ ap (λ rest. map g (f x) ++ rest) (mapped_lists g f xs)
    ∙ sym (flat_map-cons (λ x. map g (f x)) x xs)

-- what is said of members by the numbers of their classes
by_class : {Member Y : Type 0} (members : ClassFile → List Member) (g : ℕ → List Constant → Member → Y) (classes : List ClassFile)
    → map (λ member. g member.class member.pool member.member) (numbered members classes) ≡ flat_map (λ entry. map (g entry.0 entry.1.pool) (members entry.1)) (enumerate_from 0 classes)
by_class {Member} members g classes =
    mapped_lists (λ member. g member.class member.pool member.member) of_class (enumerate_from 0 classes) ∙ (λ i. flat_map (λ entry. each entry i) (enumerate_from 0 classes)) where
      of_class : ℕ × ClassFile → List (Numbered Member)
      of_class entry = map (λ own. record { class = entry.0; place = own.0; pool = entry.1.pool; member = own.1 }) (enumerate_from 0 (members entry.1))

      each : (entry : ℕ × ClassFile) → map (λ member. g member.class member.pool member.member) (of_class entry) ≡ map (g entry.0 entry.1.pool) (members entry.1)
      each entry = map-map (λ (member : Numbered Member). g member.class member.pool member.member) (λ own. record { class = entry.0; place = own.0; pool = entry.1.pool; member = own.1 }) (enumerate_from 0 (members entry.1)) ∙ by_item (g entry.0 entry.1.pool) 0 (members entry.1)

pub field_texts_by_class : (classes : List ClassFile) → field_texts classes ≡ flat_map texts_of_fields classes
field_texts_by_class classes =
    by_class (λ class. class.fields) (λ class pool field. texts_in pool field.name field.descriptor) classes ∙ lists_by_item texts_of_fields 0 classes

pub method_texts_by_class : (classes : List ClassFile) → method_texts classes ≡ flat_map texts_of_methods classes
method_texts_by_class classes =
    by_class (λ class. class.methods) (λ class pool method. texts_in pool method.name method.descriptor) classes ∙ lists_by_item texts_of_methods 0 classes

pub fields_by_class : (classes : List ClassFile) → ranked_fields classes ≡ flat_map (fields_of_class (field_texts classes)) (enumerate_from 0 classes)
fields_by_class classes = by_class (λ class. class.fields) (rank_field (field_texts classes)) classes

pub methods_by_class : (classes : List ClassFile) → ranked_methods classes ≡ flat_map (methods_of_class (method_texts classes)) (enumerate_from 0 classes)
methods_by_class classes = by_class (λ class. class.methods) (rank_method (method_texts classes)) classes
