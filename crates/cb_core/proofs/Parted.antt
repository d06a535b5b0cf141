-- The table in parts: the rows of parts that were gone through, and all of them.
use Rattle.std.proofs.Common.{◌≡◌, ◌∙◌, ap, refl, sym, subst, arith, ℕ, zero, suc, ◌+◌, ◌<◌, ◌≤◌, List, [], ◌∷◌, ◌++◌, length, map, take, get_or, append-nil}
use Rattle.std.specs.List.{AllByRecursion, AllZip}
use Rattle.std.proofs.lemmas.Grind.{flat_map-append}
use Rattle.std.proofs.lemmas.List.{append_assoc, map-append, take_more}
use denote.Ref.{Bor}
use Rattle.cb_classfile.specs.declared.class.ClassFile.{ClassFile}
use Rattle.cb_core.specs.declared.row.CoreClass.{CoreClass}
use Rattle.cb_core.specs.Built.{IsBuilt}
use Rattle.cb_core.specs.Recorded.{core_records, record_of}
use Rattle.cb_core.specs.Rowed.{class_row, part_rows}
use Rattle.cb_core.specs.Sound.{IsSound}
use Rattle.cb_classfile.specs.Library.{AreLibrary, IsReadable, IsRecordOf}
use Rattle.cb_library.specs.CoreClasses.{core_classes}
use Rattle.cb_library.specs.Rows.{CoreClass as Row}
use Rattle.cb_core.proofs.Zipped.{take_past, zip_both, zip_each, zip_of}
use Rattle.cb_core.proofs.LawRecords.{readable}
use Rattle.cb_core.proofs.SoundRows.{all_sound}

-- the record of the next row, behind those of others and of the rows before it
pub record_more : (others : List Row) (rows : List CoreClass) (i : ℕ) (d : CoreClass) (classes : List ClassFile) (class : ClassFile) → i < length rows → AllZip IsBuilt (others ++ map class_row (take i rows)) classes → IsBuilt (class_row (get_or rows i d)) class
    → AllZip IsBuilt (others ++ map class_row (take (i + 1) rows)) (classes ++ class ∷ [])
record_more others rows i d classes class below all here =
    let more : map class_row (take (i + 1) rows) ≡ map class_row (take i rows) ++ class_row (get_or rows i d) ∷ [] = ap (map class_row) (take_more rows i d below) ∙ map-append class_row (take i rows) (get_or rows i d ∷ []) in
    let behind : others ++ map class_row (take (i + 1) rows) ≡ (others ++ map class_row (take i rows)) ++ class_row (get_or rows i d) ∷ [] =
    ap (λ rest. others ++ rest) more ∙ sym (append_assoc others (map class_row (take i rows)) (class_row (get_or rows i d) ∷ [])) in
    subst (λ front. AllZip IsBuilt front (classes ++ class ∷ [])) (sym behind) (zip_both IsBuilt (others ++ map class_row (take i rows)) classes (class_row (get_or rows i d)) class all here)

pub records_all : (others : List Row) (rows : List CoreClass) (i : ℕ) (classes : List ClassFile) → length rows ≤ i → AllZip IsBuilt (others ++ map class_row (take i rows)) classes → AllZip IsBuilt (others ++ map class_row rows) classes
records_all others rows i classes past all = subst (λ front. AllZip IsBuilt (others ++ map class_row front) classes) (take_past rows i past) all

-- a part's rows are sound where those of all are, and stand behind those of the parts before it
all_back : (front back : List Row) → AllByRecursion IsSound (front ++ back) → AllByRecursion IsSound back
all_back [] back all = all
all_back (row ∷ front) back all = all_back front back all.1

all_front : (front back : List Row) → AllByRecursion IsSound (front ++ back) → AllByRecursion IsSound front
all_front [] back all = tt
all_front (row ∷ front) back all = (all.0, all_front front back all.1)

pub part_sound : (parts : List (Bor (List CoreClass))) (i : ℕ) (d : Bor (List CoreClass)) → i < length parts → AllByRecursion IsSound (part_rows parts) → AllByRecursion IsSound (map class_row (get_or parts i d).now)
part_sound [] i d below all = absurd (omega arith)
part_sound (part ∷ parts) zero d below all = all_front (map class_row part.now) (part_rows parts) all
part_sound (part ∷ parts) (suc i) d below all = part_sound parts i d (omega arith) (all_back (map class_row part.now) (part_rows parts) all)

pub parts_more : (parts : List (Bor (List CoreClass))) (i : ℕ) (d : Bor (List CoreClass)) → i < length parts → part_rows (take (i + 1) parts) ≡ part_rows (take i parts) ++ map class_row (get_or parts i d).now
parts_more parts i d below =
    ap part_rows (take_more parts i d below) ∙ flat_map-append (λ part. map class_row part.now) (take i parts) (get_or parts i d ∷ []) ∙ ap (λ rest. part_rows (take i parts) ++ rest) (append-nil (map class_row (get_or parts i d).now))

pub parts_all : (parts : List (Bor (List CoreClass))) (i : ℕ) (classes : List ClassFile) → length parts ≤ i → AllZip IsBuilt (part_rows (take i parts)) classes → AllZip IsBuilt (part_rows parts) classes
parts_all parts i classes past all = subst (λ front. AllZip IsBuilt (part_rows front) classes) (take_past parts i past) all

-- rows that are the table's are sound, and what is built of them are the library's records, which would be read
pub rows_sound : (rows : List Row) → rows ≡ core_classes → AllByRecursion IsSound rows
rows_sound rows same = subst (AllByRecursion IsSound) (sym same) all_sound

pub are_library : (rows : List Row) (classes : List ClassFile) → rows ≡ core_classes → AllZip IsBuilt rows classes → AreLibrary classes
are_library rows classes same built = zip_each IsBuilt IsRecordOf (λ row class is. is.said) core_classes classes (subst (λ rows. AllZip IsBuilt rows classes) same built)

pub all_readable : (rows : List Row) (classes : List ClassFile) → rows ≡ core_classes → AllZip IsBuilt rows classes → AllByRecursion IsReadable classes
all_readable rows classes same built = zip_of IsSound IsBuilt IsReadable (λ row class sound is. readable row class sound is) rows classes (rows_sound rows same) built

-- records as the definition makes them
pub made_more : (before classes more : List ClassFile) (rows : List CoreClass) (i : ℕ) (d : CoreClass) (class : ClassFile) → i < length rows → more ≡ classes ++ class ∷ []
    → classes ≡ before ++ map record_of (map class_row (take i rows)) → class ≡ record_of (class_row (get_or rows i d)) → more ≡ before ++ map record_of (map class_row (take (i + 1) rows))
made_more before classes more rows i d class below pushed so_far is =
    let front : List ClassFile = map record_of (map class_row (take i rows)) in
    let these : map record_of (map class_row (take (i + 1) rows)) ≡ front ++ record_of (class_row (get_or rows i d)) ∷ [] =
    ap (λ (rows : List CoreClass). map record_of (map class_row rows)) (take_more rows i d below) ∙ ap (map record_of) (map-append class_row (take i rows) (get_or rows i d ∷ []))
    ∙ map-append record_of (map class_row (take i rows)) (class_row (get_or rows i d) ∷ []) in
    pushed ∙ ap (λ classes. classes ++ class ∷ []) so_far ∙ append_assoc before front (class ∷ []) ∙ ap (λ rest. before ++ rest) (ap (λ class. front ++ class ∷ []) is ∙ sym these)

pub made_all : (before classes : List ClassFile) (rows : List CoreClass) (i : ℕ) → length rows ≤ i → classes ≡ before ++ map record_of (map class_row (take i rows))
    → classes ≡ before ++ map record_of (map class_row rows)
made_all before classes rows i past so_far = so_far ∙ ap (λ rows. before ++ map record_of (map class_row rows)) (take_past rows i past)

pub part_made : (classes more : List ClassFile) (parts : List (Bor (List CoreClass))) (i : ℕ) (d : Bor (List CoreClass)) → i < length parts → classes ≡ map record_of (part_rows (take i parts))
    → more ≡ classes ++ map record_of (map class_row (get_or parts i d).now) → more ≡ map record_of (part_rows (take (i + 1) parts))
part_made classes more parts i d below so_far added =
    added ∙ ap (λ classes. classes ++ map record_of (map class_row (get_or parts i d).now)) so_far
    ∙ sym (ap (map record_of) (parts_more parts i d below) ∙ map-append record_of (part_rows (take i parts)) (map class_row (get_or parts i d).now))

pub parts_made : (classes : List ClassFile) (parts : List (Bor (List CoreClass))) (i : ℕ) → length parts ≤ i → classes ≡ map record_of (part_rows (take i parts)) → classes ≡ map record_of (part_rows parts)
parts_made classes parts i past so_far = so_far ∙ ap (λ parts. map record_of (part_rows parts)) (take_past parts i past)

pub records_are : core_records ≡ map record_of core_classes
unfolding core_records
records_are = refl

pub records_made : (rows : List Row) (classes : List ClassFile) → rows ≡ core_classes → classes ≡ map record_of rows → classes ≡ core_records
records_made rows classes same made = made ∙ ap (map record_of) same ∙ sym records_are
