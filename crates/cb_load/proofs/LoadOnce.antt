-- What an entry comes to in a folder that tells its files is one thing.
use Rattle.std.proofs.Common.{◌≡◌, ◌⊎◌, inl, inr, ℕ, ◌+◌, ◌/◌, ◌%◌, ◌^◌, ◌<◌, ◌≤◌, Bool, true, false, List, ◌∷◌, ◌++◌, length, Option, None, Some, refl, sym, subst, ap, ◌∙◌, arith}
use Rattle.std.proofs.lemmas.Bool.{false≢true}
use Rattle.cb_io.specs.Folder.{Files}
use Rattle.cb_classfile.specs.declared.class.ClassFile.{ClassFile}
use Rattle.cb_classfile.specs.declared.feature.Feature.{Feature}
use Rattle.cb_classfile.specs.Answers.{HasNoOtherVersion, IsAcceptedClass}
use Rattle.cb_classfile.specs.Class.{HasVersion, IsAccepted, SpellsClass}
use Rattle.cb_classfile.specs.Pool.{class_at}
use Rattle.cb_classfile.specs.Profile.{unsupported}
use Rattle.cb_classfile.proofs.Laws.{one_class_spelled}
use Rattle.cb_link.specs.declared.refusal.Quantity.TheVariants.{ClassFileBytes, Classes}
use Rattle.cb_link.specs.declared.refusal.Refusal.{Refusal}
use Rattle.cb_link.specs.declared.refusal.Refusal.TheVariants.{MissingClass, TooLarge, Malformed, BadVersion, Unsupported}
use Rattle.cb_link.specs.Judging.{class_limit}
use Rattle.cb_load.specs.Names.{Entry}
use Rattle.cb_load.specs.Closure.{Turn}
use Rattle.cb_load.specs.Files.{MayStandAt, path_of}
use Rattle.cb_load.specs.Loading.{AreMany, HasRoom, IsLeftOut, IsLong, IsMissing, IsNoClass, IsOfVersion, IsRead, IsRefused, IsThere, Loads, StaysOpaque, file_limit, is_loaded}

-- the folder has one file at a path
one_file : (files : Files) (path one other : Option (List ℕ)) → MayStandAt (Some files) path one → MayStandAt (Some files) path other → one ≡ other
one_file files None one other is so = is ∙ sym so
one_file files (Some path) one other is so = sym is ∙ so

-- bytes have one version
one_version : (bytes : List ℕ) (one other : ℕ) → HasVersion bytes one → HasVersion bytes other → one ≡ other
one_version bytes one other (minor, rest, (first, (small, fits, is), split)) (lower, behind, (second, (small_too, fits_too, is_too), split_too)) =
    let same = sym (ap (λ front. front ++ rest) is) ∙ sym split ∙ split_too ∙ ap (λ front. front ++ behind) is_too in
    bytes_same minor lower one other rest behind fits fits_too same where
      bytes_same : (minor lower one other : ℕ) (rest behind : List ℕ) → one < 2 ^ 16 → other < 2 ^ 16
          → (202 ∷ 254 ∷ 186 ∷ 190 ∷ minor / 256 % 256 ∷ minor % 256 ∷ one / 256 % 256 ∷ one % 256 ∷ rest) ≡ (202 ∷ 254 ∷ 186 ∷ 190 ∷ lower / 256 % 256 ∷ lower % 256 ∷ other / 256 % 256 ∷ other % 256 ∷ behind) → one ≡ other
      bytes_same minor lower one other rest behind fits fits_too same =
          let high : one / 256 % 256 ≡ other / 256 % 256 = cc in
          let low : one % 256 ≡ other % 256 = cc in
          omega (arith, high, low)

-- a class, or why there is none
abbrev pub Outcome : Type 0
Outcome = Option ClassFile ⊎ Refusal

module _ (files : Files) (root : List ℕ) (before : List (Turn ClassFile)) (entry : Entry) where
  abbrev verdict : ClassFile → Option Feature → Outcome
  verdict class None = inl (Some class)
  verdict class (Some item) = inr (Unsupported entry.name item)

  abbrev unfound : Bool → Outcome
  unfound true = inr (MissingClass entry.name)
  unfound false = inl None

  -- what bytes of an accepted version come to, then bytes for which there is room, short ones, any, an entry whose class
  -- isn't there, and any entry
  abbrev OfAccepted : List ℕ → Outcome → Type 0
  OfAccepted bytes outcome =
      (((class : ClassFile) → SpellsClass bytes class → ¬ (class_at class.pool class.this_class ≡ Some entry.name)) × (outcome ≡ inr (Malformed entry.name)))
      ⊎ ((class : ClassFile) × IsAcceptedClass bytes class × (class_at class.pool class.this_class ≡ Some entry.name) × (outcome ≡ verdict class (unsupported class)))

  abbrev OfRoomy : List ℕ → Outcome → Type 0
  OfRoomy bytes outcome = ((major : ℕ) × HasVersion bytes major × (¬ IsAccepted major) × (outcome ≡ inr (BadVersion entry.name major))) ⊎ (HasNoOtherVersion bytes × OfAccepted bytes outcome)

  abbrev OfShort : List ℕ → Outcome → Type 0
  OfShort bytes outcome = ((¬ HasRoom before) × (outcome ≡ inr (TooLarge Classes (class_limit + 1) class_limit))) ⊎ (HasRoom before × OfRoomy bytes outcome)

  abbrev OfBytes : List ℕ → Outcome → Type 0
  OfBytes bytes outcome = ((file_limit < length bytes) × (outcome ≡ inr (TooLarge ClassFileBytes (file_limit + 1) file_limit))) ⊎ ((length bytes ≤ file_limit) × OfShort bytes outcome)

  abbrev OfNew : Outcome → Type 0
  OfNew outcome = (MayStandAt (Some files) (path_of root entry.name) None × (outcome ≡ unfound entry.needed)) ⊎ ((bytes : List ℕ) × MayStandAt (Some files) (path_of root entry.name) (Some bytes) × OfBytes bytes outcome)

  abbrev Comes : Outcome → Type 0
  Comes outcome = ((is_loaded before entry.name ≡ true) × (outcome ≡ inl None)) ⊎ ((is_loaded before entry.name ≡ false) × OfNew outcome)

  one_accepted : (bytes : List ℕ) (one other : Outcome) → OfAccepted bytes one → OfAccepted bytes other → one ≡ other
  one_accepted bytes one other (inl (none, is)) (inl (none_too, so)) = is ∙ sym so
  one_accepted bytes one other (inl (none, is)) (inr (class, accepted, named, so)) = absurd (none class accepted.spelled named)
  one_accepted bytes one other (inr (class, accepted, named, is)) (inl (none, so)) = absurd (none class accepted.spelled named)
  one_accepted bytes one other (inr (class, accepted, named, is)) (inr (class_too, accepted_too, named_too, so)) =
      is ∙ ap (λ class. verdict class (unsupported class)) (one_class_spelled bytes class class_too accepted.spelled accepted_too.spelled) ∙ sym so

  one_roomy : (bytes : List ℕ) (one other : Outcome) → OfRoomy bytes one → OfRoomy bytes other → one ≡ other
  one_roomy bytes one other (inl (major, has, refused, is)) (inl (major_too, has_too, refused_too, so)) = is ∙ ap (λ major. inr (BadVersion entry.name major)) (one_version bytes major major_too has has_too) ∙ sym so
  one_roomy bytes one other (inl (major, has, refused, is)) (inr (versions, so)) = absurd (refused (versions major has))
  one_roomy bytes one other (inr (versions, is)) (inl (major, has, refused, so)) = absurd (refused (versions major has))
  one_roomy bytes one other (inr (versions, is)) (inr (versions_too, so)) = one_accepted bytes one other is so

  one_short : (bytes : List ℕ) (one other : Outcome) → OfShort bytes one → OfShort bytes other → one ≡ other
  one_short bytes one other (inl (full, is)) (inl (full_too, so)) = is ∙ sym so
  one_short bytes one other (inl (full, is)) (inr (room, so)) = absurd (full room)
  one_short bytes one other (inr (room, is)) (inl (full, so)) = absurd (full room)
  one_short bytes one other (inr (room, is)) (inr (room_too, so)) = one_roomy bytes one other is so

  one_of_bytes : (bytes : List ℕ) (one other : Outcome) → OfBytes bytes one → OfBytes bytes other → one ≡ other
  one_of_bytes bytes one other (inl (long, is)) (inl (long_too, so)) = is ∙ sym so
  one_of_bytes bytes one other (inl (long, is)) (inr (short, so)) = absurd (omega arith)
  one_of_bytes bytes one other (inr (short, is)) (inl (long, so)) = absurd (omega arith)
  one_of_bytes bytes one other (inr (short, is)) (inr (short_too, so)) = one_short bytes one other is so

  one_new : (one other : Outcome) → OfNew one → OfNew other → one ≡ other
  one_new one other (inl (may, is)) (inl (might, so)) = is ∙ sym so
  one_new one other (inl (may, is)) (inr (bytes, might, so)) =
      let clash : None ≡ Some bytes = one_file files (path_of root entry.name) None (Some bytes) may might in cc
  one_new one other (inr (bytes, may, is)) (inl (might, so)) =
      let clash : None ≡ Some bytes = one_file files (path_of root entry.name) None (Some bytes) might may in cc
  one_new one other (inr (bytes, may, is)) (inr (bytes_too, might, so)) =
      let file : Some bytes_too ≡ Some bytes = one_file files (path_of root entry.name) (Some bytes_too) (Some bytes) might may in
      let same : bytes_too ≡ bytes = cc in
      one_of_bytes bytes one other is (subst (λ bytes. OfBytes bytes other) same so)

  one_outcome : (one other : Outcome) → Comes one → Comes other → one ≡ other
  one_outcome one other (inl (there, is)) (inl (there_too, so)) = is ∙ sym so
  one_outcome one other (inl (there, is)) (inr (new, so)) = absurd (false≢true (sym new ∙ there))
  one_outcome one other (inr (new, is)) (inl (there, so)) = absurd (false≢true (sym new ∙ there))
  one_outcome one other (inr (new, is)) (inr (new_too, so)) = one_new one other is so

  accepted_versions : (bytes : List ℕ) (class : ClassFile) → IsAcceptedClass bytes class → HasNoOtherVersion bytes
  accepted_versions bytes class accepted major has =
      subst IsAccepted (one_version bytes class.major major (class.minor, accepted.spelled.second, (accepted.spelled.first, accepted.spelled.here, accepted.spelled.spelled)) has) accepted.accepted

  of_loads : (loads : Option ClassFile) → Loads (Some files) root before entry loads → Comes (inl loads)
  of_loads loads (IsThere there) = inl (there, refl)
  of_loads loads (StaysOpaque new may unneeded) = inr (new, inl (may, ap unfound (sym unneeded)))
  of_loads loads (IsRead bytes class new may room of) =
      inr (new, inr (bytes, may, inr (of.short, inr (room, inr (accepted_versions bytes class of.read, inr (class, of.read, of.named, ap (verdict class) (sym of.whole)))))))

  of_refused : (refusal : Refusal) → IsRefused (Some files) root before entry refusal → Comes (inr refusal)
  of_refused refusal (IsMissing new may needed) = inr (new, inl (may, ap unfound (sym needed)))
  of_refused refusal (IsLong bytes new may long) = inr (new, inr (bytes, may, inl (long, refl)))
  of_refused refusal (AreMany bytes new may short full) = inr (new, inr (bytes, may, inr (short, inl (full, refl))))
  of_refused refusal (IsOfVersion bytes major new may short room has refused) = inr (new, inr (bytes, may, inr (short, inr (room, inl (major, has, refused, refl)))))
  of_refused refusal (IsNoClass bytes new may short room versions none) = inr (new, inr (bytes, may, inr (short, inr (room, inr (versions, inl (none, refl))))))
  of_refused refusal (IsLeftOut bytes class item new may short room accepted named left_out) =
      inr (new, inr (bytes, may, inr (short, inr (room, inr (accepted_versions bytes class accepted, inr (class, accepted, named, ap (verdict class) (sym left_out)))))))

  pub one_load : (one other : Option ClassFile) → Loads (Some files) root before entry one → Loads (Some files) root before entry other → one ≡ other
  one_load one other is so =
      let same : inl one ≡ inl other = one_outcome (inl one) (inl other) (of_loads one is) (of_loads other so) in cc

  pub not_both : (loads : Option ClassFile) (refusal : Refusal) → Loads (Some files) root before entry loads → IsRefused (Some files) root before entry refusal → ⊥
  not_both loads refusal is so =
      let same : inl loads ≡ inr refusal = one_outcome (inl loads) (inr refusal) (of_loads loads is) (of_refused refusal so) in cc

  pub one_refusal : (one other : Refusal) → IsRefused (Some files) root before entry one → IsRefused (Some files) root before entry other → one ≡ other
  one_refusal one other is so =
      let same : inr one ≡ inr other = one_outcome (inr one) (inr other) (of_refused one is) (of_refused other so) in cc
