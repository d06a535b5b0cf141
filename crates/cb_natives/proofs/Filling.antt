-- An array of chars that was placed, and the units of a text that are written into it.
use Rattle.std.proofs.Common.{◌≡◌, ◌∙◌, ap, arith, subst, sym, ℕ, pos, ◌+◌, ◌<◌, ◌≤◌, ◌^◌, List, [], ◌∷◌, ◌++◌, Option, Some, length, replicate, slice_get}
use Rattle.std.proofs.lemmas.List.{length-replicate}
use Rattle.cb_heap.specs.Kept.{contents_at, is_number}
use Rattle.cb_heap.specs.Reading.{serial_of}
use Rattle.cb_heap.specs.Store.{ReadsAsBefore}
use Rattle.cb_link.specs.Program.{Linked}
use Rattle.cb_machine.specs.Copying.{overwritten}
use Rattle.cb_machine.specs.Strings.{unit_contents}
use Rattle.cb_plain.specs.State.{Content, Number, Object}
use Rattle.cb_plain.specs.Updates.{with_contents_in}
use Rattle.cb_natives.specs.Pieces.{IsText, text_units}
use Rattle.cb_natives.specs.Writing.{HoldsNumbers, TextApart}
use Rattle.cb_natives.specs.declared.pieces.Text.{Text}
use Rattle.cb_natives.proofs.Overwriting.{over_whole}
use Rattle.cb_natives.proofs.Placed.{blank_numbers, last_contents, last_kept, text_apart, text_placed, text_same, with_last}
use Rattle.cb_natives.proofs.Writes.{IsTarget, wrote}
use Rattle.cb_natives.proofs.WritesOn.{units_length}

-- what is asked where a text is written
pub record CanFill (program : Linked) (objects : List (Option Object)) (index : ℕ → ℕ) (to : ℕ) (text : Text) : Type 0 where
  pub target : IsTarget objects (serial_of index to)
  pub is : IsText program objects index text
  pub apart : TextApart index (serial_of index to) text
  pub room : 0 + length (text_units program objects index text) ≤ length (contents_at objects (serial_of index to))

module _ (program : Linked) (objects : List (Option Object)) (object : Object) (before after : ℕ → ℕ) (again : ReadsAsBefore objects before after) (text : Text)
    (is : IsText program objects before text) (size : ℕ) (blank : object.contents ≡ replicate size (Number (pos 0))) (whole : size ≡ length (text_units program objects before text))
    (few : size < 2 ^ 31) (now : List (Option Object)) (placed : now ≡ objects ++ Some object ∷ []) (array : ℕ) (last : serial_of after array ≡ length objects + 1) where
  abbrev behind : List (Option Object)
  behind = objects ++ Some object ∷ []

  abbrev serial : ℕ
  serial = length objects + 1

  abbrev units : List ℕ
  units = text_units program objects before text

  contents_so : contents_at behind serial ≡ replicate size (Number (pos 0))
  contents_so = last_contents objects object ∙ blank

  size_so : length (contents_at behind serial) ≡ size
  size_so = ap length contents_so ∙ length-replicate {A = Content} size (Number (pos 0))

  numbers_so : HoldsNumbers behind serial
  numbers_so word low = ap (λ contents. is_number (slice_get contents word)) contents_so ∙ blank_numbers size word (omega (arith, low, size_so))

  target_so : IsTarget behind serial
  target_so = record { there = last_kept objects object; numbers = numbers_so; few = omega (arith, size_so, few) }

  same : text_units program behind after text ≡ units
  same = text_same objects object before after again program text is

  can_there : (at : ℕ) → at ≡ serial → IsTarget behind at × TextApart after at text × (0 + length (text_units program behind after text) ≤ length (contents_at behind at))
  can_there at own = (
    subst (IsTarget behind) (sym own) target_so,
    subst (λ (at : ℕ). TextApart after at text) (sym own) (text_apart objects object before after again program text is),
    subst (λ (at : ℕ). 0 + length (text_units program behind after text) ≤ length (contents_at behind at)) (sym own) (omega (arith, ap length same, size_so, whole)),
  )

  pub can_fill : CanFill program now after array text
  can_fill =
      let there = can_there (serial_of after array) last in
      subst (λ now. CanFill program now after array text) (sym placed)
      (record { target = there.0; is = text_placed objects object before after again program text is; apart = there.1; room = there.2 })

  pub filled_so : (then : List (Option Object)) → then ≡ wrote now (serial_of after array) 0 (text_units program now after text)
      → then ≡ objects ++ Some (record { site = object.site; kind = object.kind; contents = unit_contents units }) ∷ []
  filled_so then is_written =
      let long : length (unit_contents units) ≡ length (replicate size (Number (pos 0))) = units_length units ∙ sym whole ∙ sym (length-replicate {A = Content} size (Number (pos 0))) in
      is_written
      ∙ ap (λ now. wrote now (serial_of after array) 0 (text_units program now after text)) placed
      ∙ ap (wrote behind (serial_of after array) 0) same
      ∙ ap (λ (at : ℕ). wrote behind at 0 units) last
      ∙ ap (λ contents. with_contents_in behind serial (overwritten contents 0 (unit_contents units))) contents_so
      ∙ ap (with_contents_in behind serial) (over_whole (replicate size (Number (pos 0))) (unit_contents units) long)
      ∙ with_last objects object (unit_contents units)
