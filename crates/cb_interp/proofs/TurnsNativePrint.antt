-- Natives that print a boolean, a char, a number or a newline.
use Rattle.std.proofs.Common.{◌≡◌, ◌∙◌, ap, arith, refl, sym, ℕ, ◌≤◌, Bool, true, false, List, [], ◌∷◌, length, map, Option, Some, None}
use Rattle.std.proofs.lemmas.List.{length-map}
use Rattle.std.proofs.lemmas.Option.{same_Some}
use Rattle.std.specs.Io.KnownBytes.{Appends}
use Rattle.std.specs.Prelude.{slice_get}
use Rattle.cb_frames.specs.Tops.{top_stack}
use Rattle.cb_heap.proofs.Laws.{reads_stack}
use Rattle.cb_heap.specs.Storage.{Settings}
use Rattle.cb_heap.specs.Reading.{read_value, seen}
use Rattle.cb_heap.specs.Rules.{Rules}
use Rattle.cb_io.specs.Sink.{AppendsProperPrefix}
use Rattle.cb_io.specs.Utf8.{utf8}
use Rattle.cb_link.specs.Program.{Linked}
use Rattle.cb_link.specs.declared.decoded.Decoded.{Decoded}
use Rattle.cb_machine.specs.Machine.{Machine}
use Rattle.cb_machine.specs.Natives.{native_of, performed}
use Rattle.cb_machine.specs.Performing.{Performed}
use Rattle.cb_plain.specs.State.{Object, Roots, State}
use Rattle.cb_plain.specs.declared.value.Value.{Value}
use Rattle.cb_plain.specs.declared.value.Value.TheVariants as values
use Rattle.cb_shapes.specs.declared.sort.Sort.{Sort}
use Rattle.cb_shapes.specs.declared.sort.Sort.TheVariants as sorts
use Rattle.cb_act.specs.Acting.{Asks, acted}
use Rattle.cb_act.specs.Effects.{has_sort}
use Rattle.cb_act.specs.Here.{Here}
use Rattle.cb_interp.specs.Printing.{behind_taken, native_as, number_on, suits, taken_by, units_on}
use Rattle.cb_interp.specs.Running.{MayRun, SaysBy, Turned}
use Rattle.cb_act.specs.Turning.{Outside, machine_of, state_of}
use Rattle.cb_act.specs.declared.need.Need.TheVariants as needs
use Rattle.cb_interp.specs.declared.printing.Print.{Print}
use Rattle.cb_interp.specs.declared.printing.Print.TheVariants as prints
use Rattle.cb_interp.specs.declared.stop.Stop.TheVariants as stops
use Rattle.cb_interp.proofs.TurnsNativeSaid.{Printer, Printing, Said, Says, printed_part, printed_turn, printing}

abbrev printer_of : (state : State) → Print → Printer state
printer_of state print = record { native = native_as print; count = taken_by print; fits = suits print; text = units_on print }

-- it is given the stream and what it prints
module _ (machine : Machine) (state : State) where
  abbrev SaysOf : Print → List Value → Type 0
  SaysOf print arguments =
      (rest : List Value) (found : Performed) → performed machine state (native_as print) arguments ≡ Some found → Said state (printer_of state print) arguments rest found

  two : (rest : List Value) (stream : ℕ) (value : Value) → 2 ≤ length (value ∷ values.Ref stream ∷ rest)
  two rest stream value = omega arith

  said : (print : Print) (arguments : List Value) → SaysOf print arguments
  said (prints.Truth false) (values.Ref stream ∷ values.Int number ∷ []) rest found is =
      record { fits = refl; left = refl; enough = two rest stream (values.Int number); gives = sym (same_Some _ found is) }
  said (prints.Truth true) (values.Ref stream ∷ values.Int number ∷ []) rest found is =
      record { fits = refl; left = refl; enough = two rest stream (values.Int number); gives = sym (same_Some _ found is) }
  said (prints.Char false) (values.Ref stream ∷ values.Int number ∷ []) rest found is =
      record { fits = refl; left = refl; enough = two rest stream (values.Int number); gives = sym (same_Some _ found is) }
  said (prints.Char true) (values.Ref stream ∷ values.Int number ∷ []) rest found is =
      record { fits = refl; left = refl; enough = two rest stream (values.Int number); gives = sym (same_Some _ found is) }
  said (prints.Int false) (values.Ref stream ∷ values.Int number ∷ []) rest found is =
      record { fits = refl; left = refl; enough = two rest stream (values.Int number); gives = sym (same_Some _ found is) }
  said (prints.Int true) (values.Ref stream ∷ values.Int number ∷ []) rest found is =
      record { fits = refl; left = refl; enough = two rest stream (values.Int number); gives = sym (same_Some _ found is) }
  said (prints.Long false) (values.Ref stream ∷ values.Long number ∷ []) rest found is =
      record { fits = refl; left = refl; enough = two rest stream (values.Long number); gives = sym (same_Some _ found is) }
  said (prints.Long true) (values.Ref stream ∷ values.Long number ∷ []) rest found is =
      record { fits = refl; left = refl; enough = two rest stream (values.Long number); gives = sym (same_Some _ found is) }
  said prints.Line (values.Ref stream ∷ []) rest found is =
      record { fits = refl; left = refl; enough = omega arith; gives = sym (same_Some _ found is) }
  said (prints.Truth false) other rest found is = absurd (cc is)
  said (prints.Truth true) other rest found is = absurd (cc is)
  said (prints.Char false) other rest found is = absurd (cc is)
  said (prints.Char true) other rest found is = absurd (cc is)
  said (prints.Int false) other rest found is = absurd (cc is)
  said (prints.Int true) other rest found is = absurd (cc is)
  said (prints.Long false) other rest found is = absurd (cc is)
  said (prints.Long true) other rest found is = absurd (cc is)
  said prints.Line other rest found is = absurd (cc is)

-- on roots that are read
module _ (index : ℕ → ℕ) where
  number_read : (stack : List Value) → number_on (map (read_value index) stack) ≡ number_on stack
  number_read [] = refl
  number_read (values.Int number ∷ stack) = refl
  number_read (values.Long number ∷ stack) = refl
  number_read (values.Ref place ∷ stack) = refl

  units_read : (print : Print) (stack : List Value) → units_on print (map (read_value index) stack) ≡ units_on print stack
  units_read (prints.Truth line) stack = ap (λ number. units_on (prints.Truth line) (values.Int number ∷ [])) (number_read stack)
  units_read (prints.Char line) stack = ap (λ number. units_on (prints.Char line) (values.Int number ∷ [])) (number_read stack)
  units_read (prints.Int line) stack = ap (λ number. units_on (prints.Int line) (values.Int number ∷ [])) (number_read stack)
  units_read (prints.Long line) stack = ap (λ number. units_on (prints.Long line) (values.Long number ∷ [])) (number_read stack)
  units_read prints.Line stack = refl

  sort_read : (sort : Sort) (stack : List Value) → has_sort sort (slice_get (map (read_value index) stack) 0) ≡ has_sort sort (slice_get stack 0)
  sort_read sort [] = refl
  sort_read sort (values.Int number ∷ stack) = refl
  sort_read sort (values.Long number ∷ stack) = refl
  sort_read sort (values.Ref place ∷ stack) = refl

  suits_read : (print : Print) (stack : List Value) → suits print (map (read_value index) stack) ≡ suits print stack
  suits_read (prints.Truth line) stack = sort_read sorts.Int stack
  suits_read (prints.Char line) stack = sort_read sorts.Int stack
  suits_read (prints.Int line) stack = sort_read sorts.Int stack
  suits_read (prints.Long line) stack = sort_read sorts.Long stack
  suits_read prints.Line stack = refl

module _ (program : Linked) (index : ℕ → ℕ) (objects : List (Option Object)) (limit : ℕ) (held : Roots) (outside : Outside) (decoded : Decoded) (method : ℕ)
    (at : Here (machine_of program limit) (state_of (seen index objects held) outside) decoded)
    (asks : acted program limit decoded (seen index objects held) ≡ Some (Asks (needs.Performs method)))
    (fixed : Bool) (settings : Settings) (runs : MayRun fixed (machine_of program limit) settings (state_of (seen index objects held) outside)) (print : Print)
    (is : native_of program method ≡ Some (native_as print)) where
  abbrev state : State
  state = state_of (seen index objects held) outside

  each : Says (machine_of program limit) state (printer_of state print)
  each arguments = said (machine_of program limit) state print arguments

  here : Printing (machine_of program limit) state (printer_of state print) decoded.next
  here = printing program index objects limit held outside decoded method at asks fixed settings runs (printer_of state print) is each

  pub suits_here : suits print (top_stack held) ≡ true
  suits_here = sym (suits_read index print (top_stack held)) ∙ ap (λ (stack : List Value). suits print stack) (sym (reads_stack index held)) ∙ here.fits

  pub goes_here : decoded.next ≡ None → ⊥
  goes_here = here.goes

  pub enough_here : taken_by print ≤ length (top_stack held)
  enough_here = omega (arith, here.enough, ap length (reads_stack index held), length-map (top_stack held) (read_value index))

  text_is : units_on print (top_stack state.roots) ≡ units_on print (top_stack held)
  text_is = ap (λ (stack : List Value). units_on print stack) (reads_stack index held) ∙ units_read index print (top_stack held)

  pub print_turn : {Facts : Type 0} (rules : Rules Facts) (facts : Facts) (after : Roots) (pc : ℕ) (taken takes : Option (List ℕ)) → decoded.next ≡ Some pc
      → after ≡ behind_taken (taken_by print) pc held → Appends taken takes (utf8 (units_on print (top_stack held)))
      → Turned rules (machine_of program limit) outside (seen index objects held) (seen index objects after) facts facts taken takes
  print_turn rules facts after pc taken takes next left appends =
      printed_turn program index objects limit held outside decoded method at asks fixed settings runs (printer_of state print) is each rules facts after pc taken takes
      (units_on print (top_stack held)) text_is next left appends

  pub print_part : (pc : ℕ) (taken takes : Option (List ℕ)) → decoded.next ≡ Some pc → AppendsProperPrefix taken takes (utf8 (units_on print (top_stack held)))
      → SaysBy (machine_of program limit) state stops.OutputFault taken takes
  print_part pc taken takes next part =
      printed_part program index objects limit held outside decoded method at asks fixed settings runs (printer_of state print) is each pc taken takes
      (units_on print (top_stack held)) text_is next part
