-- How `asm` ends.
use Rattle.std.proofs.Common.{◌≡◌, ◌++◌, inl, inr, ℕ, ◌+◌, ◌<◌, ◌≤◌, List, [], length, drop, Option, Some, None, IfSome, Ok, Err, Result, Vec, refl, sym, ◌∙◌, ap, subst, arith, length-append}
use Rattle.std.specs.declared.alloc.Global.{Global}
use Rattle.std.specs.Io.KnownBytes.{Appends, Consumes}
use Rattle.std.proofs.KnownBytes.{Consumes-whole}
use Rattle.std.proofs.lemmas.List.{append-nil}
use Rattle.cb_interp.specs.Reading.{as_bytes}
use Rattle.cb_io.specs.Folder.{Files}
use Rattle.cb_runner.specs.declared.input.Input.TheVariants.{Whole, TooLong}
use Rattle.cb_link.specs.declared.refusal.Quantity.TheVariants.{AssemblyBytes}
use Rattle.cb_runner.specs.declared.stop.Stop.{Stop}
use Rattle.cb_runner.specs.declared.stop.Stop.TheVariants.{InputFault, OutOfMemory, Told}
use Rattle.cb_runner.specs.Answer.{EndsIn, OfInput, OfMemory}
use Rattle.cb_runner.specs.Asm.{AssemblesText, MayRead, OverLimit, ToEnd, TooLong as LongText, text_limit}
use Rattle.cb_runner.specs.Ending.{Ending}
use Rattle.cb_runner.specs.Inner.{IsCarriedOut, IsRefusal, Makes, PrintsMade, Reads, TellsWhole, ending_of}
use Rattle.cb_runner.specs.Messages.{TooLarge}
use Rattle.cb_runner.specs.Words.{Assemble}
use Rattle.cb_runner.proofs.Endings.{consumed, ends_by, printed_so, refused_so, unmade}

may_read : (before now : Option (List ℕ)) (front : List ℕ) (most : ℕ) → Consumes before now front → length front ≤ most → MayRead before most (length front)
may_read None now front most moved short = (short, tt)
may_read (Some left) None front most moved short = absurd moved
may_read (Some left) (Some rest) front most is short = (short, let size = length-append front rest in rw is (omega (arith, size)))

-- and more than the limit is there
long_text : (before now : Option (List ℕ)) (front : List ℕ) (limit : ℕ) → Consumes before now front → limit < length front
    → (text : List ℕ) × (rest : List ℕ) × IfSome before (λ left. left ≡ text) × (text ≡ front ++ rest) × (limit < length text)
long_text None now front limit moved long = (front, [], tt, sym (append-nil front), long)
long_text (Some left) None front limit moved long = absurd moved
long_text (Some left) (Some rest) front limit is long = (left, rest, refl, is, let size = length-append front rest in rw is (omega (arith, size, long)))

module _ {In : Type 0} (left : In → Option (List ℕ)) (gave : In → ℕ → List ℕ → In → Type 0) (first last : In) where
  -- the command ends so, whatever the files are
  abbrev pub AsmEnds : Ending → Type 0
  AsmEnds ending = (files : Option Files) → EndsIn left gave Assemble files first last ending

  abbrev Carried : (known taken : Option (List ℕ)) → Stop → Type 0
  Carried known taken stop = IsCarriedOut AsmEnds (left first) (left last) known taken None stop

  pub whole_text : (known taken : Option (List ℕ)) (text : Vec ℕ Global) (made : Result (Vec ℕ Global) Stop) (stop : Stop) (printed : List ℕ) → Reads left gave text_limit first last (Ok (Whole text))
      → Makes (AssemblesText text.items) (length text.items) made → Appends known taken printed → PrintsMade made stop printed → Carried known taken stop
  whole_text known taken text made stop printed has makes appends prints =
      let short = has.short in
      let may : MayRead (left first) (text_limit + 1) (length text.items) = may_read (left first) (left last) text.items (text_limit + 1) has.consumes (omega (arith, short)) in
      record {
        printed = printed;
        read = length text.items;
        appends = appends;
        left = consumed (left first) (left last) text.items has.consumes;
        ends = λ files. ends_by left gave files first last Assemble (AssemblesText text.items) (length text.items) stop printed
            (λ ending assembles. (text.items, Consumes-whole (left first) (left last) text.items (λ left. left ≡ text.items) has.consumes has.end refl, ToEnd has.mid has.short has.calls has.none, assembles))
            (length text.items, record { bytes = text.items; mid = has.mid; calls = has.calls; ends = inr has.none; consumes = has.consumes; size = refl; may = may }, refl)
            (λ whole assembles front prefix. (whole, assembles, front, prefix, refl)) (printed_so (AssemblesText text.items) (length text.items) made stop printed makes prints);
      }

  pub long_input : (known : Option (List ℕ)) (stop : Stop) → Appends known known [] → Reads left gave text_limit first last (Ok TooLong)
      → IsRefusal (TooLarge AssemblyBytes (text_limit + 1) text_limit) stop → Carried known known stop
  long_input known stop nothing has refusal =
      let size = has.size in
      let (text, rest, is_text, parts, long) = long_text (left first) (left last) has.bytes text_limit has.consumes (omega (arith, size)) in
      let may : MayRead (left first) (text_limit + 1) (length has.bytes) = may_read (left first) (left last) has.bytes (text_limit + 1) has.consumes (omega (arith, size)) in
      let refused = refused_so (AssemblesText text) (text_limit + 1) (TooLarge AssemblyBytes (text_limit + 1) text_limit) stop refusal (LongText long refl) in
      record {
        printed = [];
        read = text_limit + 1;
        appends = nothing;
        left = subst (λ read. IfSome (as_bytes (left first)) (λ bytes. left last ≡ Some (drop read bytes))) has.size (consumed (left first) (left last) has.bytes has.consumes);
        ends = λ files. ends_by left gave files first last Assemble (AssemblesText text) (text_limit + 1) stop []
            (λ ending assembles. (text, is_text, OverLimit has.bytes rest parts has.size has.calls, assembles)) (
              text_limit + 1,
              record {
                bytes = has.bytes;
                mid = last;
                calls = has.calls;
                ends = inl refl;
                consumes = has.consumes;
                size = has.size;
                may = subst (λ read. MayRead (left first) (text_limit + 1) read) has.size may;
              },
              refl,
            ) (λ whole assembles front prefix. (whole, assembles, front, prefix, refl)) (unmade (AssemblesText text) (text_limit + 1) stop refused);
      }

  -- the input was read so far, and then a call failed or there was no memory
  pub cut_input : (known : Option (List ℕ)) (stop : Stop) → Appends known known [] → Reads left gave text_limit first last (Err stop) → Carried known known stop
  cut_input known InputFault nothing has = record {
    printed = [];
    read = length has.bytes;
    appends = nothing;
    left = consumed (left first) (left last) has.bytes has.consumes;
    ends = λ files. inr (
      OfInput,
      (
        length has.bytes,
        record {
          bytes = has.bytes;
          mid = has.mid;
          calls = has.calls;
          consumes = has.consumes;
          size = refl;
          may = may_read (left first) (left last) has.bytes text_limit has.consumes has.few;
        },
        refl,
      ),
    );
  }
  cut_input known OutOfMemory nothing has = record {
    printed = [];
    read = length has.bytes;
    appends = nothing;
    left = consumed (left first) (left last) has.bytes has.consumes;
    ends = λ files. inr (
      OfMemory,
      (
        length has.bytes,
        record {
          bytes = has.bytes;
          mid = has.mid;
          calls = has.calls;
          ends = has.ends;
          consumes = has.consumes;
          size = refl;
          may = may_read (left first) (left last) has.bytes (text_limit + 1) has.consumes has.few;
        },
        refl,
      ),
    );
  }
  cut_input known stop nothing reads = absurd reads

-- which tells no cause of a run
pub unread_tells : {In : Type 0} (left : In → Option (List ℕ)) (gave : In → ℕ → List ℕ → In → Type 0) (limit : ℕ) (first last : In) (stop : Stop) → Reads left gave limit first last (Err stop) → TellsWhole None stop
unread_tells left gave limit first last (Told cause text) reads = absurd reads
unread_tells left gave limit first last stop reads = tt
