-- An input that is read to its end.
use Rattle.std.proofs.Common.{◌≡◌, ◌⊎◌, inl, inr, ℕ, ◌+◌, ◌-◌, ◌^◌, ◌<◌, ◌≤◌, Bool, true, List, [], ◌∷◌, ◌++◌, length, Option, Ok, Err, refl, subst, sym, ap, arith, zero, suc, length-append, ◌∙◌}
use Rattle.std.specs.Io.KnownBytes.{Consumes}
use Rattle.std.proofs.lemmas.List.{append-nil}
use Rattle.std.proofs.KnownBytes.{Consumes-kept, Consumes-trans}
use Rattle.cb_natives.specs.Asking.{Call, Calls, GaveNone}
use Rattle.cb_io.specs.Faults.{CountsFaults}
use Rattle.cb_runner.specs.Inner.{GavePiece, HasRead, Reads, ReadsPiece}
use Rattle.cb_runner.specs.declared.stop.Stop.{Stop}
use Rattle.cb_runner.specs.declared.stop.Stop.TheVariants.{InputFault, OutOfMemory}

-- so far calls gave these bytes, one more than the limit at most, and no call has failed
pub record Gathered {In : Type 0} (left : In → Option (List ℕ)) (gave : In → ℕ → List ℕ → In → Type 0) (limit : ℕ) (before now : In) (bytes : List ℕ) (first faults : ℕ) : Type 0 where
  pub calls : Calls gave before bytes now
  pub moved : Consumes (left before) (left now) bytes
  pub within : length bytes ≤ limit + 1
  pub never_falls : first ≤ faults
  pub unfailed : first < 2 ^ 64 - 1 → faults ≤ first

module _ {In : Type 0} (left : In → Option (List ℕ)) (gave : In → ℕ → List ℕ → In → Type 0) (limit room : ℕ) (before mid now : In) (bytes : List ℕ) (calls : Calls gave before bytes mid) (moved : Consumes (left before) (left mid) bytes)
    (short : length bytes ≤ limit) (is : room ≡ limit - length bytes) where
  -- a call gave more
  all_moved : (piece : List ℕ) → GavePiece left gave room mid now piece → Consumes (left before) (left now) (bytes ++ piece)
  all_moved piece given = Consumes-trans (left before) (left mid) (left now) bytes piece moved given.consumes

  gathered_by : {Failed : Type 0} (new : List ℕ) (first faults later : ℕ) → ReadsPiece left gave room mid now bytes new (Ok true) → first ≤ faults
      → (first < 2 ^ 64 - 1 → faults ≤ first) → (Failed → ⊥) → CountsFaults faults later Failed → Gathered left gave limit before now new first later
  gathered_by new first faults later (piece, given, same, some) falls unfailed none counts =
      let both = length-append bytes piece in
      let few = given.few in
      let never = counts.never_falls in
      subst (λ (new : List ℕ). Gathered left gave limit before now new first later) (sym same) (record {
        calls = Call bytes piece mid now given.asked calls given.gives some;
        moved = all_moved piece given;
        within = omega (arith, both, few, short, is);
        never_falls = omega (arith, never, falls);
        unfailed = λ below. stays below (unfailed below);
      }) where
        stays : first < 2 ^ 64 - 1 → faults ≤ first → later ≤ first
        stays below same_faults =
            let rose : faults < later → ⊥ = λ rose. none ((counts.exact (omega (arith, below, same_faults))).1 rose) in
            omega (arith, rose, same_faults)

  pub gathered_more : {Failed : Type 0} (new : List ℕ) (first faults later : ℕ) (more : Bool) → more ≡ true → ReadsPiece left gave room mid now bytes new (Ok more) → first ≤ faults
      → (first < 2 ^ 64 - 1 → faults ≤ first) → (Failed → ⊥) → CountsFaults faults later Failed → Gathered left gave limit before now new first later
  gathered_more new first faults later more is_more reads falls unfailed none counts =
      gathered_by new first faults later (subst (λ (more : Bool). ReadsPiece left gave room mid now bytes new (Ok more)) is_more reads) falls unfailed none counts

  -- a call gave some of them, or none
  some_given : (piece : List ℕ) (given : GavePiece left gave room mid now piece) → (length piece ≡ 0) ⊎ (0 < length piece) → HasRead left gave (limit + 1) before now
  some_given piece given (inl none) = record {
    bytes = bytes;
    mid = mid;
    calls = calls;
    ends = inr (given.asked, given.some, subst (λ piece. gave mid given.asked piece now) (no_bytes piece none) given.gives);
    consumes = subst (Consumes (left before) (left now)) (ap (λ piece. bytes ++ piece) (no_bytes piece none) ∙ append-nil bytes) (Consumes-trans (left before) (left mid) (left now) bytes piece moved given.consumes);
    few = omega (arith, short);
  } where
    no_bytes : (piece : List ℕ) → length piece ≡ 0 → piece ≡ []
    no_bytes [] same = refl
    no_bytes (byte ∷ piece) same = absurd (omega (arith, same))
  some_given piece given (inr some) =
      let both = length-append bytes piece in
      let few = given.few in
      record {
        bytes = bytes ++ piece;
        mid = now;
        calls = Call bytes piece mid now given.asked calls given.gives some;
        ends = inl refl;
        consumes = Consumes-trans (left before) (left mid) (left now) bytes piece moved given.consumes;
        few = omega (arith, both, few, short, is);
      }

  -- a call failed, or there was no memory
  pub read_cut : (new : List ℕ) (stop : Stop) → ReadsPiece left gave room mid now bytes new (Err stop) → Reads left gave limit before now (Err stop)
  read_cut new InputFault kept =
      record { bytes = bytes; mid = mid; calls = calls; consumes = Consumes-kept (left before) (left mid) (left now) bytes moved kept; few = short }
  read_cut new OutOfMemory (piece, given) = some_given piece given (some_or_none (length piece))
    where
      some_or_none : (size : ℕ) → (size ≡ 0) ⊎ (0 < size)
      some_or_none zero = inl refl
      some_or_none (suc size) = inr (omega arith)
  read_cut new stop reads = absurd reads
