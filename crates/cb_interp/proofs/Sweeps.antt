-- Steps that don't call `System.gc`.
use Rattle.std.proofs.Common.{◌≡◌, ◌∙◌, ap, refl, sym, ℕ, Bool, true, false, List, [], ◌∷◌, map, Option, Some, None, zero, suc, if◌then◌else◌, ◌==◌}
use Rattle.cb_act.proofs.Laws.{NotGc, no_gc}
use Rattle.cb_act.specs.Acting.{Asks, acted}
use Rattle.cb_act.specs.Here.{Here}
use Rattle.cb_act.specs.Steps.{view_of}
use Rattle.cb_act.specs.Sweeping.{calls_gc, gc_by_frames, is_gc}
use Rattle.cb_act.specs.Turning.{Outside, state_of}
use Rattle.cb_act.specs.declared.need.Need.{Need}
use Rattle.cb_act.specs.declared.need.Need.TheVariants as needs
use Rattle.cb_frames.specs.Tops.{topmost}
use Rattle.cb_frames.specs.declared.frame.Frame.TheVariants as shown
use Rattle.cb_heap.specs.Reading.{read_frame, seen, serial_of}
use Rattle.cb_library.specs.declared.native.Native.{Native}
use Rattle.cb_library.specs.declared.native.Native.TheVariants as natives
use Rattle.cb_link.specs.Program.{Linked}
use Rattle.cb_link.specs.declared.decoded.Decoded.{Decoded}
use Rattle.cb_machine.specs.Machine.{Machine}
use Rattle.cb_plain.specs.State.{Frame, Initialising, Object, OfMethod, Roots, State}
use Rattle.cb_interp.specs.Performed.{AsksNative}
use Rattle.cb_interp.proofs.RunTyped.{not_zero}

-- where an exception is pending, a class is initialised, or no frame stands
module _ (program : Linked) (index : ℕ → ℕ) (objects : List (Option Object)) (roots : Roots) (outside : Outside) where
  abbrev state : State
  state = state_of (seen index objects roots) outside

  pub pending_still : (roots.pending ≡ 0 → ⊥) → calls_gc program state ≡ false
  pending_still waits = go roots.pending refl where
    by : Bool
    by = gc_by_frames program state.roots state.roots.frames

    go : (pending : ℕ) → roots.pending ≡ pending → calls_gc program state ≡ false
    go zero same = absurd (waits same)
    go (suc place) same =
        ap (λ (pending : ℕ). if serial_of index pending == 0 then gc_by_frames program state.roots state.roots.frames else false) same
        ∙ ap (λ (test : Bool). if test then gc_by_frames program state.roots state.roots.frames else false) (not_zero (index (suc place)))

  either : (test by : Bool) → by ≡ false → (if test then by else false) ≡ false
  either true by is = is
  either false by is = refl

  still_by : gc_by_frames program state.roots state.roots.frames ≡ false → calls_gc program state ≡ false
  still_by is = either (state.roots.pending == 0) (gc_by_frames program state.roots state.roots.frames) is

  pub initial_still : (class place : ℕ) → Some (shown.Initialising class place) ≡ topmost roots.frames → calls_gc program state ≡ false
  initial_still class place is = still_by (go roots.frames is) where
    go : (frames : List Frame) → Some (shown.Initialising class place) ≡ topmost frames → gc_by_frames program state.roots (map (read_frame index) frames) ≡ false
    go [] is = refl
    go (OfMethod frame ∷ below) is = absurd (cc is)
    go (Initialising class place ∷ below) is = refl

  pub idle_still : None ≡ topmost roots.frames → calls_gc program state ≡ false
  idle_still is = still_by (go roots.frames is) where
    go : (frames : List Frame) → None ≡ topmost frames → gc_by_frames program state.roots (map (read_frame index) frames) ≡ false
    go [] is = refl
    go (OfMethod frame ∷ below) is = absurd (cc is)
    go (Initialising class place ∷ below) is = refl

-- a native that doesn't ask for a collection
not_gc : (native : Native) → (native ≡ natives.SystemGc → ⊥) → is_gc (Some native) ≡ false
not_gc natives.SystemGc never = absurd (never refl)
not_gc other never = refl

-- an instruction that asks for something else
need_not : (program : Linked) (need : Need) → ((method : ℕ) → need ≡ needs.Performs method → ⊥) → NotGc program (Asks need)
need_not program (needs.Performs method) never = absurd (never method refl)
need_not program other never = tt

module _ (machine : Machine) (state : State) (decoded : Decoded) (at : Here machine state decoded) where
  pub need_still : (need : Need) → acted machine.program machine.frames decoded (view_of state) ≡ Some (Asks need) → ((method : ℕ) → need ≡ needs.Performs method → ⊥)
      → calls_gc machine.program state ≡ false
  need_still need asks never = no_gc machine state decoded at (Asks need) asks (need_not machine.program need never)

  pub native_still : (native : Native) → AsksNative machine.program machine.frames decoded (view_of state) native → (native ≡ natives.SystemGc → ⊥) → calls_gc machine.program state ≡ false
  native_still native asks other = no_gc machine state decoded at (Asks (needs.Performs asks.method)) asks.asked (ap is_gc asks.is ∙ not_gc native other)
