-- What goes from instruction to instruction as a method is passed over.
use Rattle.std.specs.Prelude.{ℕ, Bool, List, [], ◌∷◌, ◌++◌, filter, map, Option, Some, None, min, not, ◌==◌, ◌||◌, if◌then◌else◌, is_none}
use Rattle.std.specs.List.{list_any}
use Rattle.cb_insn.specs.declared.insn.Insn.{Insn}
use Rattle.cb_verify.specs.declared.pass.Walk.{Walk}
use Rattle.cb_verify.specs.Framed.{framed_at}
use Rattle.cb_verify.specs.Frames.{Frame}
use Rattle.cb_verify.specs.Typed.{Declared, Placed, after, first_place, fits, fits_with, frame_at, onwards}
use Rattle.cb_verify.specs.Within.{Within}

-- the lesser of two numbers, where they are there
abbrev pub lesser : Option ℕ → Option ℕ → Option ℕ
lesser None other = other
lesser (Some number) None = Some number
lesser (Some number) (Some own) = Some (min number own)

-- a place, if it fails
abbrev pub failing_at : ℕ → Bool → Option ℕ
failing_at pc fits = if fits then None else Some pc

-- the places of instructions that don't fit
abbrev pub unfit : Within → Declared → List Placed → List ℕ
unfit method frames placed = map (λ own. own.place) (filter (λ own. not (fits method frames own)) placed)

-- what comes of an instruction
abbrev pub stepped : Within → Declared → Walk → ℕ × Insn → Option ℕ → Walk
stepped method frames walk placed next =
    let before = frame_at frames placed.0 walk.arrived in
    let left = after method placed before in
    record { arrived = onwards placed.1 left; frames = walk.frames ++ framed_at placed.0 before; failing = lesser walk.failing (failing_at placed.0 (fits_with method frames placed.0 placed.1 next before left)) }

abbrev pub walked : Within → Declared → Walk → List (ℕ × Insn) → Walk
walked method frames walk [] = walk
walked method frames walk (placed ∷ code) = walked method frames (stepped method frames walk placed (first_place code)) code

-- a frame that can't be had, or at whose place none of the instructions stands
abbrev pub is_stranded : List (ℕ × Insn) → ℕ × Option Frame → Bool
is_stranded code entry = is_none entry.1 || not (list_any (λ placed. placed.0 == entry.0) code)

abbrev pub stranded : List (ℕ × Insn) → Declared → List ℕ
stranded code frames = map (λ entry. entry.0) (filter (is_stranded code) frames)
