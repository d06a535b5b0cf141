-- Frames and their places, one after the other.
use Rattle.std.proofs.Common.{◌≡◌, ◌∙◌, ap, sym, refl, subst, ℕ, ◌+◌, ◌<◌, ◌≤◌, List, [], ◌∷◌, ◌++◌, Option, Some, None, length, take, drop, get_or, append_assoc}
use Rattle.std.specs.List.{AllByRecursion}
use Rattle.std.proofs.lemmas.List.{take_more}
use Rattle.cb_classfile.specs.declared.frame_map.MapFrame.{MapFrame}
use Rattle.cb_insn.specs.Places.{Rise}
use Rattle.cb_asm_line.specs.declared.frame.FrameLine.{FrameLine}
use Rattle.cb_asm_line.specs.declared.frame.FrameLine.TheVariants.{Full, Bad}
use Rattle.cb_asm_line.specs.declared.program.CodeLine.{CodeLine}
use Rattle.cb_asm_record.specs.declared.stop.Stop.{Stop}
use Rattle.cb_asm_record.specs.Entries.{Entry}
use Rattle.cb_asm_record.specs.Grammar.{FrameHasLabels, frame_places}
use Rattle.cb_asm_record.specs.Inner.{AddsFrame, AreFrames, FrameStands, Gives, HasFrames, IsAbove, Refuses, last_place}
use Rattle.cb_asm_record.specs.Labels.{place_at}
use Rattle.cb_asm_record.specs.Record.{frame_behind, frames_behind}
use Rattle.cb_asm_record.proofs.Alls.{all_both}
use Rattle.cb_asm_record.proofs.Turns.{all_at, at_turn, take_past}

pub frames_both : (entries : List Entry) (lines : List CodeLine) (previous : Option ℕ) (one other : List FrameLine)
    → frames_behind entries (place_at lines) previous (one ++ other) ≡ frames_behind entries (place_at lines) previous one ++ frames_behind entries (place_at lines) (last_place lines previous one) other
frames_both entries lines previous [] other = refl
frames_both entries lines previous (Bad ∷ one) other = frames_both entries lines previous one other
frames_both entries lines previous (Full frame ∷ one) other =
    ap (λ rest. frame_behind entries (place_at lines) previous frame ∷ rest) (frames_both entries lines (Some (place_at lines frame.place)) one other)

last_both : (lines : List CodeLine) (previous : Option ℕ) (one other : List FrameLine) → last_place lines previous (one ++ other) ≡ last_place lines (last_place lines previous one) other
last_both lines previous [] other = refl
last_both lines previous (Bad ∷ one) other = last_both lines previous one other
last_both lines previous (Full frame ∷ one) other = last_both lines (Some (place_at lines frame.place)) one other

places_both : (lines : List CodeLine) (one other : List FrameLine) → frame_places lines (one ++ other) ≡ frame_places lines one ++ frame_places lines other
places_both lines [] other = refl
places_both lines (Bad ∷ one) other = places_both lines one other
places_both lines (Full frame ∷ one) other = ap (λ rest. place_at lines frame.place ∷ rest) (places_both lines one other)

-- places that rise, behind one or none
RiseBehind : Option ℕ → List ℕ → Type 0
RiseBehind None places = Rise places
RiseBehind (Some previous) places = Rise (previous ∷ places)

rise_first : (previous : Option ℕ) (place : ℕ) (places : List ℕ) → RiseBehind previous (place ∷ places) → IsAbove previous place × Rise (place ∷ places)
unfolding RiseBehind
rise_first None place places rise = (tt, rise)
rise_first (Some previous) place places rise = rise

rise_on : (previous : Option ℕ) (place : ℕ) (places : List ℕ) → IsAbove previous place → Rise (place ∷ places) → RiseBehind previous (place ∷ places)
unfolding RiseBehind
rise_on None place places above rise = rise
rise_on (Some previous) place places above rise = (above, rise)

-- a place more, above the last
rise_more : (lines : List CodeLine) (previous : Option ℕ) (frames : List FrameLine) (line : FrameLine) → RiseBehind previous (frame_places lines frames)
    → AllByRecursion (IsAbove (last_place lines previous frames)) (frame_places lines (line ∷ [])) → FrameHasLabels lines line → RiseBehind previous (frame_places lines frames ++ frame_places lines (line ∷ []))
unfolding RiseBehind
rise_more lines previous [] Bad rise above has = absurd has
rise_more lines previous [] (Full frame) rise above has = rise_on previous (place_at lines frame.place) [] above.0 tt
rise_more lines previous (Bad ∷ frames) line rise above has = rise_more lines previous frames line rise above has
rise_more lines previous (Full first ∷ frames) line rise above has =
    let place = place_at lines first.place in
    let parts = rise_first previous place (frame_places lines frames) rise in
    rise_on previous place (frame_places lines frames ++ frame_places lines (line ∷ [])) parts.0 (rise_more lines (Some place) frames line parts.1 above has)

-- and where places rise, each is above the last before it
above_last : (lines : List CodeLine) (previous : Option ℕ) (frames : List FrameLine) (line : FrameLine) (rest : List FrameLine) → FrameHasLabels lines line
    → RiseBehind previous (frame_places lines frames ++ frame_places lines (line ∷ rest)) → AllByRecursion (IsAbove (last_place lines previous frames)) (frame_places lines (line ∷ []))
unfolding RiseBehind
above_last lines previous [] Bad rest has rise = absurd has
above_last lines previous [] (Full frame) rest has rise = ((rise_first previous (place_at lines frame.place) (frame_places lines rest) rise).0, tt)
above_last lines previous (Bad ∷ frames) line rest has rise = above_last lines previous frames line rest has rise
above_last lines previous (Full first ∷ frames) line rest has rise =
    let place = place_at lines first.place in
    above_last lines (Some place) frames line rest has (rise_first previous place (frame_places lines frames ++ frame_places lines (line ∷ rest)) rise).1

pub frames_more : (entries : List Entry) (lines : List CodeLine) (all : List FrameLine) (i : ℕ) (line : FrameLine) (frames later : List MapFrame) (previous : Option ℕ) (place : ℕ)
    → i < length all → line ≡ get_or all i line → HasFrames entries lines (take i all) frames previous
    → AddsFrame lines previous line (later ≡ frames ++ frames_behind entries (place_at lines) previous (line ∷ [])) place → HasFrames entries lines (take (i + 1) all) later (Some place)
unfolding RiseBehind
frames_more entries lines all i line frames later previous place below is before adds =
    subst (λ some. HasFrames entries lines some later (Some place)) (sym (take_more all i line below ∙ ap (λ one. take i all ++ one ∷ []) (sym is)))
    (record {
      is =
          adds.added
          ∙ ap (λ front. front ++ frames_behind entries (place_at lines) previous (line ∷ [])) before.is
          ∙ ap (λ last. frames_behind entries (place_at lines) None (take i all) ++ frames_behind entries (place_at lines) last (line ∷ [])) before.last
          ∙ sym (frames_both entries lines None (take i all) (line ∷ []));
      asked = record {
        each = all_both (FrameHasLabels lines) (take i all) (line ∷ []) before.asked.each (adds.is.labels, tt);
        ascending = subst Rise (sym (places_both lines (take i all) (line ∷ [])))
            (rise_more lines None (take i all) line before.asked.ascending (subst (λ last. AllByRecursion (IsAbove last) (frame_places lines (line ∷ []))) before.last adds.is.above) adds.is.labels);
      };
      last = adds.last ∙ ap (λ last. last_place lines last (line ∷ [])) before.last ∙ sym (last_both lines None (take i all) (line ∷ []));
    })

pub frames_all : (entries : List Entry) (lines : List CodeLine) (all : List FrameLine) (i : ℕ) (frames : List MapFrame) (previous : Option ℕ) → length all ≤ i
    → HasFrames entries lines (take i all) frames previous → Gives (frames_behind entries (place_at lines) None all) (AreFrames lines all) frames
frames_all entries lines all i frames previous past before =
    let has = subst (λ some. HasFrames entries lines some frames previous) (take_past all i past) before in
    record { is = has.is; asked = has.asked }

pub frames_refused : (entries : List Entry) (lines : List CodeLine) (all : List FrameLine) (i : ℕ) (line : FrameLine) (frames : List MapFrame) (previous : Option ℕ) (stop : Stop)
    → i < length all → line ≡ get_or all i line → HasFrames entries lines (take i all) frames previous
    → Refuses (FrameStands lines previous line) stop → Refuses (AreFrames lines all) stop
unfolding RiseBehind
frames_refused entries lines all i line frames previous stop below is before refused = λ stopped are.
    let has = subst (FrameHasLabels lines) (sym is) (all_at (FrameHasLabels lines) all i line below are.each) in
    let split : all ≡ take i all ++ (line ∷ drop (i + 1) all) =
    at_turn all i line below ∙ ap (λ one. (take i all ++ one ∷ []) ++ drop (i + 1) all) (sym is) ∙ append_assoc (take i all) (line ∷ []) (drop (i + 1) all) in
    let rise = subst Rise (ap (frame_places lines) split ∙ places_both lines (take i all) (line ∷ drop (i + 1) all)) are.ascending in
    refused stopped (record {
      labels = has;
      above = subst (λ last. AllByRecursion (IsAbove last) (frame_places lines (line ∷ []))) (sym before.last) (above_last lines None (take i all) line (drop (i + 1) all) has rise);
    })
