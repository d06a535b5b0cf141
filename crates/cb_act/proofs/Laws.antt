-- What the crates above cite: what an instruction leaves, and what a step does to what is kept.
pub use Rattle.cb_act.proofs.Acts.{anywhere, anywhere_stands, here, now}
pub use Rattle.cb_act.proofs.ActsAsSaid.{acts_so}
pub use Rattle.cb_act.proofs.CallLaws.{sizes_count, sizes_so, taken_is}
pub use Rattle.cb_act.proofs.FramesActed.{frame_done, frame_there, growth_read, room_read}
pub use Rattle.cb_act.proofs.FramesKept.{shown_at, shown_kept, waiting, waiting_kept}
pub use Rattle.cb_act.proofs.GoingSteps.{switches_so}
pub use Rattle.cb_act.proofs.KeepLaws.{keep_unseen, length_changed, length_kept}
pub use Rattle.cb_act.proofs.KeptCalls.{by_body, by_native, reversed_held, without_body}
pub use Rattle.cb_act.proofs.KeptGoing.{by_zero_kept}
pub use Rattle.cb_act.proofs.KeptInit.{begun_kept}
pub use Rattle.cb_act.proofs.KeptObjects.{front_held, value_held}
pub use Rattle.cb_act.proofs.KeptSteps.{plan_kept}
pub use Rattle.cb_act.proofs.EachOf.{all_at, all_joined}
pub use Rattle.cb_act.proofs.Moved.{by_four, by_one, by_three, by_two}
pub use Rattle.cb_act.proofs.NativesChange.{natives_keep}
pub use Rattle.cb_act.proofs.NumbersNamed.{whole_read}
pub use Rattle.cb_act.proofs.ObjectSteps.{front}
pub use Rattle.cb_act.proofs.PlacingSteps.{thrown_so}
pub use Rattle.cb_act.proofs.PlainLaws.{branches_is, branches_kept, framed_so, goes_forward, goes_kept, some_framed, told_is}
pub use Rattle.cb_act.proofs.Read.{stacked_read}
pub use Rattle.cb_act.proofs.ReadGoing.{switch_read}
pub use Rattle.cb_act.proofs.TurnsGrown.{turn_grows, turns_grow, whole_grows}
pub use Rattle.cb_act.proofs.TurnsStand.{after_one_more, collected_stands, kept_plan_so, planned, turn_stands, turns_stand, whole_stands}
pub use Rattle.cb_act.proofs.SweepLaws.{NotGc, gc_asked, no_gc}
pub use Rattle.cb_act.proofs.WordLaws.{word_signed}
