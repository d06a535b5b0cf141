use Rattle.cb_core.specs.Rowed.{body_row}
use Rattle.cb_core.proofs.Bodied.{body_put, frames_sound, short_places}
use Rattle.cb_core.proofs.Making.{body_made}
use Rattle.cb_core.proofs.body.body_of.Goals as goal

pub frames_of-requires-clause-sound : goal.frames_of-requires-clause-sound
frames_of-requires-clause-sound c = frames_sound (body_row c.args.row.now) _ c.in_ok-places.ensures c.requires.sound

pub frames_of-requires-clause-short : goal.frames_of-requires-clause-short
frames_of-requires-clause-short c = short_places (body_row c.args.row.now) _ c.in_ok-places.ensures c.requires.sound

pub returns-clause-put : goal.returns-clause-put
returns-clause-put c = body_put (body_row c.args.row.now) _ _ _ _ _ _ _ c.in_ok-places.ensures c.new.ensures c.in_ok-code.ensures.put c.in_ok-frames.ensures.put

pub returns-clause-made : goal.returns-clause-made
returns-clause-made c = body_made (body_row c.args.row.now) _ _ _ _ _ _ _ c.in_ok-places.ensures c.in_ok-code.ensures.made c.in_ok-frames.ensures.made c.new.ensures
