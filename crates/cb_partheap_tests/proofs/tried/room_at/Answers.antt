use Rattle.std.proofs.Common.{◌∙◌, sym}
use Rattle.cb_partheap_tests.proofs.Kept.{words_found, words_past}
use Rattle.cb_partheap_tests.proofs.tried.room_at.Goals as goal

pub returns-then-want-site : goal.returns-then-want-site
returns-then-want-site c = sym (words_found c.args.request.now c.loop-i.i c.args.site c.at-want.result c.at-want.ensures c.if-want-site.true) ∙ c.loop-i.invariant

pub loop-i-preserved : goal.loop-i-preserved
loop-i-preserved c = words_past c.args.request.now c.loop-i.i c.args.site c.at-want.result c.at-want.ensures c.if-want-site.false ∙ c.loop-i.invariant
