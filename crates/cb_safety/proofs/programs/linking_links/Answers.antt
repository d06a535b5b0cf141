use Rattle.cb_safety.proofs.Loading.{linking_links}
use Rattle.cb_safety.proofs.programs.linking_links.Goals as goal

pub returns : goal.returns
returns c = linking_links
