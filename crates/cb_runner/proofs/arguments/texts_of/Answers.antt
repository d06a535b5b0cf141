use Rattle.std.proofs.Common.{map, string_bytes}
use Rattle.cb_runner.proofs.Plain.{few_behind}
use Rattle.cb_runner.proofs.arguments.texts_of.Goals as goal

pub push_texts-requires-2 : goal.push_texts-requires-2
push_texts-requires-2 c = (few_behind (map string_bytes c.args.arguments.now.front.now) (map string_bytes c.args.arguments.now.back.now) c.requires).1
