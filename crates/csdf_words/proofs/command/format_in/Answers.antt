use Rattle.csdf_words.proofs.CommandLemmas.{format_found}
use Rattle.csdf_words.proofs.command.format_in.Goals as goal

pub returns : goal.returns
returns c = format_found c.args.name.now c.named.result c.named.ensures.named c.named.ensures.unknown
