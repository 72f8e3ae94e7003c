use Rattle.std.proofs.lemmas.Grind.{common_steps}
use Rattle.std.proofs.Common.{rules, arith}
use Rattle.csdf_run.proofs.texts.counted_feeds.Goals as goal

pub returns-clause-each_source : goal.returns-clause-each_source
returns-clause-each_source c = search rules

pub returns-clause-refused : goal.returns-clause-refused
returns-clause-refused c = grind (arith, common_steps)

pub returns-then-texts-source_count-clause-refused : goal.returns-then-texts-source_count-clause-refused
returns-then-texts-source_count-clause-refused c = grind (arith, common_steps)
