use Rattle.std.proofs.Common.{rules}
use Rattle.csdf_json.proofs.line.json_writer.Goals as goal

pub returns-clause-tokens : goal.returns-clause-tokens
returns-clause-tokens c = search rules
