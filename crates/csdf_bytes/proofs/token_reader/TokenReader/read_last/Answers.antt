use Rattle.std.proofs.Common.{rules}
use Rattle.csdf_bytes.proofs.token_reader.TokenReader.read_last.Goals as goal

pub returns-in_err-push_token-clause-fault : goal.returns-in_err-push_token-clause-fault
returns-in_err-push_token-clause-fault c = search rules

pub returns-clause-read : goal.returns-clause-read
returns-clause-read c = search rules
