use Rattle.std.proofs.Common.{arith}
use Rattle.csdf_bytes.proofs.WrittenLemmas.{tokens_in-written}
use Rattle.csdf_bytes.proofs.tokens.written_tokens_read_back.Goals as goal

pub returns : goal.returns
returns c = tokens_in-written c.args.tokens.now (λ k inside. c.loop-token.invariant k (omega (arith, inside, c.loop-token-test.false))) c.requires
