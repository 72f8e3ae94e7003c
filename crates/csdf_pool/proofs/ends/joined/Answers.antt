use Rattle.std.proofs.Common.{arith, rules}
use Rattle.csdf_pool.specs.Pens.{links_of}
use Rattle.csdf_pool.proofs.Joins.{length-joined, end_in_table, cells_of-joined, IsChain-joined, links-joined}
use Rattle.csdf_pool.proofs.ends.joined.Goals as goal

pub set-requires-clause-in_table : goal.set-requires-clause-in_table
set-requires-clause-in_table c = end_in_table _ c.args.chain c.args.segment c.requires.chain c.requires.segment c.requires.apart (omega arith)

pub returns-clause-cells : goal.returns-clause-cells
returns-clause-cells c = rw c.set.ensures.links
    (cells_of-joined _ c.args.chain c.args.segment c.requires.chain c.requires.segment c.requires.apart (omega arith))

pub returns-clause-chain : goal.returns-clause-chain
returns-clause-chain c = rw c.set.ensures.links
    (IsChain-joined _ c.args.chain c.args.segment c.requires.chain c.requires.segment c.requires.apart (omega arith) c.requires.some)

pub returns-clause-others : goal.returns-clause-others
returns-clause-others c = λ cell none. rw c.set.ensures.links
    (links-joined _ c.args.chain c.args.segment c.requires.chain c.requires.segment c.requires.apart (omega arith) cell none)

pub prove-unreachable-requires : goal.prove-unreachable-requires
prove-unreachable-requires c = omega (
  arith,
  length-joined (links_of c.args.pen.now) c.args.chain c.args.segment c.requires.chain c.requires.segment c.requires.apart,
)

pub prove-unreachable-requires-2 : goal.prove-unreachable-requires-2
prove-unreachable-requires-2 c = omega (
  arith,
  length-joined (links_of c.args.pen.now) c.args.chain c.args.segment c.requires.chain c.requires.segment c.requires.apart,
)

pub returns-then-chain-eq0-clause-chain : goal.returns-then-chain-eq0-clause-chain
returns-then-chain-eq0-clause-chain c = search rules
