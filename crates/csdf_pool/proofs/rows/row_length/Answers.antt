use Rattle.std.proofs.Common.{arith}
use Rattle.csdf_pool.proofs.InRow.{row_more}
use Rattle.csdf_pool.proofs.rows.row_length.Goals as goal

pub loop-length-preserved : goal.loop-length-preserved
loop-length-preserved c = record {
  reached = omega arith;
  row = row_more c.args.links.now c.args.at c.loop-length.length 64 c.loop-length.invariant.row (c.is_row.ensures.0 c.if-not-is_row.false);
}
