use Rattle.std.proofs.Common.{arith}
use Rattle.csdf_stream.proofs.lengths.usual_length.Goals as goal

pub returns-in-Some-clause-few : goal.returns-in-Some-clause-few
returns-in-Some-clause-few c = c.most_below.ensures.few c.at_least_one.result (omega (arith, c.at_least_one.ensures, c.min.ensures))

pub returns-in-None-clause-few : goal.returns-in-None-clause-few
returns-in-None-clause-few c = c.most_below-in-None.ensures.few c.at_least_one-in-None.result (omega (arith, c.at_least_one-in-None.ensures))
