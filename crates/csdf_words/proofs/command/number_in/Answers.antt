use Rattle.csdf_words.proofs.CommandLemmas.{number_read, number_refused}
use Rattle.csdf_words.proofs.command.number_in.Goals as goal

pub returns-then-number-most-clause-value : goal.returns-then-number-most-clause-value
returns-then-number-most-clause-value c =
    number_read c.args.least c.args.most c.in-Ok.number c.args.text.now c.in-Ok.ensures.value.0 c.if-least-number.true c.if-number-most.true

pub returns-in-Err-clause-value : goal.returns-in-Err-clause-value
returns-in-Err-clause-value c = number_refused c.args.least c.args.most c.args.text.now c.in-Err.ensures.value.0 c.ranges.most.fits
