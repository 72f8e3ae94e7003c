use Rattle.std.proofs.Common.{rules}
use Rattle.csdf_run.proofs.texts.run_texts.Goals as goal

pub run_texts_with-requires-clause-goes_on : goal.run_texts_with-requires-clause-goes_on
run_texts_with-requires-clause-goes_on g c = search rules

pub returns-clause-run : goal.returns-clause-run
returns-clause-run g c = c.run_texts_with.ensures.run

pub returns-clause-sequential : goal.returns-clause-sequential
returns-clause-sequential g c = c.run_texts_with.ensures.sequential

pub returns-clause-refused : goal.returns-clause-refused
returns-clause-refused g c = c.run_texts_with.ensures.refused
