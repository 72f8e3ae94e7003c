use Rattle.std.proofs.Common.{arith}
use Rattle.csdf_run_trials.proofs.beside.Beside.make.Goals as goal

pub make_from-requires : goal.make_from-requires
make_from-requires c = record {
  drafted = λ some. c.evaluate.ensures.drafted _ (c.in_ok-draft.ensures.draft (omega (arith, some, c.evaluate.ensures.firings))).drafted;
}
