use Rattle.std.proofs.Common.{◌∙◌}
use Rattle.std.proofs.lemmas.Result.{IfErr-at_err, IfOk-at_ok}
use Rattle.csdf_run.specs.Tokens.{IsGraphRun, IsSequentialGraphRun, IsTokensRefusal}
use Rattle.csdf_run_files.proofs.RunLemmas.{fault_alike, handed_back, may_go_on}
use Rattle.csdf_run_files.proofs.run.ran_over.Goals as goal

pub run_tokens-graph-requires-clause-goes_on : goal.run_tokens-graph-requires-clause-goes_on
run_tokens-graph-requires-clause-goes_on g c = λ κs within. may_go_on c.args.order.options.room c.args.graph c.args.order.options.how_long c.args.order.may_be_asked

pub returns-in-Ok-clause-alike : goal.returns-in-Ok-clause-alike
returns-in-Ok-clause-alike g c = handed_back c.args.order.options.room c.args.graph c.run_tokens-graph.result.graph c.run_tokens-graph.ensures.graph

pub returns-clause-refused : goal.returns-clause-refused
returns-clause-refused g c = λ texts read other. (
  c.in-Err.fault,
  IfErr-at_err (IsTokensRefusal c.args.order.options.room c.args.graph texts) c.in-Err.is (c.run_tokens-graph.ensures.refused texts read),
  c.in_ok-tokens_fault-in-Err.ensures
      ∙ fault_alike c.args.graph c.run_tokens-graph.result.graph c.in-Err.fault
      (handed_back c.args.order.options.room c.args.graph c.run_tokens-graph.result.graph c.run_tokens-graph.ensures.graph),
)

pub returns-in-Ok-clause-told : goal.returns-in-Ok-clause-told
returns-in-Ok-clause-told g c = λ texts read.
    IfOk-at_ok (IsGraphRun c.args.order.options.room c.args.graph texts c.args.order.options.how_long c.args.order.options.firings) c.in-Ok.is (c.run_tokens-graph.ensures.run texts read)

pub returns-in-Ok-clause-sequential : goal.returns-in-Ok-clause-sequential
returns-in-Ok-clause-sequential g c = λ texts read.
    IfOk-at_ok (IsSequentialGraphRun c.args.order.options.room c.args.graph texts c.args.order.options.how_long c.args.order.options.firings) c.in-Ok.is
    (c.run_tokens-graph.ensures.sequential texts read)
