use Rattle.std.proofs.Common.{rules}
use Rattle.std.proofs.lemmas.Result.{IfOk-weaker}
use Rattle.csdf_run.specs.Texts.{texts_in}
use Rattle.csdf_run.proofs.Lengths.{may_graph}
use Rattle.csdf_run.proofs.RoomTexts.{same_of_file}
use Rattle.csdf_run.proofs.texts.run_texts_with.Goals as goal

pub run_graph_with-requires-clause-goes_on : goal.run_graph_with-requires-clause-goes_on
run_graph_with-requires-clause-goes_on g c = λ κs within.
    may_graph c.args.options.room c.args.graph.now c.in-Ok.graph c.args.options.how_long c.in-Ok.ensures c.requires.goes_on

pub returns-in-Ok-clause-run : goal.returns-in-Ok-clause-run
returns-in-Ok-clause-run g c =
    IfOk-weaker c.run_graph_with.result _ _ (λ t told. record { graph = c.in-Ok.graph; read = c.in-Ok.ensures; holds = told }) c.run_graph_with.ensures.run

pub returns-in-Ok-clause-sequential : goal.returns-in-Ok-clause-sequential
returns-in-Ok-clause-sequential g c =
    IfOk-weaker c.run_graph_with.result _ _ (λ t told. record { graph = c.in-Ok.graph; read = c.in-Ok.ensures; holds = told }) c.run_graph_with.ensures.sequential

pub returns-in-Ok-clause-rooms : goal.returns-in-Ok-clause-rooms
returns-in-Ok-clause-rooms g c =
    IfOk-weaker c.run_graph_with.result _ _
    (λ t same. same_of_file c.args.graph.now c.in-Ok.graph (texts_in c.args.feeds.now) c.args.options.how_long t c.in-Ok.ensures same)
    c.run_graph_with.ensures.rooms

pub returns-in-Err-clause-refused : goal.returns-in-Err-clause-refused
returns-in-Err-clause-refused g c = search rules
