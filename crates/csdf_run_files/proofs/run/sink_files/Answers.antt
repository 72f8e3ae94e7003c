use Rattle.std.proofs.Common.{◌≡◌, ◌++◌, [], ap, arith, drop, map, refl, sym, ◌∙◌}
use Rattle.std.proofs.lemmas.Grind.{common_steps}
use Rattle.std.proofs.lemmas.List.{append-nil, drop_all}
use Rattle.csdf_model.specs.Graph.{actor_view}
use Rattle.csdf_floor.specs.Work.{feeds_in}
use Rattle.csdf_run_files.specs.Running.{file_view, sink_files_from}
use Rattle.csdf_files.proofs.FaultLemmas.{gives_none}
use Rattle.csdf_run_files.proofs.run.sink_files.Goals as goal

pub loop-number-init : goal.loop-number-init
loop-number-init c = rw c.new-files.ensures.items refl

pub loop-number-preserved : goal.loop-number-preserved
loop-number-preserved c = grind (arith, common_steps)

pub returns : goal.returns
returns c =
    let front = map file_view c.loop-number.files.items in
    let rest = sink_files_from c.loop-number.number c.args.order.sink_folder.now (map actor_view (drop c.loop-number.number c.args.actors.now))
    (feeds_in c.args.lists.now) in
    let none : rest ≡ [] =
    ap (λ actors. sink_files_from c.loop-number.number c.args.order.sink_folder.now (map actor_view actors) (feeds_in c.args.lists.now))
    (drop_all c.loop-number.number c.args.actors.now c.loop-number-test.false) in
    sym (ap (λ files. front ++ files) none ∙ append-nil front) ∙ c.loop-number.invariant

pub returns-in_err-name : goal.returns-in_err-name
returns-in_err-name c = gives_none c.from_residual.result c.in_err-name.field-0.0 _ c.from_residual.ensures.1
