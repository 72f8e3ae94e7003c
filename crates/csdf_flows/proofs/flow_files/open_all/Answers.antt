use Rattle.std.proofs.Common.{◌≡◌, ◌<◌, ap, arith, get_or, length, map, sym, take, ◌∙◌}
use Rattle.std.proofs.lemmas.List.{get_or-map, length-map, length_push, take_all}
use Rattle.csdf_answers.proofs.ToldLemmas.{if_err_fault}
use Rattle.csdf_flows.specs.Flows.{flow_file_view, open_of}
use Rattle.csdf_files.proofs.DiskLemmas.{asks_none}
use Rattle.csdf_flows.proofs.FlowLemmas.{opened_not, well_all, well_next}
use Rattle.csdf_flows.proofs.flow_files.open_all.Goals as goal

pub loop-file-init : goal.loop-file-init
loop-file-init g c = record { asked = asks_none _; many = ap length c.new-sources.ensures.items }

pub loop-file-preserved : goal.loop-file-preserved
loop-file-preserved g c =
    let files = c.args.files.now in
    let i = c.loop-file.file-index in
    let d = c.file-item.result in
    let there : i < length (map flow_file_view files) = omega (arith, c.loop-file-test.true, length-map files flow_file_view) in
    let at : get_or (map flow_file_view files) i (flow_file_view d) ≡ flow_file_view d =
    get_or-map flow_file_view files i d (flow_file_view d) c.loop-file-test.true ∙ ap flow_file_view (sym c.file-item.is) in
    record {
      asked = well_next _ _ _ (map flow_file_view files) i (flow_file_view d) there at open_of c.loop-file.invariant.asked c.in_ok-source.ensures.opened;
      many =
          (let pushed = ap length c.in_ok-push.ensures.items in
          let more = length_push c.loop-file.sources.items c.in_ok-source.source in
          let so_far = c.loop-file.invariant.many in
          omega (arith, pushed, more, so_far));
    }

pub returns-in_err-source-clause-unopened : goal.returns-in_err-source-clause-unopened
returns-in_err-source-clause-unopened g c =
    let files = c.args.files.now in
    let i = c.loop-file.file-index in
    let d = c.file-item.result in
    let there : i < length (map flow_file_view files) = omega (arith, c.loop-file-test.true, length-map files flow_file_view) in
    let at : get_or (map flow_file_view files) i (flow_file_view d) ≡ flow_file_view d =
    get_or-map flow_file_view files i d (flow_file_view d) c.loop-file-test.true ∙ ap flow_file_view (sym c.file-item.is) in
    let fault = c.in_err-source.field-0.0 in
    if_err_fault _ fault _ c.from_residual.ensures.1
    (opened_not _ _ _ (map flow_file_view files) i (flow_file_view d) there at c.loop-file.invariant.asked fault c.in_err-source.ensures.unopened)

pub returns-clause-opened : goal.returns-clause-opened
returns-clause-opened g c =
    let files = c.args.files.now in
    let i = c.loop-file.file-index in
    let all : take i (map flow_file_view files) ≡ map flow_file_view files =
    take_all i (map flow_file_view files) (omega (arith, c.loop-file-test.false, length-map files flow_file_view)) in
    well_all _ _ (map flow_file_view files) i open_of all c.loop-file.invariant.asked
