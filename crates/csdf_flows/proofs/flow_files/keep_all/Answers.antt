use Rattle.std.proofs.Common.{◌≡◌, ◌<◌, ◌+◌, ap, arith, get_or, inl, inr, length, map, refl, subst, sym, ◌∙◌}
use Rattle.std.proofs.lemmas.List.{get_or-map, length-map}
use Rattle.csdf_answers.specs.declared.fault.ToolFault.TheVariants.{Memory}
use Rattle.csdf_answers.proofs.ToldLemmas.{if_err_fault}
use Rattle.csdf_disk.specs.Acts.{Asks}
use Rattle.csdf_flows.specs.Flows.{flow_file_view}
use Rattle.csdf_files.specs.Files.{put_fault}
use Rattle.csdf_flows.specs.declared.flow_files.FlowFile.{FlowFile}
use Rattle.csdf_flows.proofs.FlowLemmas.{behind, unkept_all}
use Rattle.csdf_flows.proofs.flow_files.keep_all.Goals as goal

pub returns-in_err-name-in-Err-clause-unkept : goal.returns-in_err-name-in-Err-clause-unkept
returns-in_err-name-in-Err-clause-unkept g c =
    let files = c.args.files.now in
    let k = c.in-Err.unkept.number in
    let d = c.index-files-unkept.result in
    let view = map flow_file_view files in
    let here : k < length files = omega (arith, c.in-Err.ensures.unkept.within, length-map files flow_file_view) in
    let at : get_or view k (flow_file_view d) ≡ flow_file_view d =
    get_or-map flow_file_view files k d (flow_file_view d) here ∙ ap flow_file_view (sym c.index-files-unkept.is) in
    let left = subst (Asks _ _) (behind files c.args.sinks.now (k + 1) c.requires) c.give_up.ensures in
    if_err_fault _ Memory _ c.from_residual.ensures.1
    (unkept_all _ _ _ view _ c.in-Err.unkept (flow_file_view d) Memory c.in-Err.ensures.unkept at left (inr refl))

pub returns-in_ok-name-in-Err-clause-unkept : goal.returns-in_ok-name-in-Err-clause-unkept
returns-in_ok-name-in-Err-clause-unkept g c =
    let files = c.args.files.now in
    let k = c.in-Err.unkept.number in
    let d = c.index-files-unkept.result in
    let view = map flow_file_view files in
    let here : k < length files = omega (arith, c.in-Err.ensures.unkept.within, length-map files flow_file_view) in
    let at : get_or view k (flow_file_view d) ≡ flow_file_view d =
    get_or-map flow_file_view files k d (flow_file_view d) here ∙ ap flow_file_view (sym c.index-files-unkept.is) in
    let left = subst (Asks _ _) (behind files c.args.sinks.now (k + 1) c.requires) c.give_up.ensures in
    let name = c.in_ok-name-in-Err.ensures ∙ c.as_str.ensures ∙ ap (λ (f : FlowFile). f.name) (sym c.index-files-unkept.is) in
    unkept_all _ _ _ view _ c.in-Err.unkept (flow_file_view d) c.put_fault.result c.in-Err.ensures.unkept at left
    (inl (c.put_fault.ensures ∙ ap (λ n. put_fault n c.in-Err.unkept.why) name))
