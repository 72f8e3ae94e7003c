use Rattle.std.proofs.Common.{◌≡◌, ◌<◌, [], ◌∷◌, ap, arith, get_or, length, map, subst, sym, ◌∙◌}
use Rattle.std.specs.Path.{path_buf_bytes}
use Rattle.std.proofs.lemmas.List.{get_or-map, length-map}
use Rattle.csdf_disk.specs.Acts.{Asks, Leave}
use Rattle.csdf_flows.specs.Flows.{flow_file_view, leave_of}
use Rattle.csdf_flows.specs.declared.flow_files.FlowFile.{FlowFile}
use Rattle.csdf_flows.proofs.FlowLemmas.{well_next}
use Rattle.csdf_flows.proofs.flow_files.give_up.Goals as goal

pub loop-k-preserved : goal.loop-k-preserved
loop-k-preserved g c =
    let files = c.args.files.now in
    let k = c.loop-k.k in
    let d = c.index-files-k.result in
    let here : k < length files = omega (arith, c.loop-k-test.true, c.requires) in
    let there : k < length (map flow_file_view files) = omega (arith, here, length-map files flow_file_view) in
    let at : get_or (map flow_file_view files) k (flow_file_view d) ≡ flow_file_view d =
    get_or-map flow_file_view files k d (flow_file_view d) here ∙ ap flow_file_view (sym c.index-files-k.is) in
    let path = c.as_str.ensures ∙ ap (λ (f : FlowFile). path_buf_bytes f.path) (sym c.index-files-k.is) in
    well_next _ _ _ (map flow_file_view files) k (flow_file_view d) there at leave_of c.loop-k.invariant
    (subst (λ p. Asks (g.D.Disk.acts c.loop-k.disk) (g.D.Disk.acts c.leave.new.self) (Leave p ∷ [])) path c.leave.ensures)
