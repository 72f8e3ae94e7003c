use Rattle.std.proofs.Common.{◌≡◌, ◌<◌, ℕ, List, Option, None, Ok, [], ◌∷◌, ap, arith, get_or, length, map, subst, sym, ◌∙◌}
use Rattle.std.specs.Path.{path_buf_bytes}
use Rattle.std.proofs.lemmas.List.{get_or-map, length-map}
use Rattle.csdf_disk.specs.Acts.{Asks, Keep}
use Rattle.csdf_flows.specs.Flows.{flow_file_view}
use Rattle.csdf_flows.specs.declared.flow_files.FlowFile.{FlowFile}
use Rattle.csdf_flows.proofs.FlowLemmas.{kept_next}
use Rattle.csdf_flows.proofs.flow_files.keep_front.Goals as goal

pub loop-k-preserved : goal.loop-k-preserved
loop-k-preserved g c =
    let files = c.args.files.now in
    let sinks = c.args.sinks.now in
    let k = c.loop-k.k in
    let d = c.index-files-k.result in
    let s = c.index-sinks-k.result in
    let written = g.D.Sink.Outlet.written in
    let there : k < length (map flow_file_view files) = omega (arith, c.loop-k-test.true, length-map files flow_file_view) in
    let here : k < length sinks = omega (arith, c.loop-k-test.true, c.requires) in
    let found : k < length (map written sinks) = omega (arith, here, length-map sinks written) in
    let at : get_or (map flow_file_view files) k (flow_file_view d) ≡ flow_file_view d =
    get_or-map flow_file_view files k d (flow_file_view d) c.loop-k-test.true ∙ ap flow_file_view (sym c.index-files-k.is) in
    let path = c.as_str.ensures ∙ ap (λ (f : FlowFile). path_buf_bytes f.path) (sym c.index-files-k.is) in
    let taken = ap written c.index-sinks-k.is ∙ sym (get_or-map written sinks k s None here) in
    kept_next _ _ _ (map flow_file_view files) (map written sinks) k (flow_file_view d) there found at c.loop-k.invariant
    (subst (λ (w : Option (List ℕ)). Asks (g.D.Disk.acts c.loop-k.disk) (g.D.Disk.acts c.keep.new.self) (Keep (flow_file_view d).path w (Ok tt) ∷ [])) taken
    (subst (λ p. Asks (g.D.Disk.acts c.loop-k.disk) (g.D.Disk.acts c.keep.new.self) (Keep p (written s) (Ok tt) ∷ [])) path
    c.in_default.ensures))
