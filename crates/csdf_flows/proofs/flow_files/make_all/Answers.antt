use Rattle.std.proofs.Common.{◌≡◌, ◌<◌, ℕ, ap, arith, get_or, length, map, subst, sym, take, ◌∙◌}
use Rattle.std.proofs.lemmas.List.{get_or-map, length-map, length_push}
use Rattle.csdf_disk.specs.Acts.{Asks}
use Rattle.csdf_flows.specs.Flows.{flow_file_view, leave_of, make_of}
use Rattle.csdf_flows.proofs.FlowLemmas.{made_not, well_next}
use Rattle.csdf_flows.proofs.flow_files.make_all.Goals as goal

pub returns-in-Err-clause-unmade : goal.returns-in-Err-clause-unmade
returns-in-Err-clause-unmade g c =
    let files = c.args.files.now in
    let i = c.loop-file.file-index in
    let d = c.file-item.result in
    let there : i < length (map flow_file_view files) = omega (arith, c.loop-file-test.true, length-map files flow_file_view) in
    let at : get_or (map flow_file_view files) i (flow_file_view d) ≡ flow_file_view d =
    get_or-map flow_file_view files i d (flow_file_view d) c.loop-file-test.true ∙ ap flow_file_view (sym c.file-item.is) in
    let many : length c.deref.result.now ≡ i = ap (λ (xs : _). length xs) c.deref.ensures.value ∙ c.loop-file.invariant.many in
    made_not _ _ _ (map flow_file_view files) i (flow_file_view d) there at c.loop-file.invariant.asked c.in-Err.fault _ _ c.in-Err.ensures.unmade
    (subst (λ (n : ℕ). Asks (g.D.Disk.acts c.make_file.new.disk) (g.D.Disk.acts c.give_up.new.disk) (map leave_of (take n (map flow_file_view files)))) many
    c.give_up.ensures)

pub loop-file-preserved : goal.loop-file-preserved
loop-file-preserved g c =
    let files = c.args.files.now in
    let i = c.loop-file.file-index in
    let d = c.file-item.result in
    let there : i < length (map flow_file_view files) = omega (arith, c.loop-file-test.true, length-map files flow_file_view) in
    let at : get_or (map flow_file_view files) i (flow_file_view d) ≡ flow_file_view d =
    get_or-map flow_file_view files i d (flow_file_view d) c.loop-file-test.true ∙ ap flow_file_view (sym c.file-item.is) in
    record {
      asked = well_next _ _ _ (map flow_file_view files) i (flow_file_view d) there at make_of c.loop-file.invariant.asked c.in-Ok.ensures.made;
      many =
          (let pushed = ap length c.in_ok-push-in-Ok.ensures.items in
          let more = length_push c.loop-file.sinks.items c.in-Ok.sink in
          let so_far = c.loop-file.invariant.many in
          omega (arith, pushed, more, so_far));
    }
