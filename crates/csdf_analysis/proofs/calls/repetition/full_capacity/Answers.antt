use Rattle.std.proofs.Common.{◌+◌, ◌*◌, ◌^◌, ◌<◌, ◌≤◌, arith, subst, sym}
use Rattle.std.specs.Prelude.{slice_index}
use Rattle.csdf_analysis.proofs.BoundLemmas.{total_within, capacity_fits}
use Rattle.csdf_analysis.proofs.calls.repetition.full_capacity.Goals as goal

pub overflow_add-result : goal.overflow_add-result
overflow_add-result c =
    let q = slice_index c.args.q.now c.args.channel.now.from in
    let small : c.produced.result ≤ q * 64 = subst (λ n. n ≤ q * 64) (sym c.produced.ensures)
    (total_within c.args.channel.now.produce.items q c.requires.small) in
    let few : q < 4294967296 = omega (arith, c.type_inv.q c.args.channel.now.from) in
    let fits : c.len.result + c.produced.result < 2 ^ 64 =
    capacity_fits c.len.result q c.produced.result (omega (arith, c.len.ensures, c.args.channel.now.initial.ok.0, c.requires.few_initial)) few small in
    omega arith
