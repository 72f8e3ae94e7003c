use Rattle.std.proofs.Common.{arith, ap, sym, subst, length, ◌∙◌, ◌+◌, sum_by}
use Rattle.csdf_pool.specs.Pool.{IsPartition}
use Rattle.csdf_pool.proofs.Moves.{free_fits}
use Rattle.csdf_pool.proofs.Views.{length-free}
use Rattle.csdf_pool.proofs.CallerLemmas.{sizes_add_up}
use Rattle.csdf_pool.proofs.pool.Pool.free_len.Goals as goal

pub overflow_cast-result : goal.overflow_cast-result
overflow_cast-result c =
    let inside = c.self.inside in
    let fits = free_fits inside.links.items inside.tokens.items inside.chains.items inside.free c.self.invariant in
    omega (arith, c.self.invariant.size_fits, fits)

pub returns-clause-free : goal.returns-clause-free
returns-clause-free c =
    let inside = c.self.inside in
    sym (length-free inside.links.items inside.tokens.items inside.chains.items inside.free c.args.self.now c.self.view_is)

pub returns-clause-accounted : goal.returns-clause-accounted
returns-clause-accounted c =
    ap (λ k. sum_by length c.args.self.now.chains + k) (returns-clause-free c)
    ∙ sizes_add_up c.args.self.now (subst IsPartition c.self.view_is c.self.invariant.partition)
