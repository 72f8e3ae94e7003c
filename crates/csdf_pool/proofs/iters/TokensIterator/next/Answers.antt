use Rattle.std.proofs.Common.{◌<◌, ℕ, suc, List, length, All, subst, arith}
use Rattle.csdf_pool.proofs.iters.TokensIterator.next.Goals as goal

pub invariant_of-self-2 : goal.invariant_of-self-2
invariant_of-self-2 c = λ k d below.
    let P : List ℕ → Type 0 = λ xs. All (λ cell. cell < length c.self.inside.tokens.now) xs in
    subst P c.in_ok-cell.ensures.steps c.self.invariant (suc k) d (omega (arith, below))
