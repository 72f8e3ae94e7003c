use Rattle.std.proofs.Common.{◌≡◌, ◌<◌, ◌-◌, ℕ, suc, length, All, subst, sym, arith}
use Rattle.csdf_pool.specs.Chains.{linked_from}
use Rattle.csdf_pool.proofs.iters.CellsIterator.next.Goals as goal

pub invariant_of-self : goal.invariant_of-self
invariant_of-self c = λ k d below.
    let links = c.self.inside.links.now in
    let size : suc (c.self.inside.left - 1) ≡ c.self.inside.left = omega arith in
    let P : ℕ → Type 0 = λ n. All (λ cell. cell < length links) (linked_from links c.self.inside.at n) in
    subst P (sym size) c.self.invariant (suc k) d (omega (arith, below))
