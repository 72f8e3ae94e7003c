use Rattle.std.proofs.Common.{◌∙◌, ◌%◌, ap, sym}
use Rattle.std.proofs.Math.Nat.{mod-one, mod_self}
use Rattle.csdf_core.proofs.turn.remainder.Goals as goal
use Rattle.csdf_core.proofs.turn.remainder.Goals.{then-by-eq1-via-then-by-eq1, then-by-eq1-via-else-by-eq1+then-n-by}

pub returns-then-by-eq1 : goal.returns-then-by-eq1
returns-then-by-eq1 c = elim c.then-by-eq1.branch [
  | then-by-eq1-via-then-by-eq1 w ↦ sym (ap (λ m. c.args.n % m) w.if-by-eq1.true ∙ mod-one c.args.n)
  | then-by-eq1-via-else-by-eq1+then-n-by w ↦ sym (ap (λ k. k % c.args.by) w.if-n-by.true ∙ mod_self c.args.by)
]
