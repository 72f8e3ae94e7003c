use Rattle.std.proofs.Common.{◌≡◌, ◌+◌, ◌%◌, length, sym, ◌∙◌, ap, arith}
use Rattle.std.proofs.Math.Nat.{mod-eq_of_lt, mod_self}
use Rattle.csdf_kernel.proofs.channels.place_after.Goals as goal

pub returns-then-next-inputs-clause-next : goal.returns-then-next-inputs-clause-next
returns-then-next-inputs-clause-next c lt =
    sym (mod-eq_of_lt {n = c.args.place + 1} {m = length c.args.inputs.now} (omega (arith, c.if-next-inputs.true)))

pub returns-clause-next : goal.returns-clause-next
returns-clause-next c lt =
    let last : c.args.place + 1 ≡ length c.args.inputs.now = omega (arith, lt, c.if-next-inputs.false) in
    sym (ap (λ n. n % length c.args.inputs.now) last ∙ mod_self (length c.args.inputs.now))
