use Rattle.std.proofs.Common.{ℕ, ◌+◌, ◌≤◌, ◌∙◌, ap, arith, drop, length, length-take}
use Rattle.csdf_bytes.specs.Buffered.{Held}
use Rattle.csdf_bytes.proofs.BufferLemmas.{held-let_go}
use Rattle.csdf_bytes.proofs.buffer.Buffer.let_go.Goals as goal

pub returns : goal.returns
returns c =
    let within : c.self.inside.start + c.args.count ≤ c.self.inside.end =
    omega (arith, c.requires, ap (λ (v : Held). length v.bytes) c.self.view_is, length-take {A = ℕ}, c.self.invariant.0) in
    held-let_go c.self.inside.bytes.items c.self.inside.start c.self.inside.end c.args.count within
    ∙ ap (λ (v : Held). drop c.args.count v.bytes) c.self.view_is
