-- What is present, part by part.
use Rattle.std.proofs.Common.{◌≡◌}
use Rattle.csdf_core.specs.State.{Present}

pub present_same : (p q : Present) → p.counts ≡ q.counts → p.stages ≡ q.stages → p.opens ≡ q.opens → p.tokens ≡ q.tokens → p ≡ q
present_same p q e1 e2 e3 e4 = λ i. record { counts = e1 i; stages = e2 i; opens = e3 i; tokens = e4 i }
