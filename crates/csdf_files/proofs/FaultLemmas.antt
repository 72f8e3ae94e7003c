-- An answer that is a fault gives nothing.
use Rattle.std.proofs.Common.{◌≡◌, Result, Ok, Err}
use Rattle.std.specs.Prelude.{IfOk, IsErrAnd}

pub gives_none : {X E : Type 0} (r : Result X E) (fault : E) (P : X → Type 0) → IsErrAnd r (λ e. e ≡ fault) → IfOk r P
gives_none (Ok x) fault P is = absurd is
gives_none (Err e) fault P is = tt

-- an answer is no fault
pub no_fault : {X E : Type 0} {x : X} {e : E} → Ok x ≡ Err e → ⊥
no_fault is = cc
