-- A fault that is passed on.
use Rattle.std.proofs.Common.{◌≡◌, ◌≢◌, Result, Ok, Err, sym, subst, ◌∙◌}
use Rattle.std.specs.Prelude.{IfErr, IsErrAnd}
use Rattle.csdf_answers.specs.declared.fault.ToolFault.{ToolFault}
use Rattle.csdf_answers.specs.declared.fault.ToolFault.TheVariants.{Memory}
use Rattle.csdf_answers.specs.Faults.{Tells}

pub tells_fault : {X Y : Type 0} (view : X → Y) (r : Result X ToolFault) (fault : ToolFault) (Allows : Result Y ToolFault → Type 0)
    → IsErrAnd r (λ e. e ≡ fault) → (fault ≢ Memory → Allows (Err fault)) → Tells view r Allows
tells_fault view (Ok x) fault Allows same h = absurd same
tells_fault view (Err e) fault Allows same h = λ known. subst (λ f. Allows (Err f)) (sym same) (h (λ m. known (same ∙ m)))

pub if_err_fault : {X : Type 0} (r : Result X ToolFault) (fault : ToolFault) (P : ToolFault → Type 0) → IsErrAnd r (λ e. e ≡ fault) → P fault → IfErr r P
if_err_fault (Ok x) fault P same h = absurd same
if_err_fault (Err e) fault P same h = subst P (sym same) h
