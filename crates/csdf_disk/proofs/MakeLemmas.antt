-- A file that is made or kept, by the calls of the system.
use Rattle.std.proofs.Common.{◌≡◌, ℕ, Bool, false, List, [], ◌∷◌, subst, Ok, Err, Option}
use Rattle.std.specs.Prelude.{Result, IsErrAnd}
use Rattle.csdf_disk.specs.Acts.{made_as}
use Rattle.csdf_disk.specs.SystemCalls.{Call, Called, KeepsPart, Remove, Rename}
use Rattle.csdf_disk.specs.declared.put_fault.PutFault.{PutFault}
use Rattle.csdf_disk.specs.declared.put_fault.PutFault.TheVariants.{Device}
use Rattle.csdf_disk.proofs.PutLemmas.{called_more}

-- a file was not made, for the reason that is handed on
pub not_made : {F : Type 0} (r : Result F PutFault) (why : PutFault) → IsErrAnd r (λ e. e ≡ why) → IsErrAnd (made_as r) (λ e. e ≡ why)
not_made (Ok file) why same = absurd same
not_made (Err e) why same = same

-- a part was not renamed, and was taken away
pub not_kept : (part path : List ℕ) (a b c : Option (List Call)) (why : PutFault) (went removed : Bool) → (why ≡ Device) × (went ≡ false)
    → Called a b (Rename part path went ∷ []) → Called b c (Remove part removed ∷ []) → KeepsPart part path a c (Err why)
not_kept part path a b c why went removed failed renamed gone =
    let first : Called a b (Rename part path false ∷ []) = subst (λ w. Called a b (Rename part path w ∷ [])) failed.1 renamed in
    (failed.0, removed, called_more a b c (Rename part path false ∷ []) (Remove part removed ∷ []) first gone)
