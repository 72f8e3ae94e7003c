-- Why a run has no outcome, as it is told of texts.
use Rattle.std.proofs.Common.{◌≡◌, ℕ, List, Result, Ok, Err, sym, subst}
use Rattle.std.specs.Prelude.{IfErr, IfOk, OnOk}
use Rattle.csdf_floor.specs.declared.fault.RunFault.{RunFault}
use Rattle.csdf_floor.specs.declared.fault.RunFault.TheVariants.{Memory}
use Rattle.csdf_model.specs.Graph.{Actor}
use Rattle.csdf_run.specs.declared.texts.TextsFault.{TextsFault}
use Rattle.csdf_run.specs.declared.texts.TextsFault.TheVariants as fault
use Rattle.csdf_run.specs.Causes.{IsCauseAmong}
use Rattle.csdf_run.specs.Texts.{IsFeedFault, IsRunCause}

-- what is wrong with the texts is no fault of the run
pub feed_cause : (actors : List Actor) (texts : List (List ℕ)) (why : TextsFault) → IsFeedFault actors texts why → (n : ℕ) → IsRunCause n why
feed_cause actors texts fault.FeedCount h n = tt
feed_cause actors texts (fault.Feed a why) h n = tt
feed_cause actors texts (fault.Graph why) h n = tt
feed_cause actors texts (fault.Accept why) h n = tt
feed_cause actors texts (fault.Run why) h n = absurd h

-- the run has no outcome
abbrev pub IsRunFault : TextsFault → Type 0
IsRunFault told = (why : RunFault) × (told ≡ fault.Run why)

-- what is told where there is an outcome, and where there is none
pub is_run_fault : {A B : Type 0} → (outcome : Result A RunFault) (told : Result B TextsFault) → IfErr outcome (λ why. told ≡ Err (fault.Run why))
    → OnOk outcome (IfErr told (λ f. f ≡ fault.Run Memory)) → IfErr told IsRunFault
is_run_fault (Ok o) (Ok t) failed memory = tt
is_run_fault (Ok o) (Err f) failed memory = (Memory, memory)
is_run_fault (Err why) (Ok t) failed memory = tt
is_run_fault (Err why) (Err f) failed memory = (why, cc)

pub is_run_cause : {A B : Type 0} → (workers : ℕ) (outcome : Result A RunFault) (told : Result B TextsFault)
    → IfErr outcome (λ why. told ≡ Err (fault.Run why)) → OnOk outcome (IfErr told (λ f. f ≡ fault.Run Memory)) → IfErr outcome (IsCauseAmong workers)
    → IfErr told (IsRunCause workers)
is_run_cause workers (Ok o) (Ok t) failed memory cause = tt
is_run_cause workers (Ok o) (Err f) failed memory cause = subst (IsRunCause workers) (sym memory) tt
is_run_cause workers (Err why) (Ok t) failed memory cause = tt
is_run_cause workers (Err why) (Err f) failed memory cause =
    let e : f ≡ fault.Run why = cc in subst (IsRunCause workers) (sym e) cause

-- what holds at any rate holds where there is an outcome
pub where_ok : {A E : Type 0} → (P : Type 0) (result : Result A E) → P → IfOk result (λ _. P)
where_ok P (Ok x) p = p
where_ok P (Err e) p = tt

-- what holds of an outcome holds of it as it is told
pub told_ok : {T E F : Type 0} → (P : T → Type 0) (outcome : Result T E) (told : Result T F) (none : F) → IfOk outcome (λ o. told ≡ Ok o)
    → IfErr outcome (λ _. told ≡ Err none) → IfOk outcome P → IfOk told P
told_ok {T = T} {F = F} P (Ok o) told none ok err known = subst (λ (r : Result T F). IfOk r P) (sym ok) known
told_ok {T = T} {F = F} P (Err why) told none ok err known = subst (λ (r : Result T F). IfOk r P) (sym err) tt
