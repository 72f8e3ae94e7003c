-- What the laws say of the values that code has.
use Rattle.std.proofs.Common.{◌≡◌, ℕ, List, length, ap, sym, subst, ◌∙◌, Option, None}
use Rattle.std.specs.List.{AllByRecursion}
use Rattle.csdf_analysis.specs.Acceptance.{Accepted}
use Rattle.csdf_core.specs.Moves.{Move}
use Rattle.csdf_core.specs.Plan.{Plan, HasAmpleCells}
use Rattle.csdf_core.specs.Planned.{plan_for}
use Rattle.csdf_core.specs.State.{Present, present, opening}
use Rattle.csdf_core.specs.Step.{Reply, count, stage, refused, replies_of, state_after}
use Rattle.csdf_core.specs.Streams.{part}
use Rattle.csdf_core.specs.Shows.{View, Shows, Plays}
use Rattle.csdf_core.specs.Ever.{Allows, ArePeriods, Runs, EndsPeriods}
use Rattle.csdf_core.proofs.Ever.{runs_for_ever}

pub ends_periods : (a : Accepted) (limits supplies : List ℕ) (firings : Option ℕ) (plan : Plan) (now : Present) (moves : List Move) (replies : List Reply)
    → plan ≡ plan_for a limits supplies firings
    → replies ≡ replies_of plan (opening plan) moves → now ≡ present (state_after plan (opening plan) moves) → EndsPeriods a plan now moves replies
ends_periods a limits supplies firings plan now moves replies same said shown schedule periods ok is ample allows are =
    let other : Plan = plan_for a limits supplies firings in
    let runs : Runs plan a.q schedule periods moves = subst (λ (u : Plan). Runs u a.q schedule periods moves) (sym same)
    (runs_for_ever a schedule ok is limits supplies firings periods moves (subst HasAmpleCells same ample)
    (subst (λ (u : Plan). Allows u a.q periods) same allows) (subst (λ (u : Plan). ArePeriods u schedule periods moves) same are)) in
    record {
      accepted = subst (λ (rs : List Reply). AllByRecursion (λ (r : Reply). refused r ≡ None) rs) (sym said) runs.accepted;
      held = λ c. ap (λ (p : Present). length (part c p.tokens)) shown ∙ runs.ends.held c;
      counts = λ b. ap (λ (p : Present). count p b) shown ∙ runs.ends.counts b;
      idle = λ b. ap (λ (p : Present). stage p b) shown ∙ runs.ends.idle b;
    }

-- of a core that was made in the opening state and played the moves
pub periods_kept : (a : Accepted) (limits supplies : List ℕ) (firings : Option ℕ) (old new : View) (moves : List Move) (replies : List Reply)
    → old.plan ≡ plan_for a limits supplies firings
    → Shows old (opening old.plan) → Plays old new moves replies → EndsPeriods a new.plan new.now moves replies
periods_kept a limits supplies firings old new moves replies same shown p =
    let said : replies ≡ replies_of new.plan (opening new.plan) moves = p.replies_are (opening old.plan) shown
    ∙ ap (λ (u : Plan). replies_of u (opening u) moves) (sym p.plan) in
    let now : new.now ≡ present (state_after new.plan (opening new.plan) moves) = (p.shows (opening old.plan) shown).same
    ∙ ap (λ (u : Plan). present (state_after u (opening u) moves)) (sym p.plan) in
    ends_periods a limits supplies firings new.plan new.now moves replies (p.plan ∙ same) said now
