-- What the channels hold, as the core shows it.
use Rattle.std.proofs.Common.{◌≡◌, List, length, ap, sym, subst, ◌∙◌}
use Rattle.std.specs.Prelude.{ℤ}
use Rattle.std.proofs.lemmas.List.{length-map}
use Rattle.csdf_core.specs.Plan.{Plan}
use Rattle.csdf_core.specs.State.{Present, present, waiting}
use Rattle.csdf_core.specs.Step.{IsQuiet}
use Rattle.csdf_floor.specs.Continuing.{CompleteIsWhole}
use Rattle.csdf_floor.specs.declared.ending.Ending.{Ending}
use Rattle.csdf_floor.specs.Endings.{IsEnding}
use Rattle.csdf_floor.specs.Outcome.{journal_in}
use Rattle.csdf_floor.specs.Floor.{FloorView, IsKept}
use Rattle.csdf_floor.specs.Journal.{state_of}
use Rattle.csdf_floor.specs.Work.{program}
use Rattle.csdf_floor.proofs.Bounds.{faithful_end}

pub left_shown : (f : FloorView) → IsKept (program f.work) f.core f.journal → f.core.now.tokens ≡ (present (state_of (program f.work) f.journal)).tokens
left_shown f kept = ap (λ (p : Present). p.tokens) kept.shows.same

pub left_each : (f : FloorView) → IsKept (program f.work) f.core f.journal → length f.core.now.tokens ≡ length f.core.plan.channels
left_each f kept =
    ap (λ (ts : List (List ℤ)). length ts) (left_shown f kept)
    ∙ length-map (state_of (program f.work) f.journal).streams waiting
    ∙ (faithful_end (program f.work) f.journal kept.honest).booked.streamed
    ∙ ap (λ (u : Plan). length u.channels) (sym kept.plan)

-- an outcome that is complete
pub complete_is_whole : CompleteIsWhole
unfolding IsQuiet
complete_is_whole w o each exact is complete = record {
  played = record { honest = is.honest; each_actor = each };
  exact = exact;
  spent = subst (λ (e : Ending). IsEnding (program w).plan (present (state_of (program w) (journal_in o))) e) complete is.ending;
  idle = λ i lt. (is.settled.quiet i lt).0;
}
