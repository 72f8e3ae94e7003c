use Rattle.std.proofs.Common.{arith, rules}
use Rattle.std.proofs.lemmas.Grind.{common_steps}
use Rattle.std.proofs.Common.{◌≡◌, List, [], ◌++◌, length, ap, sym, ◌∙◌}
use Rattle.std.specs.List.{range_with_len}
use Rattle.csdf_core.specs.Moves.{Move}
use Rattle.csdf_core.specs.Plan.{Plan}
use Rattle.csdf_core.specs.State.{Present, opening, present}
use Rattle.csdf_core.specs.Step.{stage}
use Rattle.csdf_core.specs.declared.stage.Stage.TheVariants.{Idle}
use Rattle.csdf_core.proofs.Opening.{alike}
use Rattle.csdf_floor.specs.Floor.{FloorView, closes}
use Rattle.csdf_floor.specs.Inside.{AreClosed}
use Rattle.csdf_floor.proofs.Floors.{between_opened}
use Rattle.csdf_floor.proofs.floor.Floor.over.Goals as goal

-- the journal of a floor that has not moved, once all that were due are closed
closed_first : (old new : FloorView) → old.core.now ≡ present (opening old.core.plan) → old.journal ≡ []
    → AreClosed old new (range_with_len 0 (length old.core.plan.channels))
    → new.journal ≡ closes new.core.plan (present (opening new.core.plan)) (range_with_len 0 (length new.core.plan.channels))
closed_first old new first empty closed =
    closed.gone.journal
    ∙ ap (λ (ms : List Move). ms ++ closes old.core.plan old.core.now (range_with_len 0 (length old.core.plan.channels))) empty
    ∙ ap (λ (p : Present). closes old.core.plan p (range_with_len 0 (length old.core.plan.channels))) first
    ∙ ap (λ (u : Plan). closes u (present (opening u)) (range_with_len 0 (length u.channels))) (sym closed.plan)

pub close_at_first-requires-clause-idle : goal.close_at_first-requires-clause-idle
close_at_first-requires-clause-idle c a =
    ap (λ (p : Present). stage p a) c.open-book.ensures.opening ∙ alike (length c.open-book.result.shown.core.plan.sources) a Idle

pub invariant_of-result : goal.invariant_of-result
invariant_of-result c =
    between_opened c.open-book.result.shown c.close_at_first.new.self.shown c.open-book.ensures.opening c.close_at_first.ensures

pub returns-clause-work : goal.returns-clause-work
returns-clause-work c = grind (arith, common_steps)

pub returns-clause-journal : goal.returns-clause-journal
returns-clause-journal c =
    closed_first c.open-book.result.shown c.close_at_first.new.self.shown c.open-book.ensures.opening c.open-book.ensures.journal c.close_at_first.ensures

pub close_at_first-requires-clause-room : goal.close_at_first-requires-clause-room
close_at_first-requires-clause-room c = grind (arith, common_steps)

pub returns-clause-keeps : goal.returns-clause-keeps
returns-clause-keeps c = search rules
