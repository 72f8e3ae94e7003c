use Rattle.std.proofs.Common.{◌∙◌}
use Rattle.csdf_crew.proofs.Held.{newcomer_nothing}
use Rattle.csdf_crew.proofs.threads.place_beside.Goals as goal

pub returns-clause-place : goal.returns-clause-place
returns-clause-place c =
    let e = c.in_ok-new.ensures.board in
    (e ∙ c.requires, newcomer_nothing c.args.place.now.view c.in_ok-new.new.view c.in_ok-new.ensures.view)
