-- What is present after each accepted move.
use Rattle.std.proofs.Common.{◌≡◌, map, refl, None}
use Rattle.csdf_core.specs.Moves.{Move}
use Rattle.csdf_core.specs.Moves.{Begin, Read, Write, Finish, Close}
use Rattle.csdf_core.specs.Next.{next}
use Rattle.csdf_core.specs.Plan.{Plan}
use Rattle.csdf_core.specs.Rows.{shares}
use Rattle.csdf_core.specs.State.{State, present, waiting, IsLawful}
use Rattle.csdf_core.specs.Step.{count, refusal, accepted}
use Rattle.csdf_core.specs.Ready.{IsFit}
use Rattle.csdf_core.proofs.Presents.{present_same}
use Rattle.csdf_core.proofs.Flows.{waiting-drained, lawful-drained, waiting-filled, lawful-filled}
use Rattle.csdf_core.proofs.Kept.{reads}
use Rattle.csdf_core.proofs.Ready.{are_there}

pub present_accepted : (plan : Plan) (s : State) (m : Move) → IsLawful s → present (accepted plan s m) ≡ next plan (present s) m
present_accepted plan s (Begin a) l = refl
present_accepted plan s (Read a) l = present_same _ _ refl refl refl (waiting-drained a (count (present s) a) plan.channels s.streams)
present_accepted plan s (Write a v) l = present_same _ _ refl refl refl (waiting-filled s.streams (shares a (count (present s) a) plan.channels v) l)
present_accepted plan s (Finish a) l = refl
present_accepted plan s (Close c) l = refl

pub lawful_accepted : (plan : Plan) (s : State) (m : Move) → IsFit plan (present s) → refusal plan (present s) m ≡ None → IsLawful s
    → IsLawful (accepted plan s m)
lawful_accepted plan s (Begin a) fit none l = l
lawful_accepted plan s (Read a) fit none l =
    let w = reads plan (present s) a none in
    lawful-drained a (count (present s) a) plan.channels s.streams (are_there (present s) a plan.channels (map waiting s.streams) w.at fit.ready) l
lawful_accepted plan s (Write a v) fit none l = lawful-filled s.streams (shares a (count (present s) a) plan.channels v) l
lawful_accepted plan s (Finish a) fit none l = l
lawful_accepted plan s (Close c) fit none l = l
