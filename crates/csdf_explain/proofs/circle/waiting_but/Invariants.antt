use Rattle.std.proofs.Common.{◌≡◌, ◌++◌, drop}
use Rattle.csdf_explain.specs.Circle.{waiting_but}
use Rattle.csdf_explain.proofs.circle.waiting_but.Given as goal

abbrev pub invariant-loop-actor : goal.invariant-loop-actor
invariant-loop-actor l = l.others.items ++ waiting_but l.these l.actor (drop l.actor l.waits) ≡ waiting_but l.these 0 l.waits
