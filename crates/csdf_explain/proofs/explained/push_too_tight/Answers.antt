use Rattle.csdf_explain.proofs.ExplainLemmas.{in_two}
use Rattle.csdf_explain.proofs.explained.push_too_tight.Goals as goal

pub returns : goal.returns
returns c = (
  c.in_ok-stall.stall,
  c.in_ok-relief.relief,
  c.in_ok-stall.ensures,
  c.in_ok-relief.ensures,
  in_two _ _ _ _ _ (c.in_ok-push.ensures {u = tt}) (c.in_ok-push_relief.ensures {u = tt}),
)
