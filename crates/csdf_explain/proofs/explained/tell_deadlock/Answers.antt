use Rattle.std.proofs.Common.{◌++◌, ap, ◌∙◌}
use Rattle.csdf_analysis.specs.declared.stall.Bounds.TheVariants.{Full}
use Rattle.csdf_explain.specs.Stalled.{stall_text}
use Rattle.csdf_explain.proofs.explained.tell_deadlock.Goals as goal

pub returns-clause-told : goal.returns-clause-told
returns-clause-told c = (
  c.in-Ok.vector.r.items,
  c.in-Ok.vector.q.items,
  c.in_ok-stall.stall,
  c.in-Ok.ensures.vector,
  c.in_ok-stall.ensures,
  c.in_ok-push.ensures {u = tt}
      ∙ ap (λ bytes. bytes ++ stall_text (record { graph = c.args.graph; bounds = Full; stall = c.in_ok-stall.stall })) c.new-text.ensures.bytes,
)
