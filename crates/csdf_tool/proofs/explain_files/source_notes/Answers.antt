use Rattle.std.proofs.Common.{arith}
use Rattle.std.specs.Prelude.{string_bytes}
use Rattle.csdf_tool.proofs.ExplainingLemmas.{actor_noted, all_looked_at}
use Rattle.csdf_tool.proofs.explain_files.source_notes.Goals as goal

pub loop-actor-preserved : goal.loop-actor-preserved
loop-actor-preserved g c =
    actor_noted c.args.folder.now c.args.actors.now c.loop-actor.actor-index c.actor-item.result c.loop-actor-test.true c.actor-item.is
    _ _ _ (string_bytes c.loop-actor.text) _ c.in_ok-push_actor_note.ensures.noted c.loop-actor.invariant

pub returns-clause-told : goal.returns-clause-told
returns-clause-told g c =
    all_looked_at c.args.folder.now c.args.actors.now _ _ c.loop-actor.actor-index (string_bytes c.loop-actor.text) (omega arith) c.loop-actor.invariant
