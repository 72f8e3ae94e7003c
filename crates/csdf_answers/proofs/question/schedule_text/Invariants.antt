use Rattle.std.proofs.Common.{◌≡◌, map, take, string_bytes}
use Rattle.csdf_model.specs.Graph.{actor_view}
use Rattle.csdf_answers.specs.Described.{actor_names, schedule_text}
use Rattle.csdf_answers.proofs.question.schedule_text.Given as goal

abbrev pub invariant-loop-actor : goal.invariant-loop-actor
invariant-loop-actor l = string_bytes l.text ≡ schedule_text (actor_names (map actor_view l.actors)) (take l.actor-index l.firings)
