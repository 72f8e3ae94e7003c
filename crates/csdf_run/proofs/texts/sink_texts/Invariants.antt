use Rattle.std.proofs.Common.{◌≡◌, ◌++◌, drop, map}
use Rattle.csdf_model.specs.Graph.{Actor, actor_view, numbers_from}
use Rattle.csdf_run.specs.Texts.{sink_texts, text_at, texts_in}
use Rattle.csdf_floor.specs.Work.{feeds_in, is_sink_kernel}
use Rattle.csdf_run.proofs.texts.sink_texts.Given as goal

abbrev pub invariant-loop-number : goal.invariant-loop-number
invariant-loop-number l =
    texts_in l.texts.items
    ++ map (text_at (feeds_in l.lists)) (numbers_from l.number (λ (actor : Actor). is_sink_kernel actor.kernel) (map actor_view (drop l.number l.actors)))
    ≡ sink_texts (map actor_view l.actors) (feeds_in l.lists)
