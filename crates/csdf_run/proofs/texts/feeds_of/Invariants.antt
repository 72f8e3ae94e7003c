use Rattle.std.proofs.Common.{◌≡◌, ◌≤◌, drop, map}
use Rattle.csdf_model.specs.Graph.{actor_view}
use Rattle.csdf_run.specs.Texts.{feeds_from, texts_in}
use Rattle.csdf_floor.specs.Work.{feeds_in}
use Rattle.csdf_run.proofs.FeedTexts.{with_front}
use Rattle.csdf_run.proofs.texts.feeds_of.Given as goal

abbrev pub invariant-loop-number : goal.invariant-loop-number
invariant-loop-number l =
    (with_front (feeds_in l.feeds.items) (feeds_from l.number (map actor_view (drop l.number l.actors)) (drop l.next (texts_in l.texts)))
    ≡ feeds_from 0 (map actor_view l.actors) (texts_in l.texts)) × (l.next ≤ l.number)
