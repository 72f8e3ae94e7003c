-- What a floor begins with.
use Rattle.std.specs.Prelude.{◌≡◌, ◌≤◌, [], length, replicate}
use Rattle.csdf_core.specs.Plan.{Plan}
use Rattle.csdf_core.specs.Shows.{Shows}
use Rattle.csdf_core.specs.State.{opening}
use Rattle.csdf_floor.specs.declared.blank.BlankBook.{BlankBook}
use Rattle.csdf_floor.specs.Inside.{first_peaks}
use Rattle.csdf_floor.specs.Work.{feeds_in}

-- all of a floor of this plan that takes memory, before its first move: a core in its opening state, an empty journal with room for the closing
-- of each channel, an empty list for each actor, and a buffer
pub record IsBlank (played : Plan) (b : BlankBook) : Type 0 where
  pub plan : b.core.plan ≡ played
  pub shows : Shows b.core (opening b.core.plan)
  pub peaks : b.core.peaks ≡ first_peaks b.core.plan
  pub journal : b.journal.moves ≡ []
  pub room : length b.core.plan.channels ≤ b.journal.room
  pub sinks : b.sinks.lists ≡ replicate (length b.core.plan.sources) []
  pub reads : length (feeds_in b.reads.items) ≡ length b.core.plan.sources
