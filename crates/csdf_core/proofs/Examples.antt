-- The step, computed on worked examples.
use Rattle.std.proofs.Common.{◌≡◌, List, [], ◌∷◌, true, false, Some, None, refl}
use Rattle.std.specs.Prelude.{pos, Ok, Err}
use Rattle.csdf_core.specs.declared.refusal.Refusal.TheVariants.{Unknown, Busy, Closed, Full, Stopped, Short, NoCells}
use Rattle.csdf_core.specs.Moves.{Move}
use Rattle.csdf_core.specs.Moves.{Begin, Read, Write, Finish, Close}
use Rattle.csdf_core.specs.Passing.{after_block}
use Rattle.csdf_core.specs.Plan.{Channel, Plan}
use Rattle.csdf_core.specs.State.{opening}
use Rattle.csdf_core.specs.Step.{given, Reply, replies_of}
use Rattle.csdf_core.specs.Streams.{tokens_taken, written_to, peak_of}

-- a source that makes 2 and 1 tokens in turn, and a sink that takes 3
pair : Plan
pair = record {
  sources = true ∷ false ∷ [];
  channels = record { from = 0; to = 1; produce = 2 ∷ 1 ∷ []; consume = 3 ∷ []; initial = []; capacity = 3 } ∷ [];
  limits = 1000000 ∷ 1000000 ∷ [];
  supplies = 1000000 ∷ 0 ∷ [];
  firings = None;
  cells = 3;
}

-- a source that gives 2, a stage that takes 3 and gives 1, and a sink that takes 2, over three cells
chain : Plan
chain = record {
  sources = true ∷ false ∷ false ∷ [];
  channels = record { from = 0; to = 1; produce = 2 ∷ []; consume = 3 ∷ []; initial = []; capacity = 4 } ∷ record
      { from = 1; to = 2; produce = 1 ∷ []; consume = 2 ∷ []; initial = []; capacity = 2 } ∷ [];
  limits = 1000000 ∷ 1000000 ∷ 1000000 ∷ [];
  supplies = 1000000 ∷ 0 ∷ 0 ∷ [];
  firings = None;
  cells = 3;
}

none : Reply
none = Ok []

filling : List Move
filling = Begin 0 ∷ Read 0 ∷ Write 0 (pos 5 ∷ pos 6 ∷ []) ∷ Finish 0 ∷ Begin 0 ∷ Read 0 ∷ Write 0 (pos 7 ∷ []) ∷ Finish 0 ∷ Begin 0 ∷ Begin 1 ∷ Read 1 ∷ Begin
    0 ∷ []

fills : replies_of pair (opening pair) filling ≡ none ∷ none ∷ none ∷ none ∷ none ∷ none ∷ none ∷ none ∷ Err (Full 0) ∷ none ∷ Ok
    (pos 5 ∷ pos 6 ∷ pos 7 ∷ []) ∷ none ∷ []
unfolding pair none filling given
fills = refl

fills_wrote : written_to pair 0 filling (replies_of pair (opening pair) filling) ≡ pos 5 ∷ pos 6 ∷ pos 7 ∷ []
unfolding pair filling given
fills_wrote = refl

fills_took : tokens_taken pair 0 filling (replies_of pair (opening pair) filling) ≡ pos 5 ∷ pos 6 ∷ pos 7 ∷ []
unfolding pair filling given
fills_took = refl

fills_peak : peak_of pair (opening pair) 0 filling ≡ 3
unfolding pair filling given
fills_peak = refl

closing : List Move
closing = Begin 0 ∷ Close 0 ∷ Read 0 ∷ Close 0 ∷ Write 0 (pos 5 ∷ pos 6 ∷ []) ∷ Finish 0 ∷ Close 0 ∷ Begin 0 ∷ Close 0 ∷ Close 128 ∷ []

closes : replies_of pair (opening pair) closing ≡ none ∷ Err Busy ∷ none ∷ Err Busy ∷ none ∷ none ∷ none ∷ Err (Closed 0) ∷ Err (Closed 0) ∷ Err Unknown ∷ []
unfolding pair none closing given
closes = refl

stopping : List Move
stopping = Begin 0 ∷ Begin 1 ∷ Read 0 ∷ Write 0 (pos 5 ∷ pos 6 ∷ []) ∷ Finish 0 ∷ Begin 0 ∷ []

stops : replies_of (record pair { firings = Some 1 }) (opening pair) stopping ≡ none ∷ Err (Short 0) ∷ none ∷ none ∷ none ∷ Err Stopped ∷ []
unfolding pair none stopping given
stops = refl

crowding : List Move
crowding = Begin 0 ∷ Read 0 ∷ Write 0 (pos 1 ∷ pos 2 ∷ []) ∷ Finish 0 ∷ Begin 0 ∷ []

crowds : replies_of chain (opening chain) crowding ≡ none ∷ none ∷ none ∷ none ∷ Err NoCells ∷ []
unfolding chain none crowding given
crowds = refl

-- ---- a block: two firings that each take the one token of a channel to their actor and one of another, and give one back and one to a third
own_channel : List Channel
own_channel = record { from = 0; to = 0; produce = 1 ∷ []; consume = 1 ∷ []; initial = pos 7 ∷ []; capacity = 1 } ∷ record
    { from = 1; to = 0; produce = 1 ∷ []; consume = 1 ∷ []; initial = []; capacity = 3 } ∷ record
    { from = 0; to = 2; produce = 1 ∷ []; consume = 1 ∷ []; initial = []; capacity = 2 } ∷ []

last_state_stays : after_block own_channel 0 0 2 (pos 5 ∷ pos 50 ∷ pos 6 ∷ pos 60 ∷ []) ((pos 7 ∷ []) ∷ (pos 1 ∷ pos 2 ∷ pos 3 ∷ []) ∷ [] ∷ [])
    ≡ (pos 6 ∷ []) ∷ (pos 3 ∷ []) ∷ (pos 50 ∷ pos 60 ∷ []) ∷ []
unfolding own_channel
last_state_stays = refl
