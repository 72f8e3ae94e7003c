-- Periods computed on a worked plan, and what refuses them where a premise fails.
use Rattle.std.proofs.Common.{◌≡◌, ℕ, zero, suc, List, [], ◌∷◌, true, false, Some, None, refl, Option}
use Rattle.std.specs.Prelude.{ℤ, pos}
use Rattle.csdf_core.specs.declared.refusal.Refusal.{Refusal}
use Rattle.csdf_core.specs.declared.refusal.Refusal.TheVariants.{Spent, Dry, Stopped, NoCells, Short}
use Rattle.csdf_core.specs.Moves.{Move}
use Rattle.csdf_core.specs.Moves.{Begin, Read, Write, Finish}
use Rattle.csdf_core.specs.Plan.{Plan}
use Rattle.csdf_core.specs.State.{opening}
use Rattle.csdf_core.specs.Streams.{length_of}
use Rattle.csdf_core.specs.Step.{given, Reply, replies_of, refused, state_after}
use Rattle.csdf_core.specs.Ever.{repeated, none_finished, whole_firings}

-- a source that gives 2 and 1 tokens in turn, an actor that takes three and gives one, and a sink; one token waits for the sink; two periods are allowed
sums : Plan
sums = record {
  sources = true ∷ false ∷ false ∷ [];
  channels = record { from = 0; to = 1; produce = 2 ∷ 1 ∷ []; consume = 3 ∷ []; initial = []; capacity = 3 } ∷ record
      { from = 1; to = 2; produce = 1 ∷ []; consume = 1 ∷ []; initial = pos 9 ∷ []; capacity = 2 } ∷ [];
  limits = 4 ∷ 2 ∷ 2 ∷ [];
  supplies = 6 ∷ 0 ∷ 0 ∷ [];
  firings = Some 8;
  cells = 5;
}

schedule : List ℕ
schedule = 0 ∷ 0 ∷ 1 ∷ 2 ∷ []

tokens : ℕ → ℕ → List ℤ
tokens zero zero = pos 1 ∷ pos 2 ∷ []
tokens zero (suc zero) = pos 3 ∷ []
tokens zero (suc (suc k)) = tokens zero k
tokens (suc zero) k = pos 6 ∷ []
tokens (suc (suc a)) k = []

-- what refuses each of the moves, where one does
refusals : Plan → List Move → List (Option Refusal)
refusals plan moves = each_refused (replies_of plan (opening plan) moves)
  where
    each_refused : List Reply → List (Option Refusal)
    each_refused [] = []
    each_refused (r ∷ replies) = refused r ∷ each_refused replies

periods : ℕ → List Move
periods m = whole_firings tokens (none_finished sums) (repeated m schedule)

four : List (Option Refusal) → List (Option Refusal)
four rest = None ∷ None ∷ None ∷ None ∷ rest

-- two periods are played
plays : refusals sums (periods 2) ≡ four (four (four (four (four (four (four (four [])))))))
unfolding sums schedule tokens refusals periods four given
plays = refl

-- each channel holds as many tokens as at first
holds_first : length_of (state_after sums (opening sums) (periods 2)) 0 ≡ 0
unfolding sums schedule tokens periods given
holds_first = refl

holds_second : length_of (state_after sums (opening sums) (periods 2)) 1 ≡ 1
unfolding sums schedule tokens periods given
holds_second = refl

-- one cell fewer than the capacities add up to serves this plan too
spares : refusals (record sums { cells = 4 }) (periods 2) ≡ four (four (four (four (four (four (four (four [])))))))
unfolding sums schedule tokens refusals periods four given
spares = refl

-- with two fewer a firing lacks one
lacks : refusals (record sums { cells = 3 }) (Begin 0 ∷ Read 0 ∷ Write 0 (pos 1 ∷ pos 2 ∷ []) ∷ Finish 0 ∷ Begin 0 ∷ []) ≡ four (Some NoCells ∷ [])
unfolding sums refusals four given
lacks = refl

-- a file one token short
dries : refusals (record sums { supplies = 2 ∷ 0 ∷ 0 ∷ [] }) (Begin 0 ∷ Read 0 ∷ Write 0 (pos 1 ∷ pos 2 ∷ []) ∷ Finish 0 ∷ Begin 0 ∷ []) ≡ four (Some Dry ∷ [])
unfolding sums refusals four given
dries = refl

-- a limit on all firings that is one too small
stops : refusals (record sums { firings = Some 1 }) (Begin 0 ∷ Read 0 ∷ Write 0 (pos 1 ∷ pos 2 ∷ []) ∷ Finish 0 ∷ Begin 0 ∷ []) ≡ four (Some Stopped ∷ [])
unfolding sums refusals four given
stops = refl

-- an actor's limit that is one too small
ends : refusals (record sums { limits = 1 ∷ 2 ∷ 2 ∷ [] }) (Begin 0 ∷ Read 0 ∷ Write 0 (pos 1 ∷ pos 2 ∷ []) ∷ Finish 0 ∷ Begin 0 ∷ []) ≡ four (Some Spent ∷ [])
unfolding sums refusals four given
ends = refl

-- other orders than a schedule's
hasty : refusals sums (Begin 1 ∷ []) ≡ Some (Short 0) ∷ []
unfolding sums refusals given
hasty = refl
