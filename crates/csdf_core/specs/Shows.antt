-- What a core shows of a plain state, and how its calls follow the step.
use Rattle.std.specs.Prelude.{ℕ, ◌≡◌, ◌≤◌, max, List, [], ◌∷◌, ℤ, Result, Ok, Err, length, map, take}
use Rattle.std.specs.List.{zip, AllByRecursion}
use Rattle.std.specs.Global.{Vec}
use Rattle.csdf_pool.specs.Pool.{Shared, held_tokens, IsPartition}
use Rattle.csdf_core.specs.Moves.{Move}
use Rattle.csdf_core.specs.declared.refusal.Refusal.{Refusal}
use Rattle.csdf_core.specs.Plan.{Plan}
use Rattle.csdf_core.specs.State.{State, Present, present, opening, IsLawful}
use Rattle.csdf_core.specs.Step.{Reply, reply_to, after, replies_of, state_after}

-- what contracts see of a core: what it plays, what is present, the greatest length of each channel so far, and its pool
pub record View : Type 0 where
  pub plan : Plan
  pub now : Present
  pub peaks : List ℕ
  pub pool : Shared

-- the pool has as many cells as the plan, each in exactly one of the chains and the free list
pub record AreSharedOut (plan : Plan) (pool : Shared) : Type 0 where
  pub size : pool.size ≡ plan.cells
  pub partition : IsPartition pool

-- the counts, stages and open marks of the core are those of the state, the tokens of each chain are those that wait in its channel,
-- and the cells are shared out
pub record Shows (core : View) (s : State) : Type 0 where
  pub same : core.now ≡ present s
  pub lawful : IsLawful s
  pub chains : map held_tokens core.pool.chains ≡ core.now.tokens
  pub cells : AreSharedOut core.plan core.pool

-- each peak once the channels hold these tokens
abbrev pub raised : List ℕ → List (List ℤ) → List ℕ
raised peaks tokens = map (λ (row : ℕ × List ℤ). max row.0 (length row.1)) (zip peaks tokens)

-- each peak is at least the length
abbrev pub ArePeaks : List ℕ → List (List ℤ) → Type 0
ArePeaks peaks tokens = AllByRecursion (λ (row : ℕ × List ℤ). length row.1 ≤ row.0) (zip peaks tokens)

-- a call's answer as a reply, where f says which tokens it handed out
abbrev pub as_reply : {T : Type 0} → (T → List ℤ) → Result T Refusal → Reply
as_reply f (Ok x) = Ok (f x)
as_reply f (Err refusal) = Err refusal

-- from old to new, for each state that the old core shows, the move was answered as the step says, and the new core shows the step's next state;
-- its cells are shared out
pub record Follows (old new : View) (m : Move) (answered : Reply) : Type 0 where
  pub plan : new.plan ≡ old.plan
  pub reply_is : (s : State) → Shows old s → answered ≡ reply_to old.plan s m
  pub shows : (s : State) → Shows old s → Shows new (after old.plan s m)
  pub peaks : new.peaks ≡ raised old.peaks new.now.tokens
  pub cells : AreSharedOut new.plan new.pool

-- the run goes from old to new by one core after each move, which follows the one before it and has its cells shared out
abbrev pub PassesThrough : View → View → List Move → List Reply → Type 0
PassesThrough old new [] [] = new ≡ old
PassesThrough old new [] (r ∷ replies) = ⊥
PassesThrough old new (m ∷ moves) [] = ⊥
PassesThrough old new (m ∷ moves) (r ∷ replies) = (next : View) × Follows old next m r × AreSharedOut next.plan next.pool × PassesThrough next new moves replies

-- the peaks after a list of moves from a state
abbrev pub raised_over : Plan → State → List ℕ → List Move → List ℕ
raised_over plan s peaks [] = peaks
raised_over plan s peaks (m ∷ moves) = raised_over plan (after plan s m) (raised peaks (present (after plan s m)).tokens) moves

-- the same over a list of moves
pub record Plays (old new : View) (moves : List Move) (replies : List Reply) : Type 0 where
  pub plan : new.plan ≡ old.plan
  pub replies_are : (s : State) → Shows old s → replies ≡ replies_of old.plan s moves
  pub shows : (s : State) → Shows old s → Shows new (state_after old.plan s moves)
  pub peaks : (s : State) → Shows old s → new.peaks ≡ raised_over old.plan s old.peaks moves
  pub through : PassesThrough old new moves replies

-- a core that began in the opening state has come to this one by the moves, each core on the way with its cells shared out
abbrev pub IsRun : View → List Move → List Reply → Type 0
IsRun core moves replies = (first : View) × Shows first (opening core.plan) × AreSharedOut first.plan first.pool × PassesThrough first core moves replies

-- the replies of a call, as the step answers them
abbrev pub ReplyCode : Type 0
ReplyCode = Result (Vec ℤ) Refusal

abbrev pub replies_in : List ReplyCode → List Reply
replies_in replies = map (as_reply (λ (tokens : Vec ℤ). tokens.items)) replies

-- the core has played some of the moves, from the first on
abbrev pub PlayedSome : View → View → List Move → Type 0
PlayedSome old new moves = (n : ℕ) × (replies : List Reply) × Plays old new (take n moves) replies
