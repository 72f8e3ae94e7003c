-- One engine: several firings of one actor, one after another with no other's move between.
use Rattle.std.specs.Prelude.{ℕ, zero, suc, ◌≡◌, ◌≢◌, ◌*◌, ◌-◌, ◌<◌, ◌≤◌, List, [], ◌∷◌, ◌++◌, ℤ, take, drop, length, pos, slice_index_or, ◌+◌, true, slice_index}
use Rattle.csdf_core.specs.Blocks.{needs_of, gifts_of, firings_of, AreAccepted, answers_to, takes_at, gives_at, capacity_at, reads_over, reads_among, parts_of}
use Rattle.csdf_core.specs.Moves.{Move}
use Rattle.csdf_core.specs.Moves.{Begin, Read, Write, Finish}
use Rattle.csdf_core.specs.Next.{begun, fetched, written, finished}
use Rattle.csdf_core.specs.Shows.{View, Plays}
use Rattle.csdf_core.specs.Plan.{Channel, Plan, from_at, to_at}
use Rattle.csdf_core.specs.Ports.{inputs_at, outputs_at, tokens_at}
use Rattle.csdf_core.specs.Rows.{gift, shares}
use Rattle.csdf_core.specs.State.{Present}
use Rattle.csdf_core.specs.Step.{count, given, held, is_source, reserved}

-- the 4n moves of the actor's next n firings are accepted one after another, whatever tokens they write
abbrev pub CanFire : Plan → Present → ℕ → ℕ → Type 0
CanFire plan p a n =
    (v : List ℤ) → length v ≡ gifts_of plan.channels a (count p a) n → AreAccepted plan p (firings_of plan.channels a (count p a) n v)

-- the input holds what firings number k to k + i take of it, once those before the last have given to it, where it is a channel to the actor itself
pub record FindsIn (channels : List Channel) (tokens : List (List ℤ)) (a k i c : ℕ) : Type 0 where
  pub others : from_at channels c ≢ a → takes_at channels k (suc i) c ≤ length (tokens_at tokens c)
  pub own : from_at channels c ≡ a → takes_at channels k (suc i) c ≤ length (tokens_at tokens c) + gives_at channels k i c

-- the output has room for what they give to it
pub record FindsOut (channels : List Channel) (tokens : List (List ℤ)) (a k i c : ℕ) : Type 0 where
  pub others : to_at channels c ≢ a → length (tokens_at tokens c) + gives_at channels k (suc i) c ≤ capacity_at channels c
  pub own : to_at channels c ≡ a → length (tokens_at tokens c) + gives_at channels k (suc i) c ≤ capacity_at channels c + takes_at channels k (suc i) c

-- one cycle of the actor's phases goes through, as far as a channel from the actor to itself tells, and leaves in it as many tokens as before
pub record GoesRound (channels : List Channel) (tokens : List (List ℤ)) (a k phases c : ℕ) : Type 0 where
  pub back : gives_at channels k phases c ≡ takes_at channels k phases c
  pub each_in : (i : ℕ) → i < phases → FindsIn channels tokens a k i c
  pub each_out : (i : ℕ) → i < phases → FindsOut channels tokens a k i c

-- the input holds what so many cycles of the actor's phases take of it, or is a channel from the actor to itself, through which one cycle goes
pub record IsHeld (channels : List Channel) (tokens : List (List ℤ)) (a k phases cycles c : ℕ) : Type 0 where
  pub others : from_at channels c ≢ a → cycles * takes_at channels k phases c ≤ length (tokens_at tokens c)
  pub own : from_at channels c ≡ a → 0 < cycles → GoesRound channels tokens a k phases c

-- the output has room for what so many cycles give to it, unless it goes to the actor itself
pub record HasRoom (channels : List Channel) (tokens : List (List ℤ)) (a k phases cycles c : ℕ) : Type 0 where
  pub others : to_at channels c ≢ a → cycles * gives_at channels k phases c ≤ capacity_at channels c - length (tokens_at tokens c)

-- so do all of the actor's channels; and there are the cells, and the tokens of the source's file
pub record FindsNext (plan : Plan) (p : Present) (a i : ℕ) : Type 0 where
  pub inputs : (j : ℕ) → j < length (inputs_at plan.channels a)
      → FindsIn plan.channels p.tokens a (count p a) i (slice_index (inputs_at plan.channels a) j)
  pub outputs : (j : ℕ) → j < length (outputs_at plan.channels a)
      → FindsOut plan.channels p.tokens a (count p a) i (slice_index (outputs_at plan.channels a) j)
  pub cells : held p + reserved plan p + gifts_of plan.channels a (count p a) (suc i) ≤ plan.cells + needs_of plan.channels a (count p a) (suc i)
  pub supply : is_source plan a ≡ true
      → given plan a (count p a) + gifts_of plan.channels a (count p a) (suc i) ≤ slice_index plan.supplies a

-- what is present after the actor's next firing, which wrote v; and the core has made it: its four moves come before any that are made later
abbrev pub fired_once : Plan → Present → ℕ → List ℤ → Present
fired_once plan p a v = finished (written plan (fetched plan (begun p a) a) a v) a

pub record HasFired (old new : View) (a : ℕ) (v : List ℤ) : Type 0 where
  pub plan : new.plan ≡ old.plan
  pub now : new.now ≡ fired_once old.plan old.now a v
  pub number : count new.now a ≡ suc (count old.now a)
  pub before : (last : View) (moves : List Move) → Plays new last moves (answers_to old.plan new.now moves)
      → Plays old last (Begin a ∷ Read a ∷ Write a v ∷ Finish a ∷ moves) (answers_to old.plan old.now (Begin a ∷ Read a ∷ Write a v ∷ Finish a ∷ moves))

-- the first m tokens of a list, 0 where there is none
abbrev pub filled : ℕ → List ℤ → List ℤ
filled zero tokens = []
filled (suc m) tokens = slice_index_or tokens 0 (pos 0) ∷ filled m (drop 1 tokens)

-- what n firings find in each of their inputs: 0 stands for what is still to be written
abbrev pub there_of : List Channel → ℕ → ℕ → ℕ → List (List ℤ) → List ℤ
there_of channels a k n tokens = reads_over channels (inputs_at channels a) k n (λ c. filled (takes_at channels k n c) (tokens_at tokens c))

-- what n firings that write v give to a channel, one firing's share after another's
abbrev pub gives_to : List Channel → ℕ → ℕ → ℕ → ℕ → List ℤ → List ℤ
gives_to channels a c k zero v = []
gives_to channels a c k (suc n) v =
    tokens_at (shares a k channels (take (gift a k channels) v)) c ++ gives_to channels a c (suc k) n (drop (gift a k channels) v)

-- what they read, one firing's after another's: of each input what it holds, and behind it what they give to it
abbrev pub reads_of : List Channel → ℕ → ℕ → ℕ → List (List ℤ) → List ℤ → List ℤ
reads_of channels a k n tokens v = reads_over channels (inputs_at channels a) k n (λ c. tokens_at tokens c ++ gives_to channels a c k n v)

-- each of n firings that write v reads its part of these tokens
abbrev pub AreReadWith : Plan → Present → ℕ → ℕ → ℕ → List ℤ → List ℤ → Type 0
AreReadWith plan p a k n v tokens = reads_among plan p (firings_of plan.channels a k n v) ≡ parts_of plan.channels a k n tokens
