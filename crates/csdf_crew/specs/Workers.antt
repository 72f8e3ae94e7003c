-- What a worker's place holds while it makes firings, and how the ends of workers come together.
use Rattle.std.specs.Prelude.{◌≡◌, ◌≢◌, ◌<◌, ◌≤◌, ◌+◌, ℕ, Bool, true, false, List, [], ◌∷◌, ◌++◌, length, map}
use Rattle.std.specs.Prelude.{Option, Some, None, Result, Ok, Err, All, IfErr, IfOk, IfSome}
use Rattle.std.specs.List.{Contains}
use Rattle.std.specs.Result.{IsOk}
use Rattle.csdf_model.specs.declared.limits.TheConstants.{MAX_FIRINGS_PER_ACTOR}
use Rattle.csdf_claims.specs.declared.rule.View.{View}
use Rattle.csdf_claims.specs.Face.{BoardFace, PlaceFace}
use Rattle.csdf_claims.specs.Board.{track_of, Holds, HasFinished, KeepsJust, joined_view}
use Rattle.csdf_kernel.specs.declared.Job.{Job}
use Rattle.csdf_floor.specs.declared.fault.DeliverFault.{DeliverFault}
use Rattle.csdf_floor.specs.declared.fault.RunFault.{RunFault}
use Rattle.csdf_floor.specs.Floor.{FloorView, HasGone, IsDeliverAnswer, IsReady, closes_after, ending_of, task_of}
use Rattle.csdf_crew.specs.declared.claims.Claim.{Claim}
use Rattle.csdf_crew.specs.declared.worker.Ended.{Ended}
use Rattle.csdf_crew.specs.Hand.{claim_for}

-- the place holds no actor
abbrev pub HoldsNothing : View → Type 0
HoldsNothing v = (a : ℕ) → (track_of v a).held ≡ []

-- the place holds the actor of the claim at its firing
abbrev pub HasClaim : View → Option Claim → Type 0
HasClaim v None = Unit {0}
HasClaim v (Some c) = Holds v c.actor c.firing

-- actor b is not the actor of the claim
abbrev pub IsBeside : Option Claim → ℕ → Type 0
IsBeside None b = Unit {0}
IsBeside (Some c) b = b ≢ c.actor

abbrev pub AreApart : Option Claim → Option Claim → Type 0
AreApart None d = Unit {0}
AreApart (Some c) d = IsBeside d c.actor

-- the place holds the actors of the two claims, which are not the same, and no other one
pub record HoldsJust (v : View) (c d : Option Claim) : Type 0 where
  pub first : HasClaim v c
  pub second : HasClaim v d
  pub apart : AreApart c d
  pub no_more : (b : ℕ) → IsBeside c b → IsBeside d b → (track_of v b).held ≡ []

abbrev pub IsActor : ℕ → Option Claim → Type 0
IsActor actors c = IfSome c (λ x. x.actor < actors)

-- the firing of the claim is finished
abbrev pub HasMade : View → Option Claim → Type 0
HasMade v None = Unit {0}
HasMade v (Some c) = HasFinished v c.actor c.firing

-- the floor took what is in hand: where the job was evaluated its value was written and its firing ended, and else nothing changed
abbrev pub HasTaken : Bool → Job → FloorView → FloorView → Type 0
HasTaken true job f g = HasGone f g (ending_of (task_of job) ++ closes_after f (task_of job))
HasTaken false job f g = g ≡ f

-- the floor did not take what is in hand: it was made, and its job is not under way, or it is and memory ran out
abbrev pub IsUntaken : Bool → Job → FloorView → DeliverFault → Type 0
IsUntaken made job f why = (made ≡ true) × IsDeliverAnswer f (task_of job) (Err why)

-- firings of an actor one after another: the claim of the first one, and how many they are
pub record Block : Type 0 where
  pub claim : Claim
  pub count : ℕ

-- after several firings from this one on an actor still has a number that can be claimed
abbrev pub CanEnd : Claim → ℕ → Type 0
CanEnd c count = 1 < count → c.firing + count ≤ MAX_FIRINGS_PER_ACTOR + 1

-- the block begins with the claimed firing, and has some firings
pub record IsBlockOf (c : Claim) (b : Block) : Type 0 where
  pub claim : b.claim ≡ c
  pub some : 0 < b.count
  pub fits : CanEnd c b.count

-- every firing of the block is finished
abbrev pub HasMadeAll : View → Block → Type 0
HasMadeAll v b = (x : ℕ) → b.claim.firing ≤ x → x < b.claim.firing + b.count → HasFinished v b.claim.actor x

-- where a firing was started it is the claim's: the job is ready, and it is that of the claim
abbrev pub IsStartOf : Option Claim → Bool → Job → Type 0
IsStartOf c true job = IsReady job × (c ≡ Some (claim_for job))
IsStartOf c false job = Unit {0}

-- what became of the look for a claim: one that the place holds besides, or what there was
abbrev pub IsClaimBeside : View → View → Option Claim → ℕ → Option Claim → Type 0
IsClaimBeside v w c actors None = KeepsJust v w
IsClaimBeside v w c actors (Some d) = HoldsJust w c (Some d) × (d.actor < actors)

-- why a worker gave up, or that it did not
abbrev pub Answer : Type 0
Answer = Result (Unit {0}) RunFault

-- of two answers the first that is a fault, and else that none is
abbrev pub both : Answer → Answer → Answer
both (Ok none) second = second
both (Err fault) second = Err fault

-- the end of a worker at this board. One that did not give up holds nothing
abbrev pub IsEndAt : BoardFace → Ended → Type 0
IsEndAt board e = (e.place.board ≡ board.id) × IfOk e.answer (λ _. HoldsNothing e.place.view)

-- The answer for these: where it is a fault, one of them is that fault, and where it is none, each of them is none
pub record IsAnswerOf (answers : List Answer) (answer : Answer) : Type 0 where
  pub fault : IfErr answer (λ why. Contains answers (Err why))
  pub well : IfOk answer (λ _. All (λ (each : Answer). IsOk each) answers)

-- what a place has once those of others were joined into it, one after another
abbrev pub joined_by : View → List Ended → View
joined_by v [] = v
joined_by v (e ∷ es) = joined_by (joined_view v e.place.view) es

-- A worker, with an answer of its own and the place v, has joined so many threads: each has ended at the board; its answer is for its own
-- and all of theirs, and its place is v with all of theirs joined into it
pub record AnswersForAll (board : BoardFace) (threads : ℕ) (own : Answer) (v : View) (answer : Answer) (w : View) : Type 0 where
  pub ends : List Ended
  pub each_thread : length ends ≡ threads
  pub at_board : All (λ (e : Ended). IsEndAt board e) ends
  pub answered : IsAnswerOf (own ∷ map (λ (e : Ended). e.answer) ends) answer
  pub joined : w ≡ joined_by v ends

-- a first worker's place has taken in the ends of so many threads at this board
pub record TakesIn (board : BoardFace) (threads : ℕ) (p : PlaceFace) : Type 0 where
  pub own : View
  pub ends : List Ended
  pub each_thread : length ends ≡ threads
  pub at_board : All (λ (e : Ended). IsEndAt board e) ends
  pub joined : p.view ≡ joined_by own ends
