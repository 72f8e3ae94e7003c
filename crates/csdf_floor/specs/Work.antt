-- What a run is asked for.
use Rattle.std.specs.Prelude.{ℕ, ◌≡◌, ◌↔◌, ◌*◌, ◌≤◌, Bool, false, List, [], ℤ, Option, All, length, map, slice_index_or}
use Rattle.std.specs.Global.{Vec}
use Rattle.csdf_model.specs.declared.limits.TheConstants.{MAX_FIRINGS_PER_ACTOR, MAX_PERIODS}
use Rattle.csdf_model.specs.Graph.{Graph, Actor}
use Rattle.csdf_model.specs.Kernels.{is_source_kernel}
pub use Rattle.csdf_model.specs.Kernels.{is_sink_kernel}
use Rattle.csdf_analysis.specs.Acceptance.{Accepted, IsAccepted}
use Rattle.csdf_floor.specs.declared.limits.TheConstants.{MAX_FEED_TOKENS}
use Rattle.csdf_floor.specs.Journal.{Program, program_for}

-- so many periods of an accepted graph over the contents of its sources' files, and a limit on all firings where there is one
pub record Work : Type 0 where
  pub accepted : Accepted
  pub feeds : List (List ℤ)
  pub periods : ℕ
  pub firings : Option ℕ

abbrev pub program : Work → Program
program w = program_for w.accepted w.feeds w.periods w.firings

-- the contents of vectors
abbrev pub feeds_in : List (Vec ℤ) → List (List ℤ)
feeds_in feeds = map (λ (feed : Vec ℤ). feed.items) feeds

-- the tokens for an actor
abbrev pub feed_of : List (List ℤ) → ℕ → List ℤ
feed_of feeds a = slice_index_or feeds a []

-- the actor is a source of the graph
abbrev pub is_source_of : Graph → ℕ → Bool
is_source_of g a = slice_index_or (map (λ (actor : Actor). is_source_kernel actor.kernel) g.actors) a false

-- a list can be the feed of the actor
pub record IsFeed (g : Graph) (a : ℕ) (feed : List ℤ) : Type 0 where
  pub few : length feed ≤ MAX_FEED_TOKENS
  pub only_source : is_source_of g a ≡ false → feed ≡ []

-- one list for each actor, of at most 1,000,000 tokens, and an empty one for an actor that is no source
pub record AreFeeds (g : Graph) (feeds : List (List ℤ)) : Type 0 where
  pub each_actor : length feeds ≡ length g.actors
  pub short : All (λ feed. length feed ≤ MAX_FEED_TOKENS) feeds
  pub only_sources : (a : ℕ) → is_source_of g a ≡ false → feed_of feeds a ≡ []

-- in so many periods no actor makes more than 16,384,000 firings
abbrev pub HasFewFirings : Accepted → ℕ → Type 0
HasFewFirings a periods = All (λ q. periods * q ≤ MAX_FIRINGS_PER_ACTOR) a.q

-- how many periods a run of the graph may have: the most in which no actor makes more firings than that, and as many at most
abbrev pub IsMostPeriods : Accepted → ℕ → Type 0
IsMostPeriods a most = (n : ℕ) → (n ≤ most) ↔ ((n ≤ MAX_FIRINGS_PER_ACTOR) × HasFewFirings a n)

-- 1,000 periods of an accepted graph have few firings
abbrev pub FewInThousand : Type 0
FewInThousand = (a : Accepted) (periods : ℕ) → IsAccepted a → periods ≤ MAX_PERIODS → HasFewFirings a periods

pub record IsWork (w : Work) : Type 0 where
  pub accepted : IsAccepted w.accepted
  pub fed : AreFeeds w.accepted.graph w.feeds
  pub some_period : 1 ≤ w.periods
  pub few_firings : HasFewFirings w.accepted w.periods
