-- A run that goes on, segment after segment.
use Rattle.std.specs.Prelude.{ℕ, ◌≡◌, ◌⊎◌, Bool, true, false, List, [], ◌∷◌, ◌++◌, ℤ, None}
use Rattle.csdf_analysis.specs.Acceptance.{Accepted, IsAccepted}
use Rattle.csdf_analysis.specs.Continued.{continued}
use Rattle.csdf_core.specs.State.{present}
use Rattle.csdf_floor.specs.declared.ending.Ending.{Ending}
use Rattle.csdf_floor.specs.declared.ending.Ending.TheVariants.{Complete, Dry}
use Rattle.csdf_floor.specs.declared.outcome.Outcome.{Outcome}
use Rattle.csdf_floor.specs.Continuing.{AreExact, AreWhole, EndsAsOne, IsAsOne, IsPlayed, Segment, at_last, end_of, long_run, program_of}
use Rattle.csdf_floor.specs.Endings.{IsEnding}
use Rattle.csdf_floor.specs.Floor.{sinks_of}
use Rattle.csdf_floor.specs.Outcome.{report_on}
use Rattle.csdf_floor.specs.Sequential.{IsSequential}
use Rattle.csdf_floor.specs.Work.{feeds_in}
use Rattle.csdf_run.specs.declared.stream.Part.{Part}
use Rattle.csdf_run.specs.declared.totals.ChannelTotal.{ChannelTotal}
use Rattle.csdf_run.specs.Totals.{totals_of}

-- the graph that the next segment runs, what is told of each channel over all segments so far, and whether no segment follows
pub record StreamView : Type 0 where
  pub accepted : Accepted
  pub totals : List ChannelTotal
  pub is_over : Bool

-- the stream has this graph, and is over or not
abbrev pub IsAt : Accepted → Bool → StreamView → Type 0
IsAt a is_over s = (s.accepted ≡ a) × (s.is_over ≡ is_over)

-- the stream after an outcome: it begins with what the channels hold where the feeds were exact and the outcome is complete; else it is over
pub record IsAfter (a : Accepted) (o : Outcome) (is_exact : Bool) (new : StreamView) : Type 0 where
  pub goes_on : is_exact ≡ true → o.ending ≡ Complete → IsAt (continued (feeds_in o.left.items) a) false new
  pub inexact : is_exact ≡ false → IsAt a true new
  pub incomplete : (o.ending ≡ Complete → ⊥) → IsAt a true new

-- the stream stands where these segments, each of them played whole, have led the first graph
pub record StandsAfter (first : Accepted) (past : List Segment) (now : StreamView) : Type 0 where
  pub accepted : IsAccepted first
  pub whole : AreWhole first past
  pub here : now.accepted ≡ at_last first past
  pub totals : now.totals ≡ totals_of first past

-- the segment was played on the graph over these feeds, and this is told of it
pub record IsPartOf (now : Accepted) (files : List (List ℤ)) (length : ℕ) (g : Segment) (part : Part) : Type 0 where
  pub feeds : g.feeds ≡ files
  pub periods : g.periods ≡ length
  pub firings : g.firings ≡ None
  pub played : IsPlayed now g
  pub sinks : feeds_in part.sinks.items ≡ sinks_of (program_of now g) g.journal
  pub report : part.report.items ≡ report_on (program_of now g) g.journal
  pub ending : IsEnding (program_of now g).plan (present (end_of now g)) part.ending

-- what sinks have taken in all segments so far is a front of what they take in the one long run over all feeds so far; and where this one ends complete or dry,
-- it is all of it, and channels hold what they hold there
pub record IsAsLongRun (first : Accepted) (past : List Segment) (g : Segment) (ending : Ending) (actors : List ℕ) : Type 0 where
  pub as_one : IsAsOne first past g actors
  pub ends : (ending ≡ Complete) ⊎ (ending ≡ Dry) → EndsAsOne first past g actors

-- a stream goes on by a segment: over all segments so far it is as the one long run; it goes on where the feeds are exact and the segment ends complete, and
-- stands then after one segment more; where it is over, it stands where it stood
pub record IsStretch (old : StreamView) (feeds : List (List ℤ)) (periods : ℕ) (new : StreamView) (part : Part) : Type 0 where
  pub segment : Segment
  pub told : IsPartOf old.accepted feeds periods segment part
  pub run : (first : Accepted) (past : List Segment) (actors : List ℕ) → StandsAfter first past old
      → IsSequential (long_run first past segment) actors → IsAsLongRun first past segment part.ending actors
  pub goes_on : AreExact old.accepted feeds periods → part.ending ≡ Complete → new.is_over ≡ false
  pub stands : new.is_over ≡ false → (first : Accepted) (past : List Segment) → StandsAfter first past old
      → StandsAfter first (past ++ segment ∷ []) new
  pub totals : (first : Accepted) (past : List Segment) → StandsAfter first past old → new.totals ≡ totals_of first (past ++ segment ∷ [])
  pub over : new.is_over ≡ true → new.accepted ≡ old.accepted
