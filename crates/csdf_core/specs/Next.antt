-- What is present after each accepted move.
use Rattle.std.specs.Prelude.{ℕ, suc, false, List, ℤ, slice_set}
use Rattle.csdf_core.specs.declared.stage.Stage.TheVariants.{Idle, Begun, Fetched, Written}
use Rattle.csdf_core.specs.Moves.{Move}
use Rattle.csdf_core.specs.Moves.{Begin, Read, Write, Finish, Close}
use Rattle.csdf_core.specs.Plan.{Plan}
use Rattle.csdf_core.specs.Rows.{left, joined, shares}
use Rattle.csdf_core.specs.State.{Present}
use Rattle.csdf_core.specs.Step.{count}

abbrev pub begun : Present → ℕ → Present
begun p a = record { counts = p.counts; stages = slice_set p.stages a Begun; opens = p.opens; tokens = p.tokens }

abbrev pub fetched : Plan → Present → ℕ → Present
fetched plan p a = record { counts = p.counts; stages = slice_set p.stages a Fetched; opens = p.opens; tokens = left a (count p a) plan.channels p.tokens }

abbrev pub written : Plan → Present → ℕ → List ℤ → Present
written plan p a v = record {
  counts = p.counts;
  stages = slice_set p.stages a Written;
  opens = p.opens;
  tokens = joined p.tokens (shares a (count p a) plan.channels v);
}

abbrev pub finished : Present → ℕ → Present
finished p a = record { counts = slice_set p.counts a (suc (count p a)); stages = slice_set p.stages a Idle; opens = p.opens; tokens = p.tokens }

abbrev pub closed : Present → ℕ → Present
closed p c = record { counts = p.counts; stages = p.stages; opens = slice_set p.opens c false; tokens = p.tokens }

abbrev pub next : Plan → Present → Move → Present
next plan p (Begin a) = begun p a
next plan p (Read a) = fetched plan p a
next plan p (Write a v) = written plan p a v
next plan p (Finish a) = finished p a
next plan p (Close c) = closed p c
