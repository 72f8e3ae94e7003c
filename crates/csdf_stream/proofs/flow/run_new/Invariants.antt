use Rattle.std.proofs.Common.{◌≡◌, List, length, map}
use Rattle.csdf_floor.specs.Continuing.{Segment}
use Rattle.csdf_stream.specs.Flowing.{devices}
use Rattle.csdf_stream.proofs.StandLemmas.{Stands}
use Rattle.csdf_stream.proofs.flow.run_new.Given as goal

-- the flow stands after the segments so far
abbrev pub invariant-loop : goal.invariant-loop
invariant-loop g l = record {
  past : List Segment;
  stands : Stands l.fn.stream.accepted l.plan l.fn.options.periods (devices (map g.I.Intake.left l.fn.intakes) (map g.I.Intake.left l.intakes)
      (map g.O.Outlet.written l.fn.outlets) (map g.O.Outlet.written l.outlets)) past l.flow;
  intakes : length l.intakes ≡ length l.fn.intakes;
  outlets : length l.outlets ≡ length l.fn.outlets;
}
