use Rattle.csdf_floor.proofs.work.Work.new.Goals as goal

pub invariant_of-result : goal.invariant_of-result
invariant_of-result c = record {
  accepted = c.graph-graph.ensures.accepted;
  fed = c.requires.fed;
  some_period = c.requires.some_period;
  few_firings = c.requires.few_firings;
}

pub returns-clause-work : goal.returns-clause-work
returns-clause-work c = record {
  accepted = c.graph-graph.ensures.accepted;
  fed = c.requires.fed;
  some_period = c.requires.some_period;
  few_firings = c.requires.few_firings;
}
