use Rattle.std.proofs.Common.{◌<◌, ◌≤◌, length, get_or, ap, subst, sym, ◌∙◌, arith, inl}
use Rattle.std.proofs.lemmas.List.{get_or-set_same}
use Rattle.csdf_analysis.specs.Running.{IsLow}
use Rattle.csdf_analysis.proofs.SearchLemmas.{only_producer, raised}
use Rattle.csdf_analysis.proofs.run.Run.raise.Goals as goal

pub step-requires-clause-run : goal.step-requires-clause-run
step-requires-clause-run c = record {
  at = (raised _ _ _ _ _ _ c.args.number c.filled.result _ c.requires.run.at c.requires.stalled c.requires.left c.channel.ensures.value
      (c.filled.ensures _ c.channel.ensures.value) c.requires.can).at;
  in_phase = c.requires.run.in_phase;
}

pub step-requires-clause-can_go : goal.step-requires-clause-can_go
step-requires-clause-can_go c = (raised _ _ _ _ _ _ c.args.number c.filled.result _ c.requires.run.at c.requires.stalled c.requires.left c.channel.ensures.value
    (c.filled.ensures _ c.channel.ensures.value) c.requires.can).go

pub returns-clause-raised : goal.returns-clause-raised
returns-clause-raised c =
    let up = raised _ _ _ _ _ _ c.args.number c.filled.result _ c.requires.run.at c.requires.stalled c.requires.left c.channel.ensures.value
    (c.filled.ensures _ c.channel.ensures.value) c.requires.can in
    let lt : c.args.number < length c.args.self.now.bounds.items = omega (arith, c.requires.exists, c.requires.run.at.each_bound) in
    let bound = ap (λ ks. get_or ks c.args.number 0) c.step.ensures.bounds ∙ get_or-set_same c.args.self.now.bounds.items c.args.number c.filled.result 0 lt in
    subst (λ k. get_or c.args.self.now.bounds.items c.args.number 0 ≤ k) (sym bound) up.above

pub returns-clause-low : goal.returns-clause-low
returns-clause-low c =
    let up = raised _ _ _ _ _ _ c.args.number c.filled.result _ c.requires.run.at c.requires.stalled c.requires.left c.channel.ensures.value
    (c.filled.ensures _ c.channel.ensures.value) c.requires.can in
    subst (λ ks. IsLow c.args.net.now.channels c.args.net.now.firings ks c.args.number) (sym c.step.ensures.bounds) up.low

pub step-requires-clause-able : goal.step-requires-clause-able
step-requires-clause-able c =
    let lt : c.args.number < length c.args.self.now.bounds.items = omega (arith, c.requires.exists, c.requires.run.at.each_bound) in
    λ b go. inl (only_producer _ _ c.args.self.now.bounds.items _ c.args.number c.filled.result b _ c.requires.stalled c.channel.ensures.value lt go)
