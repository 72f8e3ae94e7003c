use Rattle.std.proofs.Common.{List, length, ap, ◌∙◌, sym}
use Rattle.std.proofs.lemmas.List.{length-map}
use Rattle.csdf_pool.specs.Pool.{held_tokens}
use Rattle.csdf_core.specs.Plan.{Channel}
use Rattle.csdf_core.proofs.Beginnings.{sound_opening, shows_opening}
use Rattle.csdf_core.proofs.firing_core.Core.new.Goals as goal

pub lengths_of-requires : goal.lengths_of-requires
lengths_of-requires c =
    let cs : List Channel = c.in_ok-plan.plan.channels in
    c.channels.ensures.count
    ∙ sym (sym (length-map c.in_ok-pool.pool.chains held_tokens) ∙ ap length c.in_ok-pool.ensures.tokens ∙ length-map cs (λ (d : Channel). d.initial))

pub invariant_of-result : goal.invariant_of-result
invariant_of-result c = record {
  phases = c.in_ok-nexts.ensures.phases;
  sound = sound_opening c.in_ok-plan.plan c.in_ok-pool.pool c.in_ok-nexts.nexts.counts.items c.in_ok-blank.blank.sums.items c.in_ok-peaks.peaks.items
      c.in_ok-blank.blank.stages.items c.in_ok-blank.blank.opens.items c.in_ok-plan.ensures.playable c.in_ok-nexts.ensures.counts
      c.in_ok-blank.ensures.stages c.in_ok-blank.ensures.opens c.in_ok-pool.ensures.tokens c.in_ok-pool.ensures.shared_out c.in_ok-blank.ensures.sums
      c.in_ok-peaks.ensures;
}

pub returns-clause-opening : goal.returns-clause-opening
returns-clause-opening c =
    shows_opening c.in_ok-plan.plan c.in_ok-pool.pool c.in_ok-nexts.nexts.counts.items c.in_ok-blank.blank.sums.items c.in_ok-peaks.peaks.items
    c.in_ok-blank.blank.stages.items c.in_ok-blank.blank.opens.items c.in_ok-plan.ensures.playable c.in_ok-nexts.ensures.counts
    c.in_ok-blank.ensures.stages c.in_ok-blank.ensures.opens c.in_ok-pool.ensures.tokens c.in_ok-pool.ensures.shared_out
