use Rattle.std.proofs.Common.{ℕ, List, length, map, get_or, ap, sym, ◌∙◌, refl, arith, ◌≡◌}
use Rattle.std.proofs.lemmas.List.{length-map, get_or-map}
use Rattle.csdf_core.specs.Ports.{give_at, outputs_at}
use Rattle.csdf_floor.proofs.Loops.{same_more, same_whole}
use Rattle.csdf_floor.proofs.counts.are_counts.Goals as goal
use Rattle.csdf_floor.proofs.counts.are_counts.Goals.{After-outputs-outputs}

module _ (c : After-outputs-outputs) where
  -- what the firing puts into each of these channels
  abbrev puts : ℕ → ℕ
  puts = give_at c.args.core.now.plan.channels c.args.turn.firing

  each : length (map puts c.outputs-outputs.result.now) ≡ length c.outputs-outputs.result.now
  each = length-map c.outputs-outputs.result.now puts

  told : map puts c.outputs-outputs.result.now ≡ map puts (outputs_at c.args.core.now.plan.channels c.args.actor)
  told = ap (map puts) c.outputs-outputs.ensures.value

pub returns-then-counts-outputs : goal.returns-then-counts-outputs
returns-then-counts-outputs c =
    let at : goal.After-outputs-outputs = (goal.at.returns-then-counts-outputs c).After-outputs-outputs in (
      (λ t. absurd (cc)),
      (λ same. absurd (c.if-counts-outputs.true (ap length (same ∙ sym (told at)) ∙ each at))),
    )

pub returns-then-counts-i : goal.returns-then-counts-i
returns-then-counts-i c =
    let at : goal.After-outputs-outputs = (goal.at.returns-then-counts-i c).After-outputs-outputs in (
      (λ t. absurd (cc)),
      (λ same. absurd (c.if-counts-i.true
          (ap (λ (ns : List ℕ). get_or ns c.loop-i.i 0) (same ∙ sym (told at))
          ∙ get_or-map (puts at) c.outputs-outputs.result.now c.loop-i.i 0 0 c.loop-i-test.true
          ∙ sym c.gives_at.ensures.value))),
    )

pub loop-i-preserved : goal.loop-i-preserved
loop-i-preserved c =
    let at : goal.After-outputs-outputs = (goal.at.loop-i-preserved c).After-outputs-outputs in
    let len = each at in
    let lt = c.loop-i-test.true in
    let same = c.if-counts-outputs.false in
    same_more c.args.counts.now (map (puts at) c.outputs-outputs.result.now) c.loop-i.i 0 (omega arith) (omega arith) c.loop-i.invariant
    (c.if-counts-i.false ∙ c.gives_at.ensures.value ∙ sym (get_or-map (puts at) c.outputs-outputs.result.now c.loop-i.i 0 0 lt))

pub returns : goal.returns
returns c =
    let at : goal.After-outputs-outputs = (goal.at.returns c).After-outputs-outputs in
    let len = each at in
    let past = c.loop-i-test.false in
    let same = c.if-counts-outputs.false in (
      (λ t. same_whole c.args.counts.now (map (puts at) c.outputs-outputs.result.now) c.loop-i.i (omega arith) (omega arith) c.loop-i.invariant ∙ told at),
      (λ equal. refl),
    )
