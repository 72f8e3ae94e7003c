use Rattle.std.proofs.Common.{◌<◌, ◌+◌, ℕ, List, length, take, get_or, ap, subst, sym, ◌∙◌, arith}
use Rattle.std.specs.Prelude.{ℤ}
use Rattle.std.proofs.lemmas.List.{take_all, take_more}
use Rattle.csdf_core.specs.Blocks.{takes_at, laid}
use Rattle.csdf_core.specs.Engine.{filled}
use Rattle.csdf_core.specs.Ports.{inputs_at, take_at, tokens_at, tokens_in}
use Rattle.csdf_core.proofs.BlockReads.{IsLaid, none_laid, all_laid, more_laid, within_all, needed_is}
use Rattle.csdf_core.proofs.FilledUp.{length-filled}
use Rattle.csdf_core.proofs.gathering.gather.Goals as goal

pub loop-place-init : goal.loop-place-init
loop-place-init c = record {
  all = c.requires.all;
  laid = none_laid c.args.plan.now.channels (inputs_at c.args.plan.now.channels c.args.actor) c.args.turn.firing c.args.n
      (λ (x : ℕ). filled (takes_at c.args.plan.now.channels c.args.turn.firing c.args.n x) (tokens_at (tokens_in c.args.pool.now) x)) c.args.into.now
      (c.requires.all ∙ needed_is c.args.plan.now.channels c.args.actor c.args.turn.firing c.args.n);
}

pub loop-place-preserved : goal.loop-place-preserved
loop-place-preserved c =
    let cs = c.args.plan.now.channels in
    let ins : List ℕ = inputs_at cs c.args.actor in
    let j : ℕ = c.loop-place.place in
    let k : ℕ = c.args.turn.firing in
    let f : ℕ → List ℤ = (λ (x : ℕ). filled (takes_at cs k c.args.n x) (tokens_at (tokens_in c.args.pool.now) x)) in
    let lt : j < length ins = omega (arith, c.loop-place-test.true, ap length c.inputs-inputs.ensures.value) in
    let more = more_laid cs ins (take j ins) (get_or ins j 0) (λ q. within_all (take_at cs q) ins j lt) k c.args.n f c.loop-place.into
    (omega (arith, length-filled (takes_at cs k c.args.n (get_or ins j 0)) (tokens_at (tokens_in c.args.pool.now) (get_or ins j 0))))
    c.loop-place.invariant.laid in
    record {
      all = c.lay_input.auto.into ∙ c.loop-place.invariant.all;
      laid = subst (IsLaid cs ins (take (j + 1) ins) k c.args.n f) (sym c.lay_input.ensures)
          (subst (λ (done : List ℕ). IsLaid cs ins done k c.args.n f
          (laid cs ins (take j ins) (get_or ins j 0) k c.args.n (f (get_or ins j 0)) c.loop-place.into)) (sym (take_more ins j 0 lt)) more);
    }

pub returns : goal.returns
returns c =
    let cs = c.args.plan.now.channels in
    let ins : List ℕ = inputs_at cs c.args.actor in
    let k : ℕ = c.args.turn.firing in
    let f : ℕ → List ℤ = (λ (x : ℕ). filled (takes_at cs k c.args.n x) (tokens_at (tokens_in c.args.pool.now) x)) in
    all_laid cs ins k c.args.n f c.loop-place.into
    (subst (λ (done : List ℕ). IsLaid cs ins done k c.args.n f c.loop-place.into)
    (take_all c.loop-place.place ins (omega (arith, c.loop-place-test.false, ap length c.inputs-inputs.ensures.value)))
    c.loop-place.invariant.laid)
