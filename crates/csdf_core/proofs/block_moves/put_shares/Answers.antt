use Rattle.std.proofs.Common.{◌≡◌, ◌<◌, ◌+◌, ◌-◌, ◌++◌, ℕ, length, set, drop, ap, subst, sym, ◌∙◌, refl, arith}
use Rattle.std.proofs.lemmas.List.{length-map}
use Rattle.csdf_pool.specs.Pool.{held_tokens}
use Rattle.csdf_core.specs.Passing.{IsShare}
use Rattle.csdf_core.specs.Phases.{IsInPhase}
use Rattle.csdf_core.specs.Engine.{gives_to}
use Rattle.csdf_core.specs.Ports.{tokens_at, tokens_in}
use Rattle.csdf_core.proofs.Passing.{put_none}
use Rattle.csdf_core.proofs.Shares.{gifts_left, amounts_left, put_step}
use Rattle.csdf_core.proofs.block_moves.put_shares.Goals as goal

pub loop-firing-init : goal.loop-firing-init
loop-firing-init c =
    let all : c.args.n - 0 ≡ c.args.n = omega arith in
    record {
      firing = omega arith;
      in_phase = c.requires.in_phase;
      low = c.requires.low;
      share = c.share_of-share.ensures.share;
      small = c.share_of-share.ensures.small;
      few = omega arith;
      all = rw all (omega (arith, c.requires.all));
      same = c.requires.same;
      size = refl;
      room = rw all c.requires.room;
      put = rw all refl;
      partition = c.requires.partition;
    }

pub loop-firing-preserved : goal.loop-firing-preserved
loop-firing-preserved c =
    let cs = c.args.plan.now.channels in
    let a : ℕ = c.args.actor in
    let d : ℕ = c.args.channel in
    let k : ℕ = c.loop-firing.next.firing in
    let j : ℕ = c.share_after.result.0.firing in
    let n : ℕ = c.args.n in
    let i : ℕ = c.loop-firing._firing in
    let at : ℕ = c.loop-firing.at in
    let share = c.loop-firing.share in
    let lt : i < n = c.loop-firing-test.true in
    let s = c.loop-firing.invariant.share in
    let next : j ≡ k + 1 = c.share_after.ensures.firing in
    let some = gifts_left cs a d k j n i at share.all share.from share.own c.args.tokens.now lt s next in
    let gains = amounts_left cs a d k j n i at share.all share.from share.own c.args.tokens.now lt s next in
    let within : d < length (tokens_in c.loop-firing.pool) =
    omega (arith, length-map c.loop-firing.pool.chains held_tokens, c.loop-firing.invariant.same, c.requires.channel) in
    record {
      firing = omega (arith, next, c.loop-firing.invariant.firing);
      in_phase = subst (λ (x : ℕ). IsInPhase cs a x c.share_after.result.0.phase) (sym next) c.share_after.ensures.in_phase;
      low = c.share_after.ensures.low;
      share = subst (λ (x : ℕ). IsShare cs a d x c.share_after.result.1.all c.share_after.result.1.from c.share_after.result.1.own) (sym next)
          c.share_after.ensures.share;
      small = c.share_after.ensures.small;
      few = omega (arith, c.loop-firing.invariant.few, c.loop-firing.invariant.small);
      all = omega (arith, some, c.loop-firing.invariant.all);
      same = c.put_share.ensures.same ∙ c.loop-firing.invariant.same;
      size = c.put_share.ensures.size ∙ c.loop-firing.invariant.size;
      room = omega (arith, gains, c.loop-firing.invariant.room, c.put_share.ensures.free, c.min-none.ensures);
      put = put_step cs a d k j n i at share.all share.from share.own c.args.tokens.now lt s next c.loop-firing.left_out c.min-none.result
          (tokens_in c.loop-firing.pool) (tokens_in c.put_share.new.pool) within c.loop-firing.invariant.all
          (omega (arith, c.min-none.ensures)) (omega (arith, c.min-none.ensures)) (λ less. omega (arith, c.min-none.ensures, less))
          c.put_share.ensures.put
          ∙ c.loop-firing.invariant.put;
      partition = c.put_share.ensures.partition;
    }

pub slice_bounds-put_share-end : goal.slice_bounds-put_share-end
slice_bounds-put_share-end c =
    let share = c.loop-firing.share in
    let some = gifts_left c.args.plan.now.channels c.args.actor c.args.channel c.loop-firing.next.firing (c.loop-firing.next.firing + 1) c.args.n
    c.loop-firing._firing c.loop-firing.at share.all share.from share.own c.args.tokens.now c.loop-firing-test.true c.loop-firing.invariant.share refl in
    omega (arith, some, c.loop-firing.invariant.all)

pub put_share-requires-clause-room : goal.put_share-requires-clause-room
put_share-requires-clause-room c =
    let share = c.loop-firing.share in
    let gains = amounts_left c.args.plan.now.channels c.args.actor c.args.channel c.loop-firing.next.firing (c.loop-firing.next.firing + 1) c.args.n
    c.loop-firing._firing c.loop-firing.at share.all share.from share.own c.args.tokens.now c.loop-firing-test.true c.loop-firing.invariant.share refl in
    omega (arith, gains, c.loop-firing.invariant.room, c.min-none.ensures)

pub returns-clause-put : goal.returns-clause-put
returns-clause-put c =
    let none : c.args.n - c.loop-firing._firing ≡ 0 = omega (arith, c.loop-firing-test.false) in
    sym (put_none c.args.channel c.loop-firing.left_out (tokens_in c.loop-firing.pool))
    ∙ ap (λ (x : ℕ). set (tokens_in c.loop-firing.pool) c.args.channel (tokens_at (tokens_in c.loop-firing.pool) c.args.channel
    ++ drop c.loop-firing.left_out (gives_to c.args.plan.now.channels c.args.actor c.args.channel c.loop-firing.next.firing x
    (drop c.loop-firing.at c.args.tokens.now)))) (sym none)
    ∙ c.loop-firing.invariant.put

pub share_after-requires-clause-phases : goal.share_after-requires-clause-phases
share_after-requires-clause-phases c = c.phases-phases.ensures.phases
