use Rattle.std.proofs.Common.{◌≤◌, ℕ, length, refl, ap, subst, sym, ◌∙◌, arith, append-nil}
use Rattle.csdf_core.specs.Blocks.{needs_of, takes_at, from_front, HoldAll}
use Rattle.csdf_core.specs.Engine.{there_of}
use Rattle.csdf_core.specs.Ports.{inputs_at, take_at, tokens_in}
use Rattle.csdf_core.proofs.BlockBegins.{needs_none}
use Rattle.csdf_core.proofs.BlockTokens.{one_needs, one_take, hold_same, one_read}
use Rattle.csdf_core.proofs.Known.{there_held}
use Rattle.csdf_core.proofs.gathering.copy_reads.Goals as goal

pub copy_block-requires-clause-enough : goal.copy_block-requires-clause-enough
copy_block-requires-clause-enough c =
    let cs = c.args.plan.now.channels in
    let a : ℕ = c.args.actor in
    let k : ℕ = c.args.turn.firing in
    let n : ℕ = c.args.n in
    let one : length (inputs_at cs a) ≤ 1 = omega (arith, c.if-inputs-gt1.false, ap length c.inputs.ensures.value) in
    subst (λ (x : ℕ). HoldAll (tokens_in c.args.pool.now) (λ _. x) (inputs_at cs a)) (sym c.requires.all)
    (hold_same (tokens_in c.args.pool.now) (takes_at cs k n) (λ _. needs_of cs a k n) (inputs_at cs a) (one_needs cs a k n one) (c.requires.enough (c.if-not-has_no_loop.ensures.0 refl)))

pub copy_block-requires-clause-none : goal.copy_block-requires-clause-none
copy_block-requires-clause-none c = λ none. c.requires.all ∙ needs_none c.args.plan.now.channels c.args.actor c.args.turn.firing c.args.n none

pub returns : goal.returns
returns c =
    let cs = c.args.plan.now.channels in
    let a : ℕ = c.args.actor in
    let k : ℕ = c.args.turn.firing in
    let n : ℕ = c.args.n in
    let one : length (inputs_at cs a) ≤ 1 = omega (arith, c.if-inputs-gt1.false, ap length c.inputs.ensures.value) in
    let held = c.requires.enough (c.if-not-has_no_loop.ensures.0 refl) in
    c.copy_block.ensures ∙ ap (λ (x : ℕ). from_front (inputs_at cs a) x (tokens_in c.args.pool.now)) c.requires.all
    ∙ one_read cs (inputs_at cs a) k n (needs_of cs a k n) (tokens_in c.args.pool.now) one (one_needs cs a k n one)
    ∙ there_held cs a k n (tokens_in c.args.pool.now) held

pub copy_next-requires-clause-enough : goal.copy_next-requires-clause-enough
copy_next-requires-clause-enough c =
    let cs = c.args.plan.now.channels in
    let k : ℕ = c.args.turn.firing in
    hold_same (tokens_in c.args.pool.now) (takes_at cs k 1) (take_at cs k) (inputs_at cs c.args.actor) (one_take cs k (inputs_at cs c.args.actor))
    (c.requires.first c.if-n-eq1.true)

pub copy_next-requires-clause-all : goal.copy_next-requires-clause-all
copy_next-requires-clause-all c =
    let cs = c.args.plan.now.channels in
    let one = ap (needs_of cs c.args.actor c.args.turn.firing) c.if-n-eq1.true in
    omega (arith, one, c.requires.all)

pub returns-then-n-eq1 : goal.returns-then-n-eq1
returns-then-n-eq1 c =
    let cs = c.args.plan.now.channels in
    let k : ℕ = c.args.turn.firing in
    c.copy_next.ensures ∙ sym (append-nil _)
    ∙ there_held cs c.args.actor k 1 (tokens_in c.args.pool.now) (c.requires.first c.if-n-eq1.true)
    ∙ ap (λ (x : ℕ). there_of cs c.args.actor k x (tokens_in c.args.pool.now)) (sym c.if-n-eq1.true)
