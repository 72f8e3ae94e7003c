use Rattle.std.proofs.Common.{arith, inl, inr}
use Rattle.std.proofs.lemmas.Bool.Decides.{eqb_tells}
use Rattle.csdf_floor.proofs.Exacts.{gives_next, gives_no_more}
use Rattle.csdf_floor.proofs.exact.gives.Goals as goal

pub loop-channel-preserved : goal.loop-channel-preserved
loop-channel-preserved c =
    let next = gives_next c.args.channels.now c.loop-channel.channel-index c.args.actor c.args.firings c.channel-item.result c.loop-channel-test.true c.channel-item.is in
    let told = c.given_to-given.ensures in
    let so_far = c.loop-channel.invariant in
    let enough = c.if-rest-given.false in
    omega arith

pub returns-then-rest-given : goal.returns-then-rest-given
returns-then-rest-given c =
    let next = gives_next c.args.channels.now c.loop-channel.channel-index c.args.actor c.args.firings c.channel-item.result c.loop-channel-test.true c.channel-item.is in
    let told = c.given_to-given.ensures in
    let so_far = c.loop-channel.invariant in
    let few = c.if-rest-given.true in
    (λ e. absurd cc, λ same. absurd (omega arith))

pub returns : goal.returns
returns c =
    let none = gives_no_more c.args.channels.now c.loop-channel.channel-index c.args.actor c.args.firings c.loop-channel-test.false in
    let so_far = c.loop-channel.invariant in
    elim (eqb_tells c.loop-channel.rest 0) [
      | inl spent ↦ (λ e. (let zero = spent.1 in omega arith), λ same. spent.0)
      | inr some ↦ (λ e. absurd (let no = some.0 in cc), λ same. absurd (let more = some.1 in omega arith))
    ]
