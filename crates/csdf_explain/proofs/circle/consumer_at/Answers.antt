use Rattle.csdf_explain.proofs.CircleLemmas.{consumer-found}
use Rattle.csdf_explain.proofs.circle.consumer_at.Goals as goal

pub returns-in-Some : goal.returns-in-Some
returns-in-Some c =
    let found = c.in-Some.ensures.lookup in
    consumer-found c.args.channels.now c.args.number c.in-Some.channel.now found.3.0 found.1
