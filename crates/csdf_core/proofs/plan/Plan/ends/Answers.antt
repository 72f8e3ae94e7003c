use Rattle.std.proofs.Common.{◌∙◌}
use Rattle.csdf_core.proofs.OwnChannels.{ends_owned, ends_within}
use Rattle.csdf_core.proofs.plan.Plan.ends.Goals as goal

pub returns-clause-own : goal.returns-clause-own
returns-clause-own c =
    ends_owned c.args.side c.args.self.now.channels c.args.actor c.deref.result.now (c.deref.ensures.value ∙ c.side.ensures.numbers)

pub returns-clause-within : goal.returns-clause-within
returns-clause-within c =
    ends_within c.args.side c.args.self.now.channels c.args.actor c.deref.result.now (c.deref.ensures.value ∙ c.side.ensures.numbers)
