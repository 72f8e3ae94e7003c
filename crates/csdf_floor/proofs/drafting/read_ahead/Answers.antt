use Rattle.std.proofs.Common.{sym, ◌∙◌}
use Rattle.std.proofs.lemmas.List.{with_items_is}
use Rattle.csdf_core.specs.Step.{count}
use Rattle.csdf_core.proofs.Known.{there_held}
use Rattle.csdf_floor.proofs.drafting.read_ahead.Goals as goal

pub returns-clause-there : goal.returns-clause-there
returns-clause-there c =
    with_items_is c.resize.new.self c.peek.new.into (c.peek.auto.into ∙ c.as_mut_slice.ensures.len) ∙ c.peek.ensures.there
    ∙ sym (there_held c.args.core.now.plan.channels c.args.actor (count c.args.core.now.now c.args.actor) c.args.n c.args.core.now.now.tokens c.requires.held)
