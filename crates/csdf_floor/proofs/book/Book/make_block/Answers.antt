use Rattle.std.proofs.Common.{◌≡◌, ◌<◌, false, length}
use Rattle.std.specs.Prelude.{IsTrue}
use Rattle.csdf_core.specs.Blocks.{takes_at}
use Rattle.csdf_core.specs.Step.{count}
use Rattle.csdf_floor.proofs.SourcePorts.{no_source}
use Rattle.csdf_floor.proofs.book.Book.make_block.Goals as goal

pub holds-requires-clause-can : goal.holds-requires-clause-can
holds-requires-clause-can c = rw (← c.self.view_is) at c.requires.block.can

pub make-requires-clause-held : goal.make-requires-clause-held
make-requires-clause-held c = rw (← c.self.view_is) (c.holds.ensures.holds.0 c.if-holds.true)

pub make_successive-requires-clause-no_source : goal.make_successive-requires-clause-no_source
make_successive-requires-clause-no_source c =
    let lt : c.args.actor < length c.self.inside.core.plan.sources = rw (← c.self.view_is) at c.requires.exists in
    rw (← c.self.view_is)
    (no_source c.self.inside.work c.self.inside.core.plan c.self.inside.core.now.tokens
    (takes_at c.self.inside.core.plan.channels (count c.self.inside.core.now c.args.actor) c.args.block.firings) c.args.actor c.self.invariant.work
    c.self.invariant.kept.plan lt (λ all. absurd (let is : IsTrue false = c.if-holds.ensures.holds.1 all in cc)))
