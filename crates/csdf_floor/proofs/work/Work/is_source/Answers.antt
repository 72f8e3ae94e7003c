use Rattle.std.proofs.Common.{ap, ◌∙◌}
use Rattle.csdf_core.specs.Planned.{is_source_kernel}
use Rattle.csdf_floor.proofs.Works.{source_at}
use Rattle.csdf_floor.proofs.work.Work.is_source.Goals as goal

pub returns : goal.returns
returns c =
    c.is_source.ensures ∙ ap is_source_kernel c.kernel.ensures.value ∙ source_at c.args.self.now.accepted.graph.actors c.args.actor c.requires
