use Rattle.std.proofs.Common.{List, ap, refl, ◌∙◌, arith}
use Rattle.csdf_model.specs.Graph.{Actor}
use Rattle.csdf_model.specs.Kernels.{is_source_kernel}
use Rattle.csdf_stream.specs.Ports.{numbers_from}
use Rattle.csdf_stream.proofs.PortLemmas.{numbers_next, numbers_end}
use Rattle.csdf_stream.proofs.ports.sources_of.Goals as goal

pub loop-number-preserved : goal.loop-number-preserved
loop-number-preserved c =
    numbers_next (λ (a : Actor). is_source_kernel a.kernel) c.actors-actors.result.now c.loop-number.number c.index-actors-number.result _ _ _ _
    c.loop-number-test.true c.index-actors-number.is c.is_source.ensures refl c.loop-number.invariant c.in_ok-push_where.ensures

pub returns : goal.returns
returns c =
    numbers_end (λ (a : Actor). is_source_kernel a.kernel) c.actors-actors.result.now c.loop-number.number _ (omega (arith, c.loop-number-test.false)) c.loop-number.invariant
    ∙ ap (λ (rows : List Actor). numbers_from (λ (a : Actor). is_source_kernel a.kernel) 0 rows) c.actors-actors.ensures.value
