use Rattle.std.proofs.Common.{refl, ap, subst, ◌∙◌, List, ℕ}
use Rattle.csdf_stream.specs.Lengths.{IsLastLength, IsUsualLength}
use Rattle.csdf_stream.specs.Ports.{sinks_in, sources_in}
use Rattle.csdf_stream.proofs.FeedLemmas.{sources_all}
use Rattle.csdf_stream.proofs.flow.plan_of.Goals as goal

pub usual_length-usual-requires : goal.usual_length-usual-requires
usual_length-usual-requires c =
    sources_all c.args.accepted.now c.deref.result.now c.graph.ensures.accepted
    (c.deref.ensures.value ∙ c.in_ok-sources.ensures ∙ ap sources_in c.graph.ensures.graph)

pub last_length-last-requires-clause-sources : goal.last_length-last-requires-clause-sources
last_length-last-requires-clause-sources c =
    sources_all c.args.accepted.now c.deref-2.result.now c.graph.ensures.accepted
    (c.deref-2.ensures.value ∙ c.in_ok-sources.ensures ∙ ap sources_in c.graph.ensures.graph)

pub returns : goal.returns
returns c = record {
  sources = c.in_ok-sources.ensures ∙ ap sources_in c.graph.ensures.graph;
  sinks = c.in_ok-sinks.ensures ∙ ap sinks_in c.graph-2.ensures.graph;
  workers = refl;
  format = refl;
  usual = subst (λ (xs : List ℕ). IsUsualLength c.args.accepted.now xs c.args.options.segment c.usual_length-usual.result) c.deref.ensures.value
      c.usual_length-usual.ensures.usual;
  last = subst (λ (xs : List ℕ). IsLastLength c.args.accepted.now xs c.usual_length-usual.result c.last_length-last.result) c.deref-2.ensures.value
      c.last_length-last.ensures.last;
  few_usual = c.usual_length-usual.ensures.few;
  few_last = c.last_length-last.ensures.few;
}
