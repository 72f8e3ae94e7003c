use Rattle.std.proofs.Common.{ℕ, ap, inl, inr, sym, ◌∙◌}
use Rattle.std.proofs.lemmas.List.{length-map}
use Rattle.std.specs.Global.{Vec}
use Rattle.csdf_model.specs.Graph.{Graph}
use Rattle.csdf_run.specs.Texts.{feeds_from, source_count, texts_in}
use Rattle.csdf_run.proofs.RunFaults.{feed_cause}
use Rattle.csdf_run.proofs.texts.fed_of.Goals as goal

pub returns-in-Ok-counted_feeds-clause-read : goal.returns-in-Ok-counted_feeds-clause-read
returns-in-Ok-counted_feeds-clause-read c = record {
  in_room = record { roomy = c.in-Ok.ensures.graph; accepted = c.in-Ok.ensures.accepted };
  each_source = length-map c.args.texts.now (λ (text : Vec ℕ). text.items) ∙ c.in-Ok-counted_feeds.ensures.each_source
      ∙ ap (λ (g : Graph). source_count g.actors) c.graph.ensures.graph;
  tokens = ap (λ (g : Graph). feeds_from 0 g.actors (texts_in c.args.texts.now)) (sym c.graph.ensures.graph) ∙ c.in-Ok-counted_feeds.ensures.feeds;
}

pub returns-in-Err-counted_feeds-clause-graph : goal.returns-in-Err-counted_feeds-clause-graph
returns-in-Err-counted_feeds-clause-graph c =
    inr (c.in-Ok.accepted, record { roomy = c.in-Ok.ensures.graph; accepted = c.in-Ok.ensures.accepted }, c.into_graph.ensures)

pub returns-in-Err-clause-graph : goal.returns-in-Err-clause-graph
returns-in-Err-clause-graph c = inl c.in-Err.ensures.unchanged

pub returns-in-Err-counted_feeds-clause-cause : goal.returns-in-Err-counted_feeds-clause-cause
returns-in-Err-counted_feeds-clause-cause c = feed_cause c.graph.result.now.actors (texts_in c.args.texts.now) c.in-Err-counted_feeds.fault c.in-Err-counted_feeds.ensures.refused
