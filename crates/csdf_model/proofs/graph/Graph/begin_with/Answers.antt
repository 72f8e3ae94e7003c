use Rattle.std.proofs.Common.{◌<◌, map, length, string_bytes, List, sym, ap, subst, ◌∙◌, arith}
use Rattle.std.specs.Prelude.{slice_get, IfSome}
use Rattle.std.proofs.lemmas.List.{length-map}
use Rattle.csdf_model.specs.Graph.{Graph, Channel, actor_view, channel_view, graph_view}
use Rattle.csdf_model.specs.Holding.{HasAsMany, beginning_with}
use Rattle.csdf_model.specs.Kept.{IsKept, all_ports}
use Rattle.csdf_model.proofs.HoldingLemmas.{kept_beginning, view_beginning, ports_beginning}
use Rattle.csdf_model.proofs.graph.Graph.begin_with.Goals as goal

pub invariant_of-self : goal.invariant_of-self
invariant_of-self c =
    let inside = c.self.inside in
    let n = c.args.channel in
    let v = c.args.tokens in
    let items = inside.channels.items in
    let g : Graph = graph_view inside.actors.items items inside.cells in
    let lt : n < length g.channels = subst (λ (h : Graph). n < length h.channels) (sym c.self.view_is) c.requires.exists in
    let many : IfSome (slice_get g.channels n) (λ d. HasAsMany d v.items) =
    subst (λ (h : Graph). IfSome (slice_get h.channels n) (λ d. HasAsMany d v.items)) (sym c.self.view_is) c.requires.as_many in
    let len = length-map items channel_view in
    let e = view_beginning items n v c.index_mut.result.now (omega arith) c.index_mut.ensures.value in (
      subst (λ (cs : List Channel). IsKept (map string_bytes inside.actor_names.keys) (map string_bytes inside.channel_names.keys)
          (record { actors = map actor_view inside.actors.items; channels = cs; cells = inside.cells })) (sym e)
          (kept_beginning _ _ g n v.items many c.self.invariant.0),
      c.self.invariant.1 ∙ sym (ap (λ (cs : List Channel). all_ports cs (length (map actor_view inside.actors.items))) e
          ∙ ports_beginning n (length (map actor_view inside.actors.items)) v.items g.channels many),
    )

pub returns : goal.returns
returns c =
    let inside = c.self.inside in
    let items = inside.channels.items in
    let g : Graph = graph_view inside.actors.items items inside.cells in
    let lt : c.args.channel < length g.channels = subst (λ (h : Graph). c.args.channel < length h.channels) (sym c.self.view_is) c.requires.exists in
    let len = length-map items channel_view in
    let e = view_beginning items c.args.channel c.args.tokens c.index_mut.result.now (omega arith) c.index_mut.ensures.value in
    ap {B = Graph} (λ (cs : List Channel). record { actors = map actor_view inside.actors.items; channels = cs; cells = inside.cells }) e
    ∙ ap (beginning_with c.args.channel c.args.tokens.items) c.self.view_is
