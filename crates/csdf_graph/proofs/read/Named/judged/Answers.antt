use Rattle.std.proofs.Common.{◌≡◌, map, length, subst, ap, arith}
use Rattle.std.specs.Prelude.{is_none}
use Rattle.std.proofs.lemmas.List.{length-map}
use Rattle.csdf_model.specs.Graph.{actor_view, channel_view}
use Rattle.csdf_model.specs.Joined.{HasEnds}
use Rattle.csdf_graph.proofs.FitLemmas.{ends_of}
use Rattle.csdf_graph.proofs.ReadLemmas.{joined_by, unjoined_by}
use Rattle.csdf_graph.proofs.read.Named.judged.Goals as goal

pub unjoined-requires : goal.unjoined-requires
unjoined-requires c =
    let len : length (map actor_view c.args.self.parts.actors.items) ≡ c.len.result =
    omega (arith, c.args.self.parts.actors.ok.0, length-map c.args.self.parts.actors.items actor_view) in
    rw c.deref.ensures.value (subst (λ n. HasEnds n (map channel_view c.args.self.parts.channels.items)) len
    (ends_of (map actor_view c.args.self.parts.actors.items) (map channel_view c.args.self.parts.channels.items) c.requires.fitting.channels))

pub returns-in-Some : goal.returns-in-Some
returns-in-Some c =
    let len : length (map actor_view c.args.self.parts.actors.items) ≡ c.len.result =
    omega (arith, c.args.self.parts.actors.ok.0, length-map c.args.self.parts.actors.items actor_view) in
    λ other. (
      c.refuse.ensures other,
      unjoined_by _ c.len.result (map channel_view c.args.self.parts.channels.items) (is_none c.in_ok-number.field-0) len
          (rw c.deref.ensures.value at c.in_ok-number.ensures) (ap is_none c.in-Some.is),
    )

pub new-requires : goal.new-requires
new-requires c =
    let len : length (map actor_view c.args.self.parts.actors.items) ≡ c.len.result =
    omega (arith, c.args.self.parts.actors.ok.0, length-map c.args.self.parts.actors.items actor_view) in
    record {
      numbered = rw (c.into_numbers-actor_numbers.ensures) (rw (c.into_numbers-channel_numbers.ensures) c.requires.numbered);
      well_formed = record {
        fitting = c.requires.fitting;
        joined = joined_by _ c.len.result (map channel_view c.args.self.parts.channels.items) (is_none c.in_ok-number.field-0) len
            (rw c.deref.ensures.value at c.in_ok-number.ensures) (ap is_none c.in_default.is);
      };
    }

pub returns : goal.returns
returns c =
    let len : length (map actor_view c.args.self.parts.actors.items) ≡ c.len.result =
    omega (arith, c.args.self.parts.actors.ok.0, length-map c.args.self.parts.actors.items actor_view) in (
      c.in_ok-graph.ensures,
      joined_by _ c.len.result (map channel_view c.args.self.parts.channels.items) (is_none c.in_ok-number.field-0) len
          (rw c.deref.ensures.value at c.in_ok-number.ensures) (ap is_none c.in_default.is),
    )
