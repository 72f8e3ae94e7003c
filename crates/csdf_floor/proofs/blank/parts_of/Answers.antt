use Rattle.std.proofs.Common.{ℕ, [], ap, refl, subst, ◌∙◌, ◌≤◌}
use Rattle.std.specs.Prelude.{replicate}
use Rattle.std.proofs.lemmas.List.{length-map}
use Rattle.csdf_floor.proofs.blank.parts_of.Goals as goal

pub returns-clause-blank : goal.returns-clause-blank
returns-clause-blank c = record {
  plan = refl;
  shows = c.requires.opening;
  peaks = c.requires.peaks;
  journal = c.in_ok-journal.ensures.moves;
  room = subst (λ (n : ℕ). n ≤ c.in_ok-journal.journal.room) c.channels.ensures.value c.in_ok-journal.ensures.room;
  sinks = c.in_ok-sinks.ensures.sinks ∙ ap (λ (n : ℕ). replicate n []) c.actors.ensures.value;
  reads = length-map c.in_ok-sinks.reads.items (λ v. v.items) ∙ c.in_ok-sinks.ensures.reads ∙ c.actors.ensures.value;
}
