-- The graph that a text stands for, or the first thing that is wrong with it; and its script.
use Rattle.std.specs.Prelude.{◌≡◌, ℕ, List, length, map, Option, None, if◌then◌else◌, MatchResult, Result, Ok, Err}
use Rattle.std.specs.Str.{is_utf8}
use Rattle.toml.specs.Data.{Members}
use Rattle.toml.specs.Parse.{parse_document}
use Rattle.csdf_graph.specs.declared.fault.GraphFault.{GraphFault}
use Rattle.csdf_graph.specs.declared.fault.GraphFault.TheVariants.{NotToml, PhaseLength, ZeroRate, KernelPorts, NotConnected}
use Rattle.csdf_graph.specs.declared.names.Kind.TheVariants as kind
use Rattle.csdf_graph.specs.declared.read.JoinedParts.{JoinedParts}
use Rattle.csdf_graph.specs.Passes.{◌>>=◌, or_fault, each, check}
use Rattle.csdf_model.specs.Graph.{Graph, actor_view, channel_view}
use Rattle.csdf_graph.specs.Shape.{draft_of}
use Rattle.csdf_graph.specs.Names.{names_of}
use Rattle.csdf_graph.specs.Ranges.{Ranged, range_of}
use Rattle.csdf_graph.specs.Links.{linked_at}
use Rattle.csdf_model.specs.Joined.{AreJoined}
use Rattle.csdf_model.specs.Checks.{phase_lengths_fit, has_rates, has_ports}

abbrev pub parts_view : JoinedParts → Graph
parts_view p = record { actors = map actor_view p.actors.items; channels = map channel_view p.channels.items; cells = p.cells }

-- the checks of channels against actors
unfoldable pub parts_of : List (List ℕ) → Ranged → Result Graph GraphFault
parts_of names ranged = do
  channels ← each (linked_at names) 0 ranged.channels
  lengths ← check PhaseLength (phase_lengths_fit ranged.actors) 0 channels
  rates ← check ZeroRate has_rates 0 channels
  ports ← check KernelPorts (has_ports channels) 0 ranged.actors
  Ok (record { actors = ranged.actors; channels = channels; cells = ranged.cells })

-- the graph of a file, or its first fault, where connection is left aside: each pass goes over the whole file before the next
unfoldable pub unjoined_in : Members → Result Graph GraphFault
unjoined_in file = do
  draft ← draft_of file
  actor_names ← names_of kind.Actor (map (λ a. a.name) draft.actors)
  channel_names ← names_of kind.Channel (map (λ c. c.name) draft.channels)
  ranged ← range_of draft
  parts_of actor_names ranged

-- the last check: the graph where any two actors are joined by a walk along channels, and a fault where two are not
abbrev pub IsJudged : Graph → Result Graph GraphFault → Type 0
IsJudged g (Ok answer) = (answer ≡ g) × AreJoined (length g.actors) g.channels
IsJudged g (Err fault) = (fault ≡ NotConnected) × (AreJoined (length g.actors) g.channels → ⊥)

-- the graph of a file, or its first fault
abbrev pub IsGraphIn : Members → Result Graph GraphFault → Type 0
IsGraphIn file answer = MatchResult (unjoined_in file) (λ g. IsJudged g answer) (λ fault. answer ≡ Err fault)

-- the file that a text is
abbrev pub file_of : List ℕ → Option Members
file_of bytes = if is_utf8 bytes then parse_document bytes else None

-- the graph of a text, or its first fault
abbrev pub IsGraphOf : List ℕ → Result Graph GraphFault → Type 0
IsGraphOf bytes answer = MatchResult (or_fault NotToml (file_of bytes)) (λ file. IsGraphIn file answer) (λ fault. answer ≡ Err fault)
