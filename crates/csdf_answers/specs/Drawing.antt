-- An accepted graph in the language of Graphviz (Gansner and North 2000), which draws it.
use Rattle.std.specs.Prelude.{ℕ, nat_le, List, [], ◌∷◌, ◌++◌, ℤ, codes, if◌then◌else◌, length, slice_index}
use Rattle.std.specs.List.{enumerate_from, flat_map}
use Rattle.std.specs.Fmt.{decimal}
use Rattle.csdf_model.specs.declared.parts.Kernel.{Kernel}
use Rattle.csdf_model.specs.declared.parts.Kernel.TheVariants as kernel
use Rattle.csdf_model.specs.Graph.{Actor, Channel}
use Rattle.csdf_analysis.specs.Acceptance.{Accepted}
use Rattle.csdf_answers.specs.Printed.{spaced}

-- a kernel's name in a graph file
abbrev pub kernel_text : Kernel → List ℕ
kernel_text kernel.Source = codes "source"
kernel_text kernel.Sink = codes "sink"
kernel_text kernel.Copy = codes "copy"
kernel_text kernel.Sum = codes "sum"
kernel_text (kernel.Fir weights taps shift) = codes "fir"

-- a bullet in UTF-8
abbrev pub dot : List ℕ
dot = 226 ∷ 128 ∷ 162 ∷ []

-- the tokens that a channel begins with: a dot each, or where there are more than eight their number and a dot
unfoldable pub dots : List ℤ → List ℕ
dots initial = if nat_le (length initial) 8 then flat_map (λ token. dot) initial else decimal (length initial) ++ codes " " ++ dot

-- the line of an actor: its number, and in its label its name, its kernel, its phases and its firings in a period
abbrev pub actor_line : ℕ → Actor → ℕ → List ℕ
actor_line number actor q =
    codes "  n" ++ decimal number ++ codes " [label=\"" ++ actor.name ++ codes "\\n" ++ kernel_text actor.kernel
    ++ codes "\\nphases " ++ decimal actor.phases ++ codes ", firings " ++ decimal q ++ codes "\"];\n"

-- the rates of a channel, those of its producer first
abbrev pub rates_text : Channel → List ℕ
rates_text channel = spaced channel.produce ++ codes " /" ++ spaced channel.consume

-- what is told of a channel below its name: its rates, its capacity and its first tokens
abbrev pub facts_text : Channel → ℕ → List ℕ
facts_text channel b = codes "\\nrates" ++ rates_text channel ++ codes "\\ncapacity " ++ decimal b ++ codes "\\n" ++ dots channel.initial

-- the line of a channel: the numbers of its ends, and in its label its name and what is told of it
abbrev pub channel_line : Channel → ℕ → List ℕ
channel_line channel b =
    codes "  n" ++ decimal channel.from ++ codes " -> n" ++ decimal channel.to ++ codes " [label=\"" ++ channel.name ++ facts_text channel b ++ codes "\"];\n"

-- the lines of all actors in order, and of all channels
abbrev pub actor_lines : List ℕ → List (ℕ × Actor) → List ℕ
actor_lines q rows = flat_map (λ row. actor_line row.0 row.1 (slice_index q row.0)) rows

abbrev pub channel_lines : List ℕ → List (ℕ × Channel) → List ℕ
channel_lines capacities rows = flat_map (λ row. channel_line row.1 (slice_index capacities row.0)) rows

-- the whole graph
abbrev pub dot_text : Accepted → List ℕ
dot_text a =
    codes "digraph csdf {\n  rankdir=LR;\n  node [shape=box];\n" ++ actor_lines a.q (enumerate_from 0 a.graph.actors)
    ++ channel_lines a.capacities (enumerate_from 0 a.graph.channels) ++ codes "}\n"
