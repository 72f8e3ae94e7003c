-- The printed report of a stream, computed on a worked example.
use Rattle.std.proofs.Common.{◌≡◌, ℕ, List, [], ◌∷◌, ◌++◌, None, true, false, codes, refl}
use Rattle.std.specs.Fmt.{digits}
use Rattle.std.specs.List.{enumerate_from}
use Rattle.csdf_model.specs.Graph.{Graph}
use Rattle.csdf_model.specs.declared.parts.Kernel.TheVariants as kernel
use Rattle.csdf_floor.specs.declared.outcome.ChannelReport.{ChannelReport}
use Rattle.csdf_run.specs.declared.totals.ChannelTotal.{ChannelTotal}
use Rattle.csdf_stream.specs.Printed.{actor_names, channel_lines, clipped_lines}
use Rattle.csdf_stream.specs.Ports.{sinks_in}

-- the channels, and what is told of them; the last segment had fewer tokens than all, and a smaller peak
names : List (List ℕ)
names = codes "x" ∷ codes "y" ∷ []

totals : List ChannelTotal
totals = record { written = 5000000000; taken = 4999999990; peak = 70 } ∷ record { written = 12; taken = 7; peak = 5 } ∷ []

reports : List ChannelReport
reports =
    record {
      written = 40;
      taken = 30;
      held = 10;
      peak = 12;
      capacity = 128;
      is_open = true;
    } ∷ record {
      written = 6;
      taken = 1;
      held = 5;
      peak = 5;
      capacity = 5;
      is_open = false;
    } ∷ []

-- each channel has its own total, and of the last segment what it holds, its capacity and whether it is open
channels_told : channel_lines names totals (enumerate_from 0 reports)
    ≡ codes "x written 5000000000 taken 4999999990 held 10 peak 70 capacity 128 open\n"
    ++ codes "y written 12 taken 7 held 5 peak 5 capacity 5 closed\n"
unfolding names totals reports digits
channels_told = refl

-- a channel whose total is missing has that of no tokens; one with no report has no line
totals_missing : channel_lines names [] (enumerate_from 0 reports)
    ≡ codes "x written 0 taken 0 held 10 peak 0 capacity 128 open\n"
    ++ codes "y written 0 taken 0 held 5 peak 0 capacity 5 closed\n"
unfolding names reports digits
totals_missing = refl

reports_missing : channel_lines names totals (enumerate_from 0 []) ≡ []
reports_missing = refl

-- a source between three sinks
graph : Graph
graph = record {
  actors = record { name = codes "left"; kernel = kernel.Sink; phases = 1 } ∷ record { name = codes "mic"; kernel = kernel.Source; phases = 1 } ∷ record {
    name = codes "right";
    kernel = kernel.Sink;
    phases = 1;
  } ∷ record { name = codes "meter"; kernel = kernel.Sink; phases = 1 } ∷ [];
  channels = [];
  cells = None;
}

told : List ℕ → List ℕ
told counts = clipped_lines (actor_names graph.actors) counts (enumerate_from 0 (sinks_in graph))

-- each sink has the count of its place among the sinks; one that clipped nothing has no line, nor has one of which nothing is told
clipped_told : told (0 ∷ 31 ∷ []) ≡ codes "right clipped 31\n"
unfolding graph told digits
clipped_told = refl

all_clipped : told (1 ∷ 20 ∷ 300 ∷ []) ≡ codes "left clipped 1\n" ++ codes "right clipped 20\n" ++ codes "meter clipped 300\n"
unfolding graph told digits
all_clipped = refl

none_clipped : told [] ≡ []
unfolding graph told
none_clipped = refl
