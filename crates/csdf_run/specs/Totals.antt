-- What is told of each channel over all segments of a stream.
use Rattle.std.specs.Prelude.{ℕ, ◌+◌, ◌-◌, ◌^◌, min, max, List, [], ◌∷◌, length, map}
use Rattle.std.specs.List.{range_with_len}
use Rattle.csdf_analysis.specs.Acceptance.{Accepted}
use Rattle.csdf_floor.specs.declared.outcome.ChannelReport.{ChannelReport}
use Rattle.csdf_floor.specs.Continuing.{Segment, beyond, program_of}
use Rattle.csdf_floor.specs.Outcome.{report_of}
use Rattle.csdf_run.specs.declared.totals.ChannelTotal.{ChannelTotal}

-- a number, or the greatest of 64 bits where it is more
abbrev pub capped : ℕ → ℕ
capped n = min n (2 ^ 64 - 1)

abbrev pub no_total : ChannelTotal
no_total = record { written = 0; taken = 0; peak = 0 }

-- a channel's total with what is told of a segment more
abbrev pub with_report : ChannelTotal × ChannelReport → ChannelTotal
with_report row = record {
  written = capped (row.0.written + row.1.written);
  taken = capped (row.0.taken + row.1.taken);
  peak = max row.0.peak row.1.peak;
}

-- what is told of channel c in a segment
abbrev pub report_in : Accepted → Segment → ℕ → ChannelReport
report_in a g c = report_of (program_of a g) g.journal c

-- how many tokens were written to channel c in all segments, and how many were taken from it; and the most that were in it at one time
abbrev pub written_in_all : Accepted → List Segment → ℕ → ℕ
written_in_all a [] c = 0
written_in_all a (g ∷ more) c = (report_in a g c).written + written_in_all (beyond a g) more c

abbrev pub taken_in_all : Accepted → List Segment → ℕ → ℕ
taken_in_all a [] c = 0
taken_in_all a (g ∷ more) c = (report_in a g c).taken + taken_in_all (beyond a g) more c

abbrev pub peak_in_all : Accepted → List Segment → ℕ → ℕ
peak_in_all a [] c = 0
peak_in_all a (g ∷ more) c = max (report_in a g c).peak (peak_in_all (beyond a g) more c)

abbrev pub total_of : Accepted → List Segment → ℕ → ChannelTotal
total_of a past c = record { written = capped (written_in_all a past c); taken = capped (taken_in_all a past c); peak = peak_in_all a past c }

-- of each channel, in file order
abbrev pub totals_of : Accepted → List Segment → List ChannelTotal
totals_of a past = map (total_of a past) (range_with_len 0 (length a.graph.channels))
