-- The object of a report does not nest deep, and is what its parts are written as.
use Rattle.std.proofs.Common.{◌≡◌, ℕ, ◌+◌, ◌<◌, ◌≤◌, List, ◌++◌, drop, length, get_or, ap, sym, ◌∙◌, append_assoc, arith}
use Rattle.std.proofs.lemmas.List.{drop_more}
use Rattle.std.specs.List.{enumerate_from}
use Rattle.json.specs.Json.{max_depth}
use Rattle.json.specs.Token.{Token}
use Rattle.json.specs.Tree.{depth, items_tokens, json_tokens}
use Rattle.csdf_json.proofs.LineLemmas.{items_by-depth}
use Rattle.csdf_floor.specs.declared.ending.Ending.{Ending}
use Rattle.csdf_floor.specs.declared.outcome.ChannelReport.{ChannelReport}
use Rattle.csdf_floor.specs.Report.{name_at}
use Rattle.csdf_model.specs.Graph.{Graph}
use Rattle.csdf_run.specs.declared.totals.ChannelTotal.{ChannelTotal}
use Rattle.csdf_stream.specs.declared.end.StreamEnd.{StreamEnd}
use Rattle.csdf_stream.specs.Ports.{sinks_in}
use Rattle.csdf_stream.specs.Printed.{actor_names, clipped_at, names_of, total_at}
use Rattle.csdf_told.specs.Reports.{channel_items, channel_object, clipped_object, flow_channel_object, report_object, stream_object}

pub report_shallow : (names : List (List ℕ)) (ending : Ending) (reports : List ChannelReport) → depth (report_object names ending reports) ≤ max_depth
report_shallow names ending reports =
    omega (
      arith,
      items_by-depth (λ (row : ℕ × ChannelReport). channel_object (name_at names row.0) row.1) 1 (λ row. omega arith) (enumerate_from 0 reports),
    )

pub stream_shallow : (g : Graph) (totals : List ChannelTotal) (end : StreamEnd) → depth (stream_object g totals end) ≤ max_depth
stream_shallow g totals end =
    omega (
      arith,
      items_by-depth (λ (row : ℕ × ChannelReport). flow_channel_object (name_at (names_of g.channels) row.0) (total_at totals row.0) row.1) 1
          (λ row. omega arith) (enumerate_from 0 end.report.items),
      items_by-depth (λ (row : ℕ × ℕ). clipped_object (name_at (actor_names g.actors) row.1) (clipped_at end.clipped.items row.0)) 1
          (λ row. omega arith) (enumerate_from 0 (sinks_in g)),
    )

-- what was written in three steps
pub wrote_three : (start a b c t u v : List Token) → t ≡ start ++ a → u ≡ t ++ b → v ≡ u ++ c → v ≡ start ++ (a ++ (b ++ c))
wrote_three start a b c t u v one two three =
    three ∙ ap (λ ts. ts ++ c) two ∙ append_assoc t b c ∙ ap (λ ts. ts ++ (b ++ c)) one ∙ append_assoc start a (b ++ c)

-- one channel after another
module _ (names : List (List ℕ)) (reports : List ChannelReport) (n : ℕ) (d : ChannelReport) where
  abbrev left : ℕ → List Token
  left k = items_tokens (channel_items names (enumerate_from k (drop k reports)))

  here : n < length reports → left n ≡ json_tokens (channel_object (name_at names n) (get_or reports n d)) ++ left (n + 1)
  here lt = ap (λ (rs : List ChannelReport). items_tokens (channel_items names (enumerate_from n rs))) (drop_more reports n d lt)

  pub channel_next : (start old new : List Token) (name : List ℕ) → n < length reports → name ≡ name_at names n
      → new ≡ old ++ json_tokens (channel_object name (get_or reports n d)) → old ++ left n ≡ start → new ++ left (n + 1) ≡ start
  channel_next start old new name lt named wrote so_far =
      ap (λ ts. ts ++ left (n + 1)) wrote
      ∙ append_assoc old (json_tokens (channel_object name (get_or reports n d))) (left (n + 1))
      ∙ ap (λ (w : List ℕ). old ++ (json_tokens (channel_object w (get_or reports n d)) ++ left (n + 1))) named
      ∙ ap (λ ts. old ++ ts) (sym (here lt))
      ∙ so_far
