use Rattle.std.proofs.Common.{◌++◌, ◌∷◌, [], List, ap, sym, ◌∙◌, map, arith}
use Rattle.std.specs.List.{range_with_len}
use Rattle.std.proofs.lemmas.List.FromFn.{map-range_with_len_more}
use Rattle.csdf_floor.specs.declared.outcome.ChannelReport.{ChannelReport}
use Rattle.csdf_floor.specs.Outcome.{report_of}
use Rattle.csdf_floor.specs.Work.{program}
use Rattle.csdf_floor.proofs.book.Book.report.Goals as goal

pub loop-channel-preserved : goal.loop-channel-preserved
loop-channel-preserved c =
    c.in_ok-push.ensures.items
    ∙ ap (λ (rs : List ChannelReport). rs ++ c.report_of.result ∷ []) c.loop-channel.invariant
    ∙ ap (λ (r : ChannelReport). map (report_of (program c.args.self.now.shown.work) c.args.self.now.shown.journal) (range_with_len 0 c.loop-channel.channel)
    ++ r ∷ []) c.report_of.ensures
    ∙ sym (map-range_with_len_more (report_of (program c.args.self.now.shown.work) c.args.self.now.shown.journal) 0 c.loop-channel.channel
    c.loop-channel.channel (omega arith))
