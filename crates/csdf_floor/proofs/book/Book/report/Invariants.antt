use Rattle.std.proofs.Common.{◌≡◌, map}
use Rattle.std.specs.List.{range_with_len}
use Rattle.csdf_floor.specs.Outcome.{report_of}
use Rattle.csdf_floor.specs.Work.{program}
use Rattle.csdf_floor.proofs.book.Book.report.Given as goal

abbrev pub invariant-loop-channel : goal.invariant-loop-channel
invariant-loop-channel l = l.report.items ≡ map (report_of (program l.fn.self.shown.work) l.fn.self.shown.journal) (range_with_len 0 l.channel)
