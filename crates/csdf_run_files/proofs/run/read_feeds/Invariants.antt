use Rattle.std.proofs.Common.{map}
use Rattle.csdf_model.specs.Graph.{actor_view}
use Rattle.csdf_run.specs.Tokens.{read_in}
use Rattle.csdf_run_files.proofs.TokenLemmas.{IsFedTo}
use Rattle.csdf_run_files.proofs.run.read_feeds.Given as goal

-- the token files of the sources so far were read
abbrev pub invariant-loop-number : goal.invariant-loop-number
invariant-loop-number g l = IsFedTo (g.D.Disk.acts l.fn.disk) (g.D.Disk.acts l.disk) l.folder (map actor_view l.actors) l.number (read_in l.feeds)
