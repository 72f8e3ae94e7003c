use Rattle.std.specs.Prelude.{string_bytes}
use Rattle.csdf_tool.proofs.ExplainingLemmas.{AreLookedAt}
use Rattle.csdf_tool.proofs.explain_files.source_notes.Given as goal

-- the sources so far were looked at, and have their lines
abbrev pub invariant-loop-actor : goal.invariant-loop-actor
invariant-loop-actor g l = AreLookedAt l.folder l.actors (g.D.Disk.acts l.fn.disk) (g.D.Disk.acts l.disk) l.actor-index (string_bytes l.text)
