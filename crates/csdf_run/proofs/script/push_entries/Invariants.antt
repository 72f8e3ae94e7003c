use Rattle.std.proofs.Common.{◌≡◌, ◌++◌, drop, map, string_bytes}
use Rattle.csdf_core.specs.Moves.{move_of}
use Rattle.csdf_run.specs.Scripts.{move_entries}
use Rattle.csdf_run.proofs.script.push_entries.Given as goal

abbrev pub invariant-loop-next : goal.invariant-loop-next
invariant-loop-next l =
    string_bytes l.text ++ move_entries l.graph (map move_of (drop l.next-index l.moves))
    ≡ string_bytes l.fn.text ++ move_entries l.graph (map move_of l.moves)
