use Rattle.std.proofs.Common.{◌≡◌, ◌++◌, drop, map, string_bytes}
use Rattle.std.specs.List.{enumerate_from}
use Rattle.csdf_model.specs.Graph.{channel_view}
use Rattle.csdf_answers.specs.Printed.{names_of, chain_lines}
use Rattle.csdf_answers.proofs.printed.push_chains.Given as goal

abbrev pub invariant-loop-number : goal.invariant-loop-number
invariant-loop-number l =
    string_bytes l.text ++ chain_lines l.core.pool (enumerate_from l.number (names_of (map channel_view (drop l.number l.channels))))
    ≡ string_bytes l.fn.text ++ chain_lines l.core.pool (enumerate_from 0 (names_of (map channel_view l.channels)))
