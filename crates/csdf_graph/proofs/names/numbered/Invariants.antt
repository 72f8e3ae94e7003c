use Rattle.std.proofs.Common.{map, string_bytes}
use Rattle.csdf_graph.proofs.NameLemmas.{NamesStand}
use Rattle.csdf_graph.proofs.names.numbered.Given as goal

abbrev pub invariant-loop-place : goal.invariant-loop-place
invariant-loop-place l = NamesStand l.kind l.names l.checked (map string_bytes l.taken.numbers.keys) l.place
