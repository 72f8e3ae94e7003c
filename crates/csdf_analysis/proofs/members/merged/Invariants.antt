use Rattle.std.proofs.Common.{◌≡◌, ◌≤◌, map, take}
use Rattle.std.specs.Prelude.{All}
use Rattle.csdf_analysis.specs.declared.members.Member.{Member}
use Rattle.csdf_analysis.specs.Members.{moved}
use Rattle.csdf_analysis.proofs.members.merged.Given as goal

abbrev pub invariant-loop-member : goal.invariant-loop-member
invariant-loop-member l = record {
  so_far : l.next.items ≡ map (moved l.merge) (take l.member-index l.members);
  small : All (λ (a : Member). a.entry ≤ 1024) l.next.items;
}
