use Rattle.std.proofs.Common.{◌≡◌, length}
use Rattle.csdf_kernel.specs.Light.{HoldsPlace, KeepsOthers, firing_token}
use Rattle.csdf_kernel.proofs.light.LightBlock.fill_late.Given as goal

abbrev pub invariant-loop-firing : goal.invariant-loop-firing
invariant-loop-firing l = record {
  long : length l.values ≡ length l.initial.values;
  told : HoldsPlace (firing_token l.self l.place) l.self.each l.values l.place l.first l.firing;
  others : KeepsOthers l.self.each l.initial.values l.values l.place l.first l.firing;
}
