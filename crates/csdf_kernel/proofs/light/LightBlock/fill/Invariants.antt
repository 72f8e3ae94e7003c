use Rattle.std.proofs.Common.{ℕ, ◌≡◌, ◌<◌, ◌*◌, length}
use Rattle.csdf_kernel.specs.Light.{HoldsPlace, firing_token}
use Rattle.csdf_kernel.proofs.light.LightBlock.fill.Given as goal

abbrev pub invariant-loop-place : goal.invariant-loop-place
invariant-loop-place l = record {
  long : length l.values ≡ l.self.firings * l.self.each;
  told : (p : ℕ) → p < l.place → HoldsPlace (firing_token l.self p) l.self.each l.values p 0 l.self.firings;
}
