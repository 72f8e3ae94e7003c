use Rattle.std.proofs.Common.{◌≡◌, ◌+◌, ◌*◌, length}
use Rattle.csdf_kernel.specs.Light.{HoldsPlace, KeepsOthers}
use Rattle.csdf_kernel.specs.Value.{filter_token}
use Rattle.csdf_kernel.proofs.light.fill_front.Given as goal

abbrev pub invariant-loop-firing : goal.invariant-loop-firing
invariant-loop-firing g l = record {
  at : l.at ≡ l._firing * l.need + l.place;
  to : l.to ≡ l._firing * l.each + l.place;
  long : length l.values ≡ length l.initial.values;
  told : HoldsPlace (λ f. filter_token l.weights g.row.N l.shift l.inputs (f * l.need + l.place)) l.each l.values l.place 0 l._firing;
  others : KeepsOthers l.each l.initial.values l.values l.place 0 l._firing;
}
