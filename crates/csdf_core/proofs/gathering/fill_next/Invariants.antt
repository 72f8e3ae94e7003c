use Rattle.std.proofs.Common.{◌≡◌, length, take, drop}
use Rattle.csdf_core.specs.Engine.{filled}
use Rattle.csdf_core.proofs.gathering.fill_next.Given as goal

-- the places so far hold the tokens that were first
abbrev pub invariant-loop-place : goal.invariant-loop-place
invariant-loop-place l = record {
  size : length l.into ≡ length l.fn.into;
  filled : take l.place l.into ≡ filled l.place l.fn.tokens;
  left : l.tokens ≡ drop l.place l.fn.tokens;
}
