use Rattle.std.proofs.lemmas.Grind.{common_steps}
use Rattle.std.proofs.Common.{◌∙◌, arith, ℕ, length-drop, length-take, take}
use Rattle.std.proofs.lemmas.List.{take_rest}
use Rattle.csdf_bytes.proofs.DeviceLemmas.{Appends-kept, Emits-more, unmarked}
use Rattle.csdf_bytes.proofs.outlet.write_bytes.Goals as goal

pub loop-done-preserved : goal.loop-done-preserved
loop-done-preserved g c = record {
  within = let fits = c.in-Ok.ensures.emitted.fits in omega (arith, length-drop {A = ℕ}, length-take {A = ℕ}, fits);
  so_far = Emits-more _ _ _ c.args.bytes.now _ c.loop-done.done c.in-Ok.count (take_rest c.args.bytes.now c.loop-done.done) c.loop-done.invariant.so_far
      c.in-Ok.ensures.emitted;
  unmarked = unmarked _ _ c.in-Ok.ensures.stays (λ set. let e = c.in-Ok.ensures.mark.1 set in cc) ∙ c.loop-done.invariant.unmarked;
}

pub returns-in-Err-clause-begun : goal.returns-in-Err-clause-begun
returns-in-Err-clause-begun g c = record {
  count = c.loop-done.done;
  fits = c.loop-done.invariant.within;
  put = Appends-kept _ _ _ (take c.loop-done.done c.args.bytes.now) c.loop-done.invariant.so_far c.in-Err.ensures.kept;
}

pub returns-clause-written : goal.returns-clause-written
returns-clause-written g c = grind (arith, common_steps)
