use Rattle.std.proofs.Common.{◌≡◌, ◌+◌, ◌-◌, ◌∙◌, ap, subst, arith, take, drop}
use Rattle.std.specs.Io.KnownBytes.{Appends}
use Rattle.csdf_bytes.specs.Device.{EmitsSome}
use Rattle.csdf_bytes.specs.Samples.{clipped_count, sample_bytes, written_bytes}
use Rattle.csdf_bytes.proofs.DeviceLemmas.{Appends-part, EmitsSome-part}
use Rattle.csdf_bytes.proofs.SampleBytesLemmas.{clipped-part}
use Rattle.csdf_bytes.proofs.sample_writer.write_samples.Goals as goal

pub returns-in-Err-clause-begun : goal.returns-in-Err-clause-begun
returns-in-Err-clause-begun g c =
    let count : (c.loop-done.done + c.min-count.result) - c.loop-done.done ≡ c.min-count.result = omega arith in
    let samples = c.put_samples-put.ensures.samples
    ∙ ap (λ n. sample_bytes c.args.format (take n (drop c.loop-done.done c.args.tokens.now))) count in
    EmitsSome-part (written_bytes c.args.format) c.args.tokens.now c.loop-done.done c.min-count.result _ _ _ c.loop-done.invariant.so_far
    (subst (EmitsSome _ _) samples c.in-Err.ensures.begun)

pub loop-done-preserved : goal.loop-done-preserved
loop-done-preserved g c =
    let count : (c.loop-done.done + c.min-count.result) - c.loop-done.done ≡ c.min-count.result = omega arith in
    let samples = c.put_samples-put.ensures.samples
    ∙ ap (λ n. sample_bytes c.args.format (take n (drop c.loop-done.done c.args.tokens.now))) count in
    record {
      within = omega (arith, c.min-count.ensures, c.loop-done-test.true);
      so_far = Appends-part (written_bytes c.args.format) c.args.tokens.now c.loop-done.done c.min-count.result _ _ _ c.loop-done.invariant.so_far
          (subst (Appends _ _) samples c.in_default.ensures.written);
      clipped = ap (λ n. n + c.put_samples-put.result.clipped) c.loop-done.invariant.clipped
          ∙ ap (λ n. clipped_count c.args.format (take c.loop-done.done c.args.tokens.now) + n)
          (c.put_samples-put.ensures.clipped ∙ ap (λ n. clipped_count c.args.format (take n (drop c.loop-done.done c.args.tokens.now))) count)
          ∙ clipped-part c.args.format c.args.tokens.now c.loop-done.done c.min-count.result;
      unmarked = c.in_default.ensures.unmarked ∙ c.loop-done.invariant.unmarked;
    }
