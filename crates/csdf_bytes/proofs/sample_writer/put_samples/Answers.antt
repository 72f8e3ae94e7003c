use Rattle.std.proofs.Common.{◌+◌, ◌≤◌, ◌∙◌, ap, sym, arith, length, get_or, rules}
use Rattle.std.specs.Prelude.{pos}
use mir.Syntax.{w32}
use mir.Val.{SFits}
use Rattle.csdf_bytes.specs.Samples.{bytes_of, clamped, fits}
use Rattle.csdf_bytes.proofs.SampleBytesLemmas.{clipped-more, clipped-same, put-more, read-token, room-for}
use Rattle.csdf_bytes.proofs.sample_writer.put_samples.Goals as goal
use Rattle.csdf_bytes.proofs.sample_writer.put_samples.Goals.{then-not-fits, else-not-fits}

pub loop-token-preserved : goal.loop-token-preserved
loop-token-preserved c =
    let fit : SFits w32 (get_or c.args.tokens.now c.loop-token.token-index (pos 0)) = search rules in
    let same = read-token (get_or c.args.tokens.now c.loop-token.token-index (pos 0)) fit in
    let clamp_fits : SFits w32 c.clamp.result = search rules in
    let room : c.loop-token.used + c.size-size.result ≤ length c.loop-token.bytes =
    omega (
      arith,
      c.size-size.ensures,
      c.loop-token.auto.bytes,
      room-for c.args.format c.loop-token.used c.loop-token.token-index (length c.args.tokens.now)
          (length c.args.bytes.now) c.loop-token.invariant.used c.loop-token-test.true c.requires,
    ) in
    record {
      used = omega (arith, c.size-size.ensures, c.loop-token.invariant.used);
      so_far = put-more c.args.format c.args.tokens.now c.loop-token.token-index c.loop-token.used c.size-size.result _ c.loop-token.bytes c.put.new.sample
          c.loop-token-test.true c.size-size.ensures room c.loop-token.invariant.so_far
          (c.put.ensures ∙ ap (bytes_of c.args.format) (read-token c.clamp.result clamp_fits ∙ c.clamp.ensures.nearest ∙ ap (clamped c.args.format) same));
      clipped = elim c.if-not-fits.branch [
        | then-not-fits w ↦ w.clipped-is ∙ clipped-more c.args.format c.args.tokens.now c.loop-token.token-index c.loop-token.clipped c.loop-token-test.true
            c.loop-token.invariant.clipped (ap (fits c.args.format) (sym same) ∙ sym c.fits.ensures ∙ w.if-not-fits.true)
        | else-not-fits w ↦ w.clipped-is ∙ clipped-same c.args.format c.args.tokens.now c.loop-token.token-index c.loop-token.clipped c.loop-token-test.true
            c.loop-token.invariant.clipped (ap (fits c.args.format) (sym same) ∙ sym c.fits.ensures ∙ w.if-not-fits.false)
      ];
    }
