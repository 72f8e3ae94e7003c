use Rattle.std.proofs.Common.{◌≡◌, ◌*◌, take}
use Rattle.csdf_bytes.specs.Samples.{clipped_count, sample_bytes, size_of}
use Rattle.csdf_bytes.proofs.sample_writer.put_samples.Given as goal

abbrev pub invariant-loop-token : goal.invariant-loop-token
invariant-loop-token l = record {
  used : l.used ≡ size_of l.format * l.token-index;
  so_far : take l.used l.bytes ≡ sample_bytes l.format (take l.token-index l.tokens);
  clipped : l.clipped ≡ clipped_count l.format (take l.token-index l.tokens);
}
