use Rattle.std.proofs.Common.{◌+◌, ◌-◌, ◌∷◌, [], ◌++◌, ◌≡◌, ◌∙◌, ap, sym, arith, append_assoc, take, drop}
use Rattle.std.proofs.lemmas.Grind.{common_steps}
use Rattle.std.specs.Prelude.{vec_len}
use Rattle.csdf_bytes.proofs.whole_samples.push_samples.Goals as goal
use Rattle.csdf_bytes.specs.Samples.{first_samples, value_of}
use Rattle.csdf_bytes.proofs.SampleStreamLemmas.{first_samples-more, first_samples-none}

pub loop-count-init : goal.loop-count-init
loop-count-init c = record {
  few = omega arith;
  used = omega arith;
  within = omega arith;
  so_far = first_samples-none c.args.format c.args.bytes.now c.args.tokens.now.items;
  grown = omega arith;
  room = omega arith;
}

pub loop-count-preserved : goal.loop-count-preserved
loop-count-preserved c =
    let items : c.push.new.self.items ≡ c.loop-count.tokens.items ++ (c.value_of-value.result ∷ []) = grind (arith, common_steps) in
    let grown : vec_len c.push.new.self ≡ vec_len c.loop-count.tokens + 1 = grind (arith, common_steps) in
    record {
      few = omega (arith, c.loop-count-test.true);
      used = omega (arith, c.size-size.ensures);
      within = omega (arith, c.if-bytes-used.true);
      so_far = items
          ∙ ap (λ xs. xs ++ (c.value_of-value.result ∷ [])) c.loop-count.invariant.so_far
          ∙ append_assoc c.args.tokens.now.items _ _
          ∙ ap (λ v. c.args.tokens.now.items ++ (first_samples c.args.format c.loop-count.count c.args.bytes.now ++ (v ∷ []))) c.value_of-value.ensures
          ∙ ap (λ m. c.args.tokens.now.items ++ (first_samples c.args.format c.loop-count.count c.args.bytes.now
          ++ (value_of c.args.format (take ((c.loop-count.used + m) - c.loop-count.used) (drop c.loop-count.used c.args.bytes.now)) ∷ []))) c.size-size.ensures
          ∙ ap (λ xs. c.args.tokens.now.items ++ xs)
          (sym (first_samples-more c.args.format c.loop-count.count c.loop-count.used c.args.bytes.now c.loop-count.invariant.used));
      grown = omega arith;
      room = omega (arith, c.push.ensures.capacity, c.loop-count.invariant.room);
    }
