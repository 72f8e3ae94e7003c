use Rattle.std.proofs.Common.{◌≡◌, ◌+◌, ◌-◌, ◌∙◌, ap, subst, arith, length, take, drop}
use Rattle.std.specs.Io.KnownBytes.{Appends}
use Rattle.std.proofs.lemmas.List.{take_rest}
use Rattle.csdf_bytes.specs.Device.{EmitsSome}
use Rattle.csdf_bytes.specs.TokenText.{token_line, token_text}
use Rattle.csdf_bytes.proofs.DeviceLemmas.{Appends-part, EmitsSome-part}
use Rattle.csdf_bytes.proofs.tokens.write_tokens.Goals as goal

pub returns-in-Err-clause-begun : goal.returns-in-Err-clause-begun
returns-in-Err-clause-begun g c =
    let count : (c.loop-done.done + c.min-count.result) - c.loop-done.done ≡ c.min-count.result = omega arith in
    let size : 6144 ≡ length c.put_lines-start.new.bytes = omega (arith, c.put_lines-start.ensures.length) in
    let lines = ap (λ n. take (n - c.put_lines-start.result) (drop c.put_lines-start.result c.put_lines-start.new.bytes)) size
    ∙ take_rest c.put_lines-start.new.bytes c.put_lines-start.result ∙ c.put_lines-start.ensures.lines
    ∙ ap (λ n. token_text (take n (drop c.loop-done.done c.args.tokens.now))) count in
    EmitsSome-part token_line c.args.tokens.now c.loop-done.done c.min-count.result _ _ _ c.loop-done.invariant.so_far
    (subst (EmitsSome _ _) lines c.in-Err.ensures.begun)

pub loop-done-preserved : goal.loop-done-preserved
loop-done-preserved g c =
    let count : (c.loop-done.done + c.min-count.result) - c.loop-done.done ≡ c.min-count.result = omega arith in
    let size : 6144 ≡ length c.put_lines-start.new.bytes = omega (arith, c.put_lines-start.ensures.length) in
    let lines = ap (λ n. take (n - c.put_lines-start.result) (drop c.put_lines-start.result c.put_lines-start.new.bytes)) size
    ∙ take_rest c.put_lines-start.new.bytes c.put_lines-start.result ∙ c.put_lines-start.ensures.lines
    ∙ ap (λ n. token_text (take n (drop c.loop-done.done c.args.tokens.now))) count in
    record {
      within = omega (arith, c.min-count.ensures, c.loop-done-test.true);
      so_far = Appends-part token_line c.args.tokens.now c.loop-done.done c.min-count.result _ _ _ c.loop-done.invariant.so_far
          (subst (Appends _ _) lines c.in_default.ensures.written);
      unmarked = c.in_default.ensures.unmarked ∙ c.loop-done.invariant.unmarked;
    }
