use Rattle.std.proofs.Common.{◌≡◌, ◌+◌, ◌<◌, ◌++◌, ◌^◌, ◌∙◌, ap, sym, arith, length, length-append, length-drop, false, nat_lt}
use Rattle.std.specs.Prelude.{is_err}
use Rattle.std.proofs.lemmas.Bool.Decides.{nat_tests}
use Rattle.csdf_bytes.specs.Samples.{first_samples, size_of}
use Rattle.csdf_bytes.proofs.SampleStreamLemmas.{first_samples-none, gives-pushed, idle-pushed, length-first_samples, on_ok}
use Rattle.csdf_bytes.proofs.sample_reader.SampleReader.read_fetched.Goals as goal

pub returns-then-is_err-clause-read : goal.returns-then-is_err-clause-read
returns-then-is_err-clause-read c =
    gives-pushed c.args.most c.push_samples-pushed.result.count c.push_samples-pushed.result.used
    (record { format = c.self.inside.format; bytes = c.self.inside.buffer.bytes; number = c.self.inside.number }) c.args.self.now
    c.held.result.now c.let_go.new.self.bytes c.saturating_add-self-inside.result c.args.tokens.now.items c.push_samples-pushed.new.tokens.items
    c.self.view_is c.push_samples-pushed.ensures.few c.push_samples-pushed.ensures.used c.push_samples-pushed.ensures.within c.held.ensures
    c.push_samples-pushed.ensures.values c.let_go.ensures c.saturating_add-self-inside.ensures

pub returns-clause-read : goal.returns-clause-read
returns-clause-read c =
    gives-pushed c.args.most c.push_samples-pushed.result.count c.push_samples-pushed.result.used
    (record { format = c.self.inside.format; bytes = c.self.inside.buffer.bytes; number = c.self.inside.number }) c.args.self.now
    c.held.result.now c.let_go.new.self.bytes c.saturating_add-self-inside.result c.args.tokens.now.items c.push_samples-pushed.new.tokens.items
    c.self.view_is c.push_samples-pushed.ensures.few c.push_samples-pushed.ensures.used c.push_samples-pushed.ensures.within c.held.ensures
    c.push_samples-pushed.ensures.values c.let_go.ensures c.saturating_add-self-inside.ensures

pub returns-clause-idle : goal.returns-clause-idle
returns-clause-idle c = λ told.
    let test : nat_lt 0 c.push_samples-pushed.result.count ≡ false = cc in
    let none : c.push_samples-pushed.result.count ≡ 0 = grind (arith, nat_tests) in
    let small : c.self.inside.number < 2 ^ 64 = omega arith in (
      idle-pushed c.push_samples-pushed.result.count c.push_samples-pushed.result.used
          (record { format = c.self.inside.format; bytes = c.self.inside.buffer.bytes; number = c.self.inside.number }) c.args.self.now
          c.let_go.new.self.bytes c.saturating_add-self-inside.result c.self.view_is none c.push_samples-pushed.ensures.used c.let_go.ensures
          c.saturating_add-self-inside.ensures small,
      c.push_samples-pushed.ensures.values
          ∙ ap (λ n. c.args.tokens.now.items ++ first_samples c.self.inside.format n c.held.result.now) none
          ∙ sym (first_samples-none c.self.inside.format c.held.result.now c.args.tokens.now.items),
      omega (arith, c.push_samples-pushed.ensures.len, none),
    )

pub returns-clause-whole : goal.returns-clause-whole
returns-clause-whole c = λ fewer.
    let count : length c.push_samples-pushed.new.tokens.items ≡ length c.args.tokens.now.items + c.push_samples-pushed.result.count =
    ap length c.push_samples-pushed.ensures.values ∙ length-append c.args.tokens.now.items _
    ∙ ap (λ n. length c.args.tokens.now.items + n) (length-first_samples c.self.inside.format c.push_samples-pushed.result.count c.held.result.now) in
    let clear : is_err c.push_samples-pushed.result.outcome ≡ false = cc in
    let all = on_ok c.push_samples-pushed.result.outcome _ clear c.push_samples-pushed.ensures.whole in
    let short : length c.held.result.now < c.push_samples-pushed.result.used + size_of c.self.inside.format = all (omega (arith, count, fewer)) in
    omega (
      arith,
      short,
      ap length c.let_go.ensures,
      ap length c.held.ensures,
      length-drop c.push_samples-pushed.result.used c.self.inside.buffer.bytes,
      c.push_samples-pushed.ensures.within,
    )
