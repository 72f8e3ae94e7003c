use Rattle.std.proofs.Common.{◌≡◌, ◌+◌, ◌-◌, ◌++◌, ◌∷◌, [], ◌∙◌, ap, subst, arith, rules, drop, length, length-append}
use Rattle.std.specs.Prelude.{min}
use Rattle.std.proofs.lemmas.Int.{to_z-of_z}
use Rattle.std.proofs.lemmas.List.{take_rest}
use mir.Syntax.{w32}
use mir.Val.{SFits}
use Rattle.csdf_bytes.specs.QuickLine.{QuickLine}
use Rattle.csdf_bytes.specs.TokenStream.{ReadsOn}
use Rattle.csdf_bytes.proofs.TokenStreamLemmas.{has-line, next-told, reads-quick}
use Rattle.csdf_bytes.proofs.quick_line.read_batch.Goals as goal

pub loop-left-preserved : goal.loop-left-preserved
loop-left-preserved c =
    let fits : SFits w32 c.in-Some.token = search rules in
    let goes = c.loop-left-test.true in
    let quick : QuickLine (drop c.loop-left.used c.args.text.now) c.in-Some.token c.in-Some.end =
    subst (λ text. QuickLine text c.in-Some.token c.in-Some.end) (take_rest c.args.text.now c.loop-left.used) c.in-Some.ensures in
    let grown : c.push_reserved.new.self.items ≡ c.loop-left.tokens.items ++ c.in-Some.token ∷ [] =
    c.push_reserved.ensures.items ∙ ap (λ t. c.loop-left.tokens.items ++ t ∷ []) (to_z-of_z w32 c.in-Some.token fits) in
    let room = c.loop-left.invariant.room in
    let short = quick.short in
    let least = c.loop-left.invariant.least in
    let number : (c.args.first + (c.args.most - c.loop-left.left)) + 1 ≡ c.args.first + (c.args.most - (c.loop-left.left - 1)) =
    omega (arith, least, goes) in
    let line = next-told (c.args.first + (c.args.most - c.loop-left.left)) 18446744073709551615 ∙ ap (λ n. min n 18446744073709551615) number in
    record {
      room = omega (arith, room, short, goes);
      least = omega (arith, least);
      reserved = let reserved = c.loop-left.invariant.reserved in
          omega (arith, reserved, goes, c.push_reserved.ensures.len, c.push_reserved.ensures.capacity);
      read = subst (λ n. ReadsOn c.args.first c.args.text.now n (drop (c.loop-left.used + (c.in-Some.end + 1)) c.args.text.now) c.args.tokens.now.items
          c.push_reserved.new.self.items) line (reads-quick c.args.first (min (c.args.first + (c.args.most - c.loop-left.left)) 18446744073709551615) c.args.text.now
          c.loop-left.used c.in-Some.end c.in-Some.token c.args.tokens.now.items c.loop-left.tokens.items c.push_reserved.new.self.items
          c.loop-left.invariant.read quick grown);
      count = let so_far = c.loop-left.invariant.count in
          omega (arith, so_far, goes, ap length grown, length-append c.loop-left.tokens.items (c.in-Some.token ∷ []));
      found = λ _. has-line c.args.text.now c.loop-left.used c.in-Some.end quick.ends;
      idle = λ none. absurd (omega arith);
    }
