use Rattle.std.proofs.Common.{arith, ap, length, length-append}
use Rattle.csdf_stream.proofs.ReadLemmas.{filled_more}
use Rattle.csdf_stream.proofs.reader.Reader.fill.Goals as goal

pub loop-preserved : goal.loop-preserved
loop-preserved g c =
    let came = c.read.ensures.given in
    let all = filled_more c.args.self.now c.loop.self c.read.new.self _ _ _ c.args.tokens.now.items c.loop.tokens.items c.read.new.tokens.items
    c.loop.invariant.given came.0 c.loop.invariant.appended c.loop.invariant.read came.2 came.3 in
    record {
      given = all.0;
      appended = all.1;
      read = all.2;
      few = omega (arith, ap length came.2, length-append c.loop.tokens.items came.0, came.1, c.saturating_sub-missing.ensures, c.len.ensures, c.loop.invariant.few);
    }

pub returns-in-Ok-Ended-clause-given : goal.returns-in-Ok-Ended-clause-given
returns-in-Ok-Ended-clause-given g c =
    let came = c.read.ensures.given in
    filled_more c.args.self.now c.loop.self c.read.new.self _ _ _ c.args.tokens.now.items c.loop.tokens.items c.read.new.tokens.items
    c.loop.invariant.given came.0 c.loop.invariant.appended c.loop.invariant.read came.2 came.3

pub returns-in-Err-clause-given : goal.returns-in-Err-clause-given
returns-in-Err-clause-given g c =
    let came = c.read.ensures.given in
    filled_more c.args.self.now c.loop.self c.read.new.self _ _ _ c.args.tokens.now.items c.loop.tokens.items c.read.new.tokens.items
    c.loop.invariant.given came.0 c.loop.invariant.appended c.loop.invariant.read came.2 came.3
