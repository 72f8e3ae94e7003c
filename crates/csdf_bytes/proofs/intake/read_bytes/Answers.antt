use Rattle.std.proofs.Common.{rules, ℕ, arith, length-take}
use Rattle.csdf_bytes.proofs.DeviceLemmas.{TakesAtMost-kept, TakesAtMost-more}
use Rattle.csdf_bytes.proofs.intake.read_bytes.Goals as goal

pub returns-then-count-len-clause-few : goal.returns-then-count-len-clause-few
returns-then-count-len-clause-few g c =
    TakesAtMost-more _ _ _ c.loop-count.bytes.items c.fetch.new.buffer c.in-Ok.count 16777217 c.loop-count.invariant.so_far c.in-Ok.ensures.fetched
    (omega (arith, length-take {A = ℕ}))

pub returns-then-is_err-clause-few : goal.returns-then-is_err-clause-few
returns-then-is_err-clause-few g c =
    TakesAtMost-more _ _ _ c.loop-count.bytes.items c.fetch.new.buffer c.in-Ok.count 16777217 c.loop-count.invariant.so_far c.in-Ok.ensures.fetched
    (omega (arith, length-take {A = ℕ}))

pub returns-in-Err-clause-all : goal.returns-in-Err-clause-all
returns-in-Err-clause-all c = search rules

pub returns-in-Err-clause-ended : goal.returns-in-Err-clause-ended
returns-in-Err-clause-ended c = search rules

pub returns-in-Err-clause-read : goal.returns-in-Err-clause-read
returns-in-Err-clause-read c = search rules

pub returns-in-Err-clause-few : goal.returns-in-Err-clause-few
returns-in-Err-clause-few g c =
    TakesAtMost-kept _ _ _ c.loop-count.bytes.items 16777217 c.loop-count.invariant.so_far c.in-Err.ensures.kept
    (let short = c.loop-count.invariant.short in omega (arith, short))
