use Rattle.std.proofs.Common.{◌≡◌, ◌+◌, ◌≤◌, subst, length, arith}
use Rattle.csdf_analysis.specs.Alone.{AreOwnFrom}
use Rattle.csdf_analysis.specs.Period.{CompletesPeriod}
use Rattle.csdf_analysis.proofs.AloneLemmas.{lowered_own}
use Rattle.csdf_analysis.proofs.calls.lowering.lowered.Goals as goal

pub loop-place-preserved-then-branch : goal.loop-place-preserved-then-branch
loop-place-preserved-then-branch c =
    let channels = c.args.net.now.channels in
    let q = c.args.net.now.firings in
    let i = c.loop-place.invariant in
    let place = c.loop-place.place in
    let end = c.next_end-end.result in
    let next = c.in_ok-next.next.items in
    let most : end ≤ length channels = omega (arith, c.next_end-end.ensures.within, i.limit, c.channels-count.ensures.count) in
    let from : AreOwnFrom c.args.own.now c.loop-place.bounds.items next place end =
    subst (λ b. AreOwnFrom c.args.own.now b next place end) c.deref.ensures.value c.in_ok-next.ensures in
    let done : CompletesPeriod channels q next =
    subst (CompletesPeriod channels q) c.deref-then-place-limit.ensures.value (c.in_ok-makes_all.ensures.0 c.if-branch.true) in
    record {
      low = lowered_own channels q c.args.own.now c.loop-place.bounds.items next place end (omega (arith, c.next_end-end.ensures.some)) most c.requires.own
          c.requires.small from i.low done;
      within = omega (arith, c.next_end-end.ensures.within, i.limit);
      limit = i.limit;
    }
