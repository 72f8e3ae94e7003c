use Rattle.std.proofs.Common.{◌≡◌, suc, ◌+◌, ◌≤◌, inl, inr, length, get_or, refl, ap, subst, ◌∙◌, arith}
use Rattle.csdf_model.specs.Graph.{channel_view}
use Rattle.csdf_model.specs.Rates.{consumed, produced, production}
use Rattle.csdf_analysis.proofs.AloneLemmas.{IsServed, served_more, own_of, step_needed, step_small, step_holds}
use Rattle.csdf_analysis.proofs.CountLemmas.{same_or_not, less_or_not}
use Rattle.csdf_analysis.proofs.calls.alone.own_capacity.Goals as goal
use Rattle.csdf_analysis.proofs.calls.alone.own_capacity.Goals.{then-channel, else-channel}

pub loop-put-init : goal.loop-put-init
loop-put-init c = record {
  holds = omega (arith, c.len-held.ensures);
  within = omega arith;
  self = λ same. omega arith;
  served = λ j lt. absurd (omega arith);
  fits = omega (arith, c.len-held.ensures);
  small = omega (arith, c.len-held.ensures, c.requires.room);
  needed = λ w done. (let fits = done.initial 0 (channel_view c.args.channel.now) refl in omega (arith, c.len-held.ensures, fits));
}

pub overflow_add-held : goal.overflow_add-held
overflow_add-held c =
    let d = channel_view c.args.channel.now in
    let small = step_small c.args.q.now d c.loop-put.put c.take_all-rest.result.1 c.take_all-rest.result.0 c.requires.room c.loop-put-test.true
    (c.take_all-rest.ensures.kept ∙ c.loop-put.invariant.holds) in
    omega (arith, small, c.production.ensures)

pub loop-put-preserved : goal.loop-put-preserved
loop-put-preserved c =
    let d = channel_view c.args.channel.now in
    let q = c.args.q.now in
    let put = c.loop-put.put in
    let rest = c.take_all-rest.result.0 in
    let taken = c.take_all-rest.result.1 in
    let holds : rest + consumed d taken ≡ length d.initial + produced d put = c.take_all-rest.ensures.kept ∙ c.loop-put.invariant.holds in
    let small = step_small q d put taken rest c.requires.room c.loop-put-test.true holds in
    let now : c.production.result ≡ production d put = c.production.ensures in
    let next = step_holds d put taken rest holds in
    let self : d.from ≡ d.to → c.if-channel.last ≡ suc put = elim c.if-channel.branch [
      | then-channel w ↦ λ same. omega (arith, w.last-is)
      | else-channel w ↦ λ same. absurd (w.if-channel.false same)
    ] in
    let other : (d.from ≡ d.to → ⊥) → c.if-channel.last ≡ get_or q d.to 0 = elim c.if-channel.branch [
      | then-channel w ↦ λ apart. absurd (apart w.if-channel.true)
      | else-channel w ↦ λ apart. w.last-is
    ] in
    let most : c.take_all-rest.result.1 ≤ c.if-channel.last = c.take_all-rest.ensures.within (elim (same_or_not d.from d.to) [
      | inl same ↦ (let before = c.loop-put.invariant.self same in let end = self same in omega arith)
      | inr apart ↦ (let before = c.loop-put.invariant.within in let end = other apart in omega arith)
    ]) in
    let ended : taken ≤ get_or q d.to 0 = elim (same_or_not d.from d.to) [
      | inl same ↦
          (let end = self same in let lt = c.loop-put-test.true in let there : get_or q d.from 0 ≡ get_or q d.to 0 = ap (λ k. get_or q k 0) same in
          omega (arith, most, end, lt, there))
      | inr apart ↦ (let end = other apart in omega (arith, most, end))
    ] in
    record {
      holds = omega (arith, next, now);
      within = ended;
      self = λ same. (let end = self same in omega (arith, most, end));
      served = λ j lt. elim (less_or_not j put) [
        | inl less ↦ served_more q d c.loop-put.most c.max-most.result j (omega (arith, c.max-most.ensures)) (c.loop-put.invariant.served j less)
        | inr le ↦
            let this : put ≡ j = omega (arith, lt, le) in
            subst (IsServed q d c.max-most.result) this (record {
              taken = taken;
              within = ended;
              self = λ same. (let end = self same in omega (arith, most, end));
              had = omega (arith, holds);
              room = (let one : produced d (suc put) ≡ produced d put + production d put = refl in omega (arith, c.max-most.ensures, holds, now, one));
            })
      ];
      fits = omega (arith, c.max-most.ensures, c.loop-put.invariant.fits);
      small = omega (arith, c.max-most.ensures, c.loop-put.invariant.small, small, now);
      needed = λ w done.
          (let before = c.loop-put.invariant.needed w done in
          let here = step_needed q d w put taken c.if-channel.last rest done c.loop-put-test.true holds c.take_all-rest.ensures.stops self other in
          omega (arith, c.max-most.ensures, before, here, now));
    }

pub returns : goal.returns
returns c =
    let i = c.loop-put.invariant in
    record {
      fits = i.fits;
      small = i.small;
      own = λ w done. own_of c.args.q.now (channel_view c.args.channel.now) c.loop-put.most w i.fits
          (λ j lt. i.served j (omega (arith, lt, c.loop-put-test.false, c.loop-put.auto.put-end))) i.needed done;
    }
