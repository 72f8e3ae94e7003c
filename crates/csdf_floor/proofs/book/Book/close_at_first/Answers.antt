use Rattle.std.proofs.Common.{◌≡◌, ◌<◌, ◌≤◌, ℕ, length, get_or, ap, subst, arith}
use Rattle.std.specs.List.{range_with_len}
use Rattle.std.proofs.lemmas.List.{take_all}
use Rattle.std.proofs.lemmas.List.FromFn.{length-range_with_len, get_or-range_with_len}
use Rattle.csdf_floor.specs.Inside.{AreClosed, BookView}
use Rattle.csdf_floor.proofs.Closes.{closed_at_place, room_more, rising_range}
use Rattle.csdf_floor.proofs.book.Book.close_at_first.Goals as goal

pub loop-channel-preserved : goal.loop-channel-preserved
loop-channel-preserved c =
    let n : ℕ = length c.args.self.now.shown.core.plan.channels in
    let len = length-range_with_len 0 n in
    let below : c.loop-channel.channel < n = omega (
      arith,
      c.loop-channel-test.true,
      c.channels-channel-end.ensures.value,
      ap (λ (b : BookView). length b.shown.core.plan.channels) c.self.view_is,
    ) in
    let is : c.loop-channel.channel ≡ get_or (range_with_len 0 n) c.loop-channel.channel 0 =
    (let e = get_or-range_with_len 0 n c.loop-channel.channel 0 below in omega (arith, e)) in
    record {
      closed = closed_at_place c.args.self.now.shown c.loop-channel.self c.close_if_due.new.self (range_with_len 0 n) c.loop-channel.channel
          c.loop-channel.channel is (rising_range 0 n) (omega arith) c.loop-channel.invariant.closed c.close_if_due.ensures.due c.close_if_due.ensures.other;
      room = room_more c.loop-channel.self c.close_if_due.new.self c.loop-channel.channel n c.loop-channel.channel c.loop-channel.invariant.room
          c.close_if_due.ensures.due c.close_if_due.ensures.other;
    }

pub returns : goal.returns
returns c =
    let n : ℕ = length c.args.self.now.shown.core.plan.channels in
    let len = length-range_with_len 0 n in
    let past : n ≤ c.loop-channel.channel = omega (
      arith,
      c.loop-channel-test.false,
      c.channels-channel-end.ensures.value,
      ap (λ (b : BookView). length b.shown.core.plan.channels) c.self.view_is,
    ) in
    subst (AreClosed c.args.self.now.shown c.loop-channel.self.shown) (take_all c.loop-channel.channel (range_with_len 0 n) (omega (arith, len, past)))
    c.loop-channel.invariant.closed
