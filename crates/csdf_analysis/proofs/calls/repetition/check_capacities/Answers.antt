use Rattle.std.proofs.Common.{◌<◌, ◌≤◌, length, subst}
use Rattle.csdf_analysis.specs.Repetition.{IsWithin}
use Rattle.csdf_analysis.proofs.LeastLemmas.{channel_has}
use Rattle.csdf_analysis.proofs.BoundLemmas.{room_of, room_next, first_over}
use Rattle.csdf_analysis.proofs.calls.repetition.check_capacities.Goals as goal

pub full_capacity-requires : goal.full_capacity-requires
full_capacity-requires c =
    channel_has (IsWithin (length c.args.q.now)) c.args.channels.now c.loop-place.place c.index-channels-place.result c.loop-place-test.true
    c.index-channels-place.is c.requires.channels

pub returns-then-full_capacity-gt-GREATEST_CAPACITY-clause-over : goal.returns-then-full_capacity-gt-GREATEST_CAPACITY-clause-over
returns-then-full_capacity-gt-GREATEST_CAPACITY-clause-over c =
    first_over c.args.q.now c.args.channels.now c.loop-place.place c.index-channels-place.result c.loop-place-test.true c.index-channels-place.is
    c.loop-place.invariant
    (subst (λ n. 65535 < n) c.full_capacity.ensures c.if-full_capacity-gt-GREATEST_CAPACITY.true)

pub loop-place-preserved : goal.loop-place-preserved
loop-place-preserved c =
    room_next c.args.q.now c.args.channels.now c.loop-place.place c.index-channels-place.result c.loop-place-test.true c.index-channels-place.is
    c.loop-place.invariant
    (subst (λ n. n ≤ 65535) c.full_capacity.ensures c.if-full_capacity-gt-GREATEST_CAPACITY.false)

pub returns-clause-room : goal.returns-clause-room
returns-clause-room c = room_of c.args.q.now c.args.channels.now c.loop-place.place c.loop-place-test.false c.loop-place.invariant
