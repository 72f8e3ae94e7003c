use Rattle.std.proofs.Common.{◌<◌, get_or, arith}
use Rattle.csdf_model.specs.Graph.{channel_view}
use Rattle.csdf_analysis.proofs.MostLemmas.{ends_kept, ends_lower, lessened_as, room_small, there_small}
use Rattle.csdf_analysis.proofs.most.lower_ends.Goals as goal

pub overflow_add-there : goal.overflow_add-there
overflow_add-there c =
    let few : get_or c.args.most.now c.args.channel.now.from 0 < 4294967296 = omega (arith, c.type_inv.most c.args.channel.now.from) in
    let fits = there_small _ c.args.capacity (channel_view c.args.channel.now) _ c.requires few in
    omega (arith, fits, c.len-initial.ensures, c.produced.ensures, c.args.channel.now.initial.ok.0)

pub overflow_add-room : goal.overflow_add-room
overflow_add-room c =
    let few : get_or c.lower-takes_less.new.most c.args.channel.now.to 0 < 4294967296 = omega (arith, c.type_inv.most c.args.channel.now.to) in
    let fits = room_small _ c.args.capacity (channel_view c.args.channel.now) _ c.requires few in
    omega (arith, fits, c.len-initial.ensures, c.consumed.ensures, c.from.ensures, c.args.channel.now.initial.ok.0)

pub returns-clause-kept : goal.returns-clause-kept
returns-clause-kept c =
    ends_kept c.args.capacity (channel_view c.args.channel.now) c.args.most.now c.lower-takes_less.new.most c.lower-gives_less.new.most c.requires
    (lessened_as c.args.capacity (channel_view c.args.channel.now) c.args.most.now c.lower-takes_less.new.most c.lower-gives_less.new.most _ _ _ _
    c.deref.ensures.value c.deref-2.ensures.value
    (omega (arith, c.len-initial.ensures, c.produced.ensures, c.args.channel.now.initial.ok.0))
    (omega (arith, c.len-initial.ensures, c.consumed.ensures, c.from.ensures, c.args.channel.now.initial.ok.0))
    c.lower-takes_less.ensures.lowered c.lower-gives_less.ensures.lowered)

pub returns-clause-lower : goal.returns-clause-lower
returns-clause-lower c =
    ends_lower c.args.capacity (channel_view c.args.channel.now) c.args.most.now c.lower-takes_less.new.most c.lower-gives_less.new.most c.requires
    (lessened_as c.args.capacity (channel_view c.args.channel.now) c.args.most.now c.lower-takes_less.new.most c.lower-gives_less.new.most _ _ _ _
    c.deref.ensures.value c.deref-2.ensures.value
    (omega (arith, c.len-initial.ensures, c.produced.ensures, c.args.channel.now.initial.ok.0))
    (omega (arith, c.len-initial.ensures, c.consumed.ensures, c.from.ensures, c.args.channel.now.initial.ok.0))
    c.lower-takes_less.ensures.lowered c.lower-gives_less.ensures.lowered)
    c.lower-takes_less.result c.lower-gives_less.result c.lower-takes_less.ensures.tells c.lower-gives_less.ensures.tells
