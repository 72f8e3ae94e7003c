use Rattle.std.proofs.lemmas.Grind.{common_steps}
use Rattle.std.proofs.Common.{◌∙◌, sym, subst, refl, arith}
use Rattle.csdf_floor.specs.Floor.{FloorView, IsBetween, IsUnderWay, Task, task_of}
use Rattle.csdf_floor.proofs.Floors.{between_delivered, gift_just, has_delivered}
use Rattle.csdf_floor.proofs.floor.Floor.deliver_value.Goals as goal
use Rattle.csdf_floor.proofs.floor.Floor.deliver_value.Goals.{In_ok-make_room_to_give}

module _ (c : In_ok-make_room_to_give) where
  abbrev task : Task
  task = task_of c.args.job.now

  under : IsUnderWay c.make_room_to_give.new.self.shown task
  under = subst (λ (f : FloorView). IsUnderWay f task) (sym c.in_ok-make_room_to_give.ensures.shown) (c.if-not-is_under_way.ensures.0 refl)

pub give-requires-clause-just : goal.give-requires-clause-just
give-requires-clause-just c =
    gift_just c.make_room_to_give.new.self.shown (task_of c.args.job.now) c.args.tokens.now
    (under (goal.at.give-requires-clause-just c).In_ok-make_room_to_give) c.requires

pub invariant_of-self-2 : goal.invariant_of-self-2
invariant_of-self-2 c =
    let at : goal.In_ok-make_room_to_give = (goal.at.invariant_of-self-2 c).In_ok-make_room_to_give in
    between_delivered c.make_room_to_give.new.self c.give.new.self c.close_outputs.new.self c.args.job.now.actor c.args.tokens.now
    (subst (λ (f : FloorView). IsBetween f.core.plan f.core.now) (sym c.in_ok-make_room_to_give.ensures.shown) c.self.invariant) (under at).has_read
    c.give.ensures c.close_outputs.ensures.closed

pub returns-clause-gone : goal.returns-clause-gone
returns-clause-gone c =
    has_delivered c.args.self.now c.make_room_to_give.new.self c.give.new.self c.close_outputs.new.self (task_of c.args.job.now) c.args.tokens.now
    (c.in_ok-make_room_to_give.ensures.shown ∙ c.self.view_is) c.requires c.give.ensures c.close_outputs.ensures.closed c.close_outputs.ensures.before

pub invariant_of-self : goal.invariant_of-self
invariant_of-self c = grind (arith, common_steps)

pub close_outputs-requires-clause-exists : goal.close_outputs-requires-clause-exists
close_outputs-requires-clause-exists c = grind (arith, common_steps)

pub give-requires-clause-exists : goal.give-requires-clause-exists
give-requires-clause-exists c = grind (arith, common_steps)

pub close_outputs-requires-clause-room : goal.close_outputs-requires-clause-room
close_outputs-requires-clause-room c = grind (arith, common_steps)
