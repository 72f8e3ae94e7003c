use Rattle.std.proofs.lemmas.Grind.{common_steps}
use Rattle.std.proofs.Common.{rules, subst, map, arith}
use Rattle.csdf_core.specs.Moves.{move_of}
use Rattle.csdf_core.specs.Playable.{IsPlayable}
use Rattle.csdf_core.specs.Shows.{View, replies_in}
use Rattle.csdf_core.proofs.EverCores.{periods_kept}
use Rattle.csdf_core.proofs.Headline.{order_kept, capacities_kept, closed_kept, peaks_hold}
use Rattle.csdf_core.proofs.playing.play.Goals as goal

pub returns-clause-peaks : goal.returns-clause-peaks
returns-clause-peaks c =
    let playable : IsPlayable c.play_on.new.core.plan = subst (λ (v : View). IsPlayable v.plan) c.core.view_is c.core.invariant.sound.playable in
    peaks_hold c.in_ok-core.core c.play_on.new.core (map move_of c.args.moves.now) (replies_in c.in_ok-replies.replies.items)
    c.in_ok-core.ensures.opening c.in_ok-replies.ensures.played playable c.in_ok-core.ensures.peaks

pub returns-clause-prefix : goal.returns-clause-prefix
returns-clause-prefix c =
    let playable : IsPlayable c.play_on.new.core.plan = subst (λ (v : View). IsPlayable v.plan) c.core.view_is c.core.invariant.sound.playable in
    order_kept c.in_ok-core.core c.play_on.new.core (map move_of c.args.moves.now) (replies_in c.in_ok-replies.replies.items)
    c.in_ok-core.ensures.opening c.in_ok-replies.ensures.played playable

pub returns-clause-capacity : goal.returns-clause-capacity
returns-clause-capacity c =
    let playable : IsPlayable c.play_on.new.core.plan = subst (λ (v : View). IsPlayable v.plan) c.core.view_is c.core.invariant.sound.playable in
    capacities_kept c.in_ok-core.core c.play_on.new.core (map move_of c.args.moves.now) (replies_in c.in_ok-replies.replies.items)
    c.in_ok-core.ensures.opening c.in_ok-replies.ensures.played playable

pub returns-clause-closed : goal.returns-clause-closed
returns-clause-closed c =
    let playable : IsPlayable c.play_on.new.core.plan = subst (λ (v : View). IsPlayable v.plan) c.core.view_is c.core.invariant.sound.playable in
    closed_kept c.in_ok-core.core c.play_on.new.core (map move_of c.args.moves.now) (replies_in c.in_ok-replies.replies.items)
    c.in_ok-core.ensures.opening c.in_ok-replies.ensures.played playable

pub returns-clause-periods : goal.returns-clause-periods
returns-clause-periods c =
    periods_kept c.args.accepted.now c.args.limits.items c.args.supply.items c.args.firings c.in_ok-core.core c.play_on.new.core
    (map move_of c.args.moves.now) (replies_in c.in_ok-replies.replies.items)
    c.in_ok-core.ensures.plan c.in_ok-core.ensures.opening c.in_ok-replies.ensures.played

pub returns-clause-replies : goal.returns-clause-replies
returns-clause-replies c = search rules

pub returns-clause-shows : goal.returns-clause-shows
returns-clause-shows c = search rules

pub returns-clause-partition : goal.returns-clause-partition
returns-clause-partition c = grind (arith, common_steps)
