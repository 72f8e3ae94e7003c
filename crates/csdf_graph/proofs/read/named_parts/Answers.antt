use Rattle.std.proofs.Common.{string_bytes}
use Rattle.csdf_graph.specs.declared.names.Kind.TheVariants as kind
use Rattle.csdf_graph.proofs.FitLemmas.{names_kept, names_are, range_fits, parts_fit, few_keys}
use Rattle.csdf_graph.proofs.read.named_parts.Goals as goal

pub parts_of-requires : goal.parts_of-requires
parts_of-requires c =
    few_keys string_bytes c.in_ok-actor_names.actor_names.numbers.keys _ _ (range_fits _ _ c.in_ok-ranged.ensures)
    (names_kept kind.Actor _ _ c.in_ok-actor_names.ensures)

pub returns-clause-kept : goal.returns-clause-kept
returns-clause-kept c =
    parts_fit _ _ _ _ _ (range_fits _ _ c.in_ok-ranged.ensures)
    (names_are kind.Actor _ _ c.in_ok-actor_names.ensures)
    (names_are kind.Channel _ _ (rw (← c.in_ok-channel_names.ensures) at c.numbered_channels-channel_names.ensures))
    (names_kept kind.Actor _ _ c.in_ok-actor_names.ensures)
    (names_kept kind.Channel _ _ (rw (← c.in_ok-channel_names.ensures) at c.numbered_channels-channel_names.ensures))
    c.in_ok-parts.ensures
