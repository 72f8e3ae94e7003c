use Rattle.std.proofs.Common.{◌==◌, not, ap, ◌∙◌, rules, tests}
use Rattle.std.specs.Prelude.{is_none}
use Rattle.std.proofs.lemmas.Iterator.{YieldsList-from_slice}
use Rattle.std.proofs.lemmas.Iterator.Search.{position_from_yields_List}
use Rattle.csdf_graph.proofs.JoinedLemmas.{none_outside}
use Rattle.csdf_graph.proofs.connected.first_outside.Goals as goal

pub returns : goal.returns
returns c =
    ap is_none (position_from_yields_List (λ g. not (g == c.args.group)) _ _ _ c.position.ensures.ran (YieldsList-from_slice c.args.groups.now cc)
    (λ x b q k. search (rules, tests))) ∙ none_outside c.args.group c.args.groups.now
