use Rattle.std.proofs.Common.{map, string_bytes, not, sym, ap, ◌∙◌, rules, tests}
use Rattle.std.specs.Prelude.{is_none}
use Rattle.std.specs.Map.Iter.{deref}
use Rattle.std.proofs.lemmas.Iterator.Search.{find_from_yields_List}
use Rattle.csdf_graph.specs.Tree.{is_among}
use Rattle.csdf_graph.proofs.TreeLemmas.{none_unlisted, yields_keys}
use Rattle.csdf_graph.proofs.tree.unlisted.Goals as goal

pub returns-in-Some : goal.returns-in-Some
returns-in-Some c =
    ap is_none (sym c.in-Some.is) ∙ none_unlisted deref (map (λ s. s.now) c.args.keys.now) c.args.table.now.entries c.find.result
    (find_from_yields_List (λ k. not (is_among (map (λ s. s.now) c.args.keys.now) (string_bytes k))) _ _ _ c.find.ensures.ran (yields_keys _ _ c.keys.ensures.rest)
    (λ x b q k. search (rules, tests)))

pub returns-in-None : goal.returns-in-None
returns-in-None c =
    ap is_none (sym c.in-None.is) ∙ none_unlisted deref (map (λ s. s.now) c.args.keys.now) c.args.table.now.entries c.find.result
    (find_from_yields_List (λ k. not (is_among (map (λ s. s.now) c.args.keys.now) (string_bytes k))) _ _ _ c.find.ensures.ran (yields_keys _ _ c.keys.ensures.rest)
    (λ x b q k. search (rules, tests)))
