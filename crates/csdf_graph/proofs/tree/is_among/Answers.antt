use Rattle.std.proofs.Common.{sym, ◌∙◌}
use Rattle.std.specs.Str.{bytes_eq}
use Rattle.csdf_graph.proofs.TreeLemmas.{list_any_map}
use Rattle.csdf_graph.proofs.tree.is_among.Goals as goal

pub returns : goal.returns
returns c = c.contains.ensures.value ∙ sym (list_any_map (λ k. k.now) (λ k. bytes_eq k c.args.key.now) c.args.keys.now)
