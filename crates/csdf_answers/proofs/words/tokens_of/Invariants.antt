use Rattle.std.proofs.Common.{◌≡◌, ◌++◌, drop, option_map, map}
use Rattle.std.specs.Result.{result_ok}
use Rattle.csdf_bytes.specs.TokenText.{token_in}
use Rattle.csdf_graph.specs.Tree.{all_some}
use Rattle.csdf_answers.proofs.words.tokens_of.Given as goal

abbrev pub invariant-loop-word : goal.invariant-loop-word
invariant-loop-word l =
    option_map (λ ts. l.tokens.items ++ ts) (all_some (λ word. result_ok (token_in word)) (map (λ w. w.now) (drop l.word-index l.words)))
    ≡ all_some (λ word. result_ok (token_in word)) (map (λ w. w.now) l.words)
