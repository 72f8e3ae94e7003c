use Rattle.std.proofs.lemmas.Grind.{common_steps}
use Rattle.std.proofs.Common.{ℕ, List, [], length, get_or, take, ap, sym, ◌∙◌, arith}
use Rattle.std.proofs.lemmas.List.{take-map}
use Rattle.csdf_pool.specs.Pool.{Held}
use Rattle.csdf_pool.proofs.Tables.{some_of}
use Rattle.csdf_core.specs.Blocks.{from_front}
use Rattle.csdf_core.specs.Ports.{tokens_in}
use Rattle.csdf_core.proofs.BlockPorts.{front_at}
use Rattle.csdf_core.proofs.PortLemmas.{tokens_at-map}
use Rattle.csdf_core.proofs.gathering.copy_block.Goals as goal

pub returns : goal.returns
returns c =
    let n : ℕ = length c.args.into.now in
    let input : ℕ = get_or c.inputs-inputs.result.now 0 0 in
    let chain : List Held = get_or c.args.pool.now.chains input [] in
    c.copy_front.ensures
    ∙ sym (take-map (λ (held : Held). held.1) n chain)
    ∙ ap (take n) (sym (tokens_at-map c.args.pool.now.chains input))
    ∙ front_at c.inputs-inputs.result.now n (tokens_in c.args.pool.now) (some_of (length c.inputs-inputs.result.now) c.is_empty.result c.is_empty.ensures
    c.if-is_empty.false)
    ∙ ap (λ (ns : List ℕ). from_front ns n (tokens_in c.args.pool.now)) c.inputs-inputs.ensures.value

pub copy_front-requires-clause-enough : goal.copy_front-requires-clause-enough
copy_front-requires-clause-enough c = grind (arith, common_steps)

pub returns-then-is_empty : goal.returns-then-is_empty
returns-then-is_empty c = grind (arith, common_steps)
