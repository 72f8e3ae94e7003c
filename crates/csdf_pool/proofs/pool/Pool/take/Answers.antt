use Rattle.std.proofs.Common.{rules, arith, ap, ◌∙◌, ◌≡◌, ◌<◌, length, get_or}
use Rattle.csdf_pool.specs.declared.ends.Ends.{Ends}
use Rattle.csdf_pool.specs.Inside.{no_cells}
use Rattle.csdf_pool.proofs.Tables.{get_or-default}
use Rattle.csdf_pool.proofs.Views.{length-chains, length-chain}
use Rattle.csdf_pool.proofs.pool.Pool.take.Goals as goal

pub take_into-requires-clause-enough : goal.take_into-requires-clause-enough
take_into-requires-clause-enough c =
    let inside = c.self.inside in
    let known : c.args.chain < length inside.chains.items =
    omega (arith, c.requires, length-chains inside.links.items inside.tokens.items inside.chains.items inside.free c.args.self.now c.self.view_is) in
    let ends : c.index.result.now ≡ get_or inside.chains.items c.args.chain no_cells =
    c.index.ensures ∙ get_or-default inside.chains.items c.args.chain c.index.result.now no_cells known in
    let shown = length-chain inside.links.items inside.tokens.items inside.chains.items inside.free c.args.self.now c.self.view_is c.args.chain in
    omega (arith, ap (λ (e : Ends). e.length) ends, shown)

pub returns-clause-token : goal.returns-clause-token
returns-clause-token c = search rules
