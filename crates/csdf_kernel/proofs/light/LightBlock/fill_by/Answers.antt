use Rattle.std.proofs.Common.{◌*◌, ◌∙◌}
use Rattle.csdf_kernel.specs.Light.{firing_token}
use Rattle.csdf_kernel.proofs.LightLemmas.{padded_token_is, told_all}
use Rattle.csdf_kernel.proofs.light.LightBlock.fill_by.Goals as goal

pub returns-then-self-clause-told : goal.returns-then-self-clause-told
returns-then-self-clause-told g c =
    let block = c.args.self.now in
    told_all (firing_token block c.args.place) block.each c.args.place c.firings_with-front.result block.firings c.fill_late.new.values c.fill_front.new.values
    c.requires.place c.fill_late.ensures.told c.fill_front.ensures.others
    (λ f ge less. c.fill_front.ensures.told f ge less
    ∙ padded_token_is block.filter.weights.now c.args.weights.now block.inputs.now c.args.have block.filter.taps g.row.N block.need (f * block.need) c.args.place
    block.filter.shift c.requires.padded c.requires.taps c.requires.enough)

pub returns-else-self-clause-told : goal.returns-else-self-clause-told
returns-else-self-clause-told g c =
    let block = c.args.self.now in
    told_all (firing_token block c.args.place) block.each c.args.place c.firings_with-front.result block.firings c.fill_late.new.values c.fill_front-else-self.new.values
    c.requires.place c.fill_late.ensures.told c.fill_front-else-self.ensures.others
    (λ f ge less. c.fill_front-else-self.ensures.told f ge less
    ∙ padded_token_is block.filter.weights.now c.args.weights.now block.inputs.now c.args.have block.filter.taps g.row.N block.need (f * block.need) c.args.place
    block.filter.shift c.requires.padded c.requires.taps c.requires.enough)
