use Rattle.std.proofs.Common.{◌≡◌, ◌<◌, ◌++◌, [], length, get_or, set, ap, ◌∙◌, arith}
use Rattle.std.proofs.lemmas.List.{length-map, map-set}
use Rattle.csdf_floor.specs.Work.{feeds_in}
use Rattle.csdf_floor.proofs.Works.{item_at}
use Rattle.csdf_floor.proofs.lists.Lists.append.Goals as goal

pub returns : goal.returns
returns c =
    let lt : c.args.actor < length c.self.inside.lists.items =
    (let there = rw (← c.self.view_is) at c.requires.exists in omega (arith, there, length-map c.self.inside.lists.items (λ v. v.items))) in
    let own : c.extend_from_slice.new.self.items ≡ get_or (feeds_in c.self.inside.lists.items) c.args.actor [] ++ c.args.tokens.now =
    c.in-Ok.ensures.items ∙ ap (λ xs. xs ++ c.args.tokens.now)
    (item_at c.self.inside.lists.items c.args.actor c.index_mut.result.now lt c.index_mut.ensures.value) in
    rw (← c.self.view_is) (map-set (λ v. v.items) c.self.inside.lists.items c.args.actor c.extend_from_slice.new.self
    ∙ ap (set (feeds_in c.self.inside.lists.items) c.args.actor) own)
