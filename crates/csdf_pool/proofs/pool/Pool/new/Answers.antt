use Rattle.std.proofs.Common.{arith, ap, sym, subst, subst₂, ◌∙◌, ◌≡◌, ℕ, length, replicate, map}
use Rattle.std.proofs.lemmas.List.FromFn.{length-range_with_len}
use Rattle.std.specs.List.{range_with_len}
use Rattle.csdf_pool.specs.declared.ends.Ends.{Ends}
use Rattle.csdf_pool.specs.Inside.{no_cells, held_in, IsSound}
use Rattle.csdf_pool.specs.Chains.{linked_from}
use Rattle.csdf_pool.proofs.Opening.{IsSound-opening, linked_range, held_in-empty}
use Rattle.csdf_pool.proofs.pool.Pool.new.Goals as goal

pub invariant_of-result : goal.invariant_of-result
invariant_of-result c =
    let ends : c.in_ok-ends.ends.items ≡ replicate c.args.chains no_cells = c.in_ok-ends.ensures.items_if_clones_equal (λ y e. e) in
    let links : c.in_ok-links.links.items ≡ range_with_len 1 c.args.cells = c.in_ok-links.ensures in
    let tokens = c.in_ok-tokens.tokens.items in
    let length-tokens : length tokens ≡ c.args.cells = sym c.in_ok-tokens.tokens.ok.0 ∙ c.in_ok-tokens.ensures.len in
    let free : Ends = record { front = 0; end = c.saturating_sub.result; length = c.args.cells } in
    subst₂ (λ l e. IsSound l tokens e free) (sym links) (sym ends)
    (subst (λ (end : ℕ). IsSound (range_with_len 1 c.args.cells) tokens (replicate c.args.chains no_cells)
    (record { front = 0; end = end; length = c.args.cells }))
    (sym c.saturating_sub.ensures)
    (IsSound-opening c.args.cells c.args.chains tokens c.requires.few_cells length-tokens))

pub returns-clause-size : goal.returns-clause-size
returns-clause-size c = ap length c.in_ok-links.ensures ∙ length-range_with_len 1 c.args.cells

pub returns-clause-chains : goal.returns-clause-chains
returns-clause-chains c =
    ap (map (held_in c.in_ok-links.links.items c.in_ok-tokens.tokens.items)) (c.in_ok-ends.ensures.items_if_clones_equal (λ y e. e))
    ∙ held_in-empty c.in_ok-links.links.items c.in_ok-tokens.tokens.items c.args.chains

pub returns-clause-free : goal.returns-clause-free
returns-clause-free c =
    ap (λ links. linked_from links 0 c.args.cells) c.in_ok-links.ensures ∙ linked_range c.args.cells 0 c.args.cells (omega arith)

pub returns-clause-shared_out : goal.returns-clause-shared_out
returns-clause-shared_out c = (invariant_of-result c).partition
