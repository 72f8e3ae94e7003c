use Rattle.std.proofs.lemmas.Grind.{common_steps}
use Rattle.std.proofs.Common.{ℕ, List, take, get_or, ap, ◌∙◌, arith}
use Rattle.std.specs.Prelude.{sum_by}
use Rattle.csdf_core.specs.Ports.{inputs_at, take_at}
use Rattle.csdf_core.proofs.BlockReads.{within_all}
use Rattle.csdf_core.proofs.PortLemmas.{need_is}
use Rattle.csdf_core.proofs.gathering.slot_of.Goals as goal

pub returns-clause-slot : goal.returns-clause-slot
returns-clause-slot c =
    let cs = c.args.plan.now.channels in
    let k : ℕ = c.args.turn.firing in
    let ins : List ℕ = inputs_at cs c.args.actor in
    let before = c.taken_before.ensures ∙ ap (λ (ns : List ℕ). sum_by (take_at cs k) (take c.args.place ns)) c.inputs-inputs.ensures.value in
    let mine = c.takes.ensures.value ∙ ap (λ (ns : List ℕ). take_at cs k (get_or ns c.args.place 0)) c.inputs-inputs.ensures.value in
    let within = within_all (take_at cs k) ins c.args.place c.requires.place in
    record {
      all_is = c.moved.ensures.value;
      from_is = before;
      taken_is = mine;
      fits = omega (arith, before, mine, within, need_is c.args.actor k cs, c.moved.ensures.value);
    }

pub taken_before-requires-clause-within : goal.taken_before-requires-clause-within
taken_before-requires-clause-within c = grind (arith, common_steps)

pub taken_before-requires-clause-own : goal.taken_before-requires-clause-own
taken_before-requires-clause-own c = grind (arith, common_steps)
