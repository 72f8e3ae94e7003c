use Rattle.std.proofs.Common.{sym, ap, ◌∙◌}
use Rattle.csdf_graph.specs.declared.fault.GraphFault.TheVariants.{Name}
use Rattle.std.specs.Prelude.{is_ok}
use Rattle.csdf_graph.specs.Names.{at}
use Rattle.csdf_graph.proofs.NameLemmas.{name_refused, name_taken, keys_grow}
use Rattle.csdf_graph.proofs.names.numbered.Goals as goal
use Rattle.csdf_graph.proofs.names.numbered.Goals.{in-Ok+in_ok-from_str-in-Ok+in_ok-insert-in-Ok, in-Err}

pub loop-place-preserved : goal.loop-place-preserved
loop-place-preserved c = elim c.match-check_name.branch [
  | in-Ok+in_ok-from_str-in-Ok+in_ok-insert-in-Ok w ↦
      let free = sym c.check_name.ensures ∙ ap is_ok w.in-Ok.is in
      let grown = keys_grow c.loop-place.taken.numbers.keys w.insert.new.self.keys w.in_ok-from_str-in-Ok.field-0 _ w.in_ok-insert-in-Ok.ensures.keys
      w.in_ok-from_str-in-Ok.ensures.ok free in
      rw (w.taken-is, w.checked-is) (name_taken c.args.kind c.args.names.now c.loop-place.checked c.loop-place.place _ _ _ c.loop-place-test.true free grown
      c.loop-place.invariant)
  | in-Err w ↦
      let taken = sym c.check_name.ensures ∙ ap is_ok w.in-Err.is in
      rw (w.taken-is) (name_refused c.args.kind c.args.names.now c.loop-place.checked c.match-check_name.checked c.loop-place.place _ _ w.refuse.result
      c.loop-place-test.true taken (w.checked-is ∙ w.and-checked.ensures)
      (λ other. w.refuse.ensures other ∙ ap Name (w.at.ensures ∙ ap (at c.args.kind) w.fault_place.ensures)) c.loop-place.invariant)
]
