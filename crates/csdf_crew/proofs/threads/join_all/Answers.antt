use Rattle.std.proofs.lemmas.Grind.{common_steps}
use Rattle.std.proofs.Common.{rules, suc, length, ◌≡◌, ◌∷◌, arith, ap, ◌∙◌}
use Rattle.std.specs.Vec.Iter.{into_iter_items}
use Rattle.csdf_crew.specs.Workers.{both}
use Rattle.csdf_crew.proofs.Ends.{none_more, one_more}
use Rattle.csdf_crew.proofs.threads.join_all.Goals as goal

pub loop-handle-preserved : goal.loop-handle-preserved
loop-handle-preserved g c =
    let first = c.in-Some.handle in
    let e : into_iter_items c.loop-handle.handle-iterator ≡ first ∷ into_iter_items c.next.new.self = search rules in
    let all = rw e at c.loop-handle.invariant.handles in
    let here = all 0 first (omega arith) in
    let taken : c.both-answer.result ≡ both c.loop-handle.answer c.join-ended.result.answer = search rules in
    record {
      board = search rules;
      handles = λ k d below. all (suc k) d (omega arith);
      ends =
          λ last end h.
          c.loop-handle.invariant.ends last end
          (one_more c.args.board.now (length (into_iter_items c.next.new.self)) (length (into_iter_items c.loop-handle.handle-iterator))
          c.loop-handle.answer c.both-answer.result c.loop-handle.place.view c.join.new.place.view c.join-ended.result last end
          (ap length e) taken c.join.ensures.view (c.join-ended.ensures.0 ∙ here, c.join-ended.ensures.1) h);
    }

pub returns-clause-ends : goal.returns-clause-ends
returns-clause-ends g c = c.loop-handle.invariant.ends _ _ (none_more _ _ _ _ (search rules))

pub loop-handle-init : goal.loop-handle-init
loop-handle-init g c = grind (arith, common_steps)
