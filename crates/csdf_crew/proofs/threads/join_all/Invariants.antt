use Rattle.std.specs.Prelude.{◌≡◌, ℕ, ◌<◌, get_or, length}
use Rattle.std.specs.Vec.Iter.{into_iter_items}
use Rattle.csdf_claims.specs.declared.rule.View.{View}
use Rattle.csdf_crew.specs.Workers.{Answer, AnswersForAll}
use Rattle.csdf_crew.proofs.threads.join_all.Given as goal

abbrev pub invariant-loop-handle : goal.invariant-loop-handle
invariant-loop-handle g l =
    let rest = into_iter_items l.handle-iterator in
    record {
      board : l.place.board ≡ l.board.id;
      handles : (k : ℕ) (d : _) → k < length rest → (get_or rest k d).promise.0.now.id ≡ l.board.id;
      ends : (last : Answer) (end : View) → AnswersForAll l.board (length rest) l.answer l.place.view last end
          → AnswersForAll l.board (length l.fn.handles.items) l.fn.own l.fn.place.view last end;
    }
