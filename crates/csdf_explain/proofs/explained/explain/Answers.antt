use Rattle.std.proofs.Common.{List, ℕ, subst}
use Rattle.std.specs.Io.KnownBytes.{Appends}
use Rattle.std.proofs.lemmas.List.{append-nil}
use Rattle.std.proofs.lemmas.Result.{on_ok_weaker}
use Rattle.csdf_explain.proofs.explained.explain.Goals as goal

pub returns-clause-written : goal.returns-clause-written
returns-clause-written g c =
    on_ok_weaker c.explain_with.result
    (λ told. (
      told.0,
      told.1,
      subst (λ (t : List ℕ). Appends (g.O.Outlet.written c.args.writer.now) (g.O.Outlet.written c.explain_with.new.writer) t) (append-nil told.0) told.2,
    ))
    c.explain_with.ensures.written

pub returns-clause-unmarked : goal.returns-clause-unmarked
returns-clause-unmarked g c = c.explain_with.ensures.unmarked

pub returns-clause-refused : goal.returns-clause-refused
returns-clause-refused g c = c.explain_with.ensures.refused

pub returns-clause-unwritten : goal.returns-clause-unwritten
returns-clause-unwritten g c = c.explain_with.ensures.unwritten

pub returns-clause-failed : goal.returns-clause-failed
returns-clause-failed g c = c.explain_with.ensures.failed
