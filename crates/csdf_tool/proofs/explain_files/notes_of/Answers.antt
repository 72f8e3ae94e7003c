use Rattle.std.proofs.Common.{List, [], Ok, rules, subst}
use Rattle.csdf_files.proofs.DiskLemmas.{asks_none}
use Rattle.std.specs.Prelude.{string_bytes}
use Rattle.std.proofs.lemmas.Result.{IfOk-weaker}
use Rattle.csdf_model.specs.Graph.{Actor}
use Rattle.csdf_tool.specs.Explaining.{AreNotes}
use Rattle.csdf_tool.proofs.explain_files.notes_of.Goals as goal

pub returns-in-Ok-clause-told : goal.returns-in-Ok-clause-told
returns-in-Ok-clause-told g c =
    IfOk-weaker c.source_notes.result _ _ (λ text are. (
      are.0,
      (
        Ok c.in-Ok.graph,
        c.in-Ok.ensures,
        subst (λ (actors : List Actor). AreNotes c.args.folder.now actors are.0 (string_bytes text)) c.actors.ensures.value are.1,
      ),
      are.2,
    )) c.source_notes.ensures.told

pub returns-in-Err : goal.returns-in-Err
returns-in-Err g c = let none = asks_none _ in record { told = ([], search rules, none); memory = tt }
