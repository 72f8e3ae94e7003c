use Rattle.std.proofs.Common.{ap}
use Rattle.std.specs.Prelude.{option_map}
use Rattle.csdf_files.proofs.DiskLemmas.{asks_none}
use Rattle.csdf_tool.proofs.ExplainingLemmas.{explained_alone, unwritten_alone, unwritten_with}
use Rattle.csdf_tool.proofs.explain_files.explain_in.Goals as goal

pub returns-in-None-clause-written : goal.returns-in-None-clause-written
returns-in-None-clause-written g c =
    explained_alone c.explain.result c.args.bytes.now _ _ _ _ (option_map (λ f. f.now) c.args.folder) (ap (option_map (λ f. f.now)) c.in-None.is)
    (asks_none _) c.explain.ensures.written

pub returns-in-None-clause-failed : goal.returns-in-None-clause-failed
returns-in-None-clause-failed g c = λ output.
    let told = c.explain.ensures.failed output in (
      unwritten_alone (option_map (λ f. f.now) c.args.folder) c.args.bytes.now _ _ (ap (option_map (λ f. f.now)) c.in-None.is) (asks_none _) told.0,
      told.1,
    )

pub returns-in-Some-clause-failed : goal.returns-in-Some-clause-failed
returns-in-Some-clause-failed g c = λ output.
    let told = c.explain_with_folder.ensures.failed output in (
      unwritten_with (option_map (λ f. f.now) c.args.folder) c.args.bytes.now _ _ c.in-Some.folder.now (ap (option_map (λ f. f.now)) c.in-Some.is) told.0,
      told.1,
    )
