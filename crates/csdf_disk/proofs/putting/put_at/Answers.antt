use Rattle.std.proofs.lemmas.Grind.{common_steps}
use Rattle.std.proofs.Common.{List, [], ◌∷◌, Ok, refl, subst, arith}
use Rattle.std.specs.Prelude.{is_ok}
use Rattle.csdf_disk.specs.SystemCalls.{Call, Says, See, Write}
use Rattle.csdf_disk.specs.declared.putting.There.{There}
use Rattle.csdf_disk.specs.declared.putting.There.TheVariants.{Other}
use Rattle.csdf_disk.specs.Contents.{content_text}
use Rattle.csdf_disk.proofs.PutLemmas.{called_more, no_memory, one_call}
use Rattle.csdf_disk.proofs.putting.put_at.Goals as goal

pub returns-in-Ok-Other : goal.returns-in-Ok-Other
returns-in-Ok-Other g c =
    let written : List Call = Write c.args.path.now (content_text c.args.content) (is_ok c.ended.result) ∷ [] in
    record {
      told = c.symlink_metadata.result;
      there = Ok Other;
      calls = written;
      says = subst (λ (t : There). Says c.symlink_metadata.result (Ok t)) c.in-Ok-Other.field-0-is c.in-Ok-Other.ensures;
      puts = (refl, no_memory _ c.ended.result c.ended.ensures.failed);
      called =
          called_more _ _ _ (See c.args.path.now c.symlink_metadata.result ∷ []) written c.symlink_metadata.ensures
          (one_call (Write c.args.path.now (content_text c.args.content)) _ _ c.write.result c.write.ensures c.ended.result c.ended.ensures.well c.ended.ensures.failed);
    }

pub returns-in-Ok-Plain : goal.returns-in-Ok-Plain
returns-in-Ok-Plain g c = grind (arith, common_steps)
