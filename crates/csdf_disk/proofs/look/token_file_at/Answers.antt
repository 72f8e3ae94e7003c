use Rattle.std.proofs.Common.{◌≡◌, List, [], ◌∷◌, None, Ok, Some, refl, subst}
use Rattle.std.specs.declared.fs.attrs.FileType.{FileType}
use Rattle.csdf_answers.specs.declared.token_file.TokenFile.{TokenFile}
use Rattle.csdf_disk.specs.SystemCalls.{Call, Follow, Open, unopened_as}
use Rattle.csdf_disk.specs.TokenFiles.{IsFoundOf}
use Rattle.csdf_disk.proofs.PutLemmas.{called_more}
use Rattle.csdf_disk.proofs.look.token_file_at.Goals as goal

pub returns-in-None-clause-looked : goal.returns-in-None-clause-looked
returns-in-None-clause-looked g c =
    let opened : List Call = Open c.args.path.now (unopened_as c.open.result) ∷ [] in
    let none : (file : TokenFile) → None ≡ Some file → ⊥ = λ file e. cc in
    record {
      told = Ok c.in-Ok.told;
      calls = opened;
      found = subst (λ (kind : FileType). IsFoundOf c.args.path.now kind opened c.opened_file.result) c.file_type.ensures (record {
        folder = λ folder. absurd (none _ (c.in-None.ensures.folder folder));
        special = λ folder file. absurd (none _ (c.in-None.ensures.special folder file));
        plain = λ file. (unopened_as c.open.result, refl, c.opened_file.ensures.opened);
      });
      called = called_more _ _ _ (Follow c.args.path.now (Ok c.in-Ok.told) ∷ []) opened c.in-Ok.ensures c.open.ensures;
    }
