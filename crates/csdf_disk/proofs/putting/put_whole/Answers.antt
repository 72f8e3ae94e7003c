use Rattle.std.proofs.Common.{List, [], ◌∷◌, ◌++◌, option_map}
use Rattle.std.specs.Fs.{permissions_mode}
use Rattle.csdf_disk.specs.SystemCalls.{Rename, Step, Write, permits}
use Rattle.csdf_disk.specs.Contents.{content_text}
use Rattle.csdf_disk.proofs.PutLemmas.{steps_cut, steps_more}
use Rattle.csdf_disk.proofs.putting.put_whole.Goals as goal

pub returns-in_err-advance : goal.returns-in_err-advance
returns-in_err-advance g c =
    let made : List Step = Write c.args.part.now [] ∷ [] in
    let permitted = permits c.args.part.now (option_map permissions_mode c.args.permissions) in
    let written : List Step = Write c.args.part.now (content_text c.args.content) ∷ [] in
    let renamed : List Step = Rename c.args.part.now c.args.path.now ∷ [] in
    steps_cut made (permitted ++ (written ++ renamed)) _ _ _ _ c.from_residual.ensures.1 c.in_err-advance.ensures

pub returns-in_err-permit : goal.returns-in_err-permit
returns-in_err-permit g c =
    let made : List Step = Write c.args.part.now [] ∷ [] in
    let permitted = permits c.args.part.now (option_map permissions_mode c.args.permissions) in
    let written : List Step = Write c.args.part.now (content_text c.args.content) ∷ [] in
    let renamed : List Step = Rename c.args.part.now c.args.path.now ∷ [] in
    steps_more made (permitted ++ (written ++ renamed)) _ _ _ _ c.in_ok-advance.ensures
    (steps_cut permitted (written ++ renamed) _ _ _ _ c.from_residual-in_err-permit.ensures.1 c.in_err-permit.ensures)

pub returns-in_err-advance-2 : goal.returns-in_err-advance-2
returns-in_err-advance-2 g c =
    let made : List Step = Write c.args.part.now [] ∷ [] in
    let permitted = permits c.args.part.now (option_map permissions_mode c.args.permissions) in
    let written : List Step = Write c.args.part.now (content_text c.args.content) ∷ [] in
    let renamed : List Step = Rename c.args.part.now c.args.path.now ∷ [] in
    steps_more made (permitted ++ (written ++ renamed)) _ _ _ _ c.in_ok-advance.ensures
    (steps_more permitted (written ++ renamed) _ _ _ _ c.in_ok-permit.ensures
    (steps_cut written renamed _ _ _ _ c.from_residual-in_err-advance-2.ensures.1 c.in_err-advance-2.ensures))

pub returns : goal.returns
returns g c =
    let made : List Step = Write c.args.part.now [] ∷ [] in
    let permitted = permits c.args.part.now (option_map permissions_mode c.args.permissions) in
    let written : List Step = Write c.args.part.now (content_text c.args.content) ∷ [] in
    let renamed : List Step = Rename c.args.part.now c.args.path.now ∷ [] in
    steps_more made (permitted ++ (written ++ renamed)) _ _ _ _ c.in_ok-advance.ensures
    (steps_more permitted (written ++ renamed) _ _ _ _ c.in_ok-permit.ensures
    (steps_more written renamed _ _ _ _ c.in_ok-advance-2.ensures c.advance-3.ensures))
