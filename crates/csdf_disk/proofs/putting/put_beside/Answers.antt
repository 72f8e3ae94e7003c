use Rattle.std.proofs.Common.{option_map, ◌∙◌}
use Rattle.std.specs.Fs.{permissions_mode}
use Rattle.csdf_disk.specs.Contents.{content_text}
use Rattle.csdf_disk.specs.SystemCalls.{steps_beside}
use Rattle.csdf_disk.proofs.PutLemmas.{taken_away}
use Rattle.csdf_disk.proofs.putting.put_beside.Goals as goal

pub returns : goal.returns
returns g c =
    taken_away (λ part. steps_beside part (option_map permissions_mode c.args.permissions) c.args.path.now (content_text c.args.content)) c.args.path.now _ _
    c.in-Err.why _ _ _ _ (c.as_str.ensures.value ∙ c.in-Ok.ensures) (c.as_str-in-Err.ensures.value ∙ c.in-Ok.ensures) c.in-Err.ensures c.remove_file.ensures
