use Rattle.std.proofs.Common.{option_map, ◌∙◌}
use Rattle.std.specs.Fs.{permissions_mode}
use Rattle.csdf_disk.specs.SystemCalls.{steps_made}
use Rattle.csdf_disk.proofs.PutLemmas.{taken_away}
use Rattle.csdf_disk.proofs.making.make_beside.Goals as goal

pub returns-in-Err-clause-made : goal.returns-in-Err-clause-made
returns-in-Err-clause-made g c =
    let gone =
    taken_away (λ part. steps_made part (option_map permissions_mode c.args.permissions)) c.args.path.now _ _ c.in-Err.why _ _ _ _
    (c.as_str.ensures.value ∙ c.in-Ok.ensures) (c.as_str-in-Err.ensures.value ∙ c.in-Ok.ensures) c.in-Err.ensures c.remove_file.ensures in
    (gone.0, gone.1, (gone.2, tt))
