use Rattle.std.proofs.Common.{◌≡◌, ◌++◌, ap, refl, ◌∙◌}
use Rattle.std.specs.Prelude.{string_bytes}
use Rattle.csdf_explain.specs.TokenNotes.{token_note}
use Rattle.csdf_files.specs.Files.{token_path}
use Rattle.csdf_tool.proofs.ExplainingLemmas.{look_there}
use Rattle.csdf_tool.proofs.explain_files.push_note.Goals as goal

pub returns-clause-told : goal.returns-clause-told
returns-clause-told g c =
    let same : c.as_str-at.result.now ≡ token_path c.args.folder.now c.args.source.now = c.as_str-at.ensures ∙ c.in_ok-path.ensures in (
      record { source = c.args.source.now; file = c.in_ok-file.file },
      refl,
      c.in_ok-push_token_note.ensures ∙ ap (λ path. string_bytes c.args.text.now ++ token_note c.args.source.now path c.in_ok-file.file) same,
      look_there _ _ c.args.folder.now c.args.source.now c.as_str-at.result.now c.in_ok-file.file same c.in_ok-file.ensures.found,
    )
