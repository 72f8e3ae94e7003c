use Rattle.std.proofs.Common.{◌∷◌, ◌++◌, [], ap, replicate, ◌∙◌, List}
use Rattle.std.proofs.lemmas.List.{replicate_more}
use Rattle.csdf_stream.specs.declared.reader.Reader.{Reader}
use Rattle.csdf_stream.specs.Reading.{fresh}
use Rattle.csdf_stream.proofs.flow.readers_for.Goals as goal

pub loop-made-preserved : goal.loop-made-preserved
loop-made-preserved c =
    c.in_ok-push.ensures.items
    ∙ ap (λ (rs : List Reader). rs ++ c.in_ok-new.field-0 ∷ []) c.loop-made.invariant
    ∙ ap (λ (r : Reader). replicate c.loop-made.made (fresh c.args.format) ++ r ∷ []) c.in_ok-new.ensures
    ∙ replicate_more c.loop-made.made (fresh c.args.format)
