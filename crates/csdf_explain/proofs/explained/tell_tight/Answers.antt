use Rattle.std.proofs.Common.{◌++◌, List, ap, string_bytes, subst, ◌∙◌, ℕ}
use Rattle.csdf_explain.specs.Explained.{AppendsTooTight, tight_text}
use Rattle.csdf_answers.specs.Printed.{names_of}
use Rattle.csdf_explain.proofs.explained.tell_tight.Goals as goal

pub returns-clause-told : goal.returns-clause-told
returns-clause-told c =
    let q = c.in-Ok.vector.q.items in
    let tight = tight_text (names_of c.args.graph.channels) c.tight_channel.result in
    let before = c.in_ok-push_tight.ensures {u = tt} ∙ ap (λ (bytes : List ℕ). bytes ++ tight) c.new-text.ensures.bytes in (
      c.in-Ok.vector.r.items,
      q,
      c.tight_channel.result,
      c.in-Ok.ensures.vector,
      c.tight_channel.ensures,
      subst (λ (text : List ℕ). AppendsTooTight c.args.graph q text (string_bytes c.push_too_tight.new.text)) before (c.in_ok-push_too_tight.ensures {u = tt}),
    )
