use Rattle.csdf_json.proofs.LineLemmas.{line_made}
use Rattle.csdf_json.proofs.line.line_of.Goals as goal

pub returns : goal.returns
returns c = λ value shallow same.
    line_made value c.args.writer.tokens c.args.writer.before _ _ shallow same c.requires c.into_inner-line.ensures.items c.in_ok-push.ensures.items
    c.into_inner-line.ensures.reads_back
