use Rattle.std.proofs.Common.{List, ℕ, subst, ◌∙◌}
use Rattle.std.specs.Io.KnownBytes.{Appends}
use Rattle.std.specs.String.{string_bytes}
use Rattle.csdf_explain.proofs.explained.explain_with.Goals as goal

pub returns-clause-written : goal.returns-clause-written
returns-clause-written g c = (
  string_bytes c.in_ok-text.text,
  c.in_ok-text.ensures.told,
  subst (λ (t : List ℕ). Appends (g.O.Outlet.written c.args.writer.now) (g.O.Outlet.written c.send.new.writer) t)
      (c.as_bytes.ensures.value ∙ c.in_ok-push_str.ensures.bytes) c.in_ok-send.ensures.written,
)
