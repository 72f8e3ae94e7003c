use Rattle.std.proofs.Common.{◌<◌, length, ◌∙◌, sym, arith}
use Rattle.std.proofs.lemmas.List.{get_or_default}
use Rattle.std.proofs.lemmas.Bool.{false≢true, le-ltb}
use Rattle.csdf_analysis.proofs.run.Run.can_go.Goals as goal
use Rattle.csdf_analysis.proofs.run.Run.can_go.Goals.{then-index-firings, else-index-firings}

pub index-requires : goal.index-requires
index-requires c = omega (arith, c.requires.exists, c.requires.run.at.each_actor, c.args.self.now.counts.ok.0)

pub returns-then-has_tokens : goal.returns-then-has_tokens
returns-then-has_tokens c =
    let here : c.args.actor < length c.args.self.now.counts.items = omega (arith, c.requires.exists, c.requires.run.at.each_actor) in
    let count = c.index.ensures ∙ get_or_default _ _ c.index.result.now 0 here in
    elim c.if-index-firings.branch [
      | then-index-firings w ↦ (
        λ room. record {
          able = record { exists = here; tokens = w.has_tokens.ensures.0 (sym w.value-is ∙ c.if-has_tokens.true); room = c.has_room.ensures.0 room };
          left = omega (arith, count, w.if-index-firings.true, c.firings.ensures);
        },
        λ go. c.has_room.ensures.1 go.able.room,
      )
      | else-index-firings w ↦ absurd (false≢true (sym (le-ltb _ _ w.if-index-firings.false) ∙ sym w.value-is ∙ c.if-has_tokens.true))
    ]
