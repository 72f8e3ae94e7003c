use Rattle.std.proofs.Common.{◌≡◌, ◌∙◌, ℕ, List, length, ap, subst}
use Rattle.std.specs.Prelude.{IfOk, map}
use Rattle.csdf_core.specs.Moves.{Move, move_of}
use Rattle.csdf_core.specs.Plan.{Channel}
use Rattle.csdf_core.specs.Step.{count}
use Rattle.csdf_journal.specs.Noted.{moves_by, noted_all}
use Rattle.csdf_journal.proofs.Gifts.{length_gifts, moves_are}
use Rattle.csdf_journal.proofs.firings.Firings.to_moves.Goals as goal

pub moves_by-requires : goal.moves_by-requires
moves_by-requires c =
    let cs : List Channel = c.args.self.now.core.now.plan.channels in
    let k : ℕ = count c.args.self.now.core.now.now c.args.self.now.actor in
    ap length c.requires ∙ length_gifts cs c.args.self.now.actor k c.args.self.now.n

pub returns-clause-items : goal.returns-clause-items
returns-clause-items c =
    let cs : List Channel = c.args.self.now.core.now.plan.channels in
    let k : ℕ = count c.args.self.now.core.now.now c.args.self.now.actor in
    let same : moves_by c.args.self.now.actor c.args.self.now.gifts.now c.args.self.now.tokens.now ≡ noted_all c.args.self.now =
    ap (λ (gifts : List ℕ). moves_by c.args.self.now.actor gifts c.args.self.now.tokens.now) c.requires
    ∙ moves_are cs c.args.self.now.actor k c.args.self.now.n c.args.self.now.tokens.now in
    subst (λ (ms : List Move). IfOk c.moves_by.result (λ moves. map move_of moves.items ≡ ms)) same c.moves_by.ensures.items
