use Rattle.std.proofs.Common.{◌≡◌, sym, refl, arith, None, Some, Option, Err}
use Rattle.std.specs.Prelude.{option_map}
use Rattle.csdf_core.specs.declared.refusal.Refusal.{Refusal}
use Rattle.csdf_floor.specs.declared.fault.StartFault.TheVariants.{Refused, Memory}
use Rattle.csdf_floor.specs.Floor.{IsStartAnswer}
use Rattle.csdf_floor.proofs.Floors.{started}
use Rattle.csdf_floor.proofs.book.Book.make_many.Goals as goal

-- memory may run out where the begin is accepted
starved : (T : Type 0) (o : Option Refusal) → o ≡ None → IsStartAnswer {T = T} (option_map Refused o) (Err Memory)
starved T None e = refl
starved T (Some why) e = absurd (cc)

pub unreachable-requires : goal.unreachable-requires
unreachable-requires c =
    let some = c.block-block.ensures.some c.requires.some (rw (← c.self.view_is) (sym c.in_ok-can_begin.ensures.answer)) in
    omega (arith, some, c.if-firings-eq0.true)

pub returns-in-Ok-clause-answer : goal.returns-in-Ok-clause-answer
returns-in-Ok-clause-answer c =
    let can = rw (← c.self.view_is) at c.block-block.ensures.block.can in
    rw (← c.self.view_is) (started _ c.in-Ok.n (c.begins.ensures.fires c.block-block.result.firings (omega (arith, c.if-firings-eq0.false)) can))

pub returns-in-Err-clause-answer : goal.returns-in-Err-clause-answer
returns-in-Err-clause-answer c =
    let can = rw (← c.self.view_is) at c.block-block.ensures.block.can in
    rw (← c.self.view_is) (starved _ _ (c.begins.ensures.fires c.block-block.result.firings (omega (arith, c.if-firings-eq0.false)) can))
