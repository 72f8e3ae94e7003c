use Rattle.std.proofs.Common.{◌≡◌, ℕ, [], get_or, ap, sym, subst}
use Rattle.csdf_core.proofs.Fewer.{can_begin}
use Rattle.csdf_floor.specs.Drafts.{DraftView, IsDrafted, Suits}
use Rattle.csdf_floor.specs.Floor.{FloorView, IsKept}
use Rattle.csdf_floor.specs.Inside.{BookView}
use Rattle.csdf_floor.specs.Making.{AreKeptValues}
use Rattle.csdf_floor.specs.Work.{IsWork, program}
use Rattle.csdf_floor.proofs.Drafted.{drafted_values}
use Rattle.csdf_floor.proofs.book.Book.make_suited.Goals as goal

pub fire-requires-clause-values : goal.fire-requires-clause-values
fire-requires-clause-values c =
    let d : DraftView = c.args.draft.now in
    let f : FloorView = c.reserve.new.self.shown in
    let same : c.args.self.now.shown ≡ f = sym c.in_ok-reserve.ensures.shown in
    let suits : Suits f c.args.actor d = subst (λ (g : FloorView). Suits g c.args.actor d) same c.requires.suits in
    let drafted : IsDrafted (program f.work) d = subst (λ (g : FloorView). IsDrafted (program g.work) d) same c.requires.drafted in
    let work : IsWork f.work = subst (λ (b : BookView). IsWork b.shown.work) c.self.view_is c.self.invariant.work in
    let kept : IsKept (program f.work) f.core f.journal =
    subst (λ (b : BookView). IsKept (program b.shown.work) b.shown.core b.shown.journal) c.self.view_is c.self.invariant.kept in
    subst (λ (n : ℕ). AreKeptValues f c.args.actor n (get_or c.reserve.new.self.reads c.args.actor []) c.values.result.now)
    (sym (ap (λ (e : DraftView). e.firings) c.draft.view_is))
    (drafted_values f c.args.actor d _ c.values.result.now work kept c.requires.some suits drafted c.values.ensures)

pub returns-clause-made : goal.returns-clause-made
returns-clause-made c = rw (← c.draft.view_is, ← c.in_ok-reserve.ensures.shown) c.fire.ensures.made

pub returns-clause-begins : goal.returns-clause-begins
returns-clause-begins c =
    can_begin c.args.self.now.shown.core.plan c.args.actor c.args.self.now.shown.core.now c.args.draft.now.firings c.requires.some c.requires.suits.can

pub returns-in_err-reserve-clause-begins : goal.returns-in_err-reserve-clause-begins
returns-in_err-reserve-clause-begins c =
    can_begin c.args.self.now.shown.core.plan c.args.actor c.args.self.now.shown.core.now c.args.draft.now.firings c.requires.some c.requires.suits.can
