use Rattle.std.proofs.Common.{◌≡◌, ◌<◌, ℕ, Result, Ok, Err, subst, arith}
use Rattle.std.specs.Prelude.{OnErr, OnOk}
use Rattle.csdf_floor.specs.declared.fault.StartFault.{StartFault}
use Rattle.csdf_floor.specs.Drafts.{DraftView, IsDraftOf, IsDrafted}
use Rattle.csdf_floor.specs.Floor.{FloorView}
use Rattle.csdf_floor.specs.Work.{Work, program}
use Rattle.csdf_crew.proofs.hand.Hand.draft.Goals as goal
use Rattle.csdf_crew.proofs.hand.Hand.draft.Goals.{in-Ok, in-Err}

-- a draft that has firings is one of the floor's work
drafted : (r : Result (Unit {0}) StartFault) (f : FloorView) (a : ℕ) (d : DraftView) → OnOk r (0 < d.firings → IsDraftOf f a d)
    → OnErr r (d.firings ≡ 0) → 0 < d.firings → IsDrafted (program f.work) d
drafted (Ok x) f a d ok err some = (ok some).drafted
drafted (Err e) f a d ok err some = absurd (omega (arith, err, some))

pub invariant_of-self : goal.invariant_of-self
invariant_of-self g c = elim c.match-draft.branch [
  | in-Ok w ↦ rw w.self-inside-is (
    c.self.invariant.0,
    λ some. subst (λ (work : Work). IsDrafted (program work) c.draft.new.draft) c.requires.work
        (drafted c.draft.result c.args.floor.now c.args.claim.actor c.draft.new.draft c.draft.ensures.draft c.draft.ensures.none some),
  )
  | in-Err w ↦ rw w.self-inside-is (
    c.self.invariant.0,
    λ some. subst (λ (work : Work). IsDrafted (program work) c.draft.new.draft) c.requires.work
        (drafted c.draft.result c.args.floor.now c.args.claim.actor c.draft.new.draft c.draft.ensures.draft c.draft.ensures.none some),
  )
]
