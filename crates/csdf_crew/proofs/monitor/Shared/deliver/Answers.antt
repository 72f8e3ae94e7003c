use Rattle.std.proofs.Common.{◌≡◌, ◌++◌, Bool, true, ap, subst, sym}
use Rattle.csdf_kernel.specs.declared.Job.{Job}
use Rattle.csdf_floor.specs.Floor.{FloorView, HasGone, closes_after, ending_of, task_of}
use Rattle.csdf_crew.specs.Looking.{SharedView}
use Rattle.csdf_crew.specs.Workers.{HasTaken}
use Rattle.csdf_crew.proofs.monitor.Shared.deliver.Goals as goal

-- what was made was taken, by a floor that is f
taken : (is_made : Bool) (job other : Job) (f g h : FloorView) → is_made ≡ true → other ≡ job → g ≡ f
    → HasGone g h (ending_of (task_of other) ++ closes_after g (task_of other)) → HasTaken is_made job f h
taken is_made job other f g h made is_job is_floor gone =
    subst (λ (b : Bool). HasTaken b job f h) (sym made)
    (subst (λ (j : Job). HasGone f h (ending_of (task_of j) ++ closes_after f (task_of j))) is_job
    (subst (λ (x : FloorView). HasGone x h (ending_of (task_of other) ++ closes_after x (task_of other))) is_floor gone))

pub returns-clause-taken : goal.returns-clause-taken
returns-clause-taken g c =
    taken c.args.hand.now.is_made c.args.hand.now.job c.job-job.result.now c.args.self.now.floor c.self.inside.floor c.deliver_value.new.self
    c.in-Some.ensures.1 c.job-job.ensures (ap (λ (s : SharedView). s.floor) c.self.view_is) c.in_default-deliver_value.ensures.gone
