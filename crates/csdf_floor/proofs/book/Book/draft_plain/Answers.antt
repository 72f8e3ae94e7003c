use Rattle.std.proofs.Common.{◌≡◌, ◌-◌, ◌*◌, ℕ, [], true, length, get_or, ap, sym, ◌∙◌, arith}
use Rattle.std.proofs.lemmas.Grind.{common_steps}
use Rattle.csdf_model.specs.declared.parts.Kernel.TheVariants.{Sink}
use Rattle.csdf_core.specs.Blocks.{AreReadEach}
use Rattle.csdf_core.specs.Rows.{need}
use Rattle.csdf_core.specs.Step.{count}
use Rattle.csdf_floor.specs.Drafts.{DraftView}
use Rattle.csdf_floor.specs.Floor.{FloorView, IsKept}
use Rattle.csdf_floor.specs.Journal.{output_counts}
use Rattle.csdf_floor.specs.Work.{program}
use Rattle.csdf_floor.proofs.Drafted.{draft_of, plain_values}
use Rattle.csdf_floor.proofs.book.Book.draft_plain.Goals as goal

pub read_ahead-requires-clause-held : goal.read_ahead-requires-clause-held
read_ahead-requires-clause-held c = rw (← c.self.view_is) at c.requires.held

pub returns-clause-draft : goal.returns-clause-draft
returns-clause-draft c =
    let f : FloorView = c.args.self.now.shown in
    let a : ℕ = c.args.actor in
    let n : ℕ = c.args.n in
    let kept : IsKept (program f.work) f.core f.journal = rw (← c.self.view_is) c.self.invariant.kept in
    let actor : c.draft.inside.actor ≡ a = rw (← c.draft.view_is) at c.in_ok-head_into.ensures.actor in
    let firing : c.draft.inside.firing ≡ count f.core.now a = rw (← c.draft.view_is) at c.in_ok-head_into.ensures.firing in
    let kernel : c.draft.inside.kernel ≡ get_or (program f.work).kernels a Sink = rw (← c.draft.view_is) at c.in_ok-head_into.ensures.kernel in
    let counts : c.draft.inside.counts.items ≡ output_counts (program f.work) a (count f.core.now a) =
    rw (← c.draft.view_is) at c.in_ok-head_into.ensures.counts in
    let needed : c.draft.inside.need ≡ need a (count f.core.now a) f.core.plan.channels = rw (← c.draft.view_is) at c.in_ok-head_into.ensures.need in
    let none : c.truncate.new.self.items ≡ [] = grind (arith, common_steps) in
    let each : AreReadEach f.core.plan f.core.now a (count f.core.now a) n c.read_ahead.new.inputs.items =
    rw (← c.self.view_is) c.in_ok-read_ahead.ensures.read in
    let long : length c.read_ahead.new.inputs.items ≡ n * need a (count f.core.now a) f.core.plan.channels =
    c.in_ok-read_ahead.ensures.long ∙ c.needed-needed.ensures.each in
    let d : DraftView = record {
      actor = c.draft.inside.actor;
      firing = c.draft.inside.firing;
      kernel = c.draft.inside.kernel;
      counts = c.draft.inside.counts.items;
      need = c.draft.inside.need;
      is_first = true;
      before = 0;
      firings = n;
      state = c.truncate.new.self.items;
      inputs = c.read_ahead.new.inputs.items;
      is_made = c.draft.inside.is_made;
    } in
    let some_each : c.draft.inside.need - length c.truncate.new.self.items ≡ need a (count f.core.now a) f.core.plan.channels =
    (let e = ap length none in omega (arith, e, needed)) in
    draft_of f a d kept c.requires.some (record { actor = actor; firing = firing; can = c.requires.can }) c.requires.no_sink kernel counts needed
    (long ∙ ap (λ (i : ℕ). n * i) (sym some_each))
    (plain_values f a d kept c.requires.phases c.requires.no_source kernel counts needed none (c.in_ok-read_ahead.ensures.long ∙ c.needed-needed.ensures.all) each)
    (λ _. each)
