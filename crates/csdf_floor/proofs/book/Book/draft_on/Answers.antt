use Rattle.std.proofs.lemmas.Grind.{common_steps}
use Rattle.std.proofs.Common.{◌≡◌, ◌-◌, ◌*◌, ◌≤◌, ℕ, List, length, get_or, ap, ap₂, sym, ◌∙◌, arith}
use Rattle.std.specs.Prelude.{ℤ}
use Rattle.csdf_model.specs.declared.parts.Kernel.{Kernel}
use Rattle.csdf_model.specs.declared.parts.Kernel.TheVariants.{Sink}
use Rattle.csdf_kernel.specs.Loop.{loop_values}
use Rattle.csdf_core.specs.declared.feedback.Feedback.{Feedback}
use Rattle.csdf_core.specs.Blocks.{gifts_of, HoldAll, takes_at}
use Rattle.csdf_core.specs.Engine.{AreReadWith, CanFire}
use Rattle.csdf_core.specs.Feedback.{IsFeedback, loop_reads}
use Rattle.csdf_core.specs.Ports.{inputs_at}
use Rattle.csdf_core.specs.Rows.{need, gift}
use Rattle.csdf_core.specs.Step.{count}
use Rattle.csdf_floor.specs.Drafts.{DraftView, values_in}
use Rattle.csdf_floor.specs.Floor.{FloorView}
use Rattle.csdf_floor.specs.Journal.{Program, output_counts}
use Rattle.csdf_floor.specs.Making.{AreOwnValues}
use Rattle.csdf_floor.specs.Work.{feeds_in, is_sink_kernel, program}
use Rattle.csdf_floor.proofs.Books.{floor_of}
use Rattle.csdf_floor.proofs.Drafted.{draft_of}
use Rattle.csdf_floor.proofs.LoopMakings.{HasPlace, has_place, own_values}
use Rattle.csdf_floor.proofs.book.Book.draft_on.Goals as goal
use Rattle.csdf_floor.proofs.book.Book.draft_on.Goals.{After-draft-3-1}

-- what was put in the draft
module _ (c : After-draft-3-1) where
  abbrev pub f : FloorView
  f = floor_of c.self.inside.journal.keeps c.self.inside.work c.self.inside.core c.self.inside.journal.moves c.self.inside.sinks.lists

  abbrev pub p : Program
  p = program c.self.inside.work

  abbrev pub a : ℕ
  a = c.args.actor

  abbrev pub n : ℕ
  n = c.args.n

  abbrev pub k : ℕ
  k = count f.core.now a

  abbrev pub b : Feedback
  b = c.args.feedback

  abbrev pub d : DraftView
  d = record {
    actor = c.draft.inside.actor;
    firing = c.draft.inside.firing;
    kernel = c.draft.inside.kernel;
    counts = c.draft.inside.counts.items;
    need = c.draft.inside.need;
    is_first = b.is_first;
    before = b.before;
    firings = n;
    state = c.read_on.new.state.items;
    inputs = c.read_on.new.others.items;
    is_made = c.draft.inside.is_made;
  }

  pub told : IsFeedback f.core.plan a b
  told = rw (← c.self.view_is) at c.requires.feedback

  pub actor : d.actor ≡ a
  actor = rw (← c.draft.view_is) at c.in_ok-head_into.ensures.actor

  pub firing : d.firing ≡ k
  firing = rw (← c.draft.view_is, ← c.self.view_is) at c.in_ok-head_into.ensures.firing

  pub kernel : d.kernel ≡ get_or p.kernels a Sink
  kernel = rw (← c.draft.view_is, ← c.self.view_is) at c.in_ok-head_into.ensures.kernel

  pub counts : d.counts ≡ output_counts p a k
  counts = rw (← c.draft.view_is, ← c.self.view_is) at c.in_ok-head_into.ensures.counts

  pub needed : d.need ≡ need a k f.core.plan.channels
  needed = rw (← c.draft.view_is, ← c.self.view_is) at c.in_ok-head_into.ensures.need

  pub place : HasPlace d.need b.before b.taken b.each d.counts
  place = has_place p f.core a b d.need d.counts c.self.invariant.kept.plan told needed counts

  pub state_long : length d.state ≡ b.taken
  state_long = c.in_ok-read_on.ensures.state

  pub others_long : length d.inputs ≡ n * b.each
  others_long = c.in_ok-read_on.ensures.others

  pub rest : d.need - length d.state ≡ b.each
  rest = ap (λ (i : ℕ). d.need - i) state_long ∙ place.rest

  is : values_in d ≡ loop_values (get_or p.kernels a Sink) (output_counts p a k) b.is_first b.each b.before n d.state d.inputs
  is =
      ap (λ (i : ℕ). loop_values d.kernel d.counts b.is_first i b.before n d.state d.inputs) rest
      ∙ ap₂ (λ (x : Kernel) (ns : List ℕ). loop_values x ns b.is_first b.each b.before n d.state d.inputs) kernel counts

  read : (u : List ℤ) → length u ≡ gifts_of f.core.plan.channels a k n → AreReadWith f.core.plan f.core.now a k n u
      (loop_reads b.is_first b.each b.before (gift a k f.core.plan.channels) n d.state d.inputs u)
  read = c.in_ok-read_on.ensures.read

  pub own : AreOwnValues f a n (values_in d)
  own =
      own_values c.self.inside.journal.keeps c.self.inside.work c.self.inside.core c.self.inside.journal.moves c.self.inside.sinks.lists
      (feeds_in c.self.inside.reads.items) a n b d.state d.inputs (values_in d) c.self.invariant told state_long others_long read is

pub invariant_of-draft-2 : goal.invariant_of-draft-2
invariant_of-draft-2 c = (
  λ _. record {
    few_counts = rw (← c.draft.view_is) at c.in_ok-head_into.ensures.few;
    small_counts = rw (← c.draft.view_is) at c.in_ok-head_into.ensures.small;
    few_inputs = rw (← c.draft.view_is) at c.in_ok-head_into.ensures.few_inputs;
    filter_in_range = rw (← c.draft.view_is) at c.in_ok-head_into.ensures.in_range;
    window = (let w = (place c).window in let s = state_long c in omega (arith, w, s));
    part = (let w = (place c).part in let s = state_long c in omega (arith, w, s));
    whole = (let e = ap (λ (i : ℕ). c.args.n * i) (rest c) in let o = others_long c in omega (arith, e, o));
  },
  λ made. absurd (grind (arith, common_steps)),
)

pub returns-clause-draft : goal.returns-clause-draft
returns-clause-draft c =
    rw (← c.self.view_is) (draft_of (f c) (a c) (d c) c.self.invariant.kept c.requires.some
    (record { actor = actor c; firing = firing c; can = rw (← c.self.view_is) at c.requires.can }) (rw (← c.self.view_is) at c.requires.no_sink) (kernel c) (counts c)
    (needed c) (others_long c ∙ ap (λ (i : ℕ). c.args.n * i) (sym (rest c))) (own c) (λ held. absurd ((rw (← c.self.view_is) at c.requires.apart) held)))
