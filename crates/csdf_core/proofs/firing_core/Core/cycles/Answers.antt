use Rattle.std.proofs.Common.{◌≡◌, ◌+◌, ◌-◌, ◌*◌, ◌≤◌, ◌⊎◌, inl, inr, ℕ, get_or, ap, subst, refl, arith}
use Rattle.std.specs.List.{AllByRecursion}
use Rattle.std.proofs.Math.Nat.{mul-le-mul_right, mod-add-div'}
use Rattle.csdf_core.specs.Blocks.{gifts_of}
use Rattle.csdf_core.specs.Engine.{IsHeld, HasRoom}
use Rattle.csdf_core.specs.Inside.{now_in}
use Rattle.csdf_core.specs.Phases.{HasPhases}
use Rattle.csdf_core.specs.Plan.{Plan}
use Rattle.csdf_core.specs.Ports.{inputs_at, outputs_at}
use Rattle.csdf_core.specs.Rows.{need}
use Rattle.csdf_core.specs.State.{Present}
use Rattle.csdf_core.specs.Step.{count, held, reserved, begun_count}
use Rattle.csdf_core.proofs.BlockBegins.{given_more}
use Rattle.csdf_core.proofs.BlockMachines.{machine}
use Rattle.csdf_core.proofs.BlockPorts.{by_places}
use Rattle.csdf_core.proofs.Cycles.{cycles_find, cells_found, held_fewer, room_fewer, begun_fewer, gifts_cycles}
use Rattle.csdf_core.proofs.Finds.{cycles_fire}
use Rattle.csdf_core.proofs.firing_core.Core.cycles.Goals as goal
use Rattle.csdf_core.proofs.firing_core.Core.cycles.Goals.{then-phases-eq1, else-phases-eq1, then-phases-eq1-2, else-phases-eq1-2}

pub returns-clause-can : goal.returns-clause-can
returns-clause-can c =
    let plan : Plan = c.self.inside.plan in
    let p : Present = now_in c.self.inside in
    let a : ℕ = c.args.actor in
    let k : ℕ = count p a in
    let phases : ℕ = c.args.phases in
    let m : ℕ = c.cells_over.result in
    let has : HasPhases plan.channels a phases = rw (← c.self.view_is) at c.requires.phases in
    let k_is : c.fired-k.result ≡ k = rw (← c.self.view_is) at c.fired-k.ensures.value in
    let below_held : m ≤ c.let_through-held.result =
    omega (arith, c.cells_over.ensures.most, c.supplied_over-supplied.ensures.most, c.let_through-roomy.ensures.most) in
    let below_roomy : m ≤ c.let_through-roomy.result = omega (arith, c.cells_over.ensures.most, c.supplied_over-supplied.ensures.most) in
    let holds : AllByRecursion (IsHeld plan.channels p.tokens a k phases m) (inputs_at plan.channels a) =
    by_places (IsHeld plan.channels p.tokens a k phases m) (inputs_at plan.channels a)
    (λ j lt. held_fewer plan.channels p.tokens a k phases m c.let_through-held.result (get_or (inputs_at plan.channels a) j 0) below_held
    (subst (λ x. IsHeld plan.channels p.tokens a x phases c.let_through-held.result (get_or (inputs_at plan.channels a) j 0)) k_is (c.let_through-held.ensures.through j lt))) in
    let room : AllByRecursion (HasRoom plan.channels p.tokens a k phases m) (outputs_at plan.channels a) =
    by_places (HasRoom plan.channels p.tokens a k phases m) (outputs_at plan.channels a)
    (λ j lt. room_fewer plan.channels p.tokens a k phases m c.let_through-roomy.result (get_or (outputs_at plan.channels a) j 0) below_roomy
    (subst (λ x. HasRoom plan.channels p.tokens a x phases c.let_through-roomy.result (get_or (outputs_at plan.channels a) j 0)) k_is (c.let_through-roomy.ensures.through j lt))) in
    let given : c.given_ahead-given.result ≡ gifts_of plan.channels a k phases = rw (← c.self.view_is) at c.given_ahead-given.ensures.value in
    let needed : c.need-need.result ≡ need a k plan.channels = rw (← c.self.view_is) at c.need-need.ensures.value in
    let counted : ((phases ≡ 1) × (c.if-phases-eq1-2.more ≡ gifts_of plan.channels a k phases - need a k plan.channels))
    ⊎ (c.if-phases-eq1-2.more ≡ gifts_of plan.channels a k phases) =
    elim c.if-phases-eq1-2.branch [
      | then-phases-eq1-2 w ↦ inl (w.if-phases-eq1-2.true, omega (arith, w.more-is, w.saturating_sub-more.ensures, given, needed))
      | else-phases-eq1-2 w ↦ inr (omega (arith, w.more-is, given))
    ] in
    let cells : held p + reserved plan p + m * c.if-phases-eq1-2.more ≤ plan.cells = rw (← c.self.view_is) at c.cells_over.ensures.cells in
    let below_whole : m ≤ c.if-phases-eq1.whole = omega (arith, below_held, c.let_through-held.ensures.most) in
    let within : m * phases ≤ c.within_limits-limited.result =
    elim c.if-phases-eq1.branch [
      | then-phases-eq1 w ↦
          (let e = ap (λ x. m * x) w.if-phases-eq1.true in omega (arith, e, w.whole-is, below_whole))
      | else-phases-eq1 w ↦
          (let t : m * phases ≤ c.if-phases-eq1.whole * phases = mul-le-mul_right phases below_whole in
          let e = ap (λ x. x * phases) w.whole-is in
          omega (arith, t, e, mod-add-div' c.within_limits-limited.result phases))
    ] in
    let limit = rw (← c.self.view_is) at c.within_limits-limited.ensures.limit in
    let firings = rw (← c.self.view_is) at c.within_limits-limited.ensures.firings in
    let supply = rw (← c.self.view_is) at c.supplied_over-supplied.ensures.supply in
    rw (← c.self.view_is)
    (cycles_fire plan a (c.gives_few.ensures a) (machine c.self.inside) (record { sound = c.self.invariant.sound; chains = refl }) phases m
    (λ some. record {
      there = rw (← c.self.view_is) at c.requires.actor;
      number = refl;
      idle = rw (← c.self.view_is) at (c.if-not-is_ready.ensures.idle refl);
      limit = omega (arith, limit, within);
      opens = rw (← c.self.view_is) at (c.if-not-is_ready.ensures.opens refl);
      supply = λ source.
          let s = supply (omega (arith, some, c.cells_over.ensures.most)) source in
          let t : m * c.given_ahead-given.result ≤ c.supplied_over-supplied.result * c.given_ahead-given.result =
          mul-le-mul_right c.given_ahead-given.result c.cells_over.ensures.most in
          let e = ap (λ x. m * x) given in
          omega (arith, s, t, e, given_more plan a k (m * phases), gifts_cycles plan.channels a phases has k m);
      firings =
          begun_fewer plan.firings (begun_count p) (m * phases) c.within_limits-limited.result within
          (firings (let low : 1 * phases ≤ m * phases = mul-le-mul_right phases some in let one = c.requires.some in omega (arith, within, low, one)));
      each = cycles_find plan p a k phases m c.self.invariant.sound.fit has c.requires.some holds room
          (λ i lt. cells_found plan.channels a phases has k m i (held p + reserved plan p) plan.cells c.if-phases-eq1-2.more lt counted cells);
    }))
