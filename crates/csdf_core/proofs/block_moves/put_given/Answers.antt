use Rattle.std.proofs.lemmas.Grind.{common_steps}
use Rattle.std.proofs.Common.{◌≡◌, ◌≤◌, ◌-◌, ◌*◌, ◌++◌, ℕ, List, length, set, take, drop, ap, ap₂, sym, ◌∙◌, arith}
use Rattle.std.specs.Prelude.{ℤ}
use Rattle.std.proofs.lemmas.List.{length-drop, take_rest}
use Rattle.csdf_core.specs.Blocks.{gifts_of, gives_at}
use Rattle.csdf_core.specs.Engine.{gives_to}
use Rattle.csdf_core.specs.Plan.{Channel}
use Rattle.csdf_core.specs.Ports.{outputs_at, tokens_in, tokens_at}
use Rattle.csdf_core.proofs.Shares.{gives_all, only_gives, gifts_rest, amounts_rest, given_rest}
use Rattle.csdf_core.proofs.block_moves.put_given.Goals as goal
use Rattle.csdf_core.proofs.block_moves.put_given.Goals.{After-outputs, After-moved}

-- an only output gets all
module _ (c : After-outputs) (is_one : length c.outputs.result.now ≡ 1) where
  abbrev pub cs : List Channel
  cs = c.args.plan.now.channels

  pub one : length (outputs_at cs c.args.actor) ≡ 1
  one = sym (ap length c.outputs.ensures.value) ∙ is_one

  pub few_there : c.args.few ≤ length c.args.tokens.now
  few_there =
      omega (
        arith,
        c.requires.few,
        only_gives cs c.args.actor c.args.channel one c.requires.channel c.requires.own c.args.turn.firing c.args.n c.args.tokens.now c.requires.all,
      )

pub offset_bounds-tokens-few : goal.offset_bounds-tokens-few
offset_bounds-tokens-few c =
    let at : After-outputs = (goal.at.offset_bounds-tokens-few c).After-outputs in
    let there = few_there at c.if-outputs-eq1.true in
    grind (arith, common_steps, there)

pub slice_bounds-put_tokens-count : goal.slice_bounds-put_tokens-count
slice_bounds-put_tokens-count c =
    let at : After-outputs = (goal.at.slice_bounds-put_tokens-count c).After-outputs in
    few_there at c.if-outputs-eq1.true

pub slice_bounds-put_tokens-start : goal.slice_bounds-put_tokens-start
slice_bounds-put_tokens-start c =
    let at : After-outputs = (goal.at.slice_bounds-put_tokens-start c).After-outputs in
    few_there at c.if-outputs-eq1.true

pub put_tokens-requires-clause-room : goal.put_tokens-requires-clause-room
put_tokens-requires-clause-room c =
    let at : After-outputs = (goal.at.put_tokens-requires-clause-room c).After-outputs in
    let all = only_gives (cs at c.if-outputs-eq1.true) c.args.actor c.args.channel (one at c.if-outputs-eq1.true) c.requires.channel c.requires.own
    c.args.turn.firing c.args.n c.args.tokens.now c.requires.all in
    omega (arith, ap length (take_rest c.args.tokens.now c.args.few), length-drop c.args.few c.args.tokens.now, all, c.requires.room, c.requires.few)

pub returns-then-outputs-eq1-clause-put : goal.returns-then-outputs-eq1-clause-put
returns-then-outputs-eq1-clause-put c =
    let at : After-outputs = (goal.at.returns-then-outputs-eq1-clause-put c).After-outputs in
    let all = gives_all (cs at c.if-outputs-eq1.true) c.args.actor c.args.channel (one at c.if-outputs-eq1.true) c.requires.channel c.requires.own
    c.args.turn.firing c.args.n c.args.tokens.now c.requires.all in
    c.put_tokens.ensures.put
    ∙ ap (λ (u : List ℤ). set (tokens_in c.args.pool.now) c.args.channel (tokens_at (tokens_in c.args.pool.now) c.args.channel ++ u))
    (take_rest c.args.tokens.now c.args.few ∙ ap (drop c.args.few) (sym all))

-- the firings whose shares are left out whole
module _ (c : After-moved) where
  abbrev pub ds : List Channel
  ds = c.args.plan.now.channels

  abbrev pub m : ℕ
  m = c.firings_within-whole.result

  abbrev pub gone : ℕ
  gone = m * c.moved.result

  pub gone_is : gone ≡ gifts_of ds c.args.actor c.args.turn.firing m
  gone_is = ap (λ (x : ℕ). m * x) c.moved.ensures.value ∙ sym c.firings_within-whole.ensures.written

  pub gone_there : gone ≤ length c.args.tokens.now
  gone_there =
      omega (
        arith,
        gone_is,
        c.requires.all,
        gifts_rest ds c.args.actor c.args.channel c.args.turn.firing m c.args.n c.firings_within-whole.ensures.fewer,
      )

pub slice_bounds-put_shares-count : goal.slice_bounds-put_shares-count
slice_bounds-put_shares-count c = gone_there (goal.at.slice_bounds-put_shares-count c).After-moved

pub slice_bounds-put_shares-start : goal.slice_bounds-put_shares-start
slice_bounds-put_shares-start c = gone_there (goal.at.slice_bounds-put_shares-start c).After-moved

pub put_shares-requires-clause-all : goal.put_shares-requires-clause-all
put_shares-requires-clause-all c =
    let at : After-moved = (goal.at.put_shares-requires-clause-all c).After-moved in
    let rest = gifts_rest (ds at) c.args.actor c.args.channel c.args.turn.firing (m at) c.args.n c.firings_within-whole.ensures.fewer in
    let firing = ap (λ (x : ℕ). gifts_of (ds at) c.args.actor x (c.args.n - m at)) c.turn_ahead-first.ensures.firing in
    omega (
      arith,
      ap length (take_rest c.args.tokens.now (gone at)),
      length-drop (gone at) c.args.tokens.now,
      gone_is at,
      c.requires.all,
      rest,
      firing,
    )

pub put_shares-requires-clause-room : goal.put_shares-requires-clause-room
put_shares-requires-clause-room c =
    let at : After-moved = (goal.at.put_shares-requires-clause-room c).After-moved in
    let rest = amounts_rest (ds at) c.args.actor c.args.channel c.args.turn.firing (m at) c.args.n c.firings_within-whole.ensures.fewer in
    let firing = ap (λ (x : ℕ). gives_at (ds at) x (c.args.n - m at) c.args.channel) c.turn_ahead-first.ensures.firing in
    omega (arith, rest, firing, c.given.ensures.value, c.firings_within-whole.ensures.within, c.requires.room)

pub returns-clause-put : goal.returns-clause-put
returns-clause-put c =
    let at : After-moved = (goal.at.returns-clause-put c).After-moved in
    let k : ℕ = c.args.turn.firing in
    let v : List ℤ = c.args.tokens.now in
    let left : ℕ = c.args.n - m at in
    c.put_shares.ensures.put
    ∙ ap (λ (u : List ℤ). set (tokens_in c.args.pool.now) c.args.channel (tokens_at (tokens_in c.args.pool.now) c.args.channel ++ u))
    (ap (λ (x : ℕ). drop (c.args.few - x) (gives_to (ds at) c.args.actor c.args.channel c.turn_ahead-first.result.firing left
    (take (length v - gone at) (drop (gone at) v)))) c.given.ensures.value
    ∙ ap₂ (λ (x : ℕ) (u : List ℤ). drop (c.args.few - gives_at (ds at) k (m at) c.args.channel)
    (gives_to (ds at) c.args.actor c.args.channel x left u))
    c.turn_ahead-first.ensures.firing (take_rest v (gone at) ∙ ap (λ (x : ℕ). drop x v) (gone_is at))
    ∙ sym (given_rest (ds at) c.args.actor c.args.channel k (m at) c.args.n c.firings_within-whole.ensures.fewer c.requires.channel c.requires.own
    c.args.few v c.requires.all c.firings_within-whole.ensures.within))
