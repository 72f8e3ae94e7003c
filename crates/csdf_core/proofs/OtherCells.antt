-- The last core of a run of moves may have its tokens in other cells.
use Rattle.std.proofs.Common.{◌≡◌, ℕ, ◌<◌, List, [], ◌∷◌, length, map, refl, subst, sym, arith}
use Rattle.csdf_pool.specs.Pool.{Shared, held_tokens}
use Rattle.csdf_core.specs.Moves.{Move}
use Rattle.csdf_core.specs.Plan.{Plan}
use Rattle.csdf_core.specs.Shows.{View, Shows, Follows, PassesThrough, Plays, AreSharedOut}
use Rattle.csdf_core.specs.Sound.{IsSound}
use Rattle.csdf_core.specs.State.{State, Present}
use Rattle.csdf_core.specs.Step.{Reply, after, state_after}

abbrev pub with_pool : View → Shared → View
with_pool v pool = record { plan = v.plan; now = v.now; peaks = v.peaks; pool = pool }

-- what every core keeps speaks of its chains by their number, and that the cells are shared out
pub sound_elsewhere : (plan : Plan) (p : Present) (peaks sums : List ℕ) (started kept : ℕ) (old new : Shared) → IsSound plan p peaks sums started kept old
    → length new.chains ≡ length plan.channels → AreSharedOut plan new → IsSound plan p peaks sums started kept new
sound_elsewhere plan p peaks sums started kept old new s chained cells = record {
  fit = s.fit;
  playable = s.playable;
  peaked = s.peaked;
  high = s.high;
  chained = chained;
  cells = cells;
  within = s.within;
  tallied = s.tallied;
  summed = s.summed;
  small = s.small;
  starts = s.starts;
  keeps = s.keeps;
}

module _ (mid : View) (pool : Shared) (tokens : map held_tokens pool.chains ≡ mid.now.tokens) (cells : AreSharedOut mid.plan pool) where
  shown_elsewhere : (s : State) → Shows mid s → Shows (with_pool mid pool) s
  shown_elsewhere s shown = record { same = shown.same; lawful = shown.lawful; chains = tokens; cells = cells }

  follows_elsewhere : (old : View) (m : Move) (r : Reply) → Follows old mid m r → Follows old (with_pool mid pool) m r
  follows_elsewhere old m r f = record {
    plan = f.plan;
    reply_is = f.reply_is;
    shows = λ s shown. shown_elsewhere (after old.plan s m) (f.shows s shown);
    peaks = f.peaks;
    cells = cells;
  }

  passes_elsewhere : (old : View) (ms : List Move) (rs : List Reply) → 0 < length ms → PassesThrough old mid ms rs
      → PassesThrough old (with_pool mid pool) ms rs
  passes_elsewhere old [] rs some p = absurd (omega arith)
  passes_elsewhere old (m ∷ ms) [] some p = absurd p
  passes_elsewhere old (m ∷ []) (r ∷ []) some p = (
    with_pool mid pool,
    follows_elsewhere old m r (subst (λ (v : View). Follows old v m r) (sym p.3) p.1),
    cells,
    refl,
  )
  passes_elsewhere old (m ∷ []) (r ∷ q ∷ rs) some p = absurd p.3
  passes_elsewhere old (m ∷ n ∷ ms) (r ∷ rs) some p = (p.0, p.1, p.2, passes_elsewhere p.0 (n ∷ ms) rs (omega arith) p.3)

  pub plays_elsewhere : (old : View) (ms : List Move) (rs : List Reply) → 0 < length ms → Plays old mid ms rs → Plays old (with_pool mid pool) ms rs
  plays_elsewhere old ms rs some p = record {
    plan = p.plan;
    replies_are = p.replies_are;
    shows = λ s shown. shown_elsewhere (state_after old.plan s ms) (p.shows s shown);
    peaks = p.peaks;
    through = passes_elsewhere old ms rs some p.through;
  }
