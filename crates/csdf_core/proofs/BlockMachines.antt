-- What a core keeps, through the four moves of a firing.
use Rattle.std.proofs.Common.{◌≡◌, ℕ, ◌+◌, ◌-◌, ◌<◌, ◌≤◌, ◌==◌, List, [], ◌∷◌, length, get_or, set, refl, ap, ap₂, subst, ◌∙◌, sym, arith, None}
use Rattle.std.specs.Prelude.{ℤ, Ok, sum_by}
use Rattle.std.proofs.lemmas.List.Elements.{recursion_from_All}
use Rattle.csdf_pool.specs.Pool.{Shared}
use Rattle.csdf_pool.proofs.CallerLemmas.{sizes_add_up}
use Rattle.csdf_core.specs.declared.firing_core.Core.TheInside.{Inside}
use Rattle.csdf_core.specs.Inside.{now_in}
use Rattle.csdf_core.specs.Moves.{Move}
use Rattle.csdf_core.specs.Moves.{Begin, Read, Write, Finish}
use Rattle.csdf_core.specs.Next.{begun, fetched, written, finished}
use Rattle.csdf_core.specs.Plan.{Channel, Plan}
use Rattle.csdf_core.specs.Ports.{inputs_at, outputs_at, take_at, give_at, tokens_in, takes_over, puts_over}
use Rattle.csdf_core.specs.Rows.{need, gift, left, joined, shares}
use Rattle.csdf_core.specs.Shows.{View, Follows, Plays, AreSharedOut, raised, raised_over}
use Rattle.csdf_core.specs.Sound.{IsSound}
use Rattle.csdf_core.specs.State.{Present}
use Rattle.csdf_core.specs.Step.{Reply, count, held, refusal, first_of, write_table, answer, after}
use Rattle.csdf_core.specs.Transfers.{after_read, after_write}
use Rattle.csdf_core.proofs.BlockPools.{Holds}
use Rattle.csdf_core.proofs.BlockPorts.{AreWithin, holds_takes, holds_puts}
use Rattle.csdf_core.proofs.CoreLemmas.{held-chains}
use Rattle.csdf_core.proofs.Follows.{follows_accepted}
use Rattle.csdf_core.proofs.Kept.{writes}
use Rattle.csdf_core.proofs.Moving.{left_here, put_here, kept_to_read, kept_to_write, cells_to_write}
use Rattle.csdf_core.proofs.Peaceful.{peaks_stay}
use Rattle.csdf_core.proofs.PortLemmas.{numbers_within}
use Rattle.csdf_core.proofs.SoundLemmas.{sound_begun, sound_fetched, sound_written, sound_finished}

-- what changes in a core
pub record Machine : Type 0 where
  pub now : Present
  pub peaks : List ℕ
  pub sums : List ℕ
  pub started : ℕ
  pub kept : ℕ
  pub pool : Shared

pub record IsGood (plan : Plan) (m : Machine) : Type 0 where
  pub sound : IsSound plan m.now m.peaks m.sums m.started m.kept m.pool
  pub chains : tokens_in m.pool ≡ m.now.tokens

-- of a core
abbrev pub machine : Inside → Machine
machine core = record {
  now = now_in core;
  peaks = core.peaks.items;
  sums = core.sums.items;
  started = core.started;
  kept = core.reserved;
  pool = core.pool;
}

abbrev pub view : Plan → Machine → View
view plan m = record { plan = plan; now = m.now; peaks = m.peaks; pool = m.pool }

-- one more move at the front
pub plays_first : (plan : Plan) (old mid new : Machine) (m : Move) (r : Reply) (ms : List Move) (rs : List Reply) → Follows (view plan old) (view plan mid) m r
    → Plays (view plan mid) (view plan new) ms rs → Plays (view plan old) (view plan new) (m ∷ ms) (r ∷ rs)
plays_first plan old mid new m r ms rs f p = record {
  plan = refl;
  replies_are = λ s shown. ap₂ (λ (x : Reply) (xs : List Reply). x ∷ xs) (f.reply_is s shown) (p.replies_are (after plan s m) (f.shows s shown));
  shows = λ s shown. p.shows (after plan s m) (f.shows s shown);
  peaks = λ s shown.
      p.peaks (after plan s m) (f.shows s shown)
      ∙ ap (λ (q : List ℕ). raised_over plan (after plan s m) q ms)
      (f.peaks ∙ ap (λ (n : Present). raised old.peaks n.tokens) (f.shows s shown).same);
  through = (view plan mid, f, f.cells, p.through);
}

module _ (plan : Plan) (a : ℕ) where
  abbrev pub ins : List ℕ
  ins = inputs_at plan.channels a

  abbrev pub outs : List ℕ
  outs = outputs_at plan.channels a

  pub ins_within : (n : ℕ) → n ≡ length plan.channels → AreWithin ins n
  ins_within n e =
      subst (AreWithin ins) (sym e) (recursion_from_All (λ c. c < length plan.channels) ins (numbers_within (λ (c : Channel). c.to == a) plan.channels))

  pub outs_within : (n : ℕ) → n ≡ length plan.channels → AreWithin outs n
  outs_within n e =
      subst (AreWithin outs) (sym e) (recursion_from_All (λ c. c < length plan.channels) outs (numbers_within (λ (c : Channel). c.from == a) plan.channels))

  module _ (m : Machine) where
    abbrev needed : ℕ
    needed = need a (count m.now a) plan.channels

    abbrev given : ℕ
    given = gift a (count m.now a) plan.channels

    abbrev pub m_begun : Machine
    m_begun = record {
      now = begun m.now a;
      peaks = m.peaks;
      sums = m.sums;
      started = m.started + 1;
      kept = m.kept + (given - needed);
      pool = m.pool;
    }

    abbrev pub m_fetched : Machine
    m_fetched = record {
      now = fetched plan m.now a;
      peaks = m.peaks;
      sums = m.sums;
      started = m.started;
      kept = m.kept - (given - needed) + given;
      pool = after_read plan a (count m.now a) m.pool;
    }

    abbrev pub m_written : List ℤ → Machine
    m_written v = record {
      now = written plan m.now a v;
      peaks = raised m.peaks (written plan m.now a v).tokens;
      sums = m.sums;
      started = m.started;
      kept = m.kept - length v;
      pool = after_write plan a (count m.now a) m.pool v;
    }

    abbrev pub m_finished : Machine
    m_finished = record {
      now = finished m.now a;
      peaks = m.peaks;
      sums = set m.sums a (get_or m.sums a 0 + given);
      started = m.started;
      kept = m.kept;
      pool = m.pool;
    }

    module _ (good : IsGood plan m) where
      -- the free cells and those that hold tokens are all
      pub all_told : length m.pool.free + held m.now ≡ plan.cells
      all_told =
          let same : sum_by length (tokens_in m.pool) ≡ held m.now = ap (λ (ts : List (List ℤ)). sum_by length ts) good.chains in
          omega (arith, sizes_add_up m.pool good.sound.cells.partition, held-chains m.pool.chains, same, good.sound.cells.size)

      pub good_begun : refusal plan m.now (Begin a) ≡ None → IsGood plan m_begun
      good_begun none = record {
        sound = sound_begun plan m.now m.peaks m.sums m.started m.kept m.pool a m_begun.started m_begun.kept good.sound none refl refl;
        chains = good.chains;
      }

      pub follows_begun : refusal plan m.now (Begin a) ≡ None → Follows (view plan m) (view plan m_begun) (Begin a) (Ok [])
      follows_begun none =
          follows_accepted (view plan m) (view plan m_begun) (Begin a) [] refl none refl refl good.sound.fit good.chains good.sound.cells
          (sym (peaks_stay plan m.now m.peaks m.sums m.started m.kept m.pool good.sound))

      read_holds : Holds m.pool m_fetched.pool (takes_over (take_at plan.channels (count m.now a)) ins (tokens_in m.pool))
      read_holds = holds_takes (take_at plan.channels (count m.now a)) ins m.pool (ins_within (length m.pool.chains) good.sound.chained)

      pub tokens_read : tokens_in m_fetched.pool ≡ left a (count m.now a) plan.channels m.now.tokens
      tokens_read =
          left_here plan m.now a (count m.now a) (tokens_in m_fetched.pool) good.sound.fit refl
          (read_holds.tokens_are ∙ ap (takes_over (take_at plan.channels (count m.now a)) ins) good.chains)

      cells_read : AreSharedOut plan m_fetched.pool
      cells_read = record { size = read_holds.size ∙ good.sound.cells.size; partition = read_holds.partition good.sound.cells.partition }

      pub good_fetched : refusal plan m.now (Read a) ≡ None → IsGood plan m_fetched
      good_fetched none = record {
        sound = sound_fetched plan m.now m.peaks m.sums m.started m.kept m.pool a m_fetched.kept m_fetched.pool good.sound none
            (let le = kept_to_read plan m.now a m.kept (given - needed) good.sound.fit none good.sound.keeps refl in omega (arith, le)) read_holds.chained cells_read;
        chains = tokens_read;
      }

      pub follows_fetched : (none : refusal plan m.now (Read a) ≡ None)
          → Follows (view plan m) (view plan m_fetched) (Read a) (Ok (answer plan m.now (Read a)))
      follows_fetched none =
          follows_accepted (view plan m) (view plan m_fetched) (Read a) (answer plan m.now (Read a)) refl none refl refl good.sound.fit tokens_read cells_read
          (sym (peaks_stay plan m_fetched.now m.peaks m.sums m.started m_fetched.kept m_fetched.pool (good_fetched none).sound))

      module _ (v : List ℤ) (none : first_of (write_table plan m.now a v) ≡ None) where
        write_holds : Holds m.pool (m_written v).pool (puts_over (give_at plan.channels (count m.now a)) outs (tokens_in m.pool) v)
        write_holds =
            holds_puts (give_at plan.channels (count m.now a)) outs m.pool v (outs_within (length m.pool.chains) good.sound.chained)
            (cells_to_write plan m.now a (length m.pool.free) v good.sound.fit none all_told)

        pub tokens_written : tokens_in (m_written v).pool ≡ joined m.now.tokens (shares a (count m.now a) plan.channels v)
        tokens_written =
            put_here plan m.now a (count m.now a) v (tokens_in (m_written v).pool) good.sound.fit refl
            (write_holds.tokens_are ∙ ap (λ (ts : List (List ℤ)). puts_over (give_at plan.channels (count m.now a)) outs ts v) good.chains)

        cells_written : AreSharedOut plan (m_written v).pool
        cells_written = record { size = write_holds.size ∙ good.sound.cells.size; partition = write_holds.partition good.sound.cells.partition }

        pub good_written : IsGood plan (m_written v)
        good_written = record {
          sound = sound_written plan m.now m.peaks m.sums m.started m.kept m.pool a (m_written v).kept v (m_written v).peaks (m_written v).pool good.sound none
              (let le = kept_to_write plan m.now a m.kept v good.sound.fit none good.sound.keeps in let e = (writes plan m.now a v none).1 in
              omega (arith, le, e)) refl write_holds.chained cells_written;
          chains = tokens_written;
        }

        pub follows_written : Follows (view plan m) (view plan (m_written v)) (Write a v) (Ok [])
        follows_written =
            follows_accepted (view plan m) (view plan (m_written v)) (Write a v) [] refl none refl refl good.sound.fit tokens_written cells_written refl

      pub good_finished : refusal plan m.now (Finish a) ≡ None → given ≤ 8192 → IsGood plan m_finished
      good_finished none few = record {
        sound = sound_finished plan m.now m.peaks m.sums m.started m.kept m.pool a (get_or m.sums a 0 + given) good.sound none refl few;
        chains = good.chains;
      }

      pub follows_finished : refusal plan m.now (Finish a) ≡ None → Follows (view plan m) (view plan m_finished) (Finish a) (Ok [])
      follows_finished none =
          follows_accepted (view plan m) (view plan m_finished) (Finish a) [] refl none refl refl good.sound.fit good.chains good.sound.cells
          (sym (peaks_stay plan m.now m.peaks m.sums m.started m.kept m.pool good.sound))
