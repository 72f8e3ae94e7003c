-- Firings of an actor that keeps its state in a channel to itself: one is its four moves, and then the others still find what they need.
use Rattle.std.proofs.Common.{◌≡◌, ℕ, suc, ◌-◌, ◌*◌, ◌≤◌, List, length, ap, ap₂, ◌∙◌, arith, suc-mul}
use Rattle.std.specs.Prelude.{ℤ}
use Rattle.csdf_core.specs.Feedback.{KeepsState, GoesOn}
use Rattle.csdf_core.specs.Plan.{Plan}
use Rattle.csdf_core.specs.Ports.{take_at}
use Rattle.csdf_core.specs.Rows.{gift}
use Rattle.csdf_core.specs.Step.{count, begun_count}
use Rattle.csdf_core.proofs.BlockMachines.{Machine, IsGood}
use Rattle.csdf_core.proofs.BlockMoves.{fewer}
use Rattle.csdf_core.proofs.Joined.{outputs_after}
use Rattle.csdf_core.proofs.FeedbackTokens.{goes_next, state_length, tokens_after, room_after, state_takes, state_needed}
use Rattle.csdf_core.proofs.FiringMoves.{IsFired, fired4, is_fired, held_fired}
use Rattle.csdf_core.proofs.OnePhase.{same_gift}

module _ (plan : Plan) (a own : ℕ) (keeps : KeepsState plan a own) where
  module _ (n : ℕ) (m : Machine) (v : List ℤ) (good : IsGood plan m) (h : GoesOn plan m.now a own (count m.now a) (suc n))
      (len : length v ≡ gift a (count m.now a) plan.channels) (few : gift a (count m.now a) plan.channels ≤ 8192) where
    abbrev k : ℕ
    k = count m.now a

    abbrev pub m4 : Machine
    m4 = fired4 plan a m v

    pub four : IsFired plan a m v
    four = is_fired plan a m v good h.there h.idle (goes_next plan a own keeps m.now n good.sound.fit h) len few

    pub finds4 : GoesOn plan m4.now a own (suc k) n
    finds4 = record {
      there = h.there;
      number = four.number;
      idle = four.idle;
      limit = (let l = h.limit in omega (arith, l));
      opens = h.opens;
      state = state_length plan a own keeps k n m.now.tokens v good.sound.fit.queued len h.state ∙ state_takes plan a own keeps k (suc k);
      tokens = tokens_after plan a own keeps k n m.now.tokens v good.sound.fit.queued len h.state h.tokens;
      room = room_after plan a own keeps k n m.now.tokens v good.sound.fit.queued len h.state
          (outputs_after plan.channels a k m.now.tokens v good.sound.fit.queued) h.room;
      firings = fewer plan.firings (begun_count m.now) (begun_count m4.now) n
          (let x = good.sound.starts in let y = four.good4.sound.starts in omega (arith, x, y)) h.firings;
      cells =
          let c = h.cells in
          let each : gift a (suc k) plan.channels - take_at plan.channels (suc k) own ≡ gift a k plan.channels - take_at plan.channels k own =
          ap₂ (λ (x y : ℕ). x - y) (same_gift plan.channels a keeps.phases (suc k) k) (state_takes plan a own keeps (suc k) k) in
          let all = ap (λ (x : ℕ). n * x) each in
          let more = suc-mul n (gift a k plan.channels - take_at plan.channels k own) in
          let low = state_needed plan a own keeps k in
          let now4 = held_fired plan a m v four len in
          let u = good.sound.keeps in
          let w = four.good4.sound.keeps in
          let kept = four.kept in
          omega (arith, c, all, more, low, now4, u, w, kept);
    }
