-- A graph whose channels begin with as many other tokens is accepted too.
use Rattle.std.proofs.Common.{◌≡◌, ℕ, zero, suc, ◌≤◌, Some, List, [], ◌∷◌, length, get_or, refl, sym}
use Rattle.std.proofs.Common.{ap, subst, ◌∙◌, arith, ◌<◌}
use Rattle.std.specs.Prelude.{ℤ, All, IfSome, slice_get}
use Rattle.std.specs.List.{AllZip}
use Rattle.std.proofs.lemmas.Option.{slice_get_within}
use Rattle.csdf_model.specs.Graph.{Actor, Channel}
use Rattle.csdf_model.specs.Rates.{consumption}
use Rattle.csdf_analysis.specs.Repetition.{IsBalanced, IsRepetition, full_capacity}
use Rattle.csdf_analysis.specs.Period.{held, held_after, CanFire, IsSchedule, fired, no_firings, CompletesPeriod}
use Rattle.csdf_analysis.specs.Capacities.{Agrees}
use Rattle.csdf_analysis.specs.Acceptance.{Accepted, IsAccepted}
use Rattle.csdf_model.specs.Holding.{with_initial, channels_holding, channels_beginning, HasAsMany, HaveAsMany}
use Rattle.csdf_model.proofs.HoldingLemmas.{length_holding, all_holding, initials, back_again, many_again, well_formed_holding, with_one, beginning_is, many_with_one}
use Rattle.csdf_analysis.specs.Continued.{accepted_beginning, beginning_from, continued, ContinuedIsAccepted}

-- ---- the channels, one by one

-- a channel that holds other tokens, and the one that it was
record IsFrom (i : ℕ) (cs : List Channel) (c : Channel) : Type 0 where
  pub channel : Channel
  pub tokens : List ℤ
  pub place : slice_get cs i ≡ Some channel
  pub many : HasAsMany channel tokens
  pub is : with_initial (channel, tokens) ≡ c

from_at : (i : ℕ) (cs : List Channel) (vs : List (List ℤ)) (c : Channel) → AllZip HasAsMany cs vs → slice_get (channels_holding vs cs) i ≡ Some c → IsFrom i cs c
from_at i [] vs c many is = absurd (let lt = slice_get_within [] i c is in omega arith)
from_at i (d ∷ cs) [] c many is = absurd many
from_at zero (d ∷ cs) (v ∷ vs) c many is = record {
  channel = d;
  tokens = v;
  place = refl;
  many = many.0;
  is = (let same : with_initial (d, v) ≡ c = cc in same);
}
from_at (suc i) (d ∷ cs) (v ∷ vs) c many is =
    let f = from_at i cs vs c many.1 is in
    record { channel = f.channel; tokens = f.tokens; place = f.place; many = f.many; is = f.is }

-- ---- a period

can_fire : (cs : List Channel) (vs : List (List ℤ)) (bounds n : List ℕ) (a : ℕ) → AllZip HasAsMany cs vs → CanFire cs bounds n a
    → CanFire (channels_holding vs cs) bounds n a
can_fire cs vs bounds n a many can = record {
  exists = can.exists;
  tokens = λ i c is to. (let f = from_at i cs vs c many is in
      subst (λ (d : Channel). d.to ≡ a → consumption d (get_or n a 0) ≤ held d n) f.is
      (λ e. (let h = can.tokens i f.channel f.place e in let same = f.many in omega arith)) to);
  room = λ i c is from. (let f = from_at i cs vs c many is in
      subst (λ (d : Channel). d.from ≡ a → held_after a n d ≤ get_or bounds i 0) f.is
      (λ e. (let h = can.room i f.channel f.place e in let same = f.many in omega arith)) from);
}

schedule_holding : (cs : List Channel) (vs : List (List ℤ)) (bounds n actors : List ℕ) → AllZip HasAsMany cs vs → IsSchedule cs bounds n actors
    → IsSchedule (channels_holding vs cs) bounds n actors
schedule_holding cs vs bounds n [] many able = tt
schedule_holding cs vs bounds n (a ∷ actors) many able =
    (can_fire cs vs bounds n a many able.0, schedule_holding cs vs bounds (fired n a) actors many able.1)

completes_holding : (cs : List Channel) (vs : List (List ℤ)) (q bounds : List ℕ) → AllZip HasAsMany cs vs → CompletesPeriod cs q bounds
    → CompletesPeriod (channels_holding vs cs) q bounds
completes_holding cs vs q bounds many done = record {
  each_channel = done.each_channel ∙ sym (length_holding cs vs many);
  initial = λ i c is. (let f = from_at i cs vs c many is in
      subst (λ (d : Channel). length d.initial ≤ get_or bounds i 0) f.is (let h = done.initial i f.channel f.place in let same = f.many in omega arith));
  reached = record {
    schedule = done.reached.schedule;
    able = schedule_holding cs vs bounds (no_firings q) done.reached.schedule many done.reached.able;
    leads = done.reached.leads;
  };
}

agrees_holding : (cs : List Channel) (vs : List (List ℤ)) (bounds : List ℕ) → AllZip HasAsMany cs vs → Agrees cs bounds → Agrees (channels_holding vs cs) bounds
agrees_holding cs vs bounds many agrees i c is =
    let f = from_at i cs vs c many is in
    subst (λ (d : Channel). IfSome d.capacity (λ given. get_or bounds i 0 ≡ given)) f.is (agrees i f.channel f.place)

completes_back : (cs : List Channel) (vs : List (List ℤ)) (q bounds : List ℕ) → AllZip HasAsMany cs vs → CompletesPeriod (channels_holding vs cs) q bounds
    → CompletesPeriod cs q bounds
completes_back cs vs q bounds many done =
    subst (λ (xs : List Channel). CompletesPeriod xs q bounds) (back_again cs vs many)
    (completes_holding (channels_holding vs cs) (initials cs) q bounds (many_again cs vs many) done)

agrees_back : (cs : List Channel) (vs : List (List ℤ)) (bounds : List ℕ) → AllZip HasAsMany cs vs → Agrees (channels_holding vs cs) bounds → Agrees cs bounds
agrees_back cs vs bounds many agrees =
    subst (λ (xs : List Channel). Agrees xs bounds) (back_again cs vs many)
    (agrees_holding (channels_holding vs cs) (initials cs) bounds (many_again cs vs many) agrees)

all_back : (P : Channel → Type 0) → ((c : Channel) (v : List ℤ) → P c → P (with_initial (c, v))) → (cs : List Channel) (vs : List (List ℤ))
    → AllZip HasAsMany cs vs → All P (channels_holding vs cs) → All P cs
all_back P keep cs vs many all =
    subst (λ (xs : List Channel). All P xs) (back_again cs vs many)
    (all_holding P P (λ c v same h. keep c v h) (channels_holding vs cs) (initials cs) (many_again cs vs many) all)

repetition_holding : (actors : List Actor) (cs : List Channel) (vs : List (List ℤ)) (r q : List ℕ) → AllZip HasAsMany cs vs → IsRepetition actors cs r q
    → IsRepetition actors (channels_holding vs cs) r q
repetition_holding actors cs vs r q many is = record {
  least = record {
    vector = is.least.vector;
    balances = all_holding (IsBalanced actors r) (IsBalanced actors r) (λ c v same h. h) cs vs many is.least.balances;
    least = λ w vector balances. is.least.least w vector (all_back (IsBalanced actors w) (λ c v h. h) cs vs many balances);
  };
  small = is.small;
  firings = is.firings;
  room = all_holding (λ c. full_capacity q c ≤ 65535) (λ c. full_capacity q c ≤ 65535) (λ c v same h. omega arith) cs vs many is.room;
}

-- ---- accepted

pub continued_accepted : ContinuedIsAccepted
continued_accepted a vs ok many =
    let cs : List Channel = a.graph.channels in
    record {
      well_formed = well_formed_holding a.graph vs many ok.well_formed;
      repetition = repetition_holding a.graph.actors cs vs a.r a.q many ok.repetition;
      least = record {
        completes = completes_holding cs vs a.q a.capacities many ok.least.completes;
        agrees = agrees_holding cs vs a.capacities many ok.least.agrees;
        least = λ w done agrees. ok.least.least w (completes_back cs vs a.q w many done) (agrees_back cs vs w many agrees);
      };
      small = ok.small;
    }

-- one channel alone
pub beginning_accepted : (a : Accepted) (n : ℕ) (v : List ℤ) → IsAccepted a → IfSome (slice_get a.graph.channels n) (λ c. HasAsMany c v)
    → IsAccepted (accepted_beginning n v a)
beginning_accepted a n v ok as_many =
    subst (λ (cs : List Channel). IsAccepted (record {
      graph = record { actors = a.graph.actors; channels = cs; cells = a.graph.cells };
      r = a.r;
      q = a.q;
      capacities = a.capacities;
    })) (beginning_is n v a.graph.channels)
    (continued_accepted a (with_one n v a.graph.channels) ok (many_with_one n v a.graph.channels as_many))

-- ---- one channel after the other

from_channels : ℕ → List (List ℤ) → List Channel → List Channel
from_channels n [] cs = cs
from_channels n (v ∷ vs) cs = from_channels (suc n) vs (channels_beginning n v cs)

from_later : (n : ℕ) (vs : List (List ℤ)) (c : Channel) (cs : List Channel) → from_channels (suc n) vs (c ∷ cs) ≡ c ∷ from_channels n vs cs
unfolding from_channels
from_later n [] c cs = refl
from_later n (v ∷ vs) c cs = from_later (suc n) vs c (channels_beginning n v cs)

from_first : (cs : List Channel) (vs : List (List ℤ)) → AllZip HasAsMany cs vs → from_channels 0 vs cs ≡ channels_holding vs cs
unfolding from_channels
from_first [] [] many = refl
from_first [] (v ∷ vs) many = absurd many
from_first (c ∷ cs) [] many = absurd many
from_first (c ∷ cs) (v ∷ vs) many =
    from_later 0 vs (with_initial (c, v)) cs ∙ ap (λ (xs : List Channel). with_initial (c, v) ∷ xs) (from_first cs vs many.1)

accepted_over : Accepted → List Channel → Accepted
accepted_over a cs = record { graph = record { actors = a.graph.actors; channels = cs; cells = a.graph.cells }; r = a.r; q = a.q; capacities = a.capacities }

beginning_over : (n : ℕ) (vs : List (List ℤ)) (a : Accepted) → beginning_from n vs a ≡ accepted_over a (from_channels n vs a.graph.channels)
unfolding from_channels accepted_over
beginning_over n [] a = refl
beginning_over n (v ∷ vs) a = beginning_over (suc n) vs (accepted_beginning n v a)

pub beginning_all : (a : Accepted) (vs : List (List ℤ)) → HaveAsMany vs a.graph.channels → beginning_from 0 vs a ≡ continued vs a
unfolding accepted_over
beginning_all a vs many = beginning_over 0 vs a ∙ ap (accepted_over a) (from_first a.graph.channels vs many)

-- the lists stay as long as the channels' own
pub many_still : (n : ℕ) (cs : List Channel) (vs : List (List ℤ)) → AllZip HasAsMany cs vs → AllZip HasAsMany (channels_beginning n (get_or vs n []) cs) vs
many_still n [] [] many = tt
many_still n [] (v ∷ vs) many = absurd many
many_still n (c ∷ cs) [] many = absurd many
many_still zero (c ∷ cs) (v ∷ vs) many = (refl, many.1)
many_still (suc n) (c ∷ cs) (v ∷ vs) many = (many.0, many_still n cs vs many.1)

pub many_at : (n : ℕ) (cs : List Channel) (vs : List (List ℤ)) → AllZip HasAsMany cs vs → IfSome (slice_get cs n) (λ c. HasAsMany c (get_or vs n []))
many_at n [] vs many = tt
many_at n (c ∷ cs) [] many = absurd many
many_at zero (c ∷ cs) (v ∷ vs) many = many.0
many_at (suc n) (c ∷ cs) (v ∷ vs) many = many_at n cs vs many.1

pub many_length : (cs : List Channel) (vs : List (List ℤ)) → AllZip HasAsMany cs vs → length vs ≡ length cs
many_length [] [] many = refl
many_length [] (v ∷ vs) many = absurd many
many_length (c ∷ cs) [] many = absurd many
many_length (c ∷ cs) (v ∷ vs) many = ap suc (many_length cs vs many.1)

-- ---- lists that are gone through

abbrev pub rest_of : {A : Type 0} → List A → List A
rest_of [] = []
rest_of (x ∷ xs) = xs

pub nothing : {A : Type 0} (xs : List A) → length xs ≡ 0 → xs ≡ []
nothing [] none = refl
nothing (x ∷ xs) none = absurd (omega arith)
