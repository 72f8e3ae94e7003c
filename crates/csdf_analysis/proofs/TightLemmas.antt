-- Given capacities that are below the channels' own least ones.
use Rattle.std.proofs.Common.{◌≡◌, ℕ, ◌+◌, ◌<◌, ◌≤◌, inl, inr, List, length, map, get_or, Option, Some, None, refl, sym, ap, subst, ◌∙◌, arith}
use Rattle.std.specs.Prelude.{Bool, false, true, IfSome, MatchOption, slice_get}
use Rattle.std.specs.Option.{is_some}
use Rattle.std.proofs.lemmas.Bool.{false≢true}
use Rattle.csdf_model.specs.Graph.{Channel}
use Rattle.csdf_analysis.specs.Period.{CompletesPeriod}
use Rattle.csdf_analysis.specs.Capacities.{IsTooTight, full_capacities}
use Rattle.csdf_analysis.specs.Alone.{EachHasEnough, IsOwnCapacity, IsOwnIfAny, IsEnough, HasEnough, IsFirstTight}
use Rattle.csdf_analysis.specs.declared.calls.alone.Tight.{Tight}
use Rattle.csdf_analysis.proofs.AloneLemmas.{completes_alone, own_needed}
use Rattle.csdf_analysis.proofs.CountLemmas.{less_or_not}

-- a given capacity that is no less than what was found is enough
pub enough_at : (q : List ℕ) (c : Channel) (given needs : ℕ) → IsOwnIfAny q c needs → needs ≤ given → IsEnough q c given
enough_at q c given needs own le w is =
    let less = is.least needs (own.own w is.completes).completes in
    omega arith

pub none_given : (o : Option ℕ) (q : List ℕ) (c : Channel) → o ≡ None → IfSome o (IsEnough q c)
none_given None q c is = tt
none_given (Some given) q c is = absurd (cc)

pub enough_given : (o : Option ℕ) (q : List ℕ) (c : Channel) (given : ℕ) → o ≡ Some given → IsEnough q c given → IfSome o (IsEnough q c)
enough_given o q c given is h = subst (λ (p : Option ℕ). IfSome p (IsEnough q c)) (sym is) h

-- no capacities that agree with one that is too small complete a period
pub tight_refused : (channels : List Channel) (q : List ℕ) (t : Tight) → IsFirstTight channels q t → CompletesPeriod channels q (full_capacities q channels)
    → IsTooTight channels q
tight_refused channels q t first full = record {
  full = full;
  none = λ w done agrees.
      (let own = first.tight.own.own _ (completes_alone channels q (full_capacities q channels) t.channel first.channel first.place full) in
      let need = own_needed channels q w t.channel first.channel t.needs done first.place own in
      let same : get_or w t.channel 0 ≡ t.given = subst (λ o. IfSome o (λ k. get_or w t.channel 0 ≡ k)) first.tight.is_given (agrees t.channel first.channel first.place) in
      let less = first.tight.less in
      absurd (omega arith));
}

pub refused_by : (channels : List Channel) (q : List ℕ) (found : Option Tight) (some : Bool)
    → MatchOption found (EachHasEnough channels q) (IsFirstTight channels q) → some ≡ is_some found → some ≡ true
    → CompletesPeriod channels q (full_capacities q channels) → IsTooTight channels q
refused_by channels q None some h is holds full = absurd (false≢true (sym is ∙ holds))
refused_by channels q (Some t) some h is holds full = tight_refused channels q t h full

-- no channel up to here and with this one is too tight
pub enough_more : (channels : List Channel) (q : List ℕ) (k : ℕ) (x : Channel) → slice_get channels k ≡ Some x → HasEnough q x
    → ((i : ℕ) (c : Channel) → i < k → slice_get channels i ≡ Some c → HasEnough q c)
    → (i : ℕ) (c : Channel) → i < k + 1 → slice_get channels i ≡ Some c → HasEnough q c
enough_more channels q k x is one before i c lt here = elim (less_or_not i k) [
  | inl less ↦ before i c less here
  | inr le ↦
      let place : k ≡ i = omega arith in
      let there : slice_get channels i ≡ Some x = ap (slice_get channels) (sym place) ∙ is in
      let same : x ≡ c = cc (there, here) in
      subst (HasEnough q) same one
]
