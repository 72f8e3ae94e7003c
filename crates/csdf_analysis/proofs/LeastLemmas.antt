-- From the members of all channels to the least vector, and the first channel that is refused.
use Rattle.std.proofs.Common.{◌≡◌, ℕ, suc, ◌+◌, ◌*◌, ◌<◌, ◌≤◌, List, [], ◌∷◌, ◌++◌, length, map, take, sym, ap, subst, ◌∙◌, arith}
use Rattle.std.specs.Prelude.{All, slice_index, slice_index_or}
use Rattle.std.proofs.Math.ListN.{get_or-map}
use Rattle.std.proofs.Math.Seq.{take-suc}
use Rattle.std.proofs.lemmas.List.{length-map}
use Rattle.std.proofs.lemmas.List.FromFn.{get_or-map-range_with_len, length-map-range_with_len}
use Rattle.std.proofs.lemmas.List.Elements.{All-nil, All-map, All-get_or, All-from_get_or}
use Rattle.csdf_model.specs.declared.parts.Channel.{Channel as ChannelCode}
use Rattle.csdf_model.specs.Graph.{Actor, Channel, channel_view}
use Rattle.csdf_analysis.specs.declared.members.Member.{Member}
use Rattle.csdf_analysis.specs.Repetition.{cycle_produced, cycle_consumed, Balances, IsVector, IsSmall, IsLeastRepetition, CanBalance, IsFirstUnbalanced}
use Rattle.csdf_analysis.specs.Members.{nobody, group_at, entry_at, AreEntries, AreMembers, alone}
use Rattle.csdf_analysis.proofs.MemberLemmas.{multiple_le}

-- ---- the beginning

alone_at : (n a : ℕ) → a < n → slice_index_or (alone n) a nobody ≡ record { group = a; entry = 1 }
alone_at n a lt = get_or-map-range_with_len (λ i. record { group = i; entry = 1 }) 0 n a a nobody lt (omega arith)

pub alone_members : (actors : List Actor) → AreMembers actors [] (alone (length actors))
alone_members actors =
    let n = length actors in
    let len : length (alone n) ≡ n = length-map-range_with_len (λ i. record { group = i; entry = 1 }) 0 n in
    record {
      entries = record {
        each_actor = len;
        within = All-from_get_or (λ (m : Member). (1 ≤ m.entry) × (m.entry ≤ 1024)) (alone n) nobody (λ a lt.
            let one : entry_at (alone n) a ≡ 1 = ap (λ (m : Member). m.entry) (alone_at n a (omega arith)) in
            (omega arith, omega arith));
      };
      ends = All-nil (λ (d : Channel). (d.from < n) × (d.to < n));
      balanced = All-nil (λ (d : Channel). entry_at (alone n) d.from * cycle_produced actors d ≡ entry_at (alone n) d.to * cycle_consumed actors d);
      joined = All-nil (λ (d : Channel). group_at (alone n) d.from ≡ group_at (alone n) d.to);
      every = λ w balances. (
        λ a. slice_index w a,
        λ a lt.
            let group : a ≡ group_at (alone n) a = ap (λ (m : Member). m.group) (sym (alone_at n a lt)) in
            let one : 1 ≡ entry_at (alone n) a = ap (λ (m : Member). m.entry) (sym (alone_at n a lt)) in
            (let whole : slice_index w a ≡ slice_index w a * 1 = omega arith in whole) ∙ ap (λ e. slice_index w a * e) one
            ∙ ap (λ g. slice_index w g * entry_at (alone n) a) group,
      );
    }

-- ---- one channel more

pub front_and_next : (cs : List Channel) (i : ℕ) (c : Channel) → i < length cs → slice_index_or cs i c ≡ c → take (suc i) cs ≡ take i cs ++ c ∷ []
front_and_next cs i c lt at = take-suc cs i c lt ∙ ap (λ d. take i cs ++ d ∷ []) at

-- ---- the entries as a vector

abbrev pub entries_of : List Member → List ℕ
entries_of ms = map (λ (m : Member). m.entry) ms

pub entries_at : (ms : List Member) (a : ℕ) → slice_index (entries_of ms) a ≡ entry_at ms a
entries_at ms a = get_or-map (λ (m : Member). m.entry) ms a nobody

pub entries_vector : (actors : List Actor) (ms : List Member) → AreEntries (length actors) ms → IsVector actors (entries_of ms)
entries_vector actors ms entries = record {
  each_actor = length-map ms (λ (m : Member). m.entry) ∙ entries.each_actor;
  positive = All-map (λ n. 1 ≤ n) (λ (m : Member). m.entry) ms (λ i d lt. (entries.within i d lt).0);
}

pub entries_small : (actors : List Actor) (ms : List Member) → AreEntries (length actors) ms → IsSmall (entries_of ms)
entries_small actors ms entries = All-map (λ n. n ≤ 1024) (λ (m : Member). m.entry) ms (λ i d lt. (entries.within i d lt).1)

pub entries_balance : (actors : List Actor) (channels : List Channel) (ms : List Member) → AreMembers actors channels ms
    → Balances actors (entries_of ms) channels
entries_balance actors channels ms members i d lt =
    let c = slice_index_or channels i d in
    ap (λ n. n * cycle_produced actors c) (entries_at ms c.from) ∙ members.balanced i d lt ∙ ap (λ n. n * cycle_consumed actors c) (sym (entries_at ms c.to))

pub members_can : (actors : List Actor) (channels : List Channel) (ms : List Member) → AreMembers actors channels ms → CanBalance actors channels
members_can actors channels ms members = record {
  r = entries_of ms;
  vector = entries_vector actors ms members.entries;
  small = entries_small actors ms members.entries;
  balances = entries_balance actors channels ms members;
}

pub members_least : (actors : List Actor) (channels : List Channel) (ms : List Member) → AreMembers actors channels ms
    → IsLeastRepetition actors channels (entries_of ms)
members_least actors channels ms members = record {
  vector = entries_vector actors ms members.entries;
  balances = entries_balance actors channels ms members;
  least = λ w vector balances a lt.
      let len = length-map ms (λ (m : Member). m.entry) in
      let here : a < length w = omega (arith, len, members.entries.each_actor, vector.each_actor) in
      let found = members.every w balances in
      let some : 1 ≤ slice_index w a = All-get_or (λ n. 1 ≤ n) w a 0 here vector.positive in
      subst (λ n. n ≤ slice_index w a) (sym (entries_at ms a))
      (multiple_le (found.0 (group_at ms a)) (entry_at ms a) (slice_index w a) (found.1 a (omega (arith, vector.each_actor))) some);
}

-- ---- the first channel that is refused

pub first_unbalanced : (actors : List Actor) (channels : List Channel) (ms : List Member) (i : ℕ) (c : Channel) → i < length channels
    → slice_index_or channels i c ≡ c → AreMembers actors (take i channels) ms →
    ((done : List Channel) → AreMembers actors done ms → CanBalance actors (done ++ c ∷ []) → ⊥) → IsFirstUnbalanced actors channels i
first_unbalanced actors channels ms i c lt at members refuses = record {
  exists = lt;
  before = members_can actors (take i channels) ms members;
  with_it = λ can. refuses (take i channels) members (subst (λ cs. CanBalance actors cs) (front_and_next channels i c lt at) can);
}

pub next_members : (actors : List Actor) (channels : List Channel) (ms next : List Member) (i : ℕ) (c : Channel) → i < length channels
    → slice_index_or channels i c ≡ c → AreMembers actors (take i channels) ms →
    ((done : List Channel) → AreMembers actors done ms → AreMembers actors (done ++ c ∷ []) next) → AreMembers actors (take (i + 1) channels) next
next_members actors channels ms next i c lt at members keeps =
    let one : suc i ≡ i + 1 = omega arith in
    subst (λ cs. AreMembers actors cs next) (sym (front_and_next channels i c lt at) ∙ ap (λ n. take n channels) one) (keeps (take i channels) members)

-- ---- what the code reads

pub channel_at : (channels : List ChannelCode) (i : ℕ) (x : ChannelCode) → x ≡ slice_index_or channels i x
    → slice_index_or (map channel_view channels) i (channel_view x) ≡ channel_view x
channel_at channels i x is = get_or-map channel_view channels i x ∙ ap channel_view (sym is)

pub channel_has : (P : Channel → Type 0) (channels : List ChannelCode) (i : ℕ) (x : ChannelCode) → i < length channels → x ≡ slice_index_or channels i x
    → All P (map channel_view channels) → P (channel_view x)
channel_has P channels i x lt is all =
    let len = length-map channels channel_view in
    subst P (channel_at channels i x is) (all i (channel_view x) (omega (arith, len)))
