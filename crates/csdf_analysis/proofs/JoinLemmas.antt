-- What a channel makes of the members: the cases of a merge, of one group, and of a refusal.
use Rattle.std.proofs.Common.{◌≡◌, ◌≢◌, ℕ, zero, suc, ◌+◌, ◌*◌, ◌/◌, ◌<◌, ◌≤◌, ◌==◌, if◌then◌else◌, List, [], ◌∷◌, ◌++◌, length, map, sym, ap, subst, ◌∙◌}
use Rattle.std.proofs.Common.{arith, mul-le-mul}
use Rattle.std.specs.Prelude.{All, slice_index, slice_index_or, Option, Some, None}
use Rattle.std.proofs.lemmas.List.{length-map, get_or_default}
use Rattle.std.proofs.lemmas.List.Elements.{All-push, All-same, All-get_or, All-from_get_or}
use Rattle.csdf_model.specs.Graph.{Actor, Channel}
use Rattle.csdf_analysis.specs.declared.members.Member.{Member}
use Rattle.csdf_analysis.specs.declared.members.Merge.{Merge}
use Rattle.csdf_analysis.specs.Divisor.{IsGreatestDivisor}
use Rattle.csdf_analysis.specs.Repetition.{cycle_produced, cycle_consumed, IsBalanced, Balances, CanBalance}
use Rattle.csdf_analysis.specs.Members.{nobody, group_at, entry_at, IsLink, AreEntries, AreMembers, factor, moved, Moves, IsMergeOf, Joins}
use Rattle.csdf_analysis.proofs.DivisorLemmas.{cancel_left, parts_of_multiples, parts_balance, part_some}
use Rattle.csdf_analysis.proofs.MemberLemmas.{All-front, All-last, multiple_le, group_moved, entry_moved, multiplier, multiple_moved, factor_gone, factor_into}
use Rattle.csdf_analysis.proofs.MemberLemmas.{group_gone, group_into, factor_some}

-- what a cycle of the producer, so many times as its entry, puts in; and likewise what is taken out
abbrev pub put_of : List Actor → Channel → List Member → ℕ
put_of actors c ms = entry_at ms c.from * cycle_produced actors c

abbrev pub taken_of : List Actor → Channel → List Member → ℕ
taken_of actors c ms = entry_at ms c.to * cycle_consumed actors c

-- a merge of the groups of the channel's ends, by the parts that the divisor leaves
pub record IsMerge (actors : List Actor) (c : Channel) (ms : List Member) (m : Merge) (g : ℕ) : Type 0 where
  pub gone : group_at ms c.from ≡ m.gone
  pub into : group_at ms c.to ≡ m.into
  pub apart : m.gone ≢ m.into
  pub divisor : IsGreatestDivisor (put_of actors c ms) (taken_of actors c ms) g
  pub gone_factor : m.gone_factor ≡ taken_of actors c ms / g
  pub into_factor : m.into_factor ≡ put_of actors c ms / g

product_some : (m n : ℕ) → 1 ≤ m → 0 < n → 0 < m * n
product_some zero n a b = absurd (omega arith)
product_some (suc m) n a b = let more : suc m * n ≡ m * n + n = omega arith in omega arith

pub entry_some : (n : ℕ) (ms : List Member) (a : ℕ) → AreEntries n ms → a < n → 1 ≤ entry_at ms a
entry_some n ms a entries lt = (All-get_or (λ (x : Member). (1 ≤ x.entry) × (x.entry ≤ 1024)) ms a nobody (omega (arith, entries.each_actor)) entries.within).0

taken_some : (actors : List Actor) (c : Channel) (ms : List Member) → IsLink actors c → AreEntries (length actors) ms → 0 < taken_of actors c ms
taken_some actors c ms link entries = product_some (entry_at ms c.to) (cycle_consumed actors c) (entry_some (length actors) ms c.to entries link.to)
    link.some_taken

put_some : (actors : List Actor) (c : Channel) (ms : List Member) → IsLink actors c → AreEntries (length actors) ms → 0 < put_of actors c ms
put_some actors c ms link entries = product_some (entry_at ms c.from) (cycle_produced actors c) (entry_some (length actors) ms c.from entries link.from)
    link.some_put

-- ---- a merge

scaled_same : (p q : ℕ) (u v e f pe ce : ℕ) → u ≡ p * e → v ≡ q * f → u * pe ≡ v * ce → p * (e * pe) ≡ q * (f * ce)
scaled_same p q u v e f pe ce at_u at_v same =
    (let order : p * (e * pe) ≡ (p * e) * pe = omega arith in order) ∙ ap (λ n. n * pe) (sym at_u) ∙ same ∙ ap (λ n. n * ce) at_v
    ∙ (let order : (q * f) * ce ≡ q * (f * ce) = omega arith in order)

-- every vector that balances the channels and the new one is on each group a multiple of the new entries
pub every_merged : (actors : List Actor) (done : List Channel) (c : Channel) (ms : List Member) (m : Merge) (g : ℕ) → IsLink actors c → IsMerge actors c ms m g
    → AreMembers actors done ms →
    (w : List ℕ) → Balances actors w (done ++ c ∷ []) → (k : ℕ → ℕ)
    × ((a : ℕ) → a < length actors → slice_index w a ≡ k (group_at (map (moved m) ms) a) * entry_at (map (moved m) ms) a)
every_merged actors done c ms m g link merge members w balances =
    let before = members.every w (All-front (IsBalanced actors w) done c balances) in
    let k = before.0 in
    let new : IsBalanced actors w c = All-last (IsBalanced actors w) done c balances in
    let same : k (group_at ms c.from) * put_of actors c ms ≡ k (group_at ms c.to) * taken_of actors c ms =
    scaled_same (k (group_at ms c.from)) (k (group_at ms c.to)) (slice_index w c.from) (slice_index w c.to) (entry_at ms c.from) (entry_at ms c.to)
    (cycle_produced actors c) (cycle_consumed actors c)
    (before.1 c.from link.from) (before.1 c.to link.to) new in
    let parts = parts_of_multiples (put_of actors c ms) (taken_of actors c ms) g (k (group_at ms c.from)) (k (group_at ms c.to)) merge.divisor
    (taken_some actors c ms link members.entries) same in
    let at_gone : k m.gone ≡ parts.0 * m.gone_factor = ap k (sym merge.gone) ∙ parts.1 ∙ ap (λ n. parts.0 * n) (sym merge.gone_factor) in
    let at_into : k m.into ≡ parts.0 * m.into_factor = ap k (sym merge.into) ∙ parts.2 ∙ ap (λ n. parts.0 * n) (sym merge.into_factor) in (
      multiplier m k parts.0,
      λ a lt.
          let here : a < length ms = omega (arith, members.entries.each_actor) in
          multiple_moved m k parts.0 (group_at ms a) (entry_at ms a) (slice_index w a) at_gone at_into (before.1 a lt)
          ∙ ap (λ n. multiplier m k parts.0 n * (entry_at ms a * factor m (group_at ms a))) (sym (group_moved m ms a here))
          ∙ ap (λ n. multiplier m k parts.0 (group_at (map (moved m) ms) a) * n) (sym (entry_moved m ms a here)),
    )

-- a channel within one group stays balanced
scaled_balance : (m : Merge) (r s u v p q : ℕ) → r ≡ s → u * p ≡ v * q → (u * factor m r) * p ≡ (v * factor m s) * q
scaled_balance m r s u v p q group same =
    (let order : (u * factor m r) * p ≡ factor m r * (u * p) = omega arith in order) ∙ ap (λ n. factor m n * (u * p)) group ∙ ap (λ n. factor m s * n) same
    ∙ (let order : factor m s * (v * q) ≡ (v * factor m s) * q = omega arith in order)

kept_balance : (m : Merge) (ms : List Member) (f t p q : ℕ) → f < length ms → t < length ms → group_at ms f ≡ group_at ms t
    → entry_at ms f * p ≡ entry_at ms t * q → entry_at (map (moved m) ms) f * p ≡ entry_at (map (moved m) ms) t * q
kept_balance m ms f t p q lf lt group same =
    ap (λ n. n * p) (entry_moved m ms f lf) ∙ scaled_balance m (group_at ms f) (group_at ms t) (entry_at ms f) (entry_at ms t) p q group same
    ∙ ap (λ n. n * q) (sym (entry_moved m ms t lt))

kept_group : (m : Merge) (ms : List Member) (f t : ℕ) → f < length ms → t < length ms → group_at ms f ≡ group_at ms t
    → group_at (map (moved m) ms) f ≡ group_at (map (moved m) ms) t
kept_group m ms f t lf lt group = group_moved m ms f lf ∙ ap (λ r. if r == m.gone then m.into else r) group ∙ sym (group_moved m ms t lt)

-- the new channel is balanced, and its ends are of one group
new_balance : (actors : List Actor) (c : Channel) (ms : List Member) (m : Merge) (g : ℕ) → IsLink actors c → IsMerge actors c ms m g → length ms ≡ length actors
    → entry_at (map (moved m) ms) c.from * cycle_produced actors c ≡ entry_at (map (moved m) ms) c.to * cycle_consumed actors c
new_balance actors c ms m g link merge len =
    let f : c.from < length ms = omega (arith, len, link.from) in
    let t : c.to < length ms = omega (arith, len, link.to) in
    let p = cycle_produced actors c in
    let q = cycle_consumed actors c in
    let u = entry_at ms c.from in
    let v = entry_at ms c.to in
    let first : factor m (group_at ms c.from) ≡ taken_of actors c ms / g = factor_gone m (group_at ms c.from) merge.gone ∙ merge.gone_factor in
    let second : factor m (group_at ms c.to) ≡ put_of actors c ms / g = factor_into m (group_at ms c.to) merge.into merge.apart ∙ merge.into_factor in
    ap (λ n. n * p) (entry_moved m ms c.from f) ∙ ap (λ n. (u * n) * p) first
    ∙ (let order : (u * (taken_of actors c ms / g)) * p ≡ (u * p) * (taken_of actors c ms / g) = omega arith in order)
    ∙ parts_balance (put_of actors c ms) (taken_of actors c ms) g merge.divisor
    ∙ (let order : (v * q) * (put_of actors c ms / g) ≡ (v * (put_of actors c ms / g)) * q = omega arith in order)
    ∙ ap (λ n. (v * n) * q) (sym second) ∙ ap (λ n. n * q) (sym (entry_moved m ms c.to t))

new_group : (actors : List Actor) (c : Channel) (ms : List Member) (m : Merge) (g : ℕ) → IsLink actors c → IsMerge actors c ms m g → length ms ≡ length actors
    → group_at (map (moved m) ms) c.from ≡ group_at (map (moved m) ms) c.to
new_group actors c ms m g link merge len =
    let f : c.from < length ms = omega (arith, len, link.from) in
    let t : c.to < length ms = omega (arith, len, link.to) in
    group_moved m ms c.from f ∙ group_gone m (group_at ms c.from) merge.gone ∙ sym (group_into m (group_at ms c.to) merge.into) ∙ sym (group_moved m ms c.to t)

entries_merged : (actors : List Actor) (c : Channel) (ms : List Member) (m : Merge) (g : ℕ) → IsLink actors c → IsMerge actors c ms m g
    → AreEntries (length actors) ms → All (λ (a : Member). a.entry ≤ 1024) (map (moved m) ms) → AreEntries (length actors) (map (moved m) ms)
entries_merged actors c ms m g link merge entries small =
    let same : length (map (moved m) ms) ≡ length ms = length-map ms (moved m) in
    let first : 1 ≤ m.gone_factor = subst (λ n. 1 ≤ n) (sym merge.gone_factor)
    (part_some (taken_of actors c ms) g merge.divisor.second (taken_some actors c ms link entries)) in
    let second : 1 ≤ m.into_factor = subst (λ n. 1 ≤ n) (sym merge.into_factor)
    (part_some (put_of actors c ms) g merge.divisor.first (put_some actors c ms link entries)) in
    record {
      each_actor = same ∙ entries.each_actor;
      within = All-from_get_or (λ (x : Member). (1 ≤ x.entry) × (x.entry ≤ 1024)) (map (moved m) ms) nobody (λ a lt.
          let here : a < length ms = omega (arith, same) in
          let some : 1 ≤ entry_at ms a = entry_some (length actors) ms a entries (omega (arith, entries.each_actor)) in
          let scaled : 0 < entry_at ms a * factor m (group_at ms a) =
          product_some (entry_at ms a) (factor m (group_at ms a)) some (factor_some m (group_at ms a) first second) in
          (subst (λ n. 1 ≤ n) (sym (entry_moved m ms a here)) scaled, All-get_or (λ (x : Member). x.entry ≤ 1024) (map (moved m) ms) a nobody lt small));
    }

pub merge_keeps : (actors : List Actor) (done : List Channel) (c : Channel) (ms : List Member) (m : Merge) (g : ℕ) → IsLink actors c → IsMerge actors c ms m g
    → All (λ (a : Member). a.entry ≤ 1024) (map (moved m) ms) → AreMembers actors done ms → AreMembers actors (done ++ c ∷ []) (map (moved m) ms)
merge_keeps actors done c ms m g link merge small members =
    let len = members.entries.each_actor in
    record {
      entries = entries_merged actors c ms m g link merge members.entries small;
      ends = All-push (λ (d : Channel). (d.from < length actors) × (d.to < length actors)) done c members.ends (link.from, link.to);
      balanced = All-push (λ (d : Channel). entry_at (map (moved m) ms) d.from * cycle_produced actors d ≡ entry_at (map (moved m) ms) d.to
          * cycle_consumed actors d) done c
          (λ i d lt. let x = slice_index_or done i d in let ends = members.ends i d lt in
          kept_balance m ms x.from x.to (cycle_produced actors x) (cycle_consumed actors x) (omega (arith, len, ends.0)) (omega (arith, len, ends.1))
          (members.joined i d lt) (members.balanced i d lt))
          (new_balance actors c ms m g link merge len);
      joined = All-push (λ (d : Channel). group_at (map (moved m) ms) d.from ≡ group_at (map (moved m) ms) d.to) done c
          (λ i d lt. let x = slice_index_or done i d in let ends = members.ends i d lt in
          kept_group m ms x.from x.to (omega (arith, len, ends.0)) (omega (arith, len, ends.1)) (members.joined i d lt))
          (new_group actors c ms m g link merge len);
      every = every_merged actors done c ms m g link merge members;
    }

-- an entry that is too great refuses every vector
pub merge_refuses : (actors : List Actor) (done : List Channel) (c : Channel) (ms : List Member) (m : Merge) (g a : ℕ) → IsLink actors c
    → IsMerge actors c ms m g → a < length ms → 1024 < entry_at (map (moved m) ms) a → AreMembers actors done ms → CanBalance actors (done ++ c ∷ []) → ⊥
merge_refuses actors done c ms m g a link merge lt above members can =
    let len = members.entries.each_actor in
    let here : a < length can.r = omega (arith, len, can.vector.each_actor) in
    let found = every_merged actors done c ms m g link merge members can.r can.balances in
    let some : 1 ≤ slice_index can.r a = All-get_or (λ n. 1 ≤ n) can.r a 0 here can.vector.positive in
    let small : slice_index can.r a ≤ 1024 = All-get_or (λ n. n ≤ 1024) can.r a 0 here can.small in
    let least : entry_at (map (moved m) ms) a ≤ slice_index can.r a =
    multiple_le (found.0 (group_at (map (moved m) ms) a)) (entry_at (map (moved m) ms) a) (slice_index can.r a) (found.1 a (omega (arith, len))) some in
    omega arith

-- ---- within one group

pub same_keeps : (actors : List Actor) (done : List Channel) (c : Channel) (ms : List Member) → IsLink actors c → group_at ms c.from ≡ group_at ms c.to
    → put_of actors c ms ≡ taken_of actors c ms → AreMembers actors done ms → AreMembers actors (done ++ c ∷ []) ms
same_keeps actors done c ms link group same members = record {
  entries = members.entries;
  ends = All-push (λ (d : Channel). (d.from < length actors) × (d.to < length actors)) done c members.ends (link.from, link.to);
  balanced = All-push (λ (d : Channel). entry_at ms d.from * cycle_produced actors d ≡ entry_at ms d.to * cycle_consumed actors d) done c members.balanced same;
  joined = All-push (λ (d : Channel). group_at ms d.from ≡ group_at ms d.to) done c members.joined group;
  every = λ w balances. members.every w (All-front (IsBalanced actors w) done c balances);
}

some_multiplier : (k e w : ℕ) → w ≡ k * e → 1 ≤ w → 0 < k
some_multiplier zero e w is some = let none : 0 * e ≡ 0 = omega arith in absurd (omega arith)
some_multiplier (suc k) e w is some = omega arith

pub same_refuses : (actors : List Actor) (done : List Channel) (c : Channel) (ms : List Member) → IsLink actors c → group_at ms c.from ≡ group_at ms c.to
    → put_of actors c ms ≢ taken_of actors c ms → AreMembers actors done ms → CanBalance actors (done ++ c ∷ []) → ⊥
same_refuses actors done c ms link group differ members can =
    let before = members.every can.r (All-front (IsBalanced actors can.r) done c can.balances) in
    let k = before.0 in
    let new : IsBalanced actors can.r c = All-last (IsBalanced actors can.r) done c can.balances in
    let some : 1 ≤ slice_index can.r c.from = All-get_or (λ n. 1 ≤ n) can.r c.from 0 (omega (arith, can.vector.each_actor, link.from)) can.vector.positive in
    let same : k (group_at ms c.from) * put_of actors c ms ≡ k (group_at ms c.to) * taken_of actors c ms =
    scaled_same (k (group_at ms c.from)) (k (group_at ms c.to)) (slice_index can.r c.from) (slice_index can.r c.to) (entry_at ms c.from) (entry_at ms c.to)
    (cycle_produced actors c) (cycle_consumed actors c)
    (before.1 c.from link.from) (before.1 c.to link.to) new in
    let multiplier_some : 0 < k (group_at ms c.from) =
    some_multiplier (k (group_at ms c.from)) (entry_at ms c.from) (slice_index can.r c.from) (before.1 c.from link.from) some in
    differ (cancel_left (k (group_at ms c.from)) (put_of actors c ms) (taken_of actors c ms) multiplier_some (same
    ∙ ap (λ r. k r * taken_of actors c ms) (sym group)))

-- ---- both

same_small : (xs ys : List Member) → xs ≡ ys → All (λ (a : Member). a.entry ≤ 1024) xs → All (λ (a : Member). a.entry ≤ 1024) ys
same_small xs ys e all = All-same (λ (a : Member). a.entry ≤ 1024) ys xs (sym e) all

pub merge_joins : (actors : List Actor) (c : Channel) (ms : List Member) (m : Merge) (g : ℕ) → IsLink actors c → IsMerge actors c ms m g
    → (next : Option (List Member)) → Moves m ms next → Joins actors c ms next
merge_joins actors c ms m g link merge None (a, lt, above) = λ done members can. merge_refuses actors done c ms m g a link merge lt above members can
merge_joins actors c ms m g link merge (Some v) (is, small) = λ done members.
    subst (λ (xs : List Member). AreMembers actors (done ++ c ∷ []) xs) (sym is)
    (merge_keeps actors done c ms m g link merge (same_small v (map (moved m) ms) is small) members)

-- ---- what the code reads

read_at : (ms : List Member) (a : ℕ) (x : Member) → a < length ms → x ≡ slice_index_or ms a x → x ≡ slice_index_or ms a nobody
read_at ms a x lt e = e ∙ get_or_default ms a x nobody lt

pub merge_read : (actors : List Actor) (c : Channel) (ms : List Member) (m : Merge) (from to : Member) (put taken : ℕ) → IsLink actors c
    → AreEntries (length actors) ms →
    from ≡ slice_index_or ms c.from from → to ≡ slice_index_or ms c.to to → put ≡ from.entry * cycle_produced actors c
    → taken ≡ to.entry * cycle_consumed actors c → from.group ≢ to.group →
    (merge : IsMergeOf from to put taken m) → IsMerge actors c ms m merge.divisor
merge_read actors c ms m from to put taken link entries at_from at_to is_put is_taken apart merge =
    let one : from ≡ slice_index_or ms c.from nobody = read_at ms c.from from (omega (arith, entries.each_actor, link.from)) at_from in
    let two : to ≡ slice_index_or ms c.to nobody = read_at ms c.to to (omega (arith, entries.each_actor, link.to)) at_to in
    let put_is : put ≡ put_of actors c ms = is_put ∙ ap (λ (x : Member). x.entry * cycle_produced actors c) one in
    let taken_is : taken ≡ taken_of actors c ms = is_taken ∙ ap (λ (x : Member). x.entry * cycle_consumed actors c) two in
    record {
      gone = ap (λ (x : Member). x.group) (sym one) ∙ sym merge.gone;
      into = ap (λ (x : Member). x.group) (sym two) ∙ sym merge.into;
      apart = λ e. apart (sym merge.gone ∙ e ∙ merge.into);
      divisor = subst (λ n. IsGreatestDivisor n (taken_of actors c ms) merge.divisor) put_is
          (subst (λ n. IsGreatestDivisor put n merge.divisor) taken_is merge.greatest);
      gone_factor = merge.gone_factor ∙ ap (λ n. n / merge.divisor) taken_is;
      into_factor = merge.into_factor ∙ ap (λ n. n / merge.divisor) put_is;
    }

pub same_group_read : (actors : List Actor) (c : Channel) (ms : List Member) (from to : Member) → IsLink actors c → AreEntries (length actors) ms
    → from ≡ slice_index_or ms c.from from → to ≡ slice_index_or ms c.to to → from.group ≡ to.group → group_at ms c.from ≡ group_at ms c.to
same_group_read actors c ms from to link entries at_from at_to same =
    let one : from ≡ slice_index_or ms c.from nobody = read_at ms c.from from (omega (arith, entries.each_actor, link.from)) at_from in
    let two : to ≡ slice_index_or ms c.to nobody = read_at ms c.to to (omega (arith, entries.each_actor, link.to)) at_to in
    ap (λ (x : Member). x.group) (sym one) ∙ same ∙ ap (λ (x : Member). x.group) two

pub put_read : (actors : List Actor) (c : Channel) (ms : List Member) (from : Member) (put : ℕ) → IsLink actors c → AreEntries (length actors) ms
    → from ≡ slice_index_or ms c.from from → put ≡ from.entry * cycle_produced actors c → put ≡ put_of actors c ms
put_read actors c ms from put link entries at_from is_put =
    let one : from ≡ slice_index_or ms c.from nobody = read_at ms c.from from (omega (arith, entries.each_actor, link.from)) at_from in
    is_put ∙ ap (λ (x : Member). x.entry * cycle_produced actors c) one

pub taken_read : (actors : List Actor) (c : Channel) (ms : List Member) (to : Member) (taken : ℕ) → IsLink actors c → AreEntries (length actors) ms
    → to ≡ slice_index_or ms c.to to → taken ≡ to.entry * cycle_consumed actors c → taken ≡ taken_of actors c ms
taken_read actors c ms to taken link entries at_to is_taken =
    let two : to ≡ slice_index_or ms c.to nobody = read_at ms c.to to (omega (arith, entries.each_actor, link.to)) at_to in
    is_taken ∙ ap (λ (x : Member). x.entry * cycle_consumed actors c) two

product_within : (m n : ℕ) → m ≤ 1024 → n ≤ 1024 → m * n ≤ 1048576
product_within m n a b = let most : m * n ≤ 1024 * 1024 = mul-le-mul a b in omega arith

pub entry_few : (n : ℕ) (ms : List Member) (a : ℕ) → AreEntries n ms → a < n → entry_at ms a ≤ 1024
entry_few n ms a entries lt = (All-get_or (λ (x : Member). (1 ≤ x.entry) × (x.entry ≤ 1024)) ms a nobody (omega (arith, entries.each_actor)) entries.within).1

pub put_within : (actors : List Actor) (c : Channel) (ms : List Member) (put : ℕ) → IsLink actors c → AreEntries (length actors) ms → put ≡ put_of actors c ms
    → (1 ≤ put) × (put ≤ 1048576)
put_within actors c ms put link entries is =
    let some : 0 < put_of actors c ms = put_some actors c ms link entries in
    let few : put_of actors c ms ≤ 1048576 = product_within (entry_at ms c.from) (cycle_produced actors c)
    (entry_few (length actors) ms c.from entries link.from) link.few_put in
    (omega arith, omega arith)

pub taken_within : (actors : List Actor) (c : Channel) (ms : List Member) (taken : ℕ) → IsLink actors c → AreEntries (length actors) ms
    → taken ≡ taken_of actors c ms → (1 ≤ taken) × (taken ≤ 1048576)
taken_within actors c ms taken link entries is =
    let some : 0 < taken_of actors c ms = taken_some actors c ms link entries in
    let few : taken_of actors c ms ≤ 1048576 = product_within (entry_at ms c.to) (cycle_consumed actors c) (entry_few (length actors) ms c.to entries link.to)
    link.few_taken in
    (omega arith, omega arith)
