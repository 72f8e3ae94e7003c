-- Tokens that are read one source after the other, and runs over them.
use Rattle.std.proofs.Common.{◌≡◌, ℕ, suc, ◌+◌, Bool, true, false, cond, List, [], ◌∷◌, ◌++◌, length, drop, get_or, refl, ap, sym, subst, ◌∙◌, arith, Result, Ok, Err}
use Rattle.std.specs.Prelude.{ℤ, IfErr, IfOk}
use Rattle.std.specs.List.{filter}
use Rattle.std.specs.Global.{Vec}
use Rattle.csdf_bytes.specs.declared.tokens.TokenFault.{TokenFault}
use Rattle.csdf_model.specs.Graph.{Actor, Graph}
use Rattle.csdf_analysis.specs.Acceptance.{Accepted}
use Rattle.csdf_analysis.specs.declared.room.Room.{Room}
use Rattle.csdf_analysis.specs.Room.{IsWithRoom}
use Rattle.csdf_core.specs.Planned.{is_source_kernel}
use Rattle.csdf_floor.specs.declared.outcome.Outcome.{Outcome}
use Rattle.csdf_floor.specs.Work.{feeds_in}
use Rattle.csdf_run.specs.declared.no_outcome.NoOutcome.{NoOutcome}
use Rattle.csdf_run.specs.declared.tokens.TokensFault.{TokensFault}
use Rattle.csdf_run.specs.declared.tokens.TokensFault.TheVariants as fault
use Rattle.csdf_run.specs.Texts.{◌>>=◌, AreTextsOf, IsInRoom, feed_in, feeds_from, source_count}
use Rattle.csdf_run.specs.Tokens.{AreReadOf, with_last}
use Rattle.csdf_run.proofs.RoomTexts.{bare_with}

-- ---- one actor more

abbrev Read : Type 0 → Type 0
Read A = Result A (ℕ × TokenFault)

behind : (first : List ℤ) (read : Read (List (List ℤ))) (last : Read (List ℤ))
    → (with_last read last >>= λ feeds. Ok (first ∷ feeds)) ≡ with_last (read >>= λ feeds. Ok (first ∷ feeds)) last
behind first (Ok front) (Ok feed) = refl
behind first (Ok front) (Err why) = refl
behind first (Err why) last = refl

source_behind : (first : Read (List ℤ)) (read : Read (List (List ℤ))) (last : Read (List ℤ))
    → (first >>= λ feed. with_last read last >>= λ feeds. Ok (feed ∷ feeds)) ≡ with_last (first >>= λ feed. read >>= λ feeds. Ok (feed ∷ feeds)) last
source_behind (Ok feed) read last = behind feed read last
source_behind (Err why) read last = refl

-- the tokens for an actor, which is a source or not, and for those behind it
abbrev both : ℕ → Bool → List (List ℕ) → List Actor → Read (List (List ℤ))
both a b ts xs =
    cond b (feed_in a (get_or ts 0 []) >>= λ feed. feeds_from (suc a) xs (drop 1 ts) >>= λ feeds. Ok (feed ∷ feeds))
    (feeds_from (suc a) xs ts >>= λ feeds. Ok ([] ∷ feeds))

-- the sources among actors
abbrev pub sources_among : List Actor → List Actor
sources_among actors = filter (λ (a : Actor). is_source_kernel a.kernel) actors

module _ (actor : Actor) (more : List (List ℕ)) (of : ℕ → Read (List ℤ)) (one : (b : ℕ) → feeds_from b (actor ∷ []) more ≡ (of b >>= λ feed. Ok (feed ∷ []))) where
  pub feeds_push : (a : ℕ) (actors : List Actor) (texts : List (List ℕ)) → length texts ≡ length (sources_among actors)
      → feeds_from a (actors ++ actor ∷ []) (texts ++ more) ≡ with_last (feeds_from a actors texts) (of (a + length actors))
  feeds_push a [] [] each = one a ∙ ap (λ k. of k >>= λ feed. Ok (feed ∷ [])) (let e : a ≡ a + 0 = omega arith in e)
  feeds_push a [] (text ∷ texts) each = absurd (omega (arith, each))
  feeds_push a (first ∷ actors) texts each = by (λ ts many. feeds_push (suc a) actors ts many) (is_source_kernel first.kernel) texts refl each
    where
      later : of (suc a + length actors) ≡ of (a + suc (length actors))
      later = ap of (let e : suc a + length actors ≡ a + suc (length actors) = omega arith in e)

      by : ((ts : List (List ℕ)) → length ts ≡ length (sources_among actors) → feeds_from (suc a) (actors ++ actor ∷ []) (ts ++ more)
          ≡ with_last (feeds_from (suc a) actors ts) (of (suc a + length actors))) → (b : Bool) (ts : List (List ℕ)) → is_source_kernel first.kernel ≡ b → length ts ≡ length (cond b (first ∷ sources_among actors) (sources_among actors))
          → both a b (ts ++ more) (actors ++ actor ∷ []) ≡ with_last (both a b ts actors) (of (a + suc (length actors)))
      by behind_first true [] is many = absurd (omega (arith, many))
      by behind_first true (text ∷ ts) is many =
          ap (λ read. feed_in a text >>= λ feed. read >>= λ feeds. Ok (feed ∷ feeds)) (behind_first ts (omega (arith, many)))
          ∙ source_behind (feed_in a text) (feeds_from (suc a) actors ts) (of (suc a + length actors))
          ∙ ap (with_last (feed_in a text >>= λ feed. feeds_from (suc a) actors ts >>= λ feeds. Ok (feed ∷ feeds))) later
      by behind_first false ts is many =
          ap (λ read. read >>= λ feeds. Ok ([] ∷ feeds)) (behind_first ts many)
          ∙ behind [] (feeds_from (suc a) actors ts) (of (suc a + length actors))
          ∙ ap (with_last (feeds_from (suc a) actors ts >>= λ feeds. Ok ([] ∷ feeds))) later

-- ---- runs

-- room changes no actor
pub room_actors : (room : Room) (q : List ℕ) (g h : Graph) → IsWithRoom room q g h → h.actors ≡ g.actors
room_actors room q g h is = ap (λ (x : Graph). x.actors) (bare_with room q g h is)

-- what was read of texts is in them for the graph as it was accepted
pub fed_of_read : (room : Room) (g : Graph) (texts : List (List ℕ)) (a : Accepted) (feeds : Vec (Vec ℤ)) → IsInRoom room g a → AreReadOf g.actors texts (Ok feeds)
    → AreTextsOf room g texts a (feeds_in feeds.items)
fed_of_read room g texts a feeds is read =
    let same = room_actors room a.q g a.graph is.roomy in
    record {
      in_room = is;
      each_source = read.each_source ∙ ap source_count (sym same);
      tokens = ap (λ (xs : List Actor). feeds_from 0 xs texts) same ∙ read.tokens;
    }

module _ (outcome : Result Outcome NoOutcome) (told : Result Outcome TokensFault) (same : IfOk outcome (λ o. told ≡ Ok o))
    (failed : IfErr outcome (λ why. told ≡ Err (fault.Run why))) where
  -- what holds of an outcome holds of the one that is told
  pub told_ok : (P : Outcome → Type 0) → IfOk outcome P → IfOk told P
  told_ok P = by outcome same failed
    where
      by : (r : Result Outcome NoOutcome) → IfOk r (λ o. told ≡ Ok o) → IfErr r (λ why. told ≡ Err (fault.Run why)) → IfOk r P → IfOk told P
      by (Ok o) is failing holds = subst (λ (t : Result Outcome TokensFault). IfOk t P) (sym is) holds
      by (Err why) is failing holds = subst (λ (t : Result Outcome TokensFault). IfOk t P) (sym failing) tt

  -- what holds of a fault of the run holds of the one that is told
  pub told_err : (Q : NoOutcome → Type 0) (P : TokensFault → Type 0) → ((why : NoOutcome) → Q why → P (fault.Run why)) → IfErr outcome Q → IfErr told P
  told_err Q P more = by outcome same failed
    where
      by : (r : Result Outcome NoOutcome) → IfOk r (λ o. told ≡ Ok o) → IfErr r (λ why. told ≡ Err (fault.Run why)) → IfErr r Q → IfErr told P
      by (Ok o) is failing holds = subst (λ (t : Result Outcome TokensFault). IfErr t P) (sym is) tt
      by (Err why) is failing holds = subst (λ (t : Result Outcome TokensFault). IfErr t P) (sym failing) (more why holds)

-- what holds at any rate holds of a fault
pub where_err : {A E : Type 0} → (r : Result A E) → IfErr r (λ _. Unit {0})
where_err (Ok x) = tt
where_err (Err e) = tt
