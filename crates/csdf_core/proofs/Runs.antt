-- One more move at the end of a list.
use Rattle.std.proofs.Common.{◌≡◌, ℕ, ◌+◌, ◌<◌, List, [], ◌∷◌, ◌++◌, length, get_or, take, refl, ap, subst, ◌∙◌, sym}
use Rattle.std.specs.Prelude.{Result, Ok, Err, OnErr}
use Rattle.std.proofs.lemmas.List.{take_more}
use Rattle.csdf_core.specs.Moves.{Move}
use Rattle.csdf_core.specs.Plan.{Plan}
use Rattle.csdf_core.specs.State.{State, Present, present}
use Rattle.csdf_core.specs.Step.{Reply, reply_to, after, replies_of, state_after}
use Rattle.csdf_core.specs.Shows.{View, Shows, Follows, PassesThrough, Plays, PlayedSome, raised, raised_over}

pub state_after-push : (plan : Plan) (s : State) (ms : List Move) (m : Move) → state_after plan s (ms ++ m ∷ []) ≡ after plan (state_after plan s ms) m
state_after-push plan s [] m = refl
state_after-push plan s (n ∷ ms) m = state_after-push plan (after plan s n) ms m

replies_of-push : (plan : Plan) (s : State) (ms : List Move) (m : Move)
    → replies_of plan s (ms ++ m ∷ []) ≡ replies_of plan s ms ++ reply_to plan (state_after plan s ms) m ∷ []
replies_of-push plan s [] m = refl
replies_of-push plan s (n ∷ ms) m = ap (λ (rs : List Reply). reply_to plan s n ∷ rs) (replies_of-push plan (after plan s n) ms m)

pub raised_over-push : (plan : Plan) (s : State) (peaks : List ℕ) (ms : List Move) (m : Move)
    → raised_over plan s peaks (ms ++ m ∷ []) ≡ raised (raised_over plan s peaks ms) (present (after plan (state_after plan s ms) m)).tokens
raised_over-push plan s peaks [] m = refl
raised_over-push plan s peaks (n ∷ ms) m = raised_over-push plan (after plan s n) (raised peaks (present (after plan s n)).tokens) ms m

passes_more : (old mid new : View) (ms : List Move) (rs : List Reply) (m : Move) (r : Reply) → PassesThrough old mid ms rs → Follows mid new m r
    → PassesThrough old new (ms ++ m ∷ []) (rs ++ r ∷ [])
passes_more old mid new [] [] m r same f = (new, subst (λ (v : View). Follows v new m r) same f, f.cells, refl)
passes_more old mid new [] (q ∷ rs) m r p f = absurd p
passes_more old mid new (n ∷ ms) [] m r p f = absurd p
passes_more old mid new (n ∷ ms) (q ∷ rs) m r p f = (p.0, p.1, p.2, passes_more p.0 mid new ms rs m r p.3 f)

-- nothing was played
pub plays_none : (v : View) → Plays v v [] []
plays_none v = record { plan = refl; replies_are = λ s shown. refl; shows = λ s shown. shown; peaks = λ s shown. refl; through = refl }

pub plays_more : (old mid new : View) (ms : List Move) (i : ℕ) (m : Move) (rs : List Reply) (r : Reply) → i < length ms → m ≡ get_or ms i m
    → Plays old mid (take i ms) rs → Follows mid new m r → Plays old new (take (i + 1) ms) (rs ++ r ∷ [])
plays_more old mid new ms i m rs r lt is p f =
    let whole : take (i + 1) ms ≡ take i ms ++ m ∷ [] = take_more ms i m lt ∙ ap (λ (x : Move). take i ms ++ x ∷ []) (sym is) in
    let same : mid.plan ≡ old.plan = p.plan in
    let shown_next : (s : State) → Shows old s → Shows new (after old.plan (state_after old.plan s (take i ms)) m) = λ s shown.
    subst (λ (u : Plan). Shows new (after u (state_after old.plan s (take i ms)) m)) same (f.shows _ (p.shows s shown)) in
    subst (λ (l : List Move). Plays old new l (rs ++ r ∷ [])) (sym whole) (record {
      plan = f.plan ∙ p.plan;
      replies_are = λ s shown.
          let last : r ≡ reply_to old.plan (state_after old.plan s (take i ms)) m = f.reply_is _ (p.shows s shown)
          ∙ ap (λ (u : Plan). reply_to u (state_after old.plan s (take i ms)) m) same in
          let front : rs ≡ replies_of old.plan s (take i ms) = p.replies_are s shown in
          ap (λ (x : List Reply). x ++ r ∷ []) front ∙ ap (λ (x : Reply). replies_of old.plan s (take i ms) ++ x ∷ []) last
          ∙ sym (replies_of-push old.plan s (take i ms) m);
      shows = λ s shown.
          subst (λ (t : State). Shows new t) (sym (state_after-push old.plan s (take i ms) m)) (shown_next s shown);
      peaks = λ s shown.
          f.peaks ∙ ap (λ (q : List ℕ). raised q new.now.tokens) (p.peaks s shown)
          ∙ ap (λ (q : Present). raised (raised_over old.plan s old.peaks (take i ms)) q.tokens) (shown_next s shown).same
          ∙ sym (raised_over-push old.plan s old.peaks (take i ms) m);
      through = passes_more old mid new (take i ms) rs m r p.through f;
    })

pub played_some : (old new : View) (ms : List Move) (i : ℕ) (rs : List Reply) → Plays old new (take i ms) rs → PlayedSome old new ms
played_some old new ms i rs p = (i, rs, p)

-- a fact on either outcome
pub on_err : {T E : Type 0} (r : Result T E) (P : Type 0) → P → OnErr r P
on_err (Ok x) P p = tt
on_err (Err e) P p = p
