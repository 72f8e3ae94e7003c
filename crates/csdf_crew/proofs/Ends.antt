-- What the first place holds once the ends of workers are taken in.
use Rattle.std.proofs.Common.{IfOk, ◌≡◌, ℕ, zero, suc, true, List, [], ◌∷◌, ◌++◌, get_or, map, Ok, Err, refl, sym, ap, subst, ◌∙◌, arith}
use Rattle.std.proofs.lemmas.List.Elements.{All-cons, All-nil}
use Rattle.std.proofs.lemmas.List.{length-append}
use Rattle.std.specs.Prelude.{◌+◌, ◌≤◌, All, Option, None, Some, length, option_to_list}
use Rattle.std.specs.List.{Contains}
use Rattle.std.specs.Result.{IsOk, is_ok}
use Rattle.csdf_claims.specs.declared.rule.Track.{Track}
use Rattle.csdf_claims.specs.declared.rule.View.{View}
use Rattle.csdf_claims.specs.Face.{BoardFace}
use Rattle.csdf_claims.specs.Board.{blank, joined_tracks, joined_view}
use Rattle.csdf_crew.specs.declared.worker.Ended.{Ended}
use Rattle.csdf_floor.specs.declared.fault.RunFault.{RunFault}
use Rattle.csdf_crew.specs.Workers.{Answer, AnswersForAll, HoldsNothing, IsAnswerOf, IsEndAt, both, joined_by}

joined_held : (ts us : List Track) → ((a : ℕ) → (get_or ts a blank).held ≡ []) → ((a : ℕ) → (get_or us a blank).held ≡ [])
    → (a : ℕ) → (get_or (joined_tracks ts us) a blank).held ≡ []
joined_held [] us p q a = q a
joined_held (t ∷ ts) [] p q a = p a
joined_held (t ∷ ts) (u ∷ us) p q zero = let e = p 0 in let f = q 0 in ap (λ xs. xs ++ u.held) e ∙ f
joined_held (t ∷ ts) (u ∷ us) p q (suc a) = joined_held ts us (λ b. p (suc b)) (λ b. q (suc b)) a

joined_nothing : (v w : View) → HoldsNothing v → HoldsNothing w → HoldsNothing (joined_view v w)
joined_nothing v w p q = joined_held v.tracks w.tracks p q

ok_end : (board : BoardFace) (e : Ended) → IsEndAt board e → e.answer ≡ Ok tt → HoldsNothing e.place.view
ok_end board e end ok = rw ok at end.1

pub ok_holds : (x : Answer) (v : View) → IfOk x (λ _. HoldsNothing v) → x ≡ Ok tt → HoldsNothing v
ok_holds x v h ok = rw ok at h

is_ok_is : (x : Answer) → IsOk x → x ≡ Ok tt
is_ok_is (Ok tt) h = refl
is_ok_is (Err e) h = cc

joined_nothing_by : (board : BoardFace) (es : List Ended) (v : View) → HoldsNothing v → All (λ (e : Ended). IsEndAt board e) es
    → All (λ (x : Answer). IsOk x) (map (λ (e : Ended). e.answer) es) → HoldsNothing (joined_by v es)
joined_nothing_by board [] v none ends well = none
joined_nothing_by board (e ∷ es) v none ends well =
    joined_nothing_by board es (joined_view v e.place.view)
    (joined_nothing v e.place.view none (ok_end board e (ends 0 e (omega arith)) (is_ok_is e.answer (well 0 e.answer (omega arith)))))
    (λ k d below. ends (suc k) d (omega arith))
    (λ k d below. well (suc k) d (omega arith))

answer_holds_nothing : (board : BoardFace) (threads : ℕ) (own : Answer) (v : View) (answer : Answer) (w : View)
    → AnswersForAll board threads own v answer w → answer ≡ Ok tt → IfOk own (λ _. HoldsNothing v) → HoldsNothing w
answer_holds_nothing board threads own v (Ok tt) w h ok free =
    subst HoldsNothing (sym h.joined)
    (joined_nothing_by board h.ends v (ok_holds own v free (is_ok_is own (h.answered.well 0 own (omega arith)))) h.at_board
    (λ k d below. h.answered.well (suc k) d (omega arith)))
answer_holds_nothing board threads own v (Err why) w h ok free = cc

-- where no answer was a fault, nothing is held
pub whole_holds_nothing : (board : BoardFace) (threads : ℕ) (own : Answer) (v : View) (answer : Answer) (w : View)
    → AnswersForAll board threads own v answer w → IfOk own (λ _. HoldsNothing v) → IfOk answer (λ _. HoldsNothing w)
whole_holds_nothing board threads own v (Ok tt) w h free = answer_holds_nothing board threads own v (Ok tt) w h refl free
whole_holds_nothing board threads own v (Err why) w h free = tt

-- a handle was kept where there is one
pub kept_one : {X : Type 0} → (xs ys : List X) (x : Option X) → ys ≡ xs ++ option_to_list x → length ys ≤ length xs + 1
kept_one xs ys None e = let l = ap length e ∙ length-append xs [] in omega (arith, l)
kept_one xs ys (Some x) e = let l = ap length e ∙ length-append xs (x ∷ []) in omega (arith, l)

-- ---- one end after another

contains_later : (x y : Answer) (rest : List Answer) (z : Answer) → Contains (x ∷ rest) z → Contains (x ∷ y ∷ rest) z
contains_later x y rest z (zero, below, is) = (zero, omega arith, is)
contains_later x y rest z (suc k, below, is) = (suc (suc k), omega arith, is)

contains_more : (x : Answer) (rest : List Answer) (z : Answer) → Contains rest z → Contains (x ∷ rest) z
contains_more x rest z (k, below, is) = (suc k, omega arith, is)

no_fault : (why : RunFault) (rest : List Answer) → All (λ (x : Answer). IsOk x) (Err why ∷ rest) → ⊥
no_fault why rest all = let e : is_ok {T = Unit {0}} (Err why) ≡ true = all 0 (Err why) (omega arith) in cc

-- two answers that were made one
answer_of_both : (x y : Answer) (rest : List Answer) (last : Answer) → IsAnswerOf (both x y ∷ rest) last → IsAnswerOf (x ∷ y ∷ rest) last
answer_of_both (Ok u) y rest (Ok v) h = record { fault = tt; well = All-cons (λ (x : Answer). IsOk x) (Ok u) (y ∷ rest) refl h.well }
answer_of_both (Ok u) y rest (Err why) h = record { fault = contains_more (Ok u) (y ∷ rest) (Err why) h.fault; well = tt }
answer_of_both (Err e) y rest (Ok v) h = absurd (no_fault e rest h.well)
answer_of_both (Err e) y rest (Err why) h = record { fault = contains_later (Err e) y rest (Err why) h.fault; well = tt }

answer_of_one : (x : Answer) → IsAnswerOf (x ∷ []) x
answer_of_one (Ok u) = record { fault = tt; well = All-cons (λ (x : Answer). IsOk x) (Ok u) [] refl (All-nil (λ (x : Answer). IsOk x)) }
answer_of_one (Err why) = record { fault = (0, omega arith, refl); well = tt }

-- who has answered for all threads but one, and takes in the end of that one first, answers for all
pub one_more : (board : BoardFace) (n m : ℕ) (before after : Answer) (v w : View) (e : Ended) (last : Answer) (end : View)
    → m ≡ suc n → after ≡ both before e.answer → w ≡ joined_view v e.place.view → IsEndAt board e
    → AnswersForAll board n after w last end → AnswersForAll board m before v last end
one_more board n m before after v w e last end more answered joined is h = record {
  ends = e ∷ h.ends;
  each_thread = ap suc h.each_thread ∙ sym more;
  at_board = All-cons (λ (x : Ended). IsEndAt board x) e h.ends is h.at_board;
  answered =
      answer_of_both before e.answer (map (λ (x : Ended). x.answer) h.ends) last
      (subst (λ (x : Answer). IsAnswerOf (x ∷ map (λ (y : Ended). y.answer) h.ends) last) answered h.answered);
  joined = subst (λ (x : View). end ≡ joined_by x h.ends) joined h.joined;
}

pub none_more : (board : BoardFace) (n : ℕ) (x : Answer) (v : View) → n ≡ 0 → AnswersForAll board n x v x v
none_more board n x v none = record {
  ends = [];
  each_thread = sym none;
  at_board = All-nil (λ (e : Ended). IsEndAt board e);
  answered = answer_of_one x;
  joined = refl;
}
