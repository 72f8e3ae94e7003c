-- The objects of answers do not nest deep, and that of want of memory is written out.
use Rattle.std.proofs.Common.{◌≡◌, ℕ, ◌≤◌, true, List, [], ◌∷◌, ◌++◌, Result, codes, sym, ap, arith}
use Rattle.std.specs.Prelude.{IfOk, is_some, slice_index}
use Rattle.std.specs.List.{enumerate_from}
use Rattle.std.specs.Option.{option_map_or}
use Rattle.std.proofs.lemmas.Fmt.{decimal_digit}
use Rattle.json.specs.Json.{Json, max_depth, number, string, object, no_members, member}
use Rattle.json.specs.Print.{print}
use Rattle.json.specs.Token.{Token}
use Rattle.json.specs.Tree.{depth, json_tokens}
use Rattle.json.proofs.OnLiterals.{json_on_literals}
use Rattle.json.proofs.Printed.Decimals.{IsNumber-decimal}
use Rattle.json.proofs.Printed.Trees.{document-print}
use Rattle.csdf_json.specs.Lines.{IsLineOf}
use Rattle.csdf_json.proofs.LineLemmas.{items_by-depth}
use Rattle.csdf_analysis.specs.Acceptance.{Accepted}
use Rattle.csdf_answers.specs.declared.answer.Answer.{Answer}
use Rattle.csdf_answers.specs.declared.answer.Answer.TheVariants as answer
use Rattle.csdf_answers.specs.declared.fault.ToolFault.TheVariants.{Memory}
use Rattle.csdf_answers.specs.Described.{actor_names}
use Rattle.csdf_answers.specs.Objects.{IsObjectOf, actor_object, capacity_object, channel_object, check_object, fault_object, object_of, reason_object, repetition_object, schedule_object}
use Rattle.csdf_answers.specs.Printed.{name_at, names_of}

-- ---- depths

pub check_shallow : (actors channels : ℕ) → depth (check_object actors channels) ≤ max_depth
check_shallow actors channels = omega arith

pub repetition_shallow : (r q : List ℕ) (rows : List (ℕ × List ℕ)) → depth (repetition_object r q rows) ≤ max_depth
repetition_shallow r q rows =
    omega (arith, items_by-depth (λ (row : ℕ × List ℕ). actor_object row.1 (slice_index r row.0) (slice_index q row.0)) 1 (λ row. omega arith) rows)

pub schedule_shallow : (names : List (List ℕ)) (schedule : List ℕ) → depth (schedule_object names schedule) ≤ max_depth
schedule_shallow names schedule = omega (arith, items_by-depth (λ (a : ℕ). string (name_at names a)) 0 (λ a. omega arith) schedule)

pub capacity_shallow : (a : Accepted) → depth (capacity_object a) ≤ max_depth
capacity_shallow a =
    omega (
      arith,
      items_by-depth (λ (row : ℕ × List ℕ). channel_object row.1 (slice_index a.capacities row.0)) 1 (λ row. omega arith)
          (enumerate_from 0 (names_of a.graph.channels)),
    )

pub reason_shallow : (reason : List ℕ) (status : ℕ) → depth (reason_object reason status) ≤ max_depth
reason_shallow reason status = omega arith

-- ---- the line of an answer

-- where there is an object, what was written of it is its line
pub line_told : {X E : Type 0} (view : X → List ℕ) (answer : Answer) (tokens : List Token) (r : Result X E) → is_some (object_of answer) ≡ true
    → tokens ≡ option_map_or json_tokens (object_of answer) []
    → ((value : Json) → depth value ≤ max_depth → tokens ≡ json_tokens value → IfOk r (λ line. IsLineOf value (view line)))
    → IfOk r (λ line. IsObjectOf answer (view line))
line_told view (answer.Check actors channels) tokens r has is line = line (check_object actors channels) (check_shallow actors channels) is
line_told view (answer.Repetition found) tokens r has is line =
    line _ (repetition_shallow found.vector.r.items found.vector.q.items (enumerate_from 0 (actor_names found.graph.actors))) is
line_told view (answer.Schedule a firings) tokens r has is line = line _ (schedule_shallow (actor_names a.graph.actors) firings.items) is
line_told view (answer.Capacity a) tokens r has is line = line (capacity_object a) (capacity_shallow a) is
line_told view (answer.Dot a) tokens r has is line = absurd (cc)

-- ---- want of memory

memory_text : print (json_tokens (fault_object Memory)) ≡ codes "{\"fault\":\"memory\",\"status\":3}"
unfolding json_on_literals
memory_text =
    ap (λ digits. print (json_tokens (object (member (codes "fault") (string (codes "memory")) (member (codes "status") (number digits) no_members)))))
    (decimal_digit 3 (omega arith))

pub memory_told : IsLineOf (fault_object Memory) (codes "{\"fault\":\"memory\",\"status\":3}\n")
memory_told = record {
  line = ap (λ text. text ++ 10 ∷ []) (sym memory_text);
  reads_back = document-print (fault_object Memory) (tt, (IsNumber-decimal 3 (omega arith), tt)) (omega arith);
}
