-- Why texts make no run is never that a stream failed.
use Rattle.std.proofs.Common.{◌≢◌, ◌∙◌, ℕ, zero, suc, ◌+◌, Bool, true, false, cond, List, [], ◌∷◌, length, map, take, drop, get_or, ℤ, Result, Ok, Err, sym, subst}
use Rattle.std.specs.Prelude.{nat_lt}
use Rattle.std.specs.List.{AllByRecursion}
use Rattle.std.specs.Result.{result_map_both}
use Rattle.csdf_bytes.specs.TokenText.{at_line, collected, entry_of, no_more_than, token_in, tokens_in, tokens_up_to, words_from}
use Rattle.csdf_bytes.specs.declared.token_word.WordFault.{WordFault}
use Rattle.csdf_bytes.specs.declared.token_word.WordFault.TheVariants as word
use Rattle.csdf_bytes.specs.declared.tokens.TokenFault.{TokenFault}
use Rattle.csdf_bytes.specs.declared.tokens.TokenFault.TheVariants as token
use Rattle.csdf_model.specs.Graph.{Actor, Graph}
use Rattle.csdf_analysis.specs.declared.fault.AcceptFault.{AcceptFault}
use Rattle.csdf_analysis.specs.declared.fault.AcceptFault.TheVariants as accept
use Rattle.csdf_analysis.specs.declared.room.Room.{Room}
use Rattle.csdf_core.specs.Planned.{is_source_kernel}
use Rattle.csdf_run.specs.declared.tokens.TokensFault.{TokensFault}
use Rattle.csdf_run.specs.declared.tokens.TokensFault.TheVariants as tokens
use Rattle.csdf_run.specs.Texts.{◌>>=◌, feed_in, feeds_from}
use Rattle.csdf_run.specs.Tokens.{IsTokensRefusal}
use Rattle.csdf_answers.specs.Faults.{accept_fault}
use Rattle.csdf_answers.specs.declared.fault.DeviceName.{DeviceName}
use Rattle.csdf_answers.specs.declared.fault.ToolFault.{ToolFault}
use Rattle.csdf_answers.specs.declared.fault.ToolFault.TheVariants.{Device}
use Rattle.csdf_run.specs.declared.no_outcome.NoOutcome.{NoOutcome}
use Rattle.csdf_run.specs.declared.no_outcome.NoOutcome.TheVariants as run
use Rattle.csdf_told.specs.NoRun.{run_fault}
use Rattle.csdf_run_files.specs.Running.{RefusesGraphRun, token_fault, tokens_fault}

-- ---- one text

-- a fault that a text may have
abbrev IsOfText : TokenFault → Type 0
IsOfText (token.Syntax line) = Unit {0}
IsOfText (token.Range line) = Unit {0}
IsOfText token.TooMany = Unit {0}
IsOfText token.Read = ⊥
IsOfText token.Memory = ⊥

abbrev FailsByText : {A : Type 0} → Result A TokenFault → Type 0
FailsByText (Ok x) = Unit {0}
FailsByText (Err f) = IsOfText f

entry_by_text : (n : ℕ) (r : Result ℤ WordFault) → FailsByText (result_map_both (λ (t : ℤ). t) (at_line n) r)
entry_by_text n (Ok t) = tt
entry_by_text n (Err word.Malformed) = tt
entry_by_text n (Err word.OutOfRange) = tt

entries_by_text : (words : List (ℕ × List ℕ)) → AllByRecursion FailsByText (map entry_of words)
entries_by_text [] = tt
entries_by_text (w ∷ words) = (entry_by_text w.0 (token_in w.1), entries_by_text words)

front_by_text : (n : ℕ) (entries : List (Result ℤ TokenFault)) → AllByRecursion FailsByText entries → AllByRecursion FailsByText (take n entries)
front_by_text zero entries h = tt
front_by_text (suc n) [] h = tt
front_by_text (suc n) (e ∷ entries) h = (h.0, front_by_text n entries h.1)

more_by_text : (t : ℤ) (r : Result (List ℤ) TokenFault) → FailsByText r → FailsByText (result_map_both (λ ts. t ∷ ts) (λ (f : TokenFault). f) r)
more_by_text t (Ok ts) h = tt
more_by_text t (Err f) h = h

collected_by_text : (entries : List (Result ℤ TokenFault)) → AllByRecursion FailsByText entries → FailsByText (collected entries)
collected_by_text [] h = tt
collected_by_text (Ok t ∷ entries) h = more_by_text t (collected entries) (collected_by_text entries h.1)
collected_by_text (Err f ∷ entries) h = h.0

limited_by_text : (limit : ℕ) (r : Result (List ℤ) TokenFault) → FailsByText r → FailsByText (no_more_than limit r)
limited_by_text limit (Ok ts) h = by (nat_lt limit (length ts))
  where
    by : (b : Bool) → FailsByText (cond b (Err token.TooMany) (Ok ts))
    by true = tt
    by false = tt
limited_by_text limit (Err f) h = h

up_to_by_text : (limit : ℕ) (entries : List (Result ℤ TokenFault)) → AllByRecursion FailsByText entries → FailsByText (tokens_up_to limit entries)
unfolding tokens_up_to
up_to_by_text limit entries h =
    limited_by_text limit (collected (take (limit + 1) entries)) (collected_by_text (take (limit + 1) entries) (front_by_text (limit + 1) entries h))

tokens_by_text : (bytes : List ℕ) → FailsByText (tokens_in bytes)
tokens_by_text bytes = by (nat_lt 16777216 (length bytes))
  where
    by : (b : Bool) → FailsByText (cond b (Err token.TooMany) (tokens_up_to 1000000 (map entry_of (words_from 1 bytes))))
    by true = tt
    by false = up_to_by_text 1000000 (map entry_of (words_from 1 bytes)) (entries_by_text (words_from 1 bytes))

-- ---- the texts of all sources

abbrev FailsByFeed : {A : Type 0} → Result A (ℕ × TokenFault) → Type 0
FailsByFeed (Ok x) = Unit {0}
FailsByFeed (Err f) = IsOfText f.1

feed_by_text : (a : ℕ) (r : Result (List ℤ) TokenFault) → FailsByText r
    → FailsByFeed (result_map_both (λ (tokens : List ℤ). tokens) (λ (why : TokenFault). (a, why)) r)
feed_by_text a (Ok tokens) h = tt
feed_by_text a (Err why) h = h

bind_by_feed : {A B : Type 0} (r : Result A (ℕ × TokenFault)) (f : A → Result B (ℕ × TokenFault)) → FailsByFeed r → ((x : A) → FailsByFeed (f x))
    → FailsByFeed (r >>= f)
bind_by_feed (Ok x) f first next = next x
bind_by_feed (Err e) f first next = first

feeds_by_text : (a : ℕ) (actors : List Actor) (ts : List (List ℕ)) → FailsByFeed (feeds_from a actors ts)
feeds_by_text a [] ts = tt
feeds_by_text a (actor ∷ actors) ts =
    by (is_source_kernel actor.kernel) (feeds_by_text (suc a) actors (drop 1 ts)) (feeds_by_text (suc a) actors ts)
  where
    by : (b : Bool) → FailsByFeed (feeds_from (suc a) actors (drop 1 ts)) → FailsByFeed (feeds_from (suc a) actors ts)
        → FailsByFeed (cond b (feed_in a (get_or ts 0 []) >>= λ feed. feeds_from (suc a) actors (drop 1 ts) >>= λ feeds. Ok (feed ∷ feeds))
        (feeds_from (suc a) actors ts >>= λ feeds. Ok ([] ∷ feeds)))
    by true more same =
        bind_by_feed (feed_in a (get_or ts 0 [])) _ (feed_by_text a (tokens_in (get_or ts 0 [])) (tokens_by_text (get_or ts 0 []))) (λ feed.
        bind_by_feed (feeds_from (suc a) actors (drop 1 ts)) _ more (λ feeds. tt))
    by false more same = bind_by_feed (feeds_from (suc a) actors ts) _ same (λ feeds. tt)

-- ---- the fault that is told

accept_no_stream : (names : List (List ℕ)) (f : AcceptFault) (s : DeviceName) → accept_fault names f ≢ Device s
accept_no_stream names (accept.Unbalanced c) s e = cc
accept_no_stream names (accept.TooLarge c) s e = cc
accept_no_stream names accept.Deadlock s e = cc
accept_no_stream names accept.TooTight s e = cc
accept_no_stream names accept.Memory s e = cc

run_no_stream : (f : NoOutcome) (s : DeviceName) → run_fault f ≢ Device s
run_no_stream run.Memory s e = cc
run_no_stream run.Worker s e = cc

token_no_stream : (name : List ℕ) (why : TokenFault) → IsOfText why → (s : DeviceName) → token_fault name why ≢ Device s
token_no_stream name (token.Syntax line) is s e = cc
token_no_stream name (token.Range line) is s e = cc
token_no_stream name token.TooMany is s e = cc
token_no_stream name token.Read is s e = absurd is
token_no_stream name token.Memory is s e = absurd is

no_stream_by : (room : Room) (g : Graph) (ts : List (List ℕ)) (why : TokensFault) → IsTokensRefusal room g ts why → (s : DeviceName) → tokens_fault g why ≢ Device s
no_stream_by room g ts (tokens.Accept why) is s = accept_no_stream _ why s
no_stream_by room g ts (tokens.Feed feed) is s = token_no_stream _ feed.fault (subst FailsByFeed is.1 (feeds_by_text 0 g.actors ts)) s
no_stream_by room g ts (tokens.Run why) is s = run_no_stream why s

-- the fault of texts that make no run is of no stream
pub no_stream : (room : Room) (g : Graph) (ts : List (List ℕ)) (f : ToolFault) → RefusesGraphRun room g ts f → (s : DeviceName) → f ≢ Device s
no_stream room g ts f refuses s = λ e. no_stream_by room g ts refuses.0 refuses.1 s (sym refuses.2 ∙ e)
