-- Several firings of one actor, one after another with no other's move between.
use Rattle.std.specs.Prelude.{ℕ, zero, suc, ◌≡◌, ◌≢◌, ◌+◌, ◌≤◌, List, [], ◌∷◌, ◌++◌, ℤ, None, Ok, Err, length, map, take, drop, slice_index, sum_by}
use Rattle.std.specs.List.{AllByRecursion}
use Rattle.csdf_core.specs.Moves.{Move}
use Rattle.csdf_core.specs.Moves.{Begin, Read, Write, Finish, Close}
use Rattle.csdf_core.specs.Next.{next}
use Rattle.csdf_core.specs.Plan.{Channel, Plan, from_at}
use Rattle.csdf_core.specs.Ports.{inputs_at, outputs_at, take_at, give_at, own_take_at, tokens_at}
use Rattle.csdf_core.specs.Rows.{need, gift}
use Rattle.csdf_core.specs.State.{Present}
use Rattle.csdf_core.specs.Step.{Reply, refusal, answer}

-- how many tokens n firings of the actor take, from firing number k on, and how many they give
abbrev pub needs_of : List Channel → ℕ → ℕ → ℕ → ℕ
needs_of channels a k zero = 0
needs_of channels a k (suc n) = need a k channels + needs_of channels a (suc k) n

abbrev pub gifts_of : List Channel → ℕ → ℕ → ℕ → ℕ
gifts_of channels a k zero = 0
gifts_of channels a k (suc n) = gift a k channels + gifts_of channels a (suc k) n

-- their moves: v are the tokens that they write, one firing's after another's
abbrev pub firings_of : List Channel → ℕ → ℕ → ℕ → List ℤ → List Move
firings_of channels a k zero v = []
firings_of channels a k (suc n) v =
    Begin a ∷ Read a ∷ Write a (take (gift a k channels) v) ∷ Finish a ∷ firings_of channels a (suc k) n (drop (gift a k channels) v)

-- each of the moves is accepted, from what is present on
abbrev pub AreAccepted : Plan → Present → List Move → Type 0
AreAccepted plan p [] = Unit {0}
AreAccepted plan p (m ∷ moves) = (refusal plan p m ≡ None) × AreAccepted plan (next plan p m) moves

-- the replies to moves that are all accepted
abbrev pub answers_to : Plan → Present → List Move → List Reply
answers_to plan p [] = []
answers_to plan p (m ∷ moves) = Ok (answer plan p m) ∷ answers_to plan (next plan p m) moves

-- all tokens that the replies hand out, in order
abbrev pub handed_by : List Reply → List ℤ
handed_by [] = []
handed_by (Ok tokens ∷ replies) = tokens ++ handed_by replies
handed_by (Err refusal ∷ replies) = handed_by replies

-- how many tokens n firings take of a channel, from firing number k on, and how many they give to it, by the channel's number
abbrev pub takes_at : List Channel → ℕ → ℕ → ℕ → ℕ
takes_at channels k zero c = 0
takes_at channels k (suc n) c = take_at channels k c + takes_at channels (suc k) n c

abbrev pub gives_at : List Channel → ℕ → ℕ → ℕ → ℕ
gives_at channels k zero c = 0
gives_at channels k (suc n) c = give_at channels k c + gives_at channels (suc k) n c

-- no channel goes from the actor to itself
abbrev pub HasNoLoop : List Channel → ℕ → Type 0
HasNoLoop channels a = AllByRecursion (λ c. from_at channels c ≢ a) (inputs_at channels a)

-- no firing takes more of an output than it gives to it
abbrev pub GivesBack : List Channel → ℕ → Type 0
GivesBack channels a = (k : ℕ) → AllByRecursion (λ c. own_take_at channels a k c ≤ give_at channels k c) (outputs_at channels a)

-- the capacity of a channel, by its number
abbrev pub capacity_at : List Channel → ℕ → ℕ
capacity_at channels c = slice_index (map (λ (channel : Channel). channel.capacity) channels) c

-- the first n tokens of the first of the channels
abbrev pub from_front : List ℕ → ℕ → List (List ℤ) → List ℤ
from_front [] n tokens = []
from_front (c ∷ numbers) n tokens = take n (tokens_at tokens c)

-- so many tokens from the front of each of the channels, one channel's after another's
abbrev pub fronts : (ℕ → ℕ) → List ℕ → (ℕ → List ℤ) → List ℤ
fronts amount [] tokens = []
fronts amount (c ∷ numbers) tokens = take (amount c) (tokens c) ++ fronts amount numbers tokens

-- what n firings read of channels that hold these tokens, one firing's after another's
abbrev pub reads_over : List Channel → List ℕ → ℕ → ℕ → (ℕ → List ℤ) → List ℤ
reads_over channels numbers k zero tokens = []
reads_over channels numbers k (suc n) tokens =
    fronts (take_at channels k) numbers tokens ++ reads_over channels numbers (suc k) n (λ c. drop (take_at channels k c) (tokens c))

-- n tokens put into a list from a place on
abbrev pub put_from : ℕ → ℕ → List ℤ → List ℤ → List ℤ
put_from place n tokens into = take place into ++ take n tokens ++ drop (place + n) into

-- of the tokens that firing number k reads so many stand before those of the input at this place, which are so many
pub record IsSlot (channels : List Channel) (a place k all from taken : ℕ) : Type 0 where
  pub all_is : all ≡ need a k channels
  pub from_is : from ≡ sum_by (take_at channels k) (take place (inputs_at channels a))
  pub taken_is : taken ≡ take_at channels k (slice_index (inputs_at channels a) place)
  pub fits : from + taken ≤ all

-- the tokens of channel c put where n firings read them, among the reads of all these channels, of which some come before it
abbrev pub laid : List Channel → List ℕ → List ℕ → ℕ → ℕ → ℕ → List ℤ → List ℤ → List ℤ
laid channels numbers before c k zero tokens into = into
laid channels numbers before c k (suc n) tokens into =
    put_from (sum_by (take_at channels k) before) (take_at channels k c) tokens (take (sum_by (take_at channels k) numbers) into)
    ++ laid channels numbers before c (suc k) n (drop (take_at channels k c) tokens) (drop (sum_by (take_at channels k) numbers) into)

-- each of the channels holds its amount of tokens
abbrev pub HoldAll : List (List ℤ) → (ℕ → ℕ) → List ℕ → Type 0
HoldAll tokens amount numbers = AllByRecursion (λ c. amount c ≤ length (tokens_at tokens c)) numbers

-- the tokens are those that n firings hand out, from number k on, whatever they write
abbrev pub AreRead : Plan → Present → ℕ → ℕ → ℕ → List ℤ → Type 0
AreRead plan p a k n tokens =
    (v : List ℤ) → length v ≡ gifts_of plan.channels a k n → tokens ≡ handed_by (answers_to plan p (firings_of plan.channels a k n v))

-- the tokens that each of n firings reads, cut out of all that they read
abbrev pub parts_of : List Channel → ℕ → ℕ → ℕ → List ℤ → List (List ℤ)
parts_of channels a k zero tokens = []
parts_of channels a k (suc n) tokens = take (need a k channels) tokens ∷ parts_of channels a (suc k) n (drop (need a k channels) tokens)

-- what the reads among moves that are all accepted hand out
abbrev pub reads_among : Plan → Present → List Move → List (List ℤ)
reads_among plan p [] = []
reads_among plan p (Read a ∷ moves) = answer plan p (Read a) ∷ reads_among plan (next plan p (Read a)) moves
reads_among plan p (Begin a ∷ moves) = reads_among plan (next plan p (Begin a)) moves
reads_among plan p (Write a v ∷ moves) = reads_among plan (next plan p (Write a v)) moves
reads_among plan p (Finish a ∷ moves) = reads_among plan (next plan p (Finish a)) moves
reads_among plan p (Close c ∷ moves) = reads_among plan (next plan p (Close c)) moves

-- each of n firings reads its part of the tokens, whatever they write
abbrev pub AreReadEach : Plan → Present → ℕ → ℕ → ℕ → List ℤ → Type 0
AreReadEach plan p a k n tokens =
    (v : List ℤ) → length v ≡ gifts_of plan.channels a k n
    → reads_among plan p (firings_of plan.channels a k n v) ≡ parts_of plan.channels a k n tokens
