-- The lines of a script: their words, and what each asks for.
use Rattle.std.specs.Prelude.{ℕ, ◌==◌, nat_lt, Bool, List, [], ◌∷◌, ℤ, Option, Some, None, option_map, unwrap_or, codes, map, length, if◌then◌else◌}
use Rattle.std.specs.List.{filter, slice_split}
use Rattle.std.specs.Str.{bytes_eq}
use Rattle.std.specs.Result.{result_ok}
use Rattle.csdf_model.specs.declared.limits.TheConstants.{MAX_ACTORS, MAX_CHANNELS}
use Rattle.csdf_model.specs.Graph.{Graph, Actor, Channel}
use Rattle.csdf_model.specs.Names.{is_name, number_in}
use Rattle.csdf_bytes.specs.TokenText.{token_in}
use Rattle.csdf_graph.specs.Tree.{all_some}
use Rattle.csdf_core.specs.Moves.{Move, Begin, Read, Write, Finish, Close, move_of}
use Rattle.csdf_answers.specs.declared.line.Line.{Line as LineCode}
use Rattle.csdf_answers.specs.declared.line.Line.TheVariants as code

-- ---- words

abbrev pub is_space : ℕ → Bool
is_space byte = byte == 32

-- the words of a line, which stand apart by one space or more
abbrev pub words_of : List ℕ → List (List ℕ)
words_of line = filter (λ word. nat_lt 0 (length word)) (slice_split is_space line)

-- ---- numbers for names

-- the actor's number, or one that no graph has: numbers begin at 0
abbrev pub actor_in : Graph → List ℕ → ℕ
actor_in g name = unwrap_or (number_in (map (λ (a : Actor). a.name) g.actors) name) MAX_ACTORS

-- the channel's number, or one that no graph has
abbrev pub channel_in : Graph → List ℕ → ℕ
channel_in g name = unwrap_or (number_in (map (λ (c : Channel). c.name) g.channels) name) MAX_CHANNELS

-- ---- lines

-- a move under the first two words of its line, or the cells
pub data Line : Type 0 where
  Play : List ℕ → List ℕ → Move → Line
  Cells : Line

abbrev pub line_view : LineCode → Line
line_view (code.Play verb name next) = Play verb.now name.now (move_of next)
line_view code.Cells = Cells

-- the tokens that the words are, where each is one
abbrev pub tokens_of : List (List ℕ) → Option (List ℤ)
tokens_of words = all_some (λ word. result_ok (token_in word)) words

-- a move, where no word is left
abbrev pub alone : List (List ℕ) → Move → Option Move
alone [] m = Some m
alone (word ∷ words) m = None

-- the move that a verb, a name and the words after them ask for
unfoldable pub move_in : Graph → List ℕ → List ℕ → List (List ℕ) → Option Move
move_in g verb name rest =
    if bytes_eq verb (codes "begin") then alone rest (Begin (actor_in g name))
    else if bytes_eq verb (codes "read") then alone rest (Read (actor_in g name))
    else if bytes_eq verb (codes "write") then option_map (Write (actor_in g name)) (tokens_of rest)
    else if bytes_eq verb (codes "finish") then alone rest (Finish (actor_in g name))
    else if bytes_eq verb (codes "close") then alone rest (Close (channel_in g name))
    else None

-- what the words of a line ask for, where they have a meaning
abbrev pub asked_by : Graph → List (List ℕ) → Option Line
asked_by g [] = None
asked_by g (verb ∷ []) = if bytes_eq verb (codes "cells") then Some Cells else None
asked_by g (verb ∷ name ∷ rest) = if is_name name then option_map (Play verb name) (move_in g verb name rest) else None

abbrev pub line_in : Graph → List ℕ → Option Line
line_in g text = asked_by g (words_of text)
