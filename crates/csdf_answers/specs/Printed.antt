-- Printed text: the replies to the moves of a script, and the cells.
use Rattle.std.specs.Prelude.{ℕ, ℤ, List, [], ◌∷◌, ◌++◌, Ok, Err, codes}
use Rattle.std.specs.List.{enumerate_from, flat_map}
use Rattle.std.specs.Fmt.{decimal, signed_decimal}
pub use Rattle.csdf_model.specs.Names.{channel_names as names_of, name_at}
use Rattle.csdf_pool.specs.Pool.{Held, Shared, held_cells, chain_of}
use Rattle.csdf_core.specs.declared.refusal.Refusal.{Refusal}
use Rattle.csdf_core.specs.declared.refusal.Refusal.TheVariants.{Unknown, Busy, Spent, Closed, Dry, Short, Full, Stopped}
use Rattle.csdf_core.specs.declared.refusal.Refusal.TheVariants.{NoCells, NotBegun, NotRead, WrongCount, NotWritten}
use Rattle.csdf_core.specs.Step.{Reply}

abbrev pub newline : List ℕ
newline = 10 ∷ []

-- each number after a space
abbrev pub spaced : List ℕ → List ℕ
spaced numbers = flat_map (λ n. 32 ∷ decimal n) numbers

abbrev pub spaced_tokens : List ℤ → List ℕ
spaced_tokens tokens = flat_map (λ token. 32 ∷ signed_decimal token) tokens

-- ---- replies

-- the name of a refusal, and of the channel that it speaks of
abbrev pub refusal_text : List (List ℕ) → Refusal → List ℕ
refusal_text names Unknown = codes "Unknown"
refusal_text names Busy = codes "Busy"
refusal_text names Spent = codes "Spent"
refusal_text names (Closed c) = codes "Closed " ++ name_at names c
refusal_text names Dry = codes "Dry"
refusal_text names (Short c) = codes "Short " ++ name_at names c
refusal_text names (Full c) = codes "Full " ++ name_at names c
refusal_text names Stopped = codes "Stopped"
refusal_text names NoCells = codes "NoCells"
refusal_text names NotBegun = codes "NotBegun"
refusal_text names NotRead = codes "NotRead"
refusal_text names WrongCount = codes "WrongCount"
refusal_text names NotWritten = codes "NotWritten"

-- `ok` and the tokens that were read, or the refusal
abbrev pub reply_text : List (List ℕ) → Reply → List ℕ
reply_text names (Ok tokens) = codes "ok" ++ spaced_tokens tokens
reply_text names (Err refusal) = codes "refused " ++ refusal_text names refusal

-- the line of a move: its verb, its name, and the reply
abbrev pub reply_line : List (List ℕ) → List ℕ → List ℕ → Reply → List ℕ
reply_line names verb name reply = verb ++ codes " " ++ name ++ codes ": " ++ reply_text names reply ++ newline

-- ---- cells

-- the line of a channel: its cells, front first
abbrev pub chain_line : List ℕ → List Held → List ℕ
chain_line name chain = codes "cells " ++ name ++ codes ":" ++ spaced (held_cells chain) ++ newline

-- the lines of all channels in order
abbrev pub chain_lines : Shared → List (ℕ × List ℕ) → List ℕ
chain_lines pool rows = flat_map (λ row. chain_line row.1 (chain_of pool row.0)) rows

-- and the line of the free cells
abbrev pub cells_text : List (List ℕ) → Shared → List ℕ
cells_text names pool = chain_lines pool (enumerate_from 0 names) ++ codes "free:" ++ spaced pool.free ++ newline
