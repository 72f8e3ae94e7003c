-- What is told of words that the parser takes and that ask for nothing.
use Rattle.std.specs.Prelude.{ℕ, List, ◌++◌, codes}

-- of a text that names no room
abbrev pub room_refusal : List ℕ → List ℕ
room_refusal text =
    codes "error: invalid value '" ++ text
    ++ codes "' for '--room <M>': it is neither 'auto' nor in 1..=65535\n\nFor more information, try '--help'.\n"

-- of a text that names no workers
abbrev pub workers_refusal : List ℕ → List ℕ
workers_refusal text =
    codes "error: invalid value '" ++ text
    ++ codes "' for '--workers <N>': it is neither 'auto' nor in 1..=8\n\nFor more information, try '--help'.\n"

-- of two lengths of a run
abbrev pub lengths_refusal : List ℕ
lengths_refusal = codes "error: '--until-dry' and '--periods <K>' exclude each other\n\nFor more information, try '--help'.\n"

-- of a folder for the sinks of a stream alone
abbrev pub out_refusal : List ℕ
out_refusal = codes "error: '--out <FOLDER>' needs DIR\n\nFor more information, try '--help'.\n"
