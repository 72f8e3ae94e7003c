-- What is told where a graph file is waited for at a terminal.
use Rattle.std.specs.Prelude.{ℕ, List, codes}

-- that it is waited for, and where help is
abbrev pub waiting_line : List ℕ
waiting_line = codes "csdf: waiting for a graph file on standard input; 'csdf --help' tells the commands\n"
