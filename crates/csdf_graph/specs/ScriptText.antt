-- The script of a file: the lines of its table `script`, with their limits.
use Rattle.std.specs.Prelude.{◌≡◌, ◌⊎◌, ℕ, ℤ, pos, codes, nat_le, List, [], ◌∷◌, length, map, Option, Some, None, option_and_then, option_map, if◌then◌else◌}
use Rattle.std.specs.Prelude.{string_bytes, Result, Ok, Err}
use Rattle.toml.specs.Data.{Members, no_members, as_table, get_member}
use Rattle.csdf_graph.specs.declared.fault.GraphFault.{GraphFault}
use Rattle.csdf_graph.specs.declared.fault.GraphFault.TheVariants.{NotToml, Shape, Range}
use Rattle.csdf_graph.specs.declared.fault.At.TheVariants as at
use Rattle.csdf_graph.specs.declared.script.Script.{Script as ScriptCode}
use Rattle.csdf_graph.specs.declared.script_text.ScriptDraft.{ScriptDraft as DraftCode}
use Rattle.csdf_graph.specs.Passes as passes
use Rattle.csdf_graph.specs.Optional.{◌>>=◌}
use Rattle.csdf_graph.specs.Passes.{or_fault}
use Rattle.csdf_graph.specs.Tree.{found_or, has_only, integer_or, optional_integer_at, texts_or_none}
use Rattle.csdf_graph.specs.Ranges.{number_within}
use Rattle.csdf_model.specs.declared.limits.TheConstants.{MAX_SCRIPT_LIMIT, MAX_SCRIPT_SUPPLY, MAX_SCRIPT_LINES, MAX_FIRINGS}
use Rattle.csdf_model.specs.Graph.{Graph}
use Rattle.csdf_graph.specs.GraphText.{file_of, IsGraphOf}

-- the greatest number of firings of each actor, the tokens of each source, the greatest number of firings of all, and the lines
pub record Script : Type 0 where
  pub limit : ℕ
  pub supply : ℕ
  pub firings : Option ℕ
  pub lines : List (List ℕ)

abbrev pub script_view : ScriptCode → Script
script_view s = record { limit = s.limit; supply = s.supply; firings = s.firings; lines = map string_bytes s.lines.items }

-- the same with its numbers as they stand in the file
pub record ScriptDraft : Type 0 where
  pub limit : ℤ
  pub supply : ℤ
  pub firings : Option ℤ
  pub lines : List (List ℕ)

abbrev pub draft_view : DraftCode → ScriptDraft
draft_view d = record { limit = d.limit; supply = d.supply; firings = d.firings; lines = map (λ line. line.now) d.lines.items }

abbrev pub script_keys : List (List ℕ)
script_keys = codes "limit" ∷ codes "supply" ∷ codes "firings" ∷ codes "moves" ∷ []

-- the table has its keys, of their kinds, and no others
unfoldable pub script_draft : Members → Option ScriptDraft
script_draft ms = if has_only script_keys ms then (do
  limit ← integer_or (pos MAX_SCRIPT_LIMIT) (codes "limit") ms
  supply ← integer_or (pos MAX_SCRIPT_SUPPLY) (codes "supply") ms
  firings ← optional_integer_at (codes "firings") ms
  lines ← texts_or_none (codes "moves") ms
  Some (record { limit = limit; supply = supply; firings = firings; lines = lines })) else None

-- a number that may be absent, else from 0 to a limit
abbrev pub optional_within : ℕ → Option ℤ → Option (Option ℕ)
optional_within high None = Some None
optional_within high (Some z) = option_map Some (number_within 0 high z)

-- its numbers and the count of its lines are within their limits
unfoldable pub script_within : ScriptDraft → Option Script
script_within d = do
  limit ← number_within 0 MAX_SCRIPT_LIMIT d.limit
  supply ← number_within 0 MAX_SCRIPT_SUPPLY d.supply
  firings ← optional_within MAX_FIRINGS d.firings
  if nat_le (length d.lines) MAX_SCRIPT_LINES then Some (record { limit = limit; supply = supply; firings = firings; lines = d.lines }) else None

-- the table `script` of a file, which has no keys where it is absent
abbrev pub script_table : Members → Option Members
script_table file = found_or no_members as_table (get_member (codes "script") file)

-- the script of a file, or its first fault
unfoldable pub script_in : Members → Result Script GraphFault
script_in file =
    passes.◌>>=◌ (or_fault (Shape at.Script) (option_and_then script_draft (script_table file))) (λ draft.
    or_fault (Range at.Script) (script_within draft))

-- the script of a text, or its first fault
abbrev pub script_of : List ℕ → Result Script GraphFault
script_of bytes = passes.◌>>=◌ (or_fault NotToml (file_of bytes)) script_in

-- the first fault of a text that is to have a graph and a script: the graph's, or where there is a graph, the script's
abbrev pub IsFirstFaultOf : List ℕ → GraphFault → Type 0
IsFirstFaultOf bytes fault = IsGraphOf bytes (Err fault) ⊎ ((g : Graph) × IsGraphOf bytes (Ok g) × (script_of bytes ≡ Err fault))
