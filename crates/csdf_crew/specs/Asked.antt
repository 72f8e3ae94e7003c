-- What a run asks of its floor, as a type.
use Rattle.std.specs.Prelude.{[], None}
use Rattle.csdf_floor.specs.Work.{Work}

-- a work of no actors, where a type stands for the work of no run
abbrev pub no_work : Work
no_work = record { accepted = record { graph = record { actors = []; channels = []; cells = None }; r = []; q = []; capacities = [] }; feeds = []; periods = 0; firings = None }
