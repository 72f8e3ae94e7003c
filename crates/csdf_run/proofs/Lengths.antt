-- How long a run goes on.
use Rattle.std.proofs.Common.{◌≡◌, ℕ, ◌*◌, ◌≤◌, List, Ok, sym, subst, ◌∙◌, arith}
use Rattle.std.specs.Prelude.{All}
use Rattle.csdf_analysis.specs.Acceptance.{Accepted}
use Rattle.csdf_analysis.specs.declared.room.Room.{Room}
use Rattle.csdf_floor.specs.Work.{HasFewFirings}
use Rattle.csdf_floor.proofs.Works.{few_in_thousand}
use Rattle.csdf_analysis.specs.declared.length.Length.{Length}
use Rattle.csdf_analysis.specs.declared.length.Length.TheVariants.{Periods, UntilDry}
use Rattle.csdf_model.specs.Graph.{Graph}
use Rattle.csdf_graph.specs.GraphText.{IsGraphOf}
use Rattle.csdf_run.specs.Texts.{GoesOnFor, IsInRoom, MayGoOn, MayGoOnOver, MayGraphGoOn}

-- a run that may go on so long has a period and few firings
pub may_run : (room : Room) (g : Graph) (how_long : Length) (a : Accepted) (periods : ℕ) → MayGraphGoOn room g how_long → GoesOnFor how_long a periods
    → IsInRoom room g a → (1 ≤ periods) × HasFewFirings a periods
may_run room g (Periods n) a periods may goes is =
    (subst (λ m. 1 ≤ m) (sym goes) may.0, subst (HasFewFirings a) (sym goes) (may.1 a is))
may_run room g UntilDry a periods may goes is =
    ((goes 1).1 (omega arith, few_in_thousand a 1 is.accepted (omega arith)), ((goes periods).0 (omega arith)).1)

pub may_over : (room : Room) (g : Graph) (how_long : Length) (a : Accepted) → MayGraphGoOn room g how_long → IsInRoom room g a → MayGoOnOver how_long a
may_over room g how_long a may is periods goes = may_run room g how_long a periods may goes is

-- so many periods may be run where there are some, and few firings in them
pub may_for : (a : Accepted) (n : ℕ) → 1 ≤ n → HasFewFirings a n → MayGoOnOver (Periods n) a
may_for a n some few periods goes = (subst (λ m. 1 ≤ m) (sym goes) some, subst (HasFewFirings a) (sym goes) few)

-- what may go on of a file may of its graph
pub may_graph : (room : Room) (bytes : List ℕ) (g : Graph) (how_long : Length) → IsGraphOf bytes (Ok g) → MayGoOn room bytes how_long → MayGraphGoOn room g how_long
may_graph room bytes g (Periods n) read may = (may.0, λ a is. may.1 a (record { graph = g; read = read; holds = is }))
may_graph room bytes g UntilDry read may = tt

-- as many periods for graphs with one vector
within_most : (a b : Accepted) (m n : ℕ) → a.q ≡ b.q → GoesOnFor UntilDry a m → GoesOnFor UntilDry b n → m ≤ n
within_most a b m n same one two =
    let most = (one m).0 (omega arith) in
    (two m).1 (most.0, subst (All (λ q. m * q ≤ 16384000)) same most.1)

pub one_length : (how_long : Length) (a b : Accepted) (m n : ℕ) → a.q ≡ b.q → GoesOnFor how_long a m → GoesOnFor how_long b n → m ≡ n
one_length (Periods k) a b m n same one two = one ∙ sym two
one_length UntilDry a b m n same one two =
    let up : m ≤ n = within_most a b m n same one two in
    let down : n ≤ m = within_most b a n m (sym same) two one in
    omega (arith, up, down)
