-- Copies that show the same.
use Rattle.std.proofs.Common.{◌≡◌, ℕ, List, [], ◌∷◌, map, refl, sym, subst}
use Rattle.csdf_model.specs.Graph.{Graph, without_cells}
use Rattle.csdf_model.specs.Kept.{IsKept}
use Rattle.std.specs.List.{AllZip}

pub map_copied : {A K : Type 0} (R : A → A → Type 0) (w : A → K) → ((x y : A) → R x y → w y ≡ w x) → (xs ys : List A) → AllZip R xs ys → map w ys ≡ map w xs
map_copied R w same [] [] h = refl
map_copied R w same [] (y ∷ ys) h = absurd h
map_copied R w same (x ∷ xs) [] h = absurd h
map_copied R w same (x ∷ xs) (y ∷ ys) h = rw (same x y h.0, map_copied R w same xs ys h.1) refl

pub kept_copy : (actor_names actor_names' channel_names channel_names' : List (List ℕ)) (g g' : Graph) → actor_names' ≡ actor_names
    → channel_names' ≡ channel_names → g' ≡ g → IsKept actor_names channel_names g → IsKept actor_names' channel_names' g'
kept_copy actor_names actor_names' channel_names channel_names' g g' same_a same_c same_g kept =
    subst (λ h. IsKept actor_names' channel_names' h) (sym same_g)
    (subst (λ ns. IsKept actor_names' ns g) (sym same_c) (subst (λ ns. IsKept ns channel_names g) (sym same_a) kept))

-- the number of cells is no part of what else is kept
pub kept_without_cells : (actor_names channel_names : List (List ℕ)) (g : Graph) → IsKept actor_names channel_names g
    → IsKept actor_names channel_names (without_cells g)
kept_without_cells actor_names channel_names g kept = record {
  numbered = record { actors = kept.numbered.actors; channels = kept.numbered.channels };
  well_formed = record {
    fitting = record {
      some_actor = kept.well_formed.fitting.some_actor;
      few_actors = kept.well_formed.fitting.few_actors;
      few_channels = kept.well_formed.fitting.few_channels;
      actor_names = kept.well_formed.fitting.actor_names;
      channel_names = kept.well_formed.fitting.channel_names;
      actors = kept.well_formed.fitting.actors;
      channels = kept.well_formed.fitting.channels;
      ports = kept.well_formed.fitting.ports;
      cells = tt;
    };
    joined = kept.well_formed.joined;
  };
}
