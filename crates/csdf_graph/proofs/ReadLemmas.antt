-- Texts and names, as the reader meets them.
use Rattle.std.proofs.Common.{◌≡◌, ℕ, Bool, true, false, List, [], ◌∷◌, map, None, refl, ap}
use Rattle.std.specs.Str.{IsUtf8, is_utf8}
use Rattle.std.proofs.lemmas.Str.{IsUtf8-from_is_utf8, is_utf8-from_IsUtf8}
use Rattle.toml.specs.Data.{Members}
use Rattle.toml.specs.Parse.{parse_document}
use Rattle.std.proofs.Common.{sym, subst, Result, Ok, Err}
use Rattle.std.specs.Prelude.{MatchResult, IsTrue, ◌↔◌}
use Rattle.csdf_model.specs.Joined.{AreJoined}
use Rattle.csdf_graph.specs.declared.fault.GraphFault.{GraphFault}
use Rattle.csdf_graph.specs.declared.fault.GraphFault.TheVariants.{NotToml}
use Rattle.csdf_graph.specs.Passes.{or_fault}
use Rattle.csdf_model.specs.Graph.{Graph, Channel}
use Rattle.csdf_graph.specs.GraphText.{unjoined_in, IsJudged, IsGraphIn, IsGraphOf, file_of}

pub map_map : {A B C : Type 0} (f : B → C) (g : A → B) (xs : List A) → map f (map g xs) ≡ map (λ x. f (g x)) xs
map_map f g [] = refl
map_map f g (x ∷ xs) = ap (λ ys. f (g x) ∷ ys) (map_map f g xs)

pub text_is : (bytes : List ℕ) → IsUtf8 bytes → file_of bytes ≡ parse_document bytes
text_is bytes h = rw (is_utf8-from_IsUtf8 bytes h) refl

pub is_text : (bytes : List ℕ) → (IsUtf8 bytes → parse_document bytes ≡ None) → file_of bytes ≡ None
is_text bytes refused = by (is_utf8 bytes) refl
  where
    by : (b : Bool) → is_utf8 bytes ≡ b → file_of bytes ≡ None
    by true e = rw e (refused (IsUtf8-from_is_utf8 bytes e))
    by false e = rw e refl

-- a file whose passes all went through is judged, and any other has the fault of the first that did not
pub from_unjoined : (file : Members) (g : Graph) (answer : Result Graph GraphFault) → unjoined_in file ≡ Ok g → IsJudged g answer → IsGraphIn file answer
from_unjoined file g answer e judged = subst (λ r. MatchResult r (λ h. IsJudged h answer) (λ fault. answer ≡ Err fault)) (sym e) judged

pub from_fault : (file : Members) (fault : GraphFault) → unjoined_in file ≡ Err fault → IsGraphIn file (Err fault)
from_fault file fault e = subst (λ r. MatchResult r (λ h. IsJudged h (Err fault)) (λ f. ◌≡◌ {A = Result Graph GraphFault} (Err fault) (Err f))) (sym e) refl

-- the same from the bytes
pub from_file : (bytes : List ℕ) (file : Members) (answer : Result Graph GraphFault) → or_fault NotToml (file_of bytes) ≡ Ok file → IsGraphIn file answer
    → IsGraphOf bytes answer
from_file bytes file answer e inside = subst (λ r. MatchResult r (λ f. IsGraphIn f answer) (λ fault. answer ≡ Err fault)) (sym e) inside

pub from_no_file : (bytes : List ℕ) (fault : GraphFault) → or_fault NotToml (file_of bytes) ≡ Err fault → IsGraphOf bytes (Err fault)
from_no_file bytes fault e = subst (λ r. MatchResult r (λ f. IsGraphIn f (Err fault)) (λ f. ◌≡◌ {A = Result Graph GraphFault} (Err fault) (Err f))) (sym e) refl

-- what the test of connection says of as many actors
pub joined_by : (m n : ℕ) (cs : List Channel) (b : Bool) → m ≡ n → IsTrue b ↔ AreJoined n cs → b ≡ true → AreJoined m cs
joined_by m n cs b same says joins = subst (λ k. AreJoined k cs) (sym same) (says.0 joins)

pub unjoined_by : (m n : ℕ) (cs : List Channel) (b : Bool) → m ≡ n → IsTrue b ↔ AreJoined n cs → b ≡ false → AreJoined m cs → ⊥
unjoined_by m n cs b same says parted joined = let joins : b ≡ true = says.1 (subst (λ k. AreJoined k cs) same joined) in absurd cc
