-- What is read, source after source.
use Rattle.std.proofs.Common.{◌≡◌, ℕ, zero, suc, ◌+◌, ◌<◌, ◌≤◌, true, false, List, [], ◌∷◌, ◌++◌, length, map, get_or, set, refl, ap, sym, subst, ◌∙◌, inl, inr, arith, append_assoc, append-nil}
use Rattle.std.specs.Prelude.{◌≢◌, ◌⊎◌, ℤ, Option, None, All, max, Result, Ok, Err, IfErr}
use Rattle.std.specs.Result.{IsErrAnd}
use Rattle.std.proofs.lemmas.Bool.Decides.{eqb_tells, leb_tells}
use Rattle.std.proofs.lemmas.List.{get_or-map, get_or-set_same, get_or-set_other, get_or_default, get_or_past, length-map, length-set, map-set}
use Rattle.std.proofs.lemmas.List.Elements.{All-from_get_or, All-get_or, All-set}
use Rattle.csdf_model.specs.Graph.{Actor, Graph}
use Rattle.csdf_model.specs.Kernels.{is_source_kernel}
use Rattle.csdf_analysis.specs.Acceptance.{Accepted, IsAccepted}
use Rattle.std.specs.Global.{Vec}
use Rattle.csdf_floor.specs.Work.{AreFeeds, feed_of, feeds_in, is_source_of}
use Rattle.csdf_stream.specs.declared.reader.Reader.{Reader}
use Rattle.csdf_stream.specs.declared.end.StreamFault.{StreamFault}
use Rattle.csdf_stream.specs.declared.end.StreamFault.TheVariants as why
use Rattle.csdf_stream.specs.declared.flow.FlowPlan.{FlowPlan}
use Rattle.csdf_stream.specs.declared.reader.ReaderFault.{ReaderFault}
use Rattle.csdf_stream.specs.Flowing.{IsUnfedBy}
use Rattle.csdf_stream.specs.Feeding.{AreRead, IsCauseAt, IsFullFor, IsReadAt, IsUnfed, given_for, left_at, reader_at, source_at}
use Rattle.csdf_stream.specs.Ports.{sources_in}
use Rattle.csdf_stream.specs.Reading.{HasEnded, IsFaultAt, Reads, fresh}
use Rattle.csdf_stream.specs.declared.options.TokenFormat.TheVariants.{Text}
use Rattle.csdf_stream.proofs.PortLemmas.{ascends, number_at}
use Rattle.csdf_stream.proofs.ReadLemmas.{reads_add, reads_none}

-- a source in a place among the sources: it is one, and no other place has it
pub source_within : (g : Graph) (sources : List ℕ) (k : ℕ) → sources ≡ sources_in g → k < length sources → source_at sources k < length g.actors
source_within g sources k is lt =
    let at = number_at (λ (a : Actor). is_source_kernel a.kernel) 0 g.actors k 0 (subst (λ (xs : List ℕ). k < length xs) is lt) in
    let high = at.within in
    subst (λ (xs : List ℕ). get_or xs k 0 < length g.actors) (sym is) (omega arith)

pub sources_all : (a : Accepted) (sources : List ℕ) → IsAccepted a → sources ≡ sources_in a.graph → All (λ i. i < length a.q) sources
sources_all a sources ok is =
    All-from_get_or (λ i. i < length a.q) sources 0
    (λ k lt. (let inside = source_within a.graph sources k is lt in let each = ok.repetition.firings.each_actor in omega arith))

pub is_source_at : (g : Graph) (sources : List ℕ) (k : ℕ) → sources ≡ sources_in g → k < length sources → is_source_of g (source_at sources k) ≡ true
is_source_at g sources k is lt = by g.actors refl
  where
    by : (actors : List Actor) → actors ≡ g.actors → is_source_of g (source_at sources k) ≡ true
    by [] none = absurd (let x = source_within g sources k is lt in let e = ap (λ (xs : List Actor). length xs) none in omega arith)
    by (d ∷ more) same =
        let inside = source_within g sources k is lt in
        let at = number_at (λ (a : Actor). is_source_kernel a.kernel) 0 g.actors k 0 (subst (λ (xs : List ℕ). k < length xs) is lt) in
        let so : is_source_kernel (get_or g.actors (get_or (sources_in g) k 0) d).kernel ≡ true = at.so d (get_or (sources_in g) k 0) (omega arith) in
        get_or-map (λ (a : Actor). is_source_kernel a.kernel) g.actors (source_at sources k) d false inside
        ∙ ap (λ (xs : List ℕ). is_source_kernel (get_or g.actors (get_or xs k 0) d).kernel) is
        ∙ so

sources_ascend : (g : Graph) (sources : List ℕ) (j k : ℕ) → sources ≡ sources_in g → j < k → k < length sources → source_at sources j < source_at sources k
sources_ascend g sources j k is lt within =
    subst (λ (xs : List ℕ). get_or xs j 0 < get_or xs k 0) (sym is)
    (ascends (λ (a : Actor). is_source_kernel a.kernel) 0 g.actors j k 0 lt (subst (λ (xs : List ℕ). k < length xs) is within))

pub sources_apart : (g : Graph) (sources : List ℕ) (j k : ℕ) → sources ≡ sources_in g → j < length sources → k < length sources → j ≢ k
    → source_at sources j ≢ source_at sources k
sources_apart g sources j k is low high other same = elim (leb_tells j k) [
  | inl le ↦ (let a = sources_ascend g sources j k is (omega (arith, le.1, other)) high in omega (arith, a, same))
  | inr gt ↦ (let a = sources_ascend g sources k j is gt.1 low in omega (arith, a, same))
]

-- lists that were cleared, one after the other
pub cleared_next : (feeds : List (Vec ℤ)) (k : ℕ) (v : Vec ℤ) → k < length feeds → ((i : ℕ) → i < k → feed_of (feeds_in feeds) i ≡ []) → v.items ≡ []
    → (i : ℕ) → i < k + 1 → feed_of (feeds_in (set feeds k v)) i ≡ []
cleared_next feeds k v within none empty i lt =
    ap (λ (xs : List (List ℤ)). get_or xs i []) (map-set (λ (w : Vec ℤ). w.items) feeds k v) ∙ elim (eqb_tells i k) [
      | inl same ↦ ap (λ (j : ℕ). get_or (set (feeds_in feeds) k v.items) j []) same.1
          ∙ get_or-set_same (feeds_in feeds) k v.items [] (subst (λ (n : ℕ). k < n) (sym (length-map feeds (λ (w : Vec ℤ). w.items))) within) ∙ empty
      | inr other ↦ get_or-set_other (feeds_in feeds) k i v.items [] other.1 ∙ none i (let ne = other.1 in omega (arith, lt, ne))
    ]

pub none_pushed : (feeds more : List (Vec ℤ)) (v : Vec ℤ) → ((i : ℕ) → feed_of (feeds_in feeds) i ≡ []) → more ≡ feeds ++ v ∷ [] → v.items ≡ []
    → (i : ℕ) → feed_of (feeds_in more) i ≡ []
none_pushed [] more v none is empty i = ap (λ (vs : List (Vec ℤ)). feed_of (feeds_in vs) i) is ∙ one i
  where
    one : (i : ℕ) → feed_of (feeds_in (v ∷ [])) i ≡ []
    one zero = empty
    one (suc i) = refl
none_pushed (u ∷ feeds) more v none is empty zero = ap (λ (vs : List (Vec ℤ)). feed_of (feeds_in vs) 0) is ∙ none 0
none_pushed (u ∷ feeds) more v none is empty (suc i) =
    ap (λ (vs : List (Vec ℤ)). feed_of (feeds_in vs) (suc i)) is ∙ none_pushed feeds (feeds ++ v ∷ []) v (λ j. none (suc j)) refl empty i

pub none_past : (feeds : List (Vec ℤ)) (k : ℕ) → length feeds ≤ k → ((i : ℕ) → i < k → feed_of (feeds_in feeds) i ≡ []) → (i : ℕ) → feed_of (feeds_in feeds) i ≡ []
none_past feeds k le none i = elim (leb_tells k i) [
  | inl past ↦ get_or_past (feeds_in feeds) i [] (let n = length-map feeds (λ (w : Vec ℤ). w.items) in omega (arith, le, n, past.1))
  | inr before ↦ none i before.1
]

pub read_nothing : (sources : List ℕ) (readers : List Reader) (lefts : List (Option (List ℕ))) (feeds : List (List ℤ))
    → AreRead sources readers readers lefts lefts feeds feeds
read_nothing sources readers lefts feeds k lt = record {
  given = [];
  fed = sym (append-nil (feed_of feeds (source_at sources k)));
  read = reads_none (reader_at readers k) (left_at lefts k);
}

pub read_twice : (sources : List ℕ) (rs ss ts : List Reader) (ls ms ns : List (Option (List ℕ))) (fs gs hs : List (List ℤ))
    → AreRead sources rs ss ls ms fs gs → AreRead sources ss ts ms ns gs hs → AreRead sources rs ts ls ns fs hs
read_twice sources rs ss ts ls ms ns fs gs hs one two k lt =
    let a = one k lt in
    let b = two k lt in
    record {
      given = a.given ++ b.given;
      fed = b.fed ∙ ap (λ (xs : List ℤ). xs ++ b.given) a.fed ∙ append_assoc (feed_of fs (source_at sources k)) a.given b.given;
      read = reads_add (reader_at rs k) (reader_at ss k) (reader_at ts k) (left_at ls k) (left_at ms k) (left_at ns k) a.given b.given a.read b.read;
    }

module _ (a : Accepted) (sources : List ℕ) (rs : List Reader) (ls : List (Option (List ℕ))) (fs : List (List ℤ)) (k : ℕ)
    (is : sources ≡ sources_in a.graph) (here : k < length sources) (readers : k < length rs) (devices : k < length ls) (feeds : AreFeeds a.graph fs)
    (r : Reader) (l : Option (List ℕ)) (f : List ℤ) where
  abbrev pub s : ℕ
  s = source_at sources k

  inside : s < length fs
  inside = let x = source_within a.graph sources k is here in let e = feeds.each_actor in omega arith

  -- what is of another place stays
  stays : (j : ℕ) → j < length sources → j ≢ k → feed_of (set fs s f) (source_at sources j) ≡ feed_of fs (source_at sources j)
  stays j lt other = get_or-set_other fs s (source_at sources j) f [] (sources_apart a.graph sources j k is lt here other)

  pub read_next : (given : List ℤ) → f ≡ feed_of fs s ++ given → Reads (reader_at rs k) r (left_at ls k) l given
      → AreRead sources rs (set rs k r) ls (set ls k l) fs (set fs s f)
  read_next given more read j lt = elim (eqb_tells j k) [
    | inl same ↦ subst (λ i. IsReadAt sources rs (set rs k r) ls (set ls k l) fs (set fs s f) i) (sym same.1) (record {
      given = given;
      fed = get_or-set_same fs s f [] inside ∙ more;
      read = subst (λ (q : Reader). Reads (reader_at rs k) q (left_at ls k) (left_at (set ls k l) k) given) (sym (get_or-set_same rs k r (fresh Text) readers))
          (subst (λ (o : Option (List ℕ)). Reads (reader_at rs k) r (left_at ls k) o given) (sym (get_or-set_same ls k l None devices)) read);
    })
    | inr other ↦ record {
      given = [];
      fed = stays j lt other.1 ∙ sym (append-nil (feed_of fs (source_at sources j)));
      read = subst (λ (q : Reader). Reads (reader_at rs j) q (left_at ls j) (left_at (set ls k l) j) []) (sym (get_or-set_other rs k j r (fresh Text) other.1))
          (subst (λ (o : Option (List ℕ)). Reads (reader_at rs j) (reader_at rs j) (left_at ls j) o []) (sym (get_or-set_other ls k j l None other.1))
          (reads_none (reader_at rs j) (left_at ls j)));
    }
  ]

  pub full_next : (periods : ℕ) → ((j : ℕ) → j < k → IsFullFor a periods sources rs ls fs j)
      → (given_for a periods s ≤ length f) ⊎ HasEnded r l
      → (j : ℕ) → j < k + 1 → IsFullFor a periods sources (set rs k r) (set ls k l) (set fs s f) j
  full_next periods before now j lt = elim (eqb_tells j k) [
    | inl same ↦ subst (λ i. IsFullFor a periods sources (set rs k r) (set ls k l) (set fs s f) i) (sym same.1)
        (full_as (given_for a periods s) _ _ _ _ _ _ (sym (get_or-set_same fs s f [] inside)) (sym (get_or-set_same rs k r (fresh Text) readers))
        (sym (get_or-set_same ls k l None devices)) now)
    | inr other ↦ full_as (given_for a periods (source_at sources j)) _ _ _ _ _ _ (sym (stays j (omega (arith, lt, other.1, here)) other.1))
        (sym (get_or-set_other rs k j r (fresh Text) other.1)) (sym (get_or-set_other ls k j l None other.1)) (before j (omega (arith, lt, other.1)))
  ]
    where
      full_as : (n : ℕ) (x y : List ℤ) (p q : Reader) (o u : Option (List ℕ)) → x ≡ y → p ≡ q → o ≡ u → (n ≤ length x) ⊎ HasEnded p o → (n ≤ length y) ⊎ HasEnded q u
      full_as n x y p q o u xy pq ou is =
          subst (λ (z : List ℤ). (n ≤ length z) ⊎ HasEnded q u) xy
          (subst (λ (z : Reader). (n ≤ length x) ⊎ HasEnded z u) pq (subst (λ (z : Option (List ℕ)). (n ≤ length x) ⊎ HasEnded p z) ou is))

  pub feeds_next : length f ≤ 1000000 → AreFeeds a.graph (set fs s f)
  feeds_next few = record {
    each_actor = length-set fs s f ∙ feeds.each_actor;
    short = All-set (λ (feed : List ℤ). length feed ≤ 1000000) fs s f few feeds.short;
    only_sources = λ i none. get_or-set_other fs s i f [] (λ e. absurd (let yes = is_source_at a.graph sources k is here in
        let no : is_source_of a.graph s ≡ false = subst (λ (j : ℕ). is_source_of a.graph j ≡ false) e none in cc)) ∙ feeds.only_sources i none;
  }

-- ---- as the code fills them

module _ {D : Type 0} (left : D → Option (List ℕ)) (a : Accepted) (sources : List ℕ) (rs : List Reader) (ds : List D) (fs : List (Vec ℤ)) (k : ℕ)
    (is : sources ≡ sources_in a.graph) (here : k < length sources) (readers : k < length rs) (devices : k < length ds) (fed : AreFeeds a.graph (feeds_in fs))
    (r x : Reader) (d y : D) (v w : Vec ℤ) (given : List ℤ)
    (more : v.items ≡ (get_or fs (get_or sources k 0) w).items ++ given) (read : Reads (get_or rs k x) r (left (get_or ds k y)) (left d) given) where
  devices_here : k < length (map left ds)
  devices_here = (let n = length-map ds left in omega (arith, n, devices))

  feed_here : get_or (feeds_in fs) (source_at sources k) [] ≡ (get_or fs (source_at sources k) w).items
  feed_here =
      get_or-map (λ (u : Vec ℤ). u.items) fs (source_at sources k) w []
      (let inside = source_within a.graph sources k is here in let each = fed.each_actor in let n = length-map fs (λ (u : Vec ℤ). u.items) in omega (arith, inside, each, n))

  was : Reads (reader_at rs k) r (left_at (map left ds) k) (left d) given
  was =
      subst (λ (o : Option (List ℕ)). Reads (reader_at rs k) r o (left d) given) (sym (get_or-map left ds k y None devices))
      (subst (λ (q : Reader). Reads q r (left (get_or ds k y)) (left d) given) (get_or_default rs k x (fresh Text) readers) read)

  grown : v.items ≡ feed_of (feeds_in fs) (source_at sources k) ++ given
  grown = more ∙ ap (λ (xs : List ℤ). xs ++ given) (sym feed_here)

  devices_set : map left (set ds k d) ≡ set (map left ds) k (left d)
  devices_set = map-set left ds k d

  feeds_set : feeds_in (set fs (get_or sources k 0) v) ≡ set (feeds_in fs) (source_at sources k) v.items
  feeds_set = map-set (λ (u : Vec ℤ). u.items) fs (source_at sources k) v

  pub read_filled : (rs0 : List Reader) (ls0 : List (Option (List ℕ))) (fs0 : List (List ℤ)) → AreRead sources rs0 rs ls0 (map left ds) fs0 (feeds_in fs)
      → AreRead sources rs0 (set rs k r) ls0 (map left (set ds k d)) fs0 (feeds_in (set fs (get_or sources k 0) v))
  read_filled rs0 ls0 fs0 before =
      subst (λ (ls : List (Option (List ℕ))). AreRead sources rs0 (set rs k r) ls0 ls fs0 (feeds_in (set fs (get_or sources k 0) v))) (sym devices_set)
      (subst (λ (gs : List (List ℤ)). AreRead sources rs0 (set rs k r) ls0 (set (map left ds) k (left d)) fs0 gs) (sym feeds_set)
      (read_twice sources rs0 rs (set rs k r) ls0 (map left ds) (set (map left ds) k (left d)) fs0 (feeds_in fs) (set (feeds_in fs) (source_at sources k) v.items) before
      (read_next a sources rs (map left ds) (feeds_in fs) k is here readers devices_here fed r (left d) v.items given grown was)))

  pub feeds_filled : length v.items ≤ 1000000 → AreFeeds a.graph (feeds_in (set fs (get_or sources k 0) v))
  feeds_filled few =
      subst (λ (gs : List (List ℤ)). AreFeeds a.graph gs) (sym feeds_set)
      (feeds_next a sources rs (map left ds) (feeds_in fs) k is here readers devices_here fed r (left d) v.items few)

  pub few_filled : (most : ℕ) → most ≤ 1000000 → length v.items ≤ max (length (get_or fs (get_or sources k 0) w).items) most → length v.items ≤ 1000000
  few_filled most low le =
      let before : length (get_or fs (get_or sources k 0) w).items ≤ 1000000 =
      subst (λ (xs : List ℤ). length xs ≤ 1000000) feed_here
      (All-get_or (λ (xs : List ℤ). length xs ≤ 1000000) (feeds_in fs) (source_at sources k) []
      (let inside = source_within a.graph sources k is here in let each = fed.each_actor in omega (arith, inside, each)) fed.short) in
      omega (arith, low, le, before)

  pub full_filled : (periods n : ℕ) → n ≡ given_for a periods (source_at sources k) → (n ≤ length v.items) ⊎ HasEnded r (left d)
      → ((j : ℕ) → j < k → IsFullFor a periods sources rs (map left ds) (feeds_in fs) j)
      → (j : ℕ) → j < k + 1 → IsFullFor a periods sources (set rs k r) (map left (set ds k d)) (feeds_in (set fs (get_or sources k 0) v)) j
  full_filled periods n same now before =
      subst (λ (ls : List (Option (List ℕ))). (j : ℕ) → j < k + 1 → IsFullFor a periods sources (set rs k r) ls (feeds_in (set fs (get_or sources k 0) v)) j)
      (sym devices_set)
      (subst (λ (gs : List (List ℤ)). (j : ℕ) → j < k + 1 → IsFullFor a periods sources (set rs k r) (set (map left ds) k (left d)) gs j) (sym feeds_set)
      (full_next a sources rs (map left ds) (feeds_in fs) k is here readers devices_here fed r (left d) v.items periods before
      (subst (λ (m : ℕ). (m ≤ length v.items) ⊎ HasEnded r (left d)) same now)))

  pub unfed_filled : (periods i : ℕ) (fault : ReaderFault) → i ≡ source_at sources k → IsFaultAt fault r (left d)
      → IsUnfed a periods sources (set rs k r) (map left (set ds k d)) (why.Source i fault)
  unfed_filled periods i fault at is_at = (
    k,
    record {
      within = here;
      cause = (
        at,
        subst (λ (o : Option (List ℕ)). IsFaultAt fault (reader_at (set rs k r) k) o)
            (sym (ap (λ (ls : List (Option (List ℕ))). left_at ls k) devices_set ∙ get_or-set_same (map left ds) k (left d) None devices_here))
            (subst (λ (q : Reader). IsFaultAt fault q (left d)) (sym (get_or-set_same rs k r (fresh Text) readers)) is_at),
      );
    },
  )

-- ---- as a segment is read

pub if_unfed : {X : Type 0} (r : Result X StreamFault) (fault : StreamFault) (P : StreamFault → Type 0) → IsErrAnd r (λ e. e ≡ fault) → P fault → IfErr r P
if_unfed (Ok x) fault P same h = absurd same
if_unfed (Err e) fault P same h = subst P (sym same) h

pub unfed_by : (a : Accepted) (p : FlowPlan) (periods : ℕ) (sources : List ℕ) (readers : List Reader) (rests : List (Option (List ℕ))) (fault : StreamFault)
    → sources ≡ p.sources.items → IsUnfed a periods sources readers rests fault → IsUnfedBy a p readers rests fault
unfed_by a p periods sources readers rests fault same is = (
  is.0,
  periods,
  subst (λ (xs : List ℕ). is.0 < length xs) same is.1.within,
  subst (λ (xs : List ℕ). IsCauseAt a periods (source_at xs is.0) (reader_at readers is.0) (left_at rests is.0) fault) same is.1.cause,
)
