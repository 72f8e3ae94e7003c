-- What is read of a device, one read after the other.
use Rattle.std.proofs.Common.{◌≡◌, ℕ, ◌+◌, ◌≤◌, List, [], ◌++◌, length, map, inl, inr, refl, ap, sym, subst, ◌∙◌, append_assoc, append-nil, Ok, Result}
use Rattle.std.specs.Prelude.{◌≢◌, ℤ, Option, None, Some}
use Rattle.std.proofs.lemmas.List.{map-append}
use Rattle.csdf_bytes.specs.declared.token_reader.ReadFault.{ReadFault}
use Rattle.csdf_bytes.specs.declared.token_reader.ReadFault.TheVariants as text
use Rattle.csdf_bytes.specs.declared.sample_reader.SampleFault.{SampleFault}
use Rattle.csdf_bytes.specs.declared.sample_reader.SampleFault.TheVariants as sample
use Rattle.csdf_bytes.specs.Buffered.{Unread}
use Rattle.csdf_bytes.specs.SampleState.{Unsampled}
use Rattle.csdf_bytes.specs.SampleStream.{IsCutOff, ReadsSamples}
use Rattle.csdf_bytes.specs.TokenStream.{IsNext, Loses, entries_left}
use Rattle.csdf_bytes.specs.Samples.{first_samples}
use Rattle.csdf_bytes.proofs.SampleStreamLemmas.{length-first_samples, reads-add}
use Rattle.csdf_stream.specs.declared.reader.Reader.{Reader}
use Rattle.csdf_stream.specs.declared.reader.Reader.TheVariants.{Text, Samples}
use Rattle.csdf_stream.specs.Reading.{Gives, IsFaultAt, Reads, of_samples, of_text}

loses_add : (a b c : Option (List (Result ℤ ReadFault))) (xs ys : List ℤ) → Loses a b xs → Loses b c ys → Loses a c (xs ++ ys)
loses_add None b c xs ys one two = tt
loses_add (Some e) None c xs ys one two = absurd one
loses_add (Some e) (Some f) None xs ys one two = absurd two
loses_add (Some e) (Some f) (Some g) xs ys one two =
    one
    ∙ ap (λ rest. map Ok xs ++ rest) two
    ∙ sym (append_assoc (map Ok xs) (map Ok ys) g)
    ∙ ap (λ front. front ++ g) (sym (map-append Ok xs ys))

-- samples that were appended to others
onto : (most : ℕ) (old new : Unsampled) (left rest : Option (List ℕ)) (before given : List ℤ) → ReadsSamples most old new left rest [] given
    → ReadsSamples most old new left rest before (before ++ given)
onto most old new left rest before given came = record {
  fetched = came.fetched;
  taken = came.taken;
  given = record {
    count = came.given.count;
    few = came.given.few;
    within = came.given.within;
    appended = ap (λ xs. before ++ xs) came.given.appended;
    behind = came.given.behind;
    number = came.given.number;
    format = came.given.format;
  };
}

gives_add : (a b c : Reader) (left between rest : Option (List ℕ)) (xs ys : List ℤ) → Gives a b left between xs → Gives b c between rest ys
    → Gives a c left rest (xs ++ ys)
gives_add (Text a) (Text b) (Text c) left between rest xs ys one two =
    loses_add (entries_left a left) (entries_left b between) (entries_left c rest) xs ys one two
gives_add (Text a) (Text b) (Samples c) left between rest xs ys one two = absurd two
gives_add (Text a) (Samples b) c left between rest xs ys one two = absurd one
gives_add (Samples a) (Text b) c left between rest xs ys one two = absurd one
gives_add (Samples a) (Samples b) (Text c) left between rest xs ys one two = absurd two
gives_add (Samples a) (Samples b) (Samples c) left between rest xs ys one two =
    (one.0 + two.0, reads-add one.0 two.0 a b c left between rest [] xs (xs ++ ys) one.1 (onto two.0 b c between rest xs ys two.1))

pub reads_add : (a b c : Reader) (left between rest : Option (List ℕ)) (xs ys : List ℤ) → Reads a b left between xs → Reads b c between rest ys
    → Reads a c left rest (xs ++ ys)
reads_add a b c left between rest xs ys (inl none) two =
    subst (λ (zs : List ℤ). Reads a c left rest (zs ++ ys)) (sym none.2)
    (subst (λ (r : Reader). Reads r c left rest ys) none.0 (subst (λ (l : Option (List ℕ)). Reads b c l rest ys) none.1 two))
reads_add a b c left between rest xs ys (inr one) (inl none) =
    subst (λ (zs : List ℤ). Reads a c left rest zs) (sym (append-nil xs) ∙ ap (λ (zs : List ℤ). xs ++ zs) (sym none.2))
    (subst (λ (r : Reader). Reads a r left rest xs) (sym none.0) (subst (λ (l : Option (List ℕ)). Reads a b left l xs) (sym none.1) (inr one)))
reads_add a b c left between rest xs ys (inr one) (inr two) = inr (gives_add a b c left between rest xs ys one two)

-- tokens that were read and appended, and then more of them
pub filled_more : (old mid new : Reader) (l m r : Option (List ℕ)) (before tokens after given more : List ℤ) → tokens ≡ before ++ given → Reads old mid l m given
    → after ≡ tokens ++ more → Reads mid new m r more → (all : List ℤ) × (after ≡ before ++ all) × Reads old new l r all
filled_more old mid new l m r before tokens after given more so_far read appended next = (
  given ++ more,
  appended ∙ ap (λ (xs : List ℤ). xs ++ more) so_far ∙ append_assoc before given more,
  reads_add old mid new l m r given more read next,
)

pub reads_none : (a : Reader) (left : Option (List ℕ)) → Reads a a left left []
reads_none a left = inl (refl, refl, refl)

-- what a reader of samples appended
pub gives_samples : (most : ℕ) (old new : Unsampled) (left rest : Option (List ℕ)) (before after : List ℤ) → (came : ReadsSamples most old new left rest before after)
    → (given : List ℤ) × (length given ≤ most) × (after ≡ before ++ given) × ReadsSamples most old new left rest [] given
gives_samples most old new left rest before after came = (
  first_samples old.format came.given.count (old.bytes ++ came.fetched),
  subst (λ n. n ≤ most) (sym (length-first_samples old.format came.given.count (old.bytes ++ came.fetched))) came.given.few,
  came.given.appended,
  record {
    fetched = came.fetched;
    taken = came.taken;
    given = record {
      count = came.given.count;
      few = came.given.few;
      within = came.given.within;
      appended = refl;
      behind = came.given.behind;
      number = came.given.number;
      format = came.given.format;
    };
  },
)

-- the fault of a text, and that of samples
pub text_fault : (f : ReadFault) (reader : Unread) (rest : Option (List ℕ)) → (f ≢ text.Read → f ≢ text.Memory → IsNext f (entries_left reader rest))
    → IsFaultAt (of_text f) (Text reader) rest
text_fault text.Read reader rest is = tt
text_fault (text.Syntax line) reader rest is = is (λ e. absurd (cc)) (λ e. absurd (cc))
text_fault (text.Range line) reader rest is = is (λ e. absurd (cc)) (λ e. absurd (cc))
text_fault text.Memory reader rest is = tt

pub sample_fault : (f : SampleFault) (reader : Unsampled) (rest : Option (List ℕ)) → (f ≢ sample.Read → f ≢ sample.Memory → IsCutOff f reader rest)
    → IsFaultAt (of_samples f) (Samples reader) rest
sample_fault sample.Read reader rest is = tt
sample_fault (sample.CutOff number) reader rest is = is (λ e. absurd (cc)) (λ e. absurd (cc))
sample_fault sample.Memory reader rest is = tt
