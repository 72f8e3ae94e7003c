-- The program's command line says the same of words wherever the names of the formats lie.
use Rattle.std.proofs.Common.{◌≡◌, ◌∷◌, ◌&&◌, [], List, Bor, true, map, refl, sym, ap, ap₂, ◌∙◌}
use Rattle.clap.specs.Words.{App, Text, fault_of, is_simple, is_simple_and_free, subcommand_of, takes}
use Rattle.clap.specs.Faults.{built_fault}
use Rattle.clap.specs.Simple.{built, entered, names_of}
use Rattle.clap.specs.Takes.{built_takes}
use Rattle.clap.specs.Walk.{nothing_held, stop_after, texts}
use Rattle.clap.proofs.OnLiterals.{clap_on_literals}
use Rattle.csdf_words.specs.CommandLine.{lent, program_with, stream_taking}
use Rattle.csdf_words.proofs.AddressLemmas.{moved_app, moved_text, same_fault, same_subcommand, same_takes}

read_alike : (names : List (Bor Text)) → map moved_text names ≡ map lent (texts names)
read_alike [] = refl
read_alike (name ∷ names) = ap (λ rest. moved_text name ∷ rest) (read_alike names)

-- the program with the names at the one address and with those at the other are moved to the same
same_program : (m n : Bor (List (Bor Text))) → texts m.now ≡ texts n.now
    → moved_app (built (program_with (stream_taking m))) ≡ moved_app (built (program_with (stream_taking n)))
same_program m n same =
    ap (λ names. built (program_with (stream_taking (lent names)))) (read_alike m.now ∙ ap (map lent) same ∙ sym (read_alike n.now))

pub is_plain : (names : Bor (List (Bor Text))) → is_simple (program_with (stream_taking names)) ≡ true
unfolding clap_on_literals
is_plain names = refl

pub is_free : (names : Bor (List (Bor Text))) → is_simple_and_free (program_with (stream_taking names)) ≡ true
unfolding clap_on_literals
is_free names = refl

pub subcommand_alike : (m n : Bor (List (Bor Text))) → texts m.now ≡ texts n.now → (words : List Text)
    → subcommand_of (program_with (stream_taking m)) words ≡ subcommand_of (program_with (stream_taking n)) words
subcommand_alike m n same words =
    sym (same_subcommand (built (program_with (stream_taking m))) words)
    ∙ ap (λ (a : App). entered a (stop_after a.top.rules (names_of a) words)) (same_program m n same)
    ∙ same_subcommand (built (program_with (stream_taking n))) words

pub takes_alike : (m n : Bor (List (Bor Text))) → texts m.now ≡ texts n.now → (words : List Text)
    → takes (program_with (stream_taking m)) words ≡ takes (program_with (stream_taking n)) words
takes_alike m n same words =
    ap₂ (λ x y. x && y) (is_plain m ∙ sym (is_plain n))
    (sym (same_takes (built (program_with (stream_taking m))) nothing_held words)
    ∙ ap (λ (a : App). built_takes a nothing_held words) (same_program m n same)
    ∙ same_takes (built (program_with (stream_taking n))) nothing_held words)

pub fault_alike : (m n : Bor (List (Bor Text))) → texts m.now ≡ texts n.now → (words : List Text)
    → fault_of (program_with (stream_taking m)) words ≡ fault_of (program_with (stream_taking n)) words
fault_alike m n same words =
    sym (same_fault (built (program_with (stream_taking m))) nothing_held words)
    ∙ ap (λ (a : App). built_fault a nothing_held words) (same_program m n same)
    ∙ same_fault (built (program_with (stream_taking n))) nothing_held words
