-- Free. The definitions at words that are written out.
use Rattle.std.proofs.Common.{◌≡◌, List, [], ◌∷◌, Some, None, codes, refl}
use Rattle.clap.specs.Simple.{matches_of}
use Rattle.clap.specs.Walk.{Text, first_of}
use Rattle.clap.specs.declared.error.kind.ErrorKind.TheVariants.{ArgumentConflict, DisplayHelp, DisplayVersion, MissingRequiredArgument, UnknownArgument, ValueValidation}
use Rattle.clap.proofs.OnLiterals.{clap_on_literals}
use Rattle.asm_tool.specs.CommandLine.{command, refusals}

abbrev three : List Text
three = codes "--steps" ∷ codes "3" ∷ []

abbrev all : List Text
all = codes "--turns" ∷ codes "7" ∷ codes "a.asm" ∷ codes "--rounds" ∷ codes "0" ∷ codes "--script" ∷ codes "b" ∷ codes "--cut=4096" ∷ codes "--workers" ∷ codes "32" ∷ three

-- ---- what is taken

steps_are_enough : refusals three ≡ []
unfolding command clap_on_literals
steps_are_enough = refl

all_are_taken : refusals all ≡ []
unfolding command clap_on_literals
all_are_taken = refl

greatest_steps : refusals (codes "--steps" ∷ codes "1000000" ∷ []) ≡ []
unfolding command clap_on_literals
greatest_steps = refl

-- ---- what is refused

no_steps : refusals [] ≡ MissingRequiredArgument ∷ []
unfolding command clap_on_literals
no_steps = refl

too_many_steps : refusals (codes "--steps" ∷ codes "1000001" ∷ []) ≡ ValueValidation ∷ []
unfolding command clap_on_literals
too_many_steps = refl

no_workers : refusals (codes "--workers" ∷ codes "0" ∷ three) ≡ ValueValidation ∷ []
unfolding command clap_on_literals
no_workers = refl

too_great_a_cut : refusals (codes "--cut" ∷ codes "4097" ∷ three) ≡ ValueValidation ∷ []
unfolding command clap_on_literals
too_great_a_cut = refl

no_turns : refusals (codes "--turns" ∷ codes "0" ∷ three) ≡ ValueValidation ∷ []
unfolding command clap_on_literals
no_turns = refl

too_many_rounds : refusals (codes "--rounds" ∷ codes "65" ∷ three) ≡ ValueValidation ∷ []
unfolding command clap_on_literals
too_many_rounds = refl

help : refusals (codes "--help" ∷ []) ≡ DisplayHelp ∷ []
unfolding command clap_on_literals
help = refl

version : refusals (codes "--version" ∷ []) ≡ DisplayVersion ∷ []
unfolding command clap_on_literals
version = refl

two_files : refusals (codes "a" ∷ codes "b" ∷ three) ≡ UnknownArgument ∷ []
unfolding command clap_on_literals
two_files = refl

steps_twice : refusals (codes "--steps" ∷ codes "4" ∷ three) ≡ ArgumentConflict ∷ []
unfolding command clap_on_literals
steps_twice = refl

-- ---- what is read

turns_left_out : first_of (codes "turns") (matches_of command three) ≡ Some (codes "1000")
unfolding command clap_on_literals
turns_left_out = refl

workers_left_out : first_of (codes "workers") (matches_of command three) ≡ Some (codes "1")
unfolding command clap_on_literals
workers_left_out = refl

cut_left_out : first_of (codes "cut") (matches_of command three) ≡ Some (codes "64")
unfolding command clap_on_literals
cut_left_out = refl

rounds_left_out : first_of (codes "rounds") (matches_of command three) ≡ Some (codes "4")
unfolding command clap_on_literals
rounds_left_out = refl

file_left_out : first_of (codes "spec") (matches_of command three) ≡ None
unfolding command clap_on_literals
file_left_out = refl

script_left_out : first_of (codes "script") (matches_of command three) ≡ None
unfolding command clap_on_literals
script_left_out = refl

all_given : (first_of (codes "spec") (matches_of command all) ≡ Some (codes "a.asm"))
    × (first_of (codes "script") (matches_of command all) ≡ Some (codes "b"))
    × (first_of (codes "steps") (matches_of command all) ≡ Some (codes "3"))
    × (first_of (codes "turns") (matches_of command all) ≡ Some (codes "7"))
    × (first_of (codes "workers") (matches_of command all) ≡ Some (codes "32"))
    × (first_of (codes "cut") (matches_of command all) ≡ Some (codes "4096"))
    × (first_of (codes "rounds") (matches_of command all) ≡ Some (codes "0"))
unfolding command clap_on_literals
all_given = (refl, refl, refl, refl, refl, refl, refl)
