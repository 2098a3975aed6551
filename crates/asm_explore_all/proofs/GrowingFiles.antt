-- Free. What becomes of the files that are known to be made.
--     makes_none      nothing is made
--     makes_both      some files, and then others
--     first_all       all of some files are the first of them
--     stops_more      a file can't be made, of some that others follow
--     stops_after     all of some files are made, and then one can't be
use Rattle.std.proofs.Common.{◌∙◌, ◌++◌, [], ◌∷◌, ℕ, List, Option, None, Some, inl, inr, ap, append_assoc, append-nil, arith, length, subst, sym}
use Rattle.std.proofs.lemmas.List.{take_all}
use Rattle.asm_explore_all.specs.MadeFiles.{MadeFile, Makes, MakesFirst, StopsAt}

pub makes_none : (known : Option (List MadeFile)) → Makes known known []
makes_none None = tt
makes_none (Some files) = sym (append-nil files)

pub makes_both : (old mid new : Option (List MadeFile)) (first second : List MadeFile) → Makes old mid first → Makes mid new second → Makes old new (first ++ second)
makes_both None mid new first second p q = tt
makes_both (Some a) None new first second p q = absurd p
makes_both (Some a) (Some b) None first second p q = absurd q
makes_both (Some a) (Some b) (Some c) first second p q = q ∙ (ap (λ files. files ++ second) p ∙ append_assoc a first second)

pub first_all : (old new : Option (List MadeFile)) (files : List MadeFile) → Makes old new files → MakesFirst old new files
first_all old new files makes = (length files, subst (Makes old new) (sym (take_all (length files) files (omega arith))) makes)

pub stops_more : (old new : Option (List MadeFile)) (name : List ℕ) (files more : List MadeFile) → StopsAt old new name files → StopsAt old new name (files ++ more)
stops_more old new name files more s = record {
  before = s.before;
  file = s.file;
  others = s.others ++ more;
  split = ap (λ fs. fs ++ more) s.split ∙ append_assoc s.before (s.file ∷ s.others) more;
  named = s.named;
  made = s.made;
}

pub stops_after : (old mid new : Option (List MadeFile)) (name : List ℕ) (first second : List MadeFile) → Makes old mid first → StopsAt mid new name second
    → StopsAt old new name (first ++ second)
stops_after old mid new name first second makes s = record {
  before = first ++ s.before;
  file = s.file;
  others = s.others;
  split = ap (λ fs. first ++ fs) s.split ∙ sym (append_assoc first s.before (s.file ∷ s.others));
  named = s.named;
  made =
      elim s.made [
        | inl made ↦ inl (makes_both old mid new first s.before makes made)
        | inr cut ↦ inr (cut.0, cut.1, subst (Makes old new) (sym (append_assoc first s.before (cut.0 ∷ []))) (makes_both old mid new first (s.before ++ cut.0 ∷ []) makes cut.2))
      ];
}
