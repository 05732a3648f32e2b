-- Chapters that fit, as the loop over the clauses meets them.
use Prim.Native.Nat.{ℕ, ◌≤◌, ◌<◌}
use mathlib.Core.Path.{◌≡◌, refl, sym, ap}
use mathlib.Core.Bool.{Bool, true, false, ◌&&◌}
use mathlib.Core.List.{List, [], ◌∷◌}
use native.Mathlib.Omega.{arith}
use borrow.Author.Tests.{le-leb, leb-true}
use mathlib.Core.Bool.{and-true}
use Rattle.std.specs.List.{list_all}
use lib.Dec.{leb}
use lib.ListN.{length, get_or, take}
use lib.Seq.{length-take-le, get_or-take}
use Rattle.base.specs.Lists.{all}
use Rattle.base.proofs.Bools.{and_parts, refuted}
use Rattle.base.proofs.Lists.{all_at}
use Rattle.chapters.specs.Chapters.{max_chapter, chapter_count, chapters_fit}

-- none of the first i chapters is over 31
abbrev pub Within : List ℕ → ℕ → Type 0
Within chapters i = (j : ℕ) → j < i → get_or chapters j 0 ≤ max_chapter

-- what `chapters_fit` says, as a record
pub record Fit (clauses : ℕ) (chapters : List ℕ) (room : ℕ) : Type 0 where
  pub enough : clauses ≤ length chapters
  pub within : Within chapters clauses
  pub roomy : chapter_count ≤ room

abbrev pub low : ℕ → Bool
low chapter = leb chapter max_chapter

module _ (clauses : ℕ) (chapters : List ℕ) (room : ℕ) where
  pub true_fit : chapters_fit clauses chapters room ≡ true → Fit clauses chapters room
  unfolding chapters_fit
  true_fit e =
      let parts = and_parts (leb clauses (length chapters) && all low (take clauses chapters)) (leb chapter_count room) e in
      let filed = and_parts (leb clauses (length chapters)) (all low (take clauses chapters)) parts.0 in
      let many : clauses ≤ length chapters = leb-true clauses (length chapters) filed.0 in
      let front : length (take clauses chapters) ≡ clauses = length-take-le clauses chapters many in
      record {
        enough = many;
        within = λ j h. leb-true (get_or chapters j 0) max_chapter
            (rw (sym (get_or-take clauses chapters j 0 h)) (all_at low (take clauses chapters) 0 filed.1 j (omega (arith, front))));
        roomy = leb-true chapter_count room parts.1;
      }

low_all : (chapters : List ℕ) → list_all low chapters ≡ all low chapters
unfolding all
low_all [] = refl
low_all (chapter ∷ chapters) = ap (λ (others : Bool). low chapter && others) (low_all chapters)

-- the tests one after the other
module _ (clauses : ℕ) (chapters : List ℕ) (room : ℕ) where
  pub fit_by : chapter_count ≤ room → clauses ≤ length chapters → list_all low (take clauses chapters) ≡ chapters_fit clauses chapters room
  unfolding chapters_fit
  fit_by roomy enough = rw (le-leb clauses (length chapters) enough, le-leb chapter_count room roomy, and-true) (low_all (take clauses chapters))

  pub few_unfit : (chapter_count ≤ room → length chapters < clauses) → false ≡ chapters_fit clauses chapters room
  few_unfit few = sym (refuted (chapters_fit clauses chapters room) (λ e. let f = true_fit clauses chapters room e in omega (arith, f.roomy, f.enough, few f.roomy)))
