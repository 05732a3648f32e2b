-- The totals as the loop over the counts and their chapters meets them.
use Prim.Native.Nat.{ℕ, suc, ◌+◌, ◌*◌, ◌≤◌, ◌<◌}
use mathlib.Core.Path.{◌≡◌, refl, ap, ap₂, sym, ◌∙◌}
use mathlib.Core.Bool.{cond}
use mathlib.Core.List.{List, [], ◌∷◌, ◌++◌}
use mathlib.Core.Logic.{⊎_elim, ◌⊎◌}
use native.Mathlib.Nat.{zero-add}
use native.Mathlib.Omega.{arith}
use borrow.Author.Tests.{eq-eqb, ne_eqb}
use lib.Dec.{eqb}
use lib.ListN.{length, get_or, take, drop, set, replicate, length-append, length-drop, length-set, take-append-drop, get_or-append, length-replicate, get_or-replicate}
use lib.Seq.{length-take-le, drop_at, drop-set-lt, get_or-set_same, get_or-set_other}
use Rattle.base.proofs.Bools.{alike}
use Rattle.base.proofs.Tables.{part_table}
use Rattle.book.specs.Formula.{max_clauses}
use Rattle.run.specs.Run.{max_count}
use Rattle.chapters.specs.Chapters.{max_chapter, chapter_count, chapter_total, chapter_totals}
use Rattle.chapters.proofs.FitLaws.{Fit, Within}

-- What is added so far, and the counts and chapters that are left: the totals of both are those of all, and what lies behind the totals is as it was lent.
pub record Added (counts chapters buffer now left_counts left_chapters : List ℕ) : Type 0 where
  pub length_same : length now ≡ length buffer
  pub roomy : chapter_count ≤ length buffer
  pub behind : drop chapter_count now ≡ drop chapter_count buffer
  pub low : Within left_chapters (length left_counts)
  pub rest : (k : ℕ) → k < chapter_count → get_or now k 0 + chapter_total k left_counts left_chapters ≡ chapter_total k counts chapters
  pub small : (k : ℕ) → k < chapter_count → get_or now k 0 + max_count * length left_counts ≤ max_count * max_clauses

-- cleared totals
pub added_none : (counts chapters buffer front : List ℕ) → Fit (length counts) chapters (length buffer) → length counts ≤ max_clauses
    → front ≡ replicate (length (take chapter_count buffer)) 0 → Added counts chapters buffer (front ++ drop chapter_count buffer) counts chapters
added_none counts chapters buffer front fit few cleared =
    let size : length front ≡ chapter_count = ap length cleared ∙ length-replicate (length (take chapter_count buffer)) 0 ∙ length-take-le chapter_count buffer fit.roomy in
    let zero : (k : ℕ) → k < chapter_count → get_or (front ++ drop chapter_count buffer) k 0 ≡ 0
    = λ k h. get_or-append front (drop chapter_count buffer) 0 k (omega arith)
    ∙ ap (λ (l : List ℕ). get_or l k 0) cleared
    ∙ get_or-replicate (length (take chapter_count buffer)) k 0 0 (omega (arith, length-take-le chapter_count buffer fit.roomy)) in
    record {
      length_same = simp (length-append, length-drop) (omega (arith, fit.roomy));
      roomy = fit.roomy;
      behind = drop_at front (drop chapter_count buffer) chapter_count size;
      low = fit.within;
      rest = λ k h. omega (arith, zero k h);
      small = λ k h. omega (arith, zero k h);
    }

-- what a count adds to the number at place k
stored : (now : List ℕ) (chapter n : ℕ) → chapter < length now → (k : ℕ)
    → (get_or (set now chapter (get_or now chapter 0 + n)) k 0 ≡ get_or now k 0 + cond (eqb chapter k) n 0) × (cond (eqb chapter k) n 0 ≤ n)
stored now chapter n h k =
    ⊎_elim
    (λ e. rw (eq-eqb chapter k (sym e), e, get_or-set_same now chapter (get_or now chapter 0 + n) 0 h) (refl, omega arith))
    (λ m. rw (ne_eqb chapter k (λ e. m (sym e)), get_or-set_other now chapter k (get_or now chapter 0 + n) 0 m) (omega arith, omega arith))
    (alike k chapter)

-- one count and its chapter
module _ {counts chapters buffer now left_counts left_chapters more_counts more_chapters : List ℕ} {count chapter : ℕ}
    (a : Added counts chapters buffer now left_counts left_chapters) (c : left_counts ≡ count ∷ more_counts) (d : left_chapters ≡ chapter ∷ more_chapters) where
  low_chapter : chapter ≤ max_chapter
  low_chapter = rw (c, d) at a.low 0 (omega arith)

  pub in_totals : chapter < length now
  in_totals = omega (arith, a.length_same, a.roomy, low_chapter)

  pub fits_total : count ≤ max_count → get_or now chapter 0 + count ≤ max_count * max_clauses
  fits_total few = let left : length left_counts ≡ suc (length more_counts) = ap length c in omega (arith, a.small chapter (omega (arith, low_chapter)))

  pub added_more : count ≤ max_count → Added counts chapters buffer (set now chapter (get_or now chapter 0 + count)) more_counts more_chapters
  unfolding chapter_total
  added_more few =
      let left : length left_counts ≡ suc (length more_counts) = ap length c in
      record {
        length_same = length-set now chapter (get_or now chapter 0 + count) ∙ a.length_same;
        roomy = a.roomy;
        behind = drop-set-lt chapter_count now chapter (get_or now chapter 0 + count) (omega (arith, low_chapter)) ∙ a.behind;
        low = λ j h. rw d at a.low (suc j) (omega arith);
        rest = λ k h.
            let next : chapter_total k left_counts left_chapters ≡ cond (eqb chapter k) count 0 + chapter_total k more_counts more_chapters = rw (c, d) in
            omega (arith, next, (stored now chapter count in_totals k).0, a.rest k h);
        small = λ k h. omega (arith, stored now chapter count in_totals k, a.small k h);
      }

-- nothing is left
pub added_all : {counts chapters buffer now left_counts left_chapters : List ℕ} → Added counts chapters buffer now left_counts left_chapters
    → (length left_counts ≡ 0) ⊎ (length left_chapters ≡ 0) → now ≡ chapter_totals counts chapters ++ drop chapter_count buffer
unfolding chapter_totals chapter_total
added_all {counts} {chapters} {buffer} {now} {left_counts} {left_chapters} a ended =
    let whole : (k : ℕ) → k < chapter_count → get_or now k 0 ≡ chapter_total k counts chapters = λ k h. omega (arith, nothing k left_counts left_chapters ended, a.rest k h) in
    sym (take-append-drop chapter_count now)
    ∙ ap₂ ◌++◌
    (part_table now 0 chapter_count (omega (arith, a.length_same, a.roomy)) (λ (k : ℕ). chapter_total k counts chapters) (λ k h. rw (zero-add k) (whole k h)))
    a.behind
  where
    nothing : (k : ℕ) (cs ds : List ℕ) → (length cs ≡ 0) ⊎ (length ds ≡ 0) → chapter_total k cs ds ≡ 0
    nothing k [] ds e = refl
    nothing k (count ∷ cs) [] e = refl
    nothing k (count ∷ cs) (chapter ∷ ds) e = absurd (⊎_elim (λ z. omega arith) (λ z. omega arith) e)
