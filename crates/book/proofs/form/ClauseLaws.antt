-- The steps in which the literals of a clause are looked through with marks.
use Prim.Native.Nat.{ℕ, suc, ◌+◌, ◌*◌, ◌/◌, ◌≤◌, ◌<◌}
use mathlib.Core.Bool.{true, false, not, false≢true}
use mathlib.Core.List.{List, [], ◌++◌, map, map-append}
use mathlib.Core.Path.{◌≡◌, refl, sym, ◌∙◌}
use native.Mathlib.Omega.{arith}
use native.Mathlib.Numerals.{add-one}
use lib.Dec.{eqb}
use lib.ListN.{length, get_or, set, take, drop, take-append-drop}
use lib.Seq.{take-suc, take_all}
use Rattle.base.specs.Lists.{all, member, distinct}
use Rattle.base.proofs.Bools.{and_parts, refuted}
use Rattle.base.proofs.Lists.{all_more}
use Rattle.base.proofs.Members.{distinct_more, distinct_front}
use Rattle.book.specs.Formula.{variable_of, literal_within, sound_clause, max_clause}
use Rattle.book.specs.Inner.Marks.{Marked, variable_marks}
use Rattle.book.proofs.SoundLaws.{literal_parts, literal_whole, clause_parts, clause_whole, clause_literal}
use Rattle.book.proofs.marks.Laws.{marked_test, marked_more, seen_more}

module _ (variables : ℕ) (clause : List ℕ) where
  pub refuse_long : max_clause < length clause → sound_clause variables clause ≡ false
  refuse_long h = refuted _ (λ e. omega (arith, clause_parts variables clause e))

  pub refuse_outside : (i : ℕ) → i < length clause → (2 ≤ get_or clause i 0 → get_or clause i 0 ≤ 2 * variables + 1 → ⊥)
      → sound_clause variables clause ≡ false
  refuse_outside i h outside =
      refuted _ (λ e. let p = literal_parts _ _ (clause_literal variables clause (clause_parts variables clause e) i h) in outside p.0 p.1)

-- The first i literals are passed: they are within the variables, no variable stands twice, and the marks bear the variables seen.
pub record Passed (variables tag : ℕ) (clause marks : List ℕ) (i : ℕ) : Type 0 where
  pub bound : i ≤ length clause
  pub within : all (literal_within variables) (take i clause) ≡ true
  pub once : distinct (map variable_of (take i clause)) ≡ true
  pub marked : Marked marks tag (map variable_of (take i clause))

pub passed_none : (variables tag : ℕ) (clause marks : List ℕ) → Marked marks tag [] → Passed variables tag clause marks 0
unfolding all distinct
passed_none variables tag clause marks m = record { bound = omega arith; within = refl; once = refl; marked = m }

pub passed_all : (variables tag : ℕ) (clause marks : List ℕ) (i : ℕ) → Passed variables tag clause marks i → length clause ≤ i
    → length clause ≤ max_clause → sound_clause variables clause ≡ true
passed_all variables tag clause marks i p end few =
    let whole : take i clause ≡ clause = take_all i clause end in
    clause_whole variables clause (record { short = few; within = rw whole at p.within; once = rw whole at p.once })

-- the next literal, l
module _ (variables tag : ℕ) (clause marks : List ℕ) (i l : ℕ) (p : Passed variables tag clause marks i) (h : i < length clause)
    (next : l ≡ get_or clause i 0) (small : l / 2 < variable_marks)
  where
    bears-seen : eqb (get_or marks (l / 2) 0) tag ≡ member (l / 2) (map variable_of (take i clause))
    bears-seen = marked_test marks tag (map variable_of (take i clause)) (l / 2) small p.marked

    -- a variable that bears the tag stands twice in the clause
    pub refuse_repeated : eqb (get_or marks (l / 2) 0) tag ≡ true → sound_clause variables clause ≡ false
    refuse_repeated bears = refuted _ λ e. false≢true (rw (sym bears-seen ∙ bears) at (new e))
      where
        new : sound_clause variables clause ≡ true → not (member (l / 2) (map variable_of (take i clause))) ≡ true
        new e =
            let whole : distinct (map variable_of (take (suc i) clause ++ drop (suc i) clause)) ≡ true =
            rw take-append-drop (clause_parts variables clause e).once in
            let front : distinct (map variable_of (take (suc i) clause)) ≡ true =
            distinct_front _ (map variable_of (drop (suc i) clause)) (rw map-append at whole) in
            (and_parts (distinct (map variable_of (take i clause))) _ (rw (seen_more clause i l h next, distinct_more) at front)).1

    -- a literal within the variables, and whose variable does not bear the tag, is passed
    pub passed_more : 2 ≤ l → l ≤ 2 * variables + 1 → eqb (get_or marks (l / 2) 0) tag ≡ false
        → Passed variables tag clause (set marks (l / 2) tag) (i + 1)
    passed_more low high fresh =
        let new : member (l / 2) (map variable_of (take i clause)) ≡ false = sym bears-seen ∙ fresh in
        rw add-one
        (record {
          bound = h;
          within = rw (take-suc clause i 0 h, all_more, ← next, p.within) (literal_whole variables l low high);
          once = rw (seen_more clause i l h next, distinct_more, p.once, new);
          marked = rw (seen_more clause i l h next) (marked_more marks tag (map variable_of (take i clause)) (l / 2) small p.marked);
        })
