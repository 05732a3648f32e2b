-- The answer to a text is the least of its faults, by place, then by number, and never 7; a text without faults is accepted, and no other.
use Prim.Native.Nat.{ℕ, ◌≤◌, ◌<◌}
use native.Mathlib.Omega.{arith}
use mathlib.Core.Path.{◌≡◌, refl, sym, ap, subst, ◌∙◌}
use mathlib.Core.Logic.{◌⊎◌, inl, inr, ⊎_elim}
use mathlib.Core.Bool.{Bool, true, false, cond, ◌&&◌, ◌||◌, or-true, false≢true, true≢false}
use mathlib.Core.List.{List, [], ◌∷◌, Memᴰ}
use mathlib.Core.Option.{Option, none, some}
use lib.Dec.{leb, ltb, eqb}
use lib.ListN.{length}
use borrow.Author.Tests.{ltb-true, ltb-false, leb-true, leb-false, eqb-true, eqb-false, lt-ltb, le-leb, eq-eqb, le-ltb}
use Rattle.base.specs.Lists.{all}
use Rattle.base.proofs.Bools.{below, and_parts}
use Rattle.base.proofs.Lists.{all_imply, all_both, all_of}
use Rattle.book.specs.Formula.{Formula, literals}
use Rattle.book.specs.Numbers.{numbers_of}
use Rattle.book.specs.Text.{Piece, Token, token_of, lines_of, Header, header, malformed, header_of}
use Rattle.book.specs.Faults.{Fault, fault, unfinished, faults_at, faults_from, outside, body_of, faults_under, faults_of}
use Rattle.book.specs.Reading.{max_text, before, earlier, least, formula_in, read_formula, Judged, refused, accepted, judged, read_text}
use Rattle.book.specs.Answer.{read_answer}
use Rattle.std.specs.Prelude.{Result, Ok, Err}
use Rattle.book.specs.declared.Sizes.{Sizes}
use Rattle.refusals.specs.declared.Refusal.{Refusal}
use Rattle.refusals.specs.Refusals.{number_of, refusals, first_with, refusal_of}
use Rattle.book.proofs.LeastFault.{all_fault, fault_at}
use Rattle.book.proofs.Accepted.{accepted_short}

-- the order of faults, by its parts
before_parts : (a b : Fault) → before a b ≡ true → (a.place < b.place) ⊎ ((a.place ≡ b.place) × (a.number ≤ b.number))
unfolding before
before_parts a b h = go (ltb a.place b.place) refl (eqb a.place b.place) refl (leb a.number b.number) refl h
  where
    go : (l : Bool) → ltb a.place b.place ≡ l → (e : Bool) → eqb a.place b.place ≡ e → (n : Bool)
        → leb a.number b.number ≡ n
        → (l || (e && n)) ≡ true → (a.place < b.place) ⊎ ((a.place ≡ b.place) × (a.number ≤ b.number))
    go true p e q n r h = inl (ltb-true a.place b.place p)
    go false p true q true r h = inr (eqb-true a.place b.place q, leb-true a.number b.number r)
    go false p true q false r h = absurd (false≢true h)
    go false p false q n r h = absurd (false≢true h)

before_place : (a b : Fault) → a.place < b.place → before a b ≡ true
unfolding before
before_place a b h = rw (lt-ltb a.place b.place h)

before_number : (a b : Fault) → a.place ≡ b.place → a.number ≤ b.number → before a b ≡ true
unfolding before
before_number a b e h = rw (eq-eqb a.place b.place e, le-leb a.number b.number h, or-true)

before_same : (a : Fault) → before a a ≡ true
before_same a = before_number a a refl (omega arith)

before_trans : (a b c : Fault) → before a b ≡ true → before b c ≡ true → before a c ≡ true
before_trans a b c h k = go (before_parts a b h) (before_parts b c k)
  where
    go : (a.place < b.place) ⊎ ((a.place ≡ b.place) × (a.number ≤ b.number))
        → (b.place < c.place) ⊎ ((b.place ≡ c.place) × (b.number ≤ c.number))
        → before a c ≡ true
    go (inl p) (inl q) = before_place a c (omega arith)
    go (inl p) (inr q) = before_place a c (omega arith)
    go (inr p) (inl q) = before_place a c (omega arith)
    go (inr p) (inr q) = before_number a c (omega arith) (omega arith)

before_other : (a b : Fault) → before a b ≡ false → before b a ≡ true
unfolding before
before_other a b h = go (ltb a.place b.place) refl (eqb a.place b.place) refl (leb a.number b.number) refl h
  where
    go : (l : Bool) → ltb a.place b.place ≡ l → (e : Bool) → eqb a.place b.place ≡ e → (n : Bool)
        → leb a.number b.number ≡ n
        → (l || (e && n)) ≡ false → before b a ≡ true
    go true p e q n r h = absurd (true≢false h)
    go false p true q true r h = absurd (true≢false h)
    go false p true q false r h =
        before_number b a (sym (eqb-true a.place b.place q)) (omega (arith, leb-false a.number b.number r))
    go false p false q n r h = before_place b a (omega (arith, ltb-false a.place b.place p, eqb-false a.place b.place q))

-- the least fault is one of them, and before every other
pub record Least (faults : List Fault) (f : Fault) : Type 0 where
  pub one_of_them : Memᴰ f faults
  pub before_all : all (before f) faults ≡ true

-- there is none exactly where there is no fault
FoundLeast : List Fault → Option Fault → Type 0
FoundLeast faults none = faults ≡ []
FoundLeast faults (some f) = Least faults f

least_found : (faults : List Fault) → FoundLeast faults (least faults)
unfolding least FoundLeast earlier all
least_found [] = refl
least_found (a ∷ faults) = go (least faults) (least_found faults)
  where
    pick : (m : Fault) → Least faults m → (b : Bool) → before a m ≡ b → Least (a ∷ faults) (cond b a m)
    pick m l true e = record {
      one_of_them = Memᴰ.head refl;
      before_all = rw (before_same a) (all_imply (before m) (before a) (λ g h. before_trans a m g e h) faults l.before_all);
    }
    pick m l false e = record { one_of_them = Memᴰ.tail l.one_of_them; before_all = rw (before_other a m e) l.before_all }

    go : (found : Option Fault) → FoundLeast faults found → FoundLeast (a ∷ faults) (earlier a found)
    go none e = record { one_of_them = Memᴰ.head refl; before_all = rw (e, before_same a) }
    go (some m) l = pick m l (before a m) refl

-- A text of at most 60,000 bytes is refused by the number of its least fault.
pub answer_is_least : (text : List ℕ) (n : ℕ) → length text ≤ max_text → read_text text ≡ refused n
    → (f : Fault) × Least (faults_of (length text) (lines_of text)) f × (f.number ≡ n)
unfolding read_text judged FoundLeast
answer_is_least text n short h =
    go (least (faults_of (length text) (lines_of text))) (least_found (faults_of (length text) (lines_of text)))
    (rw (le-ltb max_text (length text) short) at h)
  where
    go : (found : Option Fault) → FoundLeast (faults_of (length text) (lines_of text)) found
        → judged found (read_formula (formula_in (lines_of text))) ≡ refused n
        → (f : Fault) × Least (faults_of (length text) (lines_of text)) f × (f.number ≡ n)
    go none e h = let z : ◌≡◌ {A = ℕ} 0 1 = cc in absurd (omega arith)
    go (some f) l h = (f, l, cc)

-- A text that is accepted has no fault, and is at most 60,000 bytes long.
pub accepted_no_fault : (text : List ℕ) (formula : Formula) → read_text text ≡ accepted formula
    → faults_of (length text) (lines_of text) ≡ []
unfolding read_text judged FoundLeast
accepted_no_fault text formula h =
    go (least (faults_of (length text) (lines_of text))) (least_found (faults_of (length text) (lines_of text)))
    (rw (accepted_short text formula h) at h)
  where
    go : (found : Option Fault) → FoundLeast (faults_of (length text) (lines_of text)) found
        → judged found (read_formula (formula_in (lines_of text))) ≡ accepted formula
        → faults_of (length text) (lines_of text) ≡ []
    go none e h = e
    go (some f) l h = let z : ◌≡◌ {A = ℕ} 0 1 = cc in absurd (omega arith)

-- A text without faults is accepted, as the formula that it writes, as read.
pub no_fault_accepted : (text : List ℕ) → length text ≤ max_text → faults_of (length text) (lines_of text) ≡ []
    → read_text text ≡ accepted (read_formula (formula_in (lines_of text)))
unfolding read_text least judged
no_fault_accepted text short h = rw (le-ltb max_text (length text) short, h)

-- A longer text is refused by number 1.
pub too_long : (text : List ℕ) → max_text < length text → read_text text ≡ refused 1
unfolding read_text
too_long text h = rw (lt-ltb max_text (length text) h)

-- Each fault has a number of the table up to 9, so a text is refused by no other: not by 7.
in_table : Fault → Bool
in_table f = eqb (number_of (refusal_of f.number)) f.number && leb f.number 9

word_in_table : (variables clauses : ℕ) (past : List Token) (p : ℕ) (token : Token) → all in_table (faults_at variables clauses past p token) ≡ true
unfolding faults_at in_table refusal_of first_with refusals
word_in_table variables clauses past p token =
    let one : (there : Bool) (n : ℕ) → in_table (fault_at p n) ≡ true → all in_table (fault there p n) ≡ true = λ there n h. all_fault in_table there p n h in
    all_both in_table _ _ (one _ 4 refl)
    (all_both in_table _ _ (one _ 5 refl) (all_both in_table _ _ (one _ 6 refl) (all_both in_table _ _ (one _ 8 refl) (one _ 9 refl))))

words_in_table : (variables clauses end : ℕ) (past : List Token) (words : List Piece) → all in_table (faults_from variables clauses end past words) ≡ true
unfolding faults_from in_table refusal_of first_with refusals
words_in_table variables clauses end past [] = all_fault in_table (unfinished clauses past) end 8 refl
words_in_table variables clauses end past (word ∷ words) =
    all_both in_table _ _ (word_in_table variables clauses past word.place (token_of word.bytes))
    (words_in_table variables clauses end (token_of word.bytes ∷ past) words)

under_in_table : (place : ℕ) (head : Header) (end : ℕ) (words : List Piece) → all in_table (faults_under place head end words) ≡ true
unfolding faults_under in_table refusal_of first_with refusals
under_in_table place malformed end words = all_fault in_table true place 2 refl
under_in_table place (header variables clauses) end words =
    all_both in_table _ _ (all_fault in_table (outside variables clauses) place 3 refl) (words_in_table variables clauses end [] words)

faults_in_table : (end : ℕ) (lines : List Piece) → all in_table (faults_of end lines) ≡ true
unfolding faults_of in_table refusal_of first_with refusals
faults_in_table end [] = all_fault in_table true end 2 refl
faults_in_table end (line ∷ lines) = under_in_table line.place (header_of line) end (body_of lines)

-- A text is refused by the number of its refusal, which is up to 9.
pub refused_number : (text : List ℕ) (n : ℕ) → read_text text ≡ refused n → (number_of (refusal_of n) ≡ n) × (n ≤ 9)
unfolding in_table refusal_of first_with refusals
refused_number text n h = ⊎_elim over within (below max_text (length text))
  where
    within : length text ≤ max_text → (number_of (refusal_of n) ≡ n) × (n ≤ 9)
    within k =
        let f = answer_is_least text n k h in
        let b = and_parts _ _ (all_of in_table _ (faults_in_table (length text) (lines_of text)) f.1.one_of_them) in
        subst (λ (m : ℕ). (number_of (refusal_of m) ≡ m) × (m ≤ 9)) f.2 (eqb-true _ _ b.0, leb-true _ _ b.1)

    over : max_text < length text → (number_of (refusal_of n) ≡ n) × (n ≤ 9)
    over k =
        let e : refused 1 ≡ refused n = sym (too_long text k) ∙ h in
        let one : 1 ≡ n = cc in
        subst (λ (m : ℕ). (number_of (refusal_of m) ≡ m) × (m ≤ 9)) one (refl, omega arith)

-- Number 7 is never given.
pub not_refused_7 : (text : List ℕ) → read_text text ≡ refused 7 → ⊥
unfolding refusal_of first_with refusals
not_refused_7 text h = absurd (omega (arith, (refused_number text 7 h).0))

pub never_7 : (text : List ℕ) (room : ℕ) (r : Refusal) → read_answer (read_text text) room ≡ Err r → number_of r ≡ 7 → ⊥
unfolding refusal_of first_with refusals
never_7 text room r a seven = go (read_text text) refl a
  where
    go : (judged : Judged) → read_text text ≡ judged → read_answer judged room ≡ Err r → ⊥
    go (refused n) e a =
        let is : refusal_of n ≡ r = cc in
        let same : n ≡ 7 = sym (refused_number text n e).0 ∙ (ap number_of is ∙ seven) in
        absurd (not_refused_7 text (e ∙ ap refused same))
    go (accepted formula) e a = book (ltb room (length (numbers_of formula))) a
      where
        book : (short : Bool) → cond {A = Result Sizes Refusal} short (Err (refusal_of 10)) (Ok (record { variables = formula.variables; clauses = length formula.clauses; literals = length (literals formula) })) ≡ Err r → ⊥
        book true a = let is : refusal_of 10 ≡ r = cc in absurd (omega (arith, ap number_of is, seven))
        book false a = let z : ◌≡◌ {A = ℕ} 0 1 = cc in absurd (omega arith)
