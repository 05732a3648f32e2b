-- The least of a list of faults: of those at one place the lowest number, then the later places; and the answer that it makes.
use Prim.Native.Nat.{ℕ, suc, ◌≤◌}
use native.Mathlib.Omega.{arith}
use mathlib.Core.Path.{◌≡◌, refl}
use mathlib.Core.Bool.{Bool, true, false, cond, ◌&&◌, ◌||◌, or-true}
use mathlib.Core.List.{List, [], ◌∷◌, ◌++◌, append_assoc}
use mathlib.Core.Option.{Option, none, some}
use lib.Dec.{leb, ltb, eqb}
use borrow.Author.Tests.{ltb-true, lt-ltb, leb-true, le-leb, eq-eqb}
use Rattle.base.specs.Lists.{all}
use Rattle.base.proofs.Lists.{all_both, all_imply}
use Rattle.book.specs.Formula.{Formula}
use Rattle.book.specs.Text.{Piece, Token, token_of}
use Rattle.book.specs.Faults.{Fault, fault, not_number, over_variables, wrong_length, surplus, unfinished, over_literals, faults_at, faults_from}
use Rattle.book.specs.Reading.{before, earlier, least, Judged, refused, accepted, judged}
use Rattle.book.proofs.WordPlaces.{places_rise}

-- a fault that is before all others is the least
pub least_first : (f : Fault) (faults : List Fault) → all (before f) faults ≡ true → least (f ∷ faults) ≡ some f
unfolding least earlier all
least_first f [] h = refl
least_first f (g ∷ faults) h = go (before f g) refl h (least_first f faults)
  where
    with-least : before f g ≡ true → (o : Option Fault) → earlier f o ≡ some f → earlier f (earlier g o) ≡ some f
    with-least e none ih = rw e
    with-least e (some m) ih = choose (before g m)
      where
        choose : (b : Bool) → some (cond (before f (cond b g m)) f (cond b g m)) ≡ some f
        choose true = rw e
        choose false = ih

    go : (b : Bool) → before f g ≡ b → (b && all (before f) faults) ≡ true → (all (before f) faults ≡ true → least (f ∷ faults) ≡ some f)
        → least (f ∷ (g ∷ faults)) ≡ some f
    go true e h ih = with-least e (least faults) (ih h)
    go false e h ih = cc

abbrev pub fault_at : ℕ → ℕ → Fault
fault_at place number = record { place = place; number = number }

pub least_fault : (there : Bool) (p n : ℕ) (faults : List Fault) → all (before (fault_at p n)) faults ≡ true
    → least (fault there p n ++ faults) ≡ cond there (some (fault_at p n)) (least faults)
unfolding fault
least_fault true p n faults h = least_first (fault_at p n) faults h
least_fault false p n faults h = refl

pub all_fault : (q : Fault → Bool) (there : Bool) (p n : ℕ) → q (fault_at p n) ≡ true → all q (fault there p n) ≡ true
unfolding fault all
all_fault q true p n h = rw h
all_fault q false p n h = refl

-- at one place the numbers rise
before_next : (p n m : ℕ) → n ≤ m → before (fault_at p n) (fault_at p m) ≡ true
unfolding before
before_next p n m up = rw (eq-eqb p p refl, le-leb n m up, or-true)

before_weaken : (p n m : ℕ) → n ≤ m → (f : Fault) → before (fault_at p m) f ≡ true → before (fault_at p n) f ≡ true
unfolding before
before_weaken p n m up f h =
    go (ltb p f.place) (eqb p f.place) (leb m f.number) (leb n f.number)
    (λ e. le-leb n f.number (omega (arith, leb-true m f.number e))) h
  where
    go : (a b c d : Bool) → (c ≡ true → d ≡ true) → (a || (b && c)) ≡ true → (a || (b && d)) ≡ true
    go true b c d imply h = refl
    go false true c d imply h = imply h
    go false false c d imply h = h

faults_next : (there : Bool) (p n m : ℕ) → n ≤ m → (faults : List Fault) → all (before (fault_at p m)) faults ≡ true
    → all (before (fault_at p n)) (fault there p m ++ faults) ≡ true
faults_next there p n m up faults h =
    all_both (before (fault_at p n)) (fault there p m) faults (all_fault (before (fault_at p n)) there p m (before_next p n m up))
    (all_imply (before (fault_at p m)) (before (fault_at p n)) (before_weaken p n m up) faults h)

-- a later place comes behind every number
pub later_before : (p n : ℕ) (f : Fault) → ltb p f.place ≡ true → before (fault_at p n) f ≡ true
unfolding before
later_before p n f h = rw h

-- every fault of the words from here on lies behind p
pub words_later : (variables clauses end p : ℕ) (past : List Token) (words : List Piece) → places_rise (suc p) end words ≡ true
    → all (λ (f : Fault). ltb p f.place) (faults_from variables clauses end past words) ≡ true
unfolding faults_from places_rise faults_at
words_later variables clauses end p past [] h = all_fault (λ f. ltb p f.place) (unfinished clauses past) end 8 h
words_later variables clauses end p past (word ∷ words) h =
    go (ltb p word.place) refl h (words_later variables clauses end word.place (token_of word.bytes ∷ past) words)
  where
    later : Fault → Bool
    later f = ltb p f.place

    at_word : (token : Token) → ltb p word.place ≡ true → all later (faults_at variables clauses past word.place token) ≡ true
    at_word token e =
        let one : (there : Bool) (n : ℕ) → all later (fault there word.place n) ≡ true =
        λ there n. all_fault later there word.place n e in
        all_both later _ _ (one _ 4)
        (all_both later _ _ (one _ 5) (all_both later _ _ (one _ 6) (all_both later _ _ (one _ 8) (one _ 9))))

    go : (b : Bool) → ltb p word.place ≡ b → (b && places_rise (suc word.place) end words) ≡ true
        → (places_rise (suc word.place) end words ≡ true
        → all (λ (f : Fault). ltb word.place f.place) (faults_from variables clauses end (token_of word.bytes ∷ past) words)
        ≡ true)
        → all later (faults_at variables clauses past word.place (token_of word.bytes) ++ faults_from variables clauses end
        (token_of word.bytes ∷ past) words) ≡ true
    go true e h ih = all_both later _ _ (at_word (token_of word.bytes) e)
        (all_imply _ later (λ f i. lt-ltb p f.place
        (omega (arith, ltb-true p word.place e, ltb-true word.place f.place i))) _ (ih h))
    go false e h ih = cc

pub judged_cond : (there : Bool) (p n : ℕ) (found : Option Fault) (formula : Formula)
    → judged (cond there (some (fault_at p n)) found) formula ≡ cond there (refused n) (judged found formula)
unfolding judged
judged_cond true p n found formula = refl
judged_cond false p n found formula = refl

-- the lowest number that applies at a word, else the answer behind it
abbrev pub tests : ℕ → ℕ → List Token → Token → Judged → Judged
tests variables clauses past token answer =
    cond (not_number token) (refused 4)
    (cond (over_variables variables token) (refused 5)
    (cond (wrong_length past token) (refused 6)
    (cond (surplus clauses past token) (refused 8)
    (cond (over_literals past token) (refused 9) answer))))

pub at_word : (variables clauses : ℕ) (past : List Token) (p : ℕ) (token : Token) (faults : List Fault) (formula : Formula)
    → all (λ (f : Fault). ltb p f.place) faults ≡ true
    → judged (least (faults_at variables clauses past p token ++ faults)) formula
    ≡ tests variables clauses past token (judged (least faults) formula)
unfolding faults_at
at_word variables clauses past p token faults formula h =
    rw (
      append_assoc,
      append_assoc,
      append_assoc,
      append_assoc,
      least_fault (not_number token) p 4 _ h4,
      least_fault (over_variables variables token) p 5 _ h5,
      least_fault (wrong_length past token) p 6 _ h6,
      least_fault (surplus clauses past token) p 8 _ h8,
      least_fault (over_literals past token) p 9 _ h9,
      judged_cond,
      judged_cond,
      judged_cond,
      judged_cond,
      judged_cond,
    )
  where
    h9 : all (before (fault_at p 9)) faults ≡ true
    h9 = all_imply (λ f. ltb p f.place) (before (fault_at p 9)) (later_before p 9) faults h

    f9 : List Fault
    f9 = fault (over_literals past token) p 9 ++ faults

    h8 : all (before (fault_at p 8)) f9 ≡ true
    h8 = faults_next (over_literals past token) p 8 9 (omega arith) faults h9

    f8 : List Fault
    f8 = fault (surplus clauses past token) p 8 ++ f9

    h6 : all (before (fault_at p 6)) f8 ≡ true
    h6 = faults_next (surplus clauses past token) p 6 8 (omega arith) f9 h8

    f6 : List Fault
    f6 = fault (wrong_length past token) p 6 ++ f8

    h5 : all (before (fault_at p 5)) f6 ≡ true
    h5 = faults_next (wrong_length past token) p 5 6 (omega arith) f8 h6

    h4 : all (before (fault_at p 4)) (fault (over_variables variables token) p 5 ++ f6) ≡ true
    h4 = faults_next (over_variables variables token) p 4 5 (omega arith) f6 h5

pub one_fault : (there : Bool) (p n : ℕ) (formula : Formula)
    → judged (least (fault there p n)) formula ≡ cond there (refused n) (accepted formula)
unfolding judged least earlier fault
one_fault true p n formula = refl
one_fault false p n formula = refl
