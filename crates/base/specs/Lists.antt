-- Functions on lists that the definitions of the other crates use, and when two lists have the same elements.
use Rattle.std.specs.Prelude.{ℕ, zero, suc, ◌+◌, Bool, true, false, cond, not, ◌&&◌, ◌||◌, List, [], ◌∷◌, ◌++◌, eqb, length, take, drop}

module _ {A : Type 0} where
  -- the test holds of every element
  unfoldable pub all : (A → Bool) → List A → Bool
  all p [] = true
  all p (x ∷ xs) = p x && all p xs

  -- the test holds of some element
  unfoldable pub any : (A → Bool) → List A → Bool
  any p [] = false
  any p (x ∷ xs) = p x || any p xs

  -- the elements of which the test holds, in their order
  unfoldable pub keep : (A → Bool) → List A → List A
  keep p [] = []
  keep p (x ∷ xs) = cond (p x) (x ∷ keep p xs) (keep p xs)

  -- the lists one after the other
  unfoldable pub flat : List (List A) → List A
  flat [] = []
  flat (xs ∷ xss) = xs ++ flat xss

  unfoldable pub empty : List A → Bool
  empty [] = true
  empty (x ∷ xs) = false

module _ {A : Type 0} where
  -- what each three elements make, three by three; one or two left over make nothing
  unfoldable pub by_three : {B : Type 0} → (A → A → A → B) → List A → List B
  by_three make [] = []
  by_three make (x ∷ []) = []
  by_three make (x ∷ y ∷ []) = []
  by_three make (x ∷ y ∷ z ∷ xs) = make x y z ∷ by_three make xs

  -- none is left over, and the test holds of each three
  unfoldable pub all_threes : (A → A → A → Bool) → List A → Bool
  all_threes test [] = true
  all_threes test (x ∷ []) = false
  all_threes test (x ∷ y ∷ []) = false
  all_threes test (x ∷ y ∷ z ∷ xs) = test x y z && all_threes test xs

-- the number stands in the list
unfoldable pub member : ℕ → List ℕ → Bool
member x [] = false
member x (y ∷ ys) = eqb x y || member x ys

-- no number stands twice in the list
unfoldable pub distinct : List ℕ → Bool
distinct [] = true
distinct (x ∷ xs) = not (member x xs) && distinct xs

-- the two lists are the same
unfoldable pub same : List ℕ → List ℕ → Bool
same [] [] = true
same [] (y ∷ ys) = false
same (x ∷ xs) [] = false
same (x ∷ xs) (y ∷ ys) = eqb x y && same xs ys

-- the first number is b
unfoldable pub begins : ℕ → List ℕ → Bool
begins b [] = false
begins b (x ∷ xs) = eqb x b

-- how often the number stands in the list
unfoldable pub times : ℕ → List ℕ → ℕ
times x [] = 0
times x (y ∷ ys) = cond (eqb x y) (suc (times x ys)) (times x ys)

-- the list without the number
unfoldable pub without : ℕ → List ℕ → List ℕ
without x ys = keep (λ (y : ℕ). not (eqb y x)) ys

-- each number of the list once, at its first place
unfoldable pub firsts : List ℕ → List ℕ
firsts [] = []
firsts (x ∷ xs) = x ∷ without x (firsts xs)

-- the longest front part in which the test holds of no number
unfoldable pub until : (ℕ → Bool) → List ℕ → List ℕ
until stop [] = []
until stop (x ∷ xs) = cond (stop x) [] (x ∷ until stop xs)

-- the values of a function at 0, 1, …, n − 1
unfoldable pub table : {A : Type 0} → ℕ → (ℕ → A) → List A
table zero f = []
table (suc n) f = f zero ∷ table n (λ (i : ℕ). f (suc i))

-- the test holds of every number below n
unfoldable pub up_to : ℕ → (ℕ → Bool) → Bool
up_to zero test = true
up_to (suc n) test = up_to n test && test n

unfoldable pub sum : List ℕ → ℕ
sum [] = 0
sum (x ∷ xs) = x + sum xs

-- what fits is copied to the front, and what lies behind stays
unfoldable pub copied : {A : Type 0} → List A → List A → List A
copied source buffer = take (length buffer) source ++ drop (length source) buffer

-- the same elements, in any order
pub data Reordered {A : Type 0} : List A → List A → Type 0 where
  unmoved : {xs : List A} → Reordered xs xs
  swapped : {x y : A} {xs : List A} → Reordered (x ∷ y ∷ xs) (y ∷ x ∷ xs)
  behind : {x : A} {xs ys : List A} → Reordered xs ys → Reordered (x ∷ xs) (x ∷ ys)
  further : {xs ys zs : List A} → Reordered xs ys → Reordered ys zs → Reordered xs zs
