-- Laws of `table`, the values of a function at 0, 1, …, n − 1, and of a part of a list that is a table.
use Prim.Native.Nat.{ℕ, zero, suc, ◌+◌, ◌≤◌, ◌<◌}
use native.Mathlib.Nat.{le_of_suc-le-suc}
use native.Mathlib.Omega.{arith}
use mathlib.Core.List.{List, ◌++◌}
use mathlib.Core.Path.{◌≡◌, refl, sym, ap, ap₂, ◌∙◌}
use lib.ListN.{length, get_or, take, drop, length-append, length-drop}
use lib.Seq.{length-take-le, take_at, drop_at, get_or-take, get_or-drop, drop-drop, take-add, ext_get_or}
use Rattle.base.specs.Lists.{table}

pub length-table : {A : Type 0} (n : ℕ) (f : ℕ → A) → length (table n f) ≡ n
unfolding table
length-table zero f = refl
length-table (suc n) f = ap suc (length-table n (λ (i : ℕ). f (suc i)))

pub get_or-table : {A : Type 0} (n : ℕ) (f : ℕ → A) (i : ℕ) (d : A) → i < n → get_or (table n f) i d ≡ f i
unfolding table
get_or-table zero f i d h = absurd (omega arith)
get_or-table (suc n) f zero d h = refl
get_or-table (suc n) f (suc i) d h = get_or-table n (λ (j : ℕ). f (suc j)) i d (le_of_suc-le-suc h)

-- the length of a table before a list
pub length-table-append : (n : ℕ) (f : ℕ → ℕ) (rest : List ℕ) (m : ℕ) → length rest ≡ m → length (table n f ++ rest) ≡ n + m
length-table-append n f rest m e = length-append (table n f) rest ∙ ap₂ ◌+◌ (length-table n f) e

-- a part of a list is another list where each of its numbers is
module _ (numbers : List ℕ) (base n : ℕ) (long : base + n ≤ length numbers) where
  length_part : length (take n (drop base numbers)) ≡ n
  length_part = length-take-le n (drop base numbers) (rw length-drop (omega arith))

  get_or_part : (i : ℕ) → i < n → get_or (take n (drop base numbers)) i 0 ≡ get_or numbers (base + i) 0
  get_or_part i h = get_or-take n (drop base numbers) i 0 h ∙ get_or-drop base numbers i 0

  pub part_list : (list : List ℕ) → length list ≡ n → ((i : ℕ) → i < n → get_or numbers (base + i) 0 ≡ get_or list i 0)
      → take n (drop base numbers) ≡ list
  part_list list same at =
      ext_get_or 0 (take n (drop base numbers)) list (length_part ∙ sym same)
      (λ i h. let k : i < n = omega (arith, length_part) in get_or_part i k ∙ at i k)

  -- it is a table exactly if each number is the function's value
  pub part_table : (f : ℕ → ℕ) → ((i : ℕ) → i < n → get_or numbers (base + i) 0 ≡ f i) → take n (drop base numbers) ≡ table n f
  part_table f at = part_list (table n f) (length-table n f) (λ i h. at i h ∙ sym (get_or-table n f i 0 h))

  pub table_part : (f : ℕ → ℕ) → take n (drop base numbers) ≡ table n f → (i : ℕ) → i < n → get_or numbers (base + i) 0 ≡ f i
  table_part f e i h = sym (get_or_part i h) ∙ ap (λ (l : List ℕ). get_or l i 0) e ∙ get_or-table n f i 0 h

-- the same for a table and what lies behind it: k numbers from `base` on, of which the first n are the table's and the m from `next` on the rest
module _ (numbers : List ℕ) (base n m k next : ℕ) (f : ℕ → ℕ) (rest : List ℕ)
    (count : k ≡ n + m) (seam : next ≡ base + n) (long : base + k ≤ length numbers) where
  halves : take k (drop base numbers) ≡ take n (drop base numbers) ++ take m (drop next numbers)
  halves = rw (count, seam, take-add n m (drop base numbers), drop-drop n base numbers)

  front : base + n ≤ length numbers
  front = omega arith

  pub table_joined : ((i : ℕ) → i < n → get_or numbers (base + i) 0 ≡ f i) → take m (drop next numbers) ≡ rest
      → take k (drop base numbers) ≡ table n f ++ rest
  table_joined at e = halves ∙ ap₂ ◌++◌ (part_table numbers base n front f at) e

  pub table_split : take k (drop base numbers) ≡ table n f ++ rest
      → ((i : ℕ) → i < n → get_or numbers (base + i) 0 ≡ f i) × (take m (drop next numbers) ≡ rest)
  table_split e =
      let same : take n (drop base numbers) ++ take m (drop next numbers) ≡ table n f ++ rest = sym halves ∙ e in
      let part : length (take n (drop base numbers)) ≡ n = length_part numbers base n front in (
        table_part numbers base n front f
            (sym (take_at (take n (drop base numbers)) (take m (drop next numbers)) n part)
            ∙ ap (take n) same
            ∙ take_at (table n f) rest n (length-table n f)),
        sym (drop_at (take n (drop base numbers)) (take m (drop next numbers)) n part)
            ∙ ap (drop n) same
            ∙ drop_at (table n f) rest n (length-table n f),
      )
