-- Bytes and their nibbles: joined, counted, taken apart and put together again, and the nibbles of a field's last byte.
use Prim.Native.Nat.{ℕ, zero, suc, ◌+◌, ◌*◌, ◌-◌, ◌/◌, ◌%◌, ◌≤◌}
use mathlib.Core.Bool.{Bool, true, ◌&&◌}
use mathlib.Core.Path.{◌≡◌, refl, sym, ap, ap₂, ◌∙◌}
use mathlib.Core.List.{List, [], ◌∷◌, ◌++◌, append_assoc}
use native.Mathlib.Omega.{arith}
use borrow.Author.Tests.{leb-true}
use lib.Dec.{leb}
use lib.ListN.{length, get_or, take, set, length-append}
use lib.Seq.{take-suc, take-length, take_at, get_or_at, set_at, length-take-le}
use Rattle.base.specs.Lists.{all}
use Rattle.base.proofs.Bools.{and_parts}
use Rattle.packed.specs.Packed.{nibbles_of, bytes_of, digits_in, digits_of, sign_in}
use Rattle.packed.specs.Statement.{last_byte}

pub nibbles_append : (xs ys : List ℕ) → nibbles_of (xs ++ ys) ≡ nibbles_of xs ++ nibbles_of ys
unfolding nibbles_of
nibbles_append [] ys = refl
nibbles_append (x ∷ xs) ys = ap (λ (l : List ℕ). x / 16 ∷ x % 16 ∷ l) (nibbles_append xs ys)

pub length_nibbles : (xs : List ℕ) → length (nibbles_of xs) ≡ 2 * length xs
unfolding nibbles_of
length_nibbles [] = refl
length_nibbles (x ∷ xs) = omega (arith, length_nibbles xs)

pub bytes_of_nibbles : (xs : List ℕ) → bytes_of (nibbles_of xs) ≡ xs
unfolding nibbles_of bytes_of
bytes_of_nibbles [] = refl
bytes_of_nibbles (x ∷ xs) = let whole : 16 * (x / 16) + x % 16 ≡ x = omega arith in ap₂ (λ (y : ℕ) (l : List ℕ). y ∷ l) whole (bytes_of_nibbles xs)

-- a nibble
abbrev pub small : ℕ → Bool
small nibble = leb nibble 15

pub nibbles_of_bytes : (k : ℕ) (ns : List ℕ) → length ns ≡ 2 * k → all small ns ≡ true → nibbles_of (bytes_of ns) ≡ ns
unfolding nibbles_of bytes_of all
nibbles_of_bytes k [] e s = refl
nibbles_of_bytes k (high ∷ []) e s = absurd (omega arith)
nibbles_of_bytes zero (high ∷ low ∷ ns) e s = absurd (omega arith)
nibbles_of_bytes (suc k) (high ∷ low ∷ ns) e s =
    let behind = (and_parts (small high) (small low && all small ns) s).1 in
    let h : low ≤ 15 = leb-true low 15 (and_parts (small low) (all small ns) behind).0 in
    let upper : (16 * high + low) / 16 ≡ high = omega arith in
    let lower : (16 * high + low) % 16 ≡ low = omega arith in
    rw (upper, lower) (ap (λ (l : List ℕ). high ∷ low ∷ l) (nibbles_of_bytes k ns (omega arith) (and_parts (small low) (all small ns) behind).1))

pub bytes_append : (k : ℕ) (xs ys : List ℕ) → length xs ≡ 2 * k → bytes_of (xs ++ ys) ≡ bytes_of xs ++ bytes_of ys
unfolding bytes_of
bytes_append k [] ys e = refl
bytes_append k (x ∷ []) ys e = absurd (omega arith)
bytes_append zero (x ∷ y ∷ xs) ys e = absurd (omega arith)
bytes_append (suc k) (x ∷ y ∷ xs) ys e = ap (λ (l : List ℕ). (16 * x + y) ∷ l) (bytes_append k xs ys (omega arith))

pub length_bytes : (k : ℕ) (ns : List ℕ) → length ns ≡ 2 * k → length (bytes_of ns) ≡ k
unfolding bytes_of
length_bytes zero [] e = refl
length_bytes (suc k) [] e = absurd (omega arith)
length_bytes k (n ∷ []) e = absurd (omega arith)
length_bytes zero (x ∷ y ∷ ns) e = absurd (omega arith)
length_bytes (suc k) (x ∷ y ∷ ns) e = ap suc (length_bytes k ns (omega arith))

pub length_digits_of : (xs : List ℕ) → length (digits_of xs) ≡ digits_in (length xs)
length_digits_of xs = length-take-le (digits_in (length xs)) (nibbles_of xs) (rw (length_nibbles xs) (omega arith))

-- the nibbles of the byte at a place
pub high_at : (xs : List ℕ) (i : ℕ) → get_or (nibbles_of xs) (2 * i) 0 ≡ get_or xs i 0 / 16
unfolding nibbles_of
high_at [] i = refl
high_at (x ∷ xs) zero = refl
high_at (x ∷ xs) (suc i) = let e : 2 * suc i ≡ suc (suc (2 * i)) = omega arith in rw e (high_at xs i)

pub low_at : (xs : List ℕ) (i : ℕ) → get_or (nibbles_of xs) (2 * i + 1) 0 ≡ get_or xs i 0 % 16
unfolding nibbles_of
low_at [] i = refl
low_at (x ∷ xs) zero = refl
low_at (x ∷ xs) (suc i) = let e : 2 * suc i + 1 ≡ suc (suc (2 * i + 1)) = omega arith in rw e (low_at xs i)

-- the nibbles of all bytes but the last
abbrev pub leading_nibbles : List ℕ → List ℕ
leading_nibbles bytes = nibbles_of (take (length bytes - 1) bytes)

-- the last byte of a field, its digit and its sign
module _ (xs : List ℕ) (h : 1 ≤ length xs) where
  pub last_split : xs ≡ take (length xs - 1) xs ++ (last_byte xs ∷ [])
  last_split =
      let e : length xs ≡ suc (length xs - 1) = omega arith in
      sym (take-length xs) ∙ ap (λ (n : ℕ). take n xs) e ∙ take-suc xs (length xs - 1) 0 (omega arith)

  abbrev last : ℕ
  last = last_byte xs

  length_leading : length (leading_nibbles xs) ≡ 2 * (length xs - 1)
  length_leading = length_nibbles (take (length xs - 1) xs) ∙ ap (λ (n : ℕ). 2 * n) (length-take-le (length xs - 1) xs (omega arith))

  nibbles_split : nibbles_of xs ≡ leading_nibbles xs ++ (last / 16 ∷ last % 16 ∷ [])
  unfolding nibbles_of
  nibbles_split = ap nibbles_of last_split ∙ nibbles_append (take (length xs - 1) xs) (last ∷ [])

  length_front : length (leading_nibbles xs ++ (last / 16 ∷ [])) ≡ digits_in (length xs)
  length_front = rw (length-append (leading_nibbles xs), length_leading) (omega arith)

  two_ends : nibbles_of xs ≡ (leading_nibbles xs ++ (last / 16 ∷ [])) ++ (last % 16 ∷ [])
  two_ends = nibbles_split ∙ sym (append_assoc (leading_nibbles xs) (last / 16 ∷ []) (last % 16 ∷ []))

  pub digits_split : digits_of xs ≡ leading_nibbles xs ++ (last / 16 ∷ [])
  digits_split =
      ap (take (digits_in (length xs))) two_ends
      ∙ take_at (leading_nibbles xs ++ (last / 16 ∷ [])) (last % 16 ∷ []) (digits_in (length xs)) length_front

  pub sign_last : sign_in xs ≡ last % 16
  sign_last =
      ap (λ (l : List ℕ). get_or l (digits_in (length xs)) 0) two_ends
      ∙ get_or_at (leading_nibbles xs ++ (last / 16 ∷ [])) (last % 16) [] 0 (digits_in (length xs)) length_front

  -- another sign behind the digits changes the last byte alone
  pub sign_changed : (sign : ℕ) → bytes_of (digits_of xs ++ (sign ∷ [])) ≡ set xs (length xs - 1) (16 * (last / 16) + sign)
  unfolding bytes_of
  sign_changed sign =
      ap (λ (l : List ℕ). bytes_of (l ++ (sign ∷ []))) digits_split
      ∙ ap bytes_of (append_assoc (leading_nibbles xs) (last / 16 ∷ []) (sign ∷ []))
      ∙ bytes_append (length xs - 1) (leading_nibbles xs) (last / 16 ∷ sign ∷ []) length_leading
      ∙ ap (λ (l : List ℕ). l ++ ((16 * (last / 16) + sign) ∷ [])) (bytes_of_nibbles (take (length xs - 1) xs))
      ∙ sym
      (ap (λ (l : List ℕ). set l (length xs - 1) (16 * (last / 16) + sign)) last_split
      ∙ set_at (take (length xs - 1) xs) last [] (16 * (last / 16) + sign) (length xs - 1) (length-take-le (length xs - 1) xs (omega arith)))
